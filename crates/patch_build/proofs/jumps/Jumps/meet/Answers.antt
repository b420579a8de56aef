use Rattle.std.proofs.Common.{◌∙◌, ap}
use Rattle.std.specs.List.{list_any}
use Rattle.std.specs.Prelude.{nat_le, nat_lt, ◌&&◌, ◌+◌}
use Rattle.patch_build.specs.Jumps.{overlap}
use Rattle.patch_build.proofs.JumpLemmas.{near_jumps}
use Rattle.patch_build.proofs.jumps.Jumps.meet.Goals as goal

pub returns : goal.returns
returns c =
    c.has_between.ensures
    ∙ ap (λ from. list_any (λ a. nat_le from a && nat_lt a (c.args.at + 8)) c.self.inside.addresses.keys) c.saturating_sub.ensures
    ∙ near_jumps c.self.inside.addresses.keys c.self.inside.jumps.items c.args.at c.self.invariant
    ∙ ap (λ jumps. list_any (λ jump. overlap c.args.at jump.at) jumps) c.self.view_is
