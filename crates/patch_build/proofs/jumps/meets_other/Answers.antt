use Rattle.std.proofs.Common.{◌∙◌, ap, sym, ◌||◌, ◌&&◌, ◌+◌}
use Rattle.std.specs.List.{list_any}
use Rattle.std.specs.Prelude.{nat_le, nat_lt}
use Rattle.patch_build.proofs.JumpLemmas.{either_side}
use Rattle.patch_build.proofs.jumps.meets_other.Goals as goal

pub returns-then-has_between : goal.returns-then-has_between
returns-then-has_between c =
    let xs = c.args.addresses.now.keys in
    let here = c.has_between.ensures ∙ ap (λ from. list_any (λ a. nat_le from a && nat_lt a c.args.at) xs) c.saturating_sub.ensures in
    c.if-has_between.true
    ∙ ap (λ b. b || list_any (λ a. nat_le (c.args.at + 1) a && nat_lt a (c.args.at + 8)) xs) (sym c.if-has_between.true ∙ here)
    ∙ either_side xs c.args.at

pub returns-else-has_between : goal.returns-else-has_between
returns-else-has_between c =
    let xs = c.args.addresses.now.keys in
    let here = c.has_between.ensures ∙ ap (λ from. list_any (λ a. nat_le from a && nat_lt a c.args.at) xs) c.saturating_sub.ensures in
    c.has_between-else-has_between.ensures
    ∙ ap (λ b. b || list_any (λ a. nat_le (c.args.at + 1) a && nat_lt a (c.args.at + 8)) xs) (sym c.if-has_between.false ∙ here)
    ∙ either_side xs c.args.at
