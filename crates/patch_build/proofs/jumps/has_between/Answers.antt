use Rattle.std.proofs.Common.{◌≡◌, ◌∙◌, arith, rules, false}
use Rattle.std.proofs.lemmas.Bool.Decides.{nat_tests}
use Rattle.std.specs.Prelude.{nat_lt}
use Rattle.patch_build.proofs.JumpLemmas.{range_told, none_between}
use Rattle.patch_build.proofs.jumps.has_between.Goals as goal

pub returns-then-from-to : goal.returns-then-from-to
returns-then-from-to c =
    c.is_some.ensures
    ∙ range_told (λ x. x.now) c.args.addresses.now.keys c.range.result c.next.new.self c.args.from c.args.to c.next.result (search rules) c.next.ensures.steps

pub returns-else-from-to : goal.returns-else-from-to
returns-else-from-to c =
    let none : nat_lt c.args.from c.args.to ≡ false = grind (arith, nat_tests) in
    none ∙ none_between c.args.addresses.now.keys c.args.from c.args.to (omega arith)
