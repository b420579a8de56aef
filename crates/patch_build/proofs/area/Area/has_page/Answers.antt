use Rattle.std.proofs.Common.{rules, ◌≡◌, false, arith, ◌∙◌}
use Rattle.std.proofs.lemmas.Bool.Decides.{nat_tests}
use Rattle.std.specs.Prelude.{nat_lt}
use Rattle.wf_outside.specs.declared.sizes.TheConstants.{DATA_END}
use Rattle.patch_build.proofs.AreaLemmas.{none_high}
use Rattle.patch_build.proofs.area.Area.has_page.Goals as goal

pub returns-else-at-lt-DATA_END-clause-value : goal.returns-else-at-lt-DATA_END-clause-value
returns-else-at-lt-DATA_END-clause-value c =
    let high : nat_lt c.args.at DATA_END ≡ false = grind (arith, nat_tests) in
    high ∙ none_high c.args.self.now.text c.args.self.now.next c.args.at (search rules) (search rules) (omega arith)
