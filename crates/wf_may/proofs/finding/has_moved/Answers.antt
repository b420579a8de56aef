use Rattle.std.proofs.Common.{◌∙◌, ◌==◌, rules, tests}
use Rattle.std.proofs.lemmas.Iterator.{YieldsList-from_slice}
use Rattle.std.proofs.lemmas.Iterator.Search.{any_from_yields_List}
use Rattle.wf_may.proofs.MovedLemmas.{any_found}
use Rattle.wf_may.proofs.finding.has_moved.Goals as goal

pub returns : goal.returns
returns c =
    let moved = c.args.hart.now.moved in
    any_from_yields_List (λ m. m == c.args.number) _ _ _ c.any.ensures.ran (YieldsList-from_slice moved cc) (λ x b q k. search (rules, tests))
    ∙ any_found c.args.number moved
