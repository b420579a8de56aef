use Rattle.std.proofs.Common.{◌∙◌, sym}
use Rattle.wf_check.proofs.LineLemmas.{both_next, first_differs, next}
use Rattle.wf_check.proofs.checking.are_same.Goals as goal

pub returns-then-not-is_same : goal.returns-then-not-is_same
returns-then-not-is_same c =
    let here = next c.args.one.now c.loop-line.line-index c.line-item.result c.loop-line-test.true c.line-item.is in (
      (λ e. absurd (cc)),
      (λ e. let same = first_differs c.args.one.now c.args.other.now _ c.loop-line.rest.now c.in-Some.behind.now _ c.line-item.result c.in-Some.first.now here c.in-Some.ensures.cases.0 c.loop-line.invariant.1 e in sym c.if-not-is_same.true ∙ c.is_same.ensures.1 same),
    )

pub loop-line-preserved : goal.loop-line-preserved
loop-line-preserved c =
    let here = next c.args.one.now c.loop-line.line-index c.line-item.result c.loop-line-test.true c.line-item.is in
    both_next c.args.one.now c.args.other.now _ c.loop-line.rest.now c.in-Some.behind.now _ c.line-item.result c.in-Some.first.now here c.in-Some.ensures.cases.0 (c.is_same.ensures.0 c.if-not-is_same.false) c.loop-line.invariant
