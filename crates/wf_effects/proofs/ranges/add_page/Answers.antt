use Rattle.std.proofs.Common.{◌≡◌, ◌-◌, ◌++◌, ◌∷◌, [], ◌∙◌, true, false, get_or, ap, sym, arith}
use Rattle.wf_effects.specs.declared.ranges.PageRun.{PageRun}
use Rattle.wf_effects.specs.Ranges.{continues, longer}
use Rattle.wf_effects.proofs.RunLemmas.{behind_joined, behind_apart, behind_none}
use Rattle.wf_effects.proofs.ranges.add_page.Goals.{else-len-gt0-via-then-len-gt0+else-continues, else-len-gt0-via-else-len-gt0}
use Rattle.wf_effects.proofs.ranges.add_page.Goals as goal

pub returns-then-continues : goal.returns-then-continues
returns-then-continues c =
    let right : continues (get_or c.args.runs.now.items (c.len-len.result - 1) c.index.result.now) c.args.page.now ≡ true = rw (← c.index.ensures) (sym c.continues.ensures.right ∙ c.if-continues.true) in
    behind_joined c.args.runs.now.items c.args.page.now (c.len-len.result - 1) c.index.result.now c.index_mut.result.now c.lengthen.new.run (omega arith) right (c.lengthen.ensures ∙ ap longer c.index_mut.ensures.value)

pub returns : goal.returns
returns c =
    c.in_ok-push.ensures.items ∙ ap (λ (run : PageRun). c.args.runs.now.items ++ run ∷ []) c.run_of.ensures ∙ elim c.else-len-gt0.branch [
      | else-len-gt0-via-then-len-gt0+else-continues w ↦ (
          let right : continues (get_or c.args.runs.now.items (c.len-len.result - 1) w.index.result.now) c.args.page.now ≡ false = rw (← w.index.ensures) (sym w.continues.ensures.right ∙ w.if-continues.false) in
          behind_apart c.args.runs.now.items c.args.page.now (c.len-len.result - 1) w.index.result.now (omega arith) right
          )
      | else-len-gt0-via-else-len-gt0 w ↦ behind_none c.args.runs.now.items c.args.page.now (omega arith)
    ]
