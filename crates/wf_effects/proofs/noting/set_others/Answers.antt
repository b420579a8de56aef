use Rattle.std.proofs.Common.{◌∙◌, arith}
use Rattle.std.proofs.lemmas.List.{get_or-set_other}
use Rattle.wf_effects.specs.Effects.{all_noted}
use Rattle.wf_effects.proofs.FrontLemmas.{others_kept, others_all}
use Rattle.wf_effects.proofs.NotingLemmas.{noted_next}
use Rattle.wf_effects.proofs.noting.set_others.Goals.{then-i-but, else-i-but}
use Rattle.wf_effects.proofs.noting.set_others.Goals as goal

pub loop-i-preserved : goal.loop-i-preserved
loop-i-preserved c = record {
  kept = λ k d le. elim c.if-i-but.branch [
    | then-i-but w ↦ (rw w.all-is (get_or-set_other c.loop-i.all c.loop-i.i k _ d (λ e. omega arith) ∙ c.loop-i.invariant.kept k d (omega arith)))
    | else-i-but w ↦ (rw w.all-is (c.loop-i.invariant.kept k d (omega arith)))
  ];
  moved = λ pages e. elim c.if-i-but.branch [
    | then-i-but w ↦ (rw w.harts-is (noted_next pages c.args.but c.loop-i.i c.args.harts.now c.loop-i.harts c.args.all.now c.loop-i.all w.index-harts-i.result w.set_moved.new.hart w.index-all-i.result
        (omega arith) w.if-i-but.true (c.loop-i.invariant.moved pages e) e (c.loop-i.invariant.kept c.loop-i.i w.index-all-i.result (omega arith)) w.set_moved.ensures))
    | else-i-but w ↦ (rw w.harts-is (c.loop-i.invariant.moved pages e ∙ others_kept (all_noted pages) c.args.but c.loop-i.i c.args.harts.now (omega arith)))
  ];
}

pub returns : goal.returns
returns c pages e = c.loop-i.invariant.moved pages e ∙ others_all (all_noted pages) c.args.but c.loop-i.i c.args.harts.now (omega arith)
