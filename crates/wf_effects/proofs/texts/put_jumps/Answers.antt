use Rattle.std.proofs.Common.{◌∙◌}
use Rattle.wf_effects.specs.Texts.{with_jump}
use Rattle.wf_effects.proofs.FrontLemmas.{fold_next}
use Rattle.wf_effects.proofs.texts.put_jumps.Goals as goal

pub loop-jump-preserved : goal.loop-jump-preserved
loop-jump-preserved c = record {
  text = rw c.put_jump.ensures.text (fold_next with_jump c.loop-jump.text c.args.jumps.now c.loop-jump.jump-index _ c.loop-jump-test.true ∙ c.loop-jump.invariant.text);
  numbers = c.put_jump.ensures.numbers ∙ c.loop-jump.invariant.numbers;
}
