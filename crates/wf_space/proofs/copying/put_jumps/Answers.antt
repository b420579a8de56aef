use Rattle.std.proofs.Common.{◌∙◌}
use Rattle.wf_space.proofs.CopyLemmas.{jump_more}
use Rattle.wf_space.proofs.copying.put_jumps.Goals as goal

pub loop-jump-preserved : goal.loop-jump-preserved
loop-jump-preserved c = record {
  same = c.put_jump.ensures.frames ∙ c.loop-jump.invariant.same;
  made = jump_more c.args.words.now c.loop-jump.words c.put_jump.new.words c.args.frame c.args.page c.loop-jump.jump-index c.args.jumps.now _ c.loop-jump-test.true c.loop-jump.invariant.made c.put_jump.ensures.made;
}
