use Rattle.std.proofs.Common.{◌≡◌, take}
use Rattle.wf_space.specs.Pieces.{Rewrites, jumps_put}
use Rattle.wf_space.proofs.copying.put_jumps.Given as goal

abbrev pub invariant-loop-jump : goal.invariant-loop-jump
invariant-loop-jump l = record {
  same : l.words.frames ≡ l.fn.words.frames;
  made : Rewrites l.fn.words l.words l.frame l.frame (jumps_put l.page (take l.jump-index l.jumps));
}
