use Rattle.std.proofs.Common.{◌≡◌, drop}
use Rattle.wf_text.specs.Lines.{unspaced}
use Rattle.wf_text.proofs.lines.without_spaces.Given as goal

abbrev pub invariant-loop-place : goal.invariant-loop-place
invariant-loop-place l = unspaced (drop l.place l.bytes) ≡ unspaced l.bytes
