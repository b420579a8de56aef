use Rattle.std.proofs.Common.{◌≡◌, ◌+◌, drop}
use Rattle.wf_verdict.specs.Frames.{frames_reaching}
use Rattle.wf_verdict.proofs.frames.frames_in.Given as goal

abbrev pub invariant-loop-version : goal.invariant-loop-version
invariant-loop-version l =
    l.frames + frames_reaching l.numbers (drop l.version-index l.gens) ≡ frames_reaching l.numbers l.gens
