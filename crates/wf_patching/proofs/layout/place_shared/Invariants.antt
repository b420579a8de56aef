use Rattle.std.proofs.Common.{◌≡◌, ◌++◌, drop}
use Rattle.wf_patching.specs.Layout.{shared_placed}
use Rattle.wf_patching.proofs.layout.place_shared.Given as goal

abbrev pub invariant-loop-i : goal.invariant-loop-i
invariant-loop-i l = l.placed.items ++ shared_placed (drop l.i l.pages) (drop l.i l.frames) ≡ shared_placed l.pages l.frames
