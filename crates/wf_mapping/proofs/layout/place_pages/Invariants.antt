use Rattle.std.proofs.Common.{◌≡◌, ◌++◌, ◌+◌, drop}
use Rattle.wf_mapping.specs.Layout.{pages_placed}
use Rattle.wf_mapping.proofs.layout.place_pages.Given as goal

abbrev pub invariant-loop-i : goal.invariant-loop-i
invariant-loop-i l = l.pages.items ++ pages_placed l.write (l.first + l.i) (drop l.i l.frames) ≡ pages_placed l.write l.first l.frames
