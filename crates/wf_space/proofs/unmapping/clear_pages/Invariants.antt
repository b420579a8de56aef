use Rattle.std.proofs.Common.{◌+◌, ◌-◌}
use Rattle.std.specs.List.{range_with_len}
use Rattle.wf_space.specs.Unmapping.{leaves_cleared}
use Rattle.wf_space.proofs.PushLemmas.{ArePushed}
use Rattle.wf_space.proofs.unmapping.clear_pages.Given as goal

abbrev pub invariant-loop-i : goal.invariant-loop-i
invariant-loop-i l = ArePushed (leaves_cleared l.records.limits.frames l.records.views.views) (range_with_len (l.first + l.i) (l.pages - l.i)) (range_with_len l.first l.pages) l.fn.pieces l.pieces
