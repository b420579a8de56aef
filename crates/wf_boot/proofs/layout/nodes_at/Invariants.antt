use Rattle.std.proofs.Common.{◌≡◌, ◌++◌, ◌+◌, drop}
use Rattle.wf_start.specs.Layout.{nodes_from}
use Rattle.wf_boot.proofs.layout.nodes_at.Given as goal

abbrev pub invariant-loop-i : goal.invariant-loop-i
invariant-loop-i l = l.made.items ++ nodes_from (l.first + l.i) (drop l.i l.nodes) ≡ nodes_from l.first l.nodes
