use Rattle.std.proofs.Common.{◌≡◌, ◌++◌, drop}
use Rattle.wf_mapping.specs.Nodes.{missing_from}
use Rattle.wf_mapping.proofs.nodes.missing_nodes.Given as goal

abbrev pub invariant-loop-i : goal.invariant-loop-i
invariant-loop-i l = l.missing.items ++ missing_from l.nodes (drop l.i l.records.views.views) ≡ missing_from l.nodes l.records.views.views
