use Rattle.std.proofs.Common.{◌≡◌, ◌++◌, drop}
use Rattle.wf_mapping.specs.Nodes.{missing_in}
use Rattle.wf_mapping.proofs.nodes.push_missing.Given as goal

abbrev pub invariant-loop-node : goal.invariant-loop-node
invariant-loop-node l = l.missing.items ++ missing_in (drop l.node-index l.nodes) l.view ≡ l.fn.missing.items ++ missing_in l.nodes l.view
