use Rattle.std.proofs.Common.{◌≡◌, ◌++◌, drop, map, None}
use Rattle.wf_homes.specs.Homes.{NodeOf}
use Rattle.wf_tables.specs.Nodes.{walked}
use Rattle.wf_tables.specs.Values.{tenant_value}
use Rattle.wf_tables.proofs.tenants.push_walked.Given as goal

abbrev pub invariant-loop-place : goal.invariant-loop-place
invariant-loop-place l =
    map tenant_value l.out.items ++ map (λ node. NodeOf l.generation node.0 node.1) (walked l.last (drop l.place-index l.reach))
    ≡ map tenant_value l.fn.out.items ++ map (λ node. NodeOf l.generation node.0 node.1) (walked None l.reach)
