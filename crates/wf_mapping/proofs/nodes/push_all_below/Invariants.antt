use Rattle.std.proofs.Common.{◌≡◌, ◌++◌, drop}
use Rattle.std.specs.List.{flat_map}
use Rattle.wf_homes.specs.Homes.{nodes_below}
use Rattle.wf_mapping.proofs.nodes.push_all_below.Given as goal

abbrev pub invariant-loop-upper : goal.invariant-loop-upper
invariant-loop-upper l = l.nodes.items ++ flat_map (nodes_below l.reach) (drop l.upper-index l.uppers) ≡ l.fn.nodes.items ++ flat_map (nodes_below l.reach) l.uppers
