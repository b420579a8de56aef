use Rattle.std.proofs.Common.{◌≡◌, ◌++◌, ◌/◌, ◌==◌, ℕ, drop, map}
use Rattle.std.specs.List.{filter}
use Rattle.wf_homes.specs.Homes.{nodes_below}
use Rattle.wf_mapping.proofs.nodes.push_below.Given as goal

abbrev pub invariant-loop-place : goal.invariant-loop-place
invariant-loop-place l =
    l.nodes.items ++ map (λ (place : ℕ). (0, place)) (filter (λ place. place / 512 == l.upper) (drop l.place-index l.reach)) ≡ l.fn.nodes.items ++ nodes_below l.reach l.upper
