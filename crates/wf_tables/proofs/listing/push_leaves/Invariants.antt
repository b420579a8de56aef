use Rattle.std.proofs.Common.{◌≡◌, ◌++◌}
use Rattle.wf_homes.specs.Homes.{Homes}
use Rattle.wf_tables.specs.Index.{IsIndex}
use Rattle.wf_tables.specs.Parts.{leaves_listed}
use Rattle.wf_tables.proofs.listing.push_leaves.Given as goal

abbrev pub invariant-loop-i : goal.invariant-loop-i
invariant-loop-i l =
    (homes : Homes) → IsIndex l.index homes.homes → l.out.items ≡ l.fn.out.items ++ leaves_listed homes l.flat l.node.generation l.node.prefix l.node.frame l.i
