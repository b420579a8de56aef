use Rattle.std.proofs.Common.{◌≡◌, ◌++◌}
use Rattle.wf_homes.specs.Homes.{Homes}
use Rattle.wf_tables.specs.Index.{IsIndex}
use Rattle.wf_tables.specs.Parts.{uppers_listed}
use Rattle.wf_tables.proofs.listing.push_lowers.Given as goal

abbrev pub invariant-loop-i : goal.invariant-loop-i
invariant-loop-i l =
    (homes : Homes) → IsIndex l.index homes.homes → l.out.items ≡ l.fn.out.items ++ uppers_listed homes l.flat l.node.generation 0 l.node.prefix l.node.frame l.i
