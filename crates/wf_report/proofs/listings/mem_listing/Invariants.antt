use Rattle.std.proofs.Common.{◌≡◌}
use Rattle.wf_report.specs.Listings.{mem_lines}
use Rattle.wf_report.proofs.listings.mem_listing.Given as goal

abbrev pub invariant-loop-i : goal.invariant-loop-i
invariant-loop-i l = l.out.items ≡ mem_lines l.va l.i l.flat
