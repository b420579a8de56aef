use Rattle.std.proofs.Common.{◌≡◌, ◌++◌, drop}
use Rattle.wf_report.specs.Reports.{body_from}
use Rattle.wf_report.proofs.reporting.push_body.Given as goal

abbrev pub invariant-loop-listing : goal.invariant-loop-listing
invariant-loop-listing l =
    l.out.items ++ body_from l.done l.rest (drop l.listing-index l.listings) ≡ l.fn.out.items ++ body_from 0 l.entries l.listings
