use Rattle.std.proofs.Common.{◌++◌, ◌+◌, ◌-◌, ℕ, List, drop, take, ap, sym, ◌∙◌, append_assoc}
use Rattle.std.specs.List.{flat_map}
use Rattle.wf_journal.specs.Lines.{entry_line}
use Rattle.wf_report.specs.Listings.{ListingValue}
use Rattle.wf_report.specs.Reports.{body_from}
use Rattle.wf_report.proofs.ListingLemmas.{body-at}
use Rattle.wf_report.proofs.reporting.push_body.Goals as goal

pub loop-listing-preserved : goal.loop-listing-preserved
loop-listing-preserved c =
    let x : ListingValue = c.listing-item.result in
    let out : List ℕ = c.loop-listing.out.items in
    let before : List ℕ = flat_map entry_line (take (x.place - c.loop-listing.done) c.loop-listing.rest.now) in
    let tail : List ℕ = body_from x.place (drop (x.place - c.loop-listing.done) c.loop-listing.rest.now) (drop (c.loop-listing.listing-index + 1) c.args.listings.now) in
    let more = body-at c.args.listings.now c.loop-listing.done c.loop-listing.listing-index c.loop-listing.rest.now x c.listing-item.is c.loop-listing-test.true in
    rw (c.in_ok-rest.ensures.text, c.in_ok-rest.ensures.left, c.in_ok-rest.ensures.place)
    (ap (λ (xs : List ℕ). xs ++ tail) (append_assoc out before x.lines) ∙ append_assoc out (before ++ x.lines) tail
    ∙ ap (λ (xs : List ℕ). out ++ xs) (sym more) ∙ c.loop-listing.invariant)
