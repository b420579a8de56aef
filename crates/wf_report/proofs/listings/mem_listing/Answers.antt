use Rattle.std.proofs.Common.{◌++◌, ◌+◌, ◌*◌, ℕ, List, ap, sym, ◌∙◌, add-one}
use Rattle.wf_report.specs.Listings.{doubleword_line, mem_lines}
use Rattle.wf_report.proofs.ListingLemmas.{mem_more}
use Rattle.wf_report.proofs.listings.mem_listing.Goals as goal

pub loop-i-preserved : goal.loop-i-preserved
loop-i-preserved c =
    c.in_ok-push_doubleword.ensures
    ∙ ap (λ (xs : List ℕ). xs ++ doubleword_line (c.args.va + 8 * c.loop-i.i) c.args.flat.now) c.loop-i.invariant
    ∙ sym (mem_more c.args.va c.loop-i.i c.args.flat.now)
    ∙ ap (λ (n : ℕ). mem_lines c.args.va n c.args.flat.now) (sym (add-one c.loop-i.i))
