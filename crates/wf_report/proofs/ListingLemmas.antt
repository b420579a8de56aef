-- Listings and bodies of reports, a line or a listing at a time.
use Rattle.std.proofs.Common.{◌≡◌, ◌≤◌, ◌<◌, ◌++◌, ◌+◌, ◌*◌, ◌-◌, ℕ, zero, suc, List, [], ◌∷◌, drop, drop-cons, get_or, length, refl, sym, take, ap, ◌∙◌, add-one, append_assoc, append-nil, arith}
use Rattle.wf_flat.specs.State.{FlatState}
use Rattle.std.proofs.lemmas.List.{drop_all}
use Rattle.std.specs.List.{flat_map}
use Rattle.wf_flat.specs.declared.event.Entry.{Entry}
use Rattle.wf_journal.specs.Lines.{entry_line}
use Rattle.wf_report.specs.Listings.{ListingValue, doubleword_line, mem_lines}
use Rattle.wf_report.specs.Reports.{body_from}

-- one doubleword more
pub mem_more : (va n : ℕ) (flat : FlatState) → mem_lines va (suc n) flat ≡ mem_lines va n flat ++ doubleword_line (va + 8 * n) flat
unfolding mem_lines
mem_more va zero flat =
    let here : va ≡ va + 8 * 0 = omega arith in
    append-nil (doubleword_line va flat) ∙ ap (λ (at : ℕ). doubleword_line at flat) here
mem_more va (suc n) flat =
    let there : va + 8 + 8 * n ≡ va + 8 * suc n = omega arith in
    ap (λ (xs : List ℕ). doubleword_line va flat ++ xs) (mem_more (va + 8) n flat)
    ∙ sym (append_assoc (doubleword_line va flat) (mem_lines (va + 8) n flat) (doubleword_line (va + 8 + 8 * n) flat))
    ∙ ap (λ (at : ℕ). (doubleword_line va flat ++ mem_lines (va + 8) n flat) ++ doubleword_line at flat) there

body-none : (done : ℕ) (entries : List Entry) → body_from done entries [] ≡ flat_map entry_line entries
unfolding body_from
body-none done entries = refl

body-more : (done : ℕ) (entries : List Entry) (listing : ListingValue) (listings : List ListingValue)
    → body_from done entries (listing ∷ listings) ≡ flat_map entry_line (take (listing.place - done) entries) ++ listing.lines ++ body_from listing.place (drop (listing.place - done) entries) listings
unfolding body_from
body-more done entries listing listings = refl

-- one listing more
pub body-drop : (listings : List ListingValue) (done i : ℕ) (entries : List Entry) (d : ListingValue) → i < length listings
    → body_from done entries (drop i listings)
    ≡ flat_map entry_line (take ((get_or listings i d).place - done) entries) ++ (get_or listings i d).lines
    ++ body_from (get_or listings i d).place (drop ((get_or listings i d).place - done) entries) (drop (i + 1) listings)
body-drop listings done i entries d h = rw (drop-cons listings i d h, body-more, ← add-one i) refl

-- no listing is left
pub body-end : (listings : List ListingValue) (done i : ℕ) (entries : List Entry) → length listings ≤ i → body_from done entries (drop i listings) ≡ flat_map entry_line entries
body-end listings done i entries h = rw (drop_all i listings h, body-none) refl

-- the same, of the listing at a place
pub body-at : (listings : List ListingValue) (done i : ℕ) (entries : List Entry) (x : ListingValue) → x ≡ get_or listings i x → i < length listings
    → body_from done entries (drop i listings)
    ≡ flat_map entry_line (take (x.place - done) entries) ++ x.lines ++ body_from x.place (drop (x.place - done) entries) (drop (i + 1) listings)
body-at listings done i entries x is h = rw is (body-drop listings done i entries x h)

pub ruleset last_steps = body-end
