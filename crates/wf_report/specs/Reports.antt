-- Whole reports: the first lines, the entries with the listings at their places, and the final
-- lines.
use Rattle.std.specs.Prelude.{ℕ, List, [], ◌∷◌, ◌++◌, ◌-◌, drop, length, take}
use Rattle.std.specs.List.{flat_map}
use Rattle.wf_flat.specs.declared.event.Entry.{Entry}
use Rattle.wf_flat.specs.State.{FlatState}
use Rattle.wf_journal.specs.Finals.{final_lines}
use Rattle.wf_journal.specs.Headers.{header_lines, joined}
use Rattle.wf_journal.specs.Lines.{entry_line}
use Rattle.wf_report.specs.Listings.{ListingValue}

-- the lines of entries, of which so many stand before them, each listing behind the entries that
-- stand before it
unfoldable pub body_from : ℕ → List Entry → List ListingValue → List ℕ
body_from done entries [] = flat_map entry_line entries
body_from done entries (listing ∷ listings) =
    flat_map entry_line (take (listing.place - done) entries) ++ listing.lines
    ++ body_from listing.place (drop (listing.place - done) entries) listings

-- the report of a run: the names of its patches, its entries and listings, and the state at its end
abbrev pub report_bytes : List (List ℕ) → List Entry → List ListingValue → FlatState → List ℕ
report_bytes patches entries listings flat =
    joined (header_lines (length flat.harts) flat.limits.frames patches)
    ++ body_from 0 entries listings ++ joined (final_lines flat)
