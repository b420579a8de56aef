-- The nodes of a page table, in one pass over the places that it reaches.
use Rattle.std.specs.Prelude.{ℕ, List, [], ◌∷◌, Option, Bool, false, Some, None, ◌/◌, ◌==◌, if◌then◌else◌}
use Rattle.wf_outside.specs.declared.sizes.TheConstants.{PAGE_WORDS}

-- whether the place is one of the 512 of this node
abbrev pub is_below : ℕ → Option ℕ → Bool
is_below place None = false
is_below place (Some upper) = place / PAGE_WORDS == upper

-- the nodes at levels 1 and 0 of these places, the last of those before being below this node of
-- level 1
unfoldable pub walked : Option ℕ → List ℕ → List (ℕ × ℕ)
walked last [] = []
walked last (place ∷ places) =
    if is_below place last then (0, place) ∷ walked last places
    else (1, place / PAGE_WORDS) ∷ (0, place) ∷ walked (Some (place / PAGE_WORDS)) places
