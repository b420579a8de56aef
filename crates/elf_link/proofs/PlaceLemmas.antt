-- Sections that end low.
use Rattle.std.proofs.Common.{◌≡◌, ◌<◌, ◌≤◌, ◌+◌, ℕ, suc, zero, List, [], ◌∷◌, Option, Some, subst, length, get_or, arith, below_more}
use Rattle.std.specs.Prelude.{slice_get}
use Rattle.std.proofs.lemmas.Option.{get_or_from_slice_get, slice_get-get_or}
use Rattle.elf_read.specs.declared.records.Section.{Section}
use Rattle.elf_link.specs.Links.{place_of, AreLow}
use Rattle.wf_outside.specs.declared.sizes.TheConstants.{DATA_END}

-- the section with this number ends low, if it is loaded
abbrev pub IsLow : List (Option ℕ) → List Section → ℕ → Type 0
IsLow places sections n = (place : ℕ) (s : Section) → place_of places n ≡ Some place → slice_get sections n ≡ Some s → place + s.sh_size ≤ DATA_END

-- one more section
pub low-more : (places : List (Option ℕ)) (sections : List Section) (i : ℕ) (d : Section) → ((n : ℕ) → n < i → IsLow places sections n)
    → ((at : ℕ) → place_of places i ≡ Some at → at + (get_or sections i d).sh_size ≤ DATA_END)
    → (n : ℕ) → n < i + 1 → IsLow places sections n
low-more places sections i d before here =
    below_more (IsLow places sections) i before
    (λ place s placed is. subst (λ (x : Section). place + x.sh_size ≤ DATA_END) (get_or_from_slice_get sections i s d is) (here place placed))

there : {X : Type 0} (xs : List X) (n : ℕ) (x : X) → slice_get xs n ≡ Some x → n < length xs
there [] n x is = absurd (cc)
there (y ∷ xs) zero x is = omega arith
there (y ∷ xs) (suc n) x is = let h = there xs n x is in omega arith

-- all sections
pub low-all : (places : List (Option ℕ)) (sections : List Section) (i : ℕ) → length sections ≤ i → ((n : ℕ) → n < i → IsLow places sections n) → AreLow places sections
low-all places sections i le each n place s placed is =
    let h : n < length sections = there sections n s is in
    each n (omega arith) place s placed is

-- of those that are low one ends low
pub low-one : (places : List (Option ℕ)) (sections : List Section) (i : ℕ) (d : Section) → i < length sections → AreLow places sections
    → (at : ℕ) → place_of places i ≡ Some at → at + (get_or sections i d).sh_size ≤ DATA_END
low-one places sections i d lt low at placed = low i at (get_or sections i d) placed (slice_get-get_or sections i d lt)
