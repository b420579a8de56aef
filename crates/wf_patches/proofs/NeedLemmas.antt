-- Names that are needed for patches, and whose counts rose.
use Rattle.std.proofs.Common.{◌≡◌, ◌≤◌, ◌+◌, ℕ, List, [], ◌∷◌, Option, Result, Err, inl, inr, arith}
use Rattle.std.specs.Prelude.{IfErr}
use Rattle.wf_outside.specs.Files.{HasRisen}
use Rattle.wf_outside.specs.Images.{ImageValue}
use Rattle.wf_status.specs.declared.status.Status.{Status}
use Rattle.wf_status.specs.declared.status.Status.TheVariants.{Shelf}
use Rattle.wf_patches.specs.Bases.{BaseValue, base_over, base_with}
use Rattle.wf_patches.specs.Needed.{OfNeeded, OfRead, OfReads, OfSome}

-- what is held under each name
abbrev Held : Type 0
Held = List ℕ → Option (List ℕ)

-- how often the read of each name failed
abbrev pub Counts : Type 0
Counts = List ℕ → ℕ

-- the count of a name rose
abbrev pub Rises : Counts → Counts → List ℕ → Type 0
Rises old new name = HasRisen (old name) (new name)

risen_more : (old mid new : ℕ) → old ≤ mid → HasRisen mid new → HasRisen old new
risen_more old mid new le h = elim h [ inl more ↦ inl (omega arith) | inr all ↦ inr all ]

pub rises_more : (old mid new : Counts) → ((name : List ℕ) → old name ≤ mid name) → (name : List ℕ) → Rises mid new name → Rises old new name
rises_more old mid new le name h = risen_more (old name) (mid name) (new name) (le name) h

pub some_more : (old mid new : Counts) → ((name : List ℕ) → old name ≤ mid name) → OfSome (λ other. HasRisen (mid other) (new other)) → OfSome (λ other. HasRisen (old other) (new other))
some_more old mid new le h = record { name = h.name; is = rises_more old mid new le h.name h.is }

-- ---- what holds of each name with P, of names that are needed

read_more : (held : Held) (patch : ℕ) (name : List ℕ) (P Q : List ℕ → Type 0) → ((n : List ℕ) → P n → Q n) → OfRead held patch name P → OfRead held patch name Q
read_more held patch name P Q more h = elim h [
  | inl p ↦ inl (more name p)
  | inr o ↦ inr (record { file = o.file; is = o.is; object = more o.file.object o.object })
]

reads_more : (held : Held) (patch : ℕ) (base : BaseValue) (names : List (List ℕ)) (P Q : List ℕ → Type 0) → ((n : List ℕ) → P n → Q n) → OfReads held patch base names P → OfReads held patch base names Q
reads_more held patch base [] P Q more h = absurd h
reads_more held patch base (name ∷ names) P Q more h = elim h [
  | inl read ↦ inl (read_more held patch name P Q more read)
  | inr built ↦ inr (record {
    built = built.built;
    is = built.is;
    fits = reads_more held (patch + 1) (base_with base built.built) names P Q more built.fits;
  })
]

pub patches_more : (held : Held) (image : ImageValue) (names : List (List ℕ)) (P Q : List ℕ → Type 0) → ((n : List ℕ) → P n → Q n) → OfNeeded held image names P → OfNeeded held image names Q
unfolding OfNeeded
patches_more held image names P Q more h = reads_more held 0 (base_over image) names P Q more h

-- ---- results

-- a result that is this error
pub err_holds : {A : Type 0} (r : Result A Status) (status : Status) (P : Status → Type 0) → r ≡ Err status → P status → IfErr r P
err_holds r status P e p = rw e p

pub err_shelf : {A : Type 0} (r : Result A Status) (status : Status) → r ≡ Err status → r ≡ Err Shelf → status ≡ Shelf
err_shelf r status e f = cc

le_more : (a b c : ℕ) → a ≤ b → b ≤ c → a ≤ c
le_more a b c h k = omega arith

-- no count falls, over two reads
pub counts_more : (old mid new : Counts) → ((name : List ℕ) → old name ≤ mid name) → ((name : List ℕ) → mid name ≤ new name) → (name : List ℕ) → old name ≤ new name
counts_more old mid new h k name = le_more (old name) (mid name) (new name) (h name) (k name)
