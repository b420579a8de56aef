-- Records that stand in a file are read as they are.
use Rattle.std.proofs.Common.{◌≡◌, ◌<◌, ◌+◌, ◌*◌, ◌^◌, ℕ, List, [], ◌∷◌, length, map, refl, ap, subst, ◌∙◌, arith}
use Rattle.std.proofs.lemmas.List.{length-append}
use Rattle.std.specs.List.{flat_map, range_with_len, AllByRecursion}
use Rattle.elf_read.specs.declared.records.Section.{Section}
use Rattle.elf_read.specs.declared.records.Segment.{Segment}
use Rattle.elf_read.specs.declared.constants.TheConstants.{PHENTSIZE, SHENTSIZE}
use Rattle.elf_read.specs.Fields.{field}
use Rattle.elf_read.specs.Records.{section_at, segment_at}
use Rattle.elf_write.specs.Places.{words, xwords}
use Rattle.elf_write.specs.Records.{section_back, section_bytes, section_front, segment_bytes}
use Rattle.elf_laws.proofs.StandLemmas.{length-numbers, numbers_are, stands_back, stands_front, HasNumbers, Stands}

-- each of these is read, the first of them by the number k
abbrev pub AreRead : {X : Type 0} → (ℕ → X) → ℕ → List X → Type 0
AreRead read k [] = Unit {0}
AreRead read k (x ∷ xs) = (read k ≡ x) × AreRead read (k + 1) xs

pub table_is : {X : Type 0} (read : ℕ → X) (k : ℕ) (xs : List X) → AreRead read k xs → map read (range_with_len k (length xs)) ≡ xs
table_is read k [] h = refl
table_is {X = X} read k (x ∷ xs) h = ap (λ (y : X). y ∷ map read (range_with_len (k + 1) (length xs))) h.0 ∙ ap (λ (ys : List X). x ∷ ys) (table_is read (k + 1) xs h.1)

-- the numbers of a program header have their sizes
pub record IsSizedSegment (s : Segment) : Type 0 where
  pub words : AllByRecursion (λ x. x < 256 ^ 4) (s.p_type ∷ s.p_flags ∷ [])
  pub xwords : AllByRecursion (λ x. x < 256 ^ 8) (s.p_offset ∷ s.p_vaddr ∷ s.p_paddr ∷ s.p_filesz ∷ s.p_memsz ∷ s.p_align ∷ [])

pub length-segment : (s : Segment) → length (segment_bytes s) ≡ PHENTSIZE
unfolding segment_bytes
length-segment s =
    omega (arith, length-append (words (s.p_type ∷ s.p_flags ∷ [])) (xwords (s.p_offset ∷ s.p_vaddr ∷ s.p_paddr ∷ s.p_filesz ∷ s.p_memsz ∷ s.p_align ∷ [])), length-numbers 4 (s.p_type ∷ s.p_flags ∷ []), length-numbers 8 (s.p_offset ∷ s.p_vaddr ∷ s.p_paddr ∷ s.p_filesz ∷ s.p_memsz ∷ s.p_align ∷ []))

-- a number at the start of a place
pub at_start : (n at x : ℕ) (file : List ℕ) → field n (at + 0) file ≡ x → field n at file ≡ x
at_start n at x file e = let place : at ≡ at + 0 = omega arith in ap (λ (k : ℕ). field n k file) place ∙ e

-- at a place and nothing more
pub from_start : (at : ℕ) (bytes file : List ℕ) → Stands at bytes file → Stands (at + 0) bytes file
from_start at bytes file s = let place : at ≡ at + 0 = omega arith in subst (λ (k : ℕ). Stands k bytes file) place s

segment_fields : (at : ℕ) (s : Segment) (file : List ℕ) → IsSizedSegment s → Stands at (segment_bytes s) file
    → HasNumbers 4 at 0 (s.p_type ∷ s.p_flags ∷ []) file × HasNumbers 8 at 8 (s.p_offset ∷ s.p_vaddr ∷ s.p_paddr ∷ s.p_filesz ∷ s.p_memsz ∷ s.p_align ∷ []) file
unfolding segment_bytes
segment_fields at s file sized stands =
    let short = s.p_type ∷ s.p_flags ∷ [] in
    let long = s.p_offset ∷ s.p_vaddr ∷ s.p_paddr ∷ s.p_filesz ∷ s.p_memsz ∷ s.p_align ∷ [] in
    let front = stands_front at (words short) (xwords long) file stands in
    let back = stands_back at 8 (words short) (xwords long) file (length-numbers 4 short) stands in
    (numbers_are 4 at 0 short file sized.words (from_start at (words short) file front), numbers_are 8 at 8 long file sized.xwords back)

pub segment_is : (at : ℕ) (s : Segment) (file : List ℕ) → IsSizedSegment s → Stands at (segment_bytes s) file → segment_at file at ≡ s
unfolding segment_at
segment_is at s file sized stands =
    let f = segment_fields at s file sized stands in
    rw (at_start 4 at s.p_type file f.0.0, f.0.1.0, f.1.0, f.1.1.0, f.1.1.1.0, f.1.1.1.1.0, f.1.1.1.1.1.0, f.1.1.1.1.1.1.0) refl

-- the program headers in a table
pub segments_are : (at k : ℕ) (segments : List Segment) (file : List ℕ) → AllByRecursion IsSizedSegment segments → Stands (at + PHENTSIZE * k) (flat_map segment_bytes segments) file
    → AreRead (λ i. segment_at file (at + PHENTSIZE * i)) k segments
segments_are at k [] file sized stands = tt
segments_are at k (s ∷ ss) file sized stands =
    let first = stands_front (at + PHENTSIZE * k) (segment_bytes s) (flat_map segment_bytes ss) file stands in
    let rest = stands_back (at + PHENTSIZE * k) PHENTSIZE (segment_bytes s) (flat_map segment_bytes ss) file (length-segment s) stands in
    let place : at + PHENTSIZE * k + PHENTSIZE ≡ at + PHENTSIZE * (k + 1) = omega arith in
    (segment_is (at + PHENTSIZE * k) s file sized.0 first, segments_are at (k + 1) ss file sized.1 (subst (λ (p : ℕ). Stands p (flat_map segment_bytes ss) file) place rest))

-- the numbers of a section header have their sizes
pub record IsSizedSection (s : Section) : Type 0 where
  pub front_words : AllByRecursion (λ x. x < 256 ^ 4) (s.sh_name ∷ s.sh_type ∷ [])
  pub front_xwords : AllByRecursion (λ x. x < 256 ^ 8) (s.sh_flags ∷ s.sh_addr ∷ s.sh_offset ∷ s.sh_size ∷ [])
  pub back_words : AllByRecursion (λ x. x < 256 ^ 4) (s.sh_link ∷ s.sh_info ∷ [])
  pub back_xwords : AllByRecursion (λ x. x < 256 ^ 8) (s.sh_addralign ∷ s.sh_entsize ∷ [])

length-front : (s : Section) → length (section_front s) ≡ 40
unfolding section_front
length-front s =
    omega (arith, length-append (words (s.sh_name ∷ s.sh_type ∷ [])) (xwords (s.sh_flags ∷ s.sh_addr ∷ s.sh_offset ∷ s.sh_size ∷ [])), length-numbers 4 (s.sh_name ∷ s.sh_type ∷ []), length-numbers 8 (s.sh_flags ∷ s.sh_addr ∷ s.sh_offset ∷ s.sh_size ∷ []))

length-back : (s : Section) → length (section_back s) ≡ 24
unfolding section_back
length-back s =
    omega (arith, length-append (words (s.sh_link ∷ s.sh_info ∷ [])) (xwords (s.sh_addralign ∷ s.sh_entsize ∷ [])), length-numbers 4 (s.sh_link ∷ s.sh_info ∷ []), length-numbers 8 (s.sh_addralign ∷ s.sh_entsize ∷ []))

pub length-section : (s : Section) → length (section_bytes s) ≡ SHENTSIZE
length-section s = omega (arith, length-front s, length-back s, length-append (section_front s) (section_back s))

front_fields : (at : ℕ) (s : Section) (file : List ℕ) → IsSizedSection s → Stands at (section_front s) file
    → HasNumbers 4 at 0 (s.sh_name ∷ s.sh_type ∷ []) file × HasNumbers 8 at 8 (s.sh_flags ∷ s.sh_addr ∷ s.sh_offset ∷ s.sh_size ∷ []) file
unfolding section_front
front_fields at s file sized stands =
    let short = s.sh_name ∷ s.sh_type ∷ [] in
    let long = s.sh_flags ∷ s.sh_addr ∷ s.sh_offset ∷ s.sh_size ∷ [] in
    let front = stands_front at (words short) (xwords long) file stands in
    let back = stands_back at 8 (words short) (xwords long) file (length-numbers 4 short) stands in
    (numbers_are 4 at 0 short file sized.front_words (from_start at (words short) file front), numbers_are 8 at 8 long file sized.front_xwords back)

back_fields : (at : ℕ) (s : Section) (file : List ℕ) → IsSizedSection s → Stands (at + 40) (section_back s) file
    → HasNumbers 4 at 40 (s.sh_link ∷ s.sh_info ∷ []) file × HasNumbers 8 at 48 (s.sh_addralign ∷ s.sh_entsize ∷ []) file
unfolding section_back
back_fields at s file sized stands =
    let short = s.sh_link ∷ s.sh_info ∷ [] in
    let long = s.sh_addralign ∷ s.sh_entsize ∷ [] in
    let front = stands_front (at + 40) (words short) (xwords long) file stands in
    let back = stands_back (at + 40) 8 (words short) (xwords long) file (length-numbers 4 short) stands in
    let place : at + 40 + 8 ≡ at + 48 = omega arith in
    (numbers_are 4 at 40 short file sized.back_words front, numbers_are 8 at 48 long file sized.back_xwords (subst (λ (k : ℕ). Stands k (xwords long) file) place back))

pub section_is : (at : ℕ) (s : Section) (file : List ℕ) → IsSizedSection s → Stands at (section_bytes s) file → section_at file at ≡ s
unfolding section_at
section_is at s file sized stands =
    let f = front_fields at s file sized (stands_front at (section_front s) (section_back s) file stands) in
    let b = back_fields at s file sized (stands_back at 40 (section_front s) (section_back s) file (length-front s) stands) in
    rw (at_start 4 at s.sh_name file f.0.0, f.0.1.0, f.1.0, f.1.1.0, f.1.1.1.0, f.1.1.1.1.0, b.0.0, b.0.1.0, b.1.0, b.1.1.0) refl

-- the section headers in a table
pub sections_are : (at k : ℕ) (sections : List Section) (file : List ℕ) → AllByRecursion IsSizedSection sections → Stands (at + SHENTSIZE * k) (flat_map section_bytes sections) file
    → AreRead (λ i. section_at file (at + SHENTSIZE * i)) k sections
sections_are at k [] file sized stands = tt
sections_are at k (s ∷ ss) file sized stands =
    let first = stands_front (at + SHENTSIZE * k) (section_bytes s) (flat_map section_bytes ss) file stands in
    let rest = stands_back (at + SHENTSIZE * k) SHENTSIZE (section_bytes s) (flat_map section_bytes ss) file (length-section s) stands in
    let place : at + SHENTSIZE * k + SHENTSIZE ≡ at + SHENTSIZE * (k + 1) = omega arith in
    (section_is (at + SHENTSIZE * k) s file sized.0 first, sections_are at (k + 1) ss file sized.1 (subst (λ (p : ℕ). Stands p (flat_map section_bytes ss) file) place rest))
