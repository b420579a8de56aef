-- Relocations that stand in a file are read as they are.
use Rattle.std.proofs.Common.{◌≡◌, ◌<◌, ◌+◌, ◌*◌, ◌/◌, ◌^◌, ◌++◌, ℕ, List, [], ◌∷◌, ◌==◌, length, map, refl, ap, subst, ◌∙◌, arith}
use Rattle.std.proofs.Math.Facts.{Fits-of_z}
use Rattle.std.proofs.lemmas.Grind.{flat_map-append}
use Rattle.std.proofs.lemmas.Int.{to_z-of_z}
use Rattle.std.proofs.lemmas.List.{length-append, length-map}
use Rattle.std.proofs.lemmas.List.Elements.{All-filter, recursion_from_All}
use Rattle.std.specs.Int.{cast_unsigned, w64}
use Rattle.std.specs.List.{flat_map, AllByRecursion}
use Rattle.std.specs.Prelude.{All}
use Rattle.elf_read.specs.declared.constants.TheConstants.{RELAENTSIZE}
use Rattle.elf_read.specs.Records.{rela_at, table}
use Rattle.elf_write.specs.declared.module.ModRela.{ModRela}
use Rattle.elf_write.specs.Parts.{rela_bytes, rela_info, relas_for, AreBySection, AreLinked}
use Rattle.elf_write.specs.Places.{xwords}
use Rattle.elf_laws.specs.Laws.{rela_with, IsSizedRela}
use Rattle.elf_laws.proofs.RecordLemmas.{at_start, from_start, table_is, AreRead}
use Rattle.elf_laws.proofs.StandLemmas.{length-numbers, numbers_are, stands_back, stands_front, Stands}

-- a relocation whose symbol is one of so many, and whose numbers have their sizes
pub record IsPlainRela (symbols : ℕ) (r : ModRela) : Type 0 where
  pub linked : r.symbol < symbols
  pub sized : IsSizedRela r

pub length-rela : (r : ModRela) → length (rela_bytes r) ≡ RELAENTSIZE
unfolding rela_bytes
length-rela r = length-numbers 8 (r.offset ∷ rela_info r ∷ cast_unsigned w64 r.addend ∷ [])

pub length-relas : (relas : List ModRela) → length (flat_map rela_bytes relas) ≡ 24 * length relas
length-relas [] = refl
length-relas (r ∷ rs) = omega (arith, length-append (rela_bytes r) (flat_map rela_bytes rs), length-rela r, length-relas rs)

rela_is : (at symbols : ℕ) (r : ModRela) (file : List ℕ) → symbols < 2 ^ 32 → IsPlainRela symbols r → Stands at (rela_bytes r) file → rela_at file at ≡ rela_with r
unfolding rela_at rela_bytes
rela_is at symbols r file few plain stands =
    let numbers : List ℕ = r.offset ∷ rela_info r ∷ cast_unsigned w64 r.addend ∷ [] in
    let fits : cast_unsigned w64 r.addend < 2 ^ 64 = (Fits-of_z plain.sized.addend).fits in
    let n = numbers_are 8 at 0 numbers file (omega (arith, plain.sized.offset), (omega (arith, plain.linked, plain.sized.kind, few), (omega (arith, fits), tt))) (from_start at (xwords numbers) file stands) in
    rw (at_start 8 at r.offset file n.0, n.1.0, n.1.1.0, to_z-of_z w64 r.addend plain.sized.addend) refl

-- the relocations in a table
relas_are : (at k symbols : ℕ) (relas : List ModRela) (file : List ℕ) → symbols < 2 ^ 32 → AllByRecursion (IsPlainRela symbols) relas → Stands (at + RELAENTSIZE * k) (flat_map rela_bytes relas) file
    → AreRead (λ i. rela_at file (at + RELAENTSIZE * i)) k (map rela_with relas)
relas_are at k symbols [] file few plain stands = tt
relas_are at k symbols (r ∷ rs) file few plain stands =
    let first = stands_front (at + RELAENTSIZE * k) (rela_bytes r) (flat_map rela_bytes rs) file stands in
    let rest = stands_back (at + RELAENTSIZE * k) RELAENTSIZE (rela_bytes r) (flat_map rela_bytes rs) file (length-rela r) stands in
    let place : at + RELAENTSIZE * k + RELAENTSIZE ≡ at + RELAENTSIZE * (k + 1) = omega arith in
    (rela_is (at + RELAENTSIZE * k) symbols r file few plain.0 first, relas_are at (k + 1) symbols rs file few plain.1 (subst (λ (p : ℕ). Stands p (flat_map rela_bytes rs) file) place rest))

-- a table of so many
pub relas_read : (at n symbols : ℕ) (relas : List ModRela) (file : List ℕ) → n ≡ length relas → symbols < 2 ^ 32 → AllByRecursion (IsPlainRela symbols) relas → Stands at (flat_map rela_bytes relas) file
    → table (rela_at file) at RELAENTSIZE (24 * n / RELAENTSIZE) ≡ map rela_with relas
relas_read at n symbols relas file e few plain stands =
    let count : 24 * n / RELAENTSIZE ≡ length (map rela_with relas) = omega (arith, e, length-map relas rela_with) in
    ap (λ (k : ℕ). table (rela_at file) at RELAENTSIZE k) count
    ∙ table_is (λ i. rela_at file (at + RELAENTSIZE * i)) 0 (map rela_with relas) (relas_are at 0 symbols relas file few plain (from_start at (flat_map rela_bytes relas) file stands))

-- the relocations of each section stand behind those before
pub record StandInThree (at : ℕ) (relas : List ModRela) (file : List ℕ) : Type 0 where
  pub text : Stands at (flat_map rela_bytes (relas_for 1 relas)) file
  pub rodata : Stands (at + 24 * length (relas_for 1 relas)) (flat_map rela_bytes (relas_for 2 relas)) file
  pub rwdata : Stands (at + 24 * length (relas_for 1 relas) + 24 * length (relas_for 2 relas)) (flat_map rela_bytes (relas_for 3 relas)) file

pub in_three : (at : ℕ) (relas : List ModRela) (file : List ℕ) → AreBySection relas → Stands at (flat_map rela_bytes relas) file → StandInThree at relas file
in_three at relas file b stands =
    let one = flat_map rela_bytes (relas_for 1 relas) in
    let two = flat_map rela_bytes (relas_for 2 relas) in
    let three = flat_map rela_bytes (relas_for 3 relas) in
    let bytes : flat_map rela_bytes relas ≡ one ++ two ++ three =
    ap (flat_map rela_bytes) b ∙ flat_map-append rela_bytes (relas_for 1 relas ++ relas_for 2 relas) (relas_for 3 relas) ∙ ap (λ (l : List ℕ). l ++ three) (flat_map-append rela_bytes (relas_for 1 relas) (relas_for 2 relas)) in
    let whole : Stands at (one ++ two ++ three) file = subst (λ (l : List ℕ). Stands at l file) bytes stands in
    let front = stands_front at (one ++ two) three file whole in
    let both : length (one ++ two) ≡ 24 * length (relas_for 1 relas) + 24 * length (relas_for 2 relas) = omega (arith, length-append one two, length-relas (relas_for 1 relas), length-relas (relas_for 2 relas)) in
    let last = stands_back at (24 * length (relas_for 1 relas) + 24 * length (relas_for 2 relas)) (one ++ two) three file both whole in
    let place : at + (24 * length (relas_for 1 relas) + 24 * length (relas_for 2 relas)) ≡ at + 24 * length (relas_for 1 relas) + 24 * length (relas_for 2 relas) = omega arith in
    record {
      text = stands_front at one two file front;
      rodata = stands_back at (24 * length (relas_for 1 relas)) one two file (length-relas (relas_for 1 relas)) front;
      rwdata = subst (λ (k : ℕ). Stands k three file) place last;
    }

-- how many there are
pub count_relas : (relas : List ModRela) → AreBySection relas → length relas ≡ length (relas_for 1 relas) + length (relas_for 2 relas) + length (relas_for 3 relas)
count_relas relas b =
    ap length b ∙ omega (arith, length-append (relas_for 1 relas ++ relas_for 2 relas) (relas_for 3 relas), length-append (relas_for 1 relas) (relas_for 2 relas))

-- the relocations of a section are plain
pub plain_for : (section symbols : ℕ) (relas : List ModRela) → AreLinked symbols relas → All IsSizedRela relas → AllByRecursion (IsPlainRela symbols) (relas_for section relas)
plain_for section symbols relas linked sized =
    recursion_from_All (IsPlainRela symbols) (relas_for section relas) (All-filter (λ r. r.section == section) (IsPlainRela symbols) relas (λ k d l. record { linked = linked k d l; sized = sized k d l }))
