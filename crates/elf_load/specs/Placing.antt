-- Segments by rising address.
use Rattle.std.specs.Prelude.{◌≡◌, ◌+◌, ℕ, List, [], ◌∷◌, Bool, true, ◌&&◌, ◌||◌, nat_le}
use Rattle.std.specs.Bool.{beq}
use Rattle.std.specs.List.{AllByRecursion, list_any}
use Rattle.std.specs.Map.{values_of}
use Rattle.elf_read.specs.declared.records.Segment.{Segment}
use Rattle.wf_outside.specs.declared.sizes.TheConstants.{DATA_END}
use Rattle.elf_load.specs.Segments.{is_load, is_executable, segment_end, first_page, page_after}

-- the first ends before the second begins, and they share no page that the one makes text and the
-- other data
abbrev pub goes_before : Segment → Segment → Bool
goes_before s t =
    nat_le (segment_end s) t.p_vaddr
    && (nat_le (page_after s) (first_page t) || beq (is_executable s) (is_executable t))

-- each goes before all behind it
abbrev pub AreInOrder : List Segment → Type 0
AreInOrder [] = Unit {0}
AreInOrder (s ∷ ss) = AllByRecursion (λ t. goes_before s t ≡ true) ss × AreInOrder ss

-- it is loaded below the stacks, from a file of so many bytes
abbrev pub is_placeable : ℕ → Segment → Bool
is_placeable size s =
    is_load s
    && nat_le (segment_end s) DATA_END
    && nat_le (s.p_offset + s.p_filesz) size
    && nat_le s.p_filesz s.p_memsz

-- the same segments, as far as tests tell
abbrev pub HasSame : List Segment → List Segment → Type 0
HasSame ss ts = (test : Segment → Bool) → list_any test ss ≡ list_any test ts

-- segments by rising address, each under its own address
pub record IsKeyed (entries : List (ℕ × Segment)) : Type 0 where
  pub keys : AllByRecursion (λ e. e.0 ≡ e.1.p_vaddr) entries
  pub loads : AllByRecursion (λ s. is_load s ≡ true) (values_of entries)
  pub rising : AreInOrder (values_of entries)

-- the segments to be loaded, by rising address
pub record ArePlaced (size : ℕ) (loads placed : List Segment) : Type 0 where
  pub same : HasSame placed loads
  pub rising : AreInOrder placed
  pub each : AllByRecursion (λ s. is_placeable size s ≡ true) placed
