-- Patches that fit are sound.
use Rattle.std.proofs.Common.{◌≡◌, ◌<◌, ◌≤◌, ◌+◌, ℕ, suc, zero, List, [], ◌∷◌, ◌++◌, false, ap, ◌∙◌, arith, length}
use Rattle.std.specs.Prelude.{nat_eq}
use Rattle.std.specs.List.{AllByRecursion, IsDistinct, range_with_len}
use Rattle.std.proofs.lemmas.Bool.Decides.{nat_tests}
use Rattle.wf_outside.specs.declared.image.Jump.{Jump}
use Rattle.wf_outside.specs.declared.sizes.TheConstants.{DATA_END}
use Rattle.wf_outside.specs.Images.{DeltaValue, data_numbers, text_numbers}
use Rattle.wf_effects.specs.Texts.{IsPlaced}
use Rattle.wf_sound.specs.Sound.{IsDelta}
use Rattle.patch_build.specs.Areas.{AreaValue}
use Rattle.patch_build.specs.Fits.{FitsArea, StandsIn, area_with}
use Rattle.patch_build.proofs.AreaLemmas.{row_from, row_rises}
use Rattle.patch_build.proofs.FitLemmas.{row-append}
use Rattle.patch_laws.specs.Laws.{FittingPatchesAreSound}

others_differ : (a : ℕ) (xs : List ℕ) → AllByRecursion (λ y. a + 1 ≤ y) xs → AllByRecursion (λ y. nat_eq a y ≡ false) xs
others_differ a [] all = tt
others_differ a (x ∷ xs) all = (let h : a + 1 ≤ x = all.0 in grind (arith, nat_tests, h), others_differ a xs all.1)

-- numbers in a row are there once
row_distinct : (a n : ℕ) → IsDistinct nat_eq (range_with_len a n)
unfolding IsDistinct
row_distinct a zero = tt
row_distinct a (suc n) = (others_differ a (range_with_len (a + 1) n) (row_from (a + 1) n (a + 1) (omega arith)), row_distinct (a + 1) n)

all_placed : (area : AreaValue) (jumps : List Jump) → AllByRecursion (StandsIn area) jumps → AllByRecursion IsPlaced jumps
all_placed area [] all = tt
all_placed area (jump ∷ jumps) all =
    let low : jump.at < DATA_END = all.0.low in
    (record { even = all.0.even; low = omega (arith, low) }, all_placed area jumps all.1)

-- a patch that fits is one of a run
is_delta : (area : AreaValue) (delta : DeltaValue) → FitsArea area delta → IsDelta delta
is_delta area delta fits =
    let all : text_numbers delta.private ++ data_numbers delta.shared ≡ range_with_len area.next (length delta.private + length delta.shared) =
    ap (λ (xs : List ℕ). xs ++ data_numbers delta.shared) fits.pages.private
    ∙ ap (λ (xs : List ℕ). range_with_len area.next (length delta.private) ++ xs) fits.pages.shared
    ∙ row-append area.next (length delta.private) (length delta.shared) in
    record {
      private_pages = fits.pages.private_whole;
      shared_pages = fits.pages.shared_whole;
      private_rising = rw fits.pages.private (row_rises area.next (length delta.private));
      shared_rising = rw fits.pages.shared (row_rises (area.next + length delta.private) (length delta.shared));
      distinct = rw all (row_distinct area.next (length delta.private + length delta.shared));
      placed = all_placed area delta.jumps fits.stand;
    }

pub all_sound : FittingPatchesAreSound
all_sound area [] fit = tt
all_sound area (delta ∷ deltas) fit = (is_delta area delta fit.0, all_sound (area_with area delta) deltas fit.1)
