-- The start of a run has homes.
use Rattle.std.proofs.Common.{◌≡◌, ◌≤◌, ℕ, zero, suc, [], ◌∷◌, Some, map, refl, sym, ap, arith}
use Rattle.std.specs.Prelude.{slice_get}
use Rattle.std.specs.List.{IsDistinct}
use Rattle.wf_outside.specs.Images.{ImageValue, IsImage, data_numbers, text_numbers}
use Rattle.wf_outside.specs.Pages.{LimitsValue, PageValue}
use Rattle.wf_flat.specs.Boot.{boot_gen, boot_of, boot_pages, boot_text, places_with}
use Rattle.wf_flat.specs.Counts.{used_of}
use Rattle.wf_flat.specs.State.{FlatState, GenState, PageState}
use Rattle.wf_flat.proofs.BootLemmas as boot
use Rattle.wf_flat.proofs.OrderedLemmas.{boot_ordered}
use Rattle.wf_flat.proofs.SortLemmas.{IsRising-sorted_by}
use Rattle.wf_homes.specs.Homes.{AreSeparate, Homes}
use Rattle.wf_homes.specs.Laws.{IsTidy, StartsHaveHomes}
use Rattle.wf_homes.proofs.CountLemmas.{tenants_counted, uppers_rise}
use Rattle.wf_homes.proofs.HomeLemmas.{homes_made}

-- its tables stand in order
pub start_tidy : (image : ImageValue) (harts : ℕ) (limits : LimitsValue) → IsImage image.text image.pages image.entry → IsTidy (boot_of image harts limits)
start_tidy image harts limits is = record {
  ordered = boot_ordered image harts limits is;
  placed = in_place;
  gens = (
    record {
      rising = IsRising-sorted_by (λ (page : PageValue). page.number) image.text (boot.distinct_front (text_numbers image.text) (data_numbers image.pages) is.distinct);
      reach_rising = uppers_rise (places_with [] (text_numbers (boot_text image))) (map (λ (page : PageState). page.number) (boot_pages image harts)) (uppers_rise [] (text_numbers (boot_text image)) tt);
    },
    tt,
  );
}
  where
    in_place : (g : ℕ) (gen : GenState) → slice_get (boot_gen image harts ∷ []) g ≡ Some gen → gen.number ≡ g
    in_place zero gen e = let k : boot_gen image harts ≡ gen = cc in ap (λ (other : GenState). other.number) (sym k)
    in_place (suc g) gen e = absurd cc

pub start_housed : StartsHaveHomes
unfolding IsDistinct
start_housed image harts limits is enough =
    let s : FlatState = boot_of image harts limits in
    let none : Homes = record { homes = []; worn = [] } in
    let apart : AreSeparate none s = record { once = tt; apart = tt; low = tt; counted = refl } in
    homes_made none s apart (tenants_counted s (start_tidy image harts limits is)) (let e : used_of s ≤ limits.frames = enough in omega arith)
