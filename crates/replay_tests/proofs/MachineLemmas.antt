-- The image and the patch of the tests.
use Rattle.std.proofs.Common.{◌≡◌, ◌<◌, ◌≤◌, ◌%◌, ◌^◌, ℕ, List, [], ◌∷◌, nat_eq, refl, arith, length, subst, sym}
use Rattle.std.specs.List.{AllByRecursion, IsDistinct}
use Rattle.std.proofs.lemmas.List.Elements.{All-nil, All-cons}
use Rattle.wf_outside.specs.declared.image.Jump.{Jump}
use Rattle.wf_outside.specs.declared.sizes.TheConstants.{MOST_BIRTHS}
use Rattle.wf_outside.specs.Images.{DeltaValue, ImageValue, IsImage, text_numbers, data_numbers}
use Rattle.wf_outside.specs.Pages.{IsPage, PageValue, DataPageValue}
use Rattle.wf_flat.specs.Boot.{boot_of}
use Rattle.wf_flat.specs.Counts.{used_of}
use Rattle.wf_flat.specs.State.{FlatState}
use Rattle.wf_legal.specs.Legal.{at_rest}
use Rattle.wf_sound.specs.Laws.{IsStart, StartsAreSound}
use Rattle.wf_sound.specs.Sound.{IsDelta, IsSound}

one_distinct : IsDistinct nat_eq (0x10 ∷ [])
unfolding IsDistinct
one_distinct = (tt, tt)

none_distinct : IsDistinct nat_eq []
unfolding IsDistinct
none_distinct = tt

-- an image of page 10 alone
pub image_is : (text : List PageValue) (pages : List DataPageValue) → text_numbers text ≡ 0x10 ∷ [] → data_numbers pages ≡ [] → IsImage text pages 0x10000
image_is text pages t d = record {
  distinct = rw (t, d) one_distinct;
  text_low = rw t (All-cons (λ n. n < 0x3E00000) 0x10 [] (omega arith) (All-nil (λ n. n < 0x3E00000)));
  data_low = rw d (All-nil (λ n. n < 0x3E00000));
  aligned = refl;
  is_text = rw t (0, omega arith, refl);
}

-- a patch of one jump alone
pub patch_is : (private : List PageValue) (shared : List DataPageValue) (jumps : List Jump) (jump : Jump) → private ≡ [] → shared ≡ [] → jumps ≡ jump ∷ [] → jump.at % 4 ≡ 0 → jump.at < 2 ^ 38
    → IsDelta (record { private = private; shared = shared; jumps = jumps })
patch_is private shared jumps jump p s j even low = rw (p, s, j) (record {
  private_pages = tt;
  shared_pages = tt;
  private_rising = tt;
  shared_rising = tt;
  distinct = none_distinct;
  placed = (record { even = even; low = low }, tt);
})

-- the start of one hart of an image of text alone is sound
pub start_is : (deltas : List DeltaValue) (image : ImageValue) (last_birth : ℕ) (flat : FlatState) → StartsAreSound → IsImage image.text image.pages image.entry
    → AllByRecursion (λ page. IsPage page.number page.words) image.text → image.pages ≡ [] → 1 ≤ last_birth → last_birth ≤ MOST_BIRTHS → AllByRecursion IsDelta deltas → length deltas < 2 ^ 32
    → flat ≡ boot_of image 1 (record { frames = 64; last_writes = 1; last_birth = last_birth }) → used_of (boot_of image 1 (record { frames = 64; last_writes = 1; last_birth = last_birth })) ≤ 64
    → IsSound (at_rest deltas flat)
start_is deltas image last_birth flat law is text none some all patches few e frames =
    let starts : IsStart deltas image 1 (record { frames = 64; last_writes = 1; last_birth = last_birth }) = record {
      is_image = is;
      text = text;
      pages = subst (λ (ps : List DataPageValue). AllByRecursion (λ page. IsPage page.number page.words) ps) (sym none) tt;
      few_harts = omega arith;
      sizes = record { few_frames = omega arith; many_frames = omega arith; some_writes = omega arith; all_writes = omega arith; some_birth = some; all_births = all };
      frames = frames;
      patches = patches;
      few_patches = few;
    } in
    subst (λ (s : FlatState). IsSound (at_rest deltas s)) (sym e) (law deltas image 1 (record { frames = 64; last_writes = 1; last_birth = last_birth }) starts)
