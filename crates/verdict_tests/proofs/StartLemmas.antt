-- The image of the tests, and that the start of two harts is within the limits of a run.
use Rattle.std.proofs.Common.{◌≡◌, ◌≤◌, ◌<◌, List, [], ◌∷◌, nat_eq, arith, refl, ap, length}
use Rattle.std.specs.List.{IsDistinct}
use Rattle.std.proofs.lemmas.List.Elements.{All-nil, All-cons}
use Rattle.wf_outside.specs.Images.{ImageValue, IsImage, text_numbers, data_numbers}
use Rattle.wf_outside.specs.Pages.{PageValue, DataPageValue, LimitsValue}
use Rattle.wf_flat.specs.Boot.{boot_of, boot_harts}
use Rattle.wf_flat.specs.Counts.{used_of}
use Rattle.wf_flat.specs.Ordered.{IsOrdered}
use Rattle.wf_flat.specs.State.{FlatState}
use Rattle.wf_verdict.specs.Verdict.{IsWithinLimits}

two_distinct : IsDistinct nat_eq (0x10 ∷ 0x11 ∷ [])
unfolding IsDistinct
two_distinct = ((refl, tt), (tt, tt))

pub image_is : (text : List PageValue) (pages : List DataPageValue) → text_numbers text ≡ 0x10 ∷ [] → data_numbers pages ≡ 0x11 ∷ [] → IsImage text pages 0x10000
image_is text pages t d = record {
  distinct = rw (t, d) two_distinct;
  text_low = rw t (All-cons (λ n. n < 0x3E00000) 0x10 [] (omega arith) (All-nil (λ n. n < 0x3E00000)));
  data_low = rw d (All-cons (λ n. n < 0x3E00000) 0x11 [] (omega arith) (All-nil (λ n. n < 0x3E00000)));
  aligned = refl;
  is_text = rw t (0, omega arith, refl);
}

pub within : (image : ImageValue) (limits : LimitsValue) (flat : FlatState) → flat ≡ boot_of image 2 limits → IsOrdered flat → used_of (boot_of image 2 limits) ≤ limits.frames → limits.frames ≤ 65536 → IsWithinLimits flat
unfolding boot_harts
within image limits flat e ordered used few =
    let one : length flat.gens ≡ 1 = ap (λ (s : FlatState). length s.gens) e in
    let two : length flat.harts ≡ 2 = ap (λ (s : FlatState). length s.harts) e in
    let same : used_of flat ≡ used_of (boot_of image 2 limits) = ap used_of e in
    record { ordered = ordered; frames = omega arith; generations = omega arith; harts = omega arith }
