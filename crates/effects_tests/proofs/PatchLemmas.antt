-- A patch with one page and one jump fits a text of two pages.
use Rattle.std.proofs.Common.{◌≡◌, ◌++◌, ℕ, List, [], ◌∷◌, nat_eq, slice_get, refl, ap, arith}
use Rattle.std.specs.Prelude.{IfSome}
use Rattle.std.specs.List.{IsDistinct}
use Rattle.wf_outside.specs.Images.{DeltaValue, text_numbers}
use Rattle.wf_outside.specs.Pages.{PageValue}
use Rattle.wf_flat.specs.Accesses.{generation_text}
use Rattle.wf_flat.specs.State.{FlatState}
use Rattle.wf_effects.specs.Texts.{IsSpliceable}

numbers_append : (xs ys : List PageValue) → text_numbers (xs ++ ys) ≡ text_numbers xs ++ text_numbers ys
numbers_append [] ys = refl
numbers_append (x ∷ xs) ys = ap (λ (ns : List ℕ). x.number ∷ ns) (numbers_append xs ys)

three_distinct : IsDistinct nat_eq (0x10 ∷ 0x11 ∷ 0x12 ∷ [])
unfolding IsDistinct
three_distinct = ((refl, (refl, tt)), ((refl, tt), (tt, tt)))

pub patch_fits : (s : FlatState) (deltas : List DeltaValue) (delta : DeltaValue) → deltas ≡ delta ∷ [] → text_numbers (generation_text s 0) ≡ 0x10 ∷ 0x11 ∷ [] → text_numbers delta.private ≡ 0x12 ∷ []
    → delta.jumps ≡ record { at = 0x10FFC; bytes = 1 ∷ 2 ∷ 3 ∷ 4 ∷ 5 ∷ 6 ∷ 7 ∷ 8 ∷ [] } ∷ [] → IfSome (slice_get deltas 0) (IsSpliceable (generation_text s 0))
patch_fits s deltas delta one text private jumps = rw one (record {
  distinct = rw (numbers_append (generation_text s 0) delta.private, text, private) three_distinct;
  placed = rw jumps (record { even = refl; low = omega arith }, tt);
})
