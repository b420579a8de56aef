-- The images of tests.
use Rattle.std.proofs.Common.{◌≡◌, ◌<◌, ◌%◌, ◌/◌, ◌++◌, ℕ, List, [], ◌∷◌, nat_eq, refl, arith}
use Rattle.std.specs.Prelude.{All, Contains}
use Rattle.std.specs.List.{IsDistinct}
use Rattle.std.proofs.lemmas.List.Elements.{All-nil, All-cons}
use Rattle.wf_outside.specs.Pages.{PageValue, DataPageValue}
use Rattle.wf_outside.specs.Images.{IsImage, text_numbers, data_numbers}

one_distinct : IsDistinct nat_eq (0x10 ∷ [])
unfolding IsDistinct
one_distinct = (tt, tt)

four_distinct : IsDistinct nat_eq (0x12 ∷ 0x10 ∷ 0x20 ∷ 0x11 ∷ [])
unfolding IsDistinct
four_distinct = ((refl, (refl, (refl, tt))), ((refl, (refl, tt)), ((refl, tt), (tt, tt))))

-- what an image of these numbers keeps
of_numbers : (text : List PageValue) (pages : List DataPageValue) (entry : ℕ) (texts datas : List ℕ)
    → text_numbers text ≡ texts → data_numbers pages ≡ datas → IsDistinct nat_eq (texts ++ datas)
    → All (λ n. n < 0x3E00000) texts → All (λ n. n < 0x3E00000) datas → entry % 4 ≡ 0 → Contains texts (entry / 4096) → IsImage text pages entry
of_numbers text pages entry texts datas t d distinct text_low data_low aligned is_text = record {
  distinct = rw (t, d) distinct;
  text_low = rw t text_low;
  data_low = rw d data_low;
  aligned = aligned;
  is_text = rw t is_text;
}

pub small_is : (text : List PageValue) (pages : List DataPageValue) → text_numbers text ≡ 0x10 ∷ [] → data_numbers pages ≡ [] → IsImage text pages 0x10000
small_is text pages t d =
    of_numbers text pages 0x10000 (0x10 ∷ []) [] t d one_distinct
    (All-cons (λ n. n < 0x3E00000) 0x10 [] (omega arith) (All-nil (λ n. n < 0x3E00000))) (All-nil (λ n. n < 0x3E00000)) refl (0, omega arith, refl)

pub unsorted_is : (text : List PageValue) (pages : List DataPageValue) → text_numbers text ≡ 0x12 ∷ 0x10 ∷ [] → data_numbers pages ≡ 0x20 ∷ 0x11 ∷ [] → IsImage text pages 0x12000
unsorted_is text pages t d =
    of_numbers text pages 0x12000 (0x12 ∷ 0x10 ∷ []) (0x20 ∷ 0x11 ∷ []) t d four_distinct
    (All-cons (λ n. n < 0x3E00000) 0x12 (0x10 ∷ []) (omega arith) (All-cons (λ n. n < 0x3E00000) 0x10 [] (omega arith) (All-nil (λ n. n < 0x3E00000))))
    (All-cons (λ n. n < 0x3E00000) 0x20 (0x11 ∷ []) (omega arith) (All-cons (λ n. n < 0x3E00000) 0x11 [] (omega arith) (All-nil (λ n. n < 0x3E00000))))
    refl (0, omega arith, refl)
