-- Looking for a page of text by its number.
use Rattle.std.proofs.Common.{◌≡◌, ◌<◌, ℕ, List, Some, None, Ok, Err, length, get_or, sym, ap, ◌∙◌}
use Rattle.std.specs.Ordering.{nat_cmp}
use Rattle.std.specs.List.Sorted.{IsBinarySearchResult}
use Rattle.std.proofs.lemmas.Option.{slice_get-get_or}
use Rattle.wf_outside.specs.Pages.{PageValue}
use Rattle.wf_outside.specs.Images.{text_numbers}
use Rattle.wf_outside.specs.Lists.{IsRising}
use Rattle.wf_flat.specs.Memory.{page_in}
use Rattle.wf_flat.proofs.FoundLemmas.{key_searched, key_missed}

-- what a search finds
pub page_searched : (pages : List PageValue) (n i : ℕ) (page : PageValue) → IsRising (text_numbers pages) → i < length pages → page ≡ get_or pages i page → IsBinarySearchResult (λ (p : PageValue). nat_cmp p.number n) pages (Ok i) → Some page ≡ page_in pages n
page_searched pages n i page up h at is =
    ap Some at ∙ sym (key_searched (λ (p : PageValue). p.number) pages n i up h is ∙ slice_get-get_or pages i page h)

-- what it does not find
pub page_not_searched : (pages : List PageValue) (n i : ℕ) → IsRising (text_numbers pages) → IsBinarySearchResult (λ (p : PageValue). nat_cmp p.number n) pages (Err i) → None ≡ page_in pages n
page_not_searched pages n i up is = sym (key_missed (λ (p : PageValue). p.number) pages n i up is)
