use Rattle.std.proofs.Common.{rules, ◌≡◌, ◌<◌, ℕ, List, None, Ok, Err, Result, MatchOption, length, slice_get}
use Rattle.std.proofs.lemmas.List.Sorted.{answers_always}
use Rattle.std.specs.List.Sorted.{IsBinarySearchResult, IsSearchInRange}
use Rattle.std.specs.Ordering.{nat_cmp}
use Rattle.std.specs.Result.{result_ok}
use Rattle.wf_flat.specs.State.{PageState}
use Rattle.wf_outside.specs.Lists.{IsRising}
use Rattle.wf_flat.specs.Memory.{data_in}
use Rattle.wf_flat.specs.Ordered.{page_numbers}
use Rattle.wf_flat.proofs.FoundLemmas.{key_searched, key_missed}
use Rattle.wf_flat.proofs.data.place_of.Goals as goal

placed : (pages : List PageState) (n : ℕ) (r : Result ℕ ℕ) → IsRising (page_numbers pages) → IsSearchInRange r (length pages) → IsBinarySearchResult (λ (p : PageState). nat_cmp p.number n) pages r
    → MatchOption (result_ok r) (data_in pages n ≡ None) (λ at. (at < length pages) × (data_in pages n ≡ slice_get pages at))
placed pages n (Ok i) up h r = (h, key_searched (λ (p : PageState). p.number) pages n i up h r)
placed pages n (Err i) up h r = key_missed (λ (p : PageState). p.number) pages n i up r

pub returns : goal.returns
returns c =
    let p = placed c.args.pages.now c.args.number c.binary_search_by_key.result c.requires c.binary_search_by_key.ensures.bound
    (c.binary_search_by_key.ensures.position (λ (p : PageState). p.number) (answers_always _ _ _ (λ f a r g h. search rules))) in
    rw c.ok.ensures.value p
