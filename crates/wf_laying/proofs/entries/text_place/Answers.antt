use Rattle.std.proofs.Common.{rules, ◌≡◌, ◌<◌, ℕ, List, None, Ok, Err, Result, MatchOption, length, map, slice_get}
use Rattle.std.proofs.lemmas.List.Sorted.{answers_always}
use Rattle.std.specs.List.Sorted.{IsBinarySearchResult, IsSearchInRange}
use Rattle.std.specs.Ordering.{nat_cmp}
use Rattle.std.specs.Result.{result_ok}
use Rattle.wf_outside.specs.Lists.{IsRising}
use Rattle.wf_views.specs.declared.view.TextAt.{TextAt}
use Rattle.wf_views.specs.Lists.{found_by}
use Rattle.wf_views.proofs.KeyLemmas.{key_missed, key_searched}
use Rattle.wf_homes.specs.Kept.{text_page}
use Rattle.wf_laying.proofs.entries.text_place.Goals as goal

placed : (ts : List TextAt) (n : ℕ) (r : Result ℕ ℕ) → IsRising (map text_page ts) → IsSearchInRange r (length ts) → IsBinarySearchResult (λ (t : TextAt). nat_cmp t.page n) ts r
    → MatchOption (result_ok r) (found_by text_page ts n ≡ None) (λ at. (at < length ts) × (found_by text_page ts n ≡ slice_get ts at))
placed ts n (Ok i) up h r = (h, key_searched text_page ts n i up h r)
placed ts n (Err i) up h r = key_missed text_page ts n i up r

pub returns : goal.returns
returns c =
    let p = placed c.args.text.now c.args.page c.binary_search_by_key.result c.requires c.binary_search_by_key.ensures.bound
    (c.binary_search_by_key.ensures.position (λ (t : TextAt). t.page) (answers_always _ _ _ (λ f a r g h. search rules))) in
    rw c.ok.ensures.value p
