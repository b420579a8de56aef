use Rattle.std.proofs.Common.{rules, ◌≡◌, ◌<◌, ◌≤◌, ℕ, List, None, Ok, Err, Result, MatchResult, length, map, get_or, slice_get, sym, subst, false}
use Rattle.std.specs.List.{insert, remove}
use Rattle.std.proofs.lemmas.List.Sorted.{answers_always}
use Rattle.std.specs.List.Sorted.{IsBinarySearchResult, IsSearchInRange}
use Rattle.std.specs.Ordering.{nat_cmp}
use Rattle.wf_outside.specs.Lists.{IsRising}
use Rattle.wf_views.specs.declared.pages.PageAt.{PageAt}
use Rattle.wf_views.specs.Lists.{found_by, inserted_by, without_by}
use Rattle.wf_views.specs.Pages.{page_number}
use Rattle.wf_views.proofs.KeyLemmas.{key_hit, key_searched, key_missed, key_inserted, without_at, without_none, rising_removed, rising_inserted}
use Rattle.wf_views.proofs.pages.place_of.Goals as goal

abbrev IsSearched : List PageAt → ℕ → Result ℕ ℕ → Type 0
IsSearched ps n r = IsBinarySearchResult (λ (p : PageAt). nat_cmp p.page n) ps r

none : PageAt
none = record { page = 0; write = false; frame = 0; going = false; ending = false }

found : (ps : List PageAt) (n : ℕ) (r : Result ℕ ℕ) → IsRising (map page_number ps) → IsSearchInRange r (length ps) → IsSearched ps n r
    → MatchResult r (λ at. (at < length ps) × (found_by page_number ps n ≡ slice_get ps at)) (λ at. (at ≤ length ps) × (found_by page_number ps n ≡ None))
found ps n (Ok i) up h r = (h, key_searched page_number ps n i up h r)
found ps n (Err i) up h r = (h, key_missed page_number ps n i up r)

without : (ps : List PageAt) (n : ℕ) (r : Result ℕ ℕ) → IsRising (map page_number ps) → IsSearchInRange r (length ps) → IsSearched ps n r
    → MatchResult r (λ at. (without_by page_number ps n ≡ remove ps at) × IsRising (map page_number (remove ps at))) (λ at. without_by page_number ps n ≡ ps)
without ps n (Ok i) up h r = (without_at page_number ps n i none up h (key_hit page_number ps n i none h r), rising_removed page_number ps i up)
without ps n (Err i) up h r = without_none page_number ps n (key_missed page_number ps n i up r)

with : (ps : List PageAt) (n : ℕ) (r : Result ℕ ℕ) → IsRising (map page_number ps) → IsSearchInRange r (length ps) → IsSearched ps n r
    → MatchResult r (λ at. (d : PageAt) → page_number (get_or ps at d) ≡ n)
    (λ at. (p : PageAt) → p.page ≡ n → (inserted_by page_number p ps ≡ insert ps at p) × IsRising (map page_number (insert ps at p)))
with ps n (Ok i) up h r = λ d. key_hit page_number ps n i d h r
with ps n (Err i) up h r = λ p e.
    let r' = subst (λ m. IsSearched ps m (Err i)) (sym e) r in
    let is = key_inserted page_number p ps i up h r' in
    (is, subst (λ qs. IsRising (map page_number qs)) is (rising_inserted page_number p ps up (key_missed page_number ps p.page i up r')))

pub returns-clause-found : goal.returns-clause-found
returns-clause-found c = found c.args.pages.now c.args.page c.binary_search_by_key.result c.requires c.binary_search_by_key.ensures.bound
    (c.binary_search_by_key.ensures.position page_number (answers_always _ _ _ (λ f a r g h. search rules)))

pub returns-clause-without : goal.returns-clause-without
returns-clause-without c = without c.args.pages.now c.args.page c.binary_search_by_key.result c.requires c.binary_search_by_key.ensures.bound
    (c.binary_search_by_key.ensures.position page_number (answers_always _ _ _ (λ f a r g h. search rules)))

pub returns-clause-with : goal.returns-clause-with
returns-clause-with c = with c.args.pages.now c.args.page c.binary_search_by_key.result c.requires c.binary_search_by_key.ensures.bound
    (c.binary_search_by_key.ensures.position page_number (answers_always _ _ _ (λ f a r g h. search rules)))
