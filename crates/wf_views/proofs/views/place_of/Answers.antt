use Rattle.std.proofs.Common.{rules, ◌≡◌, ◌<◌, ℕ, List, None, Ok, Err, Result, MatchOption, length, map, slice_get}
use Rattle.std.proofs.lemmas.List.Sorted.{answers_always}
use Rattle.std.specs.List.Sorted.{IsBinarySearchResult, IsSearchInRange}
use Rattle.std.specs.Ordering.{nat_cmp}
use Rattle.std.specs.Result.{result_ok}
use Rattle.wf_outside.specs.Lists.{IsRising}
use Rattle.wf_views.specs.declared.views.Place.{Place}
use Rattle.wf_views.specs.Lists.{found_by}
use Rattle.wf_views.specs.Kept.{place_number}
use Rattle.wf_views.proofs.KeyLemmas.{key_searched, key_missed}
use Rattle.wf_views.proofs.views.place_of.Goals as goal

placed : (ps : List Place) (n : ℕ) (r : Result ℕ ℕ) → IsRising (map place_number ps) → IsSearchInRange r (length ps) → IsBinarySearchResult (λ (p : Place). nat_cmp p.generation n) ps r
    → MatchOption (result_ok r) (found_by place_number ps n ≡ None) (λ at. (at < length ps) × (found_by place_number ps n ≡ slice_get ps at))
placed ps n (Ok i) up h r = (h, key_searched place_number ps n i up h r)
placed ps n (Err i) up h r = key_missed place_number ps n i up r

pub returns : goal.returns
returns c =
    let p = placed c.args.places.now c.args.generation c.binary_search_by_key.result c.requires c.binary_search_by_key.ensures.bound
    (c.binary_search_by_key.ensures.position (λ (p : Place). p.generation) (answers_always _ _ _ (λ f a r g h. search rules))) in
    rw c.ok.ensures.value p
