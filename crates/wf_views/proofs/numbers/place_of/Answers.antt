use Rattle.std.proofs.Common.{◌≡◌, ◌<◌, ◌≤◌, ℕ, List, true, false, Ok, Err, Result, MatchResult, length, map, sym, ap, ◌∙◌, subst, is_some}
use Rattle.std.specs.List.{insert, remove}
use Rattle.std.specs.List.Sorted.{IsBinarySearchResult, IsSearchInRange}
use Rattle.std.specs.Ordering.{nat_cmp}
use Rattle.wf_outside.specs.Lists.{IsRising}
use Rattle.wf_views.specs.Lists.{has_number, inserted_by, itself, without_by}
use Rattle.wf_views.proofs.KeyLemmas.{found_at, key_hit, key_missed, key_inserted, without_at, without_none, rising_removed, rising_inserted, map_itself}
use Rattle.wf_views.proofs.numbers.place_of.Goals as goal

keyed : (ns : List ℕ) → IsRising ns → IsRising (map itself ns)
keyed ns up = subst IsRising (sym (map_itself ns)) up

there : (ns : List ℕ) (n : ℕ) (r : Result ℕ ℕ) → IsRising ns → IsSearchInRange r (length ns) → IsBinarySearchResult (λ y. nat_cmp y n) ns r
    → MatchResult r (λ at. has_number ns n ≡ true) (λ at. has_number ns n ≡ false)
there ns n (Ok i) up h r = ap is_some (found_at itself ns n i 0 (keyed ns up) h (key_hit itself ns n i 0 h r))
there ns n (Err i) up h r = ap is_some (key_missed itself ns n i (keyed ns up) r)

place : (ns : List ℕ) (n : ℕ) (r : Result ℕ ℕ) → IsRising ns → IsSearchInRange r (length ns) → IsBinarySearchResult (λ y. nat_cmp y n) ns r
    → MatchResult r (λ at. (at < length ns) × (without_by itself ns n ≡ remove ns at))
    (λ at. (at ≤ length ns) × (without_by itself ns n ≡ ns) × (inserted_by itself n ns ≡ insert ns at n))
place ns n (Ok i) up h r = (h, without_at itself ns n i 0 (keyed ns up) h (key_hit itself ns n i 0 h r))
place ns n (Err i) up h r = (h, without_none itself ns n (key_missed itself ns n i (keyed ns up) r), key_inserted itself n ns i (keyed ns up) h r)

rising : (ns : List ℕ) (n : ℕ) (r : Result ℕ ℕ) → IsRising ns → IsSearchInRange r (length ns) → IsBinarySearchResult (λ y. nat_cmp y n) ns r
    → MatchResult r (λ at. IsRising (remove ns at)) (λ at. IsRising (insert ns at n))
rising ns n (Ok i) up h r = subst IsRising (map_itself (remove ns i)) (rising_removed itself ns i (keyed ns up))
rising ns n (Err i) up h r =
    let up' = keyed ns up in
    subst IsRising (map_itself (inserted_by itself n ns) ∙ key_inserted itself n ns i up' h r) (rising_inserted itself n ns up' (key_missed itself ns n i up' r))

pub returns-clause-there : goal.returns-clause-there
returns-clause-there c = there c.args.numbers.now c.args.number c.binary_search.result c.requires c.binary_search.ensures.bound c.binary_search.ensures.position

pub returns-clause-place : goal.returns-clause-place
returns-clause-place c = place c.args.numbers.now c.args.number c.binary_search.result c.requires c.binary_search.ensures.bound c.binary_search.ensures.position

pub returns-clause-rising : goal.returns-clause-rising
returns-clause-rising c = rising c.args.numbers.now c.args.number c.binary_search.result c.requires c.binary_search.ensures.bound c.binary_search.ensures.position
