use Rattle.std.proofs.Common.{rules, ◌≡◌, ◌≤◌, ℕ, List, true, false, Ok, Err, Result, length, ap, ◌∙◌, map, is_some}
use Rattle.std.specs.Prelude.{MatchResult}
use Rattle.std.proofs.lemmas.List.Sorted.{answers_always}
use Rattle.std.specs.List.{insert}
use Rattle.std.specs.List.Sorted.{IsBinarySearchResult, IsSearchInRange}
use Rattle.std.specs.Ordering.{nat_cmp}
use Rattle.wf_outside.specs.Lists.{IsRising}
use Rattle.wf_flat.specs.Memory.{met_key, has_met, with_met}
use Rattle.wf_flat.proofs.FoundLemmas.{key_searched, key_missed, key_inserted, there_is}
use Rattle.wf_flat.proofs.data.met_at.Goals as goal

met : (pairs : List (ℕ × ℕ)) (generation page n : ℕ) (r : Result ℕ ℕ) → n ≡ met_key (generation, page) → IsRising (map met_key pairs) → IsSearchInRange r (length pairs) → IsBinarySearchResult (λ (p : ℕ × ℕ). nat_cmp (met_key p) n) pairs r
    → MatchResult r (λ at. has_met pairs generation page ≡ true) (λ at. (has_met pairs generation page ≡ false) × (at ≤ length pairs) × (with_met pairs generation page ≡ insert pairs at (generation, page)))
met pairs generation page n (Ok i) e up h r =
    let r' = rw e at r in
    ap is_some (key_searched met_key pairs (met_key (generation, page)) i up h r') ∙ there_is pairs i h
met pairs generation page n (Err i) e up h r =
    let r' = rw e at r in
    (ap is_some (key_missed met_key pairs (met_key (generation, page)) i up r'), h, key_inserted met_key (generation, page) pairs i up h r')

pub returns : goal.returns
returns c = met c.args.met.now c.args.generation c.args.page c.key_of.result c.binary_search_by_key.result c.key_of.ensures c.requires c.binary_search_by_key.ensures.bound
    (c.binary_search_by_key.ensures.position met_key (answers_always _ _ _ (λ f a r g h. search rules)))
