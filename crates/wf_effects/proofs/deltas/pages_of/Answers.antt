use Rattle.std.proofs.Common.{rules, ◌≡◌, ◌++◌, ℕ, List, [], ◌∷◌, map, nat_eq, refl, ap, sym, subst}
use Rattle.std.specs.List.{IsDistinct}
use Rattle.std.specs.List.Sorted.{IsNonDecreasingBy}
use Rattle.std.proofs.lemmas.List.Sorted.{IsNonDecreasingBy-from_sort_by_key}
use Rattle.wf_outside.specs.Images.{data_numbers, text_numbers}
use Rattle.wf_flat.proofs.SortLemmas.{sorted_is}
use Rattle.wf_effects.proofs.deltas.pages_of.Goals as goal

same_numbers : (ns : List ℕ) → map (λ n. n) ns ≡ ns
same_numbers [] = refl
same_numbers (n ∷ ns) = ap (λ (ms : List ℕ). n ∷ ms) (same_numbers ns)

pub returns : goal.returns
returns c =
    let all : List ℕ = text_numbers c.args.delta.now.private ++ data_numbers c.args.delta.now.shared in
    let before : c.push_data.new.numbers.items ≡ all = search rules in
    let order : IsNonDecreasingBy (λ (n : ℕ). n) c.sort_by_key.new.self.items = IsNonDecreasingBy-from_sort_by_key (λ (n : ℕ). n) c.sort_by_key.new.self.items c.in_ok-sort_by_key.ensures.sorted (λ a r q k. search rules) in
    sorted_is (λ (n : ℕ). n) all c.sort_by_key.new.self.items (rw before at c.in_ok-sort_by_key.ensures.permutation) order (subst (IsDistinct nat_eq) (sym (same_numbers all)) c.requires)
