use Rattle.std.proofs.Common.{rules, ◌≡◌, ◌++◌, ℕ, List, nat_eq, sym, subst}
use Rattle.std.specs.List.{IsDistinct}
use Rattle.std.specs.List.Sorted.{IsNonDecreasingBy}
use Rattle.std.proofs.lemmas.List.Sorted.{IsNonDecreasingBy-from_sort_by_key}
use Rattle.wf_outside.specs.Images.{text_numbers}
use Rattle.wf_flat.proofs.SortLemmas.{sorted_is}
use Rattle.wf_creating.specs.Parents.{text_numbers_of}
use Rattle.wf_creating.proofs.TextLemmas.{map_same}
use Rattle.wf_patching.proofs.brought.patched_numbers.Goals as goal

pub returns : goal.returns
returns c =
    let all : List ℕ = text_numbers_of c.args.records.now c.args.parent ++ text_numbers c.args.delta.now.private in
    let before : c.push_private.new.numbers.items ≡ all = search rules in
    let order : IsNonDecreasingBy (λ (n : ℕ). n) c.sort_by_key.new.self.items = IsNonDecreasingBy-from_sort_by_key (λ (n : ℕ). n) c.sort_by_key.new.self.items c.in_ok-sort_by_key.ensures.sorted (λ a r q k. search rules) in
    sorted_is (λ (n : ℕ). n) all c.sort_by_key.new.self.items (rw before at c.in_ok-sort_by_key.ensures.permutation) order (subst (IsDistinct nat_eq) (sym (map_same all)) c.requires)
