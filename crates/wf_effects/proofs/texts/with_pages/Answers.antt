use Rattle.std.proofs.Common.{rules, ◌≡◌, ◌++◌, ◌∙◌, List, ap}
use Rattle.std.specs.List.Sorted.{IsNonDecreasingBy}
use Rattle.std.proofs.lemmas.List.Sorted.{IsNonDecreasingBy-from_sort_by_key}
use Rattle.wf_outside.specs.Pages.{PageValue}
use Rattle.wf_effects.specs.Texts.{with_pages}
use Rattle.wf_flat.proofs.SortLemmas.{sorted_is, IsRising-sorted_by}
use Rattle.wf_effects.proofs.texts.with_pages.Goals as goal

pub returns-clause-sorted : goal.returns-clause-sorted
returns-clause-sorted c =
    let all : List PageValue = c.args.text.now ++ c.args.pages.now in
    let before : c.push_copies-2.new.text.items ≡ all =
    c.in_ok-push_copies-2.ensures ∙ ap (λ (xs : List PageValue). xs ++ c.args.pages.now) (c.in_ok-push_copies.ensures ∙ ap (λ (xs : List PageValue). xs ++ c.args.text.now) c.new-copies.ensures.items) in
    let order : IsNonDecreasingBy (λ (p : PageValue). p.number) c.sort_by_key.new.self.items = IsNonDecreasingBy-from_sort_by_key (λ (p : PageValue). p.number) c.sort_by_key.new.self.items c.in_ok-sort_by_key.ensures.sorted (λ a r q k. search rules) in
    sorted_is (λ (p : PageValue). p.number) all c.sort_by_key.new.self.items (rw before at c.in_ok-sort_by_key.ensures.permutation) order c.requires

pub returns-clause-rising : goal.returns-clause-rising
returns-clause-rising c =
    let all : List PageValue = c.args.text.now ++ c.args.pages.now in
    let before : c.push_copies-2.new.text.items ≡ all =
    c.in_ok-push_copies-2.ensures ∙ ap (λ (xs : List PageValue). xs ++ c.args.pages.now) (c.in_ok-push_copies.ensures ∙ ap (λ (xs : List PageValue). xs ++ c.args.text.now) c.new-copies.ensures.items) in
    let order : IsNonDecreasingBy (λ (p : PageValue). p.number) c.sort_by_key.new.self.items = IsNonDecreasingBy-from_sort_by_key (λ (p : PageValue). p.number) c.sort_by_key.new.self.items c.in_ok-sort_by_key.ensures.sorted (λ a r q k. search rules) in
    let same : c.sort_by_key.new.self.items ≡ with_pages c.args.text.now c.args.pages.now = sorted_is (λ (p : PageValue). p.number) all c.sort_by_key.new.self.items (rw before at c.in_ok-sort_by_key.ensures.permutation) order c.requires in
    rw same (IsRising-sorted_by (λ (p : PageValue). p.number) all c.requires)
