use Rattle.std.proofs.Common.{rules, ◌≡◌}
use Rattle.std.specs.List.Sorted.{IsNonDecreasingBy}
use Rattle.std.proofs.lemmas.List.Sorted.{IsNonDecreasingBy-from_sort_by_key}
use Rattle.wf_outside.specs.Pages.{PageValue}
use Rattle.wf_flat.specs.Lists.{sorted_by}
use Rattle.wf_flat.proofs.SortLemmas.{sorted_is, IsRising-sorted_by}
use Rattle.wf_flat.proofs.booting.sorted_text.Goals as goal

pub returns-clause-sorted : goal.returns-clause-sorted
returns-clause-sorted c =
    let order : IsNonDecreasingBy (λ (p : PageValue). p.number) c.sort_by_key.new.self.items = IsNonDecreasingBy-from_sort_by_key (λ (p : PageValue). p.number) c.sort_by_key.new.self.items c.in_ok-sort_by_key.ensures.sorted (λ a r q k. search rules) in
    sorted_is (λ (p : PageValue). p.number) c.args.pages.now c.sort_by_key.new.self.items (rw c.in_ok-text.ensures at c.in_ok-sort_by_key.ensures.permutation) order c.requires

pub returns-clause-rising : goal.returns-clause-rising
returns-clause-rising c =
    let order : IsNonDecreasingBy (λ (p : PageValue). p.number) c.sort_by_key.new.self.items = IsNonDecreasingBy-from_sort_by_key (λ (p : PageValue). p.number) c.sort_by_key.new.self.items c.in_ok-sort_by_key.ensures.sorted (λ a r q k. search rules) in
    let same : c.sort_by_key.new.self.items ≡ sorted_by (λ (p : PageValue). p.number) c.args.pages.now = sorted_is (λ (p : PageValue). p.number) c.args.pages.now c.sort_by_key.new.self.items (rw c.in_ok-text.ensures at c.in_ok-sort_by_key.ensures.permutation) order c.requires in
    rw same (IsRising-sorted_by (λ (p : PageValue). p.number) c.args.pages.now c.requires)
