use Rattle.std.proofs.Common.{rules, ◌≡◌, ◌++◌, List}
use Rattle.std.specs.List.Sorted.{IsNonDecreasingBy}
use Rattle.std.proofs.lemmas.List.Sorted.{IsNonDecreasingBy-from_sort_by_key}
use Rattle.wf_flat.specs.State.{PageState}
use Rattle.wf_flat.proofs.SortLemmas.{sorted_is}
use Rattle.wf_effects.proofs.mapping.add_pages.Goals as goal

pub returns-in-Ok-clause-sorted : goal.returns-in-Ok-clause-sorted
returns-in-Ok-clause-sorted c =
    let all : List PageState = c.args.pages.now.items ++ c.args.more.items in
    let before : c.append.new.self.items ≡ all = c.in_ok-append.ensures.items in
    let order : IsNonDecreasingBy (λ (p : PageState). p.number) c.sort_by_key.new.self.items = IsNonDecreasingBy-from_sort_by_key (λ (p : PageState). p.number) c.sort_by_key.new.self.items c.in-Ok.ensures.sorted (λ a r q k. search rules) in
    sorted_is (λ (p : PageState). p.number) all c.sort_by_key.new.self.items (rw before at c.in-Ok.ensures.permutation) order c.requires
