use Rattle.std.proofs.Common.{rules, sym, map, subst, nat_eq}
use Rattle.std.specs.List.{IsDistinct}
use Rattle.std.specs.List.Sorted.{IsNonDecreasingBy}
use Rattle.std.proofs.lemmas.List.Sorted.{IsNonDecreasingBy-from_sort_by_key}
use Rattle.wf_flat.specs.State.{PageState}
use Rattle.wf_flat.specs.Boot.{fresh_page}
use Rattle.wf_flat.proofs.SortLemmas.{sorted_is}
use Rattle.wf_flat.proofs.BootLemmas.{fresh_numbers}
use Rattle.wf_flat.proofs.booting.sorted_copies.Goals as goal

pub returns : goal.returns
returns c =
    let order : IsNonDecreasingBy (λ (p : PageState). p.number) c.sort_by_key.new.self.items = IsNonDecreasingBy-from_sort_by_key (λ (p : PageState). p.number) c.sort_by_key.new.self.items c.in_ok-sort_by_key.ensures.sorted (λ a r q k. search rules) in
    let apart : IsDistinct nat_eq (map (λ (p : PageState). p.number) (map fresh_page c.args.pages.now)) = subst (IsDistinct nat_eq) (sym (fresh_numbers c.args.pages.now)) c.requires in
    sorted_is (λ (p : PageState). p.number) (map fresh_page c.args.pages.now) c.sort_by_key.new.self.items (rw c.in_ok-copies.ensures at c.in_ok-sort_by_key.ensures.permutation) order apart
