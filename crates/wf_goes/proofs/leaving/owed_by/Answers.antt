use Rattle.std.proofs.Common.{◌≡◌, ◌∙◌, ◌++◌, List, sym, ap, subst, length, map, arith}
use Rattle.std.specs.List.{filter}
use Rattle.std.proofs.lemmas.List.{append-nil, drop_all}
use Rattle.wf_outside.specs.Lists.{IsRising}
use Rattle.wf_flat.specs.State.{FlatState, PageState}
use Rattle.wf_legal.specs.Calls.{may_go, owed_by}
use Rattle.wf_effects.proofs.OrderLemmas.{rising_kept}
use Rattle.wf_goes.proofs.leaving.owed_by.Goals as goal

pub new-requires : goal.new-requires
new-requires c =
    let pages = c.args.flat.now.pages in
    let items = c.loop-page.numbers.items in
    let as_many = ap (λ (ps : List PageState). length ps) (c.deref-page-items.ensures.value ∙ ap (λ (s : FlatState). s.pages) c.flat.view_is) in
    let none = drop_all c.loop-page.page-index pages (omega (arith, as_many)) in
    let whole : items ≡ owed_by c.args.flat.now = sym (append-nil items) ∙ ap (λ (ps : List PageState). items ++ map (λ page. page.number) (filter may_go ps)) (sym none) ∙ c.loop-page.invariant in
    subst IsRising (sym whole) (rising_kept (λ (page : PageState). page.number) may_go pages c.requires.pages)
