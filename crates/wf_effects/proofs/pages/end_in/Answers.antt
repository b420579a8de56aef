use Rattle.std.proofs.Common.{rules, ap, sym}
use Rattle.std.proofs.lemmas.List.Sorted.{answers_always}
use Rattle.wf_flat.specs.State.{PageState}
use Rattle.wf_flat.proofs.FoundLemmas.{changed_found, changed_none, key_searched, key_missed}
use Rattle.wf_effects.specs.Effects.{ending}
use Rattle.wf_effects.proofs.pages.end_in.Goals as goal

pub returns-in-Ok : goal.returns-in-Ok
returns-in-Ok c =
    let found = key_searched (λ (p : PageState). p.number) c.args.pages.now c.args.number c.in-Ok.at c.requires c.in-Ok.ensures.bound
    (c.in-Ok.ensures.position (λ (p : PageState). p.number) (answers_always _ _ _ (λ f a r g h. search rules))) in
    changed_found (λ (p : PageState). p.number) ending c.args.pages.now c.args.number c.in-Ok.at c.index-pages-at.result _ c.requires c.in-Ok.ensures.bound found (ap ending c.page.view_is)

pub returns-in_default : goal.returns-in_default
returns-in_default c =
    sym (changed_none (λ (p : PageState). p.number) ending c.args.pages.now c.args.number
    (key_missed (λ (p : PageState). p.number) c.args.pages.now c.args.number c.in_default.field-0 c.requires
    (c.in_default.ensures.position (λ (p : PageState). p.number) (answers_always _ _ _ (λ f a r g h. search rules)))))
