use Rattle.std.proofs.Common.{rules}
use Rattle.std.proofs.lemmas.List.Sorted.{answers_always}
use Rattle.wf_outside.specs.Pages.{PageValue}
use Rattle.wf_flat.proofs.TextLemmas.{page_searched, page_not_searched}
use Rattle.wf_flat.proofs.text.find_page.Goals as goal

pub returns-in-Ok : goal.returns-in-Ok
returns-in-Ok c =
    page_searched c.args.text.now c.args.number c.in-Ok.at c.index-text-at.result c.requires c.in-Ok.ensures.bound c.index-text-at.is
    (c.in-Ok.ensures.position (λ (p : PageValue). p.number) (answers_always _ _ _ (λ f a r g h. search rules)))

pub returns-in-Err : goal.returns-in-Err
returns-in-Err c =
    page_not_searched c.args.text.now c.args.number c.in-Err.field-0 c.requires
    (c.in-Err.ensures.position (λ (p : PageValue). p.number) (answers_always _ _ _ (λ f a r g h. search rules)))
