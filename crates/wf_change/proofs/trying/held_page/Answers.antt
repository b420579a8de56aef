use Rattle.std.proofs.Common.{◌∙◌, Some, ap, sym}
use Rattle.wf_flat.specs.State.{PageState}
use Rattle.wf_change.proofs.HeldLemmas.{held_here, same_holder}
use Rattle.wf_change.proofs.trying.held_page.Goals as goal

pub returns-then-eq : goal.returns-then-eq
returns-then-eq c =
    let page : PageState = c.in_ok-page.page.now in
    ap (λ (p : PageState). Some p.number) c.page.view_is
    ∙ held_here c.args.flat.now c.args.h c.args.hart.now c.in_ok-access.access page c.in_ok-access.ensures (sym c.in_ok-page.ensures)
    (ap (λ (p : PageState). p.holder) (sym c.page.view_is) ∙ same_holder c.page.inside.holder c.args.h c.if-eq.ensures)
