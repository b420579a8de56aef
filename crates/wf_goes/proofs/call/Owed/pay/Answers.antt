use Rattle.std.proofs.Common.{◌≡◌, ◌∙◌, Some, sym, subst, ap, arith, List, ℕ, slice_get}
use Rattle.wf_outside.specs.Lists.{IsRising}
use Rattle.wf_goes.proofs.NextLemmas.{dropped, first_other, first_same, first_within, paid_first, paid_none, rising_rest}
use Rattle.wf_goes.proofs.call.Owed.pay.Goals as goal

pub invariant_of-self : goal.invariant_of-self
invariant_of-self c =
    let pages = c.self.inside.pages in
    let gone = c.self.inside.gone in
    let first : slice_get c.args.self.now 0 ≡ Some c.args.page = sym c.first.ensures.first ∙ first_same c.first.result c.args.page c.if-eq.ensures in
    let within = first_within gone pages.items c.args.page (ap (λ (ns : List ℕ). slice_get ns 0) c.self.view_is ∙ first) in (
      omega (arith, within, pages.ok.0),
      subst IsRising (sym (dropped gone pages.items c.args.self.now c.self.view_is)) (rising_rest c.args.self.now c.first.ensures.rising),
    )

pub returns-then-eq : goal.returns-then-eq
returns-then-eq c =
    dropped c.self.inside.gone c.self.inside.pages.items c.args.self.now c.self.view_is
    ∙ paid_first c.args.page c.args.self.now c.first.ensures.rising (sym c.first.ensures.first ∙ first_same c.first.result c.args.page c.if-eq.ensures)

pub returns-else-eq : goal.returns-else-eq
returns-else-eq c =
    paid_none c.args.page c.args.self.now c.first.ensures.rising c.requires (λ e. first_other c.first.result c.args.page c.if-eq.ensures (c.first.ensures.first ∙ e))
