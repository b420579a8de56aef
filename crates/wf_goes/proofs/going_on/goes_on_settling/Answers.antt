use Rattle.std.proofs.Common.{◌↔◌, ◌∙◌, Bool, Some, IsTrue, ap, sym, is_some}
use Rattle.std.proofs.lemmas.Bool.{false≢true}
use Rattle.wf_legal.specs.Calls.{Begins, GoesOn, Settling}
use Rattle.wf_goes.proofs.RefusingLemmas.{ok_by}
use Rattle.wf_goes.proofs.SettledLemmas.{none_owed, settled_decides}
use Rattle.wf_goes.proofs.going_on.goes_on_settling.Goals as goal

pub returns : goal.returns
returns c =
    let deltas = c.args.deltas.now in
    let s = c.args.flat.now in
    let owed = c.args.owed.now in
    let entry = c.args.entry in
    ok_by c.begins.result (λ (b : Bool). IsTrue b ↔ Begins deltas s entry.actor entry.event) (λ (b : Bool). IsTrue b ↔ GoesOn deltas s entry.actor (Some (Settling owed c.args.last)) entry.event)
    (λ b d. settled_decides deltas s entry.actor owed c.args.last entry.event b
    (λ g. false≢true (sym c.if-settles.false ∙ c.settles.ensures.1 g))
    (none_owed owed (ap is_some (sym c.first.ensures.first) ∙ sym c.is_some.ensures ∙ c.if-is_some.false)) d)
    c.begins.ensures
