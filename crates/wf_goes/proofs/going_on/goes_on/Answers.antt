use Rattle.std.proofs.Common.{◌≡◌, ◌↔◌, ◌∙◌, Bool, Option, Some, IsTrue, ap, subst, sym}
use Rattle.std.specs.Option.{option_map}
use Rattle.wf_legal.specs.Calls.{Call, GoesOn, Settling}
use Rattle.wf_goes.specs.declared.call.OpenCall.{OpenCall}
use Rattle.wf_goes.specs.InHand.{said}
use Rattle.wf_goes.proofs.RefusingLemmas.{ok_by}
use Rattle.wf_goes.proofs.going_on.goes_on.Goals as goal

pub returns-in-Settling : goal.returns-in-Settling
returns-in-Settling c =
    let deltas = c.args.deltas.now in
    let s = c.args.flat.now in
    let actor = c.args.entry.actor in
    let event = c.args.entry.event in
    let is : option_map said c.args.call.now ≡ Some (Settling c.in-Settling.owed c.in-Settling.last) =
    ap (λ (o : Option OpenCall). option_map said o) (c.in-Some.is ∙ ap (λ (call : OpenCall). Some call) c.in-Settling.is) in
    ok_by c.goes_on_settling.result
    (λ (b : Bool). IsTrue b ↔ GoesOn deltas s actor (Some (Settling c.in-Settling.owed c.in-Settling.last)) event)
    (λ (b : Bool). IsTrue b ↔ GoesOn deltas s actor (option_map said c.args.call.now) event)
    (λ b d. subst (λ (call : Option Call). IsTrue b ↔ GoesOn deltas s actor call event) (sym is) d)
    c.goes_on_settling.ensures
