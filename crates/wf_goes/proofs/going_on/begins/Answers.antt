use Rattle.std.proofs.Common.{◌↔◌, Bool, IsTrue, subst, sym}
use Rattle.wf_flat.specs.declared.event.Actor.{Actor}
use Rattle.wf_legal.specs.Calls.{Begins, BeginsRequest}
use Rattle.wf_goes.proofs.RefusingLemmas.{ok_by}
use Rattle.wf_goes.proofs.going_on.begins.Goals as goal

pub returns-in-Kernel : goal.returns-in-Kernel
returns-in-Kernel c =
    let deltas = c.args.deltas.now in
    let s = c.args.flat.now in
    let event = c.args.event in
    ok_by c.begins_request.result (λ (b : Bool). IsTrue b ↔ BeginsRequest deltas s event) (λ (b : Bool). IsTrue b ↔ Begins deltas s c.args.actor event)
    (λ b d. subst (λ (actor : Actor). IsTrue b ↔ Begins deltas s actor event) (sym c.in-Kernel.is) d) c.begins_request.ensures
