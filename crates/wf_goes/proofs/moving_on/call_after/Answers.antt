use Rattle.std.proofs.Common.{◌≡◌, ◌∙◌, Option, None, sym}
use Rattle.std.specs.Prelude.{if◌then◌else◌}
use Rattle.std.specs.Option.{option_map}
use Rattle.std.proofs.lemmas.Bool.{false≢true}
use Rattle.wf_flat.specs.declared.event.Event.TheVariants.{Enter}
use Rattle.wf_legal.specs.Calls.{call_behind, closes_call}
use Rattle.wf_legal.specs.Legal.{call_after}
use Rattle.wf_goes.specs.declared.call.OpenCall.{OpenCall}
use Rattle.wf_goes.specs.InHand.{moment_of, said}
use Rattle.wf_goes.proofs.RefusingLemmas.{ok_by}
use Rattle.wf_goes.proofs.SameLemmas.{events_decide}
use Rattle.wf_goes.proofs.SettledLemmas.{after_inside}
use Rattle.wf_goes.proofs.moving_on.call_after.Goals as goal

pub returns : goal.returns
returns c =
    let m = moment_of c.args.deltas.now c.args.flat.now (option_map said c.args.call) in
    let actor = c.args.entry.actor in
    let event = c.args.entry.event in
    ok_by c.call_inside.result
    (λ (next : Option OpenCall). option_map said next ≡ (if closes_call actor event then None else call_behind m.deltas m.flat actor m.call event))
    (λ (next : Option OpenCall). option_map said next ≡ call_after m actor event)
    (λ next e. e ∙ sym (after_inside m actor event (sym c.if-is_idle_kernel.ensures)
    (λ is. false≢true (sym c.if-eq.false ∙ (events_decide event Enter c.eq.result c.eq.ensures).1 is))
    (sym c.if-not-is_inside.ensures)))
    c.call_inside.ensures
