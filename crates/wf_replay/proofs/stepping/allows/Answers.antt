use Rattle.std.proofs.Common.{◌↔◌, Bool, IsTrue, sym}
use Rattle.wf_legal.specs.Calls.{GoesOn}
use Rattle.wf_legal.specs.Legal.{Allows}
use Rattle.wf_replay.specs.Replayed.{moment_at}
use Rattle.wf_replay.proofs.AllowsLemmas.{inside_decides, ok_by}
use Rattle.wf_replay.proofs.stepping.allows.Goals as goal

pub goes_on-requires-clause-patches : goal.goes_on-requires-clause-patches
goes_on-requires-clause-patches c = (c.sound_is_within_limits.ensures (moment_at c.args.deltas.now c.args.replayed.now) c.requires).1

pub returns-then-is_inside : goal.returns-then-is_inside
returns-then-is_inside c =
    let m = moment_at c.args.deltas.now c.args.replayed.now in
    let actor = c.args.entry.actor in
    let event = c.args.entry.event in
    ok_by c.goes_on.result (λ (b : Bool). IsTrue b ↔ GoesOn m.deltas m.flat actor m.call event) (λ (b : Bool). IsTrue b ↔ Allows m actor event)
    (λ b d. inside_decides m actor event b (sym c.if-is_idle_kernel.ensures) (sym c.if-is_inside.ensures) d)
    c.goes_on.ensures
