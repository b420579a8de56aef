use Rattle.std.proofs.Common.{◌≤◌, ◌+◌, [], ◌∷◌, ◌∙◌, ap, arith}
use Rattle.wf_flat.specs.declared.event.Actor.TheVariants.{Hart}
use Rattle.wf_flat.specs.declared.event.Event.TheVariants.{Enter, Fetch, Trap}
use Rattle.wf_process.specs.Processes.{ProcessValue, with_entry}
use Rattle.wf_units.specs.Units.{entries_by}
use Rattle.wf_stepping.proofs.UnitLemmas.{here_legal, here_made, legal_behind, room_behind}
use Rattle.wf_stepping.proofs.stopping.stop.Goals as goal

pub enter-requires-clause-room : goal.enter-requires-clause-room
enter-requires-clause-room c =
    let le : 2 + 1 ≤ c.args.process.now.room = c.requires.room in
    let left : 2 ≤ c.fetch.new.self.room = room_behind c.args.process.now c.fetch.new.self (Hart c.args.hart) (Fetch c.args.pc c.args.word) c.fetch.ensures 2 le in
    omega (arith, left)

pub enter-requires-clause-may : goal.enter-requires-clause-may
enter-requires-clause-may c =
    (legal_behind c.args.process.now c.fetch.new.self (Hart c.args.hart) (Fetch c.args.pc c.args.word) c.fetch.ensures (entries_by c.args.hart (Enter ∷ Trap c.args.cause c.args.value ∷ []))
    (here_legal c.args.process.now c.args.hart (Fetch c.args.pc c.args.word ∷ Enter ∷ Trap c.args.cause c.args.value ∷ []) c.requires.rests
    c.requires.unit)).0

pub trap-requires-clause-room : goal.trap-requires-clause-room
trap-requires-clause-room c =
    let le : 2 + 1 ≤ c.args.process.now.room = c.requires.room in
    room_behind c.fetch.new.self c.enter.new.self (Hart c.args.hart) Enter c.enter.ensures 1
    (room_behind c.args.process.now c.fetch.new.self (Hart c.args.hart) (Fetch c.args.pc c.args.word) c.fetch.ensures 2 le)

pub trap-requires-clause-may : goal.trap-requires-clause-may
trap-requires-clause-may c =
    (legal_behind c.fetch.new.self c.enter.new.self (Hart c.args.hart) Enter c.enter.ensures (entries_by c.args.hart (Trap c.args.cause c.args.value ∷ []))
    (legal_behind c.args.process.now c.fetch.new.self (Hart c.args.hart) (Fetch c.args.pc c.args.word) c.fetch.ensures (entries_by c.args.hart (Enter ∷ Trap c.args.cause c.args.value ∷ []))
    (here_legal c.args.process.now c.args.hart (Fetch c.args.pc c.args.word ∷ Enter ∷ Trap c.args.cause c.args.value ∷ []) c.requires.rests
    c.requires.unit))).0

pub returns : goal.returns
returns c =
    here_made c.args.process.now c.trap.new.self c.args.hart (Fetch c.args.pc c.args.word ∷ Enter ∷ Trap c.args.cause c.args.value ∷ []) c.requires.rests
    c.requires.unit
    (c.trap.ensures ∙ ap (λ (p : ProcessValue). with_entry (Hart c.args.hart) (Trap c.args.cause c.args.value) p)
    (c.enter.ensures ∙ ap (λ (p : ProcessValue). with_entry (Hart c.args.hart) Enter p) c.fetch.ensures))
