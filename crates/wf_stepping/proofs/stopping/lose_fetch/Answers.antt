use Rattle.std.proofs.Common.{[], ◌∷◌, ◌∙◌, ap}
use Rattle.rv_inst.specs.declared.causes.TheConstants.{INSTRUCTION_PAGE_FAULT}
use Rattle.wf_flat.specs.declared.event.Actor.TheVariants.{Hart}
use Rattle.wf_flat.specs.declared.event.Event.TheVariants.{Enter, Trap}
use Rattle.wf_process.specs.Processes.{ProcessValue, with_entry}
use Rattle.wf_units.specs.Units.{entries_by}
use Rattle.wf_stepping.proofs.UnitLemmas.{here_legal, here_made, legal_behind, lost_here, room_behind}
use Rattle.wf_stepping.proofs.stopping.lose_fetch.Goals as goal

pub trap-requires-clause-room : goal.trap-requires-clause-room
trap-requires-clause-room c = room_behind c.args.process.now c.enter.new.self (Hart c.args.hart) Enter c.enter.ensures 1 c.requires.room

pub trap-requires-clause-may : goal.trap-requires-clause-may
trap-requires-clause-may c =
    (legal_behind c.args.process.now c.enter.new.self (Hart c.args.hart) Enter c.enter.ensures (entries_by c.args.hart (Trap INSTRUCTION_PAGE_FAULT c.args.pc ∷ []))
    (here_legal c.args.process.now c.args.hart (Enter ∷ Trap INSTRUCTION_PAGE_FAULT c.args.pc ∷ []) c.requires.rests
    (lost_here c.lost_fetches_are_units.ensures c.args.process.now c.args.hart c.args.pc c.requires.rests c.keeps_sound.ensures c.requires.none))).0

pub returns : goal.returns
returns c =
    here_made c.args.process.now c.trap.new.self c.args.hart (Enter ∷ Trap INSTRUCTION_PAGE_FAULT c.args.pc ∷ []) c.requires.rests
    (lost_here c.lost_fetches_are_units.ensures c.args.process.now c.args.hart c.args.pc c.requires.rests c.keeps_sound.ensures c.requires.none)
    (c.trap.ensures ∙ ap (λ (p : ProcessValue). with_entry (Hart c.args.hart) (Trap INSTRUCTION_PAGE_FAULT c.args.pc) p) c.enter.ensures)
