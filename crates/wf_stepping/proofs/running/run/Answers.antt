use Rattle.std.proofs.Common.{[], ◌∷◌, ◌∙◌, ap}
use Rattle.wf_flat.specs.declared.event.Actor.TheVariants.{Hart}
use Rattle.wf_flat.specs.declared.event.Event.TheVariants.{End, Fetch}
use Rattle.wf_process.specs.Processes.{ProcessValue, with_entry}
use Rattle.wf_units.specs.Units.{entries_by}
use Rattle.wf_stepping.proofs.UnitLemmas.{here_legal, here_made, holds_none, leaves_next, legal_behind, room_behind, run_here}
use Rattle.wf_stepping.proofs.running.run.Goals as goal

pub end-requires-clause-room : goal.end-requires-clause-room
end-requires-clause-room c = room_behind c.args.process.now c.fetch.new.self (Hart c.args.hart) (Fetch c.args.pc c.args.word) c.fetch.ensures 1 c.requires.room

pub end-requires-clause-may : goal.end-requires-clause-may
end-requires-clause-may c =
    (legal_behind c.args.process.now c.fetch.new.self (Hart c.args.hart) (Fetch c.args.pc c.args.word) c.fetch.ensures (entries_by c.args.hart (End c.args.next.pc ∷ []))
    (here_legal c.args.process.now c.args.hart (Fetch c.args.pc c.args.word ∷ End c.args.next.pc ∷ []) c.requires.rests
    (run_here c.args.process.now c.args.hart c.args.pc c.args.word c.requires.rests c.keeps_sound.ensures c.requires.found c.runs_are_units.ensures c.args.next c.requires.runs))).0

pub end-requires-clause-next : goal.end-requires-clause-next
end-requires-clause-next c = leaves_next c.args.process.now c.args.hart c.args.pc c.args.word c.requires.rests c.keeps_sound.ensures c.requires.found c.fetch.new.self c.fetch.ensures c.args.next c.requires.runs

pub end-requires-clause-free : goal.end-requires-clause-free
end-requires-clause-free c = holds_none c.args.process.now c.args.hart c.args.pc c.args.word c.requires.rests c.keeps_sound.ensures c.requires.found c.fetch.new.self c.fetch.ensures c.args.next c.requires.runs

pub returns : goal.returns
returns c =
    here_made c.args.process.now c.end.new.self c.args.hart (Fetch c.args.pc c.args.word ∷ End c.args.next.pc ∷ []) c.requires.rests
    (run_here c.args.process.now c.args.hart c.args.pc c.args.word c.requires.rests c.keeps_sound.ensures c.requires.found c.runs_are_units.ensures c.args.next c.requires.runs)
    (c.end.ensures ∙ ap (λ (p : ProcessValue). with_entry (Hart c.args.hart) (End c.args.next.pc) p) c.fetch.ensures)
