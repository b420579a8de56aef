use Rattle.std.proofs.Common.{◌≤◌, ◌+◌, [], ◌∷◌, ◌∙◌, ap, arith}
use Rattle.wf_flat.specs.declared.event.Actor.TheVariants.{Hart}
use Rattle.wf_flat.specs.declared.event.Event.TheVariants.{End, Fetch, Look}
use Rattle.wf_process.specs.Processes.{ProcessValue, with_entry}
use Rattle.wf_units.specs.Units.{entries_by}
use Rattle.wf_stepping.proofs.LoadLemmas.{looks_plainly, text_load_by, text_load_here, text_load_holds, text_load_leaves}
use Rattle.wf_stepping.proofs.UnitLemmas.{here_legal, here_made, legal_behind, room_behind}
use Rattle.wf_stepping.proofs.loading.load_text.Goals as goal

pub look-requires-clause-room : goal.look-requires-clause-room
look-requires-clause-room c =
    let le : 2 + 1 ≤ c.args.process.now.room = c.requires.room in
    let left : 2 ≤ c.fetch.new.self.room = room_behind c.args.process.now c.fetch.new.self (Hart c.args.hart) (Fetch c.args.pc c.args.word) c.fetch.ensures 2 le in
    omega (arith, left)

pub look-requires-clause-may : goal.look-requires-clause-may
look-requires-clause-may c =
    (legal_behind c.args.process.now c.fetch.new.self (Hart c.args.hart) (Fetch c.args.pc c.args.word) c.fetch.ensures (entries_by c.args.hart (Look c.args.load.va c.args.load.width c.args.load.value ∷ End c.args.next.pc ∷ []))
    (here_legal c.args.process.now c.args.hart (Fetch c.args.pc c.args.word ∷ Look c.args.load.va c.args.load.width c.args.load.value ∷ End c.args.next.pc ∷ []) c.requires.rests
    (text_load_here c.args.process.now c.args.hart c.args.pc c.args.word c.args.load c.args.next (text_load_by c.args.process.now c.args.hart c.args.pc c.args.word c.requires.rests c.keeps_sound.ensures c.requires.found c.args.load c.args.next c.requires.loads) c.text_loads_are_units.ensures))).0

pub look-requires-clause-plain : goal.look-requires-clause-plain
look-requires-clause-plain c =
    looks_plainly c.args.process.now c.args.hart c.args.pc c.args.word c.args.load c.args.next (text_load_by c.args.process.now c.args.hart c.args.pc c.args.word c.requires.rests c.keeps_sound.ensures c.requires.found c.args.load c.args.next c.requires.loads) c.fetch.new.self c.fetch.ensures

pub end-requires-clause-room : goal.end-requires-clause-room
end-requires-clause-room c =
    let le : 2 + 1 ≤ c.args.process.now.room = c.requires.room in
    let left : 2 ≤ c.fetch.new.self.room = room_behind c.args.process.now c.fetch.new.self (Hart c.args.hart) (Fetch c.args.pc c.args.word) c.fetch.ensures 2 le in
    room_behind c.fetch.new.self c.look.new.self (Hart c.args.hart) (Look c.args.load.va c.args.load.width c.args.load.value) c.look.ensures 1 left

pub end-requires-clause-may : goal.end-requires-clause-may
end-requires-clause-may c =
    (legal_behind c.fetch.new.self c.look.new.self (Hart c.args.hart) (Look c.args.load.va c.args.load.width c.args.load.value) c.look.ensures (entries_by c.args.hart (End c.args.next.pc ∷ []))
    (legal_behind c.args.process.now c.fetch.new.self (Hart c.args.hart) (Fetch c.args.pc c.args.word) c.fetch.ensures (entries_by c.args.hart (Look c.args.load.va c.args.load.width c.args.load.value ∷ End c.args.next.pc ∷ []))
    (here_legal c.args.process.now c.args.hart (Fetch c.args.pc c.args.word ∷ Look c.args.load.va c.args.load.width c.args.load.value ∷ End c.args.next.pc ∷ []) c.requires.rests
    (text_load_here c.args.process.now c.args.hart c.args.pc c.args.word c.args.load c.args.next (text_load_by c.args.process.now c.args.hart c.args.pc c.args.word c.requires.rests c.keeps_sound.ensures c.requires.found c.args.load c.args.next c.requires.loads) c.text_loads_are_units.ensures)))).0

pub end-requires-clause-next : goal.end-requires-clause-next
end-requires-clause-next c =
    text_load_leaves c.args.process.now c.args.hart c.args.pc c.args.word c.args.load c.args.next (text_load_by c.args.process.now c.args.hart c.args.pc c.args.word c.requires.rests c.keeps_sound.ensures c.requires.found c.args.load c.args.next c.requires.loads) c.fetch.new.self c.fetch.ensures c.look.new.self c.look.ensures

pub end-requires-clause-free : goal.end-requires-clause-free
end-requires-clause-free c =
    text_load_holds c.args.process.now c.args.hart c.args.pc c.args.word c.args.load c.args.next (text_load_by c.args.process.now c.args.hart c.args.pc c.args.word c.requires.rests c.keeps_sound.ensures c.requires.found c.args.load c.args.next c.requires.loads) c.fetch.new.self c.fetch.ensures c.look.new.self c.look.ensures

pub returns : goal.returns
returns c =
    here_made c.args.process.now c.end.new.self c.args.hart (Fetch c.args.pc c.args.word ∷ Look c.args.load.va c.args.load.width c.args.load.value ∷ End c.args.next.pc ∷ []) c.requires.rests
    (text_load_here c.args.process.now c.args.hart c.args.pc c.args.word c.args.load c.args.next (text_load_by c.args.process.now c.args.hart c.args.pc c.args.word c.requires.rests c.keeps_sound.ensures c.requires.found c.args.load c.args.next c.requires.loads) c.text_loads_are_units.ensures)
    (c.end.ensures ∙ ap (λ (p : ProcessValue). with_entry (Hart c.args.hart) (End c.args.next.pc) p)
    (c.look.ensures ∙ ap (λ (p : ProcessValue). with_entry (Hart c.args.hart) (Look c.args.load.va c.args.load.width c.args.load.value) p) c.fetch.ensures))
