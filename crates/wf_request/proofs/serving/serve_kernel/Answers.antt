use Rattle.wf_request.proofs.ServedLemmas.{as_entered, as_written, call_adds, call_harts, call_rests, has_asked}
use Rattle.wf_request.proofs.serving.serve_kernel.Goals as goal

pub serve-requires-clause-sound : goal.serve-requires-clause-sound
serve-requires-clause-sound c =
    (has_asked c.entries_keep_sound.ensures c.args.deltas.now c.args.flat.now c.enter.new.self c.args.request c.requires.sound c.requires.rests c.requires.births c.requires.request c.enter.ensures).sound

pub returns-in-Ok-clause-ok : goal.returns-in-Ok-clause-ok
returns-in-Ok-clause-ok c =
    call_adds c.entries_keep_sound.ensures c.journals_keep_sound.ensures c.allowed_can_be_made.ensures c.args.deltas.now c.args.flat.now c.args.request c.requires.sound c.requires.rests c.requires.births c.requires.request c.serve.new.flat c.args.journal.now.items c.serve.new.journal.items
    (as_entered c.args.deltas.now c.args.flat.now c.enter.new.self c.serve.new.flat c.args.request c.enter.ensures c.in-Ok.ensures.ok)
    (as_written c.args.deltas.now c.args.flat.now c.enter.new.self c.args.request c.args.journal.now.items c.serve.new.journal.items c.enter.ensures c.in-Ok.ensures.journal)

pub returns-in-Ok-clause-rests : goal.returns-in-Ok-clause-rests
returns-in-Ok-clause-rests c =
    call_rests c.entries_keep_sound.ensures c.journals_keep_sound.ensures c.allowed_can_be_made.ensures c.args.deltas.now c.args.flat.now c.args.request c.requires.sound c.requires.rests c.requires.births c.requires.request c.serve.new.flat
    (as_entered c.args.deltas.now c.args.flat.now c.enter.new.self c.serve.new.flat c.args.request c.enter.ensures c.in-Ok.ensures.ok)

pub returns-in-Ok-clause-harts : goal.returns-in-Ok-clause-harts
returns-in-Ok-clause-harts c =
    call_harts c.entries_keep_sound.ensures c.journals_keep_sound.ensures c.allowed_can_be_made.ensures c.args.deltas.now c.args.flat.now c.args.request c.requires.sound c.requires.rests c.requires.births c.requires.request c.serve.new.flat
    (as_entered c.args.deltas.now c.args.flat.now c.enter.new.self c.serve.new.flat c.args.request c.enter.ensures c.in-Ok.ensures.ok)
