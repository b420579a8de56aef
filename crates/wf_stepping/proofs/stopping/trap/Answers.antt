use Rattle.wf_stepping.proofs.UnitLemmas.{trap_here}
use Rattle.wf_stepping.proofs.stopping.trap.Goals as goal

pub stop-requires-clause-unit : goal.stop-requires-clause-unit
stop-requires-clause-unit c =
    trap_here c.args.process.now c.args.hart c.args.pc c.args.word c.requires.rests c.keeps_sound.ensures c.requires.found
    c.illegal_words_are_units.ensures c.traps_are_units.ensures c.args.cause c.args.value c.requires.told
