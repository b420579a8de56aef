use Rattle.wf_stepping.proofs.UnitLemmas.{fault_here}
use Rattle.wf_stepping.proofs.stopping.fault.Goals as goal

pub stop-requires-clause-unit : goal.stop-requires-clause-unit
stop-requires-clause-unit c =
    fault_here c.args.process.now c.args.hart c.args.pc c.args.word c.requires.rests c.keeps_sound.ensures c.requires.found
    c.faults_are_units.ensures c.args.cause c.args.va c.requires.faulty
