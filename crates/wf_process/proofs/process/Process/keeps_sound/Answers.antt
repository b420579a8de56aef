use Rattle.wf_process.specs.Processes.{start_of}
use Rattle.wf_process.proofs.ProcessLemmas.{stands_sound}
use Rattle.wf_process.proofs.process.Process.keeps_sound.Goals as goal

pub returns : goal.returns
returns c = stands_sound (start_of c.self.inside.deltas.items c.self.inside.image c.self.inside.count c.self.inside.limits) c.self.inside.entries c.args.self.now c.self.inside.body c.self.view_is c.self.invariant
