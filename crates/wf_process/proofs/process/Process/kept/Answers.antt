use Rattle.wf_process.specs.Processes.{start_of}
use Rattle.wf_process.proofs.ProcessLemmas.{hart_told}
use Rattle.wf_process.proofs.process.Process.kept.Goals as goal

pub returns : goal.returns
returns c =
    hart_told (start_of c.self.inside.deltas.items c.self.inside.image c.self.inside.count c.self.inside.limits) c.self.inside.entries c.args.self.now c.self.inside.body c.args.hart c.hart.result.now c.self.view_is c.self.invariant c.requires c.hart.ensures
