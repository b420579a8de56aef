use Rattle.wf_outside.specs.Pages.{page_of}
use Rattle.wf_process.specs.Finding.{IsFoundAt}
use Rattle.wf_process.specs.Processes.{start_of}
use Rattle.wf_process.proofs.ProcessLemmas.{can_walk, read_at}
use Rattle.wf_process.proofs.process.Process.found_at.Goals as goal

pub found_at-requires : goal.found_at-requires
found_at-requires c = can_walk (start_of c.self.inside.deltas.items c.self.inside.image c.self.inside.count c.self.inside.limits) c.self.inside.entries c.args.self.now c.self.inside.body c.args.hart c.hart.result.now c.self.view_is c.self.invariant c.requires c.hart.ensures

pub returns : goal.returns
returns c =
    read_at (λ s g. IsFoundAt s g c.args.va c.found_at.result) (start_of c.self.inside.deltas.items c.self.inside.image c.self.inside.count c.self.inside.limits) c.self.inside.entries c.args.self.now c.self.inside.body c.args.hart c.hart.result.now c.self.view_is c.self.invariant c.requires c.hart.ensures
    (λ homes s stands mapped apart. (c.found_at.ensures homes s stands mapped (apart (page_of c.args.va))).0)
