use Rattle.std.proofs.Common.{◌≡◌}
use Rattle.wf_process.specs.Finding.{text_bytes}
use Rattle.wf_process.specs.Processes.{start_of}
use Rattle.wf_process.proofs.ProcessLemmas.{can_walk, read_at}
use Rattle.wf_process.proofs.process.Process.text_value.Goals as goal

pub text_number-requires-clause-can : goal.text_number-requires-clause-can
text_number-requires-clause-can c = can_walk (start_of c.self.inside.deltas.items c.self.inside.image c.self.inside.count c.self.inside.limits) c.self.inside.entries c.args.self.now c.self.inside.body c.args.hart c.hart.result.now c.self.view_is c.self.invariant c.requires.runs c.hart.ensures

pub returns : goal.returns
returns c =
    read_at (λ s g. c.text_number.result ≡ text_bytes s g c.args.va c.args.width) (start_of c.self.inside.deltas.items c.self.inside.image c.self.inside.count c.self.inside.limits) c.self.inside.entries c.args.self.now c.self.inside.body c.args.hart c.hart.result.now c.self.view_is c.self.invariant c.requires.runs c.hart.ensures
    (λ homes s stands mapped apart. c.text_number.ensures homes s stands mapped)
