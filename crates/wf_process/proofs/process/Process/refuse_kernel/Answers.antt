use Rattle.wf_flat.specs.declared.event.Actor.TheVariants.{Kernel}
use Rattle.wf_flat.specs.declared.event.Event.TheVariants.{Refused}
use Rattle.wf_legal.specs.Legal.{Moment, end_of}
use Rattle.wf_process.specs.Processes.{start_of}
use Rattle.wf_process.proofs.EventLemmas.{kernel_refused}
use Rattle.wf_process.proofs.ProcessLemmas.{entry_comes, entry_kept}
use Rattle.wf_process.proofs.process.Process.refuse_kernel.Goals as goal

pub invariant_of-self : goal.invariant_of-self
invariant_of-self c =
    let start : Moment = start_of c.self.inside.deltas.items c.self.inside.image c.self.inside.count c.self.inside.limits in
    let m : Moment = end_of start c.self.inside.entries.items in
    entry_kept start c.self.inside.entries c.note.new.entries Kernel (Refused c.args.reason) c.args.self.now c.self.view_is c.note.ensures c.self.inside.body c.leave.new.self _ c.self.invariant c.requires.may
    c.leave.ensures (kernel_refused m c.self.inside.body c.self.invariant.stands c.args.reason)

pub returns : goal.returns
returns c =
    let start : Moment = start_of c.self.inside.deltas.items c.self.inside.image c.self.inside.count c.self.inside.limits in
    entry_comes start c.self.inside.entries c.note.new.entries Kernel (Refused c.args.reason) c.args.self.now c.self.view_is c.note.ensures
