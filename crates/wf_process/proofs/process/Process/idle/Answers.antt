use Rattle.std.proofs.Common.{refl}
use Rattle.wf_flat.specs.declared.event.Event.TheVariants.{Idle}
use Rattle.wf_legal.specs.Legal.{Moment, end_of}
use Rattle.wf_process.specs.Processes.{start_of}
use Rattle.wf_process.proofs.EventLemmas.{idles}
use Rattle.wf_process.proofs.ProcessLemmas.{entry_comes, entry_kept}
use Rattle.wf_process.proofs.process.Process.idle.Goals as goal

pub invariant_of-self : goal.invariant_of-self
invariant_of-self c =
    let start : Moment = start_of c.self.inside.deltas.items c.self.inside.image c.self.inside.count c.self.inside.limits in
    let m : Moment = end_of start c.self.inside.entries.items in
    entry_kept start c.self.inside.entries c.note.new.entries c.args.actor Idle c.args.self.now c.self.view_is c.note.ensures c.self.inside.body c.self.inside.body c.self.inside.body c.self.invariant c.requires.may refl (idles m c.self.inside.body c.self.invariant.stands c.args.actor)

pub returns : goal.returns
returns c =
    let start : Moment = start_of c.self.inside.deltas.items c.self.inside.image c.self.inside.count c.self.inside.limits in
    entry_comes start c.self.inside.entries c.note.new.entries c.args.actor Idle c.args.self.now c.self.view_is c.note.ensures
