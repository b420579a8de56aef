use Rattle.wf_flat.specs.declared.event.Actor.TheVariants.{Hart}
use Rattle.wf_flat.specs.declared.event.Event.TheVariants.{Wait}
use Rattle.wf_flat.proofs.ChangeLemmas.{hart_there}
use Rattle.wf_legal.specs.Legal.{Moment, end_of}
use Rattle.wf_process.specs.Processes.{start_of}
use Rattle.wf_process.proofs.EventLemmas.{waits}
use Rattle.wf_process.proofs.ProcessLemmas.{entry_comes, entry_kept, is_there}
use Rattle.wf_process.proofs.process.Process.wait.Goals as goal

pub give_up-requires : goal.give_up-requires
give_up-requires c =
    let start : Moment = start_of c.self.inside.deltas.items c.self.inside.image c.self.inside.count c.self.inside.limits in
    let m : Moment = end_of start c.self.inside.entries.items in
    is_there start c.self.inside.entries c.args.self.now c.self.inside.body c.args.hart (Wait c.args.on) c.self.view_is c.self.invariant (λ may. hart_there m.flat c.args.hart _ may) c.requires.may

pub invariant_of-self : goal.invariant_of-self
invariant_of-self c =
    let start : Moment = start_of c.self.inside.deltas.items c.self.inside.image c.self.inside.count c.self.inside.limits in
    let m : Moment = end_of start c.self.inside.entries.items in
    entry_kept start c.self.inside.entries c.note.new.entries (Hart c.args.hart) (Wait c.args.on) c.args.self.now c.self.view_is c.note.ensures c.self.inside.body c.give_up.new.self _ c.self.invariant c.requires.may
    c.give_up.ensures (waits m c.self.inside.body c.self.invariant.stands c.args.hart c.args.on)

pub returns : goal.returns
returns c =
    let start : Moment = start_of c.self.inside.deltas.items c.self.inside.image c.self.inside.count c.self.inside.limits in
    entry_comes start c.self.inside.entries c.note.new.entries (Hart c.args.hart) (Wait c.args.on) c.args.self.now c.self.view_is c.note.ensures
