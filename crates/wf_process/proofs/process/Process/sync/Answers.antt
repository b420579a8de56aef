use Rattle.std.proofs.Common.{◌≡◌, refl, sym, subst}
use Rattle.wf_flat.specs.declared.event.Actor.TheVariants.{Hart}
use Rattle.wf_flat.specs.declared.event.Event.TheVariants.{Sync}
use Rattle.wf_legal.specs.Legal.{Moment, end_of}
use Rattle.wf_space.specs.Carried.{MaySync}
use Rattle.wf_process.specs.Processes.{start_of}
use Rattle.wf_process.proofs.MeetingLemmas.{meets}
use Rattle.wf_process.proofs.ProcessLemmas.{entry_comes, entry_kept, moment_is}
use Rattle.wf_process.proofs.process.Process.sync.Goals as goal

pub invariant_of-self-2 : goal.invariant_of-self-2
invariant_of-self-2 c =
    let start : Moment = start_of c.self.inside.deltas.items c.self.inside.image c.self.inside.count c.self.inside.limits in
    let m : Moment = end_of start c.self.inside.entries.items in
    let same : m ≡ c.args.self.now.moment = moment_is start c.self.inside.entries c.args.self.now c.self.view_is in
    entry_kept start c.self.inside.entries c.note.new.entries (Hart c.args.hart) (Sync c.args.generation c.args.page) c.args.self.now c.self.view_is c.note.ensures c.self.inside.body c.meet.new.self c.meet.new.self c.self.invariant c.requires.may refl
    (meets m c.self.inside.body c.meet.new.self c.self.invariant.stands c.args.hart c.args.generation c.args.page
    (subst (λ (n : Moment). MaySync n.flat c.args.generation c.args.page) (sym same) c.requires.page) c.in_ok-meet.ensures.met)

pub returns-clause-ok : goal.returns-clause-ok
returns-clause-ok c =
    let start : Moment = start_of c.self.inside.deltas.items c.self.inside.image c.self.inside.count c.self.inside.limits in
    entry_comes start c.self.inside.entries c.note.new.entries (Hart c.args.hart) (Sync c.args.generation c.args.page) c.args.self.now c.self.view_is c.note.ensures
