use Rattle.std.proofs.Common.{◌≡◌, false, sym, subst}
use Rattle.wf_flat.specs.Changes.{reserves}
use Rattle.wf_flat.specs.Steps.{OfHart, want_in}
use Rattle.wf_flat.proofs.ChangeLemmas.{hart_there}
use Rattle.wf_flat.specs.declared.event.Actor.TheVariants.{Hart}
use Rattle.wf_flat.specs.declared.event.Event.TheVariants.{Look}
use Rattle.wf_legal.specs.Legal.{Moment, end_of}
use Rattle.wf_process.specs.Processes.{start_of}
use Rattle.wf_process.proofs.EventLemmas.{looks}
use Rattle.wf_process.proofs.ProcessLemmas.{entry_comes, entry_kept, is_there, moment_is}
use Rattle.wf_process.proofs.process.Process.look.Goals as goal

pub answer-requires : goal.answer-requires
answer-requires c =
    let start : Moment = start_of c.self.inside.deltas.items c.self.inside.image c.self.inside.count c.self.inside.limits in
    let m : Moment = end_of start c.self.inside.entries.items in
    is_there start c.self.inside.entries c.args.self.now c.self.inside.body c.args.hart (Look c.args.va c.args.width c.args.value) c.self.view_is c.self.invariant (λ may. hart_there m.flat c.args.hart _ may) c.requires.may

pub invariant_of-self : goal.invariant_of-self
invariant_of-self c =
    let start : Moment = start_of c.self.inside.deltas.items c.self.inside.image c.self.inside.count c.self.inside.limits in
    let m : Moment = end_of start c.self.inside.entries.items in
    let same : m ≡ c.args.self.now.moment = moment_is start c.self.inside.entries c.args.self.now c.self.view_is in
    entry_kept start c.self.inside.entries c.note.new.entries (Hart c.args.hart) (Look c.args.va c.args.width c.args.value) c.args.self.now c.self.view_is c.note.ensures c.self.inside.body c.answer.new.self _ c.self.invariant c.requires.may
    c.answer.ensures (looks m c.self.inside.body c.self.invariant.stands c.args.hart c.args.va c.args.width c.args.value
    (subst (λ (n : Moment). OfHart n.flat c.args.hart (λ hart. reserves (want_in hart) ≡ false)) (sym same) c.requires.plain))

pub returns : goal.returns
returns c =
    let start : Moment = start_of c.self.inside.deltas.items c.self.inside.image c.self.inside.count c.self.inside.limits in
    entry_comes start c.self.inside.entries c.note.new.entries (Hart c.args.hart) (Look c.args.va c.args.width c.args.value) c.args.self.now c.self.view_is c.note.ensures
