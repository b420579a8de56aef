use Rattle.std.proofs.Common.{ℕ, ap, ◌∙◌}
use Rattle.wf_process.specs.Bodies.{with_kept}
use Rattle.wf_process.specs.Harts.{kept_answered}
use Rattle.wf_flat.specs.declared.event.Actor.TheVariants.{Hart}
use Rattle.wf_flat.specs.declared.event.Event.TheVariants.{Refused}
use Rattle.wf_legal.specs.Legal.{Moment, end_of}
use Rattle.wf_process.specs.Processes.{start_of}
use Rattle.wf_process.proofs.EventLemmas.{refused}
use Rattle.wf_process.proofs.ProcessLemmas.{entry_comes, entry_kept, is_there}
use Rattle.wf_process.proofs.process.Process.refuse.Goals as goal

pub answer-requires : goal.answer-requires
answer-requires c =
    let start : Moment = start_of c.self.inside.deltas.items c.self.inside.image c.self.inside.count c.self.inside.limits in
    let m : Moment = end_of start c.self.inside.entries.items in
    is_there start c.self.inside.entries c.args.self.now c.self.inside.body c.args.hart (Refused c.args.reason) c.self.view_is c.self.invariant (λ may. absurd may) c.requires.may

pub invariant_of-self : goal.invariant_of-self
invariant_of-self c =
    let start : Moment = start_of c.self.inside.deltas.items c.self.inside.image c.self.inside.count c.self.inside.limits in
    let m : Moment = end_of start c.self.inside.entries.items in
    entry_kept start c.self.inside.entries c.note.new.entries (Hart c.args.hart) (Refused c.args.reason) c.args.self.now c.self.view_is c.note.ensures c.self.inside.body c.answer.new.self _ c.self.invariant c.requires.may
    (c.answer.ensures ∙ ap (λ (answer : ℕ). with_kept c.self.inside.body c.args.hart (kept_answered answer)) c.answer_of.ensures) (refused m c.self.inside.body c.self.invariant.stands c.args.hart c.args.reason)

pub returns : goal.returns
returns c =
    let start : Moment = start_of c.self.inside.deltas.items c.self.inside.image c.self.inside.count c.self.inside.limits in
    entry_comes start c.self.inside.entries c.note.new.entries (Hart c.args.hart) (Refused c.args.reason) c.args.self.now c.self.view_is c.note.ensures
