use Rattle.wf_flat.specs.declared.event.Actor.TheVariants.{Hart}
use Rattle.wf_flat.specs.declared.event.Event.TheVariants.{Exit}
use Rattle.wf_legal.specs.Legal.{Moment, end_of}
use Rattle.wf_process.specs.Processes.{start_of}
use Rattle.wf_process.proofs.ProcessLemmas.{entry_comes, entry_kept, has_view, is_running, is_there}
use Rattle.wf_process.proofs.StopLemmas.{exits}
use Rattle.wf_process.proofs.process.Process.exit.Goals as goal

pub hart-requires : goal.hart-requires
hart-requires c =
    let start : Moment = start_of c.self.inside.deltas.items c.self.inside.image c.self.inside.count c.self.inside.limits in
    is_there start c.self.inside.entries c.args.self.now c.self.inside.body c.args.hart (Exit c.args.code) c.self.view_is c.self.invariant (λ may. absurd may) c.requires.may

pub stop-requires-clause-there : goal.stop-requires-clause-there
stop-requires-clause-there c =
    let start : Moment = start_of c.self.inside.deltas.items c.self.inside.image c.self.inside.count c.self.inside.limits in
    is_there start c.self.inside.entries c.args.self.now c.self.inside.body c.args.hart (Exit c.args.code) c.self.view_is c.self.invariant (λ may. absurd may) c.requires.may

pub stop-requires-clause-view : goal.stop-requires-clause-view
stop-requires-clause-view c =
    let start : Moment = start_of c.self.inside.deltas.items c.self.inside.image c.self.inside.count c.self.inside.limits in
    let runs = is_running start c.self.inside.entries c.args.self.now c.self.inside.body c.args.hart (Exit c.args.code) c.self.view_is c.self.invariant (λ may. may) c.requires.may in
    has_view start c.self.inside.entries.items c.self.inside.body c.args.hart _ c.self.invariant runs c.hart.ensures

pub invariant_of-self : goal.invariant_of-self
invariant_of-self c =
    let start : Moment = start_of c.self.inside.deltas.items c.self.inside.image c.self.inside.count c.self.inside.limits in
    let m : Moment = end_of start c.self.inside.entries.items in
    let runs = is_running start c.self.inside.entries c.args.self.now c.self.inside.body c.args.hart (Exit c.args.code) c.self.view_is c.self.invariant (λ may. may) c.requires.may in
    entry_kept start c.self.inside.entries c.note.new.entries (Hart c.args.hart) (Exit c.args.code) c.args.self.now c.self.view_is c.note.ensures c.self.inside.body c.stop.new.self _ c.self.invariant c.requires.may
    c.stop.ensures (exits m c.self.inside.body c.self.invariant.stands c.args.hart runs _ c.hart.ensures c.args.code)

pub returns : goal.returns
returns c =
    let start : Moment = start_of c.self.inside.deltas.items c.self.inside.image c.self.inside.count c.self.inside.limits in
    entry_comes start c.self.inside.entries c.note.new.entries (Hart c.args.hart) (Exit c.args.code) c.args.self.now c.self.view_is c.note.ensures
