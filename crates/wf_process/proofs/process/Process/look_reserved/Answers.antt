use Rattle.wf_flat.specs.declared.event.Actor.TheVariants.{Hart}
use Rattle.wf_flat.specs.declared.event.Event.TheVariants.{Look}
use Rattle.wf_flat.proofs.ChangeLemmas.{hart_there}
use Rattle.wf_legal.specs.Legal.{Moment, end_of}
use Rattle.wf_process.specs.Processes.{start_of}
use Rattle.wf_process.proofs.ProcessLemmas.{entry_comes, entry_kept, is_there}
use Rattle.wf_process.proofs.ReservingLemmas.{can_find, looks_reserved}
use Rattle.wf_process.proofs.process.Process.look_reserved.Goals as goal

pub reservation_at-reservation-requires : goal.reservation_at-reservation-requires
reservation_at-reservation-requires c =
    let start : Moment = start_of c.self.inside.deltas.items c.self.inside.image c.self.inside.count c.self.inside.limits in
    can_find start c.self.inside.entries c.args.self.now c.self.inside.body c.args.hart c.args.va c.args.width c.args.value c.hart.result.now c.self.view_is c.self.invariant c.requires.may c.hart.ensures

pub reserve-requires : goal.reserve-requires
reserve-requires c =
    let start : Moment = start_of c.self.inside.deltas.items c.self.inside.image c.self.inside.count c.self.inside.limits in
    let m : Moment = end_of start c.self.inside.entries.items in
    is_there start c.self.inside.entries c.args.self.now c.self.inside.body c.args.hart (Look c.args.va c.args.width c.args.value) c.self.view_is c.self.invariant (λ may. hart_there m.flat c.args.hart _ may) c.requires.may

pub invariant_of-self : goal.invariant_of-self
invariant_of-self c =
    let start : Moment = start_of c.self.inside.deltas.items c.self.inside.image c.self.inside.count c.self.inside.limits in
    entry_kept start c.self.inside.entries c.note.new.entries (Hart c.args.hart) (Look c.args.va c.args.width c.args.value) c.args.self.now c.self.view_is c.note.ensures c.self.inside.body c.reserve.new.self _ c.self.invariant c.requires.may
    c.reserve.ensures (looks_reserved start c.self.inside.entries c.args.self.now c.self.inside.body c.args.hart c.args.va c.args.width c.args.value c.hart.result.now c.self.view_is c.self.invariant c.requires.may c.hart.ensures c.reservation_at-reservation.result c.reservation_at-reservation.ensures c.requires.reserves)

pub returns : goal.returns
returns c =
    let start : Moment = start_of c.self.inside.deltas.items c.self.inside.image c.self.inside.count c.self.inside.limits in
    entry_comes start c.self.inside.entries c.note.new.entries (Hart c.args.hart) (Look c.args.va c.args.width c.args.value) c.args.self.now c.self.view_is c.note.ensures
