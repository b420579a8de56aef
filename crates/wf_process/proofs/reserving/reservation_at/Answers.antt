use Rattle.std.proofs.Common.{Option, sym, subst, ap}
use Rattle.wf_views.specs.declared.records.Records.{Records}
use Rattle.wf_homes.specs.declared.reservation.CoreReservation.{CoreReservation}
use Rattle.wf_process.specs.declared.finding.Found.{Found}
use Rattle.wf_process.specs.Finding.{FoundIsRight}
use Rattle.wf_process.specs.Reserving.{LeavesReservation}
use Rattle.wf_process.proofs.ReservingLemmas.{found_low, left_found}
use Rattle.wf_process.proofs.reserving.reservation_at.Goals as goal

pub reserve-requires : goal.reserve-requires
reserve-requires c =
    let right = subst (λ (o : Option Found). FoundIsRight c.args.words.now c.args.records.now c.args.generation c.args.va o) c.in-Some.is c.found_at.ensures in
    found_low c.args.words.now c.args.records.now c.args.generation c.args.va c.args.width c.in-Some.found c.requires right

pub returns-in-Some : goal.returns-in-Some
returns-in-Some c =
    let right = subst (λ (o : Option Found). FoundIsRight c.args.words.now c.args.records.now c.args.generation c.args.va o) c.in-Some.is c.found_at.ensures in
    subst (λ (o : Option CoreReservation). LeavesReservation c.args.words.now c.args.records.now c.args.generation c.args.va c.args.width o) (sym c.reserve.ensures)
    (left_found c.args.words.now c.args.records.now c.args.generation c.args.va c.args.width c.in-Some.found _ (ap (λ (r : Records). r.limits.last_writes) c.records.view_is) right)
