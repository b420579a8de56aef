use Rattle.std.proofs.Common.{◌<◌, ◌^◌, List, sym, subst, arith}
use Rattle.std.proofs.lemmas.Result.{on_err_weaker, on_ok_weaker}
use Rattle.wf_outside.specs.Images.{DeltaValue}
use Rattle.wf_legal.specs.Legal.{at_rest}
use Rattle.wf_sound.specs.Sound.{IsSound}
use Rattle.wf_verdict.specs.Requests.{IsKernelRequest}
use Rattle.wf_request.specs.Requesting.{IsServed}
use Rattle.wf_driver.specs.Housing.{own_homes}
use Rattle.wf_driver.specs.Machines.{MachineValue}
use Rattle.wf_driver.proofs.HousingLemmas.{IsAccounted}
use Rattle.wf_driver.proofs.KeepLemmas.{kept_after, ready_births, ready_sound}
use Rattle.wf_driver.proofs.MadeLemmas.{same_harts, same_homes, served_made, unmade}
use Rattle.wf_driver.proofs.machine.Machine.call.Goals as goal

pub serve_kernel-requires-clause-sound : goal.serve_kernel-requires-clause-sound
serve_kernel-requires-clause-sound c =
    subst (λ (deltas : List DeltaValue). IsSound (at_rest deltas c.self.inside.flat)) (sym c.deref-3.ensures.value) (ready_sound c.journals_keep_sound.ensures c.self.inside.deltas.items c.self.inside.flat c.self.inside.entries.items c.self.invariant.ready)

pub serve_kernel-requires-clause-births : goal.serve_kernel-requires-clause-births
serve_kernel-requires-clause-births c =
    let births : c.self.inside.flat.births < 2 ^ 63 = ready_births c.births_are_few.ensures c.self.inside.deltas.items c.self.inside.flat c.self.inside.entries.items c.self.invariant.ready (rw c.deref.ensures.value at c.entries_are_few.ensures) in
    omega arith

pub serve_kernel-requires-clause-request : goal.serve_kernel-requires-clause-request
serve_kernel-requires-clause-request c =
    subst (λ (deltas : List DeltaValue). IsKernelRequest deltas c.args.request) (sym c.deref-3.ensures.value) (subst (λ (m : MachineValue). IsKernelRequest m.deltas c.args.request) (sym c.self.view_is) c.requires)

pub invariant_of-self-2 : goal.invariant_of-self-2
invariant_of-self-2 c =
    let is : IsAccounted c.self.inside.flat c.self.inside.entries.items c.self.inside.homes c.self.inside.accounted c.account.new.homes c.account.new.accounted = record {
      now = rw c.deref-2.ensures.value at c.in_ok-account.ensures.homes;
      all = rw c.deref-2.ensures.value at c.in_ok-account.ensures.all;
    } in
    kept_after c.homes_settle.ensures c.homes_stay.ensures c.serve_kernel.result c.self.inside.deltas.items c.self.inside.flat c.serve_kernel.new.flat c.self.inside.entries.items c.serve_kernel.new.journal.items
    (IsServed c.args.request c.self.inside.deltas.items c.self.inside.flat) c.self.inside.homes c.self.inside.accounted c.account.new.homes c.account.new.accounted
    is c.self.invariant.ready (rw c.deref-3.ensures.value at c.serve_kernel.ensures.ok) c.serve_kernel.ensures.err c.serve_kernel.ensures.rests c.serve_kernel.ensures.harts

pub returns-clause-ok : goal.returns-clause-ok
returns-clause-ok c =
    let is : IsAccounted c.self.inside.flat c.self.inside.entries.items c.self.inside.homes c.self.inside.accounted c.account.new.homes c.account.new.accounted = record {
      now = rw c.deref-2.ensures.value at c.in_ok-account.ensures.homes;
      all = rw c.deref-2.ensures.value at c.in_ok-account.ensures.all;
    } in
    on_ok_weaker c.serve_kernel.result
    (λ d. served_made c.self.inside.deltas.items c.self.inside.flat c.serve_kernel.new.flat c.self.inside.entries.items c.serve_kernel.new.journal.items c.self.inside.listings.items c.self.inside.last c.args.self.now c.args.request c.self.inside.homes c.self.inside.accounted c.account.new.homes c.account.new.accounted
    c.self.view_is is c.serve_kernel.ensures.rests.no_one c.self.invariant.ready.rests.no_one c.requires d c.serve_kernel.ensures.harts)
    (rw c.deref-3.ensures.value at c.serve_kernel.ensures.ok)

pub returns-clause-err : goal.returns-clause-err
returns-clause-err c =
    let is : IsAccounted c.self.inside.flat c.self.inside.entries.items c.self.inside.homes c.self.inside.accounted c.account.new.homes c.account.new.accounted = record {
      now = rw c.deref-2.ensures.value at c.in_ok-account.ensures.homes;
      all = rw c.deref-2.ensures.value at c.in_ok-account.ensures.all;
    } in
    on_err_weaker c.serve_kernel.result
    (λ d. unmade c.homes_settle.ensures c.self.inside.deltas.items c.self.inside.flat c.serve_kernel.new.flat c.self.inside.entries.items c.serve_kernel.new.journal.items c.self.inside.listings.items c.self.inside.last c.args.self.now c.self.inside.homes c.self.inside.accounted c.account.new.homes c.account.new.accounted
    c.self.view_is is d.0 d.1)
    c.serve_kernel.ensures.err

pub returns-clause-harts : goal.returns-clause-harts
returns-clause-harts c =
    same_harts c.self.inside.deltas.items c.self.inside.flat c.serve_kernel.new.flat (own_homes c.self.inside.homes c.self.inside.accounted c.self.inside.entries.items c.self.inside.flat) c.self.inside.entries.items c.self.inside.listings.items
    c.self.inside.last c.args.self.now c.self.view_is c.serve_kernel.ensures.harts

pub returns-clause-homes : goal.returns-clause-homes
returns-clause-homes c =
    let is : IsAccounted c.self.inside.flat c.self.inside.entries.items c.self.inside.homes c.self.inside.accounted c.account.new.homes c.account.new.accounted = record {
      now = rw c.deref-2.ensures.value at c.in_ok-account.ensures.homes;
      all = rw c.deref-2.ensures.value at c.in_ok-account.ensures.all;
    } in
    same_homes c.self.inside.deltas.items c.self.inside.flat c.serve_kernel.new.flat c.self.inside.entries.items c.serve_kernel.new.journal.items c.self.inside.listings.items c.self.inside.last c.args.self.now c.self.inside.homes c.self.inside.accounted c.account.new.homes c.account.new.accounted c.self.view_is is.now
