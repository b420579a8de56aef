use Rattle.std.proofs.Common.{◌<◌, List, length, sym, subst}
use Rattle.std.proofs.lemmas.Result.{on_err_weaker, on_ok_weaker}
use Rattle.wf_flat.specs.Follows.{IsUnit}
use Rattle.wf_outside.specs.Images.{DeltaValue}
use Rattle.wf_legal.specs.Legal.{at_rest}
use Rattle.wf_sound.specs.Sound.{IsSound}
use Rattle.wf_driver.specs.Housing.{own_homes}
use Rattle.wf_driver.specs.Machines.{MachineValue}
use Rattle.wf_driver.proofs.HousingLemmas.{IsAccounted}
use Rattle.wf_driver.proofs.KeepLemmas.{births_left, kept_after, ready_sound}
use Rattle.wf_driver.proofs.MadeLemmas.{unit_made, unmade, same_harts, same_homes}
use Rattle.wf_driver.proofs.machine.Machine.make_unit.Goals as goal

pub step-requires-clause-sound : goal.step-requires-clause-sound
step-requires-clause-sound c =
    subst (λ (deltas : List DeltaValue). IsSound (at_rest deltas c.self.inside.flat)) (sym c.deref-3.ensures.value) (ready_sound c.journals_keep_sound.ensures c.self.inside.deltas.items c.self.inside.flat c.self.inside.entries.items c.self.invariant.ready)

pub step-requires-clause-births : goal.step-requires-clause-births
step-requires-clause-births c =
    births_left c.births_are_few.ensures c.self.inside.deltas.items c.self.inside.flat c.self.inside.entries.items c.self.invariant.ready (rw c.deref.ensures.value at c.entries_are_few.ensures)

pub step-requires-clause-there : goal.step-requires-clause-there
step-requires-clause-there c = subst (λ (m : MachineValue). c.args.hart < length m.flat.harts) (sym c.self.view_is) c.requires

pub invariant_of-self-2 : goal.invariant_of-self-2
invariant_of-self-2 c =
    let is : IsAccounted c.self.inside.flat c.self.inside.entries.items c.self.inside.homes c.self.inside.accounted c.account.new.homes c.account.new.accounted = record {
      now = rw c.deref-2.ensures.value at c.in_ok-account.ensures.homes;
      all = rw c.deref-2.ensures.value at c.in_ok-account.ensures.all;
    } in
    kept_after c.homes_settle.ensures c.homes_stay.ensures c.step.result c.self.inside.deltas.items c.self.inside.flat c.step.new.flat c.self.inside.entries.items c.step.new.journal.items (IsUnit c.args.hart) c.self.inside.homes c.self.inside.accounted c.account.new.homes c.account.new.accounted
    is c.self.invariant.ready (rw c.deref-3.ensures.value at c.step.ensures.ok) c.step.ensures.err c.step.ensures.rests c.step.ensures.harts

pub returns-clause-ok : goal.returns-clause-ok
returns-clause-ok c =
    let is : IsAccounted c.self.inside.flat c.self.inside.entries.items c.self.inside.homes c.self.inside.accounted c.account.new.homes c.account.new.accounted = record {
      now = rw c.deref-2.ensures.value at c.in_ok-account.ensures.homes;
      all = rw c.deref-2.ensures.value at c.in_ok-account.ensures.all;
    } in
    on_ok_weaker c.step.result
    (λ d. unit_made c.self.inside.deltas.items c.self.inside.flat c.step.new.flat c.self.inside.entries.items c.step.new.journal.items c.self.inside.listings.items c.self.inside.last c.args.self.now c.args.hart c.self.inside.homes c.self.inside.accounted c.account.new.homes c.account.new.accounted
    c.self.view_is is c.step.ensures.rests.no_one d c.step.ensures.harts)
    (rw c.deref-3.ensures.value at c.step.ensures.ok)

pub returns-clause-err : goal.returns-clause-err
returns-clause-err c =
    let is : IsAccounted c.self.inside.flat c.self.inside.entries.items c.self.inside.homes c.self.inside.accounted c.account.new.homes c.account.new.accounted = record {
      now = rw c.deref-2.ensures.value at c.in_ok-account.ensures.homes;
      all = rw c.deref-2.ensures.value at c.in_ok-account.ensures.all;
    } in
    on_err_weaker c.step.result
    (λ d. unmade c.homes_settle.ensures c.self.inside.deltas.items c.self.inside.flat c.step.new.flat c.self.inside.entries.items c.step.new.journal.items c.self.inside.listings.items c.self.inside.last c.args.self.now c.self.inside.homes c.self.inside.accounted c.account.new.homes c.account.new.accounted
    c.self.view_is is d.0 d.1)
    c.step.ensures.err

pub returns-clause-harts : goal.returns-clause-harts
returns-clause-harts c =
    same_harts c.self.inside.deltas.items c.self.inside.flat c.step.new.flat (own_homes c.self.inside.homes c.self.inside.accounted c.self.inside.entries.items c.self.inside.flat) c.self.inside.entries.items c.self.inside.listings.items c.self.inside.last
    c.args.self.now c.self.view_is c.step.ensures.harts

pub returns-clause-homes : goal.returns-clause-homes
returns-clause-homes c =
    let is : IsAccounted c.self.inside.flat c.self.inside.entries.items c.self.inside.homes c.self.inside.accounted c.account.new.homes c.account.new.accounted = record {
      now = rw c.deref-2.ensures.value at c.in_ok-account.ensures.homes;
      all = rw c.deref-2.ensures.value at c.in_ok-account.ensures.all;
    } in
    same_homes c.self.inside.deltas.items c.self.inside.flat c.step.new.flat c.self.inside.entries.items c.step.new.journal.items c.self.inside.listings.items c.self.inside.last c.args.self.now c.self.inside.homes c.self.inside.accounted c.account.new.homes c.account.new.accounted c.self.view_is is.now
