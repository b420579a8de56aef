use Rattle.std.proofs.Common.{refl}
use Rattle.wf_driver.proofs.HousingLemmas.{IsAccounted}
use Rattle.wf_driver.proofs.KeepLemmas.{kept_still}
use Rattle.wf_driver.proofs.MadeLemmas.{unmade, when_err}
use Rattle.wf_driver.proofs.TurnLemmas.{idle_kept, idled}
use Rattle.wf_driver.proofs.machine.Machine.idle.Goals as goal

pub invariant_of-self-2 : goal.invariant_of-self-2
invariant_of-self-2 c =
    let is : IsAccounted c.self.inside.flat c.self.inside.entries.items c.self.inside.homes c.self.inside.accounted c.account.new.homes c.account.new.accounted = record {
      now = rw c.deref.ensures.value at c.in_ok-account.ensures.homes;
      all = rw c.deref.ensures.value at c.in_ok-account.ensures.all;
    } in
    idle_kept c.homes_settle.ensures c.homes_stay.ensures c.self.inside.deltas.items c.self.inside.flat c.self.inside.entries.items c.push.new.self.items c.self.inside.listings.items c.self.inside.last c.args.self.now c.self.inside.homes c.self.inside.accounted c.account.new.homes c.account.new.accounted c.self.view_is is c.self.invariant.ready c.requires
    c.in_ok-push.ensures.items

pub invariant_of-self-in_err-push : goal.invariant_of-self-in_err-push
invariant_of-self-in_err-push c =
    let is : IsAccounted c.self.inside.flat c.self.inside.entries.items c.self.inside.homes c.self.inside.accounted c.account.new.homes c.account.new.accounted = record {
      now = rw c.deref.ensures.value at c.in_ok-account.ensures.homes;
      all = rw c.deref.ensures.value at c.in_ok-account.ensures.all;
    } in
    kept_still c.homes_settle.ensures c.self.inside.deltas.items c.self.inside.flat c.self.inside.flat c.self.inside.entries.items c.push.new.self.items c.self.inside.homes c.self.inside.accounted c.account.new.homes c.account.new.accounted is c.self.invariant.ready refl c.in_err-push.ensures.items

pub returns-clause-ok : goal.returns-clause-ok
returns-clause-ok c =
    let is : IsAccounted c.self.inside.flat c.self.inside.entries.items c.self.inside.homes c.self.inside.accounted c.account.new.homes c.account.new.accounted = record {
      now = rw c.deref.ensures.value at c.in_ok-account.ensures.homes;
      all = rw c.deref.ensures.value at c.in_ok-account.ensures.all;
    } in
    idled c.self.inside.deltas.items c.self.inside.flat c.self.inside.entries.items c.push.new.self.items c.self.inside.listings.items c.self.inside.last c.args.self.now c.self.inside.homes c.self.inside.accounted c.account.new.homes c.account.new.accounted c.self.view_is is c.self.invariant.ready.rests c.self.invariant.ready.some c.requires c.in_ok-push.ensures.items

pub returns-in_err-push-clause-err : goal.returns-in_err-push-clause-err
returns-in_err-push-clause-err c =
    let is : IsAccounted c.self.inside.flat c.self.inside.entries.items c.self.inside.homes c.self.inside.accounted c.account.new.homes c.account.new.accounted = record {
      now = rw c.deref.ensures.value at c.in_ok-account.ensures.homes;
      all = rw c.deref.ensures.value at c.in_ok-account.ensures.all;
    } in
    when_err c.from_residual-in_err-push.result _
    (unmade c.homes_settle.ensures c.self.inside.deltas.items c.self.inside.flat c.self.inside.flat c.self.inside.entries.items c.push.new.self.items c.self.inside.listings.items c.self.inside.last c.args.self.now c.self.inside.homes c.self.inside.accounted c.account.new.homes c.account.new.accounted c.self.view_is is refl c.in_err-push.ensures.items)
