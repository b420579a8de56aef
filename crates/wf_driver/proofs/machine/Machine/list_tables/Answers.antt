use Rattle.std.proofs.Common.{◌≡◌, ◌∙◌, Some, ap, refl, sym}
use Rattle.std.proofs.lemmas.Result.{on_err_weaker, on_ok_weaker}
use Rattle.wf_tables.specs.Tables.{tables_lines}
use Rattle.wf_driver.specs.Machines.{MachineValue}
use Rattle.wf_driver.specs.Making.{with_listing}
use Rattle.wf_driver.proofs.HousingLemmas.{IsAccounted}
use Rattle.wf_driver.proofs.KeepLemmas.{kept_still}
use Rattle.wf_driver.proofs.MadeLemmas.{tables_obeyed, unmade, when_err}
use Rattle.wf_driver.proofs.machine.Machine.list_tables.Goals as goal

pub invariant_of-self-in_err-lines : goal.invariant_of-self-in_err-lines
invariant_of-self-in_err-lines c =
    let is : IsAccounted c.self.inside.flat c.self.inside.entries.items c.self.inside.homes c.self.inside.accounted c.account.new.homes c.account.new.accounted = record {
      now = rw c.deref.ensures.value at c.in_ok-account.ensures.homes;
      all = rw c.deref.ensures.value at c.in_ok-account.ensures.all;
    } in
    kept_still c.homes_settle.ensures c.self.inside.deltas.items c.self.inside.flat c.self.inside.flat c.self.inside.entries.items c.self.inside.entries.items c.self.inside.homes c.self.inside.accounted c.account.new.homes c.account.new.accounted is c.self.invariant.ready refl refl

pub returns-in_err-lines-clause-err : goal.returns-in_err-lines-clause-err
returns-in_err-lines-clause-err c =
    let is : IsAccounted c.self.inside.flat c.self.inside.entries.items c.self.inside.homes c.self.inside.accounted c.account.new.homes c.account.new.accounted = record {
      now = rw c.deref.ensures.value at c.in_ok-account.ensures.homes;
      all = rw c.deref.ensures.value at c.in_ok-account.ensures.all;
    } in
    when_err c.from_residual-in_err-lines.result _
    (unmade c.homes_settle.ensures c.self.inside.deltas.items c.self.inside.flat c.self.inside.flat c.self.inside.entries.items c.self.inside.entries.items c.self.inside.listings.items c.self.inside.last c.args.self.now c.self.inside.homes c.self.inside.accounted c.account.new.homes c.account.new.accounted c.self.view_is is refl refl)

pub invariant_of-self-2 : goal.invariant_of-self-2
invariant_of-self-2 c =
    let is : IsAccounted c.self.inside.flat c.self.inside.entries.items c.self.inside.homes c.self.inside.accounted c.account.new.homes c.account.new.accounted = record {
      now = rw c.deref.ensures.value at c.in_ok-account.ensures.homes;
      all = rw c.deref.ensures.value at c.in_ok-account.ensures.all;
    } in
    kept_still c.homes_settle.ensures c.self.inside.deltas.items c.self.inside.flat c.self.inside.flat c.self.inside.entries.items c.self.inside.entries.items c.self.inside.homes c.self.inside.accounted c.account.new.homes c.account.new.accounted is c.self.invariant.ready refl refl

pub returns-clause-ok : goal.returns-clause-ok
returns-clause-ok c =
    let is : IsAccounted c.self.inside.flat c.self.inside.entries.items c.self.inside.homes c.self.inside.accounted c.account.new.homes c.account.new.accounted = record {
      now = rw c.deref.ensures.value at c.in_ok-account.ensures.homes;
      all = rw c.deref.ensures.value at c.in_ok-account.ensures.all;
    } in
    let same = unmade c.homes_settle.ensures c.self.inside.deltas.items c.self.inside.flat c.self.inside.flat c.self.inside.entries.items c.self.inside.entries.items c.self.inside.listings.items c.self.inside.last c.args.self.now c.self.inside.homes
    c.self.inside.accounted c.account.new.homes c.account.new.accounted c.self.view_is is refl refl in
    let some : c.args.self.now.homes ≡ Some c.in-Some.homes = sym (ap (λ (m : MachineValue). m.homes) c.self.view_is) ∙ sym is.now ∙ c.in-Some.is in
    let lines : c.in_ok-lines.lines.items ≡ tables_lines c.args.generation c.in-Some.homes c.args.self.now.flat =
    c.in_ok-lines.ensures ∙ ap (λ (m : MachineValue). tables_lines c.args.generation c.in-Some.homes m.flat) c.self.view_is in
    on_ok_weaker c.push_listing.result
    (λ e. tables_obeyed c.args.generation c.in_ok-lines.lines.items c.args.self.now c.push_listing.new.self c.in-Some.homes some lines (e ∙ ap (with_listing c.in_ok-lines.lines.items) same)) c.push_listing.ensures.ok

pub returns-clause-err : goal.returns-clause-err
returns-clause-err c =
    let is : IsAccounted c.self.inside.flat c.self.inside.entries.items c.self.inside.homes c.self.inside.accounted c.account.new.homes c.account.new.accounted = record {
      now = rw c.deref.ensures.value at c.in_ok-account.ensures.homes;
      all = rw c.deref.ensures.value at c.in_ok-account.ensures.all;
    } in
    let same = unmade c.homes_settle.ensures c.self.inside.deltas.items c.self.inside.flat c.self.inside.flat c.self.inside.entries.items c.self.inside.entries.items c.self.inside.listings.items c.self.inside.last c.args.self.now c.self.inside.homes c.self.inside.accounted c.account.new.homes c.account.new.accounted c.self.view_is is refl refl in
    on_err_weaker c.push_listing.result (λ e. e ∙ same) c.push_listing.ensures.err
