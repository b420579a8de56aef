use Rattle.std.proofs.Common.{sym}
use Rattle.wf_driver.specs.Housing.{own_homes}
use Rattle.wf_driver.proofs.MadeLemmas.{when_err}
use Rattle.wf_driver.proofs.TurnLemmas.{turned}
use Rattle.wf_driver.proofs.machine.Machine.make_turn.Goals as goal

pub returns-in_ok-make_unit-in-Some-clause-ok : goal.returns-in_ok-make_unit-in-Some-clause-ok
returns-in_ok-make_unit-in-Some-clause-ok c =
    turned c.args.self.now c.make_unit.new.self c.self.inside.deltas.items c.self.inside.flat (own_homes c.self.inside.homes c.self.inside.accounted c.self.inside.entries.items c.self.inside.flat) c.self.inside.entries.items c.self.inside.listings.items c.self.inside.last c.in-Some.hart (sym c.in-Some.ensures.next) c.in_ok-make_unit-in-Some.ensures.ok
    c.self.view_is

pub returns-in_err-make_unit-in-Some-clause-err : goal.returns-in_err-make_unit-in-Some-clause-err
returns-in_err-make_unit-in-Some-clause-err c = when_err c.from_residual.result _ c.in_err-make_unit-in-Some.ensures.err
