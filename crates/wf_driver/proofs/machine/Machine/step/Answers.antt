use Rattle.std.proofs.Common.{◌≡◌, ◌∙◌, ℕ, refl, sym, subst, arith}
use Rattle.wf_follow.specs.Units.{IsUnitOf, Times}
use Rattle.wf_driver.specs.Machines.{MachineValue}
use Rattle.wf_driver.specs.Making.{HasMade}
use Rattle.wf_driver.proofs.MadeLemmas.{made_none, made_push, step_obeyed, step_stopped, when_err}
use Rattle.wf_driver.proofs.machine.Machine.step.Goals as goal

pub loop-init : goal.loop-init
loop-init c = record { made = made_none (IsUnitOf c.args.hart) c.args.self.now; harts = refl; deltas = refl; homes = refl }

pub loop-preserved : goal.loop-preserved
loop-preserved c = record {
  made = made_push c.loop.counter (IsUnitOf c.args.hart) c.args.self.now c.loop.self c.make_unit.new.self c.loop.invariant.made c.in_ok-make_unit.ensures.ok;
  harts = c.make_unit.ensures.harts ∙ c.loop.invariant.harts;
  deltas = c.make_unit.ensures.deltas ∙ c.loop.invariant.deltas;
  homes = c.make_unit.ensures.homes ∙ c.loop.invariant.homes;
}

pub returns-in_err-make_unit-clause-err : goal.returns-in_err-make_unit-clause-err
returns-in_err-make_unit-clause-err c =
    let Made : MachineValue → Type 0 = λ m. HasMade (Times c.loop.counter (IsUnitOf c.args.hart)) c.args.self.now m in
    when_err c.from_residual.result _
    (step_stopped c.args.hart c.loop.counter c.args.n c.args.self.now c.make_unit.new.self (omega arith) (subst Made (sym c.in_err-make_unit.ensures.err) c.loop.invariant.made))

pub returns-clause-ok : goal.returns-clause-ok
returns-clause-ok c =
    let e : c.loop.counter ≡ c.args.n = omega arith in
    step_obeyed c.args.hart c.args.n c.args.self.now c.loop.self (subst (λ (k : ℕ). HasMade (Times k (IsUnitOf c.args.hart)) c.args.self.now c.loop.self) e c.loop.invariant.made)
