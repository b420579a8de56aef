use Rattle.std.proofs.Common.{◌≡◌, ◌∙◌, ℕ, refl, sym, subst, arith}
use Rattle.wf_follow.specs.Units.{IsTurn, Times}
use Rattle.wf_driver.specs.Machines.{MachineValue}
use Rattle.wf_driver.specs.Making.{HasMade}
use Rattle.wf_driver.proofs.MadeLemmas.{made_none, made_push, run_obeyed, run_stopped, when_err}
use Rattle.wf_driver.proofs.machine.Machine.run.Goals as goal

pub loop-init : goal.loop-init
loop-init c = record { made = made_none IsTurn c.args.self.now; harts = refl; deltas = refl; homes = refl }

pub loop-preserved : goal.loop-preserved
loop-preserved c = record {
  made = made_push c.loop.counter IsTurn c.args.self.now c.loop.self c.make_turn.new.self c.loop.invariant.made c.in_ok-make_turn.ensures.ok;
  harts = c.make_turn.ensures.harts ∙ c.loop.invariant.harts;
  deltas = c.make_turn.ensures.deltas ∙ c.loop.invariant.deltas;
  homes = c.make_turn.ensures.homes ∙ c.loop.invariant.homes;
}

pub returns-in_err-make_turn-clause-err : goal.returns-in_err-make_turn-clause-err
returns-in_err-make_turn-clause-err c =
    let Made : MachineValue → Type 0 = λ m. HasMade (Times c.loop.counter IsTurn) c.args.self.now m in
    when_err c.from_residual.result _
    (run_stopped c.loop.counter c.args.n c.args.self.now c.make_turn.new.self (omega arith) (subst Made (sym c.in_err-make_turn.ensures.err) c.loop.invariant.made))

pub returns-clause-ok : goal.returns-clause-ok
returns-clause-ok c =
    let e : c.loop.counter ≡ c.args.n = omega arith in
    run_obeyed c.args.n c.args.self.now c.loop.self (subst (λ (k : ℕ). HasMade (Times k IsTurn) c.args.self.now c.loop.self) e c.loop.invariant.made)
