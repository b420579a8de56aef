use Rattle.std.proofs.Common.{◌≡◌, false, sym, subst, inl, inr}
use Rattle.std.specs.Prelude.{OnOk}
use Rattle.std.proofs.lemmas.Result.{on_err_weaker}
use Rattle.wf_script.specs.declared.command.Command.{Command}
use Rattle.wf_script.specs.declared.command.Command.TheVariants.{Patch}
use Rattle.wf_driver.specs.Machines.{HasObeyed, HasStopped}
use Rattle.wf_driver.proofs.machine.Machine.obey.Goals as goal

pub returns-in-Step-clause-ok : goal.returns-in-Step-clause-ok
returns-in-Step-clause-ok c = subst (λ (x : Command). OnOk c.step.result (HasObeyed x c.args.self.now c.step.new.self)) (sym c.in-Step.is) c.step.ensures.ok

pub returns-in-Step-clause-memory : goal.returns-in-Step-clause-memory
returns-in-Step-clause-memory c = on_err_weaker c.step.result (λ s. inr (subst (λ (x : Command). HasStopped x c.args.self.now c.step.new.self) (sym c.in-Step.is) s)) c.step.ensures.err

pub returns-in-Run-clause-ok : goal.returns-in-Run-clause-ok
returns-in-Run-clause-ok c = subst (λ (x : Command). OnOk c.run.result (HasObeyed x c.args.self.now c.run.new.self)) (sym c.in-Run.is) c.run.ensures.ok

pub returns-in-Run-clause-memory : goal.returns-in-Run-clause-memory
returns-in-Run-clause-memory c = on_err_weaker c.run.result (λ s. inr (subst (λ (x : Command). HasStopped x c.args.self.now c.run.new.self) (sym c.in-Run.is) s)) c.run.ensures.err

pub returns-in-Regs-clause-ok : goal.returns-in-Regs-clause-ok
returns-in-Regs-clause-ok c = subst (λ (x : Command). OnOk c.list_registers.result (HasObeyed x c.args.self.now c.list_registers.new.self)) (sym c.in-Regs.is) c.list_registers.ensures.ok

pub returns-in-Regs-clause-memory : goal.returns-in-Regs-clause-memory
returns-in-Regs-clause-memory c = on_err_weaker c.list_registers.result (λ s. inl s) c.list_registers.ensures.err

pub returns-in-Mem-clause-ok : goal.returns-in-Mem-clause-ok
returns-in-Mem-clause-ok c = subst (λ (x : Command). OnOk c.list_words.result (HasObeyed x c.args.self.now c.list_words.new.self)) (sym c.in-Mem.is) c.list_words.ensures.ok

pub returns-in-Mem-clause-memory : goal.returns-in-Mem-clause-memory
returns-in-Mem-clause-memory c = on_err_weaker c.list_words.result (λ s. inl s) c.list_words.ensures.err

pub returns-in-Patch-default-false-clause-ok : goal.returns-in-Patch-default-false-clause-ok
returns-in-Patch-default-false-clause-ok c =
    let is : c.args.command ≡ Patch c.in-Patch-default-false.index false = cc in
    subst (λ (x : Command). OnOk c.patch.result (HasObeyed x c.args.self.now c.patch.new.self)) (sym is) (rw is at c.patch.ensures.ok)

pub returns-in-Patch-default-false-clause-memory : goal.returns-in-Patch-default-false-clause-memory
returns-in-Patch-default-false-clause-memory c = on_err_weaker c.patch.result (λ s. inl s) c.patch.ensures.err

pub returns-in-Create-clause-ok : goal.returns-in-Create-clause-ok
returns-in-Create-clause-ok c = subst (λ (x : Command). OnOk c.create.result (HasObeyed x c.args.self.now c.create.new.self)) (sym c.in-Create.is) c.create.ensures.ok

pub returns-in-Create-clause-memory : goal.returns-in-Create-clause-memory
returns-in-Create-clause-memory c = on_err_weaker c.create.result (λ s. inl s) c.create.ensures.err

pub returns-in-Delete-clause-ok : goal.returns-in-Delete-clause-ok
returns-in-Delete-clause-ok c = subst (λ (x : Command). OnOk c.delete.result (HasObeyed x c.args.self.now c.delete.new.self)) (sym c.in-Delete.is) c.delete.ensures.ok

pub returns-in-Delete-clause-memory : goal.returns-in-Delete-clause-memory
returns-in-Delete-clause-memory c = on_err_weaker c.delete.result (λ s. inl s) c.delete.ensures.err

pub returns-in-Tables-clause-ok : goal.returns-in-Tables-clause-ok
returns-in-Tables-clause-ok c = subst (λ (x : Command). OnOk c.list_tables.result (HasObeyed x c.args.self.now c.list_tables.new.self)) (sym c.in-Tables.is) c.list_tables.ensures.ok

pub returns-in-Tables-clause-memory : goal.returns-in-Tables-clause-memory
returns-in-Tables-clause-memory c = on_err_weaker c.list_tables.result (λ s. inl s) c.list_tables.ensures.err
