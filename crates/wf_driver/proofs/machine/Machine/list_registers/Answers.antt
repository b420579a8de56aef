use Rattle.std.proofs.Common.{◌∙◌, ap}
use Rattle.std.proofs.lemmas.Result.{on_ok_weaker}
use Rattle.wf_report.specs.Listings.{regs_lines}
use Rattle.wf_driver.specs.Machines.{MachineValue}
use Rattle.wf_driver.proofs.MadeLemmas.{regs_obeyed}
use Rattle.wf_driver.proofs.machine.Machine.list_registers.Goals as goal

pub returns-clause-ok : goal.returns-clause-ok
returns-clause-ok c =
    on_ok_weaker c.push_listing.result (λ e. regs_obeyed c.args.hart c.in_ok-lines.lines.items c.args.self.now c.push_listing.new.self (c.in_ok-lines.ensures ∙ ap (λ (m : MachineValue). regs_lines c.args.hart m.flat) c.self.view_is) e) c.push_listing.ensures.ok
