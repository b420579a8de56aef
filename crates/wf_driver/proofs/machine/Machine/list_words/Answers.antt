use Rattle.std.proofs.Common.{◌∙◌, ap}
use Rattle.std.proofs.lemmas.Result.{on_ok_weaker}
use Rattle.wf_report.specs.Listings.{mem_lines}
use Rattle.wf_driver.specs.Machines.{MachineValue}
use Rattle.wf_driver.proofs.MadeLemmas.{mem_obeyed}
use Rattle.wf_driver.proofs.machine.Machine.list_words.Goals as goal

pub returns-clause-ok : goal.returns-clause-ok
returns-clause-ok c =
    on_ok_weaker c.push_listing.result (λ e. mem_obeyed c.args.va c.args.n c.in_ok-lines.lines.items c.args.self.now c.push_listing.new.self (c.in_ok-lines.ensures ∙ ap (λ (m : MachineValue). mem_lines c.args.va c.args.n m.flat) c.self.view_is) e) c.push_listing.ensures.ok
