use Rattle.wf_laws.proofs.RefusalLemmas.{of_table}
use Rattle.wf_laws.proofs.refusals.refusals_are_of_table.Goals as goal

pub returns : goal.returns
returns c = of_table
