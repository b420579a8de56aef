use Rattle.asm_bytes.proofs.ShortLemmas.{call_leads_there, call_reach}
use Rattle.asm_bytes.proofs.laws.call_leads.Goals as goal

pub returns-clause-reach : goal.returns-clause-reach
returns-clause-reach c = call_reach

pub returns-clause-leads : goal.returns-clause-leads
returns-clause-leads c = call_leads_there
