use Rattle.wf_laws.proofs.StartLemmas.{fronts}
use Rattle.wf_laws.proofs.starts.fronts_are_legal.Goals as goal

pub returns : goal.returns
returns c = fronts
