use Rattle.wf_laws.proofs.StartLemmas.{quiet}
use Rattle.wf_laws.proofs.starts.starts_are_quiet.Goals as goal

pub returns : goal.returns
returns c = quiet
