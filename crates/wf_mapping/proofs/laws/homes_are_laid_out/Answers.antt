use Rattle.wf_mapping.proofs.LaidLemmas.{laid_out}
use Rattle.wf_mapping.proofs.laws.homes_are_laid_out.Goals as goal

pub returns : goal.returns
returns c = laid_out
