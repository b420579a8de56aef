use Rattle.wf_creating.proofs.LaidLemmas.{birth_laid}
use Rattle.wf_creating.proofs.laws.view_is_laid_out.Goals as goal

pub returns : goal.returns
returns c = birth_laid
