use Rattle.wf_creating.proofs.SpliceLemmas.{pages_put}
use Rattle.wf_creating.proofs.laws.pages_are_put.Goals as goal

pub returns : goal.returns
returns c = pages_put
