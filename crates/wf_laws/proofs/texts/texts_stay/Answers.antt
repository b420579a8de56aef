use Rattle.wf_laws.proofs.GenLemmas.{texts_stay}
use Rattle.wf_laws.proofs.texts.texts_stay.Goals as goal

pub returns : goal.returns
returns c = texts_stay
