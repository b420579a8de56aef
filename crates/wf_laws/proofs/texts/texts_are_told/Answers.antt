use Rattle.wf_laws.proofs.BornLemmas.{told}
use Rattle.wf_laws.proofs.texts.texts_are_told.Goals as goal

pub returns : goal.returns
returns c = told
