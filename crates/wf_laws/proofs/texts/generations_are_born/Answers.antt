use Rattle.wf_laws.proofs.BornLemmas.{are_born}
use Rattle.wf_laws.proofs.texts.generations_are_born.Goals as goal

pub returns : goal.returns
returns c = are_born
