use Rattle.wf_laws.proofs.FetchLemmas.{fetches}
use Rattle.wf_laws.proofs.texts.fetches_are_text.Goals as goal

pub returns : goal.returns
returns c = fetches
