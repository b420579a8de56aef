use Rattle.wf_laws.proofs.LatestLemmas.{swaps}
use Rattle.wf_laws.proofs.bytes.swaps_are_latest.Goals as goal

pub returns : goal.returns
returns c = swaps (λ word inst. (c.words_are_rows.ensures.row word inst).0)
