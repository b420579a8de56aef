use Rattle.wf_laws.proofs.LatestLemmas.{latest}
use Rattle.wf_laws.proofs.bytes.looks_are_latest.Goals as goal

pub returns : goal.returns
returns c = latest (λ word inst. (c.words_are_rows.ensures.row word inst).0)
