use Rattle.wf_access.proofs.WordLemmas.{counted}
use Rattle.wf_access.proofs.laws.stores_are_counted.Goals as goal

pub returns : goal.returns
returns c = λ words bytes value last are in_frame counts. counted words bytes.frame bytes.at bytes.width value last are.whole in_frame.low in_frame.within counts
