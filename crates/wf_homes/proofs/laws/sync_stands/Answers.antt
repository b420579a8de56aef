use Rattle.wf_homes.proofs.SyncLemmas.{sync_standing}
use Rattle.wf_homes.proofs.laws.sync_stands.Goals as goal

pub returns : goal.returns
returns c = sync_standing
