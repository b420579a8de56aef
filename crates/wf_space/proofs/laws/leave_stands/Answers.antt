use Rattle.wf_space.proofs.LeaveLemmas.{leave_standing}
use Rattle.wf_space.proofs.laws.leave_stands.Goals as goal

pub returns : goal.returns
returns c = leave_standing
