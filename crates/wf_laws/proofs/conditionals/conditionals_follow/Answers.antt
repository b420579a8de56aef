use Rattle.wf_laws.proofs.FollowLemmas.{follows}
use Rattle.wf_laws.proofs.conditionals.conditionals_follow.Goals as goal

pub returns : goal.returns
returns c = follows
