use Rattle.wf_homes.proofs.HomeLemmas.{free_counted}
use Rattle.wf_homes.proofs.laws.free_frames_are_counted.Goals as goal

pub returns : goal.returns
returns c = free_counted
