use Rattle.wf_mapping.proofs.FreeLemmas.{free_agree}
use Rattle.wf_mapping.proofs.laws.free_frames_agree.Goals as goal

pub returns : goal.returns
returns c = free_agree
