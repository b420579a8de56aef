use Rattle.wf_frames.proofs.FrameLemmas.{changed_set}
use Rattle.wf_frames.proofs.frames.set_state.Goals as goal

pub returns : goal.returns
returns c = changed_set c.args.frames.now c.args.frame (λ f. record f { state = c.args.state }) _ c.requires
