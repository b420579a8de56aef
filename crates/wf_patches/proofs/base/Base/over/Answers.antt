use Rattle.wf_patches.proofs.BaseLemmas.{same_over}
use Rattle.wf_patches.proofs.base.Base.over.Goals as goal

pub returns : goal.returns
returns c = same_over c.args.image.now _ c.in_ok-new.ensures c.in_ok-over.ensures
