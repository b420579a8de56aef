use Rattle.wf_patching.proofs.UnfitLemmas.{unfit_same}
use Rattle.wf_patching.proofs.laws.unfit_patches_agree.Goals as goal

pub returns : goal.returns
returns c = unfit_same
