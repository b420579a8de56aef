use Rattle.patch_run_laws.proofs.FitLemmas.{none_meet}
use Rattle.patch_run_laws.proofs.built.fitting_jumps_are_clear.Goals as goal

pub returns : goal.returns
returns c = none_meet
