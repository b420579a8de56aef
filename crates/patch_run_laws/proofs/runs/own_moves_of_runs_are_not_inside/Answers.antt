use Rattle.patch_run_laws.proofs.RunLemmas.{own_moves_of_runs}
use Rattle.patch_run_laws.proofs.runs.own_moves_of_runs_are_not_inside.Goals as goal

pub returns : goal.returns
returns c = own_moves_of_runs
