use Rattle.patch_run_laws.proofs.BuiltLemmas.{files_built}
use Rattle.patch_run_laws.proofs.built.files_bring_built_jumps.Goals as goal

pub returns : goal.returns
returns c = files_built
