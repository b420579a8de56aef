use Rattle.patch_run_laws.proofs.BuiltLemmas.{all_built}
use Rattle.patch_run_laws.proofs.built.built_patches_have_built_jumps.Goals as goal

pub returns : goal.returns
returns c = all_built
