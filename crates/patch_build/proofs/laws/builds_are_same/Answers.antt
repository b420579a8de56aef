use Rattle.patch_build.proofs.SameLemmas.{same_builds}
use Rattle.patch_build.proofs.laws.builds_are_same.Goals as goal

pub returns : goal.returns
returns c = same_builds
