use Rattle.patch_laws.proofs.SoundLemmas.{all_sound}
use Rattle.patch_laws.proofs.laws.fitting_patches_are_sound.Goals as goal

pub returns : goal.returns
returns c = all_sound
