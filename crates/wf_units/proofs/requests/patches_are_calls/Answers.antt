use Rattle.wf_units.proofs.KernelLemmas.{patch_call}
use Rattle.wf_units.proofs.requests.patches_are_calls.Goals as goal

pub returns : goal.returns
returns c = patch_call c.entries_keep_sound.ensures c.journals_keep_sound.ensures c.allowed_can_be_made.ensures
