use Rattle.wf_units.proofs.KernelLemmas.{clone_call}
use Rattle.wf_units.proofs.requests.clones_are_calls.Goals as goal

pub returns : goal.returns
returns c = clone_call c.entries_keep_sound.ensures c.journals_keep_sound.ensures c.allowed_can_be_made.ensures
