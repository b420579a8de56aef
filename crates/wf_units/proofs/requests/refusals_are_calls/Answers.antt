use Rattle.wf_units.proofs.KernelLemmas.{refused_call}
use Rattle.wf_units.proofs.requests.refusals_are_calls.Goals as goal

pub returns : goal.returns
returns c = λ deltas s request reason a. refused_call c.entries_keep_sound.ensures c.journals_keep_sound.ensures c.allowed_can_be_made.ensures deltas s request a reason
