use Rattle.wf_mapped.proofs.RaiseLemmas.{changed_raised, new_raised, performed_raised}
use Rattle.wf_mapped.proofs.laws.free_frames_can_be_raised.Goals as goal

pub returns-clause-at_first : goal.returns-clause-at_first
returns-clause-at_first c = new_raised

pub returns-clause-changed : goal.returns-clause-changed
returns-clause-changed c = changed_raised

pub returns-clause-performed : goal.returns-clause-performed
returns-clause-performed c = performed_raised
