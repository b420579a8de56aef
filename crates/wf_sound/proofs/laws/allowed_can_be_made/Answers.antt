use Rattle.wf_sound.proofs.MadeLemmas.{allowed_made}
use Rattle.wf_sound.proofs.laws.allowed_can_be_made.Goals as goal

pub returns : goal.returns
returns c = allowed_made (λ word inst. (c.words_are_rows.ensures.row word inst).0)
