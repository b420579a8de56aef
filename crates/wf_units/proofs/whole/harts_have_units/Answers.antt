use Rattle.wf_units.proofs.WholeLemmas.{harts_have}
use Rattle.wf_units.proofs.whole.harts_have_units.Goals as goal

pub returns : goal.returns
returns c = harts_have c.entries_keep_sound.ensures c.journals_keep_sound.ensures
