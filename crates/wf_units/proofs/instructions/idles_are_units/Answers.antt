use Rattle.wf_units.proofs.PlainLemmas.{idle_unit}
use Rattle.wf_units.proofs.instructions.idles_are_units.Goals as goal

pub returns : goal.returns
returns c = idle_unit
