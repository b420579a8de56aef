use Rattle.std.proofs.Common.{rules}
use Rattle.wf_mapping.specs.Blanks.{zeros}
use Rattle.wf_mapping.proofs.blanks.zeros.Goals as goal

pub returns : goal.returns
unfolding zeros
returns c = search rules
