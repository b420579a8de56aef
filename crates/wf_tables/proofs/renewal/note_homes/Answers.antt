use Rattle.std.proofs.Common.{arith}
use Rattle.std.proofs.lemmas.Grind.{common_steps}
use Rattle.wf_tables.proofs.renewal.note_homes.Goals as goal

pub loop-home-preserved : goal.loop-home-preserved
loop-home-preserved c = λ frame. grind (arith, common_steps, c.loop-home.invariant frame)
