use Rattle.std.proofs.Common.{length}
use Rattle.command_cases.proofs.follow_file.Given as goal

abbrev pub decreases-loop-rest : goal.decreases-loop-rest
decreases-loop-rest g l = length l.rest
