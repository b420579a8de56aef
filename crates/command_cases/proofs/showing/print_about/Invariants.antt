use Rattle.std.proofs.Common.{length}
use Rattle.command_cases.proofs.showing.print_about.Given as goal

abbrev pub decreases-loop-rest : goal.decreases-loop-rest
decreases-loop-rest g l = length l.rest
