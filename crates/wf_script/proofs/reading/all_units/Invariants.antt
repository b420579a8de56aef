use Rattle.std.proofs.Common.{◌≡◌, take, sum_by}
use Rattle.wf_script.specs.Commands.{units_of}
use Rattle.wf_script.specs.Reading.{told}
use Rattle.wf_script.proofs.reading.all_units.Given as goal

abbrev pub invariant-loop-command : goal.invariant-loop-command
invariant-loop-command l = l.units ≡ told (sum_by units_of (take l.command-index l.commands))
