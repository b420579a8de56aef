use Rattle.std.proofs.Common.{◌≡◌, ◌++◌, length}
use Rattle.wf_text.specs.Lines.{lines_of}
use Rattle.rv_asm.specs.Names.{name_values, names_used}
use Rattle.rv_asm.proofs.names.names_used.Given as goal

abbrev pub invariant-loop-rest : goal.invariant-loop-rest
invariant-loop-rest l = name_values l.names.items ++ names_used (lines_of l.rest) ≡ names_used (lines_of l.source)

abbrev pub decreases-loop-rest : goal.decreases-loop-rest
decreases-loop-rest l = length l.rest
