use Rattle.std.proofs.Common.{◌≡◌, ◌++◌, false, take, drop}
use Rattle.asm_lines.specs.Bytes.{code_from}
use Rattle.asm_lines.proofs.bytes.uncommented.Given as goal

abbrev pub invariant-loop-i : goal.invariant-loop-i
invariant-loop-i l = code_from false l.line ≡ take l.i l.line ++ code_from l.quoted (drop l.i l.line)
