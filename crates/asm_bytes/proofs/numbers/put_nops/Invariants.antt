use Rattle.std.proofs.Common.{◌≡◌, ◌++◌}
use Rattle.asm_bytes.specs.Bytes.{nops}
use Rattle.asm_bytes.proofs.numbers.put_nops.Given as goal

abbrev pub invariant-loop : goal.invariant-loop
invariant-loop l = l.out.items ≡ l.fn.out.items ++ nops l.counter
