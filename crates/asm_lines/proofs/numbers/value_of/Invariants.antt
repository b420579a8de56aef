use Rattle.std.proofs.Common.{◌≡◌, ◌≤◌, ◌^◌, take}
use Rattle.asm_lines.specs.Numbers.{value_of}
use Rattle.asm_lines.proofs.numbers.value_of.Given as goal

abbrev pub invariant-loop-digit : goal.invariant-loop-digit
invariant-loop-digit l = record {
  value : l.number ≡ value_of l.base (take l.digit-index l.digits);
  bound : l.number ≤ 2 ^ 66;
}
