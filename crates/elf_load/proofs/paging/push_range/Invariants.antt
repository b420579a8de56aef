use Rattle.std.proofs.Common.{◌≡◌, ◌≤◌, ◌++◌, ◌-◌, max}
use Rattle.std.specs.List.{range_with_len}
use Rattle.elf_load.proofs.paging.push_range.Given as goal

-- the numbers so far; there are none where the end is below the beginning
abbrev pub invariant-loop-number : goal.invariant-loop-number
invariant-loop-number l = record {
  so_far : l.numbers.items ≡ l.fn.numbers.items ++ range_with_len l.from (l.number - l.from);
  within : l.number ≤ max l.from l.to;
}
