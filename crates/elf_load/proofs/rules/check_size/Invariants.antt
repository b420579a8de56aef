use Rattle.std.proofs.Common.{◌≡◌, ◌≤◌, take, drop, [], sum_by}
use Rattle.elf_load.specs.Segments.{loads_of, pages_of}
use Rattle.elf_load.specs.Rules.{fault_among, too_large}
use Rattle.elf_load.proofs.rules.check_size.Given as goal

-- what is left begins behind the headers so far, whose pages were added up
abbrev pub invariant-loop-i : goal.invariant-loop-i
invariant-loop-i l = record {
  left : fault_among too_large l.elf.bytes (take l.i l.elf.segments) (drop l.i l.elf.segments) ≡ fault_among too_large l.elf.bytes [] l.elf.segments;
  added : l.pages ≡ sum_by pages_of (loads_of (take l.i l.elf.segments));
  few : l.pages ≤ 65536;
}
