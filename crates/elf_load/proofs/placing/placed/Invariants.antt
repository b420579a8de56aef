use Rattle.std.proofs.Common.{◌≡◌, take, drop, []}
use Rattle.std.specs.BTreeMap.{values}
use Rattle.elf_load.specs.Segments.{loads_of}
use Rattle.elf_load.specs.Rules.{fault_among, shared_page}
use Rattle.elf_load.specs.Placing.{HasSame, IsKeyed}
use Rattle.elf_load.proofs.placing.placed.Given as goal

-- the headers so far are placed, and what is left begins behind them
abbrev pub invariant-loop-i : goal.invariant-loop-i
invariant-loop-i l = record {
  left : fault_among shared_page l.elf.bytes (take l.i l.elf.segments) (drop l.i l.elf.segments) ≡ fault_among shared_page l.elf.bytes [] l.elf.segments;
  map : IsKeyed l.placed.entries;
  same : HasSame (values l.placed) (loads_of (take l.i l.elf.segments));
}
