use Rattle.std.proofs.Common.{◌≡◌, take, drop, []}
use Rattle.elf_load.specs.Rules.{fault_among}
use Rattle.elf_load.specs.Demands.{breaks_of}
use Rattle.elf_load.proofs.rules.check_headers.Given as goal

-- what is left begins behind the headers so far
abbrev pub invariant-loop-i : goal.invariant-loop-i
invariant-loop-i l =
    fault_among (breaks_of l.demand) l.elf.bytes (take l.i l.elf.segments) (drop l.i l.elf.segments)
    ≡ fault_among (breaks_of l.demand) l.elf.bytes [] l.elf.segments
