use Rattle.std.proofs.Common.{◌≡◌, take}
use Rattle.std.specs.List.{flat_map}
use Rattle.elf_write.specs.Records.{section_bytes}
use Rattle.elf_write.proofs.records.section_headers.Given as goal

abbrev pub invariant-loop-section : goal.invariant-loop-section
invariant-loop-section l = l.out.items ≡ flat_map section_bytes (take l.section-index l.sections)
