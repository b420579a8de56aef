use Rattle.std.proofs.Common.{◌≡◌, take}
use Rattle.std.specs.List.{flat_map}
use Rattle.elf_write.specs.Parts.{rela_bytes}
use Rattle.elf_write.proofs.parts.rela_table.Given as goal

abbrev pub invariant-loop-rela : goal.invariant-loop-rela
invariant-loop-rela l = l.out.items ≡ flat_map rela_bytes (take l.rela-index l.relas)
