use Rattle.std.proofs.Common.{◌≡◌, take}
use Rattle.std.specs.List.{flat_map}
use Rattle.elf_dump.specs.Escapes.{escaped_byte}
use Rattle.elf_dump.proofs.escaping.escape.Given as goal

abbrev pub invariant-loop-byte : goal.invariant-loop-byte
invariant-loop-byte l = l.out.items ≡ flat_map escaped_byte (take l.byte-index l.name)
