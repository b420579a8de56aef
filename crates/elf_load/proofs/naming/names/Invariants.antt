use Rattle.std.proofs.Common.{◌≡◌, take, map}
use Rattle.std.specs.List.{filter}
use Rattle.elf_load.specs.Loaded.{is_defined, name_of}
use Rattle.elf_load.proofs.naming.names.Given as goal

-- the names of the symbols so far
abbrev pub invariant-loop-symbol : goal.invariant-loop-symbol
invariant-loop-symbol l = l.names.items ≡ map (name_of l.elf.bytes) (filter is_defined (take l.symbol-index l.elf.symbols))
