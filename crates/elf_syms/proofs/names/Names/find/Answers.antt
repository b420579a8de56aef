use Rattle.std.proofs.Common.{rules}
use Rattle.elf_syms.proofs.MapLemmas.{found_for-names_in}
use Rattle.elf_syms.proofs.names.Names.find.Goals as goal

pub returns : goal.returns
returns c = grind (rules, found_for-names_in)
