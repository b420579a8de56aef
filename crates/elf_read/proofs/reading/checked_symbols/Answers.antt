use Rattle.std.proofs.Common.{length, subst, All}
use Rattle.elf_read.specs.Elf.{HasHome, IsNamed}
use Rattle.elf_read.proofs.RelaLemmas.{symbols_home}
use Rattle.elf_read.proofs.RuleLemmas.{symbols_named}
use Rattle.elf_read.proofs.reading.checked_symbols.Goals as goal

pub returns-clause-named : goal.returns-clause-named
returns-clause-named c =
    subst (All (IsNamed (length c.args.bytes.now))) c.deref.ensures.value
    (symbols_named _ _ _ _ c.requires.symbols c.in_ok-check_symbols.ensures)

pub returns-clause-homes : goal.returns-clause-homes
returns-clause-homes c =
    subst (All (HasHome c.args.header.now.e_shnum)) c.deref.ensures.value
    (symbols_home _ _ _ c.in_ok-check_symbols.ensures)
