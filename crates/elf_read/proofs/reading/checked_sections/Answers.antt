use Rattle.std.proofs.Common.{length, subst, All}
use Rattle.elf_read.specs.Elf.{LiesInFile}
use Rattle.elf_read.specs.Records.{symbol_table}
use Rattle.elf_read.specs.Reading.{AreSymbolsIn}
use Rattle.elf_read.proofs.RelaLemmas.{sections_lie}
use Rattle.elf_read.proofs.RuleLemmas.{symbols_in}
use Rattle.elf_read.proofs.reading.checked_sections.Goals as goal

pub returns-clause-symbols : goal.returns-clause-symbols
returns-clause-symbols c =
    subst (λ sections. AreSymbolsIn (length c.args.bytes.now) (symbol_table sections)) c.deref.ensures.value
    (symbols_in _ _ _ c.in_ok-check_sections.ensures)

pub returns-clause-lie : goal.returns-clause-lie
returns-clause-lie c =
    subst (All (LiesInFile (length c.args.bytes.now))) c.deref.ensures.value
    (sections_lie _ _ _ c.in_ok-check_sections.ensures)
