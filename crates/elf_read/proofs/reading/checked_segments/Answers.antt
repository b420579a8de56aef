use Rattle.std.proofs.Common.{length, subst, All}
use Rattle.elf_read.specs.Elf.{FitsFile}
use Rattle.elf_read.proofs.RuleLemmas.{segments_fit}
use Rattle.elf_read.proofs.reading.checked_segments.Goals as goal

pub returns-clause-fit : goal.returns-clause-fit
returns-clause-fit c =
    subst (All (FitsFile (length c.args.bytes.now))) c.deref.ensures.value
    (segments_fit _ _ _ c.in_ok-check_segments.ensures)
