use Rattle.std.proofs.Common.{arith}
use Rattle.elf_link.proofs.PairLemmas.{high-more}
use Rattle.elf_link.proofs.pairs.note_all.Goals as goal

pub loop-rela-preserved : goal.loop-rela-preserved
loop-rela-preserved c = λ offset.
    grind (arith, high-more, c.in_ok-note.ensures offset, c.loop-rela.invariant offset)
