use Rattle.elf_load.proofs.PagingLemmas.{numbers_all}
use Rattle.elf_load.proofs.paging.page_numbers.Goals as goal

pub returns : goal.returns
returns c =
    numbers_all c.loop-load.load-index c.loop-load.numbers.items c.loop-load.next c.args.loads.now c.requires.rising c.requires.loads c.requires.low c.loop-load-test.false c.loop-load.invariant
