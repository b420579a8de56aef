use Rattle.std.proofs.Common.{◌≡◌, ◌++◌, drop}
use Rattle.elf_load.proofs.PagingLemmas.{numbers_from}
use Rattle.elf_load.proofs.paging.page_numbers.Given as goal

-- the numbers so far, and those that follow, are all
abbrev pub invariant-loop-load : goal.invariant-loop-load
invariant-loop-load l = l.numbers.items ++ numbers_from l.next (drop l.load-index l.loads) ≡ numbers_from 0 l.loads
