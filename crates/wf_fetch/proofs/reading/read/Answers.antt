use Rattle.wf_fetch.proofs.LoadedLemmas.{elf_is}
use Rattle.wf_fetch.proofs.reading.read.Goals as goal

pub returns-in-Ok-clause-ok : goal.returns-in-Ok-clause-ok
returns-in-Ok-clause-ok c = elf_is c.args.bytes.items c.in-Ok.elf c.in-Ok.ensures.ok
