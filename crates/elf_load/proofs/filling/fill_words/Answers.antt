use Rattle.std.proofs.Common.{rules}
use Rattle.elf_load.proofs.FillingLemmas.{words_told}
use Rattle.elf_load.proofs.filling.fill_words.Goals as goal

pub returns : goal.returns
returns c = words_told c.args.bytes.now 512 c.read_u64_into.new.dst (search rules) c.read_u64_into.ensures
