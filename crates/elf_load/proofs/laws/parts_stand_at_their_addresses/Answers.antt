use Rattle.elf_load.proofs.LawLemmas.{parts_stand}
use Rattle.elf_load.proofs.laws.parts_stand_at_their_addresses.Goals as goal

pub returns : goal.returns
returns c = parts_stand
