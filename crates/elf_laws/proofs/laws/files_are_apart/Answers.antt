use Rattle.elf_laws.proofs.ApartLemmas.{files_are_apart}
use Rattle.elf_laws.proofs.laws.files_are_apart.Goals as goal

pub returns : goal.returns
returns c = files_are_apart
