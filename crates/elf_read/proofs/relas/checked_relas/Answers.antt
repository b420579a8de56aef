use Rattle.elf_read.proofs.RelaLemmas.{read_rooted}
use Rattle.elf_read.proofs.relas.checked_relas.Goals as goal

pub returns-in-Rel-clause-rooted : goal.returns-in-Rel-clause-rooted
returns-in-Rel-clause-rooted c =
    read_rooted (λ v. v.items) c.read_groups.result c.args.bytes.now c.args.header.now c.args.sections.now c.args.symbols c.read_groups.ensures
