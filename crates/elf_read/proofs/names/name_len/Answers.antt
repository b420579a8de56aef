use Rattle.std.proofs.Common.{◌≤◌, ◌∙◌, length, arith}
use Rattle.elf_read.proofs.NameLemmas.{zeros_rise, names, unnamed}
use Rattle.elf_read.proofs.names.name_len.Goals as goal

pub first_from-requires : goal.first_from-requires
first_from-requires c = rw c.requires (zeros_rise 0 c.args.strings.now)

pub returns-in-Some : goal.returns-in-Some
returns-in-Some c = grind (arith, names)

pub returns-in-None : goal.returns-in-None
returns-in-None c =
    let past : length c.args.zeros.now ≤ c.first_from.result = grind arith in
    c.saturating_sub.ensures ∙ unnamed c.args.zeros.now c.args.strings.now c.args.at c.first_from.result c.requires c.first_from.ensures past
