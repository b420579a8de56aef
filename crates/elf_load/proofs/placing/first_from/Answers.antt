use Rattle.std.proofs.Common.{rules}
use Rattle.elf_load.proofs.PlacingLemmas.{first_told}
use Rattle.elf_load.proofs.placing.first_from.Goals as goal

pub returns : goal.returns
returns c = first_told (λ x. (x.0.now, x.1.now)) c.args.placed.now.entries c.range.result c.next.new.self c.args.at c.next.result c.map.result c.requires.keys (search rules) c.next.ensures.steps (search rules)
