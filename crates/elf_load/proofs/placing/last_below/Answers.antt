use Rattle.std.proofs.Common.{rules}
use Rattle.elf_load.proofs.PlacingLemmas.{last_told}
use Rattle.elf_load.proofs.placing.last_below.Goals as goal

pub returns : goal.returns
returns c = last_told (λ x. (x.0.now, x.1.now)) c.args.placed.now.entries c.range.result c.next_back.new.self c.args.at c.next_back.result c.map.result c.requires.keys (search rules) c.next_back.ensures.steps (search rules)
