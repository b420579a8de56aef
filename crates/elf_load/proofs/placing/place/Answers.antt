use Rattle.elf_load.proofs.PlacingLemmas.{keyed-insert, same-insert}
use Rattle.elf_load.proofs.placing.place.Goals as goal

pub returns-clause-map : goal.returns-clause-map
returns-clause-map c = rw c.in_ok-insert.ensures.entries (keyed-insert c.args.segment.now _ c.requires.load c.requires.apart c.requires.map)

pub returns-clause-one_more : goal.returns-clause-one_more
returns-clause-one_more c = rw c.in_ok-insert.ensures.entries (same-insert c.args.segment.now _ c.requires.load c.requires.apart c.requires.map)
