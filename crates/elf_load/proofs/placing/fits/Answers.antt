use Rattle.elf_load.proofs.PlacingLemmas.{fits_then, fits_else}
use Rattle.elf_load.proofs.placing.fits.Goals as goal

pub returns-then-goes_behind : goal.returns-then-goes_behind
returns-then-goes_behind c =
    fits_then c.args.segment.now _ c.last_below.result c.first_from.result c.goes_behind.result c.is_followed.result c.requires.load c.requires.map.loads c.requires.map.rising
    c.last_below.ensures c.first_from.ensures c.goes_behind.ensures c.is_followed.ensures c.if-goes_behind.true

pub returns-else-goes_behind : goal.returns-else-goes_behind
returns-else-goes_behind c =
    fits_else c.args.segment.now _ c.last_below.result c.goes_behind.result c.requires.load c.requires.map.loads c.requires.map.rising
    c.last_below.ensures c.goes_behind.ensures c.if-goes_behind.false
