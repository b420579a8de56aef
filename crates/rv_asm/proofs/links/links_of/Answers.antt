use Rattle.rv_asm.proofs.LinkLemmas.{offset_at}
use Rattle.rv_asm.proofs.links.links_of.Goals as goal

pub push_fields-requires : goal.push_fields-requires
push_fields-requires c = offset_at c.args.uses.now c.loop-placed.placed-index _ c.requires c.loop-placed-test.true
