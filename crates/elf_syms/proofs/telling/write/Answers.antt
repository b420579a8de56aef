use Rattle.elf_syms.proofs.MapLemmas.{found_at-updates, stays-updates}
use Rattle.elf_syms.proofs.telling.write.Goals as goal

pub returns-in-Some-clause-stay : goal.returns-in-Some-clause-stay
returns-in-Some-clause-stay c = stays-updates c.args.name.now c.args.entries.now (c.get_mut.follows.lender c.args.told) c.args.told ((c.get_mut.follows.holds c.args.told).3 c.requires)

pub returns-in-Some-clause-found : goal.returns-in-Some-clause-found
returns-in-Some-clause-found c = found_at-updates c.args.name.now c.args.entries.now (c.get_mut.follows.lender c.args.told) c.args.told ((c.get_mut.follows.holds c.args.told).3 c.requires)
