use Rattle.std.proofs.Common.{◌≡◌, map, take}
use Rattle.rv_asm.specs.Links.{link_value, links_of}
use Rattle.rv_asm.specs.Uses.{use_values}
use Rattle.rv_asm.proofs.links.links_of.Given as goal

abbrev pub invariant-loop-placed : goal.invariant-loop-placed
invariant-loop-placed l = map link_value l.links.items ≡ links_of l.labels (use_values (take l.placed-index l.uses))
