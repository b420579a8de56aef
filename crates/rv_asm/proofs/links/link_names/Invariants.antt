use Rattle.std.proofs.Common.{◌≡◌, map, take}
use Rattle.rv_asm.specs.Links.{link_names, link_value}
use Rattle.rv_asm.specs.Names.{name_values}
use Rattle.rv_asm.proofs.links.link_names.Given as goal

abbrev pub invariant-loop-link : goal.invariant-loop-link
invariant-loop-link l = name_values l.names.items ≡ link_names (map link_value (take l.link-index l.links))
