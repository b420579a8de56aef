use Rattle.std.proofs.Common.{◌≡◌, ◌++◌, map, take}
use Rattle.elf_write.specs.Parts.{relas_for}
use Rattle.rv_asm.specs.Links.{link_value, rela_of}
use Rattle.rv_asm.specs.Names.{name_values}
use Rattle.rv_asm.proofs.links.push_relas.Given as goal

abbrev pub invariant-loop-link : goal.invariant-loop-link
invariant-loop-link l = l.out.items ≡ l.fn.out.items ++ relas_for l.section (map (rela_of (name_values l.names)) (map link_value (take l.link-index l.links)))
