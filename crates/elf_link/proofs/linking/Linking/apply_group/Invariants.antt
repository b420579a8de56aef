use Rattle.std.proofs.Common.{◌≡◌, drop}
use Rattle.elf_link.specs.Applied.{group_applied}
use Rattle.elf_link.proofs.linking.Linking.apply_group.Given as goal

-- what is left leaves what all do
abbrev pub invariant-loop-index : goal.invariant-loop-index
invariant-loop-index l = group_applied l.self l.group l.index l.bytes (drop l.index l.relas) ≡ group_applied l.self l.group 0 l.fn.bytes l.relas
