use Rattle.std.proofs.Common.{◌≡◌, drop}
use Rattle.elf_link.specs.Applied.{all_applied}
use Rattle.elf_link.proofs.linking.Linking.apply_all.Given as goal

-- what is left leaves what all do
abbrev pub invariant-loop-group : goal.invariant-loop-group
invariant-loop-group l = all_applied l.self l.bytes (drop l.group-index l.self.object.relas) ≡ all_applied l.self l.fn.bytes l.self.object.relas
