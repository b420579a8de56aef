use Rattle.std.proofs.Common.{◌≡◌, ◌++◌, drop}
use Rattle.std.specs.List.{enumerate_from, flat_map}
use Rattle.wf_outside.specs.Lists.{first_of}
use Rattle.elf_read.specs.Records.{group_of, relas_of}
use Rattle.elf_read.specs.Rules.{link_rules}
use Rattle.elf_read.specs.declared.elf.Kind.TheVariants.{Rel}
use Rattle.elf_read.proofs.relas.read_groups.Given as goal

-- the groups so far and those of what is left are all, and no rule was broken so far
abbrev pub invariant-loop-i : goal.invariant-loop-i
invariant-loop-i l =
    (l.groups.items ++ flat_map (group_of l.bytes) (enumerate_from l.i (drop l.i l.sections)) ≡ relas_of Rel l.bytes l.sections)
    × (first_of (flat_map (link_rules l.bytes l.header l.sections l.symbols) (enumerate_from l.i (drop l.i l.sections)))
    ≡ first_of (flat_map (link_rules l.bytes l.header l.sections l.symbols) (enumerate_from 0 l.sections)))
