use Rattle.std.proofs.Common.{◌≡◌, [], drop}
use Rattle.elf_syms.specs.Names.{found_for}
use Rattle.patch_build.specs.Jumps.{jumps_behind}
use Rattle.patch_build.proofs.lines.Lookup.jumps_of.Given as goal

-- the lines that are left decide behind the jumps so far
abbrev pub invariant-loop-replace : goal.invariant-loop-replace
invariant-loop-replace l =
    jumps_behind (found_for l.self.functions) l.self.names l.self.area l.jumps (drop l.replace-index l.replaces)
    ≡ jumps_behind (found_for l.self.functions) l.self.names l.self.area [] l.replaces
