use Rattle.std.proofs.Common.{◌≡◌, drop}
use Rattle.patch_build.specs.Sections.{section_fault}
use Rattle.patch_build.proofs.checking.check_sections.Given as goal

-- the first fault is among the sections that are left
abbrev pub invariant-loop-index : goal.invariant-loop-index
invariant-loop-index l = section_fault l.index (drop l.index l.object.sections) ≡ section_fault 0 l.object.sections
