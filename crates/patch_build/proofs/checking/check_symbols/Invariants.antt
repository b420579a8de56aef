use Rattle.std.proofs.Common.{◌≡◌, drop}
use Rattle.patch_build.specs.Names.{common_fault}
use Rattle.patch_build.proofs.checking.check_symbols.Given as goal

-- the first fault is among the symbols that are left
abbrev pub invariant-loop-number : goal.invariant-loop-number
invariant-loop-number l = common_fault l.number (drop l.number l.object.symbols) ≡ common_fault 0 l.object.symbols
