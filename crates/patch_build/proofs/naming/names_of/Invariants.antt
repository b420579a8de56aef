use Rattle.std.proofs.Common.{◌≡◌, ◌++◌, drop}
use Rattle.patch_build.specs.Names.{names_from, names_of}
use Rattle.patch_build.proofs.naming.names_of.Given as goal

-- the names of the symbols that are left come behind those so far
abbrev pub invariant-loop-number : goal.invariant-loop-number
invariant-loop-number l =
    l.names.items ++ names_from l.wanted l.object l.places l.number (drop l.number l.object.symbols) ≡ names_of l.wanted l.object l.places
