use Rattle.std.proofs.Common.{◌≡◌, ◌++◌, take, drop}
use Rattle.patch_build.specs.Links.{AreSized, linked_from, linked_of}
use Rattle.patch_build.proofs.linking.linked_of.Given as goal

-- the sections that are left come behind those so far
abbrev pub invariant-loop-number : goal.invariant-loop-number
invariant-loop-number l = record {
  linked : l.sections.items ++ linked_from l.object l.places l.names l.number (drop l.number l.object.sections) ≡ linked_of l.object l.places l.names;
  sized : AreSized (take l.number l.object.sections) l.sections.items;
}
