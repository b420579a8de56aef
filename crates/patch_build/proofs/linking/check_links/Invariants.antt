use Rattle.std.proofs.Common.{◌≡◌, drop}
use Rattle.patch_build.specs.Links.{link_fault}
use Rattle.patch_build.proofs.linking.check_links.Given as goal

-- the first fault is among the groups that are left
abbrev pub invariant-loop-group : goal.invariant-loop-group
invariant-loop-group l = link_fault l.linked (drop l.group-index l.groups) ≡ link_fault l.linked l.groups
