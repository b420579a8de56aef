use Rattle.std.proofs.Common.{◌≡◌, ◌++◌, drop}
use Rattle.patch_build.specs.Jumps.{addresses_of}
use Rattle.patch_build.proofs.area.push_jumps.Given as goal

-- the addresses of the jumps that are left come behind those so far
abbrev pub invariant-loop-jump : goal.invariant-loop-jump
invariant-loop-jump l = l.addresses.items ++ addresses_of (drop l.jump-index l.jumps) ≡ l.fn.addresses.items ++ addresses_of l.jumps
