use Rattle.std.proofs.Common.{take}
use Rattle.patch_build.specs.Jumps.{HasSame}
use Rattle.patch_build.proofs.jumps.noted.Given as goal

-- the addresses so far are noted
abbrev pub invariant-loop-at : goal.invariant-loop-at
invariant-loop-at l = HasSame l.noted.keys (take l.at-index l.addresses)
