use Rattle.std.proofs.Common.{◌≡◌, take}
use Rattle.wf_change.proofs.noting.copies_of.Given as goal

abbrev pub invariant-loop-hart : goal.invariant-loop-hart
invariant-loop-hart l = l.copies.items ≡ take l.hart-index l.harts
