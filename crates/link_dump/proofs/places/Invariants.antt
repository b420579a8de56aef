use Rattle.std.proofs.Common.{◌≡◌, length}
use Rattle.link_dump.proofs.places.Given as goal

-- there is one for each section
abbrev pub invariant-loop-word : goal.invariant-loop-word
invariant-loop-word l = length l.places.items ≡ l.count
