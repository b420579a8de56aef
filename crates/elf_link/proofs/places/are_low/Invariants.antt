use Rattle.std.proofs.Common.{◌<◌, ℕ}
use Rattle.elf_link.proofs.PlaceLemmas.{IsLow}
use Rattle.elf_link.proofs.places.are_low.Given as goal

-- the sections so far end low
abbrev pub invariant-loop-number : goal.invariant-loop-number
invariant-loop-number l = (n : ℕ) → n < l.number → IsLow l.places l.object.sections n
