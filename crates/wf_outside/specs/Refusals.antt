-- The numbers of refusals.
use Rattle.std.specs.Prelude.{ℕ}
use Rattle.wf_outside.specs.declared.refusal.Refusal.{Refusal}
use Rattle.wf_outside.specs.declared.refusal.Refusal.TheVariants.{Argument, Overlap, Absent, Leaving, NoFrames, NoView, NotEmpty, Inside, Views, Number, Lacks}

-- the number of a refusal, which a refused call answers negated; no call of a hart lacks a patch
abbrev pub refusal_number : Refusal → ℕ
refusal_number Argument = 1
refusal_number (Overlap page) = 2
refusal_number (Absent page) = 3
refusal_number (Leaving page) = 4
refusal_number (NoFrames need free) = 5
refusal_number (NoView generation) = 6
refusal_number (NotEmpty hart) = 7
refusal_number (Inside at) = 8
refusal_number Views = 9
refusal_number (Number n) = 10
refusal_number (Lacks n) = 0
