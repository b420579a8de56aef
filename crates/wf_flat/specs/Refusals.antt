-- The answer of a refused call, in a0.
use Rattle.std.specs.Prelude.{ℕ, pos, ◌-ℤ◌}
use Rattle.rv_alu.specs.Arithmetic.{wrapped}
use Rattle.wf_outside.specs.declared.refusal.Refusal.{Refusal}
use Rattle.wf_outside.specs.Refusals.{refusal_number}

-- the number of a refusal, negated, as a register has it
abbrev pub refused_answer : Refusal → ℕ
refused_answer reason = wrapped (pos 0 -ℤ pos (refusal_number reason))
