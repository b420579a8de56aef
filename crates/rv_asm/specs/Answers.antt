-- Answers that are a value or the first fault, and code whose answers are these.
use Rattle.std.specs.Prelude.{◌≡◌, ℕ, Option, Some, None, Result, Ok, Err}
use Rattle.rv_asm.specs.declared.fault.AsmFault.{AsmFault}
use Rattle.rv_asm.specs.declared.fault.AsmFault.TheVariants as fault
use Rattle.rv_asm.specs.declared.fault.AsmRule.{AsmRule}

-- the second step, if the first gave a value
infixl 10 ◌>>=◌
abbrev pub ◌>>=◌ : {A B : Type 0} → Result A AsmFault → (A → Result B AsmFault) → Result B AsmFault
(Ok x) >>= f = f x
(Err e) >>= f = Err e

-- the value, or else the line of this number breaks the rule
abbrev pub or_at : {A : Type 0} → ℕ → AsmRule → Option A → Result A AsmFault
or_at number rule None = Err (fault.At number rule)
or_at number rule (Some x) = Ok x

-- a fault is that of an answer, unless memory ran out
abbrev pub IsFaultOf : {A : Type 0} → AsmFault → Result A AsmFault → Type 0
IsFaultOf fault.Memory answer = Unit {0}
IsFaultOf (fault.At number rule) answer = answer ≡ Err (fault.At number rule)

-- what code returned, seen by view, is the answer, unless memory ran out
abbrev pub Answers : {A B : Type 0} → (A → B) → Result A AsmFault → Result B AsmFault → Type 0
Answers view (Ok x) answer = answer ≡ Ok (view x)
Answers view (Err e) answer = IsFaultOf e answer

-- what code made of a value is the answer, unless memory ran out
abbrev pub Becomes : {A B : Type 0} → Result A AsmFault → B → Result B AsmFault → Type 0
Becomes (Ok x) made answer = answer ≡ Ok made
Becomes (Err e) made answer = IsFaultOf e answer
