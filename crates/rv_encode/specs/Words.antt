-- The word of an instruction.
use Rattle.std.specs.Prelude.{ℕ, Option}
use Rattle.std.specs.Option.{SomeIff}
use Rattle.rv_inst.specs.declared.inst.Inst.{Inst}
use Rattle.rv_inst.specs.Spelling.{IsSpelled, word_of}

-- the answer is the word of the instruction, or none where no word is this instruction
abbrev pub IsWordOf : Option ℕ → Inst → Type 0
IsWordOf answer inst = SomeIff answer (IsSpelled inst) (word_of inst)
