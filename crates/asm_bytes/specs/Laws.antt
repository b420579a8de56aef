-- What the instructions of short forms do to a hart (RISC-V unprivileged ISA, "RISC-V Assembly
-- Programmer's Handbook").
use Rattle.std.specs.Prelude.{ℕ, List, [], ◌∷◌}
use Rattle.rv_inst.specs.Arch.{ArchState}
use Rattle.rv_inst.specs.Meanings.{meaning_of, next_pc, written}
use Rattle.rv_inst.specs.declared.inst.Inst.{Inst}

-- the pc and registers after instructions that read no memory, one after another
abbrev pub after_all : List Inst → ArchState → ArchState
after_all [] arch = arch
after_all (inst ∷ rest) arch = after_all rest (meaning_of inst arch 0)

-- a hart with a number in a register, and on by one instruction
abbrev pub one_on : ℕ → ℕ → ArchState → ArchState
one_on rd number arch = record { pc = next_pc arch.pc; x = written arch.x rd number }

-- the same, on by two instructions
abbrev pub two_on : ℕ → ℕ → ArchState → ArchState
two_on rd number arch = record { pc = next_pc (next_pc arch.pc); x = written arch.x rd number }

-- a hart at a target, with the address behind two instructions in x1
abbrev pub at_target : ℕ → ArchState → ArchState
at_target target arch = record { pc = target; x = written arch.x 1 (next_pc (next_pc arch.pc)) }
