-- What lines ask for, without where their names lie in memory.
use Rattle.std.specs.Prelude.{ℕ, ℤ, List}
use Rattle.rv_inst.specs.declared.inst.Inst.{Inst}
use Rattle.asm_lines.specs.declared.statement.SectionId.{SectionId}
use Rattle.asm_lines.specs.declared.statement.Use.{Use}
use Rattle.asm_lines.specs.declared.statement.Statement.{Statement}
use Rattle.asm_lines.specs.declared.statement.Statement.TheVariants as code

-- a statement, as clauses see it
pub data Asked : Type 0 where
  Empty : Asked
  Section : SectionId → Asked
  Align : ℕ → Asked
  Zero : ℕ → Asked
  Number : ℕ → ℤ → Asked
  Hex : List ℕ → Asked
  Ascii : List ℕ → Asked
  Li : ℕ → ℤ → Asked
  Plain : Inst → Asked
  Named : Use → List ℕ → Asked

-- what a statement of the code asks for
abbrev pub asked : Statement → Asked
asked code.Empty = Empty
asked (code.Section id) = Section id
asked (code.Align n) = Align n
asked (code.Zero n) = Zero n
asked (code.Number width value) = Number width value
asked (code.Hex digits) = Hex digits.now
asked (code.Ascii text) = Ascii text.now
asked (code.Li rd value) = Li rd value
asked (code.Plain inst) = Plain inst
asked (code.Named what name) = Named what name.now
