-- Lines.
use Rattle.std.specs.Prelude.{ℕ, ◌+◌, ◌==◌, List, [], ◌∷◌, drop, take, slice_index, Option, Some, None, if◌then◌else◌}
use Rattle.std.specs.Option.{option_copied, option_map}
use Rattle.asm_lines.specs.declared.lines.Line.{Line}
use Rattle.asm_lines.specs.Atomics.{atomic}
use Rattle.asm_lines.specs.Bytes.{code_of, is_blank, is_name, name_len, place_or_end, trimmed_start}
use Rattle.asm_lines.specs.Choice.{or_else}
use Rattle.asm_lines.specs.Directives.{directive}
use Rattle.asm_lines.specs.Instructions.{alu, alu_imm, bare, branch, jal, jalr, load, store, upper_inst}
use Rattle.asm_lines.specs.Shorts.{short}
use Rattle.asm_lines.specs.Statements.{Asked, Empty, Plain, asked}
use Rattle.rv_inst.specs.declared.inst.Inst.{Inst}

-- a line, as clauses see it: its label, and what it asks for
pub record LineValue : Type 0 where
  pub label : Option (List ℕ)
  pub asked : Asked

-- a line of the code, without where it lies in memory
abbrev pub line_value : Line → LineValue
line_value l = record { label = option_copied l.label; asked = asked l.statement }

-- an instruction that takes no name
unfoldable pub plain : List ℕ → List ℕ → Option Inst
plain mnemonic args =
    or_else (alu mnemonic args)
    (or_else (alu_imm mnemonic args)
    (or_else (load mnemonic args)
    (or_else (store mnemonic args)
    (or_else (jalr mnemonic args)
    (or_else (upper_inst mnemonic args)
    (or_else (atomic mnemonic args)
    (bare mnemonic args)))))))

-- a statement: a directive, a short form or an instruction
unfoldable pub statement_with : List ℕ → List ℕ → Option Asked
statement_with mnemonic args =
    or_else (option_map Plain (plain mnemonic args))
    (or_else (branch mnemonic args)
    (or_else (jal mnemonic args)
    (or_else (short mnemonic args)
    (directive mnemonic args))))

-- how long the mnemonic at the front is: it ends at the first blank
abbrev pub mnemonic_len : List ℕ → ℕ
mnemonic_len text = place_or_end is_blank text

-- what a text asks for that has no comment and no blanks at its ends: nothing, or a mnemonic and
-- its operands behind blanks
unfoldable pub statement_of : List ℕ → Option Asked
statement_of [] = Some Empty
statement_of (b ∷ bs) =
    let text = b ∷ bs in
    statement_with (take (mnemonic_len text) text) (trimmed_start (drop (mnemonic_len text) text))

-- with this label
abbrev pub with_label : Option (List ℕ) → Asked → LineValue
with_label label statement = record { label = label; asked = statement }

-- a line that begins with a name of so many bytes and a colon
unfoldable pub labelled : ℕ → List ℕ → Option LineValue
labelled n code =
    if is_name (take n code)
    then option_map (with_label (Some (take n code)))
    (statement_of (trimmed_start (drop (n + 1) code)))
    else None

-- A line without its newline: a comment is passed over; a name and a colon in front are a label;
-- and what is left is a statement.
unfoldable pub line_of : List ℕ → Option LineValue
line_of line =
    if slice_index (code_of line) (name_len (code_of line)) == 58
    then labelled (name_len (code_of line)) (code_of line)
    else option_map (with_label None) (statement_of (code_of line))
