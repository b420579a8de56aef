-- The operands of a statement.
use Rattle.std.specs.Prelude.{ℕ, ℤ, pos, ◌+◌, ◌-◌, ◌^◌, ◌-ℤ◌, ◌==◌, ◌&&◌, List, take, drop, length, int_le, nat_le, slice_index, slice_range, Option, Some, None, if◌then◌else◌}
use Rattle.std.specs.Option.{option_map}
use Rattle.asm_lines.specs.Bytes.{is_name, name_len, place_of, trimmed}
use Rattle.asm_lines.specs.Choice.{◌>>=◌, when}
use Rattle.asm_lines.specs.Numbers.{number_of}
use Rattle.asm_lines.specs.Registers.{register_of}

-- what stands before the first comma and behind it, each without blanks at its ends
unfoldable pub pair : List ℕ → Option (List ℕ × List ℕ)
pair text =
    option_map (λ i. (trimmed (take i text), trimmed (drop (i + 1) text))) (place_of 44 text)

-- a name
abbrev pub name_of : List ℕ → Option (List ℕ)
name_of text = when (is_name text) text

-- an immediate that fits no instruction
abbrev pub unfit : ℤ
unfit = pos (2 ^ 63 - 1)

-- a number as an immediate
abbrev pub immediate : ℤ → ℤ
immediate z = if int_le (pos 0 -ℤ pos (2 ^ 63)) z && int_le z (pos (2 ^ 63 - 1)) then z else unfit

-- the number that an operand writes, as an immediate
abbrev pub immediate_of : List ℕ → Option ℤ
immediate_of text = option_map immediate (number_of text)

-- a register in parentheses
unfoldable pub in_parentheses : List ℕ → Option ℕ
in_parentheses text =
    if nat_le 2 (length text) && slice_index text 0 == 40
    && slice_index text (length text - 1) == 41
    then register_of (slice_range text 1 (length text - 1))
    else None

-- an offset and a register in parentheses
unfoldable pub address_of : List ℕ → Option (ℤ × ℕ)
address_of text = do
  i ← place_of 40 text
  off ← immediate_of (take i text)
  rs1 ← in_parentheses (drop i text)
  Some (off, rs1)

-- two registers
unfoldable pub two_registers : List ℕ → Option (ℕ × ℕ)
two_registers args = do
  p ← pair args
  a ← register_of p.0
  b ← register_of p.1
  Some (a, b)

-- three registers
unfoldable pub three_registers : List ℕ → Option (ℕ × ℕ × ℕ)
three_registers args = do
  p ← pair args
  a ← register_of p.0
  bc ← two_registers p.1
  Some (a, bc.0, bc.1)

-- a register and a number
unfoldable pub register_and_number : List ℕ → Option (ℕ × ℤ)
register_and_number args = do
  p ← pair args
  a ← register_of p.0
  n ← number_of p.1
  Some (a, n)

-- a register and an address
unfoldable pub register_and_address : List ℕ → Option (ℕ × ℤ × ℕ)
register_and_address args = do
  p ← pair args
  a ← register_of p.0
  address ← address_of p.1
  Some (a, address.0, address.1)

-- a register and a name
unfoldable pub register_and_name : List ℕ → Option (ℕ × List ℕ)
register_and_name args = do
  p ← pair args
  a ← register_of p.0
  name ← name_of p.1
  Some (a, name)

-- what an addend is that stands behind a name: nothing, or a number behind + or -
unfoldable pub addend_of : List ℕ → Option ℤ
addend_of text =
    if length text == 0 then Some (pos 0)
    else if slice_index text 0 == 43 then number_of (drop 1 text)
    else if slice_index text 0 == 45 then option_map (λ n. pos 0 -ℤ n) (number_of (drop 1 text))
    else None

-- a name and an addend
unfoldable pub name_and_addend : List ℕ → Option (List ℕ × ℤ)
name_and_addend text = do
  name ← name_of (take (name_len text) text)
  addend ← addend_of (drop (name_len text) text)
  Some (name, addend)
