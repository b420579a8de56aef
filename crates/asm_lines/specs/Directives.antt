-- The directives.
use Rattle.std.specs.Prelude.{ℕ, pos, ◌-◌, ◌%◌, ◌==◌, ◌&&◌, not, Bool, List, [], ◌∷◌, codes, int_le, length, nat_le, nat_lt, slice_index, slice_range, unsigned_abs, Option, Some, None, if◌then◌else◌}
use Rattle.std.specs.List.{list_all}
use Rattle.std.specs.Option.{option_map}
use Rattle.std.specs.Str.{bytes_eq}
use Rattle.asm_lines.specs.declared.statement.SectionId.TheVariants as section
use Rattle.asm_lines.specs.declared.statement.Use.TheVariants as use_
use Rattle.asm_lines.specs.Choice.{◌>>=◌, or_else, when}
use Rattle.asm_lines.specs.Numbers.{is_hex_digit, number_of}
use Rattle.asm_lines.specs.Operands.{name_and_addend, name_of}
use Rattle.asm_lines.specs.Statements.{Asked, Align, Ascii, Hex, Named, Number, Section, Zero}

-- a section's directive has no operand
unfoldable pub section_directive : List ℕ → List ℕ → Option Asked
section_directive mnemonic [] =
    if bytes_eq mnemonic (codes ".text") then Some (Section section.Text)
    else if bytes_eq mnemonic (codes ".rodata") then Some (Section section.Rodata)
    else if bytes_eq mnemonic (codes ".data") then Some (Section section.Data)
    else if bytes_eq mnemonic (codes ".bss") then Some (Section section.Bss)
    else None
section_directive mnemonic (b ∷ bs) = None

-- .align N, N from 0 to 12
abbrev pub align : List ℕ → Option Asked
align args = do
  n ← number_of args
  when (int_le (pos 0) n && int_le n (pos 12)) (Align (unsigned_abs n))

-- .zero N, N not below 0
abbrev pub zero_bytes : List ℕ → Option Asked
zero_bytes args = do
  n ← number_of args
  when (int_le (pos 0) n) (Zero (unsigned_abs n))

-- a number in so many bytes
abbrev pub number : ℕ → List ℕ → Option Asked
number width args = option_map (λ n. Number width n) (number_of args)

-- a number in so many bytes, or a name with an addend
unfoldable pub number_or_name : ℕ → List ℕ → Option Asked
number_or_name width args =
    or_else (number width args)
    (option_map (λ r. Named (use_.Address width r.1) r.0) (name_and_addend args))

-- .hex DIGITS, an even number of them
unfoldable pub hex_digits : List ℕ → Option Asked
hex_digits args =
    when (nat_lt 0 (length args) && length args % 2 == 0 && list_all is_hex_digit args) (Hex args)

-- a space or a printable byte, but no quote
abbrev pub is_printable : ℕ → Bool
is_printable b = nat_le 32 b && nat_le b 126 && not (b == 34)

-- .ascii "TEXT"
unfoldable pub ascii : List ℕ → Option Asked
ascii args =
    if nat_le 2 (length args) && slice_index args 0 == 34
    && slice_index args (length args - 1) == 34
    then when (list_all is_printable (slice_range args 1 (length args - 1)))
    (Ascii (slice_range args 1 (length args - 1)))
    else None

-- the directives of names and places
unfoldable pub place_directive : List ℕ → List ℕ → Option Asked
place_directive mnemonic args =
    if bytes_eq mnemonic (codes ".globl")
    then option_map (λ name. Named use_.Globl name) (name_of args)
    else if bytes_eq mnemonic (codes ".size")
    then option_map (λ name. Named use_.Size name) (name_of args)
    else if bytes_eq mnemonic (codes ".align") then align args
    else section_directive mnemonic args

-- those of bytes
unfoldable pub directive : List ℕ → List ℕ → Option Asked
directive mnemonic args =
    if bytes_eq mnemonic (codes ".byte") then number 1 args
    else if bytes_eq mnemonic (codes ".half") then number 2 args
    else if bytes_eq mnemonic (codes ".word") then number_or_name 4 args
    else if bytes_eq mnemonic (codes ".dword") then number_or_name 8 args
    else if bytes_eq mnemonic (codes ".zero") then zero_bytes args
    else if bytes_eq mnemonic (codes ".hex") then hex_digits args
    else if bytes_eq mnemonic (codes ".ascii") then ascii args
    else place_directive mnemonic args
