-- How many bytes a statement takes, before any name is known.
use Rattle.std.specs.Prelude.{ℕ, ℤ, ◌-◌, ◌/◌, ◌%◌, ◌^◌, ◌&&◌, Bool, true, false, nat_le, length, Option, if◌then◌else◌}
use Rattle.asm_lines.specs.Choice.{when}
use Rattle.asm_lines.specs.Statements.{Asked, Empty, Section, Align, Zero, Number, Hex, Ascii, Li, Plain, Named}
use Rattle.asm_lines.specs.declared.statement.SectionId.{SectionId}
use Rattle.asm_lines.specs.declared.statement.SectionId.TheVariants as section
use Rattle.asm_lines.specs.declared.statement.Use.{Use}
use Rattle.asm_lines.specs.declared.statement.Use.TheVariants as use_
use Rattle.asm_bytes.specs.Words.{is_number}

-- how many bytes there are from a place up to the next multiple of a number
abbrev pub gap : ℕ → ℕ → ℕ
gap n place = (n - place % n) % n

-- whether what a name is for puts nothing
abbrev pub puts_nothing : Use → Bool
puts_nothing use_.Globl = true
puts_nothing use_.Size = true
puts_nothing (use_.Address width addend) = false
puts_nothing (use_.Branch cond rs1 rs2) = false
puts_nothing (use_.Jal rd) = false
puts_nothing use_.Call = false
puts_nothing (use_.La rd) = false

-- whether .align N may stand in a section: N is at most 12, and in .text at least 2
abbrev pub may_align : SectionId → ℕ → Bool
may_align section.Text n = nat_le 2 n && nat_le n 12
may_align section.Rodata n = nat_le n 12
may_align section.Data n = nat_le n 12
may_align section.Bss n = nat_le n 12

-- whether what has contents may stand in a section
abbrev pub has_contents : SectionId → Bool
has_contents section.Text = true
has_contents section.Rodata = true
has_contents section.Data = true
has_contents section.Bss = false

-- Whether a statement may stand in a section: in .bss only .align, .zero, and what puts nothing.
unfoldable pub may_stand : SectionId → Asked → Bool
may_stand id Empty = true
may_stand id (Section _) = true
may_stand id (Align n) = may_align id n
may_stand id (Zero n) = true
may_stand id (Number width value) = has_contents id
may_stand id (Hex digits) = has_contents id
may_stand id (Ascii text) = has_contents id
may_stand id (Li rd value) = has_contents id
may_stand id (Plain inst) = has_contents id
may_stand id (Named what name) = if puts_nothing what then true else has_contents id

-- how many bytes what a name is for takes
abbrev pub use_size : Use → ℕ
use_size use_.Globl = 0
use_size use_.Size = 0
use_size (use_.Address width addend) = width
use_size (use_.Branch cond rs1 rs2) = 4
use_size (use_.Jal rd) = 4
use_size use_.Call = 8
use_size (use_.La rd) = 8

-- how many bytes li takes: one instruction where its number is one of 12 bits, else two
abbrev pub li_size : ℤ → ℕ
li_size value = if is_number 12 value then 4 else 8

-- how many bytes a statement takes that may stand behind so many bytes of its section
unfoldable pub bytes_taken : ℕ → Asked → ℕ
bytes_taken offset Empty = 0
bytes_taken offset (Section _) = 0
bytes_taken offset (Align n) = gap (2 ^ n) offset
bytes_taken offset (Zero n) = n
bytes_taken offset (Number width value) = width
bytes_taken offset (Hex digits) = length digits / 2
bytes_taken offset (Ascii text) = length text
bytes_taken offset (Li rd value) = li_size value
bytes_taken offset (Plain inst) = 4
bytes_taken offset (Named what name) = use_size what

-- How many bytes a statement takes behind so many bytes of a section, where it may stand there.
unfoldable pub size_of : SectionId → ℕ → Asked → Option ℕ
size_of id offset asked = when (may_stand id asked) (bytes_taken offset asked)
