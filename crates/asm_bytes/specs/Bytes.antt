-- The bytes that a statement puts.
use Rattle.std.specs.Prelude.{◌≡◌, ◌<ℤ◌, ◌⊎◌, ⊤, OnOk, Result, Err, ℕ, ℤ, pos, ◌+ℤ◌, ◌-ℤ◌, ◌-◌, ◌*◌, ◌/◌, ◌^◌, ◌&&◌, Bool, List, [], ◌∷◌, ◌++◌, int_le, int_lt, nat_le, replicate, Option, Some, None, if◌then◌else◌}
use Rattle.std.specs.List.{flat_map}
use Rattle.std.specs.Option.{option_map}
use Rattle.std.specs.Result.{result_ok}
use Rattle.byteorder.specs.Endian.{little_bytes}
use Rattle.hex.specs.Hex.{decode_of}
use Rattle.rv_encode.specs.Jumps.{distance}
use Rattle.rv_inst.specs.declared.inst.Inst.TheVariants as inst
use Rattle.rv_inst.specs.Spelling.{low_bits}
use Rattle.asm_lines.specs.Choice.{when}
use Rattle.asm_lines.specs.Statements.{Asked, Empty, Section, Align, Zero, Number, Hex, Ascii, Li, Plain, Named}
use Rattle.asm_lines.specs.declared.statement.SectionId.{SectionId}
use Rattle.asm_lines.specs.declared.statement.SectionId.TheVariants as section
use Rattle.asm_lines.specs.declared.statement.Use.{Use}
use Rattle.asm_lines.specs.declared.statement.Use.TheVariants as use_
use Rattle.asm_bytes.specs.declared.fault.PutFault.{PutFault}
use Rattle.asm_bytes.specs.declared.fault.PutFault.TheVariants.{Range}
use Rattle.asm_bytes.specs.Shorts.{call_code, la_code, long_li, short_li}
use Rattle.asm_bytes.specs.Sizes.{gap, may_stand}
use Rattle.asm_bytes.specs.Words.{code_bytes, is_number}

-- so many nop: addi x0, x0, 0
abbrev pub nops : ℕ → List ℕ
nops count = flat_map (little_bytes 4) (replicate count 0x00000013)

-- .align N behind so many bytes: zeros up to a multiple of 2 ^ N, but in .text zeros up to one of 4
-- and then nop
unfoldable pub align_bytes : SectionId → ℕ → ℕ → List ℕ
align_bytes section.Text n offset =
    replicate (gap 4 offset) 0 ++ nops ((gap (2 ^ n) offset - gap 4 offset) / 4)
align_bytes section.Rodata n offset = replicate (gap (2 ^ n) offset) 0
align_bytes section.Data n offset = replicate (gap (2 ^ n) offset) 0
align_bytes section.Bss n offset = replicate (gap (2 ^ n) offset) 0

-- whether a number has room in so many bytes, of which there are 1 to 8: it is from -2 ^ (8n-1) to
-- 2 ^ (8n) - 1
abbrev pub has_room : ℕ → ℤ → Bool
has_room width value =
    nat_le 1 width && nat_le width 8
    && int_le (pos 0 -ℤ pos (2 ^ (8 * width - 1))) value && int_lt value (pos (2 ^ (8 * width)))

-- a number in so many bytes, the lowest first
unfoldable pub number_bytes : ℕ → ℤ → Option (List ℕ)
number_bytes width value =
    when (has_room width value) (little_bytes width (low_bits (8 * width) value))

-- farther than an instruction or two can reach
abbrev pub IsFar : ℤ → Type 0
IsFar v = (v <ℤ (pos 0 -ℤ pos (2 ^ 32))) ⊎ (pos (2 ^ 32) <ℤ v)

-- what is put, at an address, for the use of a label that stands at a target
unfoldable pub use_bytes : ℕ → ℕ → Use → Option (List ℕ)
use_bytes address target use_.Globl = Some []
use_bytes address target use_.Size = Some []
use_bytes address target (use_.Address width addend) = number_bytes width (pos target +ℤ addend)
use_bytes address target (use_.Branch cond rs1 rs2) =
    code_bytes (inst.Branch cond rs1 rs2 (distance address target) ∷ [])
use_bytes address target (use_.Jal rd) = code_bytes (inst.Jal rd (distance address target) ∷ [])
use_bytes address target use_.Call = code_bytes (call_code (distance address target))
use_bytes address target (use_.La rd) = code_bytes (la_code rd (distance address target))

-- li of a number into a register
unfoldable pub li_bytes : ℕ → ℤ → Option (List ℕ)
li_bytes rd value =
    if is_number 12 value then code_bytes (short_li rd value)
    else if is_number 32 value then code_bytes (long_li rd value)
    else None

-- what a statement puts that may stand there
unfoldable pub put_bytes : SectionId → ℕ → ℕ → ℕ → Asked → Option (List ℕ)
put_bytes id offset address target Empty = Some []
put_bytes id offset address target (Section _) = Some []
put_bytes id offset address target (Align n) = Some (align_bytes id n offset)
put_bytes id offset address target (Zero n) = Some (replicate n 0)
put_bytes id offset address target (Number width value) = number_bytes width value
put_bytes id offset address target (Hex digits) = result_ok (decode_of digits)
put_bytes id offset address target (Ascii text) = Some text
put_bytes id offset address target (Li rd value) = li_bytes rd value
put_bytes id offset address target (Plain inst) = code_bytes (inst ∷ [])
put_bytes id offset address target (Named what name) = use_bytes address target what

-- The bytes that a statement puts behind so many bytes of a section, at an address, where the label
-- that it names stands at a target, any number if it names none: none where it may not stand there,
-- or where a number or a distance does not fit.
unfoldable pub bytes_of : SectionId → ℕ → ℕ → ℕ → Asked → Option (List ℕ)
bytes_of id offset address target asked =
    if may_stand id asked then put_bytes id offset address target asked else None

-- bytes with what is put behind them, if anything is
abbrev pub appended : List ℕ → Option (List ℕ) → Option (List ℕ)
appended front bytes = option_map (λ back. front ++ back) bytes

-- What putting answers: where all went well, there are bytes, and they were added; Range is
-- answered only where there are none, and then nothing was added.
pub record IsPut (answer : Result ⊤ PutFault) (old new : List ℕ)
    (bytes : Option (List ℕ)) : Type 0 where
  pub added : OnOk answer (appended old bytes ≡ Some new)
  pub refused : answer ≡ Err Range → bytes ≡ None
  pub same : answer ≡ Err Range → new ≡ old
