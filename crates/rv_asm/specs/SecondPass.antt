-- The second pass over a source: what each section has, and what the symbols are. The address of
-- each label is known by the first.
use Rattle.std.specs.Prelude.{ℕ, pos, suc, ◌+◌, ◌-◌, ◌-ℤ◌, ◌^◌, ◌==◌, ◌&&◌, ◌||◌, Bool, true, false, List, [], ◌∷◌, ◌++◌, int_le, length, map, nat_le, nat_lt, Option, Some, None, Result, Ok, Err, if◌then◌else◌}
use Rattle.std.specs.Option.{option_map, option_map_or}
use Rattle.asm_bytes.specs.Bytes.{bytes_of}
use Rattle.asm_bytes.specs.Sizes.{puts_nothing}
use Rattle.asm_lines.specs.declared.statement.SectionId.{SectionId}
use Rattle.asm_lines.specs.declared.statement.SectionId.TheVariants as section
use Rattle.asm_lines.specs.declared.statement.Use.{Use}
use Rattle.asm_lines.specs.declared.statement.Use.TheVariants as use_
use Rattle.asm_lines.specs.Lines.{line_of}
use Rattle.asm_lines.specs.Statements.{Asked, Empty, Section, Align, Zero, Number, Hex, Ascii, Li, Plain, Named}
use Rattle.elf_write.specs.declared.layout.Bases.{Bases}
use Rattle.elf_write.specs.declared.module.Form.{Form}
use Rattle.elf_write.specs.declared.module.Form.TheVariants.{Exec, Object}
use Rattle.elf_write.specs.declared.module.ModSymbol.{ModSymbol}
use Rattle.elf_write.specs.Layout.{bases_in}
use Rattle.rv_asm.specs.declared.fault.AsmFault.{AsmFault}
use Rattle.rv_asm.specs.declared.fault.AsmFault.TheVariants as fault
use Rattle.rv_asm.specs.declared.fault.AsmRule.TheVariants as rule
use Rattle.rv_asm.specs.declared.sizes.SectionSizes.{SectionSizes}
use Rattle.rv_asm.specs.declared.first_pass.Survey.{Survey}
use Rattle.rv_asm.specs.Answers.{◌>>=◌, or_at}
use Rattle.rv_asm.specs.FirstPass.{size_in}
use Rattle.rv_asm.specs.Uses.{UseValue}
use Rattle.rv_asm.specs.Labels.{LabelValue, as_global, changed, of_size, section_number, symbol_named}

-- the address of a section
abbrev pub base_among : Bases → SectionId → ℕ
base_among bases section.Text = bases.text
base_among bases section.Rodata = bases.rodata
base_among bases section.Data = bases.rwdata
base_among bases section.Bss = bases.bss

-- the address of a section, where the sections have these sizes; 0 in an object
unfoldable pub base_of : Form → SectionSizes → SectionId → ℕ
base_of form sizes id = base_among (bases_in form sizes.text sizes.rodata sizes.rwdata) id

-- the symbol of a label, before .globl and .size
abbrev pub symbol_of : Form → SectionSizes → LabelValue → ModSymbol
symbol_of form sizes label = record {
  name = label.name;
  section = section_number label.section;
  value = base_of form sizes label.section + label.offset;
  size = 0;
  global = false;
}

-- A draft of a module: its form, how long its sections become, in which section the next statement
-- stands, what each section has so far, the symbols in the order of their lines, and the labels and
-- uses of names that the first pass found.
pub record DraftValue : Type 0 where
  pub form : Form
  pub sizes : SectionSizes
  pub section : SectionId
  pub text : List ℕ
  pub rodata : List ℕ
  pub rwdata : List ℕ
  pub bss : ℕ
  pub symbols : List ModSymbol
  pub labels : List LabelValue
  pub uses : List UseValue

-- the draft in which nothing stands yet
abbrev pub blank : Form → Survey → DraftValue
blank form survey = record {
  form = form;
  sizes = survey.sizes;
  section = section.Text;
  text = [];
  rodata = [];
  rwdata = [];
  bss = 0;
  symbols = map (symbol_of form survey.sizes) survey.labels;
  labels = survey.labels;
  uses = survey.uses;
}

-- how long the sections are so far
abbrev pub lengths : DraftValue → SectionSizes
lengths d =
    record { text = length d.text; rodata = length d.rodata; rwdata = length d.rwdata; bss = d.bss }

-- how many bytes a section has so far
abbrev pub offset_in : DraftValue → SectionId → ℕ
offset_in d id = size_in (lengths d) id

-- the address of the next statement
unfoldable pub here : DraftValue → ℕ
here d = base_of d.form d.sizes d.section + offset_in d d.section

-- a draft with bytes at the end of a section; of .bss only their number is kept, since they are
-- zeros
abbrev pub with_bytes : SectionId → List ℕ → DraftValue → DraftValue
with_bytes section.Text bytes d = record d { text = d.text ++ bytes }
with_bytes section.Rodata bytes d = record d { rodata = d.rodata ++ bytes }
with_bytes section.Data bytes d = record d { rwdata = d.rwdata ++ bytes }
with_bytes section.Bss bytes d = record d { bss = d.bss + length bytes }

-- behind bytes: Range if there are none since a number or a distance does not fit, or if the
-- section is longer than 2 ^ 32 bytes then
unfoldable pub lengthened : ℕ → Option (List ℕ) → DraftValue → Result DraftValue AsmFault
lengthened number None d = Err (fault.At number rule.Range)
lengthened number (Some bytes) d =
    if nat_lt (2 ^ 32) (offset_in d d.section + length bytes) then Err (fault.At number rule.Range)
    else Ok (with_bytes d.section bytes d)

-- behind the bytes of a statement, for the use of a label at a target
abbrev pub put : ℕ → ℕ → Asked → DraftValue → Result DraftValue AsmFault
put number target asked d =
    lengthened number (bytes_of d.section (offset_in d d.section) (here d) target asked) d

-- a draft with a changed symbol
abbrev pub with_symbol : List ℕ → (ModSymbol → ModSymbol) → DraftValue → DraftValue
with_symbol name change d = record d { symbols = changed name change d.symbols }

-- whether a symbol stands in a section at or before an address
abbrev pub stands_before : SectionId → ℕ → ModSymbol → Bool
stands_before id address s = s.section == section_number id && nat_le s.value address

-- behind .size of a symbol: Range if it does not stand in this section at or before this place
unfoldable pub sized : ℕ → List ℕ → ModSymbol → DraftValue → Result DraftValue AsmFault
sized number name s d =
    if stands_before d.section (here d) s
    then Ok (with_symbol name (of_size (here d - s.value)) d)
    else Err (fault.At number rule.Range)

-- behind the use of a symbol
unfoldable pub used : ℕ → Use → List ℕ → ModSymbol → DraftValue → Result DraftValue AsmFault
used number use_.Globl name s d = Ok (with_symbol name as_global d)
used number use_.Size name s d = sized number name s d
used number (use_.Address width addend) name s d =
    put number s.value (Named (use_.Address width addend) name) d
used number (use_.Branch cond rs1 rs2) name s d =
    put number s.value (Named (use_.Branch cond rs1 rs2) name) d
used number (use_.Jal rd) name s d = put number s.value (Named (use_.Jal rd) name) d
used number use_.Call name s d = put number s.value (Named use_.Call name) d
used number (use_.La rd) name s d = put number s.value (Named (use_.La rd) name) d

-- whether a name is that of a branch or a jump
abbrev pub is_jump : Use → Bool
is_jump use_.Globl = false
is_jump use_.Size = false
is_jump (use_.Address width addend) = false
is_jump (use_.Branch cond rs1 rs2) = true
is_jump (use_.Jal rd) = true
is_jump use_.Call = false
is_jump (use_.La rd) = false

-- Whether a use of a name in a section is done with here, where its label, if there is one, stands
-- in the section of this number: all are in an executable file; in an object those that put
-- nothing, and branches and jumps within their section. The others are left to a linker.
abbrev pub is_settled : Form → SectionId → Use → Option ℕ → Bool
is_settled Exec id what home = true
is_settled Object id what home =
    puts_nothing what || (is_jump what && option_map_or (λ h. h == section_number id) home false)

-- whether an addend has room in a relocation
abbrev pub has_addend : Use → Bool
has_addend use_.Globl = true
has_addend use_.Size = true
has_addend (use_.Address width addend) =
    int_le (pos 0 -ℤ pos (2 ^ 63)) addend && int_le addend (pos (2 ^ 63 - 1))
has_addend (use_.Branch cond rs1 rs2) = true
has_addend (use_.Jal rd) = true
has_addend use_.Call = true
has_addend (use_.La rd) = true

-- what is put for a use that is left to a linker: an address has zeros, and a distance is 0
abbrev pub unlinked : Use → List ℕ → Asked
unlinked use_.Globl name = Named use_.Globl name
unlinked use_.Size name = Named use_.Size name
unlinked (use_.Address width addend) name = Number width (pos 0)
unlinked (use_.Branch cond rs1 rs2) name = Named (use_.Branch cond rs1 rs2) name
unlinked (use_.Jal rd) name = Named (use_.Jal rd) name
unlinked use_.Call name = Named use_.Call name
unlinked (use_.La rd) name = Named (use_.La rd) name

-- behind a use that is left to a linker: Range if its addend has no room in a relocation
unfoldable pub left : ℕ → Use → List ℕ → DraftValue → Result DraftValue AsmFault
left number what name d =
    if has_addend what then put number (here d) (unlinked what name) d
    else Err (fault.At number rule.Range)

-- the number of the section of a symbol among symbols
abbrev pub home_of : List ℕ → List ModSymbol → Option ℕ
home_of name symbols = option_map (λ s. s.section) (symbol_named name symbols)

-- behind a statement: Unknown if no line defines the name in it, unless it is left to a linker
unfoldable pub done : ℕ → Asked → DraftValue → Result DraftValue AsmFault
done number Empty d = Ok d
done number (Section next) d = Ok (record d { section = next })
done number (Align n) d = put number 0 (Align n) d
done number (Zero count) d = put number 0 (Zero count) d
done number (Number width value) d = put number 0 (Number width value) d
done number (Hex digits) d = put number 0 (Hex digits) d
done number (Ascii text) d = put number 0 (Ascii text) d
done number (Li rd value) d = put number 0 (Li rd value) d
done number (Plain inst) d = put number 0 (Plain inst) d
done number (Named what name) d =
    if is_settled d.form d.section what (home_of name d.symbols) then (do
      s ← or_at number rule.Unknown (symbol_named name d.symbols)
      used number what name s d)
    else left number what name d

-- behind a line
unfoldable pub drafted_line : ℕ → List ℕ → DraftValue → Result DraftValue AsmFault
drafted_line number text d = do
  line ← or_at number rule.Syntax (line_of text)
  done number line.asked d

-- behind lines, the first of which has this number
unfoldable pub drafted : ℕ → List (List ℕ) → DraftValue → Result DraftValue AsmFault
drafted number [] d = Ok d
drafted number (text ∷ lines) d = do
  more ← drafted_line number text d
  drafted (suc number) lines more
