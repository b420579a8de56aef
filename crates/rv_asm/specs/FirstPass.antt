-- The first pass over a source: which labels there are, where each stands in its section, and how
-- long the sections become. No name is looked up yet.
use Rattle.std.specs.Prelude.{ℕ, suc, ◌+◌, ◌^◌, List, [], ◌∷◌, ◌++◌, is_some, min, unwrap_or, Option, Some, None, Result, Ok, Err, if◌then◌else◌}
use Rattle.asm_bytes.specs.Sizes.{size_of}
use Rattle.asm_lines.specs.declared.statement.SectionId.{SectionId}
use Rattle.asm_lines.specs.declared.statement.SectionId.TheVariants as section
use Rattle.asm_lines.specs.Lines.{line_of}
use Rattle.asm_lines.specs.Statements.{Asked, Empty, Section, Align, Zero, Number, Hex, Ascii, Li, Plain, Named}
use Rattle.elf_write.specs.declared.module.Form.{Form}
use Rattle.rv_asm.specs.declared.fault.AsmFault.{AsmFault}
use Rattle.rv_asm.specs.declared.fault.AsmFault.TheVariants as fault
use Rattle.rv_asm.specs.declared.fault.AsmRule.TheVariants as rule
use Rattle.rv_asm.specs.declared.sizes.SectionSizes.{SectionSizes}
use Rattle.rv_asm.specs.declared.first_pass.Survey.{Survey}
use Rattle.rv_asm.specs.Answers.{◌>>=◌, or_at}
use Rattle.rv_asm.specs.Labels.{LabelValue, place_named}
use Rattle.rv_asm.specs.Names.{own_label}
use Rattle.rv_asm.specs.Uses.{kept, use_in}

-- the size of a section
abbrev pub size_in : SectionSizes → SectionId → ℕ
size_in sizes section.Text = sizes.text
size_in sizes section.Rodata = sizes.rodata
size_in sizes section.Data = sizes.rwdata
size_in sizes section.Bss = sizes.bss

-- A size as it is counted: one above 2 ^ 100 counts as 2 ^ 100, which only a source of 2 ^ 34 lines
-- or more reaches, since no statement takes more than 2 ^ 66 bytes.
abbrev pub counted : ℕ → ℕ
counted size = min size (2 ^ 100)

-- sizes, where a section is longer by so many bytes
abbrev pub grown : SectionId → ℕ → SectionSizes → SectionSizes
grown section.Text more sizes = record sizes { text = counted (sizes.text + more) }
grown section.Rodata more sizes = record sizes { rodata = counted (sizes.rodata + more) }
grown section.Data more sizes = record sizes { rwdata = counted (sizes.rwdata + more) }
grown section.Bss more sizes = record sizes { bss = counted (sizes.bss + more) }

-- the section of the next statement
abbrev pub section_after : SectionId → Asked → SectionId
section_after id Empty = id
section_after id (Section next) = next
section_after id (Align n) = id
section_after id (Zero count) = id
section_after id (Number width value) = id
section_after id (Hex digits) = id
section_after id (Ascii text) = id
section_after id (Li rd value) = id
section_after id (Plain inst) = id
section_after id (Named what name) = id

-- where a source begins
abbrev pub start : Survey
start = record {
  section = section.Text;
  sizes = record { text = 0; rodata = 0; rwdata = 0; bss = 0 };
  labels = [];
  taken = 0;
  uses = [];
}

-- a label of the next statement's place
abbrev pub label_here : List ℕ → Survey → LabelValue
label_here name s =
    record { name = name; section = s.section; offset = size_in s.sizes s.section }

-- the labels with that of a line: Twice if an earlier line defines it
unfoldable pub labels_with : ℕ → Option (List ℕ) → Survey → Result (List LabelValue) AsmFault
labels_with number None s = Ok s.labels
labels_with number (Some name) s =
    if is_some (place_named name s.labels) then Err (fault.At number rule.Twice)
    else Ok (s.labels ++ label_here name s ∷ [])

-- with the use of a name that a statement makes and, of la, with the next of these names as a local
-- label there; each line has its own, so it is never Twice
unfoldable pub used : Form → List (List ℕ) → ℕ → Asked → Survey → Result Survey AsmFault
used form names number asked s =
    let own = own_label names s.taken asked in (do
      labels ← labels_with number own s
      Ok (record s {
        labels = labels;
        taken = if is_some own then suc s.taken else s.taken;
        uses = s.uses
            ++ kept form
            (use_in s.section (size_in s.sizes s.section) asked (unwrap_or own []));
      }))

-- behind a line: Syntax if it is none of the language, or its statement may not stand in this
-- section
unfoldable pub surveyed_line : Form → List (List ℕ) → ℕ → List ℕ → Survey → Result Survey AsmFault
surveyed_line form names number text s = do
  line ← or_at number rule.Syntax (line_of text)
  size ← or_at number rule.Syntax (size_of s.section (size_in s.sizes s.section) line.asked)
  labels ← labels_with number line.label s
  more ← used form names number line.asked (record s { labels = labels })
  Ok (record more {
    section = section_after s.section line.asked;
    sizes = grown s.section size s.sizes;
  })

-- behind lines, the first of which has this number, with these names for local labels
unfoldable pub surveyed : Form → List (List ℕ) → ℕ → List (List ℕ) → Survey
    → Result Survey AsmFault
surveyed form names number [] s = Ok s
surveyed form names number (text ∷ lines) s = do
  more ← surveyed_line form names number text s
  surveyed form names (suc number) lines more
