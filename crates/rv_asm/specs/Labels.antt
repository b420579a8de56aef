-- Labels, and the symbols that stand for them.
use Rattle.std.specs.Prelude.{ℕ, true, List, [], ◌∷◌, Option, if◌then◌else◌}
use Rattle.std.specs.List.{find, position}
use Rattle.std.specs.Option.{option_map}
use Rattle.std.specs.Str.{bytes_eq}
use Rattle.asm_lines.specs.declared.statement.SectionId.{SectionId}
use Rattle.asm_lines.specs.declared.statement.SectionId.TheVariants as section
use Rattle.elf_write.specs.declared.module.ModSymbol.{ModSymbol}

-- a label: its name, the section in which it stands, and how many bytes of that section stand
-- before it
pub record LabelValue : Type 0 where
  pub name : List ℕ
  pub section : SectionId
  pub offset : ℕ

-- the place of the label of a name among labels
abbrev pub place_named : List ℕ → List LabelValue → Option ℕ
place_named name labels = position (λ l. bytes_eq l.name name) labels

-- the number of a section in the file
abbrev pub section_number : SectionId → ℕ
section_number section.Text = 1
section_number section.Rodata = 2
section_number section.Data = 3
section_number section.Bss = 4

-- the number of the section of the label of a name among labels
abbrev pub section_named : List ℕ → List LabelValue → Option ℕ
section_named name labels =
    option_map (λ l. section_number l.section) (find (λ l. bytes_eq l.name name) labels)

-- the place of the symbol of a name among symbols
abbrev pub symbol_place : List ℕ → List ModSymbol → Option ℕ
symbol_place name symbols = position (λ s. bytes_eq s.name name) symbols

-- the symbol of a name among symbols
abbrev pub symbol_named : List ℕ → List ModSymbol → Option ModSymbol
symbol_named name symbols = find (λ s. bytes_eq s.name name) symbols

-- symbols, of which that of a name is changed
abbrev pub changed : List ℕ → (ModSymbol → ModSymbol) → List ModSymbol → List ModSymbol
changed name change [] = []
changed name change (s ∷ ss) =
    if bytes_eq s.name name then change s ∷ ss else s ∷ changed name change ss

-- a symbol that other files see
abbrev pub as_global : ModSymbol → ModSymbol
as_global s = record s { global = true }

-- a symbol of so many bytes
abbrev pub of_size : ℕ → ModSymbol → ModSymbol
of_size size s = record s { size = size }
