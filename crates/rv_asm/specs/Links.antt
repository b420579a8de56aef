-- What an object leaves to a linker (RISC-V ELF psABI, "Relocations").
use Rattle.std.specs.Prelude.{ℕ, ℤ, pos, ◌+◌, ◌==◌, ◌&&◌, Bool, true, false, List, [], ◌∷◌, ◌++◌, is_some, map, not, unwrap_or, if◌then◌else◌}
use Rattle.std.specs.List.{enumerate_from, filter, flat_map}
use Rattle.std.specs.Option.{option_map_or}
use Rattle.asm_lines.specs.declared.statement.Use.{Use}
use Rattle.asm_lines.specs.declared.statement.Use.TheVariants as use_
use Rattle.asm_lines.specs.Operands.{immediate}
use Rattle.elf_write.specs.declared.module.Form.TheVariants.{Object}
use Rattle.elf_write.specs.declared.module.ModRela.{ModRela}
use Rattle.elf_write.specs.declared.module.ModSymbol.{ModSymbol}
use Rattle.elf_write.specs.Parts.{relas_for}
use Rattle.rv_asm.specs.declared.constants.TheConstants.{R_RISCV_32, R_RISCV_64, R_RISCV_BRANCH, R_RISCV_JAL, R_RISCV_CALL_PLT, R_RISCV_PCREL_HI20, R_RISCV_PCREL_LO12_I}
use Rattle.rv_asm.specs.declared.links.Link.{Link}
use Rattle.rv_asm.specs.Labels.{LabelValue, place_named, section_named, section_number}
use Rattle.rv_asm.specs.Names.{name_place}
use Rattle.rv_asm.specs.SecondPass.{is_settled}
use Rattle.rv_asm.specs.Uses.{UseValue}

-- a field that a linker fills in: the number of its section and its place there, the type of the
-- relocation, the name of the symbol, and what is added to that symbol's address
pub record LinkValue : Type 0 where
  pub section : ℕ
  pub offset : ℕ
  pub kind : ℕ
  pub name : List ℕ
  pub addend : ℤ

-- such a field, without where the name lies in memory
abbrev pub link_value : Link → LinkValue
link_value l = record {
  section = l.section;
  offset = l.offset;
  kind = l.kind;
  name = l.name.now;
  addend = l.addend;
}

-- so many bytes behind the place of a use, a field of this type
abbrev pub link_at : ℕ → UseValue → ℕ → List ℕ → ℤ → LinkValue
link_at more u kind name addend = record {
  section = section_number u.section;
  offset = u.offset + more;
  kind = kind;
  name = name;
  addend = addend;
}

-- The fields of a use for this: la has one in auipc, for the name, and one in addi, for the local
-- label at auipc.
unfoldable pub fields_by : Use → UseValue → List LinkValue
fields_by use_.Globl u = []
fields_by use_.Size u = []
fields_by (use_.Address width addend) u =
    link_at 0 u (if width == 8 then R_RISCV_64 else R_RISCV_32) u.name (immediate addend) ∷ []
fields_by (use_.Branch cond rs1 rs2) u = link_at 0 u R_RISCV_BRANCH u.name (pos 0) ∷ []
fields_by (use_.Jal rd) u = link_at 0 u R_RISCV_JAL u.name (pos 0) ∷ []
fields_by use_.Call u = link_at 0 u R_RISCV_CALL_PLT u.name (pos 0) ∷ []
fields_by (use_.La rd) u =
    link_at 0 u R_RISCV_PCREL_HI20 u.name (pos 0)
    ∷ link_at 4 u R_RISCV_PCREL_LO12_I u.label (pos 0)
    ∷ []

-- those of a use that is not done with here
abbrev pub links_for : List LabelValue → UseValue → List LinkValue
links_for labels u =
    if is_settled Object u.section u.what (section_named u.name labels)
    then [] else fields_by u.what u

-- the fields that a linker fills in, in the order of lines
abbrev pub links_of : List LabelValue → List UseValue → List LinkValue
links_of labels uses = flat_map (links_for labels) uses

-- the names of fields
abbrev pub link_names : List LinkValue → List (List ℕ)
link_names links = map (λ l. l.name) links

-- whether the name at this place among names is no label's and stands at none before
abbrev pub is_first_outside : List LabelValue → List (List ℕ) → ℕ × List ℕ → Bool
is_first_outside labels names (i, name) =
    not (is_some (place_named name labels))
    && option_map_or (λ place. place == i) (name_place name names) false

-- the names that no line defines, by first use
abbrev pub outside_names : List LabelValue → List (List ℕ) → List (List ℕ)
outside_names labels names =
    map (λ p. p.1) (filter (is_first_outside labels names) (enumerate_from 0 names))

-- the symbol of a name that another file defines
abbrev pub outside_symbol : List ℕ → ModSymbol
outside_symbol name = record { name = name; section = 0; value = 0; size = 0; global = true }

-- the relocation of a field, where the symbols have these names
abbrev pub rela_of : List (List ℕ) → LinkValue → ModRela
rela_of names l = record {
  section = l.section;
  offset = l.offset;
  kind = l.kind;
  symbol = unwrap_or (name_place l.name names) 0;
  addend = l.addend;
}

-- relocations by their sections
abbrev pub by_section : List ModRela → List ModRela
by_section relas = relas_for 1 relas ++ relas_for 2 relas ++ relas_for 3 relas
