-- Relocations without where they lie in memory (System V ABI, "Relocation").
use Rattle.std.specs.Prelude.{◌<◌, ◌/◌, ◌%◌, ◌^◌, ℕ, List, All}
use Rattle.elf_read.specs.declared.records.Rela.{Rela}

-- the entries of one relocation section, as clauses see it
pub record RelaGroupValue : Type 0 where
  pub section : ℕ
  pub target : ℕ
  pub relas : List Rela

-- the number of the symbol that an entry names
abbrev pub symbol_number : Rela → ℕ
symbol_number r = r.r_info / 2 ^ 32

-- the number of an entry's type
abbrev pub relocation_type : Rela → ℕ
relocation_type r = r.r_info % 2 ^ 32

-- the sections of a group are two of so many, and each entry names one of so many symbols
pub record IsRooted (sections symbols : ℕ) (g : RelaGroupValue) : Type 0 where
  pub section : g.section < sections
  pub target : g.target < sections
  pub named : All (λ r. symbol_number r < symbols) g.relas
