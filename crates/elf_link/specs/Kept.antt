-- What is kept while a section is linked: only proofs rest on it.
use Rattle.std.specs.Prelude.{◌≡◌, ◌<◌, ℕ, ◌==◌, ◌&&◌, List, Option, Some, find, length}
use Rattle.std.specs.BTreeMap.{BTreeMap, get}
use Rattle.std.specs.List.{AllByRecursion}
use Rattle.std.specs.Ordering.{nat_cmp}
use Rattle.elf_read.specs.declared.records.Rela.{Rela}
use Rattle.elf_read.specs.Relas.{symbol_number, relocation_type}
use Rattle.elf_fields.specs.declared.constants.TheConstants.{R_RISCV_PCREL_HI20}
use Rattle.elf_link.specs.Links.{LinkValue, place_of, relas_in}

-- the first R_RISCV_PCREL_HI20 whose field is at this place of the section
abbrev pub high_from : List Rela → ℕ → Option Rela
high_from relas offset =
    find (λ r. relocation_type r == R_RISCV_PCREL_HI20 && r.r_offset == offset) relas

-- what is kept while a section is linked: its address, and the first R_RISCV_PCREL_HI20 at each
-- place; its entries name symbols that are there
pub record IsLinking (link : LinkValue) (place : ℕ) (pairs : BTreeMap ℕ Rela) : Type 0 where
  pub placed : place_of link.places link.section ≡ Some place
  pub paired : (offset : ℕ) → get nat_cmp pairs offset ≡ high_from (relas_in link) offset
  pub named : AllByRecursion (λ r. symbol_number r < length link.object.symbols) (relas_in link)
