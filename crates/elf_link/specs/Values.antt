-- The values of entries (RISC-V ELF psABI, "Relocations", "PC-Relative Symbol Addresses").
use Rattle.std.specs.Prelude.{ℕ, ◌+◌, ◌==◌, ◌&&◌, ℤ, Bool, Option, Result, Ok, Err, find, if◌then◌else◌, unsigned_abs}
use Rattle.std.specs.Option.{option_map_or}
use Rattle.elf_read.specs.declared.records.Rela.{Rela}
use Rattle.elf_read.specs.Relas.{symbol_number, relocation_type}
use Rattle.elf_fields.specs.declared.bounds.Bounds.{Bounds}
use Rattle.elf_fields.specs.declared.constants.TheConstants.{R_RISCV_PCREL_HI20}
use Rattle.elf_fields.specs.declared.formula.Formula.{Formula}
use Rattle.elf_fields.specs.declared.formula.Formula.TheVariants.{Relative}
use Rattle.patch_rules.specs.declared.links.LinkRule.{LinkRule}
use Rattle.patch_rules.specs.declared.links.LinkRule.TheVariants.{NoPair}
use Rattle.elf_fields.specs.Bounds.{refusal_of}
use Rattle.elf_fields.specs.Formulas.{value_of}
use Rattle.elf_link.specs.Links.{LinkValue, place_in, relas_in}
use Rattle.elf_link.specs.Results.{and_then}
use Rattle.elf_link.specs.Symbols.{symbol_address}

-- the value of a formula for an entry at an address, with this number in its field
abbrev pub formula_value : LinkValue → Formula → Rela → ℕ → ℕ → Result ℤ LinkRule
formula_value link formula r place old =
    and_then (symbol_address link (symbol_number r)) (λ symbol. Ok (value_of formula (record {
      symbol = symbol;
      addend = r.r_addend;
      place = place;
      old = old;
    })))

-- it is an R_RISCV_PCREL_HI20 whose field, in a section at a place, is at this address
abbrev pub is_high_at : ℕ → ℕ → Rela → Bool
is_high_at place label r =
    relocation_type r == R_RISCV_PCREL_HI20 && place + r.r_offset == label

-- the first R_RISCV_PCREL_HI20 at an address, of those for the section
abbrev pub high_at : LinkValue → ℕ → Option Rela
high_at link label = find (is_high_at (place_in link) label) (relas_in link)

-- the value, where the entry that takes it has no addend of its own
abbrev pub without_addend : Rela → ℤ → Result ℤ LinkRule
without_addend r v = if unsigned_abs r.r_addend == 0 then Ok v else Err NoPair

-- the value for an entry that takes it from the first R_RISCV_PCREL_HI20 at its symbol's address
abbrev pub paired_value : LinkValue → Rela → Result ℤ LinkRule
paired_value link r =
    and_then (symbol_address link (symbol_number r)) (λ label.
    option_map_or (λ high. and_then (formula_value link Relative high label 0) (without_addend r))
    (high_at link label) (Err NoPair))

-- the value, where the bounds have it
abbrev pub within : Bounds → ℤ → Result ℤ LinkRule
within bounds v = option_map_or Err (refusal_of bounds v) (Ok v)
