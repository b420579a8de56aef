-- What the code of the second pass keeps.
use Rattle.std.specs.Prelude.{◌≡◌, ◌<◌, ◌^◌, ℕ, List, map}
use Rattle.std.specs.List.{AllByRecursion}
use Rattle.elf_write.specs.declared.module.ModSymbol.{ModSymbol}
use Rattle.rv_asm.specs.declared.named.Symbol.{Symbol}
use Rattle.rv_asm.specs.declared.sizes.SectionSizes.{SectionSizes}
use Rattle.rv_asm.specs.Kept.{AreCounted}
use Rattle.rv_asm.specs.Labels.{LabelValue, section_number}

-- a symbol, without where its name lies in memory
abbrev pub symbol_value : Symbol → ModSymbol
symbol_value s = record {
  name = s.name.now;
  section = section_number s.section;
  value = s.address;
  size = s.size;
  global = s.global;
}

-- symbols of the code, without where they lie in memory
abbrev pub symbol_values : List Symbol → List ModSymbol
symbol_values symbols = map symbol_value symbols

-- the names of labels and of symbols
abbrev pub label_names : List LabelValue → List (List ℕ)
label_names labels = map (λ l. l.name) labels

-- the names of symbols, in their order
abbrev pub symbol_names : List ModSymbol → List (List ℕ)
symbol_names symbols = map (λ s. s.name) symbols

-- no size is greater than one that is counted, and the symbols are those of the labels, in their
-- order
pub record IsDraft (sizes : SectionSizes) (labels : List LabelValue)
    (symbols : List ModSymbol) : Type 0 where
  pub counted : AreCounted sizes
  pub named : symbol_names symbols ≡ label_names labels

-- the address and the size of a symbol fit 64 bits
pub record IsNarrow (s : ModSymbol) : Type 0 where
  pub value : s.value < 2 ^ 64
  pub size : s.size < 2 ^ 64

-- each symbol has numbers that its record has room for
abbrev pub AreNarrow : List ModSymbol → Type 0
AreNarrow symbols = AllByRecursion IsNarrow symbols
