-- The names, the symbols and the relocations in a file (System V ABI, "String Table", "Symbol
-- Table" and "Relocation").
use Rattle.std.specs.Prelude.{◌≡◌, ◌≢◌, ◌≤◌, ◌<◌, ℕ, ◌+◌, ◌*◌, ◌^◌, ◌==◌, ◌&&◌, List, [], ◌∷◌, ◌++◌, Bool, true, not, All, length, replicate, if◌then◌else◌}
use Rattle.std.specs.Int.{cast_unsigned, w64}
use Rattle.std.specs.List.{flat_map, filter}
use Rattle.elf_write.specs.declared.module.ModRela.{ModRela}
use Rattle.elf_write.specs.declared.module.ModSymbol.{ModSymbol}
use Rattle.elf_write.specs.Places.{halves, words, xwords}

-- the name of a symbol and its zero byte
abbrev pub name_bytes : ModSymbol → List ℕ
name_bytes s = s.name ++ 0 ∷ []

-- .strtab: a zero byte, and the name of each symbol
abbrev pub strings : List ModSymbol → List ℕ
strings symbols = 0 ∷ flat_map name_bytes symbols

-- st_info: a symbol without a type, STT_NOTYPE, which is STB_LOCAL or STB_GLOBAL
abbrev pub info_of : Bool → ℕ
info_of global = if global then 0x10 else 0x00

-- a symbol whose name stands at this place in .strtab
unfoldable pub symbol_bytes : ℕ → ModSymbol → List ℕ
symbol_bytes name s =
    words (name ∷ [])
    ++ (info_of s.global ∷ 0 ∷ [])
    ++ halves (s.section ∷ [])
    ++ xwords (s.value ∷ s.size ∷ [])

-- symbols, the name of the first of which stands at this place in .strtab
abbrev pub symbols_from : ℕ → List ModSymbol → List ℕ
symbols_from name [] = []
symbols_from name (s ∷ ss) = symbol_bytes name s ++ symbols_from (name + length (name_bytes s)) ss

-- .symtab: symbol 0, whose bytes are zero, and the symbols
abbrev pub symbol_table : List ModSymbol → List ℕ
symbol_table symbols = replicate 24 0 ++ symbols_from 1 symbols

-- the local symbols, those that other files see, and those that other files define
abbrev pub locals : List ModSymbol → List ModSymbol
locals symbols = filter (λ s. not s.global) symbols

-- the global symbols that the file defines
abbrev pub globals : List ModSymbol → List ModSymbol
globals symbols = filter (λ s. s.global && not (s.section == 0)) symbols

-- the global symbols that other files define
abbrev pub undefined : List ModSymbol → List ModSymbol
undefined symbols = filter (λ s. s.global && s.section == 0) symbols

-- the local symbols stand first, and those that other files define last
abbrev pub AreInOrder : List ModSymbol → Type 0
AreInOrder symbols = symbols ≡ locals symbols ++ globals symbols ++ undefined symbols

-- a symbol that another file defines is global, and has no value and no size
pub record IsUndefined (s : ModSymbol) : Type 0 where
  pub global : s.global ≡ true
  pub value : s.value ≡ 0
  pub size : s.size ≡ 0

-- the symbol stands in a section that is there or, with section 0, in another file; its name has no
-- zero byte
pub record IsSymbol (s : ModSymbol) : Type 0 where
  pub home : s.section ≤ 4
  pub undefined : s.section ≡ 0 → IsUndefined s
  pub named : All (λ b. b ≢ 0) s.name

-- r_info: the number of the symbol in the table, which has one more in front, and the type
abbrev pub rela_info : ModRela → ℕ
rela_info r = (r.symbol + 1) * 2 ^ 32 + r.kind

-- the bytes of a relocation
unfoldable pub rela_bytes : ModRela → List ℕ
rela_bytes r = xwords (r.offset ∷ rela_info r ∷ cast_unsigned w64 r.addend ∷ [])

-- the relocations of one section
abbrev pub relas_for : ℕ → List ModRela → List ModRela
relas_for section relas = filter (λ r. r.section == section) relas

-- the relocations are of sections 1 to 3, and stand in that order
abbrev pub AreBySection : List ModRela → Type 0
AreBySection relas = relas ≡ relas_for 1 relas ++ relas_for 2 relas ++ relas_for 3 relas

-- the symbol of each relocation is one of so many
abbrev pub AreLinked : ℕ → List ModRela → Type 0
AreLinked symbols relas = All (λ r. r.symbol < symbols) relas
