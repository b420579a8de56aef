-- The addresses of symbols (System V ABI, "Symbol Table").
use Rattle.std.specs.Prelude.{ℕ, ◌+◌, ◌/◌, ◌%◌, ◌^◌, ◌==◌, Bool, List, Result, Ok, Err, if◌then◌else◌, slice_get, slice_range}
use Rattle.std.specs.Option.{option_map_or}
use Rattle.elf_read.specs.declared.records.Symbol.{Symbol}
use Rattle.elf_read.specs.declared.constants.TheConstants.{SHN_UNDEF, SHN_ABS}
use Rattle.patch_rules.specs.declared.links.LinkRule.{LinkRule}
use Rattle.patch_rules.specs.declared.links.LinkRule.TheVariants.{NoSymbol, Several}
use Rattle.elf_syms.specs.declared.found.Found.{Found}
use Rattle.elf_syms.specs.declared.found.Found.TheVariants as found
use Rattle.elf_syms.specs.Names.{found_for}
use Rattle.elf_link.specs.declared.symbols.TheConstants.{STB_WEAK}
use Rattle.elf_link.specs.Links.{LinkValue, place_of}

-- the binding of a symbol is weak; it is the upper half of st_info
abbrev pub is_weak : Symbol → Bool
is_weak s = s.st_info / 16 == STB_WEAK

-- the name of a symbol
abbrev pub symbol_name : List ℕ → Symbol → List ℕ
symbol_name file s = slice_range file s.st_name.at (s.st_name.at + s.st_name.len)

-- the address of what is found of a name: 0 for a weak one of which nothing is
abbrev pub found_address : Bool → Found → Result ℕ LinkRule
found_address weak (found.One addr size) = Ok addr
found_address weak found.None = if weak then Ok 0 else Err NoSymbol
found_address weak found.Several = Err Several

-- the address of a symbol that its file does not define: that of its name, if it has one
abbrev pub undefined_address : LinkValue → Symbol → Result ℕ LinkRule
undefined_address link s =
    if s.st_name.len == 0
    then Err NoSymbol
    else found_address (is_weak s) (found_for link.names (symbol_name link.object.bytes s))

-- the address of a symbol: its value where it is absolute, the address of its name where it is
-- undefined, and its value behind its section's address where that section is loaded
abbrev pub address_of : LinkValue → Symbol → Result ℕ LinkRule
address_of link s =
    if s.st_shndx == SHN_ABS then Ok s.st_value
    else if s.st_shndx == SHN_UNDEF then undefined_address link s
    else option_map_or (λ place. Ok ((place + s.st_value) % 2 ^ 64))
    (place_of link.places s.st_shndx) (Err NoSymbol)

-- the address of the symbol with this number: 0 for symbol 0
abbrev pub symbol_address : LinkValue → ℕ → Result ℕ LinkRule
symbol_address link n =
    if n == 0
    then Ok 0
    else option_map_or (address_of link) (slice_get link.object.symbols n) (Err NoSymbol)
