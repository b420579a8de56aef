-- What the parts of reading say of one another.
use Rattle.std.specs.Prelude.{◌≡◌, ◌<◌, ◌≤◌, ℕ, ◌+◌, ◌*◌, List, Option, Some, None, Result, Ok, Err}
use Rattle.elf_read.specs.declared.fault.ElfFault.{ElfFault}
use Rattle.elf_read.specs.declared.fault.ElfFault.TheVariants.{Rule, Memory}
use Rattle.elf_read.specs.declared.header.Header.{Header}
use Rattle.elf_read.specs.declared.symbols.SymbolTable.{SymbolTable}
use Rattle.elf_read.specs.declared.constants.TheConstants.{EHSIZE, PHENTSIZE, SHENTSIZE, SYMENTSIZE}
use Rattle.wf_outside.specs.Lists.{first_of}

-- a file of so many bytes has room for its header and for the tables of headers
pub record IsLaidOut (size : ℕ) (h : Header) : Type 0 where
  pub header : EHSIZE ≤ size
  pub segments : 0 < h.e_phnum → h.e_phoff + PHENTSIZE * h.e_phnum ≤ size
  pub sections : h.e_shoff + SHENTSIZE * h.e_shnum ≤ size

-- a file of so many bytes has room for the symbols and their names
pub record AreSymbolsIn (size : ℕ) (t : SymbolTable) : Type 0 where
  pub entries : t.at + SYMENTSIZE * t.count ≤ size
  pub names : t.names.at + t.names.len ≤ size

-- where none of the rules is broken, a value of which this holds; else the first that is
abbrev pub Checks : {X : Type 0} → Result X ElfFault → List (Option ElfFault) → (X → Type 0)
    → Type 0
Checks (Ok x) rules P = (first_of rules ≡ None) × P x
Checks (Err fault) rules P = first_of rules ≡ Some fault

-- where none of the rules is broken, a value of which this holds; else the first that is, or want
-- of memory
abbrev pub Answers : {X : Type 0} → Result X ElfFault → List (Option ElfFault) → (X → Type 0)
    → Type 0
Answers (Ok x) rules P = (first_of rules ≡ None) × P x
Answers (Err Memory) rules P = Unit {0}
Answers (Err (Rule rule at)) rules P = first_of rules ≡ Some (Rule rule at)
