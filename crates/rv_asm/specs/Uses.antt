-- Where names are used.
use Rattle.std.specs.Prelude.{◌≢◌, ◌≤◌, ◌^◌, ℕ, List, [], ◌∷◌, map, Option, Some, None, if◌then◌else◌}
use Rattle.std.specs.List.{AllByRecursion}
use Rattle.asm_bytes.specs.Sizes.{puts_nothing}
use Rattle.asm_lines.specs.declared.statement.SectionId.{SectionId}
use Rattle.asm_lines.specs.declared.statement.Use.{Use}
use Rattle.asm_lines.specs.Statements.{Asked, Empty, Section, Align, Zero, Number, Hex, Ascii, Li, Plain, Named}
use Rattle.elf_write.specs.declared.module.Form.{Form}
use Rattle.elf_write.specs.declared.module.Form.TheVariants.{Exec, Object}
use Rattle.rv_asm.specs.declared.named.PlacedUse.{PlacedUse}

-- a use of a name: the section and the place in it at which it puts bytes, what it is for, the
-- name, and the name of the local label there, which la alone has
pub record UseValue : Type 0 where
  pub section : SectionId
  pub offset : ℕ
  pub what : Use
  pub name : List ℕ
  pub label : List ℕ

-- a use, without where its names lie in memory
abbrev pub use_value : PlacedUse → UseValue
use_value u = record {
  section = u.section;
  offset = u.offset;
  what = u.what;
  name = u.name.now;
  label = u.label.now;
}

-- uses of names of the code, without where they lie in memory
abbrev pub use_values : List PlacedUse → List UseValue
use_values uses = map use_value uses

-- the use of a name that a statement makes at a place, with the name of the local label there
abbrev pub use_in : SectionId → ℕ → Asked → List ℕ → Option UseValue
use_in id offset Empty label = None
use_in id offset (Section _) label = None
use_in id offset (Align n) label = None
use_in id offset (Zero count) label = None
use_in id offset (Number width value) label = None
use_in id offset (Hex digits) label = None
use_in id offset (Ascii text) label = None
use_in id offset (Li rd value) label = None
use_in id offset (Plain inst) label = None
use_in id offset (Named what name) label =
    if puts_nothing what then None
    else Some (record { section = id; offset = offset; what = what; name = name; label = label })

-- a use that is kept, if there is one: none of an executable file
abbrev pub kept : Form → Option UseValue → List UseValue
kept Exec u = []
kept Object None = []
kept Object (Some u) = u ∷ []

-- a name has no zero byte
abbrev pub IsPlainName : List ℕ → Type 0
IsPlainName name = AllByRecursion (λ b. b ≢ 0) name

-- a use stands within 2 ^ 32 bytes of its section's start, under names without zero bytes
pub record IsCloseUse (u : UseValue) : Type 0 where
  pub offset : u.offset ≤ 2 ^ 32
  pub name : IsPlainName u.name
  pub label : IsPlainName u.label

-- each use stands at a place whose number is small
abbrev pub AreCloseUses : List UseValue → Type 0
AreCloseUses uses = AllByRecursion IsCloseUse uses
