-- The bytes of a section with its entries applied (System V ABI, "Relocation").
use Rattle.std.specs.Prelude.{◌≡◌, ℕ, ◌+◌, ◌==◌, ℤ, List, [], ◌∷◌, ◌++◌, Option, Some, None, Result, Ok, Err, length, take, drop, nat_le, if◌then◌else◌}
use Rattle.byteorder.specs.Endian.{little_number, little_bytes}
use Rattle.elf_read.specs.declared.records.Rela.{Rela}
use Rattle.elf_read.specs.Relas.{RelaGroupValue, relocation_type}
use Rattle.elf_fields.specs.declared.bounds.Bounds.TheVariants.{Pair}
use Rattle.elf_fields.specs.declared.field.Field.{Field}
use Rattle.elf_fields.specs.declared.relocation.Relocation.{Relocation}
use Rattle.elf_fields.specs.declared.relocation.Relocation.TheVariants.{Nothing, Put, Paired}
use Rattle.patch_rules.specs.declared.links.LinkRule.{LinkRule}
use Rattle.patch_rules.specs.declared.links.LinkRule.TheVariants.{Reloc, Offset}
use Rattle.elf_fields.specs.Fields.{width_of, put_in}
use Rattle.elf_fields.specs.Relocations.{relocation_of}
use Rattle.elf_link.specs.declared.fault.LinkFault.{LinkFault}
use Rattle.elf_link.specs.declared.fault.LinkFault.TheVariants.{Rule, Memory}
use Rattle.elf_link.specs.Links.{LinkValue, place_in, contents_of}
use Rattle.elf_link.specs.Results.{and_then, or_told}
use Rattle.elf_link.specs.Values.{formula_value, paired_value, within}

-- the number in the field at a place
abbrev pub number_in_field : Field → List ℕ → ℕ → ℕ
number_in_field field bytes at = little_number (width_of field) (drop at bytes)

-- the bytes with a value put into the field at a place
abbrev pub with_value : Field → List ℕ → ℕ → ℤ → List ℕ
with_value field bytes at v =
    take at bytes
    ++ little_bytes (width_of field) (put_in field v (number_in_field field bytes at))
    ++ drop (at + width_of field) bytes

-- the bytes with the value put into the field at a place, where the field is inside them, and there
-- is a value
abbrev pub put_at : Field → List ℕ → ℕ → (ℕ → Result ℤ LinkRule) → Result (List ℕ) LinkRule
put_at field bytes at value =
    if nat_le (at + width_of field) (length bytes)
    then and_then (value (number_in_field field bytes at)) (λ v. Ok (with_value field bytes at v))
    else Err Offset

-- the bytes after what an entry's type does, if its number is one of the table
abbrev pub applied_as : LinkValue → List ℕ → Rela → Option Relocation → Result (List ℕ) LinkRule
applied_as link bytes r None = Err (Reloc (relocation_type r))
applied_as link bytes r (Some Nothing) = Ok bytes
applied_as link bytes r (Some (Put formula field bounds)) =
    put_at field bytes r.r_offset
    (λ old. and_then
    (formula_value link formula r (place_in link + r.r_offset) old) (within bounds))
applied_as link bytes r (Some (Paired field)) =
    put_at field bytes r.r_offset (λ old. and_then (paired_value link r) (within Pair))

-- the bytes after one entry, or why it can't be applied
unfoldable pub applied : LinkValue → List ℕ → Rela → Result (List ℕ) LinkRule
applied link bytes r = applied_as link bytes r (relocation_of (relocation_type r))

-- why an entry can't be applied, with its place in its relocation section
abbrev pub entry_applied : LinkValue → ℕ → ℕ → List ℕ → Rela → Result (List ℕ) LinkFault
entry_applied link group index bytes r = or_told (Rule group index) (applied link bytes r)

-- the bytes after the entries of a group in their order, from the one with this index on, or the
-- first that can't be applied
abbrev pub group_applied : LinkValue → ℕ → ℕ → List ℕ → List Rela → Result (List ℕ) LinkFault
group_applied link group index bytes [] = Ok bytes
group_applied link group index bytes (r ∷ rs) =
    and_then (entry_applied link group index bytes r)
    (λ next. group_applied link group (index + 1) next rs)

-- the bytes after the groups of the section, in the order of their numbers
abbrev pub all_applied : LinkValue → List ℕ → List RelaGroupValue → Result (List ℕ) LinkFault
all_applied link bytes [] = Ok bytes
all_applied link bytes (g ∷ gs) =
    and_then
    (if g.target == link.section then group_applied link g.section 0 bytes g.relas else Ok bytes)
    (λ next. all_applied link next gs)

-- the bytes of the section in its place, or the first of its entries that can't be applied
abbrev pub relocated : LinkValue → Result (List ℕ) LinkFault
relocated link =
    all_applied link (contents_of link.object link.section) link.object.relas

-- the fault is the first entry that can't be applied, or want of memory
abbrev pub IsFaultOf : LinkValue → LinkFault → Type 0
IsFaultOf link (Rule group index rule) = relocated link ≡ Err (Rule group index rule)
IsFaultOf link Memory = Unit {0}
