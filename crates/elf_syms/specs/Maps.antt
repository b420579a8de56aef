-- The map in which names are kept: only proofs rest on it.
use Rattle.std.specs.Prelude.{ℕ, List, Option, IsSome, unwrap_or, map}
use Rattle.std.specs.BTreeMap.{BTreeMap, get_by}
use Rattle.std.specs.Cmp.Lexicographic.{slice_cmp}
use Rattle.std.specs.List.{AllByRecursion}
use Rattle.std.specs.Ordering.{nat_cmp}
use Rattle.std.specs.declared.vec.Vec.{Vec}
use Rattle.wf_outside.specs.declared.image.Name.{Name}
use Rattle.elf_syms.specs.declared.found.Found.{Found}
use Rattle.elf_syms.specs.declared.found.Found.TheVariants as found
use Rattle.elf_syms.specs.Names.{NamesValue}

-- what stands in a map at a name
abbrev pub entry_at : {Z : Type 0} → BTreeMap (Vec ℕ Z) Found → List ℕ → Option Found
entry_at entries name = get_by (λ key. slice_cmp nat_cmp name key.items) entries

-- what a map tells of a name: nothing where it is no key
abbrev pub found_at : {Z : Type 0} → BTreeMap (Vec ℕ Z) Found → List ℕ → Found
found_at entries name = unwrap_or (entry_at entries name) found.None

-- each of these names is a key
abbrev pub AreThere : {Z : Type 0} → BTreeMap (Vec ℕ Z) Found → List Name → Type 0
AreThere entries names = AllByRecursion (λ entry. IsSome (entry_at entries entry.name)) names

-- the names in a map, as clauses see them
abbrev pub names_in : {Z : Type 0} → BTreeMap (Vec ℕ Z) Found → NamesValue
names_in entries = map (λ entry. (entry.0.items, entry.1)) entries.entries
