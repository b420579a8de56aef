-- What lists of names tell of a name.
use Rattle.std.specs.Prelude.{ℕ, ◌==◌, List, [], ◌∷◌, Bool, if◌then◌else◌}
use Rattle.std.specs.List.{filter, list_all}
use Rattle.std.specs.Str.{bytes_eq}
use Rattle.wf_outside.specs.declared.image.Name.{Name}
use Rattle.elf_syms.specs.declared.found.Found.{Found}
use Rattle.elf_syms.specs.declared.found.Found.TheVariants as found

-- the entry has this name
abbrev pub has_name : List ℕ → Name → Bool
has_name name entry = bytes_eq name entry.name

-- what entries of one name tell: nothing where there is none, the first one's address and size
-- where all have its address, and else that there are several
abbrev pub told_by : List Name → Found
told_by [] = found.None
told_by (first ∷ rest) =
    if list_all (λ other. other.addr == first.addr) rest
    then found.One first.addr first.size
    else found.Several

-- what a list tells of a name
abbrev pub told_of : List Name → List ℕ → Found
told_of list name = told_by (filter (has_name name) list)

-- what is found, or else what another list tells
abbrev pub or_else : Found → Found → Found
or_else found.None other = other
or_else (found.One addr size) other = found.One addr size
or_else found.Several other = found.Several

-- what is told behind one more entry of the name
abbrev pub joined : Found → Name → Found
joined found.None entry = found.One entry.addr entry.size
joined (found.One addr size) entry =
    if entry.addr == addr then found.One addr size else found.Several
joined found.Several entry = found.Several
