-- Names of an image and of the lists that were added behind it: the first list that has a name
-- decides, of the added ones from the newest, then the image's globals, then its locals.
use Rattle.std.specs.Prelude.{◌≡◌, ℕ, List, not, unwrap_or}
use Rattle.std.specs.List.{filter}
use Rattle.std.specs.Map.{lookup}
use Rattle.std.specs.Str.{bytes_eq}
use Rattle.wf_outside.specs.declared.image.Name.{Name}
use Rattle.elf_syms.specs.declared.found.Found.{Found}
use Rattle.elf_syms.specs.declared.found.Found.TheVariants as found
use Rattle.elf_syms.specs.Telling.{told_of, or_else}

-- names, as clauses see them: what is found of each name that is there
abbrev pub NamesValue : Type 0
NamesValue = List (List ℕ × Found)

-- what is found of a name
abbrev pub found_for : NamesValue → List ℕ → Found
found_for names name = unwrap_or (lookup (bytes_eq name) names) found.None

-- of each name this is found
abbrev pub FindsAs : NamesValue → (List ℕ → Found) → Type 0
FindsAs names finds = (name : List ℕ) → found_for names name ≡ finds name

-- what is found where no list is
abbrev pub no_names : List ℕ → Found
no_names name = found.None

-- what is found with one more list before the others
abbrev pub with_list : List Name → (List ℕ → Found) → List ℕ → Found
with_list list names name = or_else (told_of list name) (names name)

-- what is found in an image with these names: the globals decide before the locals
abbrev pub image_names : List Name → List ℕ → Found
image_names names =
    with_list (filter (λ entry. entry.global) names)
    (with_list (filter (λ entry. not entry.global) names) no_names)
