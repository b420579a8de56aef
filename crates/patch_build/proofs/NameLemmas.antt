-- What is found of names.
use Rattle.std.proofs.Common.{◌≡◌, List, refl, ap, ◌∙◌}
use Rattle.elf_syms.specs.declared.found.Found.{Found}
use Rattle.elf_syms.specs.declared.found.Found.TheVariants as found
use Rattle.elf_syms.specs.Names.{FindsAs, NamesValue, found_for, no_names, with_list}
use Rattle.elf_syms.specs.Telling.{or_else, told_of}
use Rattle.wf_outside.specs.declared.image.Name.{Name}

or_none : (f : Found) → or_else f found.None ≡ f
or_none found.None = refl
or_none (found.One addr size) = refl
or_none found.Several = refl

-- one list alone tells what is found
pub one_list : (old new : NamesValue) (list : List Name) → FindsAs old no_names → FindsAs new (with_list list (found_for old)) → FindsAs new (told_of list)
one_list old new list none added = λ name. added name ∙ ap (or_else (told_of list name)) (none name) ∙ or_none (told_of list name)
