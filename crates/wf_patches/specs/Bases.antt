-- What patches are built over: the names that may be replaced, and the area.
use Rattle.std.specs.Prelude.{ℕ, List, ◌++◌, map}
use Rattle.wf_outside.specs.declared.image.Name.{Name}
use Rattle.wf_outside.specs.Images.{ImageValue}
use Rattle.elf_syms.specs.declared.found.Found.{Found}
use Rattle.elf_syms.specs.Names.{FindsAs, NamesValue, found_for, image_names, with_list}
use Rattle.patch_build.specs.Areas.{AreaValue, BuiltValue}
use Rattle.patch_build.specs.Fits.{IsSameArea, area_over, area_with}

-- what a patch is built over, as clauses see it
pub record BaseValue : Type 0 where
  pub names : NamesValue
  pub area : AreaValue

-- what is found of each name of a list
abbrev pub finds_of : (List ℕ → Found) → List Name → NamesValue
finds_of finds list = map (λ entry. (entry.name, finds entry.name)) list

-- an image without a patch
abbrev pub base_over : ImageValue → BaseValue
base_over image = record {
  names = finds_of (image_names image.names) image.names;
  area = area_over image;
}

-- behind a patch that was built over this
abbrev pub base_with : BaseValue → BuiltValue → BaseValue
base_with base built = record {
  names = finds_of (with_list built.names (found_for base.names)) built.names ++ base.names;
  area = area_with base.area built.delta;
}

-- the same is found of each name, and in the area
pub record IsSameBase (one other : BaseValue) : Type 0 where
  pub names : FindsAs one.names (found_for other.names)
  pub area : IsSameArea one.area other.area
