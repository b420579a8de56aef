-- What building does not look at.
use Rattle.std.specs.Prelude.{◌≡◌}
use Rattle.elf_read.specs.Elf.{ElfValue}
use Rattle.elf_syms.specs.Names.{FindsAs, NamesValue, found_for}
use Rattle.patch_file.specs.Patches.{PatchValue}
use Rattle.patch_build.specs.Areas.{AreaValue}
use Rattle.patch_build.specs.Builds.{built_of}
use Rattle.patch_build.specs.Fits.{IsSameArea}

-- the same is built where the same is found of each name, and in the area
abbrev pub BuildsAreSame : Type 0
BuildsAreSame =
    (patch : PatchValue) (object : ElfValue) (one other : NamesValue) (area over : AreaValue)
    → FindsAs one (found_for other) → IsSameArea area over
    → built_of patch object one area ≡ built_of patch object other over
