-- What holds of patches that fit one behind the other.
use Rattle.std.specs.Prelude.{List}
use Rattle.std.specs.List.{AllByRecursion}
use Rattle.wf_outside.specs.Images.{DeltaValue}
use Rattle.patch_build.specs.Areas.{AreaValue}
use Rattle.patch_build.specs.Fits.{FitBehind}
use Rattle.wf_sound.specs.Sound.{IsDelta}

-- patches that fit one behind the other are patches of a run
abbrev pub FittingPatchesAreSound : Type 0
FittingPatchesAreSound =
    (area : AreaValue) (deltas : List DeltaValue) → FitBehind area deltas
    → AllByRecursion IsDelta deltas
