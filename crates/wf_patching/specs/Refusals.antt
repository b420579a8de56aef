-- What a patch is refused for, over records.
use Rattle.std.specs.Prelude.{ℕ, [], ◌∷◌, Option, Some, None, if◌then◌else◌, length, nat_lt}
use Rattle.std.specs.Option.{option_or}
use Rattle.wf_outside.specs.declared.refusal.Refusal.{Refusal}
use Rattle.wf_outside.specs.declared.refusal.Refusal.TheVariants.{Lacks}
use Rattle.wf_outside.specs.Images.{DeltaValue}
use Rattle.wf_outside.specs.Lists.{first_of}
use Rattle.wf_views.specs.declared.records.Records.{Records}
use Rattle.wf_effects.specs.Texts.{pages_of}
use Rattle.wf_space.specs.Jobs.{leaving_in}
use Rattle.wf_verdict.specs.Verdict.{more_than_free}
use Rattle.wf_mapping.specs.Layout.{free_in}
use Rattle.wf_mapping.specs.Refusals.{overlap_in}
use Rattle.wf_creating.specs.Parents.{parent_patches}
use Rattle.wf_creating.specs.Refusals.{no_view_in, views_in}
use Rattle.wf_patching.specs.Layout.{need_with_patch}

-- Lacks: the parent has the first patches of the script alone, so many, and this one's number is
-- greater than that
abbrev pub lacks_in : Records → ℕ → ℕ → Option Refusal
lacks_in r parent patch =
    if nat_lt (parent_patches r parent) patch then Some (Lacks (parent_patches r parent)) else None

-- what a patch is refused for but for want of frames, in the order of the table of calls: the first
-- that applies, if one does
abbrev pub unfit_patch : Records → ℕ → DeltaValue → ℕ → Option Refusal
unfit_patch r parent delta patch =
    first_of
    (no_view_in r parent ∷ lacks_in r parent patch ∷ views_in r ∷ overlap_in r (pages_of delta)
    ∷ leaving_in r (pages_of delta) ∷ [])

-- NoFrames: the patch needs more frames than are free
abbrev pub no_frames_with_patch : Records → ℕ → DeltaValue → Option Refusal
no_frames_with_patch r parent delta =
    more_than_free (need_with_patch r parent delta) (length (free_in r))

-- what a patch is refused for: the first that applies, if one does
abbrev pub patch_refusal : Records → ℕ → DeltaValue → ℕ → Option Refusal
patch_refusal r parent delta patch =
    option_or (unfit_patch r parent delta patch) (no_frames_with_patch r parent delta)
