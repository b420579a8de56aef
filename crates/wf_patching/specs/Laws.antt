-- What patches are refused for by the records, and by the table of calls.
use Rattle.std.specs.Prelude.{ℕ, List, Some, ◌≡◌}
use Rattle.std.specs.Option.{option_or}
use Rattle.wf_outside.specs.Images.{DeltaValue}
use Rattle.wf_frames.specs.Layout.{WordsValue}
use Rattle.wf_views.specs.declared.records.Records.{Records}
use Rattle.wf_views.specs.Views.{newest_of}
use Rattle.wf_flat.specs.State.{FlatState}
use Rattle.wf_homes.specs.Homes.{Homes}
use Rattle.wf_verdict.specs.declared.requests.Request.TheVariants.{Patches}
use Rattle.wf_verdict.specs.Verdict.{delta_at, no_frames, patched, refusal_of}
use Rattle.wf_creating.specs.Laws.{StandsInOrder}
use Rattle.wf_patching.specs.Refusals.{unfit_patch}

-- A patch of the newest generation is refused by the records for what the table of calls refuses it
-- for in the state that words and records stand for; but for want of frames, which is that of the
-- state to come.
abbrev pub UnfitPatchesAgree : Type 0
UnfitPatchesAgree =
    (words : WordsValue) (r : Records) (homes : Homes) (s : FlatState) (parent patch : ℕ)
    (deltas : List DeltaValue) (next : ℕ)
    → StandsInOrder words r homes s → newest_of r.views ≡ Some parent
    → option_or (unfit_patch r parent (delta_at deltas patch) patch)
    (no_frames s (patched deltas s patch))
    ≡ refusal_of deltas s next (Patches patch)
