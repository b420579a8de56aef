-- Frames that can be in one more incarnation.
use Rattle.std.specs.Prelude.{ℕ, List, ◌≡◌, ◌<◌}
use Rattle.std.specs.List.{AllByRecursion}
use Rattle.wf_frames.specs.declared.state.FrameState.TheVariants.{Free}
use Rattle.wf_frames.specs.Frames.{FramesValue, new_frames}
use Rattle.wf_frames.specs.Layout.{WordsValue}
use Rattle.wf_views.specs.declared.plan.Change.{Change}
use Rattle.wf_views.specs.declared.plan.Piece.{Piece}
use Rattle.wf_views.specs.declared.records.Records.{Records}
use Rattle.wf_space.specs.Changes.{with_changes}
use Rattle.wf_space.specs.Pieces.{ArePerformed}

-- each free frame can be in one more incarnation
abbrev pub CanBeRaised : FramesValue → Type 0
CanBeRaised frames =
    AllByRecursion (λ f. f.state ≡ Free → f.incarnation < frames.last_birth) frames.frames

-- the frames of a new machine can be in one more incarnation
abbrev pub NewCanBeRaised : Type 0
NewCanBeRaised =
    (count last_birth : ℕ) → 0 < last_birth
    → CanBeRaised (record { frames = new_frames count; last_birth = last_birth })

-- Whatever changes are made, each frame that is free then can be in one more incarnation, if each
-- could before.
abbrev pub ChangedCanBeRaised : Type 0
ChangedCanBeRaised =
    (r : Records) (changes : List Change) → CanBeRaised r.frames
    → CanBeRaised (with_changes r changes).frames

-- Whatever pieces are performed, each frame that is free then can be in one more incarnation, if
-- each could before.
abbrev pub PerformedCanBeRaised : Type 0
PerformedCanBeRaised =
    (old new : WordsValue) (r q : Records) (pieces : List Piece) → CanBeRaised r.frames
    → ArePerformed old r pieces new q → CanBeRaised q.frames
