-- Frames of a new machine that are taken one behind another.
use Rattle.std.specs.Prelude.{ℕ, Bool, Some, ◌≡◌, ◌≢◌, ◌<◌, ◌+◌, length, slice_get}
use Rattle.wf_frames.specs.declared.state.Frame.{Frame}
use Rattle.wf_frames.specs.declared.state.FrameState.TheVariants.{Free}
use Rattle.wf_frames.specs.Frames.{FramesValue}
use Rattle.wf_space.specs.Changes.{marked}

-- a frame that was never used
abbrev pub fresh_frame : Frame
fresh_frame = record { state = Free; incarnation = 0 }

-- so many frames from one on were never used
abbrev pub AreFresh : FramesValue → ℕ → ℕ → Type 0
AreFresh frames first n =
    (j : ℕ) → j < n → slice_get frames.frames (first + j) ≡ Some fresh_frame

-- so many frames from one on are taken, each in its first incarnation where they are to have data,
-- and all others are as they were
pub record AreUsed (old new : FramesValue) (first n : ℕ) (is_data : Bool) : Type 0 where
  pub last_birth : new.last_birth ≡ old.last_birth
  pub count : length new.frames ≡ length old.frames
  pub used : (j : ℕ) → j < n
      → slice_get new.frames (first + j) ≡ Some (marked old.last_birth is_data fresh_frame)
  pub others : (f : ℕ) → ((j : ℕ) → j < n → f ≢ first + j)
      → slice_get new.frames f ≡ slice_get old.frames f
