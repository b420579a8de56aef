-- The frames at the start of a run.
use Rattle.std.specs.Prelude.{ℕ, Some, true, false, ◌≡◌, ◌≤◌, ◌<◌, ◌+◌, length, slice_get}
use Rattle.wf_outside.specs.Pages.{LimitsValue}
use Rattle.wf_frames.specs.Frames.{FramesValue}
use Rattle.wf_space.specs.Changes.{marked}
use Rattle.wf_start.specs.Marking.{fresh_frame}

-- The first frames are taken: so many have text, so many behind them have data and are in their
-- first incarnation, and so many behind those have nodes. All others were never used.
pub record AreLaidOut (frames : FramesValue) (limits : LimitsValue) (text pages nodes : ℕ)
    : Type 0 where
  pub last_birth : frames.last_birth ≡ limits.last_birth
  pub count : length frames.frames ≡ limits.frames
  pub with_text : (j : ℕ) → j < text
      → slice_get frames.frames j ≡ Some (marked limits.last_birth false fresh_frame)
  pub with_data : (j : ℕ) → j < pages
      → slice_get frames.frames (text + j) ≡ Some (marked limits.last_birth true fresh_frame)
  pub with_nodes : (j : ℕ) → j < nodes
      → slice_get frames.frames (text + pages + j)
      ≡ Some (marked limits.last_birth false fresh_frame)
  pub free : (f : ℕ) → text + pages + nodes ≤ f → f < limits.frames
      → slice_get frames.frames f ≡ Some fresh_frame
