-- Which frames are free, and what becomes of a frame.
use Rattle.std.specs.Prelude.{◌≡◌, ℕ, zero, suc, List, [], ◌∷◌, Bool, true, false, Option, Some, None, if◌then◌else◌, map, take, replicate, nat_le, nat_lt, slice_get, IsSomeAnd}
use Rattle.wf_frames.specs.declared.state.Frame.{Frame}
use Rattle.wf_frames.specs.declared.state.FrameState.{FrameState}
use Rattle.wf_frames.specs.declared.state.FrameState.TheVariants.{Free, InUse, Worn}

-- the frames of a machine as clauses see them: each with its state and incarnation, by number, and
-- the incarnation at which a frame that is given back is worn
pub record FramesValue : Type 0 where
  pub frames : List Frame
  pub last_birth : ℕ

-- the frames of a new machine: all are free, before their first use as data
unfoldable pub new_frames : ℕ → List Frame
new_frames count = replicate count (record { state = Free; incarnation = 0 })

-- whether a frame is free
abbrev pub is_free : FrameState → Bool
is_free Free = true
is_free InUse = false
is_free Worn = false

-- for each frame, whether it is free
abbrev pub free_ones : List Frame → List Bool
free_ones frames = map (λ f. is_free f.state) frames

-- the places of what is true, where places are counted from n on
abbrev pub places_from : ℕ → List Bool → List ℕ
places_from n [] = []
places_from n (true ∷ bs) = n ∷ places_from (suc n) bs
places_from n (false ∷ bs) = places_from (suc n) bs

-- the numbers of the free frames, rising
abbrev pub free_numbers : List Frame → List ℕ
free_numbers frames = places_from 0 (free_ones frames)

-- the first of these numbers that is at or above one
abbrev pub first_from : ℕ → List ℕ → Option ℕ
first_from low [] = None
first_from low (n ∷ ns) = if nat_le low n then Some n else first_from low ns

-- the frame of a number has this state
abbrev pub HasState : List Frame → ℕ → FrameState → Type 0
HasState frames n state = IsSomeAnd (slice_get frames n) (λ f. f.state ≡ state)

-- the frame of a number changes, and no other
abbrev pub changed_at : List Frame → ℕ → (Frame → Frame) → List Frame
changed_at [] n change = []
changed_at (f ∷ fs) zero change = change f ∷ fs
changed_at (f ∷ fs) (suc n) change = f ∷ changed_at fs n change

-- a frame that is taken is in use
abbrev pub taken : Frame → Frame
taken f = record f { state = InUse }

-- one frame of a machine changes
abbrev pub with_frame : FramesValue → ℕ → (Frame → Frame) → FramesValue
with_frame v n change = record v { frames = changed_at v.frames n change }

-- the frames of these numbers are taken
abbrev pub all_taken : List ℕ → List Frame → List Frame
all_taken [] frames = frames
all_taken (n ∷ ns) frames = all_taken ns (changed_at frames n taken)

-- the lowest free frames of a machine, so many, are taken
abbrev pub with_lowest_taken : FramesValue → ℕ → FramesValue
with_lowest_taken v n = record v { frames = all_taken (take n (free_numbers v.frames)) v.frames }

-- a frame that is given back is free again, or worn where its incarnation is the last
abbrev pub given : ℕ → Frame → Frame
given last_birth f = record f { state = if nat_lt f.incarnation last_birth then Free else Worn }

-- the next incarnation of a frame; the last one stays
abbrev pub raised : ℕ → Frame → Frame
raised last_birth f =
    record f {
      incarnation = if nat_lt f.incarnation last_birth then suc f.incarnation else f.incarnation;
    }
