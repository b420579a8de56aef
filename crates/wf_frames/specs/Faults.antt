-- Why no frames were taken.
use Rattle.std.specs.Prelude.{◌≡◌, ◌<◌, ◌≤◌, ℕ}
use Rattle.wf_frames.specs.declared.state.TakeFault.{TakeFault}
use Rattle.wf_frames.specs.declared.state.TakeFault.TheVariants.{NoFrames, Memory}

-- so many frames are needed and so many are free: too few, with both numbers; or there are enough,
-- and memory ran out
abbrev pub IsTakeFault : ℕ → ℕ → TakeFault → Type 0
IsTakeFault needed there (NoFrames need free) = (need ≡ needed) × (free ≡ there) × (there < needed)
IsTakeFault needed there Memory = needed ≤ there
