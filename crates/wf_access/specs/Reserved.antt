-- Reservations as harts keep them: what a load-reserved leaves, and whether one stands.
use Rattle.std.specs.Prelude.{ℕ, Bool, false, Option, Some, None, ◌==◌, ◌&&◌, if◌then◌else◌, nat_lt}
use Rattle.wf_frames.specs.declared.fields.FrameWord.{FrameWord}
use Rattle.wf_homes.specs.declared.reservation.CoreReservation.{CoreReservation}

-- what a load-reserved leaves of so many bytes at an address whose page lies in a frame, with these
-- fields: their incarnation and count of writes, below the last count, and else nothing
abbrev pub core_reservation_of : FrameWord → ℕ → ℕ → ℕ → ℕ → Option CoreReservation
core_reservation_of fields frame va width last =
    if nat_lt fields.writes last
    then Some
    (record {
      va = va;
      width = width;
      frame = frame;
      inc = fields.inc;
      writes = fields.writes;
    })
    else None

-- a reservation that a hart keeps has this address and width
abbrev pub has_core_reserved : Option CoreReservation → ℕ → ℕ → Bool
has_core_reserved None va width = false
has_core_reserved (Some kept) va width = (kept.va == va) && (kept.width == width)

-- a reservation that a hart keeps stands for so many bytes at an address whose page lies in a
-- frame: it has their address and width, and that frame, with the incarnation and the count of
-- writes of these fields
abbrev pub core_stands : FrameWord → Option CoreReservation → ℕ → ℕ → ℕ → Bool
core_stands fields None frame va width = false
core_stands fields (Some kept) frame va width =
    has_core_reserved (Some kept) va width && (kept.frame == frame) && (kept.inc == fields.inc)
    && (kept.writes == fields.writes)
