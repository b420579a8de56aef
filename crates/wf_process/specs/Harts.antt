-- What entries make of a hart as a process keeps it.
use Rattle.std.specs.Prelude.{ℕ, zero, suc, List, [], ◌∷◌, ◌++◌, Bool, Option, Some, None, true, false, if◌then◌else◌}
use Rattle.rv_inst.specs.Arch.{ArchState}
use Rattle.wf_flat.specs.Boot.{boot_arch}
use Rattle.wf_flat.specs.declared.state.Life.{Life}
use Rattle.wf_flat.specs.declared.state.Life.TheVariants.{Running}
use Rattle.wf_homes.specs.declared.reservation.CoreReservation.{CoreReservation}
use Rattle.wf_process.specs.declared.hart.KeptHart.{KeptHart}

-- a hart at the start of a run: in generation 0, with these registers, in no try, with no
-- reservation
abbrev pub kept_first : ArchState → KeptHart
kept_first arch =
    record {
      generation = 0;
      arch = arch;
      fetched = None;
      looked = None;
      put = false;
      reservation = None;
      life = Running;
    }

-- the first harts at the start of a run, whose first instruction is at this address
unfoldable pub kept_firsts : ℕ → ℕ → List KeptHart
kept_firsts entry zero = []
kept_firsts entry (suc n) = kept_firsts entry n ++ kept_first (boot_arch entry n) ∷ []

-- a try begins
abbrev pub kept_fetched : ℕ → KeptHart → KeptHart
kept_fetched word kept = record kept { fetched = Some word; looked = None; put = false }

-- a try ends, with these registers
abbrev pub kept_ended : ArchState → KeptHart → KeptHart
kept_ended next kept = record kept { arch = next; fetched = None }

-- a try ends, and nothing came of it
abbrev pub kept_tried : KeptHart → KeptHart
kept_tried kept = record kept { fetched = None }

-- a try ends, and the hart has come to this
abbrev pub kept_stopped : Life → KeptHart → KeptHart
kept_stopped life kept = record kept { fetched = None; life = life }

-- a call or an access has its answer
abbrev pub kept_answered : ℕ → KeptHart → KeptHart
kept_answered answer kept = record kept { looked = Some answer }

-- a store-conditional misses: its answer is 1, and no reservation is left
abbrev pub kept_missed : KeptHart → KeptHart
kept_missed kept = record kept { looked = Some 1; reservation = None }

-- a write is made, with this answer, and its try ends, with these registers; a store-conditional
-- leaves no reservation
abbrev pub kept_written : ℕ → Bool → ArchState → KeptHart → KeptHart
kept_written answer conditional next kept =
    record kept {
      arch = next;
      fetched = None;
      looked = Some answer;
      put = true;
      reservation = if conditional then None else kept.reservation;
    }

-- a load-reserved has its answer, and leaves this reservation
abbrev pub kept_reserved : ℕ → Option CoreReservation → KeptHart → KeptHart
kept_reserved answer reservation kept =
    record kept { looked = Some answer; reservation = reservation }
