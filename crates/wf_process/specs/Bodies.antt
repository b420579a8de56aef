-- What a process consists of, and the flat state that it stands for.
use Rattle.std.specs.Prelude.{ℕ, List, Option, Some, ◌≡◌, length, slice_get}
use Rattle.wf_frames.specs.Layout.{WordsValue}
use Rattle.wf_views.specs.declared.records.Records.{Records}
use Rattle.wf_views.specs.Views.{with_view, without_resident}
use Rattle.wf_flat.specs.declared.event.Actor.{Actor}
use Rattle.wf_flat.specs.declared.event.Actor.TheVariants.{Hart}
use Rattle.wf_flat.specs.declared.state.Life.{Life}
use Rattle.wf_flat.specs.Changes.{without}
use Rattle.wf_flat.specs.Lists.{changed_at}
use Rattle.wf_flat.specs.State.{FlatState, HartState}
use Rattle.wf_homes.specs.Homes.{Homes}
use Rattle.wf_homes.specs.Kept.{KeepsReservation}
use Rattle.wf_homes.specs.Stands.{StandsFor}
use Rattle.wf_process.specs.declared.hart.KeptHart.{KeptHart}
use Rattle.wf_process.specs.Harts.{kept_stopped}

-- the memory of a process, as words and records; its harts; and who is inside the kernel
pub record BodyValue : Type 0 where
  pub words : WordsValue
  pub records : Records
  pub harts : List KeptHart
  pub inside : Option Actor

-- one hart of a body changes
abbrev pub with_kept : BodyValue → ℕ → (KeptHart → KeptHart) → BodyValue
with_kept body h change = record body { harts = changed_at body.harts h change }

-- a hart enters the kernel
abbrev pub with_entered : BodyValue → ℕ → BodyValue
with_entered body h = record body { inside = Some (Hart h) }

-- an actor leaves the kernel, if it is inside
abbrev pub with_left : BodyValue → Actor → BodyValue
with_left body actor = record body { inside = without body.inside actor }

-- one hart leaves the kernel, if it is inside, and changes
abbrev pub with_left_kept : BodyValue → ℕ → (KeptHart → KeptHart) → BodyValue
with_left_kept body h change = with_kept (with_left body (Hart h)) h change

-- a hart of a generation stops, and leaves its view, and the kernel, if it is inside
abbrev pub with_stopped : BodyValue → ℕ → ℕ → Life → BodyValue
with_stopped body h generation life =
    record (with_left_kept body h (kept_stopped life)) {
      records = record body.records {
        views = with_view body.records.views generation (without_resident h);
      };
    }

-- this is kept of a hart, beside its reservation
pub record IsTold (kept : KeptHart) (hart : HartState) : Type 0 where
  pub generation : kept.generation ≡ hart.generation
  pub arch : kept.arch ≡ hart.arch
  pub fetched : kept.fetched ≡ hart.fetched
  pub looked : kept.looked ≡ hart.looked
  pub put : kept.put ≡ hart.put
  pub life : kept.life ≡ hart.life

-- A hart is kept, with its reservation. Nothing is kept of the pages that moved since its fetch.
pub record IsKeptHart (words : WordsValue) (homes : Homes) (s : FlatState) (hart : HartState)
    (kept : KeptHart) : Type 0 where
  pub told : IsTold kept hart
  pub reservation : KeepsReservation words homes s hart.reservation kept.reservation

-- each hart of a state is kept, at the place of its number, and no other
pub record AreKeptHarts (words : WordsValue) (homes : Homes) (s : FlatState)
    (harts : List KeptHart) : Type 0 where
  pub count : length harts ≡ length s.harts
  pub each : (h : ℕ) (hart : HartState) (kept : KeptHart)
      → slice_get s.harts h ≡ Some hart → slice_get harts h ≡ Some kept
      → IsKeptHart words homes s hart kept

-- a body stands for a state: its words and records do with some homes, its harts are kept, and the
-- same actor is inside the kernel
pub record IsBodyOf (s : FlatState) (body : BodyValue) : Type 0 where
  pub homes : Homes
  pub stands : StandsFor body.words body.records homes s
  pub harts : AreKeptHarts body.words homes s body.harts
  pub inside : body.inside ≡ s.inside
