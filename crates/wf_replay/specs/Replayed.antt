-- Where a journal stops to be legal.
use Rattle.std.specs.Prelude.{ℕ, List, Some, ◌≡◌, take, slice_get}
use Rattle.std.specs.Option.{option_map}
use Rattle.wf_outside.specs.Images.{DeltaValue}
use Rattle.wf_flat.specs.declared.event.Event.{Event}
use Rattle.wf_flat.specs.declared.event.Entry.{Entry}
use Rattle.wf_legal.specs.Legal.{Allows, IsLegal, Moment, end_of}
use Rattle.wf_goes.specs.InHand.{moment_of, said}
use Rattle.wf_replay.specs.declared.stepping.Replayed.{Replayed}

-- The entry at a place of a journal, counted from 0, is the first that is not allowed, and this is
-- its event: all before it are legal.
pub record IsFirstIllegal (m : Moment) (journal : List Entry) (index : ℕ) (rule : Event)
    : Type 0 where
  pub entry : Entry
  pub there : slice_get journal index ≡ Some entry
  pub event : entry.event ≡ rule
  pub front : IsLegal m (take index journal)
  pub refused : Allows (end_of m (take index journal)) entry.actor entry.event → ⊥

-- the machine that was reached, with the patches of the run
abbrev pub moment_at : List DeltaValue → Replayed → Moment
moment_at deltas replayed = moment_of deltas replayed.flat (option_map said replayed.call)
