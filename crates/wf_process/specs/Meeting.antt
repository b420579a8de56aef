-- A generation that meets a page, as a body shows it.
use Rattle.std.specs.Prelude.{ℕ, List, [], ◌∷◌, ◌≡◌, ◌<◌}
use Rattle.wf_flat.specs.declared.event.Actor.TheVariants.{Hart}
use Rattle.wf_flat.specs.declared.event.Entry.{Entry}
use Rattle.wf_flat.specs.declared.event.Event.TheVariants.{Enter, Fetch, Sync}
use Rattle.wf_flat.specs.Changes.{page_met, without}
use Rattle.wf_flat.specs.State.{FlatState}
use Rattle.wf_homes.specs.Homes.{Homes}
use Rattle.wf_homes.specs.Kept.{fields_at}
use Rattle.wf_homes.specs.Stands.{StandsFor}
use Rattle.wf_space.specs.Carried.{MaySync}
use Rattle.wf_process.specs.Bodies.{BodyValue}

-- a generation may meet a page in a state that the words and records of a body stand for
pub record CanMeetPage (body : BodyValue) (generation page : ℕ) : Type 0 where
  pub homes : Homes
  pub state : FlatState
  pub stands : StandsFor body.words body.records homes state
  pub may : MaySync state generation page

-- A generation has met a page by a hart's call: words and records stand for the state in which it
-- has, with all homes; no frame's word has changed, and no hart; and the hart has left the kernel.
pub record HasMetPage (old new : BodyValue) (hart generation page : ℕ) : Type 0 where
  pub stands : (homes : Homes) (s : FlatState) → StandsFor old.words old.records homes s
      → MaySync s generation page
      → StandsFor new.words new.records homes (page_met s hart generation page)
  pub fields : (frame : ℕ) → frame < old.words.frames
      → fields_at new.words frame ≡ fields_at old.words frame
  pub harts : new.harts ≡ old.harts
  pub inside : new.inside ≡ without old.inside (Hart hart)

-- A hart fetches a word, and enters the kernel, by which a generation meets a page.
abbrev pub meeting_entries : ℕ → ℕ → ℕ → ℕ → ℕ → List Entry
meeting_entries h pc word generation page =
    record { actor = Hart h; event = Fetch pc word } ∷ record { actor = Hart h; event = Enter }
    ∷ record { actor = Hart h; event = Sync generation page } ∷ []
