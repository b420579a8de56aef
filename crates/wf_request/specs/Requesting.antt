-- Whole calls of the kernel's own actor, and how they are taken back.
use Rattle.std.specs.Prelude.{◌≡◌, ◌<◌, ◌≤◌, ℕ, List, [], ◌∷◌, Some, None, false, length, map, nat_lt}
use Rattle.std.specs.List.{AllByRecursion, filter}
use Rattle.wf_outside.specs.Images.{DeltaValue}
use Rattle.wf_flat.specs.declared.event.Actor.TheVariants.{Kernel}
use Rattle.wf_flat.specs.declared.event.Entry.{Entry}
use Rattle.wf_flat.specs.declared.event.Event.{Event}
use Rattle.wf_flat.specs.declared.event.Event.TheVariants.{Enter, Gone, Map}
use Rattle.wf_flat.specs.Changes.{entered}
use Rattle.wf_flat.specs.State.{FlatState, GenState}
use Rattle.wf_verdict.specs.declared.requests.Request.{Request}
use Rattle.wf_verdict.specs.declared.work.Todo.{Todo}
use Rattle.wf_verdict.specs.declared.work.Todo.TheVariants.{Exactly, Leaves}
use Rattle.wf_verdict.specs.Work.{done_about}
use Rattle.wf_legal.specs.Events.{flat_after}
use Rattle.wf_sound.specs.Making.{CanBeMade}

-- the event of a thing to do, where nobody holds the page that leaves
abbrev pub event_of : Todo → Event
event_of (Exactly event) = event
event_of (Leaves page) = Gone page false

-- what things to do of the kernel's own actor change, one after another
abbrev pub all_done : List DeltaValue → FlatState → List Todo → FlatState
all_done deltas s [] = s
all_done deltas s (next ∷ todo) =
    all_done deltas (flat_after deltas s Kernel (event_of next)) todo

-- the kernel's own actor can do them, one after another
abbrev pub CanAllBeDone : List DeltaValue → FlatState → List Todo → Type 0
CanAllBeDone deltas s [] = Unit {0}
CanAllBeDone deltas s (next ∷ todo) =
    CanBeMade deltas s Kernel (event_of next)
    × CanAllBeDone deltas (flat_after deltas s Kernel (event_of next)) todo

-- generations that reach these places and no others, one by one
abbrev pub reaching_only : List (List ℕ) → List GenState → List GenState
reaching_only [] gens = gens
reaching_only (reach ∷ reaches) [] = []
reaching_only (reach ∷ reaches) (gen ∷ gens) =
    record gen { reach = reach } ∷ reaching_only reaches gens

-- A state without the pages that were mapped since there were so many births: it has so many, and
-- its generations reach these places and no others.
abbrev pub unmapped_since : FlatState → ℕ → List (List ℕ) → FlatState
unmapped_since s births reaches =
    record s {
      pages = filter (λ page. nat_lt page.birth births) s.pages;
      gens = reaching_only reaches s.gens;
      births = births;
    }

-- pages alone were mapped since a state: without them the new state is the old one
pub record HasMapped (old new : FlatState) : Type 0 where
  pub more_births : old.births ≤ new.births
  pub same_gens : length new.gens ≡ length old.gens
  pub undone : unmapped_since new old.births (map (λ gen. gen.reach) old.gens) ≡ old

-- pages of a patch are to be mapped
abbrev pub IsMapping : Todo → Type 0
IsMapping (Exactly (Map page n write (Some patch))) = Unit {0}
IsMapping next = ⊥

-- all of these things to do but the last map pages of a patch
abbrev pub AreMappingButLast : List Todo → Type 0
AreMappingButLast [] = Unit {0}
AreMappingButLast (last ∷ []) = Unit {0}
AreMappingButLast (next ∷ other ∷ todo) = IsMapping next × AreMappingButLast (other ∷ todo)

-- Things to do of the kernel's own actor can be taken back where the last is still to do: all
-- before it map pages, which have births of their own.
pub record CanBeUndone (deltas : List DeltaValue) (s : FlatState) (todo : List Todo) : Type 0 where
  pub no_try : AllByRecursion (λ hart. hart.fetched ≡ None) s.harts
  pub births : AllByRecursion (λ page. page.birth < s.births) s.pages
  pub can : CanAllBeDone deltas s todo
  pub maps : AreMappingButLast todo

-- an entry of the kernel's own actor
abbrev pub by_kernel : Event → Entry
by_kernel event = record { actor = Kernel; event = event }

-- the entries of its whole call: its Enter, and these things to do, event by event
abbrev pub entries_of : List Todo → List Entry
entries_of todo = by_kernel Enter ∷ map (λ next. by_kernel (event_of next)) todo

-- A whole call of the kernel's own actor with a request, where nobody is inside: its Enter, and
-- what is done about the request, event by event.
pub record IsServed (request : Request) (deltas : List DeltaValue) (s : FlatState)
    (entries : List Entry) : Type 0 where
  pub events : List Event
  pub done : done_about deltas (entered s Kernel) 0 request ≡ map Exactly events
  pub is : entries ≡ map by_kernel (Enter ∷ events)
