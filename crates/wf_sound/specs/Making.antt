-- What a change asks for, so that it can be made.
use Rattle.std.specs.Prelude.{ℕ, List, Option, Some, false, ◌≡◌, ◌≢◌, ◌<◌, ◌≤◌, ◌+◌, ◌^◌, IfSome, length}
use Rattle.std.specs.List.{AllByRecursion, range_with_len}
use Rattle.wf_outside.specs.declared.sizes.TheConstants.{ADDRESS_PAGES, MOST_FRAMES}
use Rattle.wf_outside.specs.Images.{DeltaValue, data_numbers}
use Rattle.wf_outside.specs.Lists.{IsRising}
use Rattle.rv_inst.specs.declared.want.Want.TheVariants as want
use Rattle.wf_flat.specs.declared.event.Actor.{Actor}
use Rattle.wf_flat.specs.declared.event.Actor.TheVariants.{Hart, Kernel}
use Rattle.wf_flat.specs.declared.event.Event.{Event}
use Rattle.wf_flat.specs.declared.event.Event.TheVariants.{Fetch, Look, Take, Put, Swap, Miss, End, Again, Wait, Enter, Sync, Trap, Exit, Out, Idle, Map, Going, Ending, Gone, Born, Move, Dead, Refused}
use Rattle.wf_flat.specs.State.{FlatState, HartState}
use Rattle.wf_flat.specs.Accesses.{generation_text}
use Rattle.wf_flat.specs.Memory.{has_met}
use Rattle.wf_flat.specs.Ordered.{IsOrdered}
use Rattle.wf_flat.specs.Serving.{IsPlace}
use Rattle.wf_flat.specs.Steps.{OfHart, want_in}
use Rattle.wf_effects.specs.Effects.{delta_of}
use Rattle.wf_effects.specs.Ranges.{is_data}
use Rattle.wf_effects.specs.Texts.{IsSpliceable}

-- an actor is the kernel's own, or a hart that is there
abbrev pub IsThere : FlatState → Actor → Type 0
IsThere s (Hart h) = h < length s.harts
IsThere s Kernel = Unit {0}

-- the hart's instruction, if it is in a try of one, wants no trap
abbrev pub WantsNoTrap : HartState → Type 0
WantsNoTrap hart = (cause value : ℕ) → want_in hart ≢ Some (want.Trap cause value)

-- an actor's instruction or call can end
abbrev pub CanEnd : FlatState → Actor → Type 0
CanEnd s (Hart h) = OfHart s h WantsNoTrap
CanEnd s Kernel = Unit {0}

-- so many pages can be mapped from one on: addresses have them, none is there, and there are
-- births for them; and a patch has its shared pages by rising number
pub record CanBeMapped (deltas : List DeltaValue) (s : FlatState) (page n : ℕ) (patch : Option ℕ)
    : Type 0 where
  pub low : page + n ≤ ADDRESS_PAGES
  pub few : s.births + n < 2 ^ 64
  pub free : AllByRecursion (λ page. is_data s page ≡ false) (range_with_len page n)
  pub rising : IfSome (delta_of deltas patch) (λ delta. IsRising (data_numbers delta.shared))

-- a generation can be born: its parent is there, it has a number and a count of patches, and its
-- patch fits the parent's text
pub record CanBeBorn (deltas : List DeltaValue) (s : FlatState) (parent : ℕ) (patch : Option ℕ)
    : Type 0 where
  pub there : parent < length s.gens
  pub few : length s.gens < 2 ^ 32
  pub few_patches : IfSome patch (λ k. k + 1 < 2 ^ 32)
  pub fits : IfSome (delta_of deltas patch) (IsSpliceable (generation_text s parent))

-- the event of an actor fits the state
abbrev pub Suits : List DeltaValue → FlatState → Actor → Event → Type 0
Suits deltas s actor (Fetch pc word) = Unit {0}
Suits deltas s actor (Look va width value) = Unit {0}
Suits deltas s actor (Take page) = Unit {0}
Suits deltas s actor (Put va width value) = IsPlace va width
Suits deltas s actor (Swap va width old new) = IsPlace va width
Suits deltas s actor (Miss va) = Unit {0}
Suits deltas s actor (End pc) = CanEnd s actor
Suits deltas s actor (Again page) = Unit {0}
Suits deltas s actor (Wait on) = Unit {0}
Suits deltas s actor Enter = Unit {0}
Suits deltas s actor (Sync generation page) = has_met s.met generation page ≡ false
Suits deltas s actor (Trap cause value) = Unit {0}
Suits deltas s actor (Exit code) = Unit {0}
Suits deltas s actor (Out byte) = Unit {0}
Suits deltas s actor Idle = Unit {0}
Suits deltas s actor (Map page n write patch) = CanBeMapped deltas s page n patch
Suits deltas s actor (Going page n) = page + n ≤ ADDRESS_PAGES
Suits deltas s actor (Ending page) = Unit {0}
Suits deltas s actor (Gone page worn) = s.worn < MOST_FRAMES
Suits deltas s actor (Born generation parent patch) = CanBeBorn deltas s parent patch
Suits deltas s actor (Move generation) = Unit {0}
Suits deltas s actor (Dead generation) = Unit {0}
Suits deltas s actor (Refused reason) = Unit {0}

-- an event of an actor can be made
pub record CanBeMade (deltas : List DeltaValue) (s : FlatState) (actor : Actor) (event : Event)
    : Type 0 where
  pub ordered : IsOrdered s
  pub there : IsThere s actor
  pub suits : Suits deltas s actor event
