-- What runs keep of their patches' jumps.
use Rattle.std.specs.Prelude.{ℕ, List, ◌∷◌, ◌++◌, ◌≡◌, Some, false, slice_get}
use Rattle.wf_outside.specs.declared.refusal.Refusal.TheVariants.{Inside}
use Rattle.wf_outside.specs.Images.{DeltaValue, ImageValue}
use Rattle.wf_outside.specs.Pages.{LimitsValue}
use Rattle.wf_flat.specs.declared.event.Actor.TheVariants.{Hart}
use Rattle.wf_flat.specs.declared.event.Event.TheVariants.{Refused}
use Rattle.wf_flat.specs.declared.event.Entry.{Entry}
use Rattle.wf_flat.specs.Boot.{boot_of}
use Rattle.wf_flat.specs.State.{HartState}
use Rattle.wf_flat.specs.Steps.{OfHart, is_inside}
use Rattle.wf_legal.specs.Legal.{Moment, IsLegal, at_rest, end_of}
use Rattle.wf_sound.specs.Laws.{IsStart}
use Rattle.patch_build.specs.Fits.{FitBehind, area_over}
use Rattle.patch_move_laws.specs.Moves.{HasItsJumps, IsOnText, RequestsOwn}
use Rattle.patch_run_laws.specs.Built.{AreBuiltJumps}

-- a start of a run of an image, with patches that fit one behind the other over it, as those do that
-- were built so, and that have the jumps of built patches
pub record IsBuiltStart (deltas : List DeltaValue) (image : ImageValue) (harts : ℕ)
    (limits : LimitsValue) : Type 0 where
  pub start : IsStart deltas image harts limits
  pub fit : FitBehind (area_over image) deltas
  pub built : AreBuiltJumps deltas

-- At the end of every legal journal of such a run each jump of each generation has its two words in
-- the generation's text.
abbrev pub JumpsKeepTheirWords : Type 0
JumpsKeepTheirWords =
    (deltas : List DeltaValue) (image : ImageValue) (harts : ℕ) (limits : LimitsValue)
    (entries : List Entry) (generation : ℕ) →
    let start : Moment = at_rest deltas (boot_of image harts limits) in
    IsBuiltStart deltas image harts limits → IsLegal start entries
    → HasItsJumps (end_of start entries).flat generation

-- At the end of every legal journal of a run each hart that is not inside the kernel is on the text
-- of its generation.
abbrev pub HartsStayOnText : Type 0
HartsStayOnText =
    (deltas : List DeltaValue) (image : ImageValue) (harts : ℕ) (limits : LimitsValue)
    (entries : List Entry) (h : ℕ) (hart : HartState) →
    let start : Moment = at_rest deltas (boot_of image harts limits) in
    let end : Moment = end_of start entries in
    IsStart deltas image harts limits → IsLegal start entries
    → slice_get end.flat.harts h ≡ Some hart → is_inside end.flat.inside (Hart h) ≡ false
    → IsOnText end.flat hart

-- In every legal journal of a run with built patches no move of a hart to its own generation is
-- refused for being inside a jump.
abbrev pub OwnMovesOfRunsAreNotInside : Type 0
OwnMovesOfRunsAreNotInside =
    (deltas : List DeltaValue) (image : ImageValue) (harts : ℕ) (limits : LimitsValue)
    (front back : List Entry) (h at : ℕ) →
    let start : Moment = at_rest deltas (boot_of image harts limits) in
    let before : Moment = end_of start front in
    IsBuiltStart deltas image harts limits
    → IsLegal start (front ++ record { actor = Hart h; event = Refused (Inside at) } ∷ back)
    → OfHart before.flat h (λ hart. RequestsOwn before.flat hart → ⊥)
