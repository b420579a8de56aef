-- What a machine keeps goes on with what it makes.
use Rattle.std.proofs.Common.{◌≡◌, ◌<◌, ◌+◌, ◌^◌, ℕ, List, Option, length, sym, subst, ap, ◌∙◌, arith}
use Rattle.std.specs.Prelude.{Err, Ok, OnErr, OnOk, Result}
use Rattle.wf_outside.specs.declared.sizes.TheConstants.{MOST_FRAMES}
use Rattle.wf_outside.specs.Images.{DeltaValue}
use Rattle.wf_flat.specs.declared.event.Entry.{Entry}
use Rattle.wf_flat.specs.State.{FlatState}
use Rattle.wf_legal.specs.Legal.{IsLegal, Moment, at_rest, end_of}
use Rattle.wf_legal.proofs.JournalLemmas.{legal-append, end_of-append}
use Rattle.wf_sound.specs.Laws.{BirthsAreFew, JournalsKeepSound}
use Rattle.wf_sound.specs.Sound.{IsSound}
use Rattle.wf_service.specs.Adding.{Adds}
use Rattle.wf_service.specs.Resting.{IsResting}
use Rattle.wf_homes.specs.Homes.{Homes}
use Rattle.wf_driver.specs.Keeping.{IsKept, IsReady}
use Rattle.home_laws.specs.Laws.{HomesSettle, HomesStay}
use Rattle.wf_driver.proofs.HousingLemmas.{IsAccounted, more_of, still_of}

-- it is sound, and births are few
pub ready_sound : JournalsKeepSound → (deltas : List DeltaValue) (flat : FlatState) (entries : List Entry) → IsReady deltas flat entries → IsSound (at_rest deltas flat)
ready_sound law deltas flat entries ready = subst IsSound (sym ready.reached) (law (at_rest deltas ready.start) entries ready.sound ready.legal)

pub ready_births : BirthsAreFew → (deltas : List DeltaValue) (flat : FlatState) (entries : List Entry) → IsReady deltas flat entries → length entries < 2 ^ 62 → flat.births < 2 ^ 63
ready_births law deltas flat entries ready few =
    let more = law (at_rest deltas ready.start) entries ready.sound ready.legal in
    let is : flat.births ≡ (end_of (at_rest deltas ready.start) entries).flat.births = ap (λ (m : Moment). m.flat.births) ready.reached in
    let start = ready.births in
    omega arith

-- so births are left for all frames
pub births_left : BirthsAreFew → (deltas : List DeltaValue) (flat : FlatState) (entries : List Entry) → IsReady deltas flat entries → length entries < 2 ^ 62 → flat.births + MOST_FRAMES < 2 ^ 64
births_left law deltas flat entries ready few = let births = ready_births law deltas flat entries ready few in omega arith

-- more entries that are legal and lead to rest
pub ready_on : (deltas : List DeltaValue) (flat next : FlatState) (entries later : List Entry) (P : List Entry → Type 0) → IsReady deltas flat entries → Adds (at_rest deltas flat) entries (at_rest deltas next) later P
    → IsResting next → length next.harts ≡ length flat.harts → IsReady deltas next later
ready_on deltas flat next entries later P ready adds rests harts = record {
  rests = rests;
  some = rw harts ready.some;
  few = rw harts ready.few;
  start = ready.start;
  sound = ready.sound;
  births = ready.births;
  legal = subst (IsLegal (at_rest deltas ready.start)) (sym adds.appended) (legal-append (at_rest deltas ready.start) entries adds.made ready.legal (subst (λ (m : Moment). IsLegal m adds.made) ready.reached adds.legal));
  reached = adds.reached ∙ ap (λ (m : Moment). end_of m adds.made) ready.reached ∙ sym (end_of-append (at_rest deltas ready.start) entries adds.made) ∙ ap (end_of (at_rest deltas ready.start)) (sym adds.appended);
}

-- so the machine keeps what it keeps, where its homes accounted for all entries before
pub kept_on : HomesSettle → HomesStay → (deltas : List DeltaValue) (flat next : FlatState) (entries later : List Entry) (P : List Entry → Type 0) (old : Option Homes) (before : ℕ) (homes : Option Homes) (accounted : ℕ) → IsAccounted flat entries old before homes accounted
    → IsReady deltas flat entries → Adds (at_rest deltas flat) entries (at_rest deltas next) later P → IsResting next → length next.harts ≡ length flat.harts → IsKept deltas next later homes accounted
kept_on settle stay deltas flat next entries later P old before homes accounted is ready adds rests harts = record {
  ready = ready_on deltas flat next entries later P ready adds rests harts;
  housed = more_of settle stay deltas flat next entries later P old before homes accounted is adds;
}

pub kept_still : HomesSettle → (deltas : List DeltaValue) (flat next : FlatState) (entries later : List Entry) (old : Option Homes) (before : ℕ) (homes : Option Homes) (accounted : ℕ) → IsAccounted flat entries old before homes accounted
    → IsReady deltas flat entries → next ≡ flat → later ≡ entries → IsKept deltas next later homes accounted
kept_still settle deltas flat next entries later old before homes accounted is ready f e =
    let kept : IsKept deltas flat entries homes accounted = record { ready = ready; housed = still_of settle flat entries old before homes accounted is } in
    rw (f, e) kept

-- by whether it went well
pub kept_after : HomesSettle → HomesStay → {T E : Type 0} (r : Result T E) (deltas : List DeltaValue) (flat next : FlatState) (entries later : List Entry) (P : List Entry → Type 0) (old : Option Homes) (before : ℕ) (homes : Option Homes) (accounted : ℕ)
    → IsAccounted flat entries old before homes accounted → IsReady deltas flat entries → OnOk r (Adds (at_rest deltas flat) entries (at_rest deltas next) later P) → OnErr r ((next ≡ flat) × (later ≡ entries)) → IsResting next
    → length next.harts ≡ length flat.harts → IsKept deltas next later homes accounted
kept_after settle stay (Ok x) deltas flat next entries later P old before homes accounted is ready adds same rests harts = kept_on settle stay deltas flat next entries later P old before homes accounted is ready adds rests harts
kept_after settle stay (Err e) deltas flat next entries later P old before homes accounted is ready adds same rests harts = kept_still settle deltas flat next entries later old before homes accounted is ready same.0 same.1
