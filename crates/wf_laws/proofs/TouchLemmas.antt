-- Who touches a page from a Take, a Gone and an Ending of it on.
use Rattle.std.proofs.Common.{◌≡◌, ◌≢◌, ℕ, List, ◌∷◌, ◌++◌, Option, None, Bool, true, false, ◌&&◌, ◌+◌, ◌==◌, refl, ap, ◌∙◌, arith}
use Rattle.std.specs.Prelude.{nat_le, nat_lt, if◌then◌else◌}
use Rattle.std.proofs.lemmas.Bool.Decides.{nat_tests}
use Rattle.wf_outside.specs.Images.{DeltaValue}
use Rattle.wf_flat.specs.declared.event.Actor.{Actor}
use Rattle.wf_flat.specs.declared.event.Actor.TheVariants.{Hart, Kernel}
use Rattle.wf_flat.specs.declared.event.Event.{Event}
use Rattle.wf_flat.specs.declared.event.Event.TheVariants.{Take, End, Map, Gone}
use Rattle.wf_flat.specs.declared.event.Entry.{Entry}
use Rattle.wf_flat.specs.State.{FlatState, PageState}
use Rattle.wf_flat.specs.Memory.{data_in}
use Rattle.wf_effects.specs.Effects.{delta_of}
use Rattle.wf_legal.specs.Events.{flat_after}
use Rattle.wf_legal.specs.Legal.{IsLegal, Moment, after, at_rest, end_of}
use Rattle.wf_laws.specs.Holders.{GoneIsUntouched, HasNoEnd, HoldersAreAlone, maps}
use Rattle.wf_laws.proofs.CallLemmas.{IsLateCall, acts_outside, call_kept}
use Rattle.wf_laws.proofs.CarryLemmas.{KeepsIf, at, at_two, behind, carried_if, late_end}
use Rattle.wf_laws.proofs.PageLemmas.{data_after, mapped_at, page_after}
use Rattle.wf_laws.proofs.HolderLemmas.{IsHeld, entry_of, held_after, held_taken, touch_held, touched}

-- a page that a hart holds
abbrev pub Holds : ℕ → ℕ → Moment → Type 0
Holds h page m = IsLateCall m.call × IsHeld m.flat h page

holds_on : (h page : ℕ) → KeepsIf (Holds h page) (λ entry. (pc : ℕ) → entry ≢ entry_of (Hart h) (End pc))
holds_on h page m entry p unended a = (call_kept m entry.actor entry.event p.0, held_after m h page entry.actor entry.event p.0 a unended p.1)

-- where it took it, and has ended no try since
pub still_held : (deltas : List DeltaValue) (s : FlatState) (front middle : List Entry) (h page : ℕ) →
    let takes : Entry = record { actor = Hart h; event = Take page } in
    IsLegal (at_rest deltas s) (front ++ takes ∷ middle) → HasNoEnd h middle → Holds h page (end_of (at_rest deltas s) (front ++ takes ∷ middle))
still_held deltas s front middle h page l unended =
    let start : Moment = at_rest deltas s in
    let takes : Entry = record { actor = Hart h; event = Take page } in
    let w = at start front takes middle l in
    let late = late_end start front tt w.legal in
    let taken : Holds h page (after (end_of start front) (Hart h) (Take page)) =
    (call_kept (end_of start front) (Hart h) (Take page) late, held_taken (end_of start front) h page (acts_outside (end_of start front) h (Take page) refl late w.allowed)) in
    behind (Holds h page) start front takes middle (carried_if (Holds h page) _ (holds_on h page) (after (end_of start front) (Hart h) (Take page)) middle unended taken w.rest)

pub alone : HoldersAreAlone
alone deltas s front middle back h other page event l unended touch =
    let start : Moment = at_rest deltas s in
    let takes : Entry = record { actor = Hart h; event = Take page } in
    let w = at start (front ++ takes ∷ middle) (record { actor = Hart other; event = event }) back l in
    let held = still_held deltas s front middle h page w.legal unended in
    touch_held (end_of start (front ++ takes ∷ middle)) h other page event held.0 w.allowed touch held.1

-- a page that is not there
abbrev IsAway : ℕ → Moment → Type 0
IsAway page m = IsLateCall m.call × (data_in m.flat.pages page ≡ None)

away_gone : (b : Bool) (o : Option PageState) → o ≡ None → (if b then None else o) ≡ None
away_gone true o e = refl
away_gone false o e = e

pub away_mapped : (deltas : List DeltaValue) (s : FlatState) (first n : ℕ) (write : Bool) (patch : Option ℕ) (k : ℕ) → (nat_le first k && nat_lt k (first + n)) ≡ false → mapped_at (delta_of deltas patch) write first s.births n k ≡ None
away_mapped deltas s first n write patch k e = rw e refl

away_after : (deltas : List DeltaValue) (s : FlatState) (actor : Actor) (e : Event) (k : ℕ) → maps k e ≡ false → page_after deltas s actor e k None ≡ None
away_after deltas s (Hart h) (Map first n write patch) k unmapped = away_mapped deltas s first n write patch k unmapped
away_after deltas s (Hart h) (Gone page worn) k unmapped = away_gone (k == page) None refl
away_after deltas s (Hart h) e k unmapped = refl
away_after deltas s Kernel (Map first n write patch) k unmapped = away_mapped deltas s first n write patch k unmapped
away_after deltas s Kernel (Gone page worn) k unmapped = away_gone (k == page) None refl
away_after deltas s Kernel e k unmapped = refl

away_on : (page : ℕ) → KeepsIf (IsAway page) (λ entry. maps page entry.event ≡ false)
away_on page m entry p unmapped a = (
  call_kept m entry.actor entry.event p.0,
  data_after m.deltas m.flat entry.actor entry.event page ∙ ap (page_after m.deltas m.flat entry.actor entry.event page) p.1 ∙ away_after m.deltas m.flat entry.actor entry.event page unmapped,
)

gone_away : (deltas : List DeltaValue) (s : FlatState) (actor : Actor) (page : ℕ) (worn : Bool) → data_in (flat_after deltas s actor (Gone page worn)).pages page ≡ None
gone_away deltas s actor page worn =
    let same : (page == page) ≡ true = grind (arith, nat_tests) in
    data_after deltas s actor (Gone page worn) page ∙ ap (λ (b : Bool). if b then None else data_in s.pages page) same

pub untouched : GoneIsUntouched
untouched deltas s front middle back actor other page worn event l unmapped touch =
    let start : Moment = at_rest deltas s in
    let leaves : Entry = record { actor = actor; event = Gone page worn } in
    let w = at_two start front leaves middle (record { actor = Hart other; event = event }) back l in
    let late = late_end start front tt w.first.legal in
    let gone : IsAway page (after (end_of start front) actor (Gone page worn)) = (call_kept (end_of start front) actor (Gone page worn) late, gone_away (end_of start front).deltas (end_of start front).flat actor page worn) in
    let away = behind (IsAway page) start front leaves middle (carried_if (IsAway page) _ (away_on page) (after (end_of start front) actor (Gone page worn)) middle unmapped gone w.first.rest) in
    let t = touched (end_of start (front ++ leaves ∷ middle)) other page event away.0 w.second touch in
    let none = away.1 in
    let there = t.is_page in
    cc
