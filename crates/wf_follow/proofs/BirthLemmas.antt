-- Births never fall along a journal, and the limits stay.
use Rattle.std.proofs.Common.{◌≡◌, ◌≤◌, ◌<◌, ◌++◌, ℕ, List, [], ◌∷◌, Bool, true, false, Option, Some, None, refl, sym, subst, ap, ◌∙◌, arith}
use Rattle.std.specs.Prelude.{slice_get, if◌then◌else◌}
use Rattle.wf_outside.specs.Images.{DeltaValue}
use Rattle.wf_outside.specs.Pages.{LimitsValue, page_of}
use Rattle.wf_flat.specs.declared.event.Actor.{Actor}
use Rattle.wf_flat.specs.declared.event.Actor.TheVariants.{Hart, Kernel}
use Rattle.wf_flat.specs.declared.event.Event.{Event}
use Rattle.wf_flat.specs.declared.event.Event.TheVariants.{End, Map}
use Rattle.wf_flat.specs.declared.event.Entry.{Entry}
use Rattle.wf_flat.specs.State.{FlatState, HartState, PageState}
use Rattle.wf_flat.specs.Accesses.{Access, holds}
use Rattle.wf_flat.specs.Steps.{access_in}
use Rattle.wf_flat.specs.Changes.{change_page, give_back_by, give_back_of, given_back, note_page}
use Rattle.wf_legal.specs.Events.{flat_after}
use Rattle.wf_legal.specs.Legal.{Moment, after, end_of}
use Rattle.wf_legal.proofs.JournalLemmas.{end_of-append}

-- fewer pages were mapped than the last incarnation of a frame counts, so that no frame is worn
abbrev pub IsFew : FlatState → Type 0
IsFew s = s.births < s.limits.last_birth

-- births have not fallen, and the limits are the same
abbrev Grows : FlatState → FlatState → Type 0
Grows s t = (s.births ≤ t.births) × (t.limits ≡ s.limits)

grows_same : (s t : FlatState) → t.births ≡ s.births → t.limits ≡ s.limits → Grows s t
grows_same s t births limits = (omega (arith, births), limits)

-- what a hart gives back changes neither
back_by : (s : FlatState) (h n : ℕ) (f : PageState → PageState) (b : Bool) → Grows s (if b then note_page (change_page s n f) h n else s)
back_by s h n f true = grows_same s (note_page (change_page s n f) h n) refl refl
back_by s h n f false = grows_same s s refl refl

back_of : (s : FlatState) (h : ℕ) (hart : HartState) (o : Option Access) → Grows s (give_back_of s h hart o)
back_of s h hart None = grows_same s s refl refl
back_of s h hart (Some access) = back_by s h (page_of access.va) (given_back s.limits.last_writes hart.put) (holds s h access)

back : (s : FlatState) (h : ℕ) (o : Option HartState) → Grows s (give_back_by s h o)
back s h None = grows_same s s refl refl
back s h (Some hart) = back_of s h hart (access_in hart)

-- an entry
grows : (deltas : List DeltaValue) (s : FlatState) (actor : Actor) (event : Event) → Grows s (flat_after deltas s actor event)
grows deltas s (Hart h) (End pc) = let same = back s h (slice_get s.harts h) in (same.0, same.1)
grows deltas s (Hart h) (Map page n write patch) = (omega arith, refl)
grows deltas s (Hart h) event = grows_same s (flat_after deltas s (Hart h) event) refl refl
grows deltas s Kernel (Map page n write patch) = (omega arith, refl)
grows deltas s Kernel event = grows_same s (flat_after deltas s Kernel event) refl refl

few_before : (s t : FlatState) → Grows s t → IsFew t → IsFew s
few_before s t g few =
    let last = ap (λ (limits : LimitsValue). limits.last_birth) g.1 in
    let least = g.0 in
    omega (arith, last)

-- a journal
pub few_along : (m : Moment) (es : List Entry) → IsFew (end_of m es).flat → IsFew m.flat
few_along m [] few = few
few_along m (e ∷ es) few =
    let next : Moment = after m e.actor e.event in
    few_before m.flat next.flat (grows m.deltas m.flat e.actor e.event) (few_along next es few)

pub limits_along : (m : Moment) (es : List Entry) → (end_of m es).flat.limits ≡ m.flat.limits
limits_along m [] = refl
limits_along m (e ∷ es) = limits_along (after m e.actor e.event) es ∙ (grows m.deltas m.flat e.actor e.event).1

-- the front of a journal, and what is behind it
pub few_front : (m : Moment) (es front back : List Entry) → es ≡ front ++ back → IsFew (end_of m es).flat → IsFew (end_of m front).flat
few_front m es front back joined few =
    let both : end_of m es ≡ end_of (end_of m front) back = ap (end_of m) joined ∙ end_of-append m front back in
    few_along (end_of m front) back (subst (λ (x : Moment). IsFew x.flat) both few)

pub few_back : (m mid : Moment) (es front back : List Entry) → es ≡ front ++ back → mid ≡ end_of m front → IsFew (end_of m es).flat → IsFew (end_of mid back).flat
few_back m mid es front back joined at few =
    let both : end_of m es ≡ end_of mid back = ap (end_of m) joined ∙ end_of-append m front back ∙ sym (ap (λ (x : Moment). end_of x back) at) in
    subst (λ (x : Moment). IsFew x.flat) both few
