-- Who touches a page of data, and when.
use Rattle.std.specs.Prelude.{ℕ, List, Bool, false, None, ◌++◌, ◌∷◌, ◌≡◌, ◌≢◌, ◌+◌, ◌&&◌, nat_le, nat_lt, true, IfSome, IsSomeAnd}
use Rattle.std.specs.List.{AllByRecursion}
use Rattle.wf_outside.specs.Images.{DeltaValue}
use Rattle.wf_outside.specs.Pages.{page_of}
use Rattle.wf_flat.specs.declared.event.Actor.{Actor}
use Rattle.wf_flat.specs.declared.event.Actor.TheVariants.{Hart}
use Rattle.wf_flat.specs.declared.event.Event.{Event}
use Rattle.wf_flat.specs.declared.event.Event.TheVariants.{Look, Take, Put, Swap, End, Map, Ending, Gone}
use Rattle.wf_flat.specs.declared.event.Entry.{Entry}
use Rattle.wf_flat.specs.State.{FlatState, HartState}
use Rattle.wf_flat.specs.Memory.{page_in, data_in}
use Rattle.wf_flat.specs.Accesses.{holds_page}
use Rattle.wf_flat.specs.Steps.{OfHart, access_in, generation_text, is_inside}
use Rattle.wf_legal.specs.Legal.{Moment, IsLegal, end_of, at_rest}

-- the page is no text of the hart's generation
abbrev pub IsNoText : FlatState → ℕ → ℕ → Type 0
IsNoText s h page = OfHart s h (λ hart. page_in (generation_text s hart.generation) page ≡ None)

-- the event of a hart takes the page, or reads or writes data at an address in it
abbrev pub Touches : FlatState → ℕ → ℕ → Event → Type 0
Touches s h page (Take taken) = page ≡ taken
Touches s h page (Look va width value) = (page ≡ page_of va) × IsNoText s h page
Touches s h page (Put va width value) = page ≡ page_of va
Touches s h page (Swap va width old new) = page ≡ page_of va
Touches s h page event = ⊥

-- the hart ends no try
abbrev pub HasNoEnd : ℕ → List Entry → Type 0
HasNoEnd h entries =
    AllByRecursion (λ entry. (pc : ℕ) → entry ≢ record { actor = Hart h; event = End pc }) entries

-- Where a hart has taken a page, no other hart touches the page up to the first's next End.
abbrev pub HoldersAreAlone : Type 0
HoldersAreAlone =
    (deltas : List DeltaValue) (s : FlatState) (front middle back : List Entry)
    (h other page : ℕ) (event : Event) →
    let takes : Entry = record { actor = Hart h; event = Take page } in
    let touches : Entry = record { actor = Hart other; event = event } in
    let before : Moment = end_of (at_rest deltas s) (front ++ takes ∷ middle) in
    IsLegal (at_rest deltas s) (front ++ takes ∷ middle ++ touches ∷ back) → HasNoEnd h middle
    → Touches before.flat other page event → other ≡ h

-- the event maps the page
abbrev pub maps : ℕ → Event → Bool
maps page (Map first n write patch) = nat_le first page && nat_lt page (first + n)
maps page event = false

-- no entry maps the page
abbrev pub HasNoMap : ℕ → List Entry → Type 0
HasNoMap page entries = AllByRecursion (λ entry. maps page entry.event ≡ false) entries

-- From a Gone of a page to its next Map no hart touches the page.
abbrev pub GoneIsUntouched : Type 0
GoneIsUntouched =
    (deltas : List DeltaValue) (s : FlatState) (front middle back : List Entry) (actor : Actor)
    (other page : ℕ) (worn : Bool) (event : Event) →
    let leaves : Entry = record { actor = actor; event = Gone page worn } in
    let touches : Entry = record { actor = Hart other; event = event } in
    let before : Moment = end_of (at_rest deltas s) (front ++ leaves ∷ middle) in
    IsLegal (at_rest deltas s) (front ++ leaves ∷ middle ++ touches ∷ back)
    → HasNoMap page middle → Touches before.flat other page event → ⊥

-- the hart is outside the kernel, and in a try of an access to the page
abbrev pub IsTryingAt : FlatState → ℕ → ℕ → HartState → Type 0
IsTryingAt s h page hart =
    (is_inside s.inside (Hart h) ≡ false)
    × IsSomeAnd (access_in hart) (λ access. page ≡ page_of access.va)

-- the holder of each page, if it has one, is outside the kernel, and in a try of an access to it
abbrev pub HoldersTry : FlatState → Type 0
HoldersTry s =
    AllByRecursion (λ page. IfSome page.holder (λ h. OfHart s h (IsTryingAt s h page.number)))
    s.pages

-- the hart holds the page
abbrev pub Holds : FlatState → ℕ → ℕ → Type 0
Holds s h page = holds_page h (data_in s.pages page) ≡ true

-- From an Ending of a page to its next Map no hart touches the page but its holder at the Ending,
-- and that not behind its next End.
abbrev pub EndingIsForHolder : Type 0
EndingIsForHolder =
    (deltas : List DeltaValue) (s : FlatState) (front middle back : List Entry) (actor : Actor)
    (other page : ℕ) (event : Event) →
    let leaves : Entry = record { actor = actor; event = Ending page } in
    let touches : Entry = record { actor = Hart other; event = event } in
    let before : Moment = end_of (at_rest deltas s) (front ++ leaves ∷ middle) in
    HoldersTry s → IsLegal (at_rest deltas s) (front ++ leaves ∷ middle ++ touches ∷ back)
    → HasNoMap page middle → Touches before.flat other page event
    → Holds (end_of (at_rest deltas s) front).flat other page × HasNoEnd other middle
