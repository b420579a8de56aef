-- What holds of every legal journal from a state that is sound.
use Rattle.std.specs.Prelude.{ℕ, List, ◌++◌, ◌∷◌, ◌≡◌, ◌≢◌, Some, ◌+◌, ◌*◌, ◌^◌, ◌<◌}
use Rattle.std.specs.List.{AllByRecursion}
use Rattle.wf_outside.specs.Images.{DeltaValue}
use Rattle.wf_outside.specs.Pages.{page_of}
use Rattle.wf_flat.specs.declared.event.Actor.{Actor}
use Rattle.wf_flat.specs.declared.event.Actor.TheVariants.{Hart}
use Rattle.wf_flat.specs.declared.event.Event.{Event}
use Rattle.wf_flat.specs.declared.event.Event.TheVariants.{Fetch, Look, Take, Put, Swap, Ending, Dead}
use Rattle.wf_flat.specs.declared.event.Entry.{Entry}
use Rattle.wf_flat.specs.State.{FlatState}
use Rattle.wf_flat.specs.Steps.{OfHart}
use Rattle.wf_legal.specs.Legal.{Allows, Moment, IsLegal, after, at_rest, end_of}
use Rattle.wf_next.specs.Determined.{IsUndisturbed}
use Rattle.wf_next.specs.Next.{next_event}
use Rattle.wf_laws.specs.Bytes.{byte_of, data_byte, latest_byte}
use Rattle.wf_laws.specs.Conditionals.{HasNoReserve, IsConditional, IsReserving, Writes}
use Rattle.wf_laws.specs.Holders.{HasNoEnd, HasNoMap, Holds, IsNoText, Touches}
use Rattle.wf_sound.specs.Sound.{IsSound}

-- What an undisturbed hart is allowed to do is its next event.
abbrev pub SoundHartsAreDetermined : Type 0
SoundHartsAreDetermined =
    (deltas : List DeltaValue) (s : FlatState) (entries : List Entry) (h : ℕ) (event : Event) →
    let m : Moment = end_of (at_rest deltas s) entries in
    IsSound (at_rest deltas s) → IsLegal (at_rest deltas s) entries
    → OfHart m.flat h (IsUndisturbed m.flat h) → Allows m (Hart h) event
    → next_event m h ≡ Some event

-- What a hart reads of data has so many bytes, and each is the latest that was written there since
-- its page's last Map, or else what that Map brought there; and where there was none, the byte
-- there at the start.
abbrev pub SoundLooksAreLatest : Type 0
SoundLooksAreLatest =
    (deltas : List DeltaValue) (s : FlatState) (front back : List Entry) (h va width value : ℕ) →
    let start : Moment = at_rest deltas s in
    IsSound start
    → IsLegal start (front ++ record { actor = Hart h; event = Look va width value } ∷ back)
    → IsNoText (end_of start front).flat h (page_of va)
    → (value < 2 ^ (8 * width))
    × ((i : ℕ) → i < width
    → byte_of value i ≡ latest_byte deltas (va + i) (data_byte s (va + i)) front)

-- So it is with what an atomic memory operation reads.
abbrev pub SoundSwapsAreLatest : Type 0
SoundSwapsAreLatest =
    (deltas : List DeltaValue) (s : FlatState) (front back : List Entry)
    (h va width old new : ℕ) →
    let start : Moment = at_rest deltas s in
    IsSound start
    → IsLegal start (front ++ record { actor = Hart h; event = Swap va width old new } ∷ back)
    → (old < 2 ^ (8 * width))
    × ((i : ℕ) → i < width
    → byte_of old i ≡ latest_byte deltas (va + i) (data_byte s (va + i)) front)

-- the event takes the page, or reads or writes at an address in it
abbrev pub Enters : ℕ → Event → Type 0
Enters page (Take taken) = page ≡ taken
Enters page (Look va width value) = page ≡ page_of va
Enters page (Put va width value) = page ≡ page_of va
Enters page (Swap va width old new) = page ≡ page_of va
Enters page event = ⊥

-- Where a hart has taken a page, no other hart takes it, or reads or writes in it, up to the
-- first's next End.
abbrev pub SoundHoldersAreAlone : Type 0
SoundHoldersAreAlone =
    (deltas : List DeltaValue) (s : FlatState) (front middle back : List Entry)
    (h other page : ℕ) (event : Event) →
    let takes : Entry = record { actor = Hart h; event = Take page } in
    let touches : Entry = record { actor = Hart other; event = event } in
    IsSound (at_rest deltas s)
    → IsLegal (at_rest deltas s) (front ++ takes ∷ middle ++ touches ∷ back) → HasNoEnd h middle
    → Enters page event → other ≡ h

-- From an Ending of a page to its next Map no hart touches the page but its holder at the Ending,
-- and that not behind its next End.
abbrev pub SoundEndingIsForHolder : Type 0
SoundEndingIsForHolder =
    (deltas : List DeltaValue) (s : FlatState) (front middle back : List Entry) (actor : Actor)
    (other page : ℕ) (event : Event) →
    let leaves : Entry = record { actor = actor; event = Ending page } in
    let touches : Entry = record { actor = Hart other; event = event } in
    let before : Moment = end_of (at_rest deltas s) (front ++ leaves ∷ middle) in
    IsSound (at_rest deltas s)
    → IsLegal (at_rest deltas s) (front ++ leaves ∷ middle ++ touches ∷ back)
    → HasNoMap page middle → Touches before.flat other page event
    → Holds (end_of (at_rest deltas s) front).flat other page × HasNoEnd other middle

-- Where a store-conditional of a hart writes, the hart's latest load-reserved read as many bytes at
-- the same address, and no entry between the two writes in their page.
abbrev pub SoundConditionalsAreAlone : Type 0
SoundConditionalsAreAlone =
    (deltas : List DeltaValue) (s : FlatState) (front middle back : List Entry)
    (h va width value va' width' value' : ℕ) →
    let reads : Entry = record { actor = Hart h; event = Look va width value } in
    let writes : Entry = record { actor = Hart h; event = Put va' width' value' } in
    let before : Moment = end_of (at_rest deltas s) front in
    let behind : Moment = after before (Hart h) (Look va width value) in
    IsSound (at_rest deltas s)
    → IsLegal (at_rest deltas s) (front ++ reads ∷ middle ++ writes ∷ back)
    → IsReserving before h → HasNoReserve behind h middle → IsConditional (end_of behind middle) h
    → (va' ≡ va) × (width' ≡ width)
    × AllByRecursion (λ entry. Writes (page_of va) entry.event → ⊥) middle

-- From a Dead of a generation on no hart fetches its text.
abbrev pub SoundDeadAreNotFetched : Type 0
SoundDeadAreNotFetched =
    (deltas : List DeltaValue) (s : FlatState) (front middle back : List Entry) (actor : Actor)
    (generation h pc word : ℕ) →
    let start : Moment = at_rest deltas s in
    let dies : Entry = record { actor = actor; event = Dead generation } in
    let fetches : Entry = record { actor = Hart h; event = Fetch pc word } in
    let before : Moment = end_of start (front ++ dies ∷ middle) in
    IsSound start → IsLegal start (front ++ dies ∷ middle ++ fetches ∷ back)
    → OfHart before.flat h (λ hart. hart.generation ≢ generation)
