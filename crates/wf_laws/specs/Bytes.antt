-- What is read of data: the latest that was written there.
use Rattle.std.specs.Prelude.{ℕ, List, [], true, ◌++◌, ◌∷◌, ◌≡◌, Option, None, ◌+◌, ◌-◌, ◌*◌, ◌/◌, ◌%◌, ◌^◌, ◌<◌, ◌&&◌, if◌then◌else◌, length, nat_le, nat_lt, unwrap_or}
use Rattle.std.specs.Option.{option_map}
use Rattle.std.specs.List.{AllByRecursion}
use Rattle.wf_outside.specs.declared.sizes.TheConstants.{PAGE_SIZE, PAGE_WORDS}
use Rattle.wf_outside.specs.Images.{DeltaValue}
use Rattle.wf_outside.specs.Pages.{page_of}
use Rattle.wf_flat.specs.declared.event.Actor.TheVariants.{Hart}
use Rattle.wf_flat.specs.declared.event.Event.{Event}
use Rattle.wf_flat.specs.declared.event.Event.TheVariants.{Look, Put, Swap, Map}
use Rattle.wf_flat.specs.declared.event.Entry.{Entry}
use Rattle.wf_flat.specs.State.{FlatState}
use Rattle.wf_flat.specs.Memory.{data_in, number_in}
use Rattle.wf_effects.specs.Effects.{delta_of, words_of}
use Rattle.wf_legal.specs.Legal.{Moment, IsLegal, after, at_rest, end_of}
use Rattle.wf_laws.specs.Holders.{IsNoText, maps}

-- a byte of a number, by its place from the lowest on
abbrev pub byte_of : ℕ → ℕ → ℕ
byte_of value i = value / 2 ^ (8 * i) % 2 ^ 8

-- the byte of data at an address, and 0 where no page is
abbrev pub data_byte : FlatState → ℕ → ℕ
data_byte s at =
    unwrap_or
    (option_map (λ page. number_in page.words (at % PAGE_SIZE) 1) (data_in s.pages (page_of at))) 0

-- the byte at an address of a page that is mapped: its patch's, and 0 without a patch
abbrev pub mapped_byte : List DeltaValue → Option ℕ → ℕ → ℕ
mapped_byte deltas patch at =
    number_in (words_of (delta_of deltas patch) (page_of at)) (at % PAGE_SIZE) 1

-- the byte at an address after an event, where it was this before
abbrev pub byte_after : List DeltaValue → ℕ → ℕ → Event → ℕ
byte_after deltas at byte (Put va width value) =
    if nat_le va at && nat_lt at (va + width) then byte_of value (at - va) else byte
byte_after deltas at byte (Swap va width old new) =
    if nat_le va at && nat_lt at (va + width) then byte_of new (at - va) else byte
byte_after deltas at byte (Map first n write patch) =
    if maps (page_of at) (Map first n write patch) then mapped_byte deltas patch at else byte
byte_after deltas at byte event = byte

-- the latest byte that entries put at an address, or mapped there, and else this
abbrev pub latest_byte : List DeltaValue → ℕ → ℕ → List Entry → ℕ
latest_byte deltas at byte [] = byte
latest_byte deltas at byte (entry ∷ entries) =
    latest_byte deltas at (byte_after deltas at byte entry.event) entries

-- each page of data has its 512 words
abbrev pub HasWholePages : FlatState → Type 0
HasWholePages s = AllByRecursion (λ page. length page.words ≡ PAGE_WORDS) s.pages

-- each page of data of a patch has its 512 words
abbrev pub IsWholeDelta : DeltaValue → Type 0
IsWholeDelta delta = AllByRecursion (λ page. length page.words ≡ PAGE_WORDS) delta.shared

-- an event maps no page of data that is there
abbrev pub IsFresh : FlatState → Event → Type 0
IsFresh s event = (page : ℕ) → maps page event ≡ true → data_in s.pages page ≡ None

-- no entry maps a page of data that is there then
abbrev pub MapsAreFresh : Moment → List Entry → Type 0
MapsAreFresh m [] = Unit {0}
MapsAreFresh m (entry ∷ entries) =
    IsFresh m.flat entry.event × MapsAreFresh (after m entry.actor entry.event) entries

-- What a hart reads of data has so many bytes, and each is the latest that a Put or a Swap wrote
-- there since its page's last Map, or else what that Map brought there; and where there was none,
-- the byte there at the start.
abbrev pub LooksAreLatest : Type 0
LooksAreLatest =
    (deltas : List DeltaValue) (s : FlatState) (front back : List Entry) (h va width value : ℕ) →
    let start : Moment = at_rest deltas s in
    HasWholePages s → AllByRecursion IsWholeDelta deltas → MapsAreFresh start front
    → IsLegal start (front ++ record { actor = Hart h; event = Look va width value } ∷ back)
    → IsNoText (end_of start front).flat h (page_of va)
    → (value < 2 ^ (8 * width))
    × ((i : ℕ) → i < width
    → byte_of value i ≡ latest_byte deltas (va + i) (data_byte s (va + i)) front)

-- What an atomic memory operation reads has so many bytes, and each is the latest that a Put or a
-- Swap wrote there since its page's last Map, or else what that Map brought there; and where there
-- was none, the byte there at the start.
abbrev pub SwapsAreLatest : Type 0
SwapsAreLatest =
    (deltas : List DeltaValue) (s : FlatState) (front back : List Entry)
    (h va width old new : ℕ) →
    let start : Moment = at_rest deltas s in
    HasWholePages s → AllByRecursion IsWholeDelta deltas → MapsAreFresh start front
    → IsLegal start (front ++ record { actor = Hart h; event = Swap va width old new } ∷ back)
    → (old < 2 ^ (8 * width))
    × ((i : ℕ) → i < width
    → byte_of old i ≡ latest_byte deltas (va + i) (data_byte s (va + i)) front)
