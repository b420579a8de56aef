-- What is read is the latest that was written.
use Rattle.std.proofs.Common.{◌≡◌, ◌≢◌, ◌<◌, ◌≤◌, ◌⊎◌, inl, inr, ℕ, zero, suc, ◌+◌, ◌-◌, ◌*◌, ◌^◌, ◌%◌, ◌/◌, ◌==◌, pow_pos, mod-lt, List, [], ◌∷◌, length, Option, Some, None, Bool, true, false, ◌&&◌, refl, sym, subst, ap, ◌∙◌, arith}
use Rattle.std.specs.Prelude.{IsSomeAnd, if◌then◌else◌, nat_le, nat_lt, replicate, slice_get, slice_index, unwrap_or}
use Rattle.std.specs.Option.{option_map, IfSome}
use Rattle.std.specs.List.{AllByRecursion}
use Rattle.std.proofs.lemmas.Bool.{and_parts}
use Rattle.std.proofs.lemmas.Bool.Decides.{nat_tests}
use Rattle.std.proofs.lemmas.List.{length-set, length-replicate}
use Rattle.wf_outside.specs.Images.{DeltaValue}
use Rattle.wf_outside.specs.Pages.{DataPageValue, PageValue, page_of}
use Rattle.wf_flat.specs.declared.event.Actor.{Actor}
use Rattle.wf_flat.specs.declared.event.Actor.TheVariants.{Hart, Kernel}
use Rattle.wf_flat.specs.declared.event.Event.{Event}
use Rattle.wf_flat.specs.declared.event.Event.TheVariants.{Look, Take, Put, Swap, End, Map, Going, Ending, Gone}
use Rattle.wf_flat.specs.declared.event.Entry.{Entry}
use Rattle.wf_flat.specs.declared.state.Stage.TheVariants as stages
use Rattle.wf_flat.specs.State.{FlatState, HartState, PageState}
use Rattle.wf_flat.specs.Memory.{data_in, number_in, words_with}
use Rattle.wf_flat.specs.Accesses.{Access, accessed_text, accessed_data}
use Rattle.wf_flat.specs.Steps.{Reads, ReadsData}
use Rattle.wf_flat.specs.Changes.{given_back, put_with, taken_by}
use Rattle.wf_flat.proofs.FoundLemmas.{data_number}
use Rattle.wf_flat.proofs.ListLemmas.{some_and}
use Rattle.wf_effects.specs.Effects.{delta_of, ending, going_in, mapped_page, shared_words, words_of}
use Rattle.wf_legal.specs.Events.{flat_after}
use Rattle.wf_legal.specs.Legal.{Moment, Allows, IsLegal, after, at_rest, end_of}
use Rattle.wf_next.proofs.ActLemmas.{at_some}
use Rattle.wf_next.proofs.QuietLemmas.{found_all}
use Rattle.wf_laws.specs.Holders.{IsNoText}
use Rattle.wf_laws.specs.Bytes.{IsFresh, IsWholeDelta, LooksAreLatest, SwapsAreLatest, HasWholePages, MapsAreFresh, byte_of, data_byte, byte_after, latest_byte, mapped_byte}
use Rattle.wf_laws.proofs.CallLemmas.{IsLateCall, acts_outside, call_kept, kernel_acts}
use Rattle.wf_laws.proofs.CarryLemmas.{at, late_end}
use Rattle.wf_laws.proofs.PageLemmas.{at_number, data_after, given_by, in_range, mapped_at, or_else, page_after}
use Rattle.wf_laws.proofs.StayLemmas.{at_stays, given_stays, gone_stays, if_map}
use Rattle.wf_laws.proofs.ByteLemmas.{byte_at, byte_read, byte_put, byte_kept}
use Rattle.wf_laws.proofs.FitLemmas.{HaveRows, access_fits}

-- a change that keeps the words
abbrev HoldsOfWords : (PageState → Type 0) → Type 0
HoldsOfWords P = (p q : PageState) → p.words ≡ q.words → P p → P q

going_words : (first n : ℕ) (p : PageState) → p.words ≡ (going_in first n p).words
going_words first n p = by_test (nat_le first p.number && nat_lt p.number (first + n))
  where
    by_test : (b : Bool) → p.words ≡ (if b then record p { stage = stages.Going } else p).words
    by_test true = refl
    by_test false = refl

-- an event that writes or maps data
abbrev is_write : Event → Bool
is_write (Put va width value) = true
is_write (Swap va width old new) = true
is_write (Map first n write patch) = true
is_write event = false

-- what holds of the words of a page holds of it behind each other entry
words_stay : (P : PageState → Type 0) → HoldsOfWords P → (deltas : List DeltaValue) (s : FlatState) (actor : Actor) (e : Event) (k : ℕ) (o : Option PageState) → is_write e ≡ false → IfSome o P → IfSome (page_after deltas s actor e k o) P
words_stay P of deltas s (Hart h) (Take page) k o quiet p = if_map P (at_number page (taken_by h)) o (λ found is e. at_stays P page (taken_by h) (λ p e. of p (taken_by h p) refl e) found e) p
words_stay P of deltas s (Hart h) (End pc) k o quiet p = if_map P (given_by s h (slice_get s.harts h)) o (λ found is e. given_stays P s h (slice_get s.harts h) (λ last put p e. of p (given_back last put p) refl e) found e) p
words_stay P of deltas s actor (Put va width value) k o quiet p = absurd (cc)
words_stay P of deltas s actor (Swap va width old new) k o quiet p = absurd (cc)
words_stay P of deltas s actor (Map first n write patch) k o quiet p = absurd (cc)
words_stay P of deltas s actor (Going first n) k o quiet p = if_map P (going_in first n) o (λ found is e. of found (going_in first n found) (going_words first n found) e) p
words_stay P of deltas s actor (Ending page) k o quiet p = if_map P (at_number page ending) o (λ found is e. at_stays P page ending (λ p e. of p (ending p) refl e) found e) p
words_stay P of deltas s actor (Gone page worn) k o quiet p = gone_stays P (k == page) o p
words_stay P of deltas s actor e k o quiet p = p

-- a page has its 512 words
abbrev IsWhole : PageState → Type 0
IsWhole page = length page.words ≡ 512

whole_words : HoldsOfWords IsWhole
whole_words p q e w = ap length (sym e) ∙ w

put_whole : (va width value : ℕ) (o : Option PageState) → IfSome o IsWhole → IfSome (option_map (at_number (page_of va) (put_with (va % 4096) width value)) o) IsWhole
put_whole va width value o w = if_map IsWhole (at_number (page_of va) (put_with (va % 4096) width value)) o
    (λ found is e. at_stays IsWhole (page_of va) (put_with (va % 4096) width value) (λ p e. length-set p.words (va % 4096 / 8) _ ∙ e) found e) w

-- so have those of patches
zeros_whole : length {A = ℕ} (replicate 512 0) ≡ 512
zeros_whole = length-replicate {A = ℕ} 512 0

shared_whole : (shared : List DataPageValue) (page : ℕ) → AllByRecursion (λ (page : DataPageValue). length page.words ≡ 512) shared → length (shared_words shared page) ≡ 512
shared_whole [] page whole = zeros_whole
shared_whole (p ∷ shared) page whole = by_test (p.number == page) refl (shared_whole shared page whole.1)
  where
    by_test : (b : Bool) → (p.number == page) ≡ b → length (shared_words shared page) ≡ 512 → length (shared_words (p ∷ shared) page) ≡ 512
    by_test true t rest = rw t whole.0
    by_test false t rest = rw t rest

delta_whole : (deltas : List DeltaValue) (patch : ℕ) → AllByRecursion IsWholeDelta deltas → IfSome (slice_get deltas patch) IsWholeDelta
delta_whole [] patch whole = tt
delta_whole (delta ∷ deltas) zero whole = whole.0
delta_whole (delta ∷ deltas) (suc patch) whole = delta_whole deltas patch whole.1

words_whole : (o : Option DeltaValue) (page : ℕ) → IfSome o IsWholeDelta → length (words_of o page) ≡ 512
words_whole None page whole = zeros_whole
words_whole (Some delta) page whole = shared_whole delta.shared page whole

brought_whole : (deltas : List DeltaValue) (patch : Option ℕ) (page : ℕ) → AllByRecursion IsWholeDelta deltas → length (words_of (delta_of deltas patch) page) ≡ 512
brought_whole deltas None page whole = zeros_whole
brought_whole deltas (Some patch) page whole = words_whole (slice_get deltas patch) page (delta_whole deltas patch whole)

mapped_whole : (deltas : List DeltaValue) (patch : Option ℕ) (write : Bool) (first births n k : ℕ) (o : Option PageState) → AllByRecursion IsWholeDelta deltas → IfSome o IsWhole → IfSome (or_else o (mapped_at (delta_of deltas patch) write first births n k)) IsWhole
mapped_whole deltas patch write first births n k (Some page) whole w = w
mapped_whole deltas patch write first births n k None whole w = by_range (in_range first n k)
  where
    by_range : (b : Bool) → IfSome (if b then Some (mapped_page (delta_of deltas patch) write k (births + (k - first))) else None) IsWhole
    by_range true = brought_whole deltas patch k whole
    by_range false = tt

whole_page_after : (deltas : List DeltaValue) (s : FlatState) (actor : Actor) (e : Event) (k : ℕ) (o : Option PageState) → AllByRecursion IsWholeDelta deltas → IfSome o IsWhole → IfSome (page_after deltas s actor e k o) IsWhole
whole_page_after deltas s (Hart h) (Put va width value) k o whole w = put_whole va width value o w
whole_page_after deltas s (Hart h) (Swap va width old new) k o whole w = put_whole va width new o w
whole_page_after deltas s Kernel (Put va width value) k o whole w = w
whole_page_after deltas s Kernel (Swap va width old new) k o whole w = w
whole_page_after deltas s (Hart h) (Map first n write patch) k o whole w = mapped_whole deltas patch write first s.births n k o whole w
whole_page_after deltas s Kernel (Map first n write patch) k o whole w = mapped_whole deltas patch write first s.births n k o whole w
whole_page_after deltas s (Hart h) e k o whole w = words_stay IsWhole whole_words deltas s (Hart h) e k o refl w
whole_page_after deltas s Kernel e k o whole w = words_stay IsWhole whole_words deltas s Kernel e k o refl w

-- all pages
abbrev AreWhole : FlatState → Type 0
AreWhole s = (k : ℕ) → IfSome (data_in s.pages k) IsWhole

whole_after : (deltas : List DeltaValue) (s : FlatState) (actor : Actor) (e : Event) → AllByRecursion IsWholeDelta deltas → AreWhole s → AreWhole (flat_after deltas s actor e)
whole_after deltas s actor e whole w k = subst (λ (o : Option PageState). IfSome o IsWhole) (sym (data_after deltas s actor e k)) (whole_page_after deltas s actor e k (data_in s.pages k) whole (w k))

if_found : (P : PageState → Type 0) (pages : List PageState) (k : ℕ) (o : Option PageState) → data_in pages k ≡ o → ((page : PageState) → data_in pages k ≡ Some page → P page) → IfSome o P
if_found P pages k None e all = tt
if_found P pages k (Some page) e all = all page e

whole_start : (s : FlatState) → HasWholePages s → AreWhole s
whole_start s w k = if_found IsWhole s.pages k (data_in s.pages k) refl (λ page is. found_all IsWhole s.pages k page w is)

-- the byte at an address is this, where its page is there
abbrev HasByte : ℕ → ℕ → PageState → Type 0
HasByte at byte page = byte_at page.words (at % 4096) ≡ byte

byte_words : (at byte : ℕ) → HoldsOfWords (HasByte at byte)
byte_words at byte p q e b = ap (λ (words : List ℕ). byte_at words (at % 4096)) (sym e) ∙ b

-- a write in its page, and in another
byte_written : (words : List ℕ) (va width value at : ℕ) (b : Bool) → (nat_le va at && nat_lt at (va + width)) ≡ b → length words ≡ 512 → va % 8 + width ≤ 8 → page_of at ≡ page_of va
    → byte_at (words_with words (va % 4096) width value) (at % 4096) ≡ (if b then byte_of value (at - va) else byte_at words (at % 4096))
byte_written words va width value at true t whole fits same =
    let from : va ≤ at = (let c = (and_parts (nat_le va at) (nat_lt at (va + width)) t).0 in grind (arith, nat_tests)) in
    let to : at < va + width = (let c = (and_parts (nat_le va at) (nat_lt at (va + width)) t).1 in grind (arith, nat_tests)) in
    let place : at % 4096 ≡ va % 4096 + (at - va) = omega arith in
    let inside : va % 4096 / 8 < length words = omega arith in
    let low : va % 4096 % 8 + width ≤ 8 = omega arith in
    let below : at - va < width = omega arith in
    ap (byte_at (words_with words (va % 4096) width value)) place ∙ byte_put words (va % 4096) width value (at - va) inside low below
byte_written words va width value at false t whole fits same =
    let out : (at < va) ⊎ (va + width ≤ at) = grind (arith, nat_tests) in
    let inside : va % 4096 / 8 < length words = omega arith in
    byte_kept words (va % 4096) width value (at % 4096) inside (elim out [
      | inl under ↦ inl (omega arith)
      | inr over ↦ inr (omega arith)
    ])

byte_elsewhere : (deltas : List DeltaValue) (va width value at byte : ℕ) → va % 8 + width ≤ 8 → page_of at ≢ page_of va → byte ≡ byte_after deltas at byte (Put va width value)
byte_elsewhere deltas va width value at byte fits apart =
    let out : (nat_le va at && nat_lt at (va + width)) ≡ false = grind (arith, nat_tests) in
    rw out refl

put_byte : (deltas : List DeltaValue) (pages : List PageState) (va width value at byte : ℕ) (page : PageState) → data_in pages (page_of at) ≡ Some page → va % 8 + width ≤ 8 → IsWhole page → HasByte at byte page
    → HasByte at (byte_after deltas at byte (Put va width value)) (at_number (page_of va) (put_with (va % 4096) width value) page)
put_byte deltas pages va width value at byte page is fits whole b = by_test (page.number == page_of va) refl
  where
    by_test : (c : Bool) → (page.number == page_of va) ≡ c → HasByte at (byte_after deltas at byte (Put va width value)) (if c then put_with (va % 4096) width value page else page)
    by_test true t =
        let one : page.number ≡ page_of at = data_number pages (page_of at) page is in
        let here : page.number ≡ page_of va = grind (arith, nat_tests) in
        let same : page_of at ≡ page_of va = sym one ∙ here in
        byte_written page.words va width value at (nat_le va at && nat_lt at (va + width)) refl whole fits same ∙ ap (λ (byte : ℕ). byte_after deltas at byte (Put va width value)) b
    by_test false t =
        let one : page.number ≡ page_of at = data_number pages (page_of at) page is in
        let apart : page_of at ≢ page_of va = λ same. (let here : page.number ≡ page_of va = one ∙ same in grind (arith, nat_tests)) in
        b ∙ byte_elsewhere deltas va width value at byte fits apart

put_bytes : (deltas : List DeltaValue) (s : FlatState) (va width value at byte : ℕ) → va % 8 + width ≤ 8 → AreWhole s → IfSome (data_in s.pages (page_of at)) (HasByte at byte)
    → IfSome (option_map (at_number (page_of va) (put_with (va % 4096) width value)) (data_in s.pages (page_of at))) (HasByte at (byte_after deltas at byte (Put va width value)))
put_bytes deltas s va width value at byte fits whole b = by_page (data_in s.pages (page_of at)) refl (whole (page_of at)) b
  where
    by_page : (o : Option PageState) → data_in s.pages (page_of at) ≡ o → IfSome o IsWhole → IfSome o (HasByte at byte)
        → IfSome (option_map (at_number (page_of va) (put_with (va % 4096) width value)) o) (HasByte at (byte_after deltas at byte (Put va width value)))
    by_page None is w b = tt
    by_page (Some page) is w b = put_byte deltas s.pages va width value at byte page is fits w b

-- where pages are mapped
mapped_bytes : (deltas : List DeltaValue) (patch : Option ℕ) (write : Bool) (first births n at byte : ℕ) (c : Bool) (o : Option PageState) → in_range first n (page_of at) ≡ c → (c ≡ true → o ≡ None) → IfSome o (HasByte at byte)
    → IfSome (or_else o (if c then Some (mapped_page (delta_of deltas patch) write (page_of at) (births + (page_of at - first))) else None)) (HasByte at (if c then mapped_byte deltas patch at else byte))
mapped_bytes deltas patch write first births n at byte true None t fresh b = refl
mapped_bytes deltas patch write first births n at byte true (Some page) t fresh b = absurd (let none = fresh refl in cc)
mapped_bytes deltas patch write first births n at byte false None t fresh b = tt
mapped_bytes deltas patch write first births n at byte false (Some page) t fresh b = b

-- the byte behind each entry
abbrev IsLatest : ℕ → ℕ → FlatState → Type 0
IsLatest at byte s = IfSome (data_in s.pages (page_of at)) (HasByte at byte)

page_step : HaveRows → (m : Moment) (actor : Actor) (e : Event) (at byte : ℕ) → IsLateCall m.call → Allows m actor e → IsFresh m.flat e → AreWhole m.flat → IsLatest at byte m.flat
    → IfSome (page_after m.deltas m.flat actor e (page_of at) (data_in m.flat.pages (page_of at))) (HasByte at (byte_after m.deltas at byte e))
page_step rows m (Hart h) (Put va width value) at byte late a fresh whole b =
    let w = some_and (slice_get m.flat.harts h) _ (acts_outside m h (Put va width value) refl late a) in
    put_bytes m.deltas m.flat va width value at byte (access_fits rows w.0 _ w.2.1.0) whole b
page_step rows m (Hart h) (Swap va width old new) at byte late a fresh whole b =
    let w = some_and (slice_get m.flat.harts h) _ (acts_outside m h (Swap va width old new) refl late a) in
    put_bytes m.deltas m.flat va width new at byte (access_fits rows w.0 _ w.2.1.0) whole b
page_step rows m Kernel (Put va width value) at byte late a fresh whole b = absurd (elim (kernel_acts m (Put va width value) refl late a) [
  | inl idle ↦ cc
  | inr may ↦ may
])
page_step rows m Kernel (Swap va width old new) at byte late a fresh whole b = absurd (elim (kernel_acts m (Swap va width old new) refl late a) [
  | inl idle ↦ cc
  | inr may ↦ may
])
page_step rows m (Hart h) (Map first n write patch) at byte late a fresh whole b =
    mapped_bytes m.deltas patch write first m.flat.births n at byte (in_range first n (page_of at)) (data_in m.flat.pages (page_of at)) refl (fresh (page_of at)) b
page_step rows m Kernel (Map first n write patch) at byte late a fresh whole b =
    mapped_bytes m.deltas patch write first m.flat.births n at byte (in_range first n (page_of at)) (data_in m.flat.pages (page_of at)) refl (fresh (page_of at)) b
page_step rows m (Hart h) e at byte late a fresh whole b = words_stay (HasByte at byte) (byte_words at byte) m.deltas m.flat (Hart h) e (page_of at) (data_in m.flat.pages (page_of at)) refl b
page_step rows m Kernel e at byte late a fresh whole b = words_stay (HasByte at byte) (byte_words at byte) m.deltas m.flat Kernel e (page_of at) (data_in m.flat.pages (page_of at)) refl b

step : HaveRows → (m : Moment) (actor : Actor) (e : Event) (at byte : ℕ) → IsLateCall m.call → Allows m actor e → IsFresh m.flat e → AreWhole m.flat → IsLatest at byte m.flat → IsLatest at (byte_after m.deltas at byte e) (flat_after m.deltas m.flat actor e)
step rows m actor e at byte late a fresh whole b =
    subst (λ (o : Option PageState). IfSome o (HasByte at (byte_after m.deltas at byte e))) (sym (data_after m.deltas m.flat actor e (page_of at))) (page_step rows m actor e at byte late a fresh whole b)

along : HaveRows → (m : Moment) (front : List Entry) (at byte : ℕ) → IsLateCall m.call → AllByRecursion IsWholeDelta m.deltas → MapsAreFresh m front → AreWhole m.flat → IsLatest at byte m.flat → IsLegal m front
    → IsLatest at (latest_byte m.deltas at byte front) (end_of m front).flat
along rows m [] at byte late deltas fresh whole b l = b
along rows m (entry ∷ front) at byte late deltas fresh whole b l =
    along rows (after m entry.actor entry.event) front at (byte_after m.deltas at byte entry.event) (call_kept m entry.actor entry.event late) deltas fresh.1
    (whole_after m.deltas m.flat entry.actor entry.event deltas whole) (step rows m entry.actor entry.event at byte late l.0 fresh.0 whole b) l.1

-- at the start
byte_start : (s : FlatState) (at : ℕ) → IsLatest at (data_byte s at) s
byte_start s at = by_page (data_in s.pages (page_of at))
  where
    by_page : (o : Option PageState) → IfSome o (HasByte at (unwrap_or (option_map (λ (page : PageState). number_in page.words (at % 4096) 1) o) 0))
    by_page None = tt
    by_page (Some page) = refl

-- these bytes are read in the page
abbrev IsReadIn : ℕ → ℕ → ℕ → PageState → Type 0
IsReadIn va width value page = value ≡ number_in page.words (va % 4096) width

-- what a read of data gives
read_data : (s : FlatState) (va width value i byte : ℕ) → IsSomeAnd (data_in s.pages (page_of va)) (IsReadIn va width value) → va % 8 + width ≤ 8 → i < width → IsLatest (va + i) byte s → byte_of value i ≡ byte
read_data s va width value i byte p fits below b =
    let w = some_and (data_in s.pages (page_of va)) _ p in
    let low : va % 4096 % 8 + width ≤ 8 = omega arith in
    let same : page_of (va + i) ≡ page_of va = omega arith in
    let place : (va + i) % 4096 ≡ va % 4096 + i = omega arith in
    let there : data_in s.pages (page_of (va + i)) ≡ Some w.0 = ap (data_in s.pages) same ∙ w.1 in
    let found : byte_at w.0.words ((va + i) % 4096) ≡ byte = subst (λ (o : Option PageState). IfSome o (HasByte (va + i) byte)) there b in
    ap (λ (n : ℕ). byte_of n i) w.2 ∙ byte_read w.0.words (va % 4096) width i low below ∙ sym (ap (byte_at w.0.words) place) ∙ found

reads_in : (s : FlatState) (h : ℕ) (hart : HartState) (access : Access) (value : ℕ) (o : Option PageState) → ReadsData s h hart access o value → IsSomeAnd o (IsReadIn access.va access.width value)
reads_in s h hart access value None p = p
reads_in s h hart access value (Some page) p = p.1

-- it has so many bytes
data_low : (va width value : ℕ) (o : Option PageState) → IsSomeAnd o (IsReadIn va width value) → value < 2 ^ (8 * width)
data_low va width value o p =
    let w = some_and o _ p in
    subst (λ (n : ℕ). n < 2 ^ (8 * width)) (sym w.2) (mod-lt (slice_index w.0.words (va % 4096 / 8) / 2 ^ (8 * (va % 4096 % 8))) (pow_pos (8 * width)))

-- a hart that reads data
record Reading (m : Moment) (va width value : ℕ) : Type 0 where
  is : IsSomeAnd (data_in m.flat.pages (page_of va)) (IsReadIn va width value)
  fits : va % 8 + width ≤ 8

at_look : HaveRows → (m : Moment) (h va width value : ℕ) → IsLateCall m.call → Allows m (Hart h) (Look va width value) → IsNoText m.flat h (page_of va) → Reading m va width value
at_look rows m h va width value late a none =
    let access : Access = record { va = va; width = width; write = false } in
    let w = some_and (slice_get m.flat.harts h) _ (acts_outside m h (Look va width value) refl late a) in
    let not_text : accessed_text m.flat w.0 access ≡ None = at_some (slice_get m.flat.harts h) _ w.0 w.1 none in
    let reads : ReadsData m.flat h w.0 access (accessed_data m.flat access) value = subst (λ (o : Option PageValue). Reads m.flat h w.0 access o value) not_text w.2.1.2 in
    record { is = reads_in m.flat h w.0 access value (accessed_data m.flat access) reads; fits = access_fits rows w.0 access w.2.1.0 }

at_swap : HaveRows → (m : Moment) (h va width old new : ℕ) → IsLateCall m.call → Allows m (Hart h) (Swap va width old new) → Reading m va width old
at_swap rows m h va width old new late a =
    let w = some_and (slice_get m.flat.harts h) _ (acts_outside m h (Swap va width old new) refl late a) in
    record { is = w.2.1.4; fits = access_fits rows w.0 _ w.2.1.0 }

reading : HaveRows → (deltas : List DeltaValue) (s : FlatState) (front : List Entry) (va width value : ℕ) → HasWholePages s → AllByRecursion IsWholeDelta deltas → MapsAreFresh (at_rest deltas s) front → IsLegal (at_rest deltas s) front
    → Reading (end_of (at_rest deltas s) front) va width value → (value < 2 ^ (8 * width)) × ((i : ℕ) → i < width → byte_of value i ≡ latest_byte deltas (va + i) (data_byte s (va + i)) front)
reading rows deltas s front va width value whole patches fresh l r = (
  data_low va width value (data_in (end_of (at_rest deltas s) front).flat.pages (page_of va)) r.is,
  λ i below. read_data (end_of (at_rest deltas s) front).flat va width value i (latest_byte deltas (va + i) (data_byte s (va + i)) front) r.is r.fits below
      (along rows (at_rest deltas s) front (va + i) (data_byte s (va + i)) tt patches fresh (whole_start s whole) (byte_start s (va + i)) l),
)

pub latest : HaveRows → LooksAreLatest
latest rows deltas s front back h va width value whole patches fresh l none =
    let w = at (at_rest deltas s) front (record { actor = Hart h; event = Look va width value }) back l in
    reading rows deltas s front va width value whole patches fresh w.legal (at_look rows (end_of (at_rest deltas s) front) h va width value (late_end (at_rest deltas s) front tt w.legal) w.allowed none)

pub swaps : HaveRows → SwapsAreLatest
swaps rows deltas s front back h va width old new whole patches fresh l =
    let w = at (at_rest deltas s) front (record { actor = Hart h; event = Swap va width old new }) back l in
    reading rows deltas s front va width old whole patches fresh w.legal (at_swap rows (end_of (at_rest deltas s) front) h va width old new (late_end (at_rest deltas s) front tt w.legal) w.allowed)
