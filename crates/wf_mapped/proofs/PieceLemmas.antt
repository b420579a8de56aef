-- What pieces that are performed leave at one word.
use Rattle.std.proofs.Common.{◌≡◌, ◌⊎◌, ◌≢◌, ◌<◌, ℕ, List, [], ◌∷◌, ◌++◌, true, false, length, refl, sym, ap, subst, ◌∙◌, inl, inr, length-set}
use Rattle.std.specs.Prelude.{IsSomeAnd, Some, slice_get, slice_index}
use Rattle.std.specs.List.{AllByRecursion}
use Rattle.wf_frames.specs.declared.state.Frame.{Frame}
use Rattle.wf_frames.specs.FrameWords.{word_of}
use Rattle.wf_frames.specs.Layout.{WordsValue, frame_word_place, word_count, word_place}
use Rattle.wf_views.specs.declared.plan.Piece.{Piece}
use Rattle.wf_views.specs.declared.plan.Piece.TheVariants.{Fill, Copy, Live, Pte, Leave}
use Rattle.wf_views.specs.declared.records.Records.{Records}
use Rattle.wf_homes.specs.Kept.{with_word}
use Rattle.wf_homes.proofs.FoundLemmas.{at_some}
use Rattle.wf_homes.proofs.PlaceLemmas.{stored_other, stored_same}
use Rattle.wf_space.proofs.MeetLemmas.{some_of}
use Rattle.wf_space.specs.Pieces.{ArePerformed, IsOutside, Performs, with_live}
use Rattle.wf_mapped.proofs.AnyLemmas.{AnyIs}

-- the frame word of a frame that is live in an incarnation, and not written
abbrev pub live_word : ℕ → ℕ
live_word inc = word_of (record { taken = false; writes = 0; inc = inc; live = true })

-- a piece leaves the word at a place as it is
abbrev pub Misses : ℕ → ℕ → Piece → Type 0
Misses frames at (Fill frame page) = IsOutside frames frame at
Misses frames at (Copy source frame page jumps) = ⊥
Misses frames at (Live frame) = at ≢ frame_word_place frame
Misses frames at (Pte place value) = at ≢ place
Misses frames at (Leave page) = ⊥

-- the word at a place is one of a page that fills a frame
pub record FillsWith (frames frame : ℕ) (page : List ℕ) (at v : ℕ) : Type 0 where
  pub i : ℕ
  pub low : i < 512
  pub place : at ≡ word_place frames frame i
  pub value : slice_index page i ≡ v

-- a piece stores this value at a place
abbrev pub Puts : Records → ℕ → ℕ → ℕ → Piece → Type 0
Puts r frames at v (Fill frame page) = FillsWith frames frame page at v
Puts r frames at v (Copy source frame page jumps) = ⊥
Puts r frames at v (Live frame) = (at ≡ frame_word_place frame) × IsSomeAnd (slice_get r.frames.frames frame) (λ f. live_word f.incarnation ≡ v)
Puts r frames at v (Pte place value) = (at ≡ place) × (value ≡ v)
Puts r frames at v (Leave page) = ⊥

-- it does one of both
abbrev pub Agrees : Records → ℕ → ℕ → ℕ → Piece → Type 0
Agrees r frames at v piece = Misses frames at piece ⊎ Puts r frames at v piece

-- a piece fills a frame
abbrev pub IsFill : Piece → Type 0
IsFill (Fill frame page) = Unit {0}
IsFill (Copy source frame page jumps) = ⊥
IsFill (Live frame) = ⊥
IsFill (Pte place value) = ⊥
IsFill (Leave page) = ⊥

-- a piece stores one word
abbrev pub IsStore : Piece → Type 0
IsStore (Fill frame page) = ⊥
IsStore (Copy source frame page jumps) = ⊥
IsStore (Live frame) = Unit {0}
IsStore (Pte place value) = Unit {0}
IsStore (Leave page) = ⊥

-- what a step keeps
pub record KeepsPlace (old new : WordsValue) (r q : Records) : Type 0 where
  pub frames : new.frames ≡ old.frames
  pub records : q ≡ r

pub fill_keeps : (old new : WordsValue) (r q : Records) (piece : Piece) → IsFill piece → Performs old r piece new q → KeepsPlace old new r q
fill_keeps old new r q (Fill frame page) is done = record { frames = done.0.frames; records = done.1 }
fill_keeps old new r q (Copy source frame page jumps) is done = absurd is
fill_keeps old new r q (Live frame) is done = absurd is
fill_keeps old new r q (Pte place value) is done = absurd is
fill_keeps old new r q (Leave page) is done = absurd is

pub store_keeps : (old new : WordsValue) (r q : Records) (piece : Piece) → IsStore piece → Performs old r piece new q → KeepsPlace old new r q × (length new.items ≡ length old.items)
store_keeps old new r q (Fill frame page) is done = absurd is
store_keeps old new r q (Copy source frame page jumps) is done = absurd is
store_keeps old new r q (Live frame) is done =
    let x = some_of (slice_get r.frames.frames frame) (λ (f : Frame). new ≡ with_live old frame f.incarnation) done.0 in (
      record { frames = ap (λ (w : WordsValue). w.frames) x.2; records = done.1 },
      ap (λ (w : WordsValue). length w.items) x.2 ∙ length-set old.items (frame_word_place frame) (live_word x.0.incarnation),
    )
store_keeps old new r q (Pte place value) is done = (
  record { frames = ap (λ (w : WordsValue). w.frames) done.0; records = done.1 },
  ap (λ (w : WordsValue). length w.items) done.0 ∙ length-set old.items place value,
)
store_keeps old new r q (Leave page) is done = absurd is

-- one piece at a word
fill_at : (old new : WordsValue) (r q : Records) (piece : Piece) (at v : ℕ) → IsFill piece → Performs old r piece new q → at < word_count old.frames → Agrees r old.frames at v piece
    → (slice_index old.items at ≡ v) ⊎ Puts r old.frames at v piece → slice_index new.items at ≡ v
fill_at old new r q (Fill frame page) at v is done lt agrees now = elim agrees [
  | inl misses ↦ (elim now [
    | inl same ↦ (done.0.others at lt misses ∙ same)
    | inr puts ↦ absurd (misses puts.i puts.low puts.place)
  ])
  | inr puts ↦ by_put puts
]
  where
    by_put : FillsWith old.frames frame page at v → slice_index new.items at ≡ v
    by_put puts =
        let same : new.frames ≡ old.frames = done.0.frames in
        let place : at ≡ word_place new.frames frame puts.i = puts.place ∙ ap (λ (n : ℕ). word_place n frame puts.i) (sym same) in
        ap (slice_index new.items) place ∙ done.0.filled puts.i puts.low ∙ puts.value
fill_at old new r q (Copy source frame page jumps) at v is done lt agrees now = absurd is
fill_at old new r q (Live frame) at v is done lt agrees now = absurd is
fill_at old new r q (Pte place value) at v is done lt agrees now = absurd is
fill_at old new r q (Leave page) at v is done lt agrees now = absurd is

store_at : (old new : WordsValue) (r q : Records) (piece : Piece) (at v : ℕ) → IsStore piece → Performs old r piece new q → at < length old.items → Agrees r old.frames at v piece
    → (slice_index old.items at ≡ v) ⊎ Puts r old.frames at v piece → slice_index new.items at ≡ v
store_at old new r q (Fill frame page) at v is done lt agrees now = absurd is
store_at old new r q (Copy source frame page jumps) at v is done lt agrees now = absurd is
store_at old new r q (Live frame) at v is done lt agrees now =
    let x = some_of (slice_get r.frames.frames frame) (λ (f : Frame). new ≡ with_live old frame f.incarnation) done.0 in
    ap (λ (w : WordsValue). slice_index w.items at) x.2 ∙ (elim agrees [
      | inl misses ↦ (elim now [
        | inl same ↦ (stored_other old.items (frame_word_place frame) at (live_word x.0.incarnation) misses ∙ same)
        | inr puts ↦ absurd (misses puts.0)
      ])
      | inr puts ↦ by_put x.0 x.1 puts
    ])
  where
    by_put : (f : Frame) → slice_get r.frames.frames frame ≡ Some f → (at ≡ frame_word_place frame) × IsSomeAnd (slice_get r.frames.frames frame) (λ g. live_word g.incarnation ≡ v) → slice_index (with_live old frame f.incarnation).items at ≡ v
    by_put f e puts =
        let value : live_word f.incarnation ≡ v = at_some (slice_get r.frames.frames frame) (λ (g : Frame). live_word g.incarnation ≡ v) f e puts.1 in
        ap (slice_index (with_live old frame f.incarnation).items) puts.0
        ∙ stored_same old.items (frame_word_place frame) (live_word f.incarnation) (subst (λ (k : ℕ). k < length old.items) puts.0 lt)
        ∙ value
store_at old new r q (Pte place value) at v is done lt agrees now =
    ap (λ (w : WordsValue). slice_index w.items at) done.0 ∙ (elim agrees [
      | inl misses ↦ (elim now [
        | inl same ↦ (stored_other old.items place at value misses ∙ same)
        | inr puts ↦ absurd (misses puts.0)
      ])
      | inr puts ↦ by_put puts
    ])
  where
    by_put : (at ≡ place) × (value ≡ v) → slice_index (with_word old place value).items at ≡ v
    by_put puts =
        ap (slice_index (with_word old place value).items) puts.0 ∙ stored_same old.items place value (subst (λ (k : ℕ). k < length old.items) puts.0 lt) ∙ puts.1
store_at old new r q (Leave page) at v is done lt agrees now = absurd is

-- pieces in two parts
pub record AreParted (old new : WordsValue) (r q : Records) (front back : List Piece) : Type 0 where
  pub words : WordsValue
  pub records : Records
  pub first : ArePerformed old r front words records
  pub second : ArePerformed words records back new q

pub parted : (front back : List Piece) (old new : WordsValue) (r q : Records) → ArePerformed old r (front ++ back) new q → AreParted old new r q front back
parted [] back old new r q done = record { words = old; records = r; first = (refl, refl); second = done }
parted (piece ∷ front) back old new r q done =
    let rest = parted front back done.words new done.records q done.rest in
    record { words = rest.words; records = rest.records; first = record { words = done.words; records = done.records; done = done.done; rest = rest.first }; second = rest.second }

-- the pieces that fill frames, at one word
pub fills_at : (pieces : List Piece) (old new : WordsValue) (r q : Records) (at v : ℕ) → AllByRecursion IsFill pieces → ArePerformed old r pieces new q → at < word_count old.frames → AllByRecursion (Agrees r old.frames at v) pieces
    → (slice_index old.items at ≡ v) ⊎ AnyIs (Puts r old.frames at v) pieces → slice_index new.items at ≡ v
fills_at [] old new r q at v are done lt agree now = elim now [
  | inl same ↦ (ap (λ (w : WordsValue). slice_index w.items at) done.0 ∙ same)
  | inr puts ↦ absurd puts
]
fills_at (piece ∷ pieces) old new r q at v are done lt agree now =
    let keeps = fill_keeps old done.words r done.records piece are.0 done.done in
    let lt2 : at < word_count done.words.frames = subst (λ (n : ℕ). at < word_count n) (sym keeps.frames) lt in
    let agree2 : AllByRecursion (Agrees done.records done.words.frames at v) pieces =
    subst (λ (p : Records). AllByRecursion (Agrees p done.words.frames at v) pieces) (sym keeps.records) (subst (λ (n : ℕ). AllByRecursion (Agrees r n at v) pieces) (sym keeps.frames) agree.1) in
    fills_at pieces done.words new done.records q at v are.1 done.rest lt2 agree2 (next keeps.frames keeps.records now)
  where
    next : done.words.frames ≡ old.frames → done.records ≡ r → (slice_index old.items at ≡ v) ⊎ (Puts r old.frames at v piece ⊎ AnyIs (Puts r old.frames at v) pieces) → (slice_index done.words.items at ≡ v) ⊎ AnyIs (Puts done.records done.words.frames at v) pieces
    next f e (inl same) = inl (fill_at old done.words r done.records piece at v are.0 done.done lt agree.0 (inl same))
    next f e (inr (inl puts)) = inl (fill_at old done.words r done.records piece at v are.0 done.done lt agree.0 (inr puts))
    next f e (inr (inr puts)) = inr (subst (λ (p : Records). AnyIs (Puts p done.words.frames at v) pieces) (sym e) (subst (λ (n : ℕ). AnyIs (Puts r n at v) pieces) (sym f) puts))

pub fills_keep : (pieces : List Piece) (old new : WordsValue) (r q : Records) → AllByRecursion IsFill pieces → ArePerformed old r pieces new q → KeepsPlace old new r q
fills_keep [] old new r q are done = record { frames = ap (λ (w : WordsValue). w.frames) done.0; records = done.1 }
fills_keep (piece ∷ pieces) old new r q are done =
    let first = fill_keeps old done.words r done.records piece are.0 done.done in
    let rest = fills_keep pieces done.words new done.records q are.1 done.rest in
    record { frames = rest.frames ∙ first.frames; records = rest.records ∙ first.records }

-- the pieces that store words, at one word
pub stores_keep : (pieces : List Piece) (old new : WordsValue) (r q : Records) → AllByRecursion IsStore pieces → ArePerformed old r pieces new q → KeepsPlace old new r q × (length new.items ≡ length old.items)
stores_keep [] old new r q are done = (record { frames = ap (λ (w : WordsValue). w.frames) done.0; records = done.1 }, ap (λ (w : WordsValue). length w.items) done.0)
stores_keep (piece ∷ pieces) old new r q are done =
    let first = store_keeps old done.words r done.records piece are.0 done.done in
    let rest = stores_keep pieces done.words new done.records q are.1 done.rest in
    (record { frames = rest.0.frames ∙ first.0.frames; records = rest.0.records ∙ first.0.records }, rest.1 ∙ first.1)

pub stores_at : (pieces : List Piece) (old new : WordsValue) (r q : Records) (at v : ℕ) → AllByRecursion IsStore pieces → ArePerformed old r pieces new q → at < length old.items → AllByRecursion (Agrees r old.frames at v) pieces
    → (slice_index old.items at ≡ v) ⊎ AnyIs (Puts r old.frames at v) pieces → slice_index new.items at ≡ v
stores_at [] old new r q at v are done lt agree now = elim now [
  | inl same ↦ (ap (λ (w : WordsValue). slice_index w.items at) done.0 ∙ same)
  | inr puts ↦ absurd puts
]
stores_at (piece ∷ pieces) old new r q at v are done lt agree now =
    let keeps = store_keeps old done.words r done.records piece are.0 done.done in
    let lt2 : at < length done.words.items = subst (λ (n : ℕ). at < n) (sym keeps.1) lt in
    let agree2 : AllByRecursion (Agrees done.records done.words.frames at v) pieces =
    subst (λ (p : Records). AllByRecursion (Agrees p done.words.frames at v) pieces) (sym keeps.0.records) (subst (λ (n : ℕ). AllByRecursion (Agrees r n at v) pieces) (sym keeps.0.frames) agree.1) in
    stores_at pieces done.words new done.records q at v are.1 done.rest lt2 agree2 (next keeps.0.frames keeps.0.records now)
  where
    next : done.words.frames ≡ old.frames → done.records ≡ r → (slice_index old.items at ≡ v) ⊎ (Puts r old.frames at v piece ⊎ AnyIs (Puts r old.frames at v) pieces) → (slice_index done.words.items at ≡ v) ⊎ AnyIs (Puts done.records done.words.frames at v) pieces
    next f e (inl same) = inl (store_at old done.words r done.records piece at v are.0 done.done lt agree.0 (inl same))
    next f e (inr (inl puts)) = inl (store_at old done.words r done.records piece at v are.0 done.done lt agree.0 (inr puts))
    next f e (inr (inr puts)) = inr (subst (λ (p : Records). AnyIs (Puts p done.words.frames at v) pieces) (sym e) (subst (λ (n : ℕ). AnyIs (Puts r n at v) pieces) (sym f) puts))

-- pieces that fill frames, and then pieces that store words, at one word
pub pieces_at : (fills stores : List Piece) (old new : WordsValue) (r q : Records) (at v : ℕ) → AllByRecursion IsFill fills → AllByRecursion IsStore stores → ArePerformed old r (fills ++ stores) new q → length new.items ≡ word_count old.frames
    → at < word_count old.frames → AllByRecursion (Agrees r old.frames at v) fills → AllByRecursion (Agrees r old.frames at v) stores
    → (slice_index old.items at ≡ v) ⊎ (AnyIs (Puts r old.frames at v) fills ⊎ AnyIs (Puts r old.frames at v) stores) → slice_index new.items at ≡ v
pieces_at fills stores old new r q at v are_fills are_stores done whole lt agree_fills agree_stores now =
    let parts = parted fills stores old new r q done in
    let mid : WordsValue = parts.words in
    let m : Records = parts.records in
    let front = fills_keep fills old mid r m are_fills parts.first in
    let back = stores_keep stores mid new m q are_stores parts.second in
    let low : at < length mid.items = subst (λ (n : ℕ). at < n) (sym whole ∙ back.1) lt in
    let agree2 : AllByRecursion (Agrees m mid.frames at v) stores =
    subst (λ (p : Records). AllByRecursion (Agrees p mid.frames at v) stores) (sym front.records) (subst (λ (n : ℕ). AllByRecursion (Agrees r n at v) stores) (sym front.frames) agree_stores) in
    stores_at stores mid new m q at v are_stores parts.second low agree2 (next mid m front.frames front.records parts.first now)
  where
    next : (mid : WordsValue) (m : Records) → mid.frames ≡ old.frames → m ≡ r → ArePerformed old r fills mid m → (slice_index old.items at ≡ v) ⊎ (AnyIs (Puts r old.frames at v) fills ⊎ AnyIs (Puts r old.frames at v) stores)
        → (slice_index mid.items at ≡ v) ⊎ AnyIs (Puts m mid.frames at v) stores
    next mid m f e first (inl same) = inl (fills_at fills old mid r m at v are_fills first lt agree_fills (inl same))
    next mid m f e first (inr (inl puts)) = inl (fills_at fills old mid r m at v are_fills first lt agree_fills (inr puts))
    next mid m f e first (inr (inr puts)) = inr (subst (λ (p : Records). AnyIs (Puts p mid.frames at v) stores) (sym e) (subst (λ (n : ℕ). AnyIs (Puts r n at v) stores) (sym f) puts))

pub pieces_keep : (fills stores : List Piece) (old new : WordsValue) (r q : Records) → AllByRecursion IsFill fills → AllByRecursion IsStore stores → ArePerformed old r (fills ++ stores) new q → KeepsPlace old new r q
pieces_keep fills stores old new r q are_fills are_stores done =
    let parts = parted fills stores old new r q done in
    let front = fills_keep fills old parts.words r parts.records are_fills parts.first in
    let back = stores_keep stores parts.words new parts.records q are_stores parts.second in
    record { frames = back.0.frames ∙ front.frames; records = back.0.records ∙ front.records }
