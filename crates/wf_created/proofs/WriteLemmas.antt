-- Pieces that write frames: what each of these has then, and that all else stays.
use Rattle.std.proofs.Common.{◌≡◌, ◌≢◌, ◌<◌, ◌+◌, ℕ, zero, suc, List, [], ◌∷◌, false, length, map, refl, sym, ap, subst, ◌∙◌, arith, nat_eq}
use Rattle.std.specs.Prelude.{slice_index}
use Rattle.std.specs.List.{AllByRecursion, IsDistinct, range_with_len}
use Rattle.std.proofs.lemmas.Bool.Decides.{nat_tests}
use Rattle.wf_outside.specs.declared.image.Jump.{Jump}
use Rattle.wf_frames.specs.Layout.{WordsValue, word_count, word_place}
use Rattle.wf_views.specs.declared.plan.Piece.{Piece}
use Rattle.wf_views.specs.declared.plan.Piece.TheVariants.{Fill, Copy, Live, Pte, Leave}
use Rattle.wf_views.specs.declared.records.Records.{Records}
use Rattle.wf_homes.specs.Kept.{HasWords, word_of_frame}
use Rattle.wf_homes.proofs.ListLemmas.{all_more}
use Rattle.wf_homes.proofs.PlaceLemmas.{place_low, place_tells}
use Rattle.wf_space.specs.Pieces.{ArePerformed, IsFilled, IsOutside, Performs, jumps_put}

-- a frame with what it is to have at each place
abbrev pub Target : Type 0
Target = ℕ × (ℕ → ℕ)

-- a piece writes this into the frame of a target, from words as they are
abbrev pub Writes : WordsValue → Piece → Target → Type 0
Writes words (Fill frame page) t = (frame ≡ t.0) × ((i : ℕ) → i < 512 → slice_index page i ≡ t.1 i)
Writes words (Copy source frame page jumps) t = (jumps ≡ []) × (frame ≡ t.0) × (source < words.frames) × ((i : ℕ) → i < 512 → word_of_frame words source i ≡ t.1 i)
Writes words (Live frame) t = ⊥
Writes words (Pte at value) t = ⊥
Writes words (Leave page) t = ⊥

-- a piece copies no frame of this number
abbrev pub IsNoSource : ℕ → Piece → Type 0
IsNoSource frame (Fill other page) = Unit {0}
IsNoSource frame (Copy source other page jumps) = source ≢ frame
IsNoSource frame (Live other) = Unit {0}
IsNoSource frame (Pte at value) = Unit {0}
IsNoSource frame (Leave page) = Unit {0}

abbrev pub AllWrite : WordsValue → List Piece → List Target → Type 0
AllWrite words [] [] = Unit {0}
AllWrite words (p ∷ ps) (t ∷ ts) = Writes words p t × AllWrite words ps ts
AllWrite words [] (t ∷ ts) = ⊥
AllWrite words (p ∷ ps) [] = ⊥

abbrev pub HasTarget : WordsValue → Target → Type 0
HasTarget words t = (i : ℕ) → i < 512 → word_of_frame words t.0 i ≡ t.1 i

-- what was written
pub record AreWritten (old new : WordsValue) (r q : Records) (ts : List Target) : Type 0 where
  pub frames : new.frames ≡ old.frames
  pub records : q ≡ r
  pub each : AllByRecursion (HasTarget new) ts
  pub others : (at : ℕ) → at < word_count old.frames → AllByRecursion (λ t. IsOutside old.frames t.0 at) ts → slice_index new.items at ≡ slice_index old.items at

-- the words of a frame as a page
page_from : WordsValue → ℕ → ℕ → ℕ → List ℕ
page_from words frame a n = map (λ i. word_of_frame words frame i) (range_with_len a n)

mapped_at : (f : ℕ → ℕ) (a n i : ℕ) → i < n → slice_index (map f (range_with_len a n)) i ≡ f (a + i)
mapped_at f a zero i lt = absurd (omega arith)
mapped_at f a (suc n) zero lt = (let z : a ≡ a + 0 = omega arith in ap f z)
mapped_at f a (suc n) (suc i) lt = mapped_at f (a + 1) n i (omega arith) ∙ (let z : a + 1 + i ≡ a + suc i = omega arith in ap f z)

mapped_long : (f : ℕ → ℕ) (a n : ℕ) → length (map f (range_with_len a n)) ≡ n
mapped_long f a zero = refl
mapped_long f a (suc n) = ap suc (mapped_long f (a + 1) n)

filled_one : (old new : WordsValue) (frame : ℕ) (page : List ℕ) (t : Target) → IsFilled old new frame page → frame ≡ t.0 → ((i : ℕ) → i < 512 → slice_index page i ≡ t.1 i)
    → (new.frames ≡ old.frames) × HasTarget new t × ((at : ℕ) → at < word_count old.frames → IsOutside old.frames t.0 at → slice_index new.items at ≡ slice_index old.items at)
filled_one old new frame page t filled same each = (
  filled.frames,
  (λ i lt. (subst (λ (f : ℕ). word_of_frame new f i ≡ t.1 i) same (filled.filled i lt ∙ each i lt))),
  (λ at lt out. filled.others at lt (subst (λ (f : ℕ). IsOutside old.frames f at) (sym same) out)),
)

-- one piece
pub record IsWritten (old new : WordsValue) (r q : Records) (t : Target) : Type 0 where
  pub frames : new.frames ≡ old.frames
  pub records : q ≡ r
  pub target : HasTarget new t
  pub others : (at : ℕ) → at < word_count old.frames → IsOutside old.frames t.0 at → slice_index new.items at ≡ slice_index old.items at

pub one_written : (old new : WordsValue) (r q : Records) (p : Piece) (t : Target) → Writes old p t → Performs old r p new q → IsWritten old new r q t
one_written old new r q (Fill frame page) t w done =
    let k = filled_one old new frame page t done.0 w.0 w.1 in
    record { frames = k.0; records = done.1; target = k.1; others = k.2 }
one_written old new r q (Copy source frame page jumps) t w done =
    let same : jumps ≡ [] = w.0 in
    let whole : List ℕ = map (λ i. word_of_frame old source i) (range_with_len 0 512) in
    let has : HasWords old source whole = (λ i lt. sym (mapped_at (λ i. word_of_frame old source i) 0 512 i lt ∙ (let z : 0 + i ≡ i = omega arith in ap (λ (k : ℕ). word_of_frame old source k) z))) in
    let filled : IsFilled old new frame (jumps_put page jumps whole) = done.0 whole (mapped_long (λ i. word_of_frame old source i) 0 512) has in
    let plain : IsFilled old new frame whole = subst (λ (js : List Jump). IsFilled old new frame (jumps_put page js whole)) same filled in
    let k = filled_one old new frame whole t plain w.1 (λ i lt. (sym (has i lt) ∙ w.3 i lt)) in
    record { frames = k.0; records = done.1; target = k.1; others = k.2 }
one_written old new r q (Live frame) t w done = absurd w
one_written old new r q (Pte at value) t w done = absurd w
one_written old new r q (Leave page) t w done = absurd w

-- another frame's words are outside
pub outside_frame : (frames f g i : ℕ) → i < 512 → g ≢ f → IsOutside frames f (word_place frames g i)
outside_frame frames f g i li apart k lk e = apart (place_tells frames g f i k li lk e).0

still_writes : (old mid : WordsValue) (r m : Records) (t : Target) → IsWritten old mid r m t → (p : Piece) (u : Target) → IsNoSource t.0 p → Writes old p u → Writes mid p u
still_writes old mid r m t is (Fill frame page) u bare w = w
still_writes old mid r m t is (Copy source frame page jumps) u bare w =
    let low : source < mid.frames = subst (λ (n : ℕ). source < n) (sym is.frames) w.2 in (
      w.0,
      w.1,
      low,
      (λ i lt. (
          ap (λ (n : ℕ). slice_index mid.items (word_place n source i)) is.frames
          ∙ is.others (word_place old.frames source i) (place_low old.frames source i w.2 lt) (outside_frame old.frames t.0 source i lt bare)
          ∙ w.3 i lt)),
    )
still_writes old mid r m t is (Live frame) u bare w = absurd w
still_writes old mid r m t is (Pte at value) u bare w = absurd w
still_writes old mid r m t is (Leave page) u bare w = absurd w

all_still : (old mid : WordsValue) (r m : Records) (t : Target) → IsWritten old mid r m t → (ps : List Piece) (ts : List Target) → AllByRecursion (IsNoSource t.0) ps → AllWrite old ps ts → AllWrite mid ps ts
all_still old mid r m t is [] [] bare w = tt
all_still old mid r m t is [] (u ∷ us) bare w = absurd w
all_still old mid r m t is (p ∷ ps) [] bare w = absurd w
all_still old mid r m t is (p ∷ ps) (u ∷ us) bare w = (still_writes old mid r m t is p u bare.0 w.0, all_still old mid r m t is ps us bare.1 w.1)

-- the frames that are written
abbrev pub frames_of_targets : List Target → List ℕ
frames_of_targets [] = []
frames_of_targets (t ∷ ts) = t.0 ∷ frames_of_targets ts

no_other : (t : Target) (ts : List Target) → AllByRecursion (λ m. nat_eq t.0 m ≡ false) (frames_of_targets ts) → AllByRecursion (λ (u : Target). t.0 ≢ u.0) ts
no_other t [] all = tt
no_other t (u ∷ us) all = ((λ e. absurd (let k : nat_eq t.0 u.0 ≡ false = all.0 in grind (arith, nat_tests))), no_other t us all.1)

abbrev pub NoSources : List Piece → List Target → Type 0
NoSources ps ts = AllByRecursion (λ (t : Target). AllByRecursion (IsNoSource t.0) ps) ts

no_first : (p : Piece) (ps : List Piece) (ts : List Target) → NoSources (p ∷ ps) ts → NoSources ps ts
no_first p ps [] all = tt
no_first p ps (t ∷ ts) all = (all.0.1, no_first p ps ts all.1)

pub all_written : (ps : List Piece) (ts : List Target) (old new : WordsValue) (r q : Records) → AllWrite old ps ts → IsDistinct nat_eq (frames_of_targets ts) → AllByRecursion (λ (t : Target). t.0 < old.frames) ts → NoSources ps ts → ArePerformed old r ps new q → AreWritten old new r q ts
unfolding IsDistinct
all_written [] [] old new r q w d low bare done = record { frames = ap (λ (x : WordsValue). x.frames) done.0; records = done.1; each = tt; others = λ at lt out. ap (λ (x : WordsValue). slice_index x.items at) done.0 }
all_written [] (t ∷ ts) old new r q w d low bare done = absurd w
all_written (p ∷ ps) [] old new r q w d low bare done = absurd w
all_written (p ∷ ps) (t ∷ ts) old new r q w d low bare done =
    let mid : WordsValue = done.words in
    let m : Records = done.records in
    let is : IsWritten old mid r m t = one_written old mid r m p t w.0 done.done in
    let rest : AreWritten mid new m q ts = all_written ps ts mid new m q (all_still old mid r m t is ps ts bare.0.1 w.1) d.1 (subst (λ (n : ℕ). AllByRecursion (λ (u : Target). u.0 < n) ts) (sym is.frames) low.1) (no_first p ps ts bare.1) done.rest in
    let apart : AllByRecursion (λ (u : Target). t.0 ≢ u.0) ts = no_other t ts d.0 in
    record {
      frames = rest.frames ∙ is.frames;
      records = rest.records ∙ is.records;
      each = (
        (λ i lt. (
            ap (λ (n : ℕ). slice_index new.items (word_place n t.0 i)) rest.frames
            ∙ rest.others (word_place mid.frames t.0 i) (place_low mid.frames t.0 i (subst (λ (n : ℕ). t.0 < n) (sym is.frames) low.0) lt) (all_more (λ (u : Target). t.0 ≢ u.0) (λ (u : Target). IsOutside mid.frames u.0 (word_place mid.frames t.0 i)) (λ u bare. outside_frame mid.frames u.0 t.0 i lt bare) ts apart)
            ∙ is.target i lt)),
        rest.each,
      );
      others = λ at lt out. (
          rest.others at (subst (λ (n : ℕ). at < word_count n) (sym is.frames) lt) (subst (λ (n : ℕ). AllByRecursion (λ (u : Target). IsOutside n u.0 at) ts) (sym is.frames) out.1)
          ∙ is.others at lt out.0);
    }
