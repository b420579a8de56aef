-- Whole accesses: what words and records stand for after them.
use Rattle.std.proofs.Common.{◌≡◌, ◌<◌, ◌+◌, ◌%◌, ◌==◌, ◌&&◌, ℕ, List, [], ◌∷◌, Bool, true, false, Option, Some, None, length, refl, sym, ap, subst, ◌∙◌, inl, inr, arith, is_some, if◌then◌else◌}
use Rattle.std.specs.Prelude.{IsSomeAnd, nat_lt, slice_get}
use Rattle.std.specs.Option.{option_map}
use Rattle.std.specs.List.{AllByRecursion}
use Rattle.std.proofs.lemmas.Bool.Decides.{nat_tests}
use Rattle.wf_outside.specs.Pages.{page_of}
use Rattle.wf_frames.specs.declared.fields.FrameWord.{FrameWord}
use Rattle.wf_frames.specs.Layout.{WordsValue, word_count}
use Rattle.wf_views.specs.declared.pages.PageAt.{PageAt}
use Rattle.wf_views.specs.declared.records.Records.{Records}
use Rattle.wf_flat.specs.declared.event.Actor.TheVariants.{Hart}
use Rattle.wf_flat.specs.declared.state.Life.{Life}
use Rattle.wf_flat.specs.Accesses.{Access, holder_is, holds, holds_page}
use Rattle.wf_flat.specs.Changes.{change_hart, change_page, ended, give_back, given_back, leave_hart, looked_with, noted, page_taken, put_with, swapped_by, taken_by, try_ended, without, written_by}
use Rattle.wf_flat.specs.Lists.{changed_at, changed_by, others_changed}
use Rattle.wf_flat.specs.Memory.{data_in}
use Rattle.wf_flat.specs.Serving.{held_by}
use Rattle.wf_flat.specs.State.{FlatState, HartState, PageState}
use Rattle.wf_flat.specs.Steps.{OfHart, access_in}
use Rattle.wf_flat.proofs.ChangeLemmas.{given_none}
use Rattle.wf_flat.proofs.FoundLemmas.{found_changed, key_of_found}
use Rattle.wf_flat.proofs.HartLemmas.{get-changed_at}
use Rattle.wf_flat.proofs.ListLemmas.{and_some, some_and}
use Rattle.wf_homes.specs.Homes.{DataOf, Homes, home_frame}
use Rattle.wf_homes.specs.Kept.{IsKeptPage, LiesIn, fields_at}
use Rattle.wf_homes.specs.Stands.{StandsFor}
use Rattle.wf_homes.proofs.ListLemmas.{true_or_false}
use Rattle.wf_homes.proofs.PlaceLemmas.{home_low, homes_apart}
use Rattle.wf_access.specs.Laws.{AnswersStand, PagesAreWhole, IsAnswer, LastLooksStand, LooksAndMissesAnswer, MayTakeFor, PutsStand, SwapsStand, bytes_at}
use Rattle.wf_access.specs.Stores.{one_more_write, with_store}
use Rattle.wf_access.specs.Wholes.{whole_put, whole_swap}
use Rattle.wf_access.proofs.AccessLemmas.{IsOneFrame, KeepsPage, number_of, standing}
use Rattle.wf_access.proofs.HartLemmas.{changed_ran, held_given, noted_ran, other_harts, others_ran, ran}
use Rattle.wf_access.proofs.WordLemmas.{counted, length_same, other_frame, other_words, same_page, zero_same}

-- a change after a change is one change
pub changed_twice : (ps : List PageState) (n : ℕ) (f g : PageState → PageState) → KeepsPage f → changed_by number_of (changed_by number_of ps n f) n g ≡ changed_by number_of ps n (λ p. g (f p))
changed_twice [] n f g keeps = refl
changed_twice (p ∷ ps) n f g keeps = elim (true_or_false (p.number == n)) [
  | inl t ↦ (
      let u : ((f p).number == n) ≡ true = ap (λ (m : ℕ). m == n) (keeps.number p) ∙ t in
      rw (t, u) (ap (λ (qs : List PageState). g (f p) ∷ qs) (changed_twice ps n f g keeps))
      )
  | inr t ↦ (rw (t, t) (ap (λ (qs : List PageState). p ∷ qs) (changed_twice ps n f g keeps)))
]

pub none_changed : (words : WordsValue) (frame : ℕ) → IsOneFrame words words frame
none_changed words frame = record {
  frames = refl;
  size = refl;
  zero_word = refl;
  inc = refl;
  taken = refl;
  live = refl;
  others = λ f lt apart. refl;
  words = λ f i lt apart li. refl;
}

-- the frame in which a page of data lies is its home
pub home_of : (words : WordsValue) (r : Records) (homes : Homes) (s : FlatState) (page : PageState) (frame : ℕ) → StandsFor words r homes s → LiesIn words r page frame → home_frame homes (DataOf page.number) ≡ Some frame
home_of words r homes s page frame st lies = sym (st.at_home (DataOf page.number)) ∙ ap (option_map (λ (x : PageAt). x.frame)) lies.recorded

-- a hart that takes a page for its access and has an answer ends its try
module _ (s : FlatState) (h va : ℕ) (page : PageState) (answer : HartState → HartState) (put : PageState → PageState) (keeps : KeepsPage put) (held : (p : PageState) → (put p).holder ≡ p.holder) (answers : (x : HartState) → ran (answer x) ≡ ran x) (hart : HartState) (access : Access)
    (is : slice_get s.harts h ≡ Some hart) (acc : access_in (answer hart) ≡ Some access) (at : access.va ≡ va) (there : data_in s.pages (page_of va) ≡ Some page) where
  abbrev n : ℕ
  n = page_of va

  -- the state in which it has its answer
  abbrev pub answered_at : FlatState
  answered_at = change_hart (change_page (page_taken s h n) n put) h answer

  abbrev pub given : PageState → PageState
  given p = given_back s.limits.last_writes (answer hart).put (put (taken_by h p))

  taken_keeps : KeepsPage (taken_by h)
  taken_keeps = record { number = λ p. refl; write = λ p. refl; stage = λ p. refl }

  put_keeps : KeepsPage (λ p. put (taken_by h p))
  put_keeps = record { number = λ p. keeps.number (taken_by h p); write = λ p. keeps.write (taken_by h p); stage = λ p. keeps.stage (taken_by h p) }

  pub given_keeps : KeepsPage given
  given_keeps = record { number = λ p. keeps.number (taken_by h p); write = λ p. keeps.write (taken_by h p); stage = λ p. keeps.stage (taken_by h p) }

  hart_is : slice_get answered_at.harts h ≡ Some (answer hart)
  hart_is = get-changed_at (others_changed s.harts h (noted n)) h answer ∙ ap (option_map answer) (other_harts (noted n) s.harts h ∙ is)

  pages_are : answered_at.pages ≡ changed_by number_of s.pages n (λ p. put (taken_by h p))
  pages_are = changed_twice s.pages n (taken_by h) put taken_keeps

  page_is : data_in answered_at.pages n ≡ Some (put (taken_by h page))
  page_is = ap (λ (ps : List PageState). data_in ps n) pages_are ∙ found_changed number_of (λ p. put (taken_by h p)) s.pages n put_keeps.number ∙ ap (option_map (λ p. put (taken_by h p))) there

  held_is : holds answered_at h access ≡ true
  held_is =
      let same : (h == h) ≡ true = grind (arith, nat_tests) in
      ap (λ (v : ℕ). holds_page h (data_in answered_at.pages (page_of v))) at ∙ ap (holds_page h) page_is ∙ ap (λ (o : Option ℕ). holder_is o h) (held (taken_by h page)) ∙ same

  abbrev pub harts_after : List HartState
  harts_after = changed_at (others_changed answered_at.harts h (noted n)) h ended

  pages_after : changed_by number_of answered_at.pages n (given_back s.limits.last_writes (answer hart).put) ≡ changed_by number_of s.pages n given
  pages_after =
      ap (λ (ps : List PageState). changed_by number_of ps n (given_back s.limits.last_writes (answer hart).put)) pages_are
      ∙ changed_twice s.pages n (λ p. put (taken_by h p)) (given_back s.limits.last_writes (answer hart).put) put_keeps

  pub after_is : try_ended answered_at h ≡ record s { pages = changed_by number_of s.pages n given; harts = harts_after; inside = without s.inside (Hart h) }
  after_is =
      ap (λ (t : FlatState). leave_hart t h ended) (held_given answered_at h n (answer hart) access hart_is acc (ap page_of at) held_is)
      ∙ ap (λ (ps : List PageState). record s { pages = ps; harts = harts_after; inside = without s.inside (Hart h) }) pages_after

  run : (k : ℕ) → option_map ran (slice_get harts_after k) ≡ option_map ran (slice_get s.harts k)
  run k =
      changed_ran ended (λ x. refl) (others_changed answered_at.harts h (noted n)) h k
      ∙ others_ran (noted n) (noted_ran n) answered_at.harts h k
      ∙ changed_ran answer answers (others_changed s.harts h (noted n)) h k
      ∙ others_ran (noted n) (noted_ran n) s.harts h k

  pub taken_standing : (old new : WordsValue) (r : Records) (homes : Homes) (frame : ℕ) (Q : PageState → Type 0) → StandsFor old r homes s → IsOneFrame old new frame → LiesIn old r page frame → AllByRecursion Q s.pages
      → ((p : PageState) → Q p → LiesIn old r p frame → LiesIn new r (given p) frame) → StandsFor new r homes (try_ended answered_at h)
  taken_standing old new r homes frame Q st one lies all lies_on =
      let num : page.number ≡ n = key_of_found number_of s.pages n page there in
      let home : home_frame homes (DataOf n) ≡ Some frame = subst (λ (m : ℕ). home_frame homes (DataOf m) ≡ Some frame) num (home_of old r homes s page frame st lies) in
      subst (StandsFor new r homes) (sym after_is) (standing old new r homes s n frame given Q harts_after (without s.inside (Hart h)) st one (λ t e. homes_apart homes s t (DataOf n) frame st.housed.separate e home) given_keeps all (λ p f q same e l. (
      let a : Some f ≡ Some frame = sym e ∙ ap (λ (m : ℕ). home_frame homes (DataOf m)) same ∙ home in
      let b : f ≡ frame = cc in
      subst (LiesIn new r (given p)) (sym b) (lies_on p q (subst (LiesIn old r p) b l))
      )) run)

-- the words after a store differ in one frame
module _ (words : WordsValue) (r : Records) (homes : Homes) (s : FlatState) (h va width value frame : ℕ) (page : PageState) (st : StandsFor words r homes s) (whole : PagesAreWhole s) (may : MayTakeFor words r s h va frame page) where
  abbrev at : ℕ
  at = va % 4096

  abbrev last : ℕ
  last = s.limits.last_writes

  abbrev stored : WordsValue
  stored = with_store words (bytes_at frame va width) value last

  low : frame < words.frames
  low =
      let lt : frame < s.limits.frames = home_low homes s (DataOf page.number) frame st.housed.separate (home_of words r homes s page frame st may.lies) in
      let e : words.frames ≡ s.limits.frames = st.sizes.of_words in
      omega arith

  size : length words.items ≡ word_count words.frames
  size = (let e : words.frames ≡ s.limits.frames = st.sizes.of_words in rw e (st.sizes.whole))

  within : at < 4096
  within = omega arith

  count : fields_at stored frame ≡ record (fields_at words frame) { writes = one_more_write last (fields_at words frame).writes }
  count = counted words frame at width value last size low within whole.counts

  pub one_frame : IsOneFrame words stored frame
  one_frame = record {
    frames = refl;
    size = length_same words frame at width value last size low within whole.counts;
    zero_word = zero_same words frame at width value last size low within whole.counts;
    inc = ap (λ (f : FrameWord). f.inc) count;
    taken = ap (λ (f : FrameWord). f.taken) count;
    live = ap (λ (f : FrameWord). f.live) count;
    others = other_frame words frame at width value last size low within whole.counts;
    words = other_words words frame at width value last size low within whole.counts;
  }

  -- the page that was written lies there
  pub written_lies : (p : PageState) → length p.words ≡ 512 → LiesIn words r p frame → LiesIn stored r (given_back last true (put_with at width value (taken_by h p))) frame
  written_lies p long lies = record {
    recorded = lies.recorded;
    same_words = same_page words frame at width value last size low within whole.counts p.words long lies.same_words;
    writes = ap (λ (f : FrameWord). f.writes) count ∙ ap (one_more_write last) lies.writes;
    taken = ap (λ (f : FrameWord). f.taken) count ∙ may.lies.taken ∙ ap is_some may.free;
    live = ap (λ (f : FrameWord). f.live) count ∙ lies.live;
  }

  pub put_standing : StandsFor stored r homes (whole_put s h va width value)
  put_standing =
      let hart = some_and (slice_get s.harts h) (λ hart. IsSomeAnd (access_in hart) (λ access. access.va ≡ va) × (hart.put ≡ false)) may.tries in
      let access = some_and (access_in hart.0) (λ access. access.va ≡ va) hart.2.0 in
      taken_standing s h va page written_by (put_with at width value) (record { number = λ p. refl; write = λ p. refl; stage = λ p. refl }) (λ p. refl) (λ x. refl) hart.0 access.0 hart.1 access.1 access.2 may.there
      words stored r homes frame (λ p. length p.words ≡ 512) st one_frame may.lies whole.whole written_lies

  pub swap_standing : (got : ℕ) → StandsFor stored r homes (whole_swap s h va width got value)
  swap_standing got =
      let hart = some_and (slice_get s.harts h) (λ hart. IsSomeAnd (access_in hart) (λ access. access.va ≡ va) × (hart.put ≡ false)) may.tries in
      let access = some_and (access_in hart.0) (λ access. access.va ≡ va) hart.2.0 in
      taken_standing s h va page (swapped_by got) (put_with at width value) (record { number = λ p. refl; write = λ p. refl; stage = λ p. refl }) (λ p. refl) (λ x. refl) hart.0 access.0 hart.1 access.1 access.2 may.there
      words stored r homes frame (λ p. length p.words ≡ 512) st one_frame may.lies whole.whole written_lies

pub puts_stand_for : PutsStand
puts_stand_for words r homes s h va width value frame page st whole may = put_standing words r homes s h va width value frame page st whole may

pub swaps_stand_for : SwapsStand
swaps_stand_for words r homes s h va width old new frame page st whole may = swap_standing words r homes s h va width new frame page st whole may old

-- a page that doesn't change
pub changed_same : (ps : List PageState) (n : ℕ) → changed_by number_of ps n (λ p. p) ≡ ps
changed_same [] n = refl
changed_same (p ∷ ps) n = elim (true_or_false (p.number == n)) [
  | inl t ↦ (rw t (ap (λ (qs : List PageState). p ∷ qs) (changed_same ps n)))
  | inr t ↦ (rw t (ap (λ (qs : List PageState). p ∷ qs) (changed_same ps n)))
]

pub last_looks_stand_for : LastLooksStand
last_looks_stand_for words r homes s h va width value frame page st may =
    let hart = some_and (slice_get s.harts h) (λ hart. IsSomeAnd (access_in hart) (λ access. access.va ≡ va) × (hart.put ≡ false)) may.tries in
    let access = some_and (access_in hart.0) (λ access. access.va ≡ va) hart.2.0 in
    let taken : FlatState = page_taken s h (page_of va) in
    let same : change_page taken (page_of va) (λ p. p) ≡ taken = ap (λ (ps : List PageState). record taken { pages = ps }) (changed_same taken.pages (page_of va)) in
    subst (λ (t : FlatState). StandsFor words r homes (try_ended (change_hart t h (looked_with taken va width value)) h)) same (
    taken_standing s h va page (looked_with taken va width value) (λ p. p) (record { number = λ p. refl; write = λ p. refl; stage = λ p. refl }) (λ p. refl) (λ x. refl) hart.0 access.0 hart.1 access.1 access.2 may.there
    words words r homes frame (IsKeptPage words r homes) st (none_changed words frame) may.lies st.pages (λ p q lies. record {
      recorded = lies.recorded;
      same_words = lies.same_words;
      writes = lies.writes ∙ sym (ap (λ (b : Bool). if b && nat_lt p.writes s.limits.last_writes then p.writes + 1 else p.writes) hart.2.1);
      taken = may.lies.taken ∙ ap is_some may.free;
      live = lies.live;
    })
    )

-- a hart that takes no page gives none back
pub kept_back : (s : FlatState) (h : ℕ) (answer : HartState → HartState) → IsAnswer answer → OfHart s h (λ hart. held_by s h (access_in hart) ≡ None) → change_hart s h answer ≡ give_back (change_hart s h answer) h
kept_back s h answer is_answer none =
    let hart = some_and (slice_get s.harts h) (λ hart. held_by s h (access_in hart) ≡ None) none in
    let after : FlatState = change_hart s h answer in
    let there : slice_get after.harts h ≡ Some (answer hart.0) = get-changed_at s.harts h answer ∙ ap (option_map answer) hart.1 in
    let free : None ≡ held_by after h (access_in (answer hart.0)) = sym (ap (held_by s h) (is_answer.access hart.0) ∙ hart.2) in
    given_none after h (and_some (slice_get after.harts h) (λ x. None ≡ held_by after h (access_in x)) (answer hart.0) there free)

-- it has an answer and ends its try
pub answers_stand_for : AnswersStand
answers_stand_for words r homes s h answer st is_answer none =
    let after : FlatState = change_hart s h answer in
    let same : record s { pages = changed_by number_of s.pages 0 (λ p. p); harts = changed_at after.harts h ended; inside = without s.inside (Hart h) } ≡ leave_hart after h ended = ap (λ (ps : List PageState). record s { pages = ps; harts = changed_at after.harts h ended; inside = without s.inside (Hart h) }) (changed_same s.pages 0) in
    subst (StandsFor words r homes) (same ∙ ap (λ (t : FlatState). leave_hart t h ended) (kept_back s h answer is_answer none)) (
    standing words words r homes s 0 s.limits.frames (λ p. p) (IsKeptPage words r homes) (changed_at after.harts h ended) (without s.inside (Hart h)) st (none_changed words s.limits.frames)
    (λ t e. absurd (let lt : s.limits.frames < s.limits.frames = home_low homes s t s.limits.frames st.housed.separate e in omega arith)) (record { number = λ p. refl; write = λ p. refl; stage = λ p. refl }) st.pages
    (λ p f q e at lies. lies)
    (λ k. changed_ran ended (λ x. refl) after.harts h k ∙ changed_ran answer (λ x. ap (λ (l : Life). (l, (answer x).generation)) (is_answer.life x) ∙ ap (λ (m : ℕ). (x.life, m)) (is_answer.generation x)) s.harts h k)
    )

pub looks_and_misses : LooksAndMissesAnswer
looks_and_misses = record {
  looks = λ s va width value. record { generation = λ hart. refl; life = λ hart. refl; access = λ hart. refl };
  misses = record { generation = λ hart. refl; life = λ hart. refl; access = λ hart. refl };
}
