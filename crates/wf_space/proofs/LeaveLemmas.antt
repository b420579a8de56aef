-- A page of data leaves: what words and records stand for then.
use Rattle.std.proofs.Common.{◌≡◌, ◌≢◌, ◌<◌, ◌≤◌, ◌+◌, ◌*◌, ◌/◌, ◌%◌, ◌^◌, ◌==◌, ◌&&◌, ℕ, zero, suc, List, [], ◌∷◌, Bool, true, false, not, Option, Some, None, length, map, refl, sym, ap, subst, ◌∙◌, inl, inr, arith, is_some, if◌then◌else◌, cond, nat_eq, length-set}
use Rattle.std.specs.Prelude.{IsSomeAnd, MatchOption, nat_lt, option_and_then, slice_get, slice_index, sum_by}
use Rattle.std.specs.Option.{option_map}
use Rattle.std.specs.List.{AllByRecursion, filter}
use Rattle.std.specs.Map.{values_of}
use Rattle.std.specs.Set.{is_member}
use Rattle.std.proofs.lemmas.Bool.{cases_lt}
use Rattle.std.proofs.lemmas.Bool.Decides.{nat_tests}
use Rattle.std.proofs.lemmas.List.Sums.{sum_by-cons}
use Rattle.wf_frames.specs.declared.fields.FrameWord.{FrameWord}
use Rattle.wf_frames.specs.declared.state.Frame.{Frame}
use Rattle.wf_frames.specs.declared.state.FrameState.TheVariants.{Free, Worn}
use Rattle.wf_frames.specs.FrameWords.{fields_of, word_of}
use Rattle.wf_frames.specs.Frames.{changed_at, given}
use Rattle.wf_frames.specs.Layout.{WordsValue, frame_word_place, word_count, word_place}
use Rattle.wf_frames.proofs.FrameLemmas.{length_changed}
use Rattle.wf_views.specs.declared.pages.PageAt.{PageAt}
use Rattle.wf_views.specs.declared.records.Records.{Records}
use Rattle.wf_views.specs.Lists.{found_by, itself, without_by}
use Rattle.wf_views.specs.Pages.{page_number}
use Rattle.wf_views.specs.Records.{left}
use Rattle.wf_views.specs.Views.{ViewValue, forgets, generation_number, view_of}
use Rattle.wf_outside.specs.Pages.{PageValue}
use Rattle.wf_flat.specs.Accesses.{is_ending}
use Rattle.wf_flat.specs.Lists as flat
use Rattle.wf_flat.specs.Memory.{data_in, has_met, met_key}
use Rattle.wf_flat.specs.State.{FlatState, GenState, PageState}
use Rattle.wf_flat.proofs.FoundLemmas.{key_of_found}
use Rattle.wf_effects.specs.Effects.{met_but_page, page_gone}
use Rattle.wf_homes.specs.Homes.{AreSeparate, DataOf, Homes, NodeOf, Tenant, TextOf, home_frame, is_home, is_worn, same_tenant, without_page}
use Rattle.wf_homes.specs.Entries.{SpellsView, data_leaf, entry_for, pointer_to, private_or, shared_leaf}
use Rattle.wf_homes.specs.Kept.{HasMet, HasNoData, HasNodeFor, HasWords, IsKeptFrame, IsKeptPage, IsKeptText, IsKeptView, LiesIn, fields_at, node_frame, record_of, recorded_frame, state_of, text_frame, word_of_frame}
use Rattle.wf_homes.specs.Stands.{StandsFor, living_at}
use Rattle.wf_homes.proofs.FoundLemmas.{some_at, some_more}
use Rattle.wf_homes.proofs.GoneLemmas.{given_up}
use Rattle.wf_homes.proofs.ListLemmas.{all_kept, all_more, one_or_two, true_or_false}
use Rattle.wf_homes.proofs.PlaceLemmas.{home_low, homes_apart, place_past, stored_other, stored_same}
use Rattle.wf_space.proofs.GiveLemmas.{other_state}
use Rattle.wf_space.proofs.LeftLemmas.{apart_between, home_left, only_home, tenant_gone, values_left}
use Rattle.wf_space.proofs.MeetLemmas.{found_each, some_of}
use Rattle.wf_space.specs.Leaving.{IsInLast, LeaveStands, MayGo}
use Rattle.wf_space.specs.Pieces.{without_live}

-- what is found where an element is taken out
module _ {A : Type 0} (key : A → ℕ) where
  pub found_without : (xs : List A) (n q : ℕ) → q ≢ n → found_by key (without_by key xs n) q ≡ found_by key xs q
  found_without [] n q apart = refl
  found_without (x ∷ xs) n q apart = elim (true_or_false (key x == n)) [
    | inl t ↦ (
        let same : key x ≡ n = grind (arith, nat_tests) in
        let u : (key x == q) ≡ false = grind (arith, nat_tests) in
        rw (t, u) (found_without xs n q apart)
        )
    | inr t ↦ (elim (true_or_false (key x == q)) [
      | inl u ↦ (rw (t, u) refl)
      | inr u ↦ (rw (t, u) (found_without xs n q apart))
    ])
  ]

  pub gone_without : (xs : List A) (n : ℕ) → found_by key (without_by key xs n) n ≡ None
  gone_without [] n = refl
  gone_without (x ∷ xs) n = elim (true_or_false (key x == n)) [
    | inl t ↦ (rw t (gone_without xs n))
    | inr t ↦ (rw (t, t) (gone_without xs n))
  ]

  pub found_mapped : (f : A → A) → ((x : A) → key (f x) ≡ key x) → (xs : List A) (n : ℕ) → found_by key (map f xs) n ≡ option_map f (found_by key xs n)
  found_mapped f same [] n = refl
  found_mapped f same (x ∷ xs) n = elim (true_or_false (key x == n)) [
    | inl t ↦ (rw (same x, t) refl)
    | inr t ↦ (rw (same x, t) (found_mapped f same xs n))
  ]

pub data_without : (xs : List PageState) (n q : ℕ) → q ≢ n → data_in (filter (λ p. not (p.number == n)) xs) q ≡ data_in xs q
data_without [] n q apart = refl
data_without (x ∷ xs) n q apart = elim (true_or_false (x.number == n)) [
  | inl t ↦ (
      let same : x.number ≡ n = grind (arith, nat_tests) in
      let u : (x.number == q) ≡ false = grind (arith, nat_tests) in
      rw (t, u) (data_without xs n q apart)
      )
  | inr t ↦ (elim (true_or_false (x.number == q)) [
    | inl u ↦ (rw (t, u) refl)
    | inr u ↦ (rw (t, u) (data_without xs n q apart))
  ])
]

-- what generations have met, but for a page
pub met_none : (met : List (ℕ × ℕ)) (page k : ℕ) → is_some (flat.found_by met_key met k) ≡ false → is_some (flat.found_by met_key (met_but_page met page) k) ≡ false
met_none [] page k e = refl
met_none (x ∷ xs) page k e = elim (true_or_false (met_key x == k)) [
  | inl u ↦ absurd (let w : true ≡ false = rw u at e in cc)
  | inr u ↦ (elim (true_or_false (x.1 == page)) [
    | inl t ↦ (rw t (met_none xs page k (rw u at e)))
    | inr t ↦ (rw (t, u) (met_none xs page k (rw u at e)))
  ])
]

other_key : (a b g q page : ℕ) → b ≡ page → page < 0x4000000 → q < 0x4000000 → q ≢ page → (a * 0x4000000 + b == g * 0x4000000 + q) ≡ false
other_key a b g q page same lp lq apart = elim (true_or_false (a * 0x4000000 + b == g * 0x4000000 + q)) [
  | inl u ↦ absurd (let e : a * 0x4000000 + b ≡ g * 0x4000000 + q = grind (arith, nat_tests) in apart (omega arith))
  | inr u ↦ u
]

pub met_same : (met : List (ℕ × ℕ)) (page g q : ℕ) → page < 0x4000000 → q < 0x4000000 → q ≢ page → has_met (met_but_page met page) g q ≡ has_met met g q
met_same [] page g q lp lq apart = refl
met_same (x ∷ xs) page g q lp lq apart = elim (true_or_false (x.1 == page)) [
  | inl t ↦ (
      let u : (x.0 * 0x4000000 + x.1 == g * 0x4000000 + q) ≡ false = other_key x.0 x.1 g q page (grind (arith, nat_tests)) lp lq apart in
      rw (t, u) (met_same xs page g q lp lq apart)
      )
  | inr t ↦ (elim (true_or_false (x.0 * 0x4000000 + x.1 == g * 0x4000000 + q)) [
    | inl u ↦ (rw (t, u) refl)
    | inr u ↦ (rw (t, u) (met_same xs page g q lp lq apart))
  ])
]

-- one frame changes
frame_here : (fs : List Frame) (i : ℕ) (g : Frame → Frame) (x : Frame) → slice_get fs i ≡ Some x → slice_get (changed_at fs i g) i ≡ Some (g x)
frame_here [] i g x e = absurd cc
frame_here (y ∷ fs) zero g x e = (let k : y ≡ x = cc in ap (λ (z : Frame). Some (g z)) k)
frame_here (y ∷ fs) (suc i) g x e = frame_here fs i g x e

frame_there : (fs : List Frame) (i k : ℕ) (g : Frame → Frame) → k ≢ i → slice_get (changed_at fs i g) k ≡ slice_get fs k
frame_there [] i k g apart = refl
frame_there (y ∷ fs) zero zero g apart = absurd (apart refl)
frame_there (y ∷ fs) zero (suc k) g apart = refl
frame_there (y ∷ fs) (suc i) zero g apart = refl
frame_there (y ∷ fs) (suc i) (suc k) g apart = frame_there fs i k g (λ e. apart (ap suc e))

sum_kept : (fs : List Frame) (i : ℕ) (g : Frame → Frame) → ((x : Frame) → (g x).incarnation ≡ x.incarnation) → sum_by (λ f. f.incarnation) (changed_at fs i g) ≡ sum_by (λ f. f.incarnation) fs
sum_kept [] i g same = refl
sum_kept (y ∷ fs) zero g same =
    sum_by-cons (λ (f : Frame). f.incarnation) (g y) fs ∙ ap (λ (n : ℕ). n + sum_by (λ f. f.incarnation) fs) (same y) ∙ sym (sum_by-cons (λ (f : Frame). f.incarnation) y fs)
sum_kept (y ∷ fs) (suc i) g same =
    sum_by-cons (λ (f : Frame). f.incarnation) y (changed_at fs i g) ∙ ap (λ (n : ℕ). y.incarnation + n) (sum_kept fs i g same) ∙ sym (sum_by-cons (λ (f : Frame). f.incarnation) y fs)

-- the fields of a frame's word whose live bit is cleared
fields_back : (w i : ℕ) (x : FrameWord) → w < 2 ^ 39 → i < 2 ^ 23 → x ≡ record { taken = false; writes = w; inc = i; live = false }
    → ((fields_of (word_of x)).taken ≡ false) × ((fields_of (word_of x)).inc ≡ i) × ((fields_of (word_of x)).live ≡ false)
fields_back w i x lw li e = rw e (grind (arith, nat_tests), omega arith, grind (arith, nat_tests))

is_some_cond : (b : Bool) (o : Option ℕ) → is_some (cond b o None) ≡ (b && is_some o)
is_some_cond true o = refl
is_some_cond false o = refl

given_state : (worn b : Bool) → worn ≡ not b → (if b then Free else Worn) ≡ (if worn then Worn else Free)
given_state worn true e = rw e refl
given_state worn false e = rw e refl

pub both_same : (b : Bool) (n : ℕ) → (if b then n else n) ≡ n
both_same true n = refl
both_same false n = refl

pub data_low : (ps : List PageState) (q : ℕ) → AllByRecursion (λ p. p.number < 0x4000000) ps → 0x4000000 ≤ q → data_in ps q ≡ None
data_low [] q all ge = refl
data_low (p ∷ ps) q all ge = (let lt : p.number < 0x4000000 = all.0 in let f : (p.number == q) ≡ false = grind (arith, nat_tests) in rw f (data_low ps q all.1 ge))

keeps_apart : (n page : ℕ) → not (n == page) ≡ true → n ≢ page
keeps_apart n page e same = absurd (let t : (n == page) ≡ true = grind (arith, nat_tests) in let k : false ≡ true = rw t at e in cc)

module _ (words : WordsValue) (r : Records) (homes : Homes) (s : FlatState) (page f : ℕ) (leaving : PageState) (worn : Bool) (st : StandsFor words r homes s) (may : MayGo homes s page f leaving) (last : IsInLast r f worn) where
  abbrev stored : WordsValue
  stored = without_live words f

  abbrev after_r : Records
  after_r = left false r (record_of leaving f)

  abbrev after_h : Homes
  after_h = without_page homes page worn

  abbrev after_s : FlatState
  after_s = page_gone s page worn

  number : leaving.number ≡ page
  number = key_of_found (λ (q : PageState). q.number) s.pages page leaving may.there

  page_low : page < 0x4000000
  page_low = (let lt : leaving.number < 0x4000000 = found_each (λ (q : PageState). q.number < 0x4000000) s.pages page leaving may.low may.there in rw number at lt)

  lies : LiesIn words r leaving f
  lies = some_at_home (home_frame homes (DataOf leaving.number)) (ap (λ (n : ℕ). home_frame homes (DataOf n)) number ∙ may.home) (found_each (IsKeptPage words r homes) s.pages page leaving st.pages may.there)
    where
      some_at_home : (o : Option ℕ) → o ≡ Some f → IsSomeAnd o (LiesIn words r leaving) → LiesIn words r leaving f
      some_at_home o e h = (let k : IsSomeAnd (Some f) (LiesIn words r leaving) = subst (λ (p : Option ℕ). IsSomeAnd p (LiesIn words r leaving)) e h in k)

  pub not_held : (fields_at words f).taken ≡ false
  not_held = lies.taken ∙ ap is_some may.free

  f_low : f < s.limits.frames
  f_low = home_low homes s (DataOf page) f st.housed.separate may.home

  word_low : frame_word_place f < length words.items
  word_low =
      let a : length words.items ≡ word_count s.limits.frames = st.sizes.whole in
      let lt : f < s.limits.frames = f_low in
      omega arith

  abbrev cleared : FrameWord
  cleared = record (fields_at words f) { live = false }

  fields_here : ((fields_at stored f).taken ≡ false) × ((fields_at stored f).inc ≡ (fields_at words f).inc) × ((fields_at stored f).live ≡ false)
  fields_here =
      let w : ℕ = slice_index words.items (frame_word_place f) in
      let e : cleared ≡ record { taken = false; writes = w / 2 ^ 1 % 2 ^ 39; inc = w / 2 ^ 40 % 2 ^ 23; live = false } =
      ap (λ (b : Bool). let y : FrameWord = record { taken = b; writes = w / 2 ^ 1 % 2 ^ 39; inc = w / 2 ^ 40 % 2 ^ 23; live = false } in y) not_held in
      subst (λ (k : ℕ). ((fields_of k).taken ≡ false) × ((fields_of k).inc ≡ (fields_at words f).inc) × ((fields_of k).live ≡ false))
      (sym (stored_same words.items (frame_word_place f) (word_of cleared) word_low))
      (fields_back (w / 2 ^ 1 % 2 ^ 39) (w / 2 ^ 40 % 2 ^ 23) cleared (omega arith) (omega arith) e)

  frame_word_same : (fr : ℕ) → fr ≢ f → slice_index stored.items (frame_word_place fr) ≡ slice_index words.items (frame_word_place fr)
  frame_word_same fr apart = stored_other words.items (frame_word_place f) (frame_word_place fr) (word_of cleared) (λ e. apart (omega arith))

  word_same : (fr i : ℕ) → word_of_frame stored fr i ≡ word_of_frame words fr i
  word_same fr i =
      let same : words.frames ≡ s.limits.frames = st.sizes.of_words in
      let lt : f < s.limits.frames = f_low in
      stored_other words.items (frame_word_place f) (word_place words.frames fr i) (word_of cleared) (λ e. place_past words.frames f fr i (omega arith) (sym e))

  -- incarnations stay
  pub inc_left : (fr : ℕ) → (fields_at stored fr).inc ≡ (fields_at words fr).inc
  inc_left fr = elim (one_or_two fr f) [
    | inl same ↦ rw same fields_here.1
    | inr apart ↦ ap (λ (w : ℕ). (fields_of w).inc) (frame_word_same fr apart)
  ]

  -- homes
  home_of : (t : Tenant) → same_tenant (DataOf page) t ≡ false → home_frame after_h t ≡ home_frame homes t
  home_of t e = home_left homes page worn t ∙ rw e refl

  data_other : (n : ℕ) → n ≢ page → home_frame after_h (DataOf n) ≡ home_frame homes (DataOf n)
  data_other n apart = home_of (DataOf n) (let u : (page == n) ≡ false = grind (arith, nat_tests) in u)

  data_here : home_frame after_h (DataOf page) ≡ None
  data_here = home_left homes page worn (DataOf page) ∙ (let u : (page == page) ≡ true = grind (arith, nat_tests) in rw u refl)

  pages_apart : (n fr : ℕ) → n ≢ page → home_frame homes (DataOf n) ≡ Some fr → fr ≢ f
  pages_apart n fr apart e same =
      let two : DataOf n ≡ DataOf page = homes_apart homes s (DataOf n) (DataOf page) f st.housed.separate (rw same at e) may.home in
      apart cc

  -- pages
  page_kept : (p : PageState) → not (p.number == page) ≡ true → IsKeptPage words r homes p → IsKeptPage stored after_r after_h p
  page_kept p keeps kept =
      let apart : p.number ≢ page = keeps_apart p.number page keeps in
      rw (data_other p.number apart) (some_more (home_frame homes (DataOf p.number)) (LiesIn words r p) (LiesIn stored after_r p) (λ fr e there. (
      let w : slice_index stored.items (frame_word_place fr) ≡ slice_index words.items (frame_word_place fr) = frame_word_same fr (pages_apart p.number fr apart e) in
      record {
        recorded = found_without page_number r.pages.items leaving.number p.number (λ same. apart (same ∙ number)) ∙ there.recorded;
        same_words = λ i lt. word_same fr i ∙ there.same_words i lt;
        writes = rw w there.writes;
        taken = rw w there.taken;
        live = rw w there.live;
      }
      )) kept)

  -- frames
  busy_apart : (is_member nat_eq (values_of (filter (λ home. not (same_tenant (DataOf page) home.0)) homes.homes)) f ≡ false) × (is_worn homes f ≡ false)
  busy_apart =
      let separate : AreSeparate (without_page homes page true) (page_gone s page true) = given_up homes s (page_gone s page true) page true st.housed.separate (ap is_some may.home) refl refl in
      apart_between (values_of (filter (λ home. not (same_tenant (DataOf page) home.0)) homes.homes)) homes.worn f (rw may.home at separate.apart)

  worn_here : (b : Bool) → is_worn (without_page homes page b) f ≡ b
  worn_here true = (let t : nat_eq f f ≡ true = grind (arith, nat_tests) in rw may.home (rw t refl))
  worn_here false = busy_apart.1

  worn_other : (b : Bool) (fr : ℕ) → fr ≢ f → is_worn (without_page homes page b) fr ≡ is_worn homes fr
  worn_other true fr apart = (let t : nat_eq fr f ≡ false = grind (arith, nat_tests) in rw may.home (rw t refl))
  worn_other false fr apart = refl

  home_other : (fr : ℕ) → fr ≢ f → is_home after_h fr ≡ is_home homes fr
  home_other fr apart = values_left (DataOf page) homes.homes f fr (only_home (DataOf page) homes.homes f st.housed.separate.once may.home) apart

  state_other : (fr : ℕ) → fr ≢ f → state_of after_h fr ≡ state_of homes fr
  state_other fr apart = rw (home_other fr apart, worn_other worn fr apart) refl

  frame_of_page : IsKeptFrame words r homes s.births f → IsKeptFrame stored after_r after_h s.births f
  frame_of_page kept =
      let x = some_of (slice_get r.frames.frames f) (λ (y : Frame). worn ≡ not (nat_lt y.incarnation r.frames.last_birth)) last in
      let here : slice_get after_r.frames.frames f ≡ Some (given r.frames.last_birth x.0) = frame_here r.frames.frames f (given r.frames.last_birth) x.0 x.1 in
      let inc : x.0.incarnation ≡ (fields_at words f).inc = at_frame (slice_get r.frames.frames f) x.0 x.1 kept.incarnation in
      let few : (fields_at words f).inc ≤ s.births = kept.few in
      record {
        state = some_at (slice_get after_r.frames.frames f) (λ (y : Frame). y.state ≡ state_of after_h f) (given r.frames.last_birth x.0) here
            (given_state worn (nat_lt x.0.incarnation r.frames.last_birth) x.2 ∙ rw (busy_apart.0, worn_here worn) refl);
        incarnation = some_at (slice_get after_r.frames.frames f) (λ (y : Frame). y.incarnation ≡ (fields_at stored f).inc) (given r.frames.last_birth x.0) here (inc ∙ sym fields_here.1);
        few = rw fields_here.1 few;
        not_live = λ none. fields_here.2;
        not_taken = λ none. fields_here.0;
      }
    where
      at_frame : (o : Option Frame) (y : Frame) → o ≡ Some y → IsSomeAnd o (λ z. z.incarnation ≡ (fields_at words f).inc) → y.incarnation ≡ (fields_at words f).inc
      at_frame o y e h = (let k : IsSomeAnd (Some y) (λ z. z.incarnation ≡ (fields_at words f).inc) = subst (λ (p : Option Frame). IsSomeAnd p (λ z. z.incarnation ≡ (fields_at words f).inc)) e h in k)

  frame_other : (fr : ℕ) → fr ≢ f → IsKeptFrame words r homes s.births fr → IsKeptFrame stored after_r after_h s.births fr
  frame_other fr apart kept =
      let w : slice_index stored.items (frame_word_place fr) ≡ slice_index words.items (frame_word_place fr) = frame_word_same fr apart in
      let none_before : HasNoData after_h fr → HasNoData homes fr = (λ none n e. (elim (one_or_two n page) [
        | inl same ↦ (let k : Some f ≡ Some fr = sym may.home ∙ (rw same at e) in apart cc)
        | inr other ↦ none n (data_other n other ∙ e)
      ])) in
      record {
        state = other_state r.frames.frames f fr (given r.frames.last_birth) (state_of after_h fr) (λ same. apart (sym same)) (rw (state_other fr apart) kept.state);
        incarnation = rw (frame_there r.frames.frames f fr (given r.frames.last_birth) apart, w) kept.incarnation;
        few = rw w kept.few;
        not_live = λ none. rw w (kept.not_live (none_before none));
        not_taken = λ none. rw w (kept.not_taken (none_before none));
      }

  frame_kept : (fr : ℕ) → fr < s.limits.frames → IsKeptFrame stored after_r after_h s.births fr
  frame_kept fr lt = elim (one_or_two fr f) [
    | inl same ↦ rw same (frame_of_page (st.frames f f_low))
    | inr apart ↦ frame_other fr apart (st.frames fr lt)
  ]

  -- what generations have met
  unmet_after : (g : ℕ) → has_met after_s.met g page ≡ false
  unmet_after g = met_none s.met page (g * 0x4000000 + page) (may.unmet g)

  met_after : (g q : ℕ) → q < 0x4000000 → has_met after_s.met g q ≡ has_met s.met g q
  met_after g q lt = elim (one_or_two q page) [
    | inl same ↦ rw same (unmet_after g ∙ sym (may.unmet g))
    | inr apart ↦ met_same s.met page g q page_low lt apart
  ]

  shared_after : (g q : ℕ) → shared_leaf after_h after_s g q ≡ shared_leaf homes s g q
  shared_after g q = elim (cases_lt q 0x4000000) [
    | inl lt ↦ (elim (one_or_two q page) [
      | inl same ↦ (
          let a : has_met after_s.met g page ≡ false = unmet_after g in
          let b : has_met s.met g page ≡ false = may.unmet g in
          rw (same, a, b) refl
          )
      | inr apart ↦ (
          let m : has_met after_s.met g q ≡ has_met s.met g q = met_after g q lt in
          let d : data_in after_s.pages q ≡ data_in s.pages q = data_without s.pages page q apart in
          rw (m, d) (ap (λ (n : ℕ). if has_met s.met g q then n else 0) (by_data (data_in s.pages q) refl apart))
          )
    ])
    | inr ge ↦ (
        let a : data_in s.pages q ≡ None = data_low s.pages q may.low ge in
        let b : data_in after_s.pages q ≡ None = data_low after_s.pages q (all_kept (λ p. not (p.number == page)) (λ p. p.number < 0x4000000) (λ p. p.number < 0x4000000) (λ p k lt. lt) s.pages may.low) ge in
        rw (a, b) (both_same (has_met after_s.met g q) 0 ∙ sym (both_same (has_met s.met g q) 0))
        )
  ]
    where
      by_data : (o : Option PageState) → data_in s.pages q ≡ o → q ≢ page → data_leaf after_h o ≡ data_leaf homes o
      by_data None e apart = refl
      by_data (Some p) e apart =
          let n : p.number ≡ q = key_of_found (λ (x : PageState). x.number) s.pages q p e in
          let h : home_frame after_h (DataOf p.number) ≡ home_frame homes (DataOf p.number) = data_other p.number (λ same. apart (sym n ∙ same)) in
          rw h refl

  leaf_same : (k q : ℕ) → entry_for homes s k 0 q ≡ entry_for after_h after_s k 0 q
  leaf_same k q =
      ap (λ (o : Option ℕ). private_or o (shared_leaf homes s k q)) (sym (home_of (TextOf k q) refl))
      ∙ ap (private_or (home_frame after_h (TextOf k q))) (sym (shared_after k q))

  pointer_same : (k level q : ℕ) → entry_for homes s k (suc level) q ≡ entry_for after_h after_s k (suc level) q
  pointer_same k level q = ap pointer_to (sym (home_of (NodeOf k level q) refl))

  spelled_kept : (k : ℕ) → SpellsView words homes s k → SpellsView stored after_h after_s k
  spelled_kept k spells zero prefix fr e i lt =
      let there : home_frame homes (NodeOf k 0 prefix) ≡ Some fr = sym (home_of (NodeOf k 0 prefix) refl) ∙ e in
      word_same fr i ∙ spells zero prefix fr there i lt ∙ leaf_same k (prefix * 512 + i)
  spelled_kept k spells (suc level) prefix fr e i lt =
      let there : home_frame homes (NodeOf k (suc level) prefix) ≡ Some fr = sym (home_of (NodeOf k (suc level) prefix) refl) ∙ e in
      word_same fr i ∙ spells (suc level) prefix fr there i lt ∙ pointer_same k level (prefix * 512 + i)

  -- views
  node_kept : (g n : ℕ) → HasNodeFor homes g n → HasNodeFor after_h g n
  node_kept g n has = rw (home_of (NodeOf g 0 (n / 512)) refl) has

  text_kept : (k : ℕ) (p : PageValue) → IsKeptText words homes k p → IsKeptText stored after_h k p
  text_kept k p kept = rw (home_of (TextOf k p.number) refl) (some_more (home_frame homes (TextOf k p.number)) (λ fr. HasWords words fr p.words) (λ fr. HasWords stored fr p.words) (λ fr e has. λ i lt. word_same fr i ∙ has i lt) kept)

  met_kept : (v : ViewValue) → HasMet v s → HasMet (forgets leaving.number v) after_s
  met_kept v has = record {
    same = λ q lt. (elim (one_or_two q page) [
      | inl same ↦ (
          let gone : found_by itself (without_by itself v.met.items leaving.number) q ≡ None = rw (same, number) (gone_without itself v.met.items page) in
          rw gone (sym (rw same (unmet_after v.generation)))
          )
      | inr apart ↦ (
          let stays : found_by itself (without_by itself v.met.items leaving.number) q ≡ found_by itself v.met.items q = found_without itself v.met.items leaving.number q (λ e. apart (e ∙ number)) in
          ap is_some stays ∙ has.same q lt ∙ sym (met_after v.generation q lt)
          )
    ]);
    low = all_kept (λ n. not (n == leaving.number)) (λ n. n < 0x4000000) (λ n. n < 0x4000000) (λ n k lt. lt) v.met.items has.low;
  }

  view_kept : (gen : GenState) (v : ViewValue) → IsKeptView words homes s gen v → IsKeptView stored after_h after_s gen (forgets leaving.number v)
  view_kept gen v kept = record {
    generation = kept.generation;
    parent = kept.parent;
    patches = kept.patches;
    jumps = kept.jumps;
    reach = kept.reach;
    root = home_of (NodeOf gen.number 2 0) refl ∙ kept.root;
    pages = kept.pages;
    nodes = kept.nodes;
    met = met_kept v kept.met;
    residents = kept.residents;
    text = all_more (IsKeptText words homes gen.number) (IsKeptText stored after_h gen.number) (text_kept gen.number) gen.text kept.text;
    leaves = record {
      text = all_more (HasNodeFor homes gen.number) (HasNodeFor after_h gen.number) (node_kept gen.number) (map (λ (p : PageValue). p.number) gen.text) kept.leaves.text;
      pages = all_kept (λ p. not (p.number == page)) (λ p. is_ending p.stage ≡ false → HasNodeFor homes gen.number p.number) (λ p. is_ending p.stage ≡ false → HasNodeFor after_h gen.number p.number)
          (λ p k has e. node_kept gen.number p.number (has e)) s.pages kept.leaves.pages;
    };
    spelled = spelled_kept gen.number kept.spelled;
  }

  view_after : (k : ℕ) → view_of after_r.views k ≡ option_map (forgets leaving.number) (view_of r.views k)
  view_after k = found_mapped generation_number (forgets leaving.number) (λ v. refl) r.views.views k

  views_kept : (k : ℕ) → MatchOption (living_at after_s k) (view_of after_r.views k ≡ None) (λ gen. IsSomeAnd (view_of after_r.views k) (IsKeptView stored after_h after_s gen))
  views_kept k = by_living (living_at s k) (st.views k)
    where
      by_living : (o : Option GenState) → MatchOption o (view_of r.views k ≡ None) (λ gen. IsSomeAnd (view_of r.views k) (IsKeptView words homes s gen))
          → MatchOption o (view_of after_r.views k ≡ None) (λ gen. IsSomeAnd (view_of after_r.views k) (IsKeptView stored after_h after_s gen))
      by_living None e = view_after k ∙ rw e refl
      by_living (Some gen) kept = rw (view_after k) (by_view (view_of r.views k) kept)
        where
          by_view : (o : Option ViewValue) → IsSomeAnd o (IsKeptView words homes s gen) → IsSomeAnd (option_map (forgets leaving.number) o) (IsKeptView stored after_h after_s gen)
          by_view None h = h
          by_view (Some v) h = view_kept gen v h

  -- where the records keep tenants
  home_kept : (t : Tenant) → recorded_frame after_r t ≡ home_frame after_h t
  home_kept (TextOf k n) = (let same : recorded_frame after_r (TextOf k n) ≡ recorded_frame r (TextOf k n) = rw (view_after k) (by_view (view_of r.views k)) in same ∙ st.at_home (TextOf k n) ∙ sym (home_of (TextOf k n) refl))
    where
      by_view : (o : Option ViewValue) → option_and_then (λ v. text_frame v n) (option_map (forgets leaving.number) o) ≡ option_and_then (λ v. text_frame v n) o
      by_view None = refl
      by_view (Some v) = refl
  home_kept (NodeOf k level prefix) = (let same : recorded_frame after_r (NodeOf k level prefix) ≡ recorded_frame r (NodeOf k level prefix) = rw (view_after k) (by_view (view_of r.views k)) in same ∙ st.at_home (NodeOf k level prefix) ∙ sym (home_of (NodeOf k level prefix) refl))
    where
      by_view : (o : Option ViewValue) → option_and_then (λ v. node_frame v level prefix) (option_map (forgets leaving.number) o) ≡ option_and_then (λ v. node_frame v level prefix) o
      by_view None = refl
      by_view (Some v) = refl
  home_kept (DataOf n) = elim (one_or_two n page) [
    | inl same ↦ (
        let gone : found_by page_number (without_by page_number r.pages.items leaving.number) n ≡ None = rw (same, number) (gone_without page_number r.pages.items page) in
        let none : home_frame after_h (DataOf n) ≡ None = rw same data_here in
        rw gone (sym none)
        )
    | inr apart ↦ (
        let stays : found_by page_number (without_by page_number r.pages.items leaving.number) n ≡ found_by page_number r.pages.items n = found_without page_number r.pages.items leaving.number n (λ e. apart (e ∙ number)) in
        ap (option_map (λ (p : PageAt). p.frame)) stays ∙ st.at_home (DataOf n) ∙ sym (data_other n apart)
        )
  ]

  pub gone_standing : StandsFor stored after_r after_h after_s
  gone_standing = record {
    sizes = record {
      of_records = st.sizes.of_records;
      of_words = st.sizes.of_words;
      whole = length-set words.items (frame_word_place f) (word_of cleared) ∙ st.sizes.whole;
      of_frames = length_changed r.frames.frames f (given r.frames.last_birth) ∙ st.sizes.of_frames;
      last_birth = st.sizes.last_birth;
    };
    zero_word = stored_other words.items (frame_word_place f) 0 (word_of cleared) (λ e. absurd (omega arith)) ∙ st.zero_word;
    housed = record {
      separate = given_up homes s after_s page worn st.housed.separate (ap is_some may.home) refl refl;
      each = λ t. ap is_some (home_left homes page worn t) ∙ is_some_cond (not (same_tenant (DataOf page) t)) (home_frame homes t) ∙ ap (λ (b : Bool). not (same_tenant (DataOf page) t) && b) (st.housed.each t) ∙ sym (tenant_gone s page worn t);
    };
    at_home = home_kept;
    pages = all_kept (λ p. not (p.number == page)) (IsKeptPage words r homes) (IsKeptPage stored after_r after_h) page_kept s.pages st.pages;
    frames = frame_kept;
    views = views_kept;
    born = st.born;
    last = st.last;
    births = st.births;
    raised = rw (sum_kept r.frames.frames f (given r.frames.last_birth) (λ x. refl)) st.raised;
  }

pub leave_standing : LeaveStands
leave_standing words r homes s page f leaving worn st may last =
    subst (λ (b : Bool). StandsFor (without_live words f) (left b r (record_of leaving f)) (without_page homes page worn) (page_gone s page worn)) (sym (not_held words r homes s page f leaving worn st may last))
    (gone_standing words r homes s page f leaving worn st may last)
