-- A generation meets a page of data: what words and records stand for then.
use Rattle.std.proofs.Common.{◌≡◌, ◌≢◌, ◌<◌, ◌≤◌, ◌+◌, ◌*◌, ◌/◌, ◌%◌, ◌==◌, ◌||◌, ℕ, zero, suc, List, [], ◌∷◌, Bool, true, false, Option, Some, None, length, map, refl, sym, ap, ◌∙◌, inl, inr, arith, is_some, if◌then◌else◌, length-set}
use Rattle.std.specs.Prelude.{IsSomeAnd, MatchOption, nat_lt, option_and_then, slice_get, slice_index}
use Rattle.std.specs.Option.{option_map}
use Rattle.std.specs.List.{AllByRecursion}
use Rattle.std.proofs.lemmas.Bool.{cases_lt}
use Rattle.std.proofs.lemmas.Bool.Decides.{nat_tests}
use Rattle.wf_frames.specs.Layout.{WordsValue, frame_word_place, word_count, word_place}
use Rattle.wf_views.specs.declared.records.Records.{Records}
use Rattle.wf_views.specs.Lists.{RoomyValue, has_number, inserted_by, itself, number_added}
use Rattle.wf_views.specs.Views.{ViewValue, generation_number, view_of, with_page_met, with_view}
use Rattle.wf_outside.specs.Pages.{PageValue}
use Rattle.wf_flat.specs.declared.state.Life.TheVariants.{Running}
use Rattle.wf_flat.specs.State.{FlatState, GenState, HartState, PageState}
use Rattle.wf_flat.specs.Changes.{noted_in, page_met}
use Rattle.wf_flat.specs.Lists.{others_changed}
use Rattle.wf_flat.specs.Lists as flat
use Rattle.wf_flat.specs.Memory.{data_in, has_met, met_key, with_met}
use Rattle.wf_homes.specs.Homes.{DataOf, Homes, NodeOf, Tenant, TextOf, home_frame}
use Rattle.wf_homes.specs.Entries.{SpellsView, data_leaf, entry_for, private_or, shared_leaf}
use Rattle.wf_homes.specs.Kept.{HasMet, HasResidents, HasWords, IsKeptFrame, IsKeptPage, IsKeptText, IsKeptView, LiesIn, node_frame, recorded_frame, text_frame, with_word, word_of_frame}
use Rattle.wf_homes.specs.Stands.{StandsFor, living_at}
use Rattle.wf_homes.specs.Laws.{MayMeet, SyncStands}
use Rattle.wf_homes.proofs.FoundLemmas.{found_changed, found_inserted, some_more}
use Rattle.wf_homes.proofs.ListLemmas.{all_more, one_or_two, true_or_false}
use Rattle.wf_homes.proofs.PlaceLemmas.{home_low, homes_apart, place_low, place_past, place_tells, stored_other, stored_same}

-- a number among numbers, with one more
added_has : (n m : ℕ) (l : RoomyValue ℕ) → has_number (number_added n l).items m ≡ ((n == m) || has_number l.items m)
added_has n m l = elim (true_or_false (has_number l.items n)) [
  | inl t ↦ (rw t (elim (true_or_false (n == m)) [
    | inl u ↦ (let same : n ≡ m = grind (arith, nat_tests) in rw u (rw same at t))
    | inr u ↦ (rw u refl)
  ]))
  | inr t ↦ (rw t (found_inserted itself n l.items m))
]

all_inserted : (P : ℕ → Type 0) (n : ℕ) (ms : List ℕ) → P n → AllByRecursion P ms → AllByRecursion P (inserted_by itself n ms)
all_inserted P n [] h all = (h, tt)
all_inserted P n (m ∷ ms) h all = elim (true_or_false (nat_lt m n)) [
  | inl t ↦ (rw t (all.0, all_inserted P n ms h all.1))
  | inr t ↦ (rw t (h, all))
]

all_added : (P : ℕ → Type 0) (n : ℕ) (l : RoomyValue ℕ) → P n → AllByRecursion P l.items → AllByRecursion P (number_added n l).items
all_added P n l h all = elim (true_or_false (has_number l.items n)) [
  | inl t ↦ (rw t all)
  | inr t ↦ (rw t (all_inserted P n l.items h all))
]

-- what a generation has met, with one more
found_in_flat : (x : ℕ × ℕ) (xs : List (ℕ × ℕ)) (n : ℕ) → is_some (flat.found_by met_key (flat.inserted_by met_key x xs) n) ≡ ((met_key x == n) || is_some (flat.found_by met_key xs n))
found_in_flat x [] n = elim (true_or_false (met_key x == n)) [
  | inl t ↦ (rw t refl)
  | inr t ↦ (rw t refl)
]
found_in_flat x (y ∷ ys) n = elim (true_or_false (nat_lt (met_key y) (met_key x))) [
  | inl t ↦ (rw t (elim (true_or_false (met_key y == n)) [
    | inl u ↦ (rw u (sym (or_true (met_key x == n))))
    | inr u ↦ (rw u (found_in_flat x ys n))
  ]))
  | inr t ↦ (rw t (elim (true_or_false (met_key x == n)) [
    | inl u ↦ (rw u refl)
    | inr u ↦ (rw u refl)
  ]))
]
  where
    or_true : (b : Bool) → (b || true) ≡ true
    or_true true = refl
    or_true false = refl

met_more : (met : List (ℕ × ℕ)) (g page h q : ℕ) → has_met (with_met met g page) h q ≡ ((g * 0x4000000 + page == h * 0x4000000 + q) || has_met met h q)
met_more met g page h q = found_in_flat (g, page) met (h * 0x4000000 + q)

-- what holds of a hart exactly where it does of what becomes of it, where others change
module _ (f : HartState → HartState) (Q : HartState → Type 0) where
  mapped_back : ((x : HartState) → Q (f x) → Q x) → (xs : List HartState) (i : ℕ) → IsSomeAnd (slice_get (map f xs) i) Q → IsSomeAnd (slice_get xs i) Q
  mapped_back back [] i h = h
  mapped_back back (x ∷ xs) zero h = back x h
  mapped_back back (x ∷ xs) (suc i) h = mapped_back back xs i h

  others_back : ((x : HartState) → Q (f x) → Q x) → (xs : List HartState) (o i : ℕ) → IsSomeAnd (slice_get (others_changed xs o f) i) Q → IsSomeAnd (slice_get xs i) Q
  others_back back [] o i h = h
  others_back back (x ∷ xs) zero zero h = h
  others_back back (x ∷ xs) zero (suc i) h = mapped_back back xs i h
  others_back back (x ∷ xs) (suc o) zero h = back x h
  others_back back (x ∷ xs) (suc o) (suc i) h = others_back back xs o i h

  mapped_on : ((x : HartState) → Q x → Q (f x)) → (xs : List HartState) (i : ℕ) → IsSomeAnd (slice_get xs i) Q → IsSomeAnd (slice_get (map f xs) i) Q
  mapped_on on [] i h = h
  mapped_on on (x ∷ xs) zero h = on x h
  mapped_on on (x ∷ xs) (suc i) h = mapped_on on xs i h

  others_on : ((x : HartState) → Q x → Q (f x)) → (xs : List HartState) (o i : ℕ) → IsSomeAnd (slice_get xs i) Q → IsSomeAnd (slice_get (others_changed xs o f) i) Q
  others_on on [] o i h = h
  others_on on (x ∷ xs) zero zero h = h
  others_on on (x ∷ xs) zero (suc i) h = mapped_on on xs i h
  others_on on (x ∷ xs) (suc o) zero h = on x h
  others_on on (x ∷ xs) (suc o) (suc i) h = others_on on xs o i h

noted_same : (P : HartState → Type 0) → ((x : HartState) (moved : List ℕ) → P x → P (record x { moved = moved })) → (g page : ℕ) (x : HartState) → P x → P (noted_in g page x)
noted_same P keeps g page x h = elim (true_or_false (x.generation == g)) [
  | inl t ↦ (rw t (elim (true_or_false (is_some x.fetched)) [
    | inl u ↦ (rw u (keeps x _ h))
    | inr u ↦ (rw u h)
  ]))
  | inr t ↦ (rw t h)
]

noted_life : (g page : ℕ) (x : HartState) → (noted_in g page x).life ≡ x.life
noted_life g page x = noted_same (λ y. y.life ≡ x.life) (λ y moved e. e) g page x refl

noted_generation : (g page : ℕ) (x : HartState) → (noted_in g page x).generation ≡ x.generation
noted_generation g page x = noted_same (λ y. y.generation ≡ x.generation) (λ y moved e. e) g page x refl

module _ (words : WordsValue) (r : Records) (homes : Homes) (s : FlatState) (h g page node : ℕ) (met : PageState) (st : StandsFor words r homes s) (may : MayMeet homes s g page node met) where
  abbrev frames : ℕ
  frames = words.frames

  abbrev at : ℕ
  at = word_place frames node (page % 512)

  abbrev value : ℕ
  value = data_leaf homes (Some met)

  abbrev stored : WordsValue
  stored = with_word words at value

  abbrev after_r : Records
  after_r = record r { views = with_view r.views g (with_page_met page) }

  abbrev after_s : FlatState
  after_s = page_met s h g page

  node_low : node < frames
  node_low =
      let lt : node < s.limits.frames = home_low homes s (NodeOf g 0 (page / 512)) node st.housed.separate may.node_at in
      let e : words.frames ≡ s.limits.frames = st.sizes.of_words in
      omega arith

  at_low : at < length words.items
  at_low =
      let a : length words.items ≡ word_count s.limits.frames = st.sizes.whole in
      let e : words.frames ≡ s.limits.frames = st.sizes.of_words in
      let lt : at < word_count frames = place_low frames node (page % 512) node_low (omega arith) in
      rw (a, ← e) lt

  same_frame_word : (f : ℕ) → f < s.limits.frames → slice_index stored.items (frame_word_place f) ≡ slice_index words.items (frame_word_place f)
  same_frame_word f lt =
      let e : words.frames ≡ s.limits.frames = st.sizes.of_words in
      stored_other words.items at (frame_word_place f) value (place_past frames f node (page % 512) (omega arith))

  same_word : (f i : ℕ) → f ≢ node → i < 512 → word_of_frame stored f i ≡ word_of_frame words f i
  same_word f i apart lt = stored_other words.items at (word_place frames f i) value (λ e. apart (place_tells frames f node i (page % 512) lt (omega arith) e).0)

  text_apart : (k n f : ℕ) → home_frame homes (TextOf k n) ≡ Some f → f ≢ node
  text_apart k n f e same =
      let two : TextOf k n ≡ NodeOf g 0 (page / 512) = homes_apart homes s (TextOf k n) (NodeOf g 0 (page / 512)) node st.housed.separate (rw same at e) may.node_at in absurd cc

  data_apart : (n f : ℕ) → home_frame homes (DataOf n) ≡ Some f → f ≢ node
  data_apart n f e same =
      let two : DataOf n ≡ NodeOf g 0 (page / 512) = homes_apart homes s (DataOf n) (NodeOf g 0 (page / 512)) node st.housed.separate (rw same at e) may.node_at in absurd cc

  page_kept : (p : PageState) → IsKeptPage words r homes p → IsKeptPage stored after_r homes p
  page_kept p kept = some_more (home_frame homes (DataOf p.number)) (LiesIn words r p) (LiesIn stored after_r p) (λ f e lies. (
      let w : slice_index stored.items (frame_word_place f) ≡ slice_index words.items (frame_word_place f) = same_frame_word f (home_low homes s (DataOf p.number) f st.housed.separate e) in
      record {
        recorded = lies.recorded;
        same_words = λ i lt. same_word f i (data_apart p.number f e) lt ∙ lies.same_words i lt;
        writes = rw w lies.writes;
        taken = rw w lies.taken;
        live = rw w lies.live;
      }
      )) kept

  frame_kept : (f : ℕ) → f < s.limits.frames → IsKeptFrame words r homes s.births f → IsKeptFrame stored after_r homes s.births f
  frame_kept f lt kept =
      let w : slice_index stored.items (frame_word_place f) ≡ slice_index words.items (frame_word_place f) = same_frame_word f lt in
      record {
        state = kept.state;
        incarnation = rw w kept.incarnation;
        few = rw w kept.few;
        not_live = λ none. rw w (kept.not_live none);
        not_taken = λ none. rw w (kept.not_taken none);
      }

  text_kept : (k : ℕ) (p : PageValue) → IsKeptText words homes k p → IsKeptText stored homes k p
  text_kept k p kept = some_more (home_frame homes (TextOf k p.number)) (λ f. HasWords words f p.words) (λ f. HasWords stored f p.words) (λ f e has. λ i lt. same_word f i (text_apart k p.number f e) lt ∙ has i lt) kept

  -- the entries for other pages stay
  data_low : (q : ℕ) → 0x4000000 ≤ q → data_in s.pages q ≡ None
  data_low q ge = none_low s.pages may.low
    where
      none_low : (ps : List PageState) → AllByRecursion (λ p. p.number < 0x4000000) ps → data_in ps q ≡ None
      none_low [] all = refl
      none_low (p ∷ ps) all = (let lt : p.number < 0x4000000 = all.0 in let f : (p.number == q) ≡ false = grind (arith, nat_tests) in rw f (none_low ps all.1))

  page_low : page < 0x4000000
  page_low = elim (cases_lt page 0x4000000) [
    | inl lt ↦ lt
    | inr ge ↦ absurd (let n : data_in s.pages page ≡ None = data_low page ge in let t : data_in s.pages page ≡ Some met = may.there in cc)
  ]

  shared_other : (k q : ℕ) → ((k ≡ g) → (q ≡ page) → ⊥) → shared_leaf homes after_s k q ≡ shared_leaf homes s k q
  shared_other k q apart = elim (cases_lt q 0x4000000) [
    | inl lt ↦ (
        let low : page < 0x4000000 = page_low in
        let f : (g * 0x4000000 + page == k * 0x4000000 + q) ≡ false = elim (true_or_false (g * 0x4000000 + page == k * 0x4000000 + q)) [
          | inl u ↦ absurd (let e : g * 0x4000000 + page ≡ k * 0x4000000 + q = grind (arith, nat_tests) in apart (omega arith) (omega arith))
          | inr u ↦ u
        ] in
        let same : has_met after_s.met k q ≡ has_met s.met k q = met_more s.met g page k q ∙ rw f refl in
        rw same refl
        )
    | inr ge ↦ (
        let none : data_in s.pages q ≡ None = data_low q ge in
        rw none (both_same (has_met after_s.met k q) 0 ∙ sym (both_same (has_met s.met k q) 0))
        )
  ]
    where
      both_same : (b : Bool) (n : ℕ) → (if b then n else n) ≡ n
      both_same true n = refl
      both_same false n = refl

  shared_here : shared_leaf homes after_s g page ≡ value
  shared_here =
      let t : (g * 0x4000000 + page == g * 0x4000000 + page) ≡ true = grind (arith, nat_tests) in
      let yes : has_met after_s.met g page ≡ true = met_more s.met g page g page ∙ rw t refl in
      rw (yes, may.there) refl

  entry_other : (k q : ℕ) → ((k ≡ g) → (q ≡ page) → ⊥) → entry_for homes s k 0 q ≡ entry_for homes after_s k 0 q
  entry_other k q apart = ap (private_or (home_frame homes (TextOf k q))) (sym (shared_other k q apart))

  entry_here : entry_for homes after_s g 0 page ≡ value
  entry_here = rw may.no_text shared_here

  spelled_kept : (k : ℕ) → SpellsView words homes s k → SpellsView stored homes after_s k
  spelled_kept k spells zero prefix f e i lt = elim (one_or_two f node) [
    | inl same ↦ (
        let one : NodeOf k 0 prefix ≡ NodeOf g 0 (page / 512) = homes_apart homes s (NodeOf k 0 prefix) (NodeOf g 0 (page / 512)) node st.housed.separate (rw same at e) may.node_at in
        let a : k ≡ g = cc in
        let b : prefix ≡ page / 512 = cc in
        elim (one_or_two i (page % 512)) [
          | inl c ↦ (
              let d : page / 512 * 512 + page % 512 ≡ page = omega arith in
              rw (same, a, b, c, d) (stored_same words.items at value at_low ∙ sym entry_here)
              )
          | inr c ↦ (
              stored_other words.items at (word_place frames f i) value (λ same_place. c (place_tells frames f node i (page % 512) lt (omega arith) same_place).1)
              ∙ spells zero prefix f e i lt
              ∙ entry_other k (prefix * 512 + i) (λ _ same_page. c (omega arith))
              )
        ]
        )
    | inr apart ↦ (
        same_word f i apart lt
        ∙ spells zero prefix f e i lt
        ∙ entry_other k (prefix * 512 + i) (λ same_k same_page. (
        let p : prefix ≡ page / 512 = omega arith in
        let there : home_frame homes (NodeOf k 0 prefix) ≡ Some node = rw (same_k, p) may.node_at in
        let same : f ≡ node = cc in
        apart same
        ))
        )
  ]
  spelled_kept k spells (suc level) prefix f e i lt =
      let apart : f ≢ node = (λ same. (
      let one : NodeOf k (suc level) prefix ≡ NodeOf g 0 (page / 512) = homes_apart homes s (NodeOf k (suc level) prefix) (NodeOf g 0 (page / 512)) node st.housed.separate (rw same at e) may.node_at in
      let l : suc level ≡ 0 = cc in
      absurd (omega arith)
      )) in
      same_word f i apart lt ∙ spells (suc level) prefix f e i lt

  -- what a view has met, and who is in it
  same_key : (k q : ℕ) → k ≡ g → (page == q) ≡ (g * 0x4000000 + page == k * 0x4000000 + q)
  same_key k q e = elim (one_or_two page q) [
    | inl same ↦ (
        let a : (page == q) ≡ true = grind (arith, nat_tests) in
        let b : (g * 0x4000000 + page == k * 0x4000000 + q) ≡ true = grind (arith, nat_tests) in
        a ∙ sym b
        )
    | inr apart ↦ (
        let a : (page == q) ≡ false = grind (arith, nat_tests) in
        let b : (g * 0x4000000 + page == k * 0x4000000 + q) ≡ false = grind (arith, nat_tests) in
        a ∙ sym b
        )
  ]

  other_key : (k q : ℕ) → k ≢ g → q < 0x4000000 → (g * 0x4000000 + page == k * 0x4000000 + q) ≡ false
  other_key k q apart lt = elim (true_or_false (g * 0x4000000 + page == k * 0x4000000 + q)) [
    | inl u ↦ absurd (let low : page < 0x4000000 = page_low in let e : g * 0x4000000 + page ≡ k * 0x4000000 + q = grind (arith, nat_tests) in apart (omega arith))
    | inr u ↦ u
  ]

  met_here : (v : ViewValue) → v.generation ≡ g → HasMet v s → HasMet (with_page_met page v) after_s
  met_here v e has = record {
    same = λ q lt. added_has page q v.met ∙ rw (has.same q lt, same_key v.generation q e) (sym (met_more s.met g page v.generation q));
    low = all_added (λ n. n < 0x4000000) page v.met page_low has.low;
  }

  met_there : (v : ViewValue) → v.generation ≢ g → HasMet v s → HasMet v after_s
  met_there v apart has = record {
    same = λ q lt. has.same q lt ∙ sym (met_more s.met g page v.generation q ∙ rw (other_key v.generation q apart lt) refl);
    low = has.low;
  }

  abbrev Runs : ℕ → HartState → Type 0
  Runs n hart = (hart.life ≡ Running) × (hart.generation ≡ n)

  residents_kept : (v : ViewValue) → HasResidents v s → HasResidents v after_s
  residents_kept v has k = (
    λ t. others_on (noted_in g page) (Runs v.generation) (λ x q. (noted_life g page x ∙ q.0, noted_generation g page x ∙ q.1)) s.harts h k ((has k).0 t),
    λ q. (has k).1 (others_back (noted_in g page) (Runs v.generation) (λ x w. (sym (noted_life g page x) ∙ w.0, sym (noted_generation g page x) ∙ w.1)) s.harts h k q),
  )

  abbrev met_if : ViewValue → ViewValue
  met_if v = if generation_number v == g then with_page_met page v else v

  view_kept : (gen : GenState) (v : ViewValue) → IsKeptView words homes s gen v → IsKeptView stored homes after_s gen (met_if v)
  view_kept gen v kept = elim (one_or_two v.generation g) [
    | inl e ↦ (let t : (v.generation == g) ≡ true = grind (arith, nat_tests) in rw t (record {
      generation = kept.generation;
      parent = kept.parent;
      patches = kept.patches;
      jumps = kept.jumps;
      reach = kept.reach;
      root = kept.root;
      pages = kept.pages;
      nodes = kept.nodes;
      met = met_here v e kept.met;
      residents = residents_kept v kept.residents;
      text = all_more (IsKeptText words homes gen.number) (IsKeptText stored homes gen.number) (text_kept gen.number) gen.text kept.text;
      leaves = record { text = kept.leaves.text; pages = kept.leaves.pages };
      spelled = spelled_kept gen.number kept.spelled;
    }))
    | inr apart ↦ (let t : (v.generation == g) ≡ false = grind (arith, nat_tests) in rw t (record {
      generation = kept.generation;
      parent = kept.parent;
      patches = kept.patches;
      jumps = kept.jumps;
      reach = kept.reach;
      root = kept.root;
      pages = kept.pages;
      nodes = kept.nodes;
      met = met_there v apart kept.met;
      residents = residents_kept v kept.residents;
      text = all_more (IsKeptText words homes gen.number) (IsKeptText stored homes gen.number) (text_kept gen.number) gen.text kept.text;
      leaves = record { text = kept.leaves.text; pages = kept.leaves.pages };
      spelled = spelled_kept gen.number kept.spelled;
    }))
  ]

  view_after : (k : ℕ) → view_of after_r.views k ≡ option_map met_if (view_of r.views k)
  view_after k = found_changed generation_number (with_page_met page) (λ v. refl) r.views.views g k

  views_kept : (k : ℕ) → MatchOption (living_at after_s k) (view_of after_r.views k ≡ None) (λ gen. IsSomeAnd (view_of after_r.views k) (IsKeptView stored homes after_s gen))
  views_kept k = by_living (living_at s k) (st.views k)
    where
      by_living : (o : Option GenState) → MatchOption o (view_of r.views k ≡ None) (λ gen. IsSomeAnd (view_of r.views k) (IsKeptView words homes s gen))
          → MatchOption o (view_of after_r.views k ≡ None) (λ gen. IsSomeAnd (view_of after_r.views k) (IsKeptView stored homes after_s gen))
      by_living None e = view_after k ∙ rw e refl
      by_living (Some gen) kept = rw (view_after k) (by_view (view_of r.views k) kept)
        where
          by_view : (o : Option ViewValue) → IsSomeAnd o (IsKeptView words homes s gen) → IsSomeAnd (option_map met_if o) (IsKeptView stored homes after_s gen)
          by_view None h = h
          by_view (Some v) h = view_kept gen v h

  -- where the records keep tenants
  home_kept : (t : Tenant) → recorded_frame after_r t ≡ recorded_frame r t
  home_kept (TextOf k n) = rw (view_after k) (by_view (view_of r.views k))
    where
      by_view : (o : Option ViewValue) → option_and_then (λ v. text_frame v n) (option_map met_if o) ≡ option_and_then (λ v. text_frame v n) o
      by_view None = refl
      by_view (Some v) = elim (true_or_false (v.generation == g)) [
        | inl t ↦ rw t refl
        | inr t ↦ rw t refl
      ]
  home_kept (DataOf n) = refl
  home_kept (NodeOf k level prefix) = rw (view_after k) (by_view (view_of r.views k))
    where
      by_view : (o : Option ViewValue) → option_and_then (λ v. node_frame v level prefix) (option_map met_if o) ≡ option_and_then (λ v. node_frame v level prefix) o
      by_view None = refl
      by_view (Some v) = elim (true_or_false (v.generation == g)) [
        | inl t ↦ rw t refl
        | inr t ↦ rw t refl
      ]

  zero_kept : slice_index stored.items 0 ≡ 0
  zero_kept = stored_other words.items at 0 value (λ e. absurd (omega arith)) ∙ st.zero_word

  pub standing : StandsFor stored after_r homes after_s
  standing = record {
    sizes = record {
      of_records = st.sizes.of_records;
      of_words = st.sizes.of_words;
      whole = length-set words.items at value ∙ st.sizes.whole;
      of_frames = st.sizes.of_frames;
      last_birth = st.sizes.last_birth;
    };
    zero_word = zero_kept;
    housed = record {
      separate = record { once = st.housed.separate.once; apart = st.housed.separate.apart; low = st.housed.separate.low; counted = st.housed.separate.counted };
      each = st.housed.each;
    };
    at_home = λ t. home_kept t ∙ st.at_home t;
    pages = all_more (IsKeptPage words r homes) (IsKeptPage stored after_r homes) page_kept s.pages st.pages;
    frames = λ f lt. frame_kept f lt (st.frames f lt);
    views = views_kept;
    born = st.born;
    last = st.last;
    births = st.births;
    raised = st.raised;
  }

pub sync_standing : SyncStands
sync_standing words r homes s h g page node met st may = standing words r homes s h g page node met st may
