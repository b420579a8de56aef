-- Words and records that stand for the start of a program of one page of text, with one hart.
use Rattle.std.proofs.Common.{◌≡◌, ◌<◌, ◌≤◌, ◌+◌, ◌-◌, ◌*◌, ◌/◌, ◌%◌, ◌==◌, ◌&&◌, ◌++◌, ℕ, zero, suc, List, [], ◌∷◌, Bool, true, false, Some, None, map, replicate, refl, sym, ap, subst, ◌∙◌, inl, inr, arith, if◌then◌else◌}
use Rattle.std.specs.Prelude.{IsSomeAnd, MatchOption, nat_le, nat_lt, slice_get, slice_index, sum_by}
use Rattle.std.specs.Option.{option_map}
use Rattle.std.specs.List.{IsDistinct, filter, range_with_len, zip}
use Rattle.std.proofs.lemmas.Bool.Decides.{nat_tests}
use Rattle.std.proofs.lemmas.List.FromFn.{get_or-map-range_with_len, length-map-range_with_len}
use Rattle.std.proofs.lemmas.List.Sums.{sum_by_from}
use Rattle.std.proofs.lemmas.Option.{slice_get-get_or}
use Rattle.wf_outside.specs.Pages.{LimitsValue}
use Rattle.wf_frames.specs.declared.state.Frame.{Frame}
use Rattle.wf_frames.specs.Layout.{WordsValue, word_count}
use Rattle.wf_views.specs.declared.records.Records.{Records}
use Rattle.wf_views.specs.Pages.{page_at}
use Rattle.wf_views.specs.Views.{ViewValue, view_of}
use Rattle.wf_flat.specs.declared.state.Stage.TheVariants.{Here}
use Rattle.wf_flat.specs.State.{FlatState, GenState, PageState}
use Rattle.wf_flat.specs.Boot.{boot_hart, boot_harts, numbered_from, places_with, stacks_of}
use Rattle.wf_flat.specs.Counts.{used_of}
use Rattle.wf_homes.specs.Homes.{AreHomes, AreSeparate, DataOf, Homes, NodeOf, Tenant, TextOf, free_frames, home_frame, homes_at_boot, same_tenant, tenants_of}
use Rattle.wf_flat.proofs.ListLemmas.{and_some}
use Rattle.wf_homes.specs.Entries.{SpellsView, entry_for}
use Rattle.wf_homes.specs.Kept.{HasNoData, HasResidents, IsKeptFrame, IsKeptView, LiesIn, record_of, recorded_frame, state_of}
use Rattle.wf_homes.specs.Stands.{StandsFor, born_of, living_at}
use Rattle.wf_homes.specs.Laws.{IsStoodFor, IsTidy, SmallestStands, smallest_start}
use Rattle.wf_homes.proofs.ListLemmas.{true_or_false}
use Rattle.wf_homes.proofs.CountLemmas.{tenants_counted}
use Rattle.wf_homes.proofs.HomeLemmas.{homes_made}
use Rattle.wf_homes.proofs.RecordedLemmas.{flip_test, looked_each, node_looked, page_looked, text_looked}
use Rattle.wf_homes.proofs.TenantLemmas.{same_is}

-- a page of the stack
abbrev stack_at : ℕ → List ℕ → ℕ → PageState
stack_at n zeros birth = record { number = n; write = true; stage = Here; holder = None; words = zeros; writes = 0; birth = birth }

-- generation 0
abbrev first_of_all : List ℕ → GenState
first_of_all words = record { number = 0; parent = None; text = record { number = 0x10; words = words } ∷ []; jumps = []; patches = 0; reach = 0 ∷ 126976 ∷ []; live = true }

-- the start, written out
abbrev small : List ℕ → List ℕ → LimitsValue → FlatState
small words zeros limits = record {
  pages = stack_at 0x3e0000c zeros 0 ∷ stack_at 0x3e0000d zeros 1 ∷ stack_at 0x3e0000e zeros 2 ∷ stack_at 0x3e0000f zeros 3 ∷ [];
  gens = first_of_all words ∷ [];
  harts = boot_hart 0x10000 0 ∷ [];
  met = [];
  inside = None;
  births = 4;
  worn = 0;
  limits = limits;
}

small_is : (words : List ℕ) (limits : LimitsValue) → smallest_start words limits ≡ small words (replicate 512 0) limits
unfolding stacks_of numbered_from places_with boot_harts
small_is words limits = refl

abbrev ten_tenants : List Tenant
ten_tenants =
    TextOf 0 0x10 ∷ DataOf 0x3e0000c ∷ DataOf 0x3e0000d ∷ DataOf 0x3e0000e ∷ DataOf 0x3e0000f ∷ NodeOf 0 2 0 ∷ NodeOf 0 1 0 ∷ NodeOf 0 0 0
    ∷ NodeOf 0 1 248 ∷ NodeOf 0 0 126976 ∷ []

abbrev ten_frames : List ℕ
ten_frames = 0 ∷ 1 ∷ 2 ∷ 3 ∷ 4 ∷ 5 ∷ 6 ∷ 7 ∷ 8 ∷ 9 ∷ []

-- its homes
abbrev ten : Homes
ten = record { homes = zip ten_tenants ten_frames; worn = [] }

tenants_are : (words zeros : List ℕ) (limits : LimitsValue) → tenants_of (small words zeros limits) ≡ ten_tenants
unfolding places_with
tenants_are words zeros limits = refl

-- the tables stand in order
small_tidy : (words zeros : List ℕ) (limits : LimitsValue) → IsTidy (small words zeros limits)
small_tidy words zeros limits = record {
  ordered = record {
    pages = ((omega arith, (omega arith, (omega arith, tt))), ((omega arith, (omega arith, tt)), ((omega arith, tt), (tt, tt))));
    met = tt;
  };
  placed = in_place;
  gens = (record { rising = (tt, tt); reach_rising = ((omega arith, tt), (tt, tt)) }, tt);
}
  where
    in_place : (g : ℕ) (gen : GenState) → slice_get (first_of_all words ∷ []) g ≡ Some gen → gen.number ≡ g
    in_place zero gen e = let k : first_of_all words ≡ gen = cc in ap (λ (other : GenState). other.number) (sym k)
    in_place (suc g) gen e = absurd cc

small_used : (words zeros : List ℕ) (limits : LimitsValue) → used_of (small words zeros limits) ≡ 10
unfolding places_with
small_used words zeros limits = refl

-- the first ten frames are the lowest free ones
free_ten : (count : ℕ) → 10 ≤ count → (rest : List ℕ) × (free_frames count (record { homes = []; worn = [] }) ≡ ten_frames ++ rest)
free_ten (suc (suc (suc (suc (suc (suc (suc (suc (suc (suc n)))))))))) le = (free_from 10 n, refl)
  where
    free_from : ℕ → ℕ → List ℕ
    free_from a n = filter (λ frame. true) (range_with_len a n)
free_ten n le = absurd (omega arith)

small_homes : (words zeros : List ℕ) (limits : LimitsValue) → 10 ≤ limits.frames → homes_at_boot (small words zeros limits) ≡ ten
unfolding places_with
small_homes words zeros limits le =
    let free = free_ten limits.frames le in
    ap (λ (fs : List ℕ). let made : Homes = record { homes = zip ten_tenants fs; worn = [] } in made) free.1

small_housed : (words zeros : List ℕ) (limits : LimitsValue) → 10 ≤ limits.frames → AreHomes ten (small words zeros limits)
unfolding IsDistinct
small_housed words zeros limits le =
    let s : FlatState = small words zeros limits in
    let none : Homes = record { homes = []; worn = [] } in
    let apart : AreSeparate none s = record { once = tt; apart = tt; low = tt; counted = refl } in
    let few : used_of s + 0 ≤ limits.frames = (let u : used_of s ≡ 10 = small_used words zeros limits in omega arith) in
    subst (λ (h : Homes). AreHomes h s) (small_homes words zeros limits le) (homes_made none s apart (tenants_counted s (small_tidy words zeros limits)) few)

-- whether a frame has a page of the stack
abbrev is_stack : ℕ → Bool
is_stack f = nat_le 1 f && nat_le f 4

stack_cases : (P : ℕ → Type 0) → P 1 → P 2 → P 3 → P 4 → (f : ℕ) → is_stack f ≡ true → P f
stack_cases P a b c d zero e = absurd cc
stack_cases P a b c d (suc zero) e = a
stack_cases P a b c d (suc (suc zero)) e = b
stack_cases P a b c d (suc (suc (suc zero))) e = c
stack_cases P a b c d (suc (suc (suc (suc zero)))) e = d
stack_cases P a b c d (suc (suc (suc (suc (suc f))))) e = absurd (grind (arith, nat_tests))

-- the frame word of a frame: live, in its first incarnation, where it has a page of the stack
abbrev first_word : ℕ → ℕ
first_word f = if is_stack f then 0x8000010000000000 else 0

module _ (words zeros : List ℕ) (limits : LimitsValue) (le : 64 ≤ limits.frames) where
  abbrev count : ℕ
  count = limits.frames

  abbrev s : FlatState
  s = small words zeros limits

  -- the words of each frame
  abbrev content : ℕ → ℕ → ℕ
  content f i =
      if f == 0 then slice_index words i
      else (if nat_lt f 5 then slice_index zeros i
      else (if f == 5 then entry_for ten s 0 2 (0 * 512 + i)
      else (if f == 6 then entry_for ten s 0 1 (0 * 512 + i)
      else (if f == 7 then entry_for ten s 0 0 (0 * 512 + i)
      else (if f == 8 then entry_for ten s 0 1 (248 * 512 + i)
      else entry_for ten s 0 0 (126976 * 512 + i))))))

  abbrev word_for : ℕ → ℕ
  word_for k =
      if k == 0 then 0
      else (if nat_lt k (1 + count) then first_word (k - 1)
      else content ((k - 1 - count) / 512) ((k - 1 - count) % 512))

  abbrev made : WordsValue
  made = record { frames = count; items = map word_for (range_with_len 0 (word_count count)) }

  made_at : (k : ℕ) → k < word_count count → slice_index made.items k ≡ word_for k
  made_at k lt = get_or-map-range_with_len word_for 0 (word_count count) k k 0 lt (omega arith)

  frame_word_at : (f : ℕ) → f < count → slice_index made.items (1 + f) ≡ first_word f
  frame_word_at f lt =
      let a : ((1 + f) == 0) ≡ false = grind (arith, nat_tests) in
      let b : nat_lt (1 + f) (1 + count) ≡ true = grind (arith, nat_tests) in
      let c : (1 + f) - 1 ≡ f = omega arith in
      made_at (1 + f) (omega arith) ∙ rw (a, b, c) refl

  content_at : (f i : ℕ) → f < count → i < 512 → slice_index made.items (1 + count + 512 * f + i) ≡ content f i
  content_at f i lt small_i =
      let a : ((1 + count + 512 * f + i) == 0) ≡ false = grind (arith, nat_tests) in
      let b : nat_lt (1 + count + 512 * f + i) (1 + count) ≡ false = grind (arith, nat_tests) in
      let c : (1 + count + 512 * f + i - 1 - count) / 512 ≡ f = omega arith in
      let d : (1 + count + 512 * f + i - 1 - count) % 512 ≡ i = omega arith in
      made_at (1 + count + 512 * f + i) (omega arith) ∙ rw (a, b, c, d) refl

  abbrev frame_record : ℕ → Frame
  frame_record f = record { state = state_of ten f; incarnation = if is_stack f then 1 else 0 }

  abbrev view : ViewValue
  view = record {
    generation = 0;
    parent = None;
    root = 5;
    nodes = record {
      items = record { level = 2; prefix = 0; frame = 5 } ∷ record { level = 1; prefix = 0; frame = 6 } ∷ record { level = 0; prefix = 0; frame = 7 }
          ∷ record { level = 1; prefix = 248; frame = 8 } ∷ record { level = 0; prefix = 126976; frame = 9 } ∷ [];
      room = 0;
    };
    text = record { page = 0x10; frame = 0 } ∷ [];
    jumps = [];
    patches = 0;
    reach = record { items = 0 ∷ 126976 ∷ []; room = 0 };
    met = record { items = []; room = 0 };
    residents = record { items = 0 ∷ []; room = 0 };
  }

  abbrev records : Records
  records = record {
    frames = record { frames = map frame_record (range_with_len 0 count); last_birth = limits.last_birth };
    views = record { views = view ∷ []; last = Some 0; room = 0 };
    pages = record {
      items = record_of (stack_at 0x3e0000c zeros 0) 1 ∷ record_of (stack_at 0x3e0000d zeros 1) 2 ∷ record_of (stack_at 0x3e0000e zeros 2) 3
          ∷ record_of (stack_at 0x3e0000f zeros 3) 4 ∷ [];
      room = 0;
    };
    born = record { items = record { parent = None; patches = 0 } ∷ []; room = 0 };
    births = 4;
    limits = limits;
  }

  -- a frame
  frame_recorded : (f : ℕ) → f < count → slice_get records.frames.frames f ≡ Some (frame_record f)
  frame_recorded f lt =
      let d : Frame = frame_record 0 in
      slice_get-get_or records.frames.frames f d (omega (arith, length-map-range_with_len frame_record 0 count)) ∙ ap Some (get_or-map-range_with_len frame_record 0 count f f d lt (omega arith))

  frame_kept : (f : ℕ) → f < count → IsKeptFrame made records ten 4 f
  frame_kept f lt =
      let at : slice_index made.items (1 + f) ≡ first_word f = frame_word_at f lt in
      elim (true_or_false (is_stack f)) [
        | inl t ↦ (
            let w : slice_index made.items (1 + f) ≡ 0x8000010000000000 = at ∙ rw t refl in
            record {
              state = and_some _ _ (frame_record f) (frame_recorded f lt) refl;
              incarnation = and_some _ _ (frame_record f) (frame_recorded f lt) (rw (w, t) refl);
              few = rw w (omega arith);
              not_live = λ none. absurd (lodged f t none);
              not_taken = λ none. rw w refl;
            }
            )
        | inr t ↦ (
            let w : slice_index made.items (1 + f) ≡ 0 = at ∙ rw t refl in
            record {
              state = and_some _ _ (frame_record f) (frame_recorded f lt) refl;
              incarnation = and_some _ _ (frame_record f) (frame_recorded f lt) (rw (w, t) refl);
              few = rw w (omega arith);
              not_live = λ none. rw w refl;
              not_taken = λ none. rw w refl;
            }
            )
      ]
    where
      lodged : (f : ℕ) → is_stack f ≡ true → HasNoData ten f → ⊥
      lodged f t none = stack_cases (λ f. HasNoData ten f → ⊥) (λ n. n 0x3e0000c refl) (λ n. n 0x3e0000d refl) (λ n. n 0x3e0000e refl) (λ n. n 0x3e0000f refl) f t none

  -- a page of the stack
  page_kept : (n f birth : ℕ) → is_stack f ≡ true → page_at records.pages n ≡ Some (record_of (stack_at n zeros birth) f) → LiesIn made records (stack_at n zeros birth) f
  page_kept n f birth t recorded =
      let lt : f < count = stack_cases (λ f. f < count) (omega arith) (omega arith) (omega arith) (omega arith) f t in
      let w : slice_index made.items (1 + f) ≡ 0x8000010000000000 = frame_word_at f lt ∙ rw t refl in
      record {
        recorded = recorded;
        same_words = λ i small_i. content_at f i lt small_i ∙ stack_cases (λ f. content f i ≡ slice_index zeros i) refl refl refl refl f t;
        writes = rw w refl;
        taken = rw w refl;
        live = rw w refl;
      }

  -- the homes of tenants
  text_home : (g page : ℕ) → recorded_frame records (TextOf g page) ≡ home_frame ten (TextOf g page)
  text_home g page = elim (true_or_false (g == 0)) [
    | inl t ↦ (let e : g ≡ 0 = grind (arith, nat_tests) in rw e (text_looked 0 refl view.text page))
    | inr t ↦ (rw (flip_test g 0 false t, t) refl)
  ]

  page_home : (page : ℕ) → recorded_frame records (DataOf page) ≡ home_frame ten (DataOf page)
  page_home page = page_looked records.pages.items page

  node_home : (g level prefix : ℕ) → recorded_frame records (NodeOf g level prefix) ≡ home_frame ten (NodeOf g level prefix)
  node_home g level prefix = elim (true_or_false (g == 0)) [
    | inl t ↦ (let e : g ≡ 0 = grind (arith, nat_tests) in rw e (node_looked 0 refl view.nodes.items level prefix))
    | inr t ↦ (rw (flip_test g 0 false t, t) refl)
  ]

  at_home : (t : Tenant) → recorded_frame records t ≡ home_frame ten t
  at_home (TextOf g page) = text_home g page
  at_home (DataOf page) = page_home page
  at_home (NodeOf g level prefix) = node_home g level prefix

  -- the words of the nodes
  spelled : SpellsView made ten s 0
  spelled level prefix frame e i lt =
      looked_each (NodeOf 0 level prefix) ten.homes frame (slice_index made.items (1 + count + 512 * frame + i) ≡ entry_for ten s 0 level (prefix * 512 + i)) e (
        λ t f. absurd cc,
        (
          λ t f. absurd cc,
          (λ t f. absurd cc, (λ t f. absurd cc, (λ t f. absurd cc, (node_at 5 2 0 (omega arith) refl, (node_at 6 1 0 (omega arith) refl, (node_at 7 0 0 (omega arith) refl, (node_at 8 1 248 (omega arith) refl, (node_at 9 0 126976 (omega arith) refl, tt)))))))),
        ),
      )
    where
      node_at : (f l p : ℕ) → f < count → content f i ≡ entry_for ten s 0 l (p * 512 + i) → (same_tenant (NodeOf 0 level prefix) (NodeOf 0 l p) ≡ true) → f ≡ frame
          → slice_index made.items (1 + count + 512 * frame + i) ≡ entry_for ten s 0 level (prefix * 512 + i)
      node_at f l p low says t g =
          let same : NodeOf 0 level prefix ≡ NodeOf 0 l p = (same_is (NodeOf 0 level prefix) (NodeOf 0 l p)).0 t in
          let a : level ≡ l = cc in
          let b : prefix ≡ p = cc in
          rw (sym g, a, b) (content_at f i low lt ∙ says)

  sum_big : (n : ℕ) → 5 ≤ n → 4 ≤ sum_by (λ (f : Frame). f.incarnation) (map frame_record (range_with_len 0 n))
  sum_big (suc (suc (suc (suc (suc n))))) ge = omega (arith, sum_by_from (λ (f : Frame). f.incarnation) 4 (map frame_record (range_with_len 5 n)))
  sum_big n ge = absurd (omega arith)

  view_kept : IsKeptView made ten s (first_of_all words) view
  unfolding IsDistinct
  view_kept = record {
    generation = refl;
    parent = refl;
    patches = refl;
    jumps = refl;
    reach = refl;
    root = refl;
    pages = refl;
    nodes = ((refl, (refl, (refl, (refl, tt)))), ((refl, (refl, (refl, tt))), ((refl, (refl, tt)), ((refl, tt), (tt, tt)))));
    met = record { same = λ page lt. refl; low = tt };
    residents = resident;
    text = (λ i lt. content_at 0 i (omega arith) lt, tt);
    leaves = record { text = (refl, tt); pages = (λ _. refl, (λ _. refl, (λ _. refl, (λ _. refl, tt)))) };
    spelled = spelled;
  }
    where
      resident : HasResidents view s
      resident zero = (λ _. (refl, refl), λ _. refl)
      resident (suc h) = let f : (0 == suc h) ≡ false = grind (arith, nat_tests) in (λ e. absurd (let k : false ≡ true = rw f at e in cc), λ r. absurd r)

  small_stands : StandsFor made records ten s
  small_stands = record {
    sizes = record { of_records = refl; of_words = refl; whole = length-map-range_with_len word_for 0 (word_count count); of_frames = length-map-range_with_len frame_record 0 count; last_birth = refl };
    zero_word = made_at 0 (omega arith);
    housed = small_housed words zeros limits (omega arith);
    at_home = at_home;
    pages = (page_kept 0x3e0000c 1 0 refl refl, (page_kept 0x3e0000d 2 1 refl refl, (page_kept 0x3e0000e 3 2 refl refl, (page_kept 0x3e0000f 4 3 refl refl, tt))));
    frames = frame_kept;
    views = views;
    born = born;
    last = refl;
    births = refl;
    raised = sum_big count (omega arith);
  }
    where
      views : (g : ℕ) → MatchOption (living_at s g) (view_of records.views g ≡ None) (λ gen. IsSomeAnd (view_of records.views g) (IsKeptView made ten s gen))
      views zero = view_kept
      views (suc g) = let f : (0 == suc g) ≡ false = grind (arith, nat_tests) in rw f refl

      born : (g : ℕ) → slice_get records.born.items g ≡ option_map born_of (slice_get s.gens g)
      born zero = refl
      born (suc g) = refl

pub smallest_stands : SmallestStands
smallest_stands words limits le =
    subst (λ (s : FlatState). IsStoodFor (homes_at_boot s) s) (sym (small_is words limits)) (
    subst (λ (h : Homes). IsStoodFor h (small words (replicate 512 0) limits)) (sym (small_homes words (replicate 512 0) limits (omega arith)))
    (record { words = made words (replicate 512 0) limits le; records = records words (replicate 512 0) limits le; stands = small_stands words (replicate 512 0) limits le })
    )
