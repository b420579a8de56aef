-- A generation ends: its frames, and what words and records stand for then.
use Rattle.std.proofs.Common.{◌≡◌, ◌≢◌, ◌<◌, ◌+◌, ◌-◌, ◌*◌, ◌/◌, ◌==◌, ℕ, zero, suc, List, [], ◌∷◌, Bool, true, false, Option, Some, None, refl, sym, ap, subst, ◌∙◌, inl, inr, arith, is_some, if◌then◌else◌, nat_eq}
use Rattle.std.specs.Prelude.{IsSomeAnd, MatchOption, nat_lt, option_and_then, slice_get}
use Rattle.std.specs.Option.{option_map}
use Rattle.std.specs.List.{AllByRecursion, IsDistinct}
use Rattle.std.specs.Map.{keys_of, lookup, values_of}
use Rattle.std.specs.Set.{is_member}
use Rattle.std.proofs.lemmas.Bool.{cases_lt}
use Rattle.std.proofs.lemmas.Bool.Decides.{nat_tests}
use Rattle.wf_outside.specs.Images.{text_numbers}
use Rattle.wf_outside.specs.Pages.{PageValue}
use Rattle.wf_frames.specs.declared.state.Frame.{Frame}
use Rattle.wf_frames.specs.declared.state.FrameState.TheVariants.{Free}
use Rattle.wf_frames.specs.Frames.{FramesValue, given}
use Rattle.wf_frames.specs.Layout.{WordsValue}
use Rattle.wf_views.specs.declared.plan.Change.TheVariants.{Dead}
use Rattle.wf_views.specs.declared.records.Records.{Records}
use Rattle.wf_views.specs.Views.{ViewValue, generation_number, view_of, with_removed}
use Rattle.wf_flat.specs.Accesses.{is_ending}
use Rattle.wf_flat.specs.Memory.{data_in, has_met}
use Rattle.wf_flat.specs.State.{FlatState, GenState, PageState}
use Rattle.wf_flat.proofs.HartLemmas.{get-changed_at}
use Rattle.wf_flat.proofs.ListLemmas.{length_changed}
use Rattle.wf_effects.specs.Effects.{dead, generation_dead, met_but_generation}
use Rattle.wf_homes.specs.Homes.{AreHomes, DataOf, Homes, NodeOf, Tenant, TextOf, has_tenant, home_frame, homes_in, is_home, is_worn, same_tenant, without_left}
use Rattle.wf_homes.specs.Entries.{SpellsView, data_leaf, entry_for, pointer_to, private_or, shared_leaf}
use Rattle.wf_homes.specs.Kept.{HasNoData, HasNodeFor, IsKeptFrame, IsKeptPage, IsKeptText, IsKeptView, LiesIn, fields_at, node_frame, recorded_frame, state_of, text_frame}
use Rattle.wf_homes.specs.Stands.{StandsFor, born_of, living, living_at}
use Rattle.wf_homes.proofs.FoundLemmas.{found_number, some_at, some_more}
use Rattle.wf_homes.proofs.ListLemmas.{all_back, all_both, all_front, all_more, distinct_front, distinct_kept, keys_kept, one_or_two, true_or_false, values_all_kept, values_kept_front}
use Rattle.wf_homes.proofs.PlaceLemmas.{homes_apart}
use Rattle.wf_space.specs.Changes.{all_given, view_given, with_change}
use Rattle.wf_space.proofs.LeaveLemmas.{both_same, data_low, found_without, gone_without}
use Rattle.wf_space.proofs.MeetLemmas.{some_of}
use Rattle.wf_residents.specs.Carried.{CanBeUsedAgain, MayDelete}
use Rattle.wf_residents.specs.Laws.{DeadStands}
use Rattle.wf_residents.proofs.EndLemmas.{each_ended, home_ended, is_own, nothing_new, tenant_ended}
use Rattle.wf_residents.proofs.GivenLemmas.{given_at, last_given, length_given, same_incarnation, sum_given}
use Rattle.wf_residents.proofs.HartLemmas.{changed_past}
use Rattle.wf_residents.proofs.OwnLemmas.{each_found, found_member, gone_home, kept_home, past_member}
use Rattle.wf_residents.proofs.EndViewLemmas as ending

-- what generations have met, but for one
other_pair : (a b k q g : ℕ) → a ≡ g → b < 0x4000000 → q < 0x4000000 → k ≢ g → (a * 0x4000000 + b == k * 0x4000000 + q) ≡ false
other_pair a b k q g same lb lq apart = elim (true_or_false (a * 0x4000000 + b == k * 0x4000000 + q)) [
  | inl u ↦ absurd (let e : a * 0x4000000 + b ≡ k * 0x4000000 + q = grind (arith, nat_tests) in apart (omega arith))
  | inr u ↦ u
]

met_stays : (met : List (ℕ × ℕ)) (g k q : ℕ) → AllByRecursion (λ pair. pair.1 < 0x4000000) met → k ≢ g → q < 0x4000000 → has_met (met_but_generation met g) k q ≡ has_met met k q
met_stays [] g k q low apart lq = refl
met_stays (x ∷ xs) g k q low apart lq = elim (true_or_false (x.0 == g)) [
  | inl t ↦ (
      let u : (x.0 * 0x4000000 + x.1 == k * 0x4000000 + q) ≡ false = other_pair x.0 x.1 k q g (grind (arith, nat_tests)) low.0 lq apart in
      rw (t, u) (met_stays xs g k q low.1 apart lq)
      )
  | inr t ↦ (elim (true_or_false (x.0 * 0x4000000 + x.1 == k * 0x4000000 + q)) [
    | inl u ↦ (rw (t, u) refl)
    | inr u ↦ (rw (t, u) (met_stays xs g k q low.1 apart lq))
  ])
]

free_state : (homes : Homes) (f : ℕ) → is_home homes f ≡ false → is_worn homes f ≡ false → state_of homes f ≡ Free
free_state homes f e w = rw (e, w) refl

module _ (words : WordsValue) (r : Records) (homes : Homes) (s : FlatState) (g : ℕ) (st : StandsFor words r homes s) (may : MayDelete s g) where
  abbrev view : ViewValue
  view = ending.view words r homes s g st may

  abbrev frames : List ℕ
  frames = ending.frames words r homes s g st may

  view_at : view_of r.views g ≡ Some view
  view_at = ending.view_at words r homes s g st may

  itself_test : (g == g) ≡ true
  itself_test = ending.itself_test words r homes s g st may

  own_of : (f : ℕ) → is_member nat_eq frames f ≡ true → (t : Tenant) × (home_frame homes t ≡ Some f) × (is_own g t ≡ true)
  own_of f e = ending.own_of words r homes s g st may f e

  own_frame : (t : Tenant) (f : ℕ) → is_own g t ≡ true → home_frame homes t ≡ Some f → is_member nat_eq frames f ≡ true
  own_frame t f o e = ending.own_frame words r homes s g st may t f o e

  -- what is there then, and where
  abbrev after : FlatState
  after = generation_dead s g

  abbrev homes_now : Homes
  homes_now = without_left homes after

  abbrev given_frames : FramesValue
  given_frames = all_given r.frames frames

  abbrev left : Records
  left = record r { frames = given_frames; views = with_removed r.views g }

  left_is : with_change r (Dead g) ≡ left
  left_is = ap (λ (o : Option ViewValue). let q : Records = record r { frames = view_given r.frames o; views = with_removed r.views g } in q) view_at

  home_then : (t : Tenant) → is_own g t ≡ false → home_frame homes_now t ≡ home_frame homes t
  home_then t e = home_ended s g may.tidy homes st.housed t ∙ rw e refl

  home_gone : (t : Tenant) → is_own g t ≡ true → home_frame homes_now t ≡ None
  home_gone t e = home_ended s g may.tidy homes st.housed t ∙ rw e refl

  data_then : (n : ℕ) → home_frame homes_now (DataOf n) ≡ home_frame homes (DataOf n)
  data_then n = home_then (DataOf n) refl

  none_before : (f : ℕ) → HasNoData homes_now f → HasNoData homes f
  none_before f none = λ n e. none n (data_then n ∙ e)

  values_distinct : IsDistinct nat_eq (values_of homes.homes)
  values_distinct = distinct_front nat_eq (values_of homes.homes) homes.worn st.housed.separate.apart

  -- a frame that is given back is no home, is not worn, and has no page of data
  gone_no_home : (f : ℕ) → is_member nat_eq frames f ≡ true → is_home homes_now f ≡ false
  gone_no_home f e =
      let o = own_of f e in
      gone_home (has_tenant after) o.0 homes.homes f values_distinct o.1 (tenant_ended s g may.tidy o.0 ∙ rw o.2 refl)

  gone_not_worn : (f : ℕ) → is_member nat_eq frames f ≡ true → is_worn homes f ≡ false
  gone_not_worn f e = (let o = own_of f e in past_member (values_of homes.homes) homes.worn f st.housed.separate.apart (found_member o.0 homes.homes f o.1))

  gone_no_data : (f : ℕ) → is_member nat_eq frames f ≡ true → HasNoData homes f
  gone_no_data f e n there =
      let o = own_of f e in
      let same : o.0 ≡ DataOf n = homes_apart homes s o.0 (DataOf n) f st.housed.separate o.1 there in
      let k : is_own g (DataOf n) ≡ true = subst (λ (t : Tenant). is_own g t ≡ true) same o.2 in
      absurd cc

  -- another stays what it is
  other_home : (f : ℕ) → is_member nat_eq frames f ≡ false → is_home homes_now f ≡ is_home homes f
  other_home f e = kept_home (has_tenant after) homes.homes f
      (all_more (λ home. lookup (same_tenant home.0) homes.homes ≡ Some home.1) (λ home. home.1 ≡ f → has_tenant after home.0 ≡ true) (λ home found same. stays home.0 (found ∙ ap Some same)) homes.homes (each_found homes.homes st.housed.separate.once))
    where
      stays : (t : Tenant) → home_frame homes t ≡ Some f → has_tenant after t ≡ true
      stays t there = elim (true_or_false (is_own g t)) [
        | inl o ↦ absurd (let k : true ≡ false = sym (own_frame t f o there) ∙ e in cc)
        | inr o ↦ (let has : has_tenant s t ≡ true = sym (st.housed.each t) ∙ ap is_some there in tenant_ended s g may.tidy t ∙ rw (o, has) refl)
      ]

  other_state_of : (f : ℕ) → is_member nat_eq frames f ≡ false → state_of homes_now f ≡ state_of homes f
  other_state_of f e = rw (other_home f e) refl

  -- frames
  frame_after : (f : ℕ) (x : Frame) (b : Bool) → is_member nat_eq frames f ≡ b → slice_get r.frames.frames f ≡ Some x → slice_get given_frames.frames f ≡ Some (if b then given r.frames.last_birth x else x)
  frame_after f x b m e = given_at frames r.frames f ∙ rw (e, m) refl

  low_free : (x : Frame) → x.incarnation < r.frames.last_birth → (given r.frames.last_birth x).state ≡ Free
  low_free x lt = (let t : nat_lt x.incarnation r.frames.last_birth ≡ true = grind (arith, nat_tests) in rw t refl)

  module _ (again : CanBeUsedAgain r homes) where
    frame_kept : (f : ℕ) → f < s.limits.frames → IsKeptFrame words left homes_now s.births f
    frame_kept f lt = by_member (is_member nat_eq frames f) refl
      where
        kept : IsKeptFrame words r homes s.births f
        kept = st.frames f lt

        x : (x : Frame) × (slice_get r.frames.frames f ≡ Some x) × (x.state ≡ state_of homes f)
        x = some_of (slice_get r.frames.frames f) (λ (y : Frame). y.state ≡ state_of homes f) kept.state

        inc : x.0.incarnation ≡ (fields_at words f).inc
        inc = at_frame (slice_get r.frames.frames f) x.1 kept.incarnation
          where
            at_frame : (o : Option Frame) → o ≡ Some x.0 → IsSomeAnd o (λ z. z.incarnation ≡ (fields_at words f).inc) → x.0.incarnation ≡ (fields_at words f).inc
            at_frame o e h = (let k : IsSomeAnd (Some x.0) (λ z. z.incarnation ≡ (fields_at words f).inc) = subst (λ (p : Option Frame). IsSomeAnd p (λ z. z.incarnation ≡ (fields_at words f).inc)) e h in k)

        with_state : (b : Bool) → is_member nat_eq frames f ≡ b → (if b then given r.frames.last_birth x.0 else x.0).state ≡ state_of homes_now f → IsKeptFrame words left homes_now s.births f
        with_state b m state = record {
          state = some_at (slice_get given_frames.frames f) (λ (y : Frame). y.state ≡ state_of homes_now f) (if b then given r.frames.last_birth x.0 else x.0) (frame_after f x.0 b m x.1) state;
          incarnation = some_at (slice_get given_frames.frames f) (λ (y : Frame). y.incarnation ≡ (fields_at words f).inc) (if b then given r.frames.last_birth x.0 else x.0) (frame_after f x.0 b m x.1) (same_incarnation b r.frames.last_birth x.0 ∙ inc);
          few = kept.few;
          not_live = λ none. kept.not_live (none_before f none);
          not_taken = λ none. kept.not_taken (none_before f none);
        }

        by_member : (b : Bool) → is_member nat_eq frames f ≡ b → IsKeptFrame words left homes_now s.births f
        by_member true m = with_state true m (low_free x.0 (again f x.0 x.1 (gone_not_worn f m) (gone_no_data f m)) ∙ sym (free_state homes_now f (gone_no_home f m) (gone_not_worn f m)))
        by_member false m = with_state false m (x.2 ∙ sym (other_state_of f m))

    -- and can be used again as before
    used_again : CanBeUsedAgain left homes_now
    used_again f y e fresh none = by_frame (slice_get r.frames.frames f) refl
      where
        by_frame : (o : Option Frame) → slice_get r.frames.frames f ≡ o → y.incarnation < given_frames.last_birth
        by_frame None a = absurd (let k : Some y ≡ None = sym e ∙ given_at frames r.frames f ∙ rw a refl in cc)
        by_frame (Some x) a =
            let b : Bool = is_member nat_eq frames f in
            let k : Some (if b then given r.frames.last_birth x else x) ≡ Some y = sym (frame_after f x b refl a) ∙ e in
            let same : (if b then given r.frames.last_birth x else x) ≡ y = cc in
            let inc : y.incarnation ≡ x.incarnation = ap (λ (z : Frame). z.incarnation) (sym same) ∙ same_incarnation b r.frames.last_birth x in
            let lt : x.incarnation < r.frames.last_birth = again f x a fresh (none_before f none) in
            let last : given_frames.last_birth ≡ r.frames.last_birth = last_given frames r.frames in
            omega arith

    -- pages
    page_kept : (p : PageState) → IsKeptPage words r homes p → IsKeptPage words left homes_now p
    page_kept p kept = rw (data_then p.number) (some_more (home_frame homes (DataOf p.number)) (LiesIn words r p) (LiesIn words left p) (λ f e lies. record {
      recorded = lies.recorded;
      same_words = lies.same_words;
      writes = lies.writes;
      taken = lies.taken;
      live = lies.live;
    }) kept)

    -- generations
    live_other : (k : ℕ) → k ≢ g → living_at after k ≡ living_at s k
    live_other k apart = ap (option_and_then living) (changed_past s.gens g k dead apart)

    live_gone : living_at after g ≡ None
    live_gone = ap (option_and_then living) (get-changed_at s.gens g dead) ∙ none (slice_get s.gens g)
      where
        none : (o : Option GenState) → option_and_then living (option_map dead o) ≡ None
        none None = refl
        none (Some gen) = refl

    born_then : (k : ℕ) → slice_get r.born.items k ≡ option_map born_of (slice_get after.gens k)
    born_then k = st.born k ∙ (elim (one_or_two k g) [
      | inl same ↦ subst (λ (j : ℕ). option_map born_of (slice_get s.gens j) ≡ option_map born_of (slice_get after.gens j)) (sym same) (born_gone (slice_get s.gens g) ∙ sym (ap (option_map born_of) (get-changed_at s.gens g dead)))
      | inr apart ↦ sym (ap (option_map born_of) (changed_past s.gens g k dead apart))
    ])
      where
        born_gone : (o : Option GenState) → option_map born_of o ≡ option_map born_of (option_map dead o)
        born_gone None = refl
        born_gone (Some gen) = refl

    -- views of others
    module _ (k : ℕ) (apart : k ≢ g) where
      other_test : (k == g) ≡ false
      other_test = elim (true_or_false (k == g)) [
        | inl t ↦ absurd (apart (let same : k ≡ g = grind (arith, nat_tests) in same))
        | inr t ↦ t
      ]

      leaf_of_data : (o : Option PageState) → data_leaf homes_now o ≡ data_leaf homes o
      leaf_of_data None = refl
      leaf_of_data (Some p) = rw (data_then p.number) refl

      met_then : (q : ℕ) → q < 0x4000000 → has_met after.met k q ≡ has_met s.met k q
      met_then q lt = met_stays s.met g k q may.met_low apart lt

      shared_then : (q : ℕ) → shared_leaf homes_now after k q ≡ shared_leaf homes s k q
      shared_then q = elim (cases_lt q 0x4000000) [
        | inl lt ↦ (rw (met_then q lt) (ap (λ (n : ℕ). if has_met s.met k q then n else 0) (leaf_of_data (data_in s.pages q))))
        | inr ge ↦ (
            let none : data_in s.pages q ≡ None = data_low s.pages q may.pages_low ge in
            rw none (both_same (has_met after.met k q) 0 ∙ sym (both_same (has_met s.met k q) 0))
            )
      ]

      leaf_same : (q : ℕ) → entry_for homes s k 0 q ≡ entry_for homes_now after k 0 q
      leaf_same q =
          ap (λ (o : Option ℕ). private_or o (shared_leaf homes s k q)) (sym (home_then (TextOf k q) other_test))
          ∙ ap (private_or (home_frame homes_now (TextOf k q))) (sym (shared_then q))

      pointer_same : (level q : ℕ) → entry_for homes s k (suc level) q ≡ entry_for homes_now after k (suc level) q
      pointer_same level q = ap pointer_to (sym (home_then (NodeOf k level q) other_test))

      spelled_then : SpellsView words homes s k → SpellsView words homes_now after k
      spelled_then spells zero prefix fr e i lt = spells zero prefix fr (sym (home_then (NodeOf k 0 prefix) other_test) ∙ e) i lt ∙ leaf_same (prefix * 512 + i)
      spelled_then spells (suc level) prefix fr e i lt = spells (suc level) prefix fr (sym (home_then (NodeOf k (suc level) prefix) other_test) ∙ e) i lt ∙ pointer_same level (prefix * 512 + i)

      node_then : (n : ℕ) → HasNodeFor homes k n → HasNodeFor homes_now k n
      node_then n has = rw (home_then (NodeOf k 0 (n / 512)) other_test) has

      text_then : (p : PageValue) → IsKeptText words homes k p → IsKeptText words homes_now k p
      text_then p kept = rw (home_then (TextOf k p.number) other_test) kept

      view_then : (gen : GenState) (v : ViewValue) → gen.number ≡ k → IsKeptView words homes s gen v → IsKeptView words homes_now after gen v
      view_then gen v number kept = record {
        generation = kept.generation;
        parent = kept.parent;
        patches = kept.patches;
        jumps = kept.jumps;
        reach = kept.reach;
        root = subst (λ (j : ℕ). home_frame homes_now (NodeOf j 2 0) ≡ home_frame homes (NodeOf j 2 0)) (sym number) (home_then (NodeOf k 2 0) other_test) ∙ kept.root;
        pages = kept.pages;
        nodes = kept.nodes;
        met = record {
          same = λ q lt. kept.met.same q lt ∙ subst (λ (j : ℕ). has_met s.met j q ≡ has_met after.met j q) (sym (kept.generation ∙ number)) (sym (met_then q lt));
          low = kept.met.low;
        };
        residents = kept.residents;
        text = subst (λ (j : ℕ). AllByRecursion (IsKeptText words homes_now j) gen.text) (sym number) (all_more (IsKeptText words homes k) (IsKeptText words homes_now k) text_then gen.text (subst (λ (j : ℕ). AllByRecursion (IsKeptText words homes j) gen.text) number kept.text));
        leaves = record {
          text = subst (λ (j : ℕ). AllByRecursion (HasNodeFor homes_now j) (text_numbers gen.text)) (sym number) (all_more (HasNodeFor homes k) (HasNodeFor homes_now k) node_then (text_numbers gen.text) (subst (λ (j : ℕ). AllByRecursion (HasNodeFor homes j) (text_numbers gen.text)) number kept.leaves.text));
          pages = subst (λ (j : ℕ). AllByRecursion (λ page. is_ending page.stage ≡ false → HasNodeFor homes_now j page.number) s.pages) (sym number)
              (all_more (λ page. is_ending page.stage ≡ false → HasNodeFor homes k page.number) (λ page. is_ending page.stage ≡ false → HasNodeFor homes_now k page.number) (λ page h e. node_then page.number (h e)) s.pages
              (subst (λ (j : ℕ). AllByRecursion (λ page. is_ending page.stage ≡ false → HasNodeFor homes j page.number) s.pages) number kept.leaves.pages));
        };
        spelled = subst (SpellsView words homes_now after) (sym number) (spelled_then (subst (SpellsView words homes s) number kept.spelled));
      }

      view_still : view_of left.views k ≡ view_of r.views k
      view_still = found_without generation_number r.views.views g k apart

      views_other : MatchOption (living_at s k) (view_of r.views k ≡ None) (λ gen. IsSomeAnd (view_of r.views k) (IsKeptView words homes s gen))
          → MatchOption (living_at s k) (view_of left.views k ≡ None) (λ gen. IsSomeAnd (view_of left.views k) (IsKeptView words homes_now after gen))
      views_other = by_living (living_at s k)
        where
          by_living : (o : Option GenState) → MatchOption o (view_of r.views k ≡ None) (λ gen. IsSomeAnd (view_of r.views k) (IsKeptView words homes s gen))
              → MatchOption o (view_of left.views k ≡ None) (λ gen. IsSomeAnd (view_of left.views k) (IsKeptView words homes_now after gen))
          by_living None e = view_still ∙ e
          by_living (Some gen) kept = rw view_still (some_more (view_of r.views k) (IsKeptView words homes s gen) (IsKeptView words homes_now after gen) (λ v e h. view_then gen v (sym h.generation ∙ found_number generation_number r.views.views k v e) h) kept)

    views_then : (k : ℕ) → MatchOption (living_at after k) (view_of left.views k ≡ None) (λ gen. IsSomeAnd (view_of left.views k) (IsKeptView words homes_now after gen))
    views_then k = elim (one_or_two k g) [
      | inl same ↦ subst (λ (j : ℕ). MatchOption (living_at after j) (view_of left.views j ≡ None) (λ gen. IsSomeAnd (view_of left.views j) (IsKeptView words homes_now after gen))) (sym same)
          (subst (λ (o : Option GenState). MatchOption o (view_of left.views g ≡ None) (λ gen. IsSomeAnd (view_of left.views g) (IsKeptView words homes_now after gen))) (sym live_gone) (gone_without generation_number r.views.views g))
      | inr apart ↦ subst (λ (o : Option GenState). MatchOption o (view_of left.views k ≡ None) (λ gen. IsSomeAnd (view_of left.views k) (IsKeptView words homes_now after gen))) (sym (live_other k apart)) (views_other k apart (st.views k))
    ]

    -- what records have of tenants
    view_gone : view_of left.views g ≡ None
    view_gone = gone_without generation_number r.views.views g

    record_then : (t : Tenant) → recorded_frame left t ≡ home_frame homes_now t
    record_then (DataOf n) = st.at_home (DataOf n) ∙ sym (data_then n)
    record_then (TextOf h n) = elim (one_or_two h g) [
      | inl same ↦ (subst (λ (j : ℕ). recorded_frame left (TextOf j n) ≡ home_frame homes_now (TextOf j n)) (sym same) (ap (option_and_then (λ v. text_frame v n)) view_gone ∙ sym (home_gone (TextOf g n) itself_test)))
      | inr apart ↦ (ap (option_and_then (λ v. text_frame v n)) (view_still h apart) ∙ st.at_home (TextOf h n) ∙ sym (home_then (TextOf h n) (other_test h apart)))
    ]
    record_then (NodeOf h level prefix) = elim (one_or_two h g) [
      | inl same ↦ (subst (λ (j : ℕ). recorded_frame left (NodeOf j level prefix) ≡ home_frame homes_now (NodeOf j level prefix)) (sym same) (ap (option_and_then (λ v. node_frame v level prefix)) view_gone ∙ sym (home_gone (NodeOf g level prefix) itself_test)))
      | inr apart ↦ (ap (option_and_then (λ v. node_frame v level prefix)) (view_still h apart) ∙ st.at_home (NodeOf h level prefix) ∙ sym (home_then (NodeOf h level prefix) (other_test h apart)))
    ]

    housed_then : AreHomes homes_now after
    housed_then = record {
      separate = record {
        once = rw (keys_kept (has_tenant after) homes.homes) (distinct_kept same_tenant (has_tenant after) (keys_of homes.homes) st.housed.separate.once);
        apart = values_kept_front nat_eq (λ home. has_tenant after home.0) homes.homes homes.worn st.housed.separate.apart;
        low = all_both (λ f. f < s.limits.frames) (values_of homes_now.homes) homes.worn (values_all_kept (λ home. has_tenant after home.0) (λ f. f < s.limits.frames) homes.homes (all_front (λ f. f < s.limits.frames) (values_of homes.homes) homes.worn st.housed.separate.low)) (all_back (λ f. f < s.limits.frames) (values_of homes.homes) homes.worn st.housed.separate.low);
        counted = st.housed.separate.counted;
      };
      each = each_ended s g may.tidy homes st.housed;
    }

    ended : StandsFor words left homes_now after
    ended = record {
      sizes = record {
        of_records = st.sizes.of_records;
        of_words = st.sizes.of_words;
        whole = st.sizes.whole;
        of_frames = length_given frames r.frames ∙ st.sizes.of_frames;
        last_birth = last_given frames r.frames ∙ st.sizes.last_birth;
      };
      zero_word = st.zero_word;
      housed = housed_then;
      at_home = record_then;
      pages = all_more (IsKeptPage words r homes) (IsKeptPage words left homes_now) page_kept s.pages st.pages;
      frames = frame_kept;
      views = views_then;
      born = born_then;
      last = st.last ∙ ap (λ (n : ℕ). Some (n - 1)) (sym (length_changed dead s.gens g));
      births = st.births;
      raised = rw (sum_given frames r.frames) st.raised;
    }

    pub dead_both : StandsFor words (with_change r (Dead g)) (homes_in homes (generation_dead s g)) (generation_dead s g) × CanBeUsedAgain (with_change r (Dead g)) (homes_in homes (generation_dead s g))
    dead_both =
        let homes_are : homes_in homes after ≡ homes_now = nothing_new s g may.tidy homes st.housed in
        subst (λ (hs : Homes). StandsFor words (with_change r (Dead g)) hs after × CanBeUsedAgain (with_change r (Dead g)) hs) (sym homes_are)
        (subst (λ (q : Records). StandsFor words q homes_now after × CanBeUsedAgain q homes_now) (sym left_is) (ended, used_again))

pub dead_standing : DeadStands
dead_standing words r homes s g st may again = dead_both words r homes s g st may again
