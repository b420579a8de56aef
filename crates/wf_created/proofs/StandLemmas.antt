-- Words and records stand for the state in which a generation is born.
use Rattle.std.proofs.Common.{◌≡◌, ◌≢◌, ◌<◌, ◌≤◌, ◌+◌, ◌-◌, ◌*◌, ◌/◌, ◌||◌, ◌++◌, ℕ, zero, suc, List, [], ◌∷◌, Bool, true, false, Option, Some, None, length, refl, sym, ap, subst, ◌∙◌, inl, inr, arith, is_some, nat_eq, length-append, if◌then◌else◌}
use Rattle.std.specs.Prelude.{IsSomeAnd, MatchOption, option_and_then, slice_get}
use Rattle.std.specs.Option.{option_map}
use Rattle.std.specs.Map.{values_of}
use Rattle.std.specs.Set.{is_member}
use Rattle.wf_outside.specs.Images.{text_numbers}
use Rattle.wf_frames.specs.declared.fields.FrameWord.{FrameWord}
use Rattle.wf_frames.specs.declared.state.Frame.{Frame}
use Rattle.wf_frames.specs.declared.state.FrameState.TheVariants.{Free, InUse, Worn}
use Rattle.wf_frames.specs.Layout.{WordsValue, word_count}
use Rattle.wf_views.specs.declared.records.BornAt.{BornAt}
use Rattle.wf_views.specs.declared.records.Records.{Records}
use Rattle.wf_views.specs.declared.view.TextAt.{TextAt}
use Rattle.wf_views.specs.Views.{ViewValue, view_of}
use Rattle.wf_flat.specs.Accesses.{is_ending}
use Rattle.wf_flat.specs.Memory.{data_in, has_met}
use Rattle.wf_flat.specs.State.{FlatState, GenState, PageState}
use Rattle.wf_effects.specs.Effects.{newborn}
use Rattle.wf_homes.specs.Entries.{data_leaf, entry_for, leaf_to, pointer_to, private_or, right_leaf, shared_leaf}
use Rattle.wf_homes.specs.Homes.{DataOf, Homes, NodeOf, Tenant, TextOf, home_frame, homes_in, is_home, is_worn}
use Rattle.wf_homes.specs.Kept.{HasNodeFor, HasWords, IsKeptFrame, IsKeptPage, IsKeptText, IsKeptView, LiesIn, fields_at, state_of}
use Rattle.wf_homes.specs.Stands.{StandsFor, born_of, living, living_at}
use Rattle.wf_homes.proofs.FoundLemmas.{some_at, some_more}
use Rattle.wf_homes.proofs.ListLemmas.{all_more, any_both, one_or_two}
use Rattle.wf_homes.proofs.PlaceLemmas.{home_low}
use Rattle.wf_space.proofs.MeetLemmas.{some_of}
use Rattle.wf_space.specs.Changes.{born_with, with_changes}
use Rattle.wf_space.specs.Pieces.{ArePerformed}
use Rattle.wf_mapping.specs.declared.nodes.NewNode.{NewNode}
use Rattle.wf_creating.specs.Laws.{StandsInOrder, born_of_parent}
use Rattle.wf_creating.specs.Layout.{nodes_at_birth, number_at_birth, text_at_birth, view_at_birth}
use Rattle.wf_creating.specs.Plans.{birth_changes, birth_pieces}
use Rattle.wf_creating.proofs.ParentLemmas.{patches_same}
use Rattle.wf_created.specs.Created.{CreateStands, MayBeBorn}
use Rattle.wf_created.proofs.HousedLemmas.{IsOther, after_h, after_r, are, at_home_after, get_end, get_other, laid, news, number_is, other_home, values_are, view_new, view_other}
use Rattle.wf_created.proofs.PieceLemmas.{fields_stay, home_stays, written, zero_stays}
use Rattle.wf_created.proofs.TakenLemmas.{frames_born, taken_get, taken_if, taken_long, taken_sum}
use Rattle.wf_created.proofs.ViewLemmas.{new_view_kept}

values_both : (xs ys : List (Tenant × ℕ)) → values_of (xs ++ ys) ≡ values_of xs ++ values_of ys
values_both [] ys = refl
values_both (x ∷ xs) ys = ap (λ (fs : List ℕ). x.1 ∷ fs) (values_both xs ys)

module _ (words new : WordsValue) (r q : Records) (homes : Homes) (s : FlatState) (parent : ℕ) (o : StandsInOrder words r homes s) (may : MayBeBorn s parent)
    (done : ArePerformed words (with_changes r (birth_changes r parent)) (birth_pieces r parent) new q) (whole : length new.items ≡ word_count new.frames) where
  abbrev st : StandsFor words r homes s
  st = o.stands

  abbrev after : FlatState
  after = born_of_parent s parent

  abbrev gen : GenState
  gen = newborn [] s parent None

  abbrev number : ℕ
  number = number_at_birth r

  abbrev texts : List TextAt
  texts = text_at_birth r parent

  abbrev nodes : List NewNode
  nodes = nodes_at_birth r parent

  abbrev view : ViewValue
  view = view_at_birth r parent

  abbrev housed : Homes
  housed = after_h words r homes s parent o may

  abbrev made : Records
  made = after_r words r homes s parent o may

  abbrev taken : List ℕ
  taken = frames_born texts nodes

  other : (t : Tenant) → IsOther number t → home_frame housed t ≡ home_frame homes t
  other t apart = other_home words r homes s parent o may t apart

  stays : (t : Tenant) (f : ℕ) (page : List ℕ) → home_frame homes t ≡ Some f → HasWords words f page → HasWords new f page
  stays t f page e has i lt = home_stays words new r q homes s parent o may done t f i e lt ∙ has i lt

  -- pages of data
  page_kept : (page : PageState) → IsKeptPage words r homes page → IsKeptPage new made housed page
  page_kept page kept =
      let k = some_of (home_frame homes (DataOf page.number)) (LiesIn words r page) kept in
      let lies : LiesIn words r page k.0 = k.2 in
      let same : fields_at new k.0 ≡ fields_at words k.0 = fields_stay words new r q homes s parent o may done k.0 (home_low homes s (DataOf page.number) k.0 st.housed.separate k.1) in
      some_at (home_frame housed (DataOf page.number)) (LiesIn new made page) k.0 (other (DataOf page.number) tt ∙ k.1) (record {
        recorded = lies.recorded;
        same_words = stays (DataOf page.number) k.0 page.words k.1 lies.same_words;
        writes = ap (λ (w : FrameWord). w.writes) same ∙ lies.writes;
        taken = ap (λ (w : FrameWord). w.taken) same ∙ lies.taken;
        live = ap (λ (w : FrameWord). w.live) same ∙ lies.live;
      })

  -- frames
  home_both : (f : ℕ) → is_home housed f ≡ (is_home homes f || is_member nat_eq taken f)
  home_both f =
      ap (λ (fs : List ℕ). is_member nat_eq fs f) (values_both homes.homes (news words r homes s parent o may))
      ∙ any_both (nat_eq f) (values_of homes.homes) (values_of (news words r homes s parent o may))
      ∙ ap (λ (fs : List ℕ). is_home homes f || is_member nat_eq fs f) (values_are words r homes s parent o may)

  state_now : (f : ℕ) (b : Bool) → is_member nat_eq taken f ≡ b → (x : Frame) → x.state ≡ state_of homes f → (taken_if b x).state ≡ state_of housed f
  state_now f true e x is =
      let h : is_home housed f ≡ true = home_both f ∙ ap (λ (b : Bool). is_home homes f || b) e ∙ or_true (is_home homes f) in
      rw h refl
    where
      or_true : (a : Bool) → (a || true) ≡ true
      or_true true = refl
      or_true false = refl
  state_now f false e x is =
      let h : is_home housed f ≡ is_home homes f = home_both f ∙ ap (λ (b : Bool). is_home homes f || b) e ∙ or_false (is_home homes f) in
      is ∙ ap (λ (b : Bool). if b then InUse else (if is_worn homes f then Worn else Free)) (sym h)
    where
      or_false : (a : Bool) → (a || false) ≡ a
      or_false true = refl
      or_false false = refl

  same_incarnation : (b : Bool) (x : Frame) → (taken_if b x).incarnation ≡ x.incarnation
  same_incarnation true x = refl
  same_incarnation false x = refl

  some_mapped : {A : Type 0} (P Q : A → Type 0) (g : A → A) → ((x : A) → P x → Q (g x)) → (k : Option A) → IsSomeAnd k P → IsSomeAnd (option_map g k) Q
  some_mapped P Q g more None h = h
  some_mapped P Q g more (Some x) h = more x h

  frame_kept : (f : ℕ) → f < s.limits.frames → IsKeptFrame new made housed s.births f
  frame_kept f lt =
      let kept : IsKeptFrame words r homes s.births f = st.frames f lt in
      let same : fields_at new f ≡ fields_at words f = fields_stay words new r q homes s parent o may done f lt in
      let at : slice_get made.frames.frames f ≡ option_map (taken_if (is_member nat_eq taken f)) (slice_get r.frames.frames f) = taken_get taken r.frames.frames f in
      record {
        state = subst (λ (k : Option Frame). IsSomeAnd k (λ x. x.state ≡ state_of housed f)) (sym at)
            (some_mapped (λ (x : Frame). x.state ≡ state_of homes f) (λ (x : Frame). x.state ≡ state_of housed f) (taken_if (is_member nat_eq taken f)) (state_now f (is_member nat_eq taken f) refl) (slice_get r.frames.frames f) kept.state);
        incarnation = subst (λ (k : Option Frame). IsSomeAnd k (λ x. x.incarnation ≡ (fields_at new f).inc)) (sym at)
            (some_mapped (λ (x : Frame). x.incarnation ≡ (fields_at words f).inc) (λ (x : Frame). x.incarnation ≡ (fields_at new f).inc) (taken_if (is_member nat_eq taken f))
            (λ x e. same_incarnation (is_member nat_eq taken f) x ∙ e ∙ ap (λ (w : FrameWord). w.inc) (sym same)) (slice_get r.frames.frames f) kept.incarnation);
        few = subst (λ (w : FrameWord). w.inc ≤ s.births) (sym same) kept.few;
        not_live = λ none. ap (λ (w : FrameWord). w.live) same ∙ kept.not_live (λ page e. none page (other (DataOf page) tt ∙ e));
        not_taken = λ none. ap (λ (w : FrameWord). w.taken) same ∙ kept.not_taken (λ page e. none page (other (DataOf page) tt ∙ e));
      }

  -- views that there were
  module _ (g : GenState) (apart : g.number ≢ number) where
    leaf_same : (page : Option PageState) → data_leaf housed page ≡ data_leaf homes page
    leaf_same None = refl
    leaf_same (Some x) = ap (λ (k : Option ℕ). leaf_to k (right_leaf x.write)) (other (DataOf x.number) tt)

    entry_same : (level n : ℕ) → entry_for housed after g.number level n ≡ entry_for homes s g.number level n
    entry_same zero n =
        ap (λ (k : Option ℕ). private_or k (shared_leaf housed after g.number n)) (other (TextOf g.number n) apart)
        ∙ ap (λ (k : ℕ). private_or (home_frame homes (TextOf g.number n)) (if has_met s.met g.number n then k else 0)) (leaf_same (data_in s.pages n))
    entry_same (suc level) n = ap pointer_to (other (NodeOf g.number level n) apart)

    view_kept : (v : ViewValue) → IsKeptView words homes s g v → IsKeptView new housed after g v
    view_kept v kept = record {
      generation = kept.generation;
      parent = kept.parent;
      patches = kept.patches;
      jumps = kept.jumps;
      reach = kept.reach;
      root = other (NodeOf g.number 2 0) apart ∙ kept.root;
      pages = kept.pages;
      nodes = kept.nodes;
      met = record { same = kept.met.same; low = kept.met.low };
      residents = kept.residents;
      text = all_more (IsKeptText words homes g.number) (IsKeptText new housed g.number) (λ page k. (
          let x = some_of (home_frame homes (TextOf g.number page.number)) (λ frame. HasWords words frame page.words) k in
          some_at (home_frame housed (TextOf g.number page.number)) (λ frame. HasWords new frame page.words) x.0 (other (TextOf g.number page.number) apart ∙ x.1) (stays (TextOf g.number page.number) x.0 page.words x.1 x.2)
          )) g.text kept.text;
      leaves = record {
        text = all_more (HasNodeFor homes g.number) (HasNodeFor housed g.number) (λ n h. node_stays n h) (text_numbers g.text) kept.leaves.text;
        pages = all_more (λ page. is_ending page.stage ≡ false → HasNodeFor homes g.number page.number) (λ page. is_ending page.stage ≡ false → HasNodeFor housed g.number page.number) (λ page h e. node_stays page.number (h e)) s.pages kept.leaves.pages;
      };
      spelled = λ level prefix frame e i lt. (
          let was : home_frame homes (NodeOf g.number level prefix) ≡ Some frame = sym (other (NodeOf g.number level prefix) apart) ∙ e in
          home_stays words new r q homes s parent o may done (NodeOf g.number level prefix) frame i was lt ∙ kept.spelled level prefix frame was i lt ∙ sym (entry_same level (prefix * 512 + i)));
    }
      where
        node_stays : (n : ℕ) → HasNodeFor homes g.number n → HasNodeFor housed g.number n
        node_stays n h = ap is_some (other (NodeOf g.number 0 (n / 512)) apart) ∙ h

  abbrev Matches : ℕ → Option GenState → Option ViewValue → Type 0
  Matches g k v = MatchOption k (v ≡ None) (λ gen. IsSomeAnd v (IsKeptView new housed after gen))

  views_kept : (g : ℕ) → Matches g (living_at after g) (view_of made.views g)
  views_kept g = elim (one_or_two g number) [
    | inl same ↦ subst (λ (k : ℕ). Matches k (living_at after k) (view_of made.views k)) (sym same) at_new
    | inr apart ↦ at_old apart
  ]
    where
      at_new : Matches number (living_at after number) (view_of made.views number)
      at_new =
          let there : slice_get after.gens number ≡ Some gen = ap (slice_get after.gens) (number_is words r homes s parent o may) ∙ get_end s.gens gen in
          let lives : living_at after number ≡ Some gen = ap (λ (k : Option GenState). option_and_then living k) there in
          subst (λ (k : Option GenState). Matches number k (view_of made.views number)) (sym lives)
          (subst (λ (v : Option ViewValue). Matches number (Some gen) v) (sym (view_new words r homes s parent o may)) (new_view_kept words new r q homes s parent o may done))

      old_gen : (k : Option GenState) → slice_get s.gens g ≡ k → g ≢ number
          → MatchOption (option_and_then living k) (view_of r.views g ≡ None) (λ gen. IsSomeAnd (view_of r.views g) (IsKeptView words homes s gen)) → Matches g (option_and_then living k) (view_of r.views g)
      old_gen None e apart h = h
      old_gen (Some x) e apart h = by_live x.live refl h
        where
          differs : x.number ≢ number
          differs same = apart (sym (o.tidy.placed g x e) ∙ same)

          by_live : (b : Bool) → x.live ≡ b → MatchOption (option_and_then living (Some x)) (view_of r.views g ≡ None) (λ gen. IsSomeAnd (view_of r.views g) (IsKeptView words homes s gen)) → Matches g (option_and_then living (Some x)) (view_of r.views g)
          by_live true t h =
              let lives : living x ≡ Some x = ap (λ (b : Bool). let k : Option GenState = if b then Some x else None in k) t in
              let old : IsSomeAnd (view_of r.views g) (IsKeptView words homes s x) = subst (λ (m : Option GenState). MatchOption m (view_of r.views g ≡ None) (λ gen. IsSomeAnd (view_of r.views g) (IsKeptView words homes s gen))) lives h in
              subst (λ (m : Option GenState). Matches g m (view_of r.views g)) (sym lives) (some_more (view_of r.views g) (IsKeptView words homes s x) (IsKeptView new housed after x) (λ v e kept. view_kept x differs v kept) old)
          by_live false t h =
              let dead : living x ≡ None = ap (λ (b : Bool). let k : Option GenState = if b then Some x else None in k) t in
              subst (λ (m : Option GenState). Matches g m (view_of r.views g)) (sym dead) (subst (λ (m : Option GenState). MatchOption m (view_of r.views g ≡ None) (λ gen. IsSomeAnd (view_of r.views g) (IsKeptView words homes s gen))) dead h)

      at_old : g ≢ number → Matches g (living_at after g) (view_of made.views g)
      at_old apart =
          let differs : g ≢ length s.gens = (λ same. apart (same ∙ sym (number_is words r homes s parent o may))) in
          let there : living_at after g ≡ living_at s g = ap (λ (k : Option GenState). option_and_then living k) (get_other s.gens gen g differs) in
          subst (λ (k : Option GenState). Matches g k (view_of made.views g)) (sym there)
          (subst (λ (v : Option ViewValue). Matches g (living_at s g) v) (sym (view_other words r homes s parent o may g apart)) (old_gen (slice_get s.gens g) refl apart (st.views g)))

  born_kept : (g : ℕ) → slice_get made.born.items g ≡ option_map born_of (slice_get after.gens g)
  born_kept g =
      let n : number ≡ length s.gens = number_is words r homes s parent o may in
      elim (one_or_two g number) [
        | inl same ↦ (
            let a : slice_get made.born.items g ≡ Some (born_with view) = ap (slice_get made.born.items) same ∙ get_end r.born.items (born_with view) in
            let b : slice_get after.gens g ≡ Some gen = ap (slice_get after.gens) (same ∙ n) ∙ get_end s.gens gen in
            let c : born_with view ≡ born_of gen = ap (λ (k : ℕ). let at : BornAt = record { parent = Some parent; patches = k } in at) (patches_same words r homes s o parent may.live) in
            a ∙ ap (λ (k : BornAt). Some k) c ∙ sym (ap (option_map born_of) b)
            )
        | inr apart ↦ (get_other r.born.items (born_with view) g apart ∙ st.born g ∙ ap (option_map born_of) (sym (get_other s.gens gen g (λ same. apart (same ∙ sym n)))))
      ]

  stands_born : StandsFor new made housed after
  stands_born = record {
    sizes = record {
      of_records = st.sizes.of_records;
      of_words = (written words new r q homes s parent o may done).frames ∙ st.sizes.of_words;
      whole = whole ∙ ap word_count ((written words new r q homes s parent o may done).frames ∙ st.sizes.of_words);
      of_frames = taken_long taken r.frames.frames ∙ st.sizes.of_frames;
      last_birth = st.sizes.last_birth;
    };
    zero_word = zero_stays words new r q homes s parent o may done ∙ st.zero_word;
    housed = are words r homes s parent o may;
    at_home = at_home_after words r homes s parent o may;
    pages = all_more (IsKeptPage words r homes) (IsKeptPage new made housed) page_kept s.pages st.pages;
    frames = frame_kept;
    views = views_kept;
    born = born_kept;
    last = (
        let n : number ≡ length s.gens = number_is words r homes s parent o may in
        let l : length (s.gens ++ gen ∷ []) ≡ length s.gens + 1 = length-append s.gens (gen ∷ []) in
        let k : number ≡ length (s.gens ++ gen ∷ []) - 1 = omega arith in
        ap (λ (m : ℕ). Some m) k);
    births = st.births;
    raised = subst (λ (k : ℕ). s.births ≤ k) (sym (taken_sum taken r.frames.frames)) st.raised;
  }

  pub created : StandsFor new q (homes_in homes after) after
  created = subst (λ (h : Homes). StandsFor new q h after) (sym (laid words r homes s parent o may)) (subst (λ (m : Records). StandsFor new m housed after) (sym (written words new r q homes s parent o may done).records) stands_born)

pub create_standing : CreateStands
create_standing words new r q homes s parent o may done whole = created words new r q homes s parent o may done whole
