-- A page of data is Going: what words and records stand for then.
use Rattle.std.proofs.Common.{◌≡◌, ◌+◌, ◌*◌, ◌==◌, ◌++◌, ℕ, zero, suc, List, [], ◌∷◌, false, not, Option, Some, None, map, refl, sym, ap, ◌∙◌, inl, inr, arith, if◌then◌else◌}
use Rattle.std.specs.Prelude.{IsSomeAnd, MatchOption}
use Rattle.std.specs.Option.{option_map}
use Rattle.std.specs.List.{AllByRecursion, flat_map}
use Rattle.std.specs.Set.{is_member}
use Rattle.std.proofs.lemmas.Bool.Decides.{nat_tests}
use Rattle.wf_frames.specs.Layout.{WordsValue}
use Rattle.wf_views.specs.declared.pages.PageAt.{PageAt}
use Rattle.wf_views.specs.declared.plan.Change.TheVariants as change
use Rattle.wf_views.specs.declared.records.Records.{Records}
use Rattle.wf_views.specs.Pages.{made_going, page_at, page_number}
use Rattle.wf_views.specs.Views.{ViewValue, view_of}
use Rattle.wf_flat.specs.Accesses.{is_ending}
use Rattle.wf_flat.specs.Changes.{change_page}
use Rattle.wf_flat.specs.Memory.{data_in, has_met}
use Rattle.wf_flat.specs.State.{FlatState, GenState, PageState}
use Rattle.wf_flat.proofs.FoundLemmas.{key_of_found}
use Rattle.wf_homes.specs.Homes.{DataOf, Homes, NodeOf, Tenant, TextOf, home_frame, node_tenants, same_tenant, tenants_of, text_tenants}
use Rattle.wf_homes.specs.Entries.{SpellsView, data_leaf, private_or, shared_leaf}
use Rattle.wf_homes.specs.Kept.{HasNodeFor, IsKeptFrame, IsKeptPage, IsKeptView, LiesIn, recorded_frame}
use Rattle.wf_homes.specs.Stands.{StandsFor, living_at}
use Rattle.wf_homes.proofs.FoundLemmas.{found_changed, some_more}
use Rattle.wf_homes.proofs.ListLemmas.{all_map, true_or_false}
use Rattle.wf_space.proofs.MeetLemmas.{found_each, some_of}
use Rattle.wf_space.specs.Changes.{with_change}
use Rattle.wf_space.specs.Leaving.{GoingStands, going}

-- what holds of each in two ways
all_two : (P Q : PageState → Type 0) (xs : List PageState) → AllByRecursion P xs → AllByRecursion Q xs → AllByRecursion (λ x. P x × Q x) xs
all_two P Q [] a b = tt
all_two P Q (x ∷ xs) a b = ((a.0, b.0), all_two P Q xs a.1 b.1)

abbrev pub gone_if : ℕ → PageState → PageState
gone_if page p = if p.number == page then going p else p

numbers_same : (page : ℕ) (ps : List PageState) → map (λ (p : PageState). DataOf p.number) (map (gone_if page) ps) ≡ map (λ (p : PageState). DataOf p.number) ps
numbers_same page [] = refl
numbers_same page (p ∷ ps) = elim (true_or_false (p.number == page)) [
  | inl t ↦ (rw t (ap (λ (ts : List Tenant). DataOf p.number ∷ ts) (numbers_same page ps)))
  | inr t ↦ (rw t (ap (λ (ts : List Tenant). DataOf p.number ∷ ts) (numbers_same page ps)))
]

leaf_same : (homes : Homes) (page : ℕ) (ps : List PageState) (q : ℕ) → data_leaf homes (data_in (map (gone_if page) ps) q) ≡ data_leaf homes (data_in ps q)
leaf_same homes page [] q = refl
leaf_same homes page (p ∷ ps) q = elim (true_or_false (p.number == page)) [
  | inl t ↦ (elim (true_or_false (p.number == q)) [
    | inl u ↦ (rw (t, u) refl)
    | inr u ↦ (rw (t, u) (leaf_same homes page ps q))
  ])
  | inr t ↦ (elim (true_or_false (p.number == q)) [
    | inl u ↦ (rw (t, u) refl)
    | inr u ↦ (rw (t, u) (leaf_same homes page ps q))
  ])
]

module _ (words : WordsValue) (r : Records) (homes : Homes) (s : FlatState) (page : ℕ) (leaving : PageState) (st : StandsFor words r homes s) (there : data_in s.pages page ≡ Some leaving) (stays : is_ending leaving.stage ≡ false) where
  abbrev after_r : Records
  after_r = with_change r (change.Going page)

  abbrev after_s : FlatState
  after_s = change_page s page going

  -- what is recorded
  recorded_ending : (p : PageState) → IsKeptPage words r homes p → option_map (λ (x : PageAt). x.ending) (page_at r.pages p.number) ≡ Some (is_ending p.stage)
  recorded_ending p kept = (let f = some_of (home_frame homes (DataOf p.number)) (LiesIn words r p) kept in ap (option_map (λ (x : PageAt). x.ending)) f.2.recorded)

  number : leaving.number ≡ page
  number = key_of_found (λ (q : PageState). q.number) s.pages page leaving there

  not_ending : (p : PageState) → IsKeptPage words r homes p → p.number ≡ page → is_ending p.stage ≡ false
  not_ending p kept same =
      let a : option_map (λ (x : PageAt). x.ending) (page_at r.pages p.number) ≡ Some (is_ending p.stage) = recorded_ending p kept in
      let b : option_map (λ (x : PageAt). x.ending) (page_at r.pages leaving.number) ≡ Some (is_ending leaving.stage) = recorded_ending leaving (found_each (IsKeptPage words r homes) s.pages page leaving st.pages there) in
      let c : Some (is_ending p.stage) ≡ Some (is_ending leaving.stage) = sym a ∙ ap (λ (n : ℕ). option_map (λ (x : PageAt). x.ending) (page_at r.pages n)) (same ∙ sym number) ∙ b in
      let d : is_ending p.stage ≡ is_ending leaving.stage = cc in
      d ∙ stays

  page_after : (n : ℕ) → page_at after_r.pages n ≡ option_map (λ x. if page_number x == page then made_going x else x) (page_at r.pages n)
  page_after n = found_changed page_number made_going (λ x. refl) r.pages.items page n

  page_kept : (p : PageState) → IsKeptPage words r homes p → IsKeptPage words after_r homes (gone_if page p)
  page_kept p kept = elim (true_or_false (p.number == page)) [
    | inl t ↦ rw t (some_more (home_frame homes (DataOf p.number)) (LiesIn words r p) (LiesIn words after_r (going p)) (λ f e lies. (
        let same : p.number ≡ page = grind (arith, nat_tests) in
        let live : is_ending p.stage ≡ false = not_ending p kept same in
        record {
          recorded = page_after p.number ∙ rw lies.recorded (rw t refl);
          same_words = lies.same_words;
          writes = lies.writes;
          taken = lies.taken;
          live = lies.live ∙ ap not live;
        }
        )) kept)
    | inr t ↦ rw t (some_more (home_frame homes (DataOf p.number)) (LiesIn words r p) (LiesIn words after_r p) (λ f e lies. record {
      recorded = page_after p.number ∙ rw lies.recorded (rw t refl);
      same_words = lies.same_words;
      writes = lies.writes;
      taken = lies.taken;
      live = lies.live;
    }) kept)
  ]

  frame_kept : (f : ℕ) → IsKeptFrame words r homes s.births f → IsKeptFrame words after_r homes s.births f
  frame_kept f kept = record {
    state = kept.state;
    incarnation = kept.incarnation;
    few = kept.few;
    not_live = kept.not_live;
    not_taken = kept.not_taken;
  }

  shared_same : (g q : ℕ) → shared_leaf homes after_s g q ≡ shared_leaf homes s g q
  shared_same g q = ap (λ (n : ℕ). if has_met s.met g q then n else 0) (leaf_same homes page s.pages q)

  spelled_kept : (k : ℕ) → SpellsView words homes s k → SpellsView words homes after_s k
  spelled_kept k spells zero prefix f e i lt = spells zero prefix f e i lt ∙ ap (private_or (home_frame homes (TextOf k (prefix * 512 + i)))) (sym (shared_same k (prefix * 512 + i)))
  spelled_kept k spells (suc level) prefix f e i lt = spells (suc level) prefix f e i lt

  leaf_node : (g : ℕ) (p : PageState) → IsKeptPage words r homes p × (is_ending p.stage ≡ false → HasNodeFor homes g p.number) → is_ending (gone_if page p).stage ≡ false → HasNodeFor homes g (gone_if page p).number
  leaf_node g p two = elim (true_or_false (p.number == page)) [
    | inl t ↦ rw t (λ e. two.1 (let same : p.number ≡ page = grind (arith, nat_tests) in not_ending p two.0 same))
    | inr t ↦ rw t two.1
  ]

  view_kept : (gen : GenState) (v : ViewValue) → IsKeptView words homes s gen v → IsKeptView words homes after_s gen v
  view_kept gen v kept = record {
    generation = kept.generation;
    parent = kept.parent;
    patches = kept.patches;
    jumps = kept.jumps;
    reach = kept.reach;
    root = kept.root;
    pages = kept.pages;
    nodes = kept.nodes;
    met = record { same = kept.met.same; low = kept.met.low };
    residents = kept.residents;
    text = kept.text;
    leaves = record {
      text = kept.leaves.text;
      pages = all_map (λ p. IsKeptPage words r homes p × (is_ending p.stage ≡ false → HasNodeFor homes gen.number p.number)) (λ p. is_ending p.stage ≡ false → HasNodeFor homes gen.number p.number) (gone_if page)
          (leaf_node gen.number) s.pages (all_two (IsKeptPage words r homes) (λ p. is_ending p.stage ≡ false → HasNodeFor homes gen.number p.number) s.pages st.pages kept.leaves.pages);
    };
    spelled = spelled_kept gen.number kept.spelled;
  }

  views_kept : (k : ℕ) → MatchOption (living_at s k) (view_of r.views k ≡ None) (λ gen. IsSomeAnd (view_of r.views k) (IsKeptView words homes s gen))
      → MatchOption (living_at after_s k) (view_of after_r.views k ≡ None) (λ gen. IsSomeAnd (view_of after_r.views k) (IsKeptView words homes after_s gen))
  views_kept k = by_living (living_at s k)
    where
      by_living : (o : Option GenState) → MatchOption o (view_of r.views k ≡ None) (λ gen. IsSomeAnd (view_of r.views k) (IsKeptView words homes s gen))
          → MatchOption o (view_of r.views k ≡ None) (λ gen. IsSomeAnd (view_of r.views k) (IsKeptView words homes after_s gen))
      by_living None e = e
      by_living (Some gen) kept = some_more (view_of r.views k) (IsKeptView words homes s gen) (IsKeptView words homes after_s gen) (λ v e h. view_kept gen v h) kept

  home_kept : (t : Tenant) → recorded_frame after_r t ≡ recorded_frame r t
  home_kept (TextOf k n) = refl
  home_kept (NodeOf k level prefix) = refl
  home_kept (DataOf n) = rw (page_after n) (by_page (page_at r.pages n))
    where
      by_page : (o : Option PageAt) → option_map (λ (x : PageAt). x.frame) (option_map (λ x. if page_number x == page then made_going x else x) o) ≡ option_map (λ (x : PageAt). x.frame) o
      by_page None = refl
      by_page (Some x) = elim (true_or_false (x.page == page)) [
        | inl t ↦ rw t refl
        | inr t ↦ rw t refl
      ]

  tenants_same : tenants_of after_s ≡ tenants_of s
  tenants_same = ap (λ (ts : List Tenant). flat_map text_tenants s.gens ++ ts ++ flat_map node_tenants s.gens) (numbers_same page s.pages)

  pub standing : StandsFor words after_r homes after_s
  standing = record {
    sizes = record {
      of_records = st.sizes.of_records;
      of_words = st.sizes.of_words;
      whole = st.sizes.whole;
      of_frames = st.sizes.of_frames;
      last_birth = st.sizes.last_birth;
    };
    zero_word = st.zero_word;
    housed = record {
      separate = record { once = st.housed.separate.once; apart = st.housed.separate.apart; low = st.housed.separate.low; counted = st.housed.separate.counted };
      each = λ t. st.housed.each t ∙ ap (λ (ts : List Tenant). is_member same_tenant ts t) (sym tenants_same);
    };
    at_home = λ t. home_kept t ∙ st.at_home t;
    pages = all_map (IsKeptPage words r homes) (IsKeptPage words after_r homes) (gone_if page) page_kept s.pages st.pages;
    frames = λ f lt. frame_kept f (st.frames f lt);
    views = λ k. views_kept k (st.views k);
    born = st.born;
    last = st.last;
    births = st.births;
    raised = st.raised;
  }

pub going_standing : GoingStands
going_standing words r homes s page leaving st there stays = standing words r homes s page leaving st there stays
