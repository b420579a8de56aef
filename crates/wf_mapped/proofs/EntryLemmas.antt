-- The entries of nodes after a mapping.
use Rattle.std.proofs.Common.{◌≡◌, ◌≢◌, ◌⊎◌, ◌<◌, ◌+◌, ◌*◌, ◌/◌, ◌%◌, ◌==◌, ◌++◌, ℕ, zero, suc, List, Bool, true, false, Option, Some, None, length, map, refl, sym, ap, subst, ◌∙◌, inl, inr, arith, if◌then◌else◌}
use Rattle.std.specs.Prelude.{IsSome, option_and_then, slice_index}
use Rattle.std.specs.List.{AllByRecursion}
use Rattle.std.specs.Option.{option_map}
use Rattle.std.proofs.lemmas.Bool.Decides.{nat_tests}
use Rattle.wf_outside.specs.Pages.{page_of}
use Rattle.wf_frames.specs.Layout.{WordsValue, word_count}
use Rattle.wf_sv39.specs.Entries.{pte_node}
use Rattle.wf_views.specs.declared.pages.PageAt.{PageAt}
use Rattle.wf_views.specs.declared.records.Records.{Records}
use Rattle.wf_views.specs.declared.view.TextAt.{TextAt}
use Rattle.wf_views.specs.Lists as views
use Rattle.wf_views.specs.Views.{ViewValue}
use Rattle.wf_flat.specs.Accesses.{is_ending}
use Rattle.wf_flat.specs.Memory.{data_in, has_met}
use Rattle.wf_flat.specs.State.{FlatState, PageState}
use Rattle.wf_effects.specs.Effects.{mapped_pages}
use Rattle.wf_homes.specs.Entries.{SpellsView, data_leaf, entry_for, leaf_to, pointer_to, private_or, right_leaf, shared_leaf}
use Rattle.wf_homes.specs.Homes.{DataOf, Homes, NodeOf, Tenant, TextOf, home_frame}
use Rattle.wf_homes.specs.Kept.{HasNodeFor, IsKeptPage, LiesIn, text_frame, text_page, word_of_frame}
use Rattle.wf_homes.specs.Stands.{StandsFor}
use Rattle.wf_homes.proofs.FoundLemmas.{found_number}
use Rattle.wf_homes.proofs.ListLemmas.{all_more, map_all}
use Rattle.wf_homes.proofs.PlaceLemmas.{home_low}
use Rattle.wf_space.proofs.MeetLemmas.{found_each, some_of}
use Rattle.wf_space.proofs.ZeroLemmas.{found_in}
use Rattle.wf_space.specs.Changes.{with_changes}
use Rattle.wf_space.specs.Pieces.{ArePerformed}
use Rattle.wf_mapping.specs.declared.layout.Mapping.{Mapping}
use Rattle.wf_mapping.specs.declared.nodes.NewNode.{NewNode}
use Rattle.wf_mapping.specs.Laws.{mapped_by}
use Rattle.wf_mapping.specs.Layout.{new_nodes, new_pages}
use Rattle.wf_mapping.specs.Plans.{is_below, map_changes, map_pieces, words_of_node}
use Rattle.wf_flat.proofs.FoundLemmas.{key_of_found}
use Rattle.wf_mapped.proofs.AnyLemmas.{AnyIs, any_wider}
use Rattle.wf_mapped.proofs.HousedLemmas.{IsNewHome, IsNewNode, IsReady, are, housed, new_home, nodes_new, old_home, pages_new}
use Rattle.wf_mapped.proofs.LookLemmas.{IsNodeIn, IsViewOf, node_comes, one_tenant, tenant_of, text_looked}
use Rattle.wf_mapped.proofs.PageLemmas.{found_first, found_past, mapped_number, number_of, sorted_found}
use Rattle.wf_mapped.proofs.WordLemmas.{IsPointerIn, above_of, word_at}

-- a node that is below another, in its parts
pub below_parts : (a n : NewNode) → is_below a n ≡ true → (a.generation ≡ n.generation) × (a.node.level ≡ n.node.level + 1) × (a.node.prefix ≡ n.node.prefix / 512)
below_parts a n e = grind (arith, nat_tests)

pub below_made : (a n : NewNode) → a.generation ≡ n.generation → a.node.level ≡ n.node.level + 1 → a.node.prefix ≡ n.node.prefix / 512 → is_below a n ≡ true
below_made a n g l p =
    let t : (a.generation == n.generation) ≡ true = grind (arith, nat_tests) in
    let u : (a.node.level == n.node.level + 1) ≡ true = grind (arith, nat_tests) in
    let v : (a.node.prefix == n.node.prefix / 512) ≡ true = grind (arith, nat_tests) in
    rw (t, u, v) refl

-- the parts of a node
pub node_parts : (g h level l prefix p : ℕ) → NodeOf g level prefix ≡ NodeOf h l p → (g ≡ h) × (level ≡ l) × (prefix ≡ p)
node_parts g h level l prefix p e = (cc, cc, cc)

pub node_made : (g h level l prefix p : ℕ) → g ≡ h → level ≡ l → prefix ≡ p → NodeOf g level prefix ≡ NodeOf h l p
node_made g h level l prefix p a b c = ap (λ (k : ℕ). NodeOf k level prefix) a ∙ ap (λ (k : ℕ). NodeOf h k prefix) b ∙ ap (NodeOf h l) c

-- a prefix of the level below, by its node's prefix and its place there
pub prefix_of : (a b i : ℕ) → a / 512 ≡ b → a % 512 ≡ i → a ≡ b * 512 + i
prefix_of a b i d m = omega arith

pub prefix_parts : (a b i : ℕ) → i < 512 → a ≡ b * 512 + i → (a / 512 ≡ b) × (a % 512 ≡ i)
prefix_parts a b i li e = (omega arith, omega arith)

module _ (words new : WordsValue) (r q : Records) (homes : Homes) (s : FlatState) (mapping : Mapping) (ready : IsReady words r homes s mapping) (done : ArePerformed words (with_changes r (map_changes r mapping)) (map_pieces r mapping) new q)
    (whole : length new.items ≡ word_count new.frames) where
  abbrev st : StandsFor words r homes s
  st = ready.stands

  abbrev after_s : FlatState
  after_s = mapped_by s mapping

  abbrev after_h : Homes
  after_h = housed r homes mapping

  abbrev pages : List PageAt
  pages = new_pages r mapping

  abbrev nodes : List NewNode
  nodes = new_nodes r mapping

  all_pages : AllByRecursion (λ (p : PageAt). IsNewHome r homes after_h s (DataOf p.page) p.frame) pages
  all_pages = pages_new words r homes s mapping ready

  all_nodes : AllByRecursion (IsNewNode r homes after_h s) nodes
  all_nodes = nodes_new words r homes s mapping ready

  pub pages_low : AllByRecursion (λ (p : PageAt). p.frame < words.frames) pages
  pages_low = (let same : words.frames ≡ s.limits.frames = st.sizes.of_words in all_more (λ (p : PageAt). IsNewHome r homes after_h s (DataOf p.page) p.frame) (λ (p : PageAt). p.frame < words.frames) (λ p is. (let lt : p.frame < s.limits.frames = is.spare.low in omega arith)) pages all_pages)

  pub frame_low : (t : Tenant) (f : ℕ) → home_frame after_h t ≡ Some f → f < words.frames
  frame_low t f e = (let same : words.frames ≡ s.limits.frames = st.sizes.of_words in let lt : f < s.limits.frames = home_low after_h after_s t f (are words r homes s mapping ready).separate e in omega arith)

  pub old : (t : Tenant) (f : ℕ) → home_frame homes t ≡ Some f → home_frame after_h t ≡ Some f
  old t f e = old_home words r homes s mapping ready t f e

  -- a home that was there is none of those that come
  pub no_page : (t : Tenant) (f : ℕ) → home_frame homes t ≡ Some f → AllByRecursion (λ (p : PageAt). p.frame ≢ f) pages
  no_page t f e = all_more (λ (p : PageAt). IsNewHome r homes after_h s (DataOf p.page) p.frame) (λ (p : PageAt). p.frame ≢ f) (λ p is same. (
      let one : t ≡ DataOf p.page = one_tenant words r homes s mapping ready t (DataOf p.page) f (old t f e) (is.now ∙ ap (λ (k : ℕ). Some k) same) in
      let k : Some f ≡ None = sym e ∙ ap (home_frame homes) one ∙ is.before in cc
      )) pages all_pages

  pub no_node : (t : Tenant) (f : ℕ) → home_frame homes t ≡ Some f → AllByRecursion (λ (n : NewNode). n.node.frame ≢ f) nodes
  no_node t f e = all_more (IsNewNode r homes after_h s) (λ (n : NewNode). n.node.frame ≢ f) (λ n is same. (
      let one : t ≡ tenant_of n = one_tenant words r homes s mapping ready t (tenant_of n) f (old t f e) (is.home.now ∙ ap (λ (k : ℕ). Some k) same) in
      let k : Some f ≡ None = sym e ∙ ap (home_frame homes) one ∙ is.home.before in cc
      )) nodes all_nodes

  -- the words of what was there stay, but for pointers
  pub words_stay : (t : Tenant) (f i : ℕ) → home_frame homes t ≡ Some f → ((n : NewNode) → above_of n ≢ t) → i < 512 → word_of_frame new f i ≡ word_of_frame words f i
  words_stay t f i e none li = word_at words new r q homes s mapping st done whole f i (word_of_frame words f i) (frame_low t f (old t f e)) li pages_low
      (all_more (λ (p : PageAt). p.frame ≢ f) (λ (p : PageAt). p.frame ≡ f → 0 ≡ word_of_frame words f i) (λ p apart same. absurd (apart same)) pages (no_page t f e))
      (all_more (λ (n : NewNode). n.node.frame ≢ f) (λ (n : NewNode). n.node.frame ≡ f → slice_index (words_of_node nodes n) i ≡ word_of_frame words f i) (λ n apart same. absurd (apart same)) nodes (no_node t f e))
      (all_more (IsNewNode r homes after_h s) (λ (n : NewNode). IsPointerIn homes f i n → pte_node n.node.frame ≡ word_of_frame words f i) (λ n is point. absurd (none n (one_tenant words r homes s mapping ready (above_of n) t f (old (above_of n) f point.above) (old t f e)))) nodes all_nodes)
      (inl refl)

  -- the words of a page that comes are zeros
  pub page_zeros : (n f i : ℕ) → home_frame after_h (DataOf n) ≡ Some f → AnyIs (λ (p : PageAt). p.frame ≡ f) pages → i < 512 → word_of_frame new f i ≡ 0
  page_zeros n f i e any li = word_at words new r q homes s mapping st done whole f i 0 (frame_low (DataOf n) f e) li pages_low
      (all_more (λ (p : PageAt). IsNewHome r homes after_h s (DataOf p.page) p.frame) (λ (p : PageAt). p.frame ≡ f → 0 ≡ 0) (λ p is same. refl) pages all_pages)
      (all_more (IsNewNode r homes after_h s) (λ (m : NewNode). m.node.frame ≡ f → slice_index (words_of_node nodes m) i ≡ 0) (λ m is same. (
      let one : DataOf n ≡ tenant_of m = one_tenant words r homes s mapping ready (DataOf n) (tenant_of m) f e (is.home.now ∙ ap (λ (k : ℕ). Some k) same) in
      absurd cc
      )) nodes all_nodes)
      (all_more (IsNewNode r homes after_h s) (λ (m : NewNode). IsPointerIn homes f i m → pte_node m.node.frame ≡ 0) (λ m is point. (
      let one : DataOf n ≡ above_of m = one_tenant words r homes s mapping ready (DataOf n) (above_of m) f e (old (above_of m) f point.above) in
      absurd cc
      )) nodes all_nodes)
      (inr (inl any))

  -- pages of data
  pub data_stays : (g p : ℕ) → has_met s.met g p ≡ true → data_in after_s.pages p ≡ data_in s.pages p
  data_stays g p met = sorted_found number_of (s.pages ++ more) p ∙ by_old (data_in s.pages p) refl
    where
      more : List PageState
      more = mapped_pages None mapping.write (page_of mapping.va) s.births mapping.pages

      by_new : (o : Option PageState) → data_in (mapped_pages None mapping.write (page_of mapping.va) s.births mapping.pages) p ≡ o → o ≡ None
      by_new None e = refl
      by_new (Some x) e =
          let un : has_met s.met g p ≡ false = mapped_number (λ n. (h : ℕ) → has_met s.met h n ≡ false) mapping.write (page_of mapping.va) s.births mapping.pages p x ready.may.unmet e g in
          absurd (let k : true ≡ false = sym met ∙ un in cc)

      by_old : (o : Option PageState) → data_in s.pages p ≡ o → data_in (s.pages ++ mapped_pages None mapping.write (page_of mapping.va) s.births mapping.pages) p ≡ data_in s.pages p
      by_old (Some x) e = found_first number_of s.pages (mapped_pages None mapping.write (page_of mapping.va) s.births mapping.pages) p x e ∙ sym e
      by_old None e = found_past number_of s.pages (mapped_pages None mapping.write (page_of mapping.va) s.births mapping.pages) p e ∙ by_new (data_in (mapped_pages None mapping.write (page_of mapping.va) s.births mapping.pages) p) refl ∙ sym e

  shared_after : (g p : ℕ) → shared_leaf after_h after_s g p ≡ shared_leaf homes s g p
  shared_after g p = by_met (has_met s.met g p) refl
    where
      by_home : (x : PageState) → IsKeptPage words r homes x → home_frame after_h (DataOf x.number) ≡ home_frame homes (DataOf x.number)
      by_home x kept = (let h = some_of (home_frame homes (DataOf x.number)) (LiesIn words r x) kept in old (DataOf x.number) h.0 h.1 ∙ sym h.1)

      by_data : (o : Option PageState) → data_in s.pages p ≡ o → data_leaf after_h o ≡ data_leaf homes o
      by_data None e = refl
      by_data (Some x) e = ap (λ (o : Option ℕ). leaf_to o (right_leaf x.write)) (by_home x (found_each (IsKeptPage words r homes) s.pages p x st.pages e))

      by_met : (b : Bool) → has_met s.met g p ≡ b → shared_leaf after_h after_s g p ≡ shared_leaf homes s g p
      by_met false e = rw e refl
      by_met true e = rw e (ap (data_leaf after_h) (data_stays g p e) ∙ by_data (data_in s.pages p) refl)

  pub text_same : (g p : ℕ) → home_frame after_h (TextOf g p) ≡ home_frame homes (TextOf g p)
  text_same g p = by_home (home_frame homes (TextOf g p)) refl
    where
      by_home : (o : Option ℕ) → home_frame homes (TextOf g p) ≡ o → home_frame after_h (TextOf g p) ≡ o
      by_home (Some f) e = old (TextOf g p) f e
      by_home None e = new_home words r homes s mapping ready (TextOf g p) e ∙ text_looked g p pages nodes

  pub leaf_same : (g p : ℕ) → entry_for after_h after_s g 0 p ≡ entry_for homes s g 0 p
  leaf_same g p = ap (λ (o : Option ℕ). private_or o (shared_leaf after_h after_s g p)) (text_same g p) ∙ ap (private_or (home_frame homes (TextOf g p))) (shared_after g p)

  -- there is no leaf where there was no node for it
  pub no_leaf : (g p : ℕ) → IsViewOf words r homes s g → home_frame homes (NodeOf g 0 (p / 512)) ≡ None → entry_for homes s g 0 p ≡ 0
  no_leaf g p is none = ap (λ (o : Option ℕ). private_or o (shared_leaf homes s g p)) no_text ∙ no_shared
    where
      number : is.gen.number ≡ g
      number = ready.tidy.placed g is.gen is.at

      absent : HasNodeFor homes is.gen.number p → ⊥
      absent has = (let there : IsSome (home_frame homes (NodeOf g 0 (p / 512))) = subst (λ (k : ℕ). HasNodeFor homes k p) number has in let k : false ≡ true = subst (λ (o : Option ℕ). IsSome o) none there in cc)

      of_text : (o : Option TextAt) → views.found_by text_page is.view.text p ≡ o → o ≡ None
      of_text None e = refl
      of_text (Some t) e =
          let each : AllByRecursion (HasNodeFor homes is.gen.number) (map text_page is.view.text) = subst (AllByRecursion (HasNodeFor homes is.gen.number)) (sym is.kept.pages) is.kept.leaves.text in
          let has : HasNodeFor homes is.gen.number (text_page t) = found_in text_page (λ t. HasNodeFor homes is.gen.number (text_page t)) is.view.text p t (map_all (λ t. HasNodeFor homes is.gen.number (text_page t)) (HasNodeFor homes is.gen.number) text_page (λ t h. h) is.view.text each) e in
          let same : text_page t ≡ p = found_number text_page is.view.text p t e in
          absurd (absent (subst (HasNodeFor homes is.gen.number) same has))

      no_text : home_frame homes (TextOf g p) ≡ None
      no_text = sym (st.at_home (TextOf g p)) ∙ ap (λ (o : Option ViewValue). option_and_then (λ (v : ViewValue). text_frame v p) o) is.there ∙ ap (option_map (λ (t : TextAt). t.frame)) (of_text (views.found_by text_page is.view.text p) refl)

      by_stage : (x : PageState) → data_in s.pages p ≡ Some x → has_met s.met g p ≡ true → (b : Bool) → is_ending x.stage ≡ b → ⊥
      by_stage x e met true ends =
          let same : x.number ≡ p = key_of_found (λ (y : PageState). y.number) s.pages p x e in
          let un : has_met s.met g x.number ≡ false = found_each (λ (y : PageState). is_ending y.stage ≡ true → (h : ℕ) → has_met s.met h y.number ≡ false) s.pages p x ready.may.met_stay e ends g in
          let k : true ≡ false = sym met ∙ ap (has_met s.met g) (sym same) ∙ un in cc
      by_stage x e met false ends =
          let same : x.number ≡ p = key_of_found (λ (y : PageState). y.number) s.pages p x e in
          let has : HasNodeFor homes is.gen.number x.number = found_each (λ (y : PageState). is_ending y.stage ≡ false → HasNodeFor homes is.gen.number y.number) s.pages p x is.kept.leaves.pages e ends in
          absent (subst (HasNodeFor homes is.gen.number) same has)

      by_data : (o : Option PageState) → data_in s.pages p ≡ o → has_met s.met g p ≡ true → data_leaf homes o ≡ 0
      by_data None e met = refl
      by_data (Some x) e met = absurd (by_stage x e met (is_ending x.stage) refl)

      no_shared : shared_leaf homes s g p ≡ 0
      no_shared = by_met (has_met s.met g p) refl
        where
          by_met : (b : Bool) → has_met s.met g p ≡ b → (if has_met s.met g p then data_leaf homes (data_in s.pages p) else 0) ≡ 0
          by_met false e = rw e refl
          by_met true e = rw e (by_data (data_in s.pages p) refl e)

  -- a pointer to a new node is the entry for it
  pub entry_is : (g level p : ℕ) (n : NewNode) → IsNewNode r homes after_h s n → tenant_of n ≡ NodeOf g level p → pte_node n.node.frame ≡ pointer_to (home_frame after_h (NodeOf g level p))
  entry_is g level p n is same = ap pointer_to (sym is.home.now ∙ ap (home_frame after_h) same)

  -- the words of a node that was there
  pub old_node : (g level prefix f i : ℕ) → SpellsView words homes s g → home_frame homes (NodeOf g level prefix) ≡ Some f → i < 512 → word_of_frame new f i ≡ entry_for after_h after_s g level (prefix * 512 + i)
  old_node g zero prefix f i spells e li =
      words_stay (NodeOf g 0 prefix) f i e (λ n same. (let two = node_parts n.generation g (n.node.level + 1) 0 (n.node.prefix / 512) prefix same in absurd (let k : n.node.level + 1 ≡ 0 = two.1 in omega arith))) li
      ∙ spells 0 prefix f e i li ∙ sym (leaf_same g (prefix * 512 + i))
  old_node g (suc level) prefix f i spells e li =
      word_at words new r q homes s mapping st done whole f i (pointer_to (home_frame after_h (NodeOf g level (prefix * 512 + i)))) (frame_low (NodeOf g (suc level) prefix) f (old (NodeOf g (suc level) prefix) f e)) li pages_low
      (all_more (λ (p : PageAt). p.frame ≢ f) (λ (p : PageAt). p.frame ≡ f → 0 ≡ pointer_to (home_frame after_h (NodeOf g level (prefix * 512 + i)))) (λ p apart same. absurd (apart same)) pages (no_page (NodeOf g (suc level) prefix) f e))
      (all_more (λ (n : NewNode). n.node.frame ≢ f) (λ (n : NewNode). n.node.frame ≡ f → slice_index (words_of_node nodes n) i ≡ pointer_to (home_frame after_h (NodeOf g level (prefix * 512 + i)))) (λ n apart same. absurd (apart same)) nodes (no_node (NodeOf g (suc level) prefix) f e))
      (all_more (IsNewNode r homes after_h s) (λ (n : NewNode). IsPointerIn homes f i n → pte_node n.node.frame ≡ pointer_to (home_frame after_h (NodeOf g level (prefix * 512 + i)))) (λ n is point. entry_is g level (prefix * 512 + i) n is (tenant_is n point)) nodes all_nodes)
      (by_home (home_frame homes (NodeOf g level (prefix * 512 + i))) refl)
    where
      tenant_is : (n : NewNode) → IsPointerIn homes f i n → tenant_of n ≡ NodeOf g level (prefix * 512 + i)
      tenant_is n point =
          let one : above_of n ≡ NodeOf g (suc level) prefix = one_tenant words r homes s mapping ready (above_of n) (NodeOf g (suc level) prefix) f (old (above_of n) f point.above) (old (NodeOf g (suc level) prefix) f e) in
          let two = node_parts n.generation g (n.node.level + 1) (suc level) (n.node.prefix / 512) prefix one in
          let l : n.node.level + 1 ≡ suc level = two.1 in
          node_made n.generation g n.node.level level n.node.prefix (prefix * 512 + i) two.0 (omega arith) (prefix_of n.node.prefix prefix i two.2 point.place)

      points : (k : ℕ) (n : NewNode) → IsNodeIn (NodeOf g level (prefix * 512 + i)) k n → IsPointerIn homes f i n
      points k n is =
          let two = node_parts n.generation g n.node.level level n.node.prefix (prefix * 512 + i) is.tenant in
          let parts = prefix_parts n.node.prefix prefix i li two.2 in
          let l : n.node.level ≡ level = two.1 in
          let above : above_of n ≡ NodeOf g (suc level) prefix = node_made n.generation g (n.node.level + 1) (suc level) (n.node.prefix / 512) prefix two.0 (omega arith) parts.0 in
          record { above = ap (home_frame homes) above ∙ e; place = parts.1 }

      by_after : (o : Option ℕ) → home_frame after_h (NodeOf g level (prefix * 512 + i)) ≡ o → home_frame homes (NodeOf g level (prefix * 512 + i)) ≡ None
          → (word_of_frame words f i ≡ pointer_to o) ⊎ (AnyIs (λ (p : PageAt). p.frame ≡ f) pages ⊎ (AnyIs (λ (n : NewNode). n.node.frame ≡ f) nodes ⊎ AnyIs (IsPointerIn homes f i) nodes))
      by_after None a none = inl (spells (suc level) prefix f e i li ∙ ap pointer_to none)
      by_after (Some k) a none = inr (inr (inr (any_wider (IsNodeIn (NodeOf g level (prefix * 512 + i)) k) (IsPointerIn homes f i) (points k) nodes (node_comes words r homes s mapping ready g level (prefix * 512 + i) k none a))))

      by_home : (o : Option ℕ) → home_frame homes (NodeOf g level (prefix * 512 + i)) ≡ o
          → (word_of_frame words f i ≡ pointer_to (home_frame after_h (NodeOf g level (prefix * 512 + i)))) ⊎ (AnyIs (λ (p : PageAt). p.frame ≡ f) pages ⊎ (AnyIs (λ (n : NewNode). n.node.frame ≡ f) nodes ⊎ AnyIs (IsPointerIn homes f i) nodes))
      by_home (Some k) a = inl (spells (suc level) prefix f e i li ∙ ap pointer_to (a ∙ sym (old (NodeOf g level (prefix * 512 + i)) k a)))
      by_home None a = by_after (home_frame after_h (NodeOf g level (prefix * 512 + i))) refl a
