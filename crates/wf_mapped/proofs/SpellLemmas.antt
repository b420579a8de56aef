-- Nodes after a mapping: each spells what it is to.
use Rattle.std.proofs.Common.{◌≡◌, ◌⊎◌, ◌<◌, ◌+◌, ◌*◌, ◌/◌, ℕ, zero, suc, List, true, false, Option, Some, None, length, refl, sym, ap, subst, ◌∙◌, inl, inr, arith, is_some}
use Rattle.std.specs.Prelude.{IsSome, slice_index}
use Rattle.std.specs.List.{AllByRecursion}
use Rattle.wf_frames.specs.Layout.{WordsValue, word_count}
use Rattle.wf_sv39.specs.Entries.{pte_node}
use Rattle.wf_views.specs.declared.pages.PageAt.{PageAt}
use Rattle.wf_views.specs.declared.records.Records.{Records}
use Rattle.wf_flat.specs.State.{FlatState}
use Rattle.wf_homes.specs.Entries.{SpellsView, entry_for, pointer_to}
use Rattle.wf_homes.specs.Homes.{DataOf, Homes, NodeOf, home_frame}
use Rattle.wf_homes.specs.Kept.{word_of_frame}
use Rattle.wf_homes.specs.Stands.{StandsFor}
use Rattle.wf_homes.proofs.ListLemmas.{all_more}
use Rattle.wf_space.specs.Changes.{with_changes}
use Rattle.wf_space.specs.Pieces.{ArePerformed}
use Rattle.wf_mapping.specs.Blanks.{blank}
use Rattle.wf_mapping.specs.declared.layout.Mapping.{Mapping}
use Rattle.wf_mapping.specs.declared.nodes.NewNode.{NewNode}
use Rattle.wf_mapping.specs.Laws.{mapped_by}
use Rattle.wf_mapping.specs.Layout.{new_nodes, new_pages}
use Rattle.wf_mapping.specs.Plans.{map_changes, map_pieces, words_of_node}
use Rattle.wf_mapped.proofs.AnyLemmas.{AnyIs, any_wider}
use Rattle.wf_mapped.proofs.EntryLemmas.{below_made, below_parts, entry_is, frame_low, leaf_same, no_leaf, node_made, node_parts, old, old_node, pages_low, prefix_of, prefix_parts}
use Rattle.wf_mapped.proofs.HousedLemmas.{IsInTree, IsNewHome, IsNewNode, IsReady, housed, nodes_new, pages_new}
use Rattle.wf_mapped.proofs.LookLemmas.{IsNodeIn, IsViewOf, node_comes, one_tenant, tenant_of, upper_stands}
use Rattle.wf_mapped.proofs.WordLemmas.{IsPointedAt, IsPointerIn, above_of, blank_length, node_at, word_at, zero_at}

module _ (words new : WordsValue) (r q : Records) (homes : Homes) (s : FlatState) (mapping : Mapping) (ready : IsReady words r homes s mapping) (done : ArePerformed words (with_changes r (map_changes r mapping)) (map_pieces r mapping) new q)
    (whole : length new.items ≡ word_count new.frames) where
  abbrev st : StandsFor words r homes s
  st = ready.stands

  abbrev after_s : FlatState
  after_s = mapped_by s mapping

  abbrev after_h : Homes
  after_h = housed r homes mapping

  abbrev pages : List PageAt
  pages = new_pages r mapping

  abbrev nodes : List NewNode
  nodes = new_nodes r mapping

  all_nodes : AllByRecursion (IsNewNode r homes after_h s) nodes
  all_nodes = nodes_new words r homes s mapping ready

  -- a word of a new node is that of its page
  new_word : (g level prefix f i v : ℕ) → home_frame homes (NodeOf g level prefix) ≡ None → home_frame after_h (NodeOf g level prefix) ≡ Some f → i < 512
      → ((n : NewNode) → IsNewNode r homes after_h s n → tenant_of n ≡ NodeOf g level prefix → slice_index (words_of_node nodes n) i ≡ v) → word_of_frame new f i ≡ v
  new_word g level prefix f i v none e li each = word_at words new r q homes s mapping st done whole f i v (frame_low words new r q homes s mapping ready done whole (NodeOf g level prefix) f e) li (pages_low words new r q homes s mapping ready done whole)
      (all_more (λ (p : PageAt). IsNewHome r homes after_h s (DataOf p.page) p.frame) (λ (p : PageAt). p.frame ≡ f → 0 ≡ v) (λ p is same. (
      let one : NodeOf g level prefix ≡ DataOf p.page = one_tenant words r homes s mapping ready (NodeOf g level prefix) (DataOf p.page) f e (is.now ∙ ap (λ (k : ℕ). Some k) same) in
      absurd cc
      )) pages (pages_new words r homes s mapping ready))
      (all_more (IsNewNode r homes after_h s) (λ (n : NewNode). n.node.frame ≡ f → slice_index (words_of_node nodes n) i ≡ v) (λ n is same. each n is (one_tenant words r homes s mapping ready (tenant_of n) (NodeOf g level prefix) f (is.home.now ∙ ap (λ (k : ℕ). Some k) same) e)) nodes all_nodes)
      (all_more (IsNewNode r homes after_h s) (λ (n : NewNode). IsPointerIn homes f i n → pte_node n.node.frame ≡ v) (λ n is point. (
      let one : above_of n ≡ NodeOf g level prefix = one_tenant words r homes s mapping ready (above_of n) (NodeOf g level prefix) f (old words new r q homes s mapping ready done whole (above_of n) f point.above) e in
      absurd (let k : Some f ≡ None = sym point.above ∙ ap (home_frame homes) one ∙ none in cc)
      )) nodes all_nodes)
      (inr (inr (inl (any_wider (IsNodeIn (NodeOf g level prefix) f) (λ (n : NewNode). n.node.frame ≡ f) (λ n is. is.frame) nodes (node_comes words r homes s mapping ready g level prefix f none e)))))

  in_blank : (i : ℕ) → i < 512 → i < length blank
  in_blank i li = (let len : length blank ≡ 512 = blank_length in omega arith)

  -- a new node at level 0
  new_leaves : (g prefix f i : ℕ) → IsViewOf words r homes s g → home_frame homes (NodeOf g 0 prefix) ≡ None → home_frame after_h (NodeOf g 0 prefix) ≡ Some f → i < 512 → word_of_frame new f i ≡ entry_for after_h after_s g 0 (prefix * 512 + i)
  new_leaves g prefix f i is none e li =
      let d : (prefix * 512 + i) / 512 ≡ prefix = omega arith in
      let none_for : home_frame homes (NodeOf g 0 ((prefix * 512 + i) / 512)) ≡ None = ap (λ (k : ℕ). home_frame homes (NodeOf g 0 k)) d ∙ none in
      new_word g 0 prefix f i 0 none e li (λ n new_n same. node_at nodes n blank i 0 (in_blank i li)
      (all_more (IsNewNode r homes after_h s) (λ (m : NewNode). IsPointedAt n i m → pte_node m.node.frame ≡ 0) (λ m new_m point. (
      let two = node_parts n.generation g n.node.level 0 n.node.prefix prefix same in
      let parts = below_parts n m point.below in
      let a : n.node.level ≡ 0 = two.1 in
      let b : n.node.level ≡ m.node.level + 1 = parts.1 in
      absurd (omega arith)
      )) nodes all_nodes)
      (inl (zero_at 512 i)))
      ∙ sym (leaf_same words new r q homes s mapping ready done whole g (prefix * 512 + i) ∙ no_leaf words new r q homes s mapping ready done whole g (prefix * 512 + i) is none_for)

  -- no node is below one that is new, but new ones
  no_below : (g level prefix p k : ℕ) → IsViewOf words r homes s g → home_frame homes (NodeOf g (suc level) prefix) ≡ None → IsInTree (suc level) prefix → p / 512 ≡ prefix → home_frame homes (NodeOf g level p) ≡ Some k → ⊥
  no_below g level prefix p k is none (inl lt) d e =
      let z : level ≡ 0 = omega arith in
      let below : IsSome (home_frame homes (NodeOf g 0 p)) = ap is_some (ap (λ (l : ℕ). home_frame homes (NodeOf g l p)) (sym z) ∙ e) in
      let above : IsSome (home_frame homes (NodeOf g 1 (p / 512))) = upper_stands words r homes s mapping ready g p is below in
      let one : suc level ≡ 1 = ap suc z in
      let same : home_frame homes (NodeOf g 1 (p / 512)) ≡ None = ap (λ (x : ℕ). home_frame homes (NodeOf g 1 x)) d ∙ ap (λ (l : ℕ). home_frame homes (NodeOf g l prefix)) (sym one) ∙ none in
      let k : false ≡ true = sym (ap is_some same) ∙ above in cc
  no_below g level prefix p k is none (inr root) d e =
      let number : is.gen.number ≡ g = ready.tidy.placed g is.gen is.at in
      let there : home_frame homes (NodeOf g 2 0) ≡ Some is.view.root = ap (λ (h : ℕ). home_frame homes (NodeOf h 2 0)) (sym number) ∙ is.kept.root in
      let same : NodeOf g (suc level) prefix ≡ NodeOf g 2 0 = node_made g g (suc level) 2 prefix 0 refl root.0 root.1 in
      let k : Some is.view.root ≡ None = sym there ∙ ap (home_frame homes) (sym same) ∙ none in cc

  -- a new node above level 0
  new_pointers : (g level prefix f i : ℕ) → IsViewOf words r homes s g → home_frame homes (NodeOf g (suc level) prefix) ≡ None → home_frame after_h (NodeOf g (suc level) prefix) ≡ Some f → i < 512
      → word_of_frame new f i ≡ pointer_to (home_frame after_h (NodeOf g level (prefix * 512 + i)))
  new_pointers g level prefix f i is none e li =
      new_word g (suc level) prefix f i (pointer_to (home_frame after_h (NodeOf g level (prefix * 512 + i)))) none e li (λ n new_n same. node_at nodes n blank i (pointer_to (home_frame after_h (NodeOf g level (prefix * 512 + i)))) (in_blank i li)
      (all_more (IsNewNode r homes after_h s) (λ (m : NewNode). IsPointedAt n i m → pte_node m.node.frame ≡ pointer_to (home_frame after_h (NodeOf g level (prefix * 512 + i))))
      (λ m new_m point. entry_is words new r q homes s mapping ready done whole g level (prefix * 512 + i) m new_m (tenant_is n m same point)) nodes all_nodes)
      (by_home n same (in_tree n new_n same) (home_frame homes (NodeOf g level (prefix * 512 + i))) refl))
    where
      d : (prefix * 512 + i) / 512 ≡ prefix
      d = omega arith

      in_tree : (n : NewNode) → IsNewNode r homes after_h s n → tenant_of n ≡ NodeOf g (suc level) prefix → IsInTree (suc level) prefix
      in_tree n new_n same =
          let two = node_parts n.generation g n.node.level (suc level) n.node.prefix prefix same in
          subst (IsInTree (suc level)) two.2 (subst (λ (l : ℕ). IsInTree l n.node.prefix) two.1 new_n.level)

      tenant_is : (n m : NewNode) → tenant_of n ≡ NodeOf g (suc level) prefix → IsPointedAt n i m → tenant_of m ≡ NodeOf g level (prefix * 512 + i)
      tenant_is n m same point =
          let two = node_parts n.generation g n.node.level (suc level) n.node.prefix prefix same in
          let parts = below_parts n m point.below in
          let a : n.node.level ≡ suc level = two.1 in
          let b : n.node.level ≡ m.node.level + 1 = parts.1 in
          node_made m.generation g m.node.level level m.node.prefix (prefix * 512 + i) (sym parts.0 ∙ two.0) (omega arith) (prefix_of m.node.prefix prefix i (sym parts.2 ∙ two.2) point.place)

      points : (n : NewNode) → tenant_of n ≡ NodeOf g (suc level) prefix → (k : ℕ) (m : NewNode) → IsNodeIn (NodeOf g level (prefix * 512 + i)) k m → IsPointedAt n i m
      points n same k m node =
          let two = node_parts n.generation g n.node.level (suc level) n.node.prefix prefix same in
          let below = node_parts m.generation g m.node.level level m.node.prefix (prefix * 512 + i) node.tenant in
          let parts = prefix_parts m.node.prefix prefix i li below.2 in
          let a : n.node.level ≡ suc level = two.1 in
          let b : m.node.level ≡ level = below.1 in
          record { below = below_made n m (two.0 ∙ sym below.0) (omega arith) (two.2 ∙ sym parts.0); place = parts.1 }

      by_after : (n : NewNode) → tenant_of n ≡ NodeOf g (suc level) prefix → home_frame homes (NodeOf g level (prefix * 512 + i)) ≡ None → (o : Option ℕ) → home_frame after_h (NodeOf g level (prefix * 512 + i)) ≡ o → (slice_index blank i ≡ pointer_to o) ⊎ AnyIs (IsPointedAt n i) nodes
      by_after n same no_home None a = inl (zero_at 512 i)
      by_after n same no_home (Some k) a = inr (any_wider (IsNodeIn (NodeOf g level (prefix * 512 + i)) k) (IsPointedAt n i) (points n same k) nodes (node_comes words r homes s mapping ready g level (prefix * 512 + i) k no_home a))

      by_home : (n : NewNode) → tenant_of n ≡ NodeOf g (suc level) prefix → IsInTree (suc level) prefix → (o : Option ℕ) → home_frame homes (NodeOf g level (prefix * 512 + i)) ≡ o
          → (slice_index blank i ≡ pointer_to (home_frame after_h (NodeOf g level (prefix * 512 + i)))) ⊎ AnyIs (IsPointedAt n i) nodes
      by_home n same tree (Some k) a = absurd (no_below g level prefix (prefix * 512 + i) k is none tree d a)
      by_home n same tree None a = by_after n same a (home_frame after_h (NodeOf g level (prefix * 512 + i))) refl

  pub spelled_after : (g : ℕ) → IsViewOf words r homes s g → SpellsView new after_h after_s g
  spelled_after g is level prefix f e i li = by_home (home_frame homes (NodeOf g level prefix)) refl
    where
      by_level : (l : ℕ) → home_frame homes (NodeOf g l prefix) ≡ None → home_frame after_h (NodeOf g l prefix) ≡ Some f → word_of_frame new f i ≡ entry_for after_h after_s g l (prefix * 512 + i)
      by_level zero none a = new_leaves g prefix f i is none a li
      by_level (suc l) none a = new_pointers g l prefix f i is none a li

      by_home : (o : Option ℕ) → home_frame homes (NodeOf g level prefix) ≡ o → word_of_frame new f i ≡ entry_for after_h after_s g level (prefix * 512 + i)
      by_home None none = by_level level none e
      by_home (Some k) there =
          let number : is.gen.number ≡ g = ready.tidy.placed g is.gen is.at in
          let spells : SpellsView words homes s g = subst (SpellsView words homes s) number is.kept.spelled in
          let twice : Some k ≡ Some f = sym (old words new r q homes s mapping ready done whole (NodeOf g level prefix) k there) ∙ e in
          let same : k ≡ f = cc in
          old_node words new r q homes s mapping ready done whole g level prefix f i spells (there ∙ ap (λ (x : ℕ). Some x) same) li
