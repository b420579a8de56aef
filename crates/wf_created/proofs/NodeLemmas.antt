-- The nodes of a generation that is born: where they lie, and the words that they have.
use Rattle.std.proofs.Common.{◌≡◌, ◌⊎◌, ◌<◌, ◌≤◌, ◌+◌, ◌*◌, ◌/◌, ◌%◌, ◌==◌, ◌&&◌, ◌++◌, ℕ, suc, List, [], ◌∷◌, Bool, true, false, Option, Some, None, length, map, refl, sym, ap, subst, ◌∙◌, inl, inr, arith, is_some}
use Rattle.std.specs.Prelude.{slice_index}
use Rattle.std.specs.Option.{option_map}
use Rattle.std.specs.List.{AllByRecursion, IsDistinct, find, list_any}
use Rattle.std.specs.Map.{keys_of, lookup}
use Rattle.std.proofs.lemmas.Bool.Decides.{nat_tests}
use Rattle.wf_sv39.specs.declared.entry.Leaf.TheVariants.{Private}
use Rattle.wf_sv39.specs.Entries.{pte_leaf, pte_node}
use Rattle.wf_views.specs.declared.view.NodeAt.{NodeAt}
use Rattle.wf_views.specs.declared.view.TextAt.{TextAt}
use Rattle.wf_views.specs.Lists.{found_by}
use Rattle.wf_homes.specs.Entries.{pointer_to, private_or}
use Rattle.wf_homes.specs.Homes.{Tenant, same_tenant}
use Rattle.wf_homes.specs.Kept.{text_page}
use Rattle.wf_homes.proofs.ListLemmas.{all_any, all_more, map_all, true_or_false}
use Rattle.wf_homes.proofs.TenantLemmas.{same_tenant_laws}
use Rattle.wf_mapping.specs.declared.nodes.NewNode.{NewNode}
use Rattle.wf_mapping.specs.Blanks.{blank}
use Rattle.wf_mapping.specs.Nodes.{missing_node, nodes_placed}
use Rattle.wf_mapping.specs.Plans.{is_below, with_pointer, words_of_node}
use Rattle.wf_creating.specs.Layout.{root_of, texts_placed}
use Rattle.wf_creating.specs.Plans.{has_leaf, with_private_leaf, words_at_birth}
use Rattle.wf_creating.proofs.TableLemmas.{node_whole, zeros_many}
use Rattle.wf_created.proofs.EntryLemmas.{AnyIs, Hits, folded, zero_at}

-- both hold of one
pub any_both : {A : Type 0} (P Q : A → Type 0) (xs : List A) → AnyIs P xs → AllByRecursion Q xs → AnyIs (λ x. P x × Q x) xs
any_both P Q [] any all = any
any_both P Q (x ∷ xs) (inl h) all = inl (h, all.0)
any_both P Q (x ∷ xs) (inr h) all = inr (any_both P Q xs h all.1)

pub any_pick : {A : Type 0} (P : A → Type 0) (xs : List A) → AnyIs P xs → (x : A) × P x
any_pick P [] any = absurd any
any_pick P (x ∷ xs) (inl h) = (x, h)
any_pick P (x ∷ xs) (inr h) = any_pick P xs h

pub any_wider : {A : Type 0} (P Q : A → Type 0) → ((x : A) → P x → Q x) → (xs : List A) → AnyIs P xs → AnyIs Q xs
any_wider P Q more [] any = any
any_wider P Q more (x ∷ xs) (inl h) = inl (more x h)
any_wider P Q more (x ∷ xs) (inr h) = inr (any_wider P Q more xs h)

pub all_and : {A : Type 0} (P Q : A → Type 0) (xs : List A) → AllByRecursion P xs → AllByRecursion Q xs → AllByRecursion (λ x. P x × Q x) xs
all_and P Q [] p q = tt
all_and P Q (x ∷ xs) p q = ((p.0, q.0), all_and P Q xs p.1 q.1)

-- where no tenant is there twice, each is found
pub each_key : (hs : List (Tenant × ℕ)) → IsDistinct same_tenant (keys_of hs) → AllByRecursion (λ (h : Tenant × ℕ). lookup (same_tenant h.0) hs ≡ Some h.1) hs
unfolding IsDistinct
each_key [] d = tt
each_key (x ∷ xs) d =
    let t : same_tenant x.0 x.0 ≡ true = same_tenant_laws.refl x.0 in (
      rw t refl,
      all_more (λ (h : Tenant × ℕ). (same_tenant x.0 h.0 ≡ false) × (lookup (same_tenant h.0) xs ≡ Some h.1)) (λ (h : Tenant × ℕ). lookup (same_tenant h.0) (x ∷ xs) ≡ Some h.1)
          (λ h both. (let f : same_tenant h.0 x.0 ≡ false = same_tenant_laws.symm h.0 x.0 ∙ both.0 in rw f both.1)) xs
          (all_and (λ (h : Tenant × ℕ). same_tenant x.0 h.0 ≡ false) (λ (h : Tenant × ℕ). lookup (same_tenant h.0) xs ≡ Some h.1) xs (map_all (λ (h : Tenant × ℕ). same_tenant x.0 h.0 ≡ false) (λ k. same_tenant x.0 k ≡ false) (λ (h : Tenant × ℕ). h.0) (λ h e. e) xs d.0) (each_key xs d.1)),
    )

pub keys_back : (xs ys : List (Tenant × ℕ)) → IsDistinct same_tenant (keys_of (xs ++ ys)) → IsDistinct same_tenant (keys_of ys)
unfolding IsDistinct
keys_back [] ys d = d
keys_back (x ∷ xs) ys d = keys_back xs ys d.1

-- pages that have frames
pub texts_numbers : (ns fs : List ℕ) → length ns ≤ length fs → map text_page (texts_placed ns fs) ≡ ns
texts_numbers [] fs le = refl
texts_numbers (n ∷ ns) [] le = absurd (omega arith)
texts_numbers (n ∷ ns) (f ∷ fs) le = ap (λ (ks : List ℕ). n ∷ ks) (texts_numbers ns fs (omega arith))

abbrev pub is_node : ℕ → ℕ → NodeAt → Bool
is_node level prefix node = (level == node.level) && (prefix == node.prefix)

-- a node that was missing is there where frames suffice
pub find_placed : (g level prefix : ℕ) (ns : List (ℕ × ℕ)) (fs : List ℕ) → length ns ≤ length fs
    → is_some (option_map (λ (node : NodeAt). node.frame) (find (is_node level prefix) (map (λ (n : NewNode). n.node) (nodes_placed (map (missing_node g) ns) fs)))) ≡ list_any (λ (n : ℕ × ℕ). (level == n.0) && (prefix == n.1)) ns
find_placed g level prefix [] fs le = refl
find_placed g level prefix (n ∷ ns) [] le = absurd (omega arith)
find_placed g level prefix (n ∷ ns) (f ∷ fs) le = elim (true_or_false ((level == n.0) && (prefix == n.1))) [
  | inl t ↦ (rw t refl)
  | inr t ↦ (rw t (find_placed g level prefix ns fs (omega arith)))
]

pub root_found : (g : ℕ) (ns : List (ℕ × ℕ)) (fs : List ℕ) → 1 ≤ length fs
    → option_map (λ (node : NodeAt). node.frame) (find (is_node 2 0) (map (λ (n : NewNode). n.node) (nodes_placed (map (missing_node g) ((2, 0) ∷ ns)) fs))) ≡ Some (root_of (nodes_placed (map (missing_node g) ((2, 0) ∷ ns)) fs))
root_found g ns [] le = absurd (omega arith)
root_found g ns (f ∷ fs) le = refl

and_true : (a b : Bool) → (a && b) ≡ true → (a ≡ true) × (b ≡ true)
and_true true b e = (refl, e)
and_true false b e = absurd cc

true_and : (a b : Bool) → a ≡ true → b ≡ true → (a && b) ≡ true
true_and a b e f = rw (e, f) refl

same_of : (a b : ℕ) → (a == b) ≡ true → a ≡ b
same_of a b e = grind (arith, nat_tests)

test_of : (a b : ℕ) → a ≡ b → (a == b) ≡ true
test_of a b e = grind (arith, nat_tests)

-- a node that is found is one of these
pub record IsNodeAt (level prefix frame : ℕ) (n : NewNode) : Type 0 where
  pub level_is : n.node.level ≡ level
  pub prefix_is : n.node.prefix ≡ prefix
  pub frame_is : n.node.frame ≡ frame

pub find_any : (level prefix frame : ℕ) (ns : List NewNode) → option_map (λ (node : NodeAt). node.frame) (find (is_node level prefix) (map (λ (n : NewNode). n.node) ns)) ≡ Some frame → AnyIs (IsNodeAt level prefix frame) ns
find_any level prefix frame [] e = absurd cc
find_any level prefix frame (n ∷ ns) e = elim (true_or_false (is_node level prefix n.node)) [
  | inl t ↦ (
      let k = and_true (level == n.node.level) (prefix == n.node.prefix) t in
      let f : Some n.node.frame ≡ Some frame = rw t at e in
      let same : n.node.frame ≡ frame = cc in
      inl (record { level_is = sym (same_of level n.node.level k.0); prefix_is = sym (same_of prefix n.node.prefix k.1); frame_is = same })
      )
  | inr t ↦ inr (find_any level prefix frame ns (rw t at e))
]

pub text_any : (ts : List TextAt) (page : ℕ) (t : TextAt) → found_by text_page ts page ≡ Some t → AnyIs (λ (x : TextAt). x.page ≡ page) ts
text_any [] page t e = absurd cc
text_any (x ∷ xs) page t e = elim (true_or_false (x.page == page)) [
  | inl u ↦ inl (same_of x.page page u)
  | inr u ↦ inr (text_any xs page t (rw u at e))
]

-- a node that is below another
pub record IsBelow (above below : NewNode) : Type 0 where
  pub generation : above.generation ≡ below.generation
  pub level : above.node.level ≡ below.node.level + 1
  pub prefix : above.node.prefix ≡ below.node.prefix / 512

below_is : (above below : NewNode) → is_below above below ≡ true → IsBelow above below
below_is above below e =
    let a = and_true ((above.generation == below.generation) && (above.node.level == below.node.level + 1)) (above.node.prefix == below.node.prefix / 512) e in
    let b = and_true (above.generation == below.generation) (above.node.level == below.node.level + 1) a.0 in
    record { generation = same_of above.generation below.generation b.0; level = same_of above.node.level (below.node.level + 1) b.1; prefix = same_of above.node.prefix (below.node.prefix / 512) a.1 }

is_below_it : (above below : NewNode) → IsBelow above below → is_below above below ≡ true
is_below_it above below is =
    true_and ((above.generation == below.generation) && (above.node.level == below.node.level + 1)) (above.node.prefix == below.node.prefix / 512)
    (true_and (above.generation == below.generation) (above.node.level == below.node.level + 1) (test_of above.generation below.generation is.generation) (test_of above.node.level (below.node.level + 1) is.level))
    (test_of above.node.prefix (below.node.prefix / 512) is.prefix)

module _ (nodes : List NewNode) (texts : List TextAt) (n : NewNode) (i v : ℕ) (lt : i < 512) where
  abbrev IsPointer : NewNode → Type 0
  IsPointer = Hits (with_pointer n) (is_below n) (λ (m : NewNode). m.node.prefix % 512) (λ (m : NewNode). pte_node m.node.frame) (λ ws m. refl) i v

  abbrev IsLeaf : TextAt → Type 0
  IsLeaf = Hits (with_private_leaf n) (has_leaf n) (λ (t : TextAt). t.page % 512) (λ (t : TextAt). pte_leaf t.frame Private) (λ ws t. refl) i v

  pub pointer_word : AllByRecursion (λ (m : NewNode). IsPointer m → pte_node m.node.frame ≡ v) nodes → (0 ≡ v) ⊎ AnyIs IsPointer nodes → slice_index (words_of_node nodes n) i ≡ v
  pointer_word all now =
      let long : length blank ≡ 512 = zeros_many 512 in
      folded (with_pointer n) (is_below n) (λ (m : NewNode). m.node.prefix % 512) (λ (m : NewNode). pte_node m.node.frame) (λ ws m. refl) i v nodes blank (omega arith) all (start now)
    where
      start : (0 ≡ v) ⊎ AnyIs IsPointer nodes → (slice_index blank i ≡ v) ⊎ AnyIs IsPointer nodes
      start (inl e) = inl (zero_at 512 i ∙ e)
      start (inr any) = inr any

  pub leaf_word : AllByRecursion (λ (t : TextAt). IsLeaf t → pte_leaf t.frame Private ≡ v) texts → (slice_index (words_of_node nodes n) i ≡ v) ⊎ AnyIs IsLeaf texts → slice_index (words_at_birth nodes texts n) i ≡ v
  leaf_word all now =
      let long : length (words_of_node nodes n) ≡ 512 = node_whole nodes n in
      folded (with_private_leaf n) (has_leaf n) (λ (t : TextAt). t.page % 512) (λ (t : TextAt). pte_leaf t.frame Private) (λ ws t. refl) i v texts (words_of_node nodes n) (omega arith) all now

-- the words of a node at level 0
module _ (nodes : List NewNode) (texts : List TextAt) (own : AllByRecursion (λ (t : TextAt). found_by text_page texts t.page ≡ Some t) texts) (n : NewNode) (i : ℕ) (lt : i < 512) (low : n.node.level ≡ 0) where
  abbrev page : ℕ
  page = n.node.prefix * 512 + i

  abbrev leaf_value : ℕ
  leaf_value = private_or (option_map (λ (t : TextAt). t.frame) (found_by text_page texts page)) 0

  no_pointers : slice_index (words_of_node nodes n) i ≡ 0
  no_pointers = pointer_word nodes texts n i 0 lt (all_any (λ (m : NewNode). IsPointer nodes texts n i 0 lt m → pte_node m.node.frame ≡ 0) (λ m h. (let is : IsBelow n m = below_is n m h.passes in let k : n.node.level ≡ m.node.level + 1 = is.level in absurd (omega arith))) nodes) (inl refl)

  pub leaf_entry : slice_index (words_at_birth nodes texts n) i ≡ private_or (option_map (λ (t : TextAt). t.frame) (found_by text_page texts page)) 0
  leaf_entry = by_found (found_by text_page texts page) refl
    where
      hit : (t : TextAt) → found_by text_page texts t.page ≡ Some t → IsLeaf nodes texts n i leaf_value lt t → pte_leaf t.frame Private ≡ leaf_value
      hit t e h =
          let k = and_true (n.node.level == 0) (t.page / 512 == n.node.prefix) h.passes in
          let a : t.page / 512 ≡ n.node.prefix = same_of (t.page / 512) n.node.prefix k.1 in
          let b : t.page % 512 ≡ i = h.there in
          let same : t.page ≡ page = omega arith in
          let found : found_by text_page texts page ≡ Some t = subst (λ (p : ℕ). found_by text_page texts p ≡ Some t) same e in
          rw found refl

      by_found : (o : Option TextAt) → found_by text_page texts page ≡ o → slice_index (words_at_birth nodes texts n) i ≡ leaf_value
      by_found None e = leaf_word nodes texts n i leaf_value lt (all_more (λ (t : TextAt). found_by text_page texts t.page ≡ Some t) (λ (t : TextAt). IsLeaf nodes texts n i leaf_value lt t → pte_leaf t.frame Private ≡ leaf_value) hit texts own) (inl (no_pointers ∙ rw e refl))
      by_found (Some x) e = leaf_word nodes texts n i leaf_value lt (all_more (λ (t : TextAt). found_by text_page texts t.page ≡ Some t) (λ (t : TextAt). IsLeaf nodes texts n i leaf_value lt t → pte_leaf t.frame Private ≡ leaf_value) hit texts own)
          (inr (any_wider (λ (t : TextAt). t.page ≡ page) (IsLeaf nodes texts n i leaf_value lt) (λ t same. (
          let a : t.page / 512 ≡ n.node.prefix = omega arith in
          let b : t.page % 512 ≡ i = omega arith in
          record { passes = true_and (n.node.level == 0) (t.page / 512 == n.node.prefix) (test_of n.node.level 0 low) (test_of (t.page / 512) n.node.prefix a); there = b }
          )) texts (text_any texts page x e)))

-- the words of a node above it
module _ (nodes : List NewNode) (texts : List TextAt) (g : ℕ) (of_it : AllByRecursion (λ (m : NewNode). m.generation ≡ g) nodes)
    (own : AllByRecursion (λ (m : NewNode). option_map (λ (node : NodeAt). node.frame) (find (is_node m.node.level m.node.prefix) (map (λ (n : NewNode). n.node) nodes)) ≡ Some m.node.frame) nodes)
    (n : NewNode) (its : n.generation ≡ g) (i : ℕ) (lt : i < 512) (level : ℕ) (high : n.node.level ≡ suc level) where
  abbrev prefix : ℕ
  prefix = n.node.prefix * 512 + i

  abbrev frame_at : ℕ → ℕ → Option ℕ
  frame_at l p = option_map (λ (node : NodeAt). node.frame) (find (is_node l p) (map (λ (n : NewNode). n.node) nodes))

  abbrev value : ℕ
  value = pointer_to (frame_at level prefix)

  hit : (m : NewNode) → frame_at m.node.level m.node.prefix ≡ Some m.node.frame → IsPointer nodes texts n i value lt m → pte_node m.node.frame ≡ value
  hit m e h =
      let is : IsBelow n m = below_is n m h.passes in
      let a : n.node.level ≡ m.node.level + 1 = is.level in
      let b : n.node.prefix ≡ m.node.prefix / 512 = is.prefix in
      let c : m.node.prefix % 512 ≡ i = h.there in
      let l : m.node.level ≡ level = omega arith in
      let p : m.node.prefix ≡ prefix = omega arith in
      let found : frame_at level prefix ≡ Some m.node.frame = subst (λ (k : ℕ). frame_at k prefix ≡ Some m.node.frame) l (subst (λ (k : ℕ). frame_at m.node.level k ≡ Some m.node.frame) p e) in
      rw found refl

  hits : AllByRecursion (λ (m : NewNode). IsPointer nodes texts n i value lt m → pte_node m.node.frame ≡ value) nodes
  hits = all_more (λ (m : NewNode). frame_at m.node.level m.node.prefix ≡ Some m.node.frame) (λ (m : NewNode). IsPointer nodes texts n i value lt m → pte_node m.node.frame ≡ value) hit nodes own

  pointers : (o : Option ℕ) → frame_at level prefix ≡ o → slice_index (words_of_node nodes n) i ≡ value
  pointers None e = pointer_word nodes texts n i value lt hits (inl (rw e refl))
  pointers (Some f) e = pointer_word nodes texts n i value lt hits
      (inr (any_wider (λ (m : NewNode). IsNodeAt level prefix f m × (m.generation ≡ g)) (IsPointer nodes texts n i value lt) (λ m both. (
      let p : m.node.prefix ≡ prefix = both.0.prefix_is in
      let l : m.node.level ≡ level = both.0.level_is in
      let a : n.node.level ≡ m.node.level + 1 = omega arith in
      let b : n.node.prefix ≡ m.node.prefix / 512 = omega arith in
      let c : m.node.prefix % 512 ≡ i = omega arith in
      record { passes = is_below_it n m (record { generation = its ∙ sym both.1; level = a; prefix = b }); there = c }
      )) nodes (any_both (IsNodeAt level prefix f) (λ (m : NewNode). m.generation ≡ g) nodes (find_any level prefix f nodes e) of_it)))

  pub pointer_entry : slice_index (words_at_birth nodes texts n) i ≡ pointer_to (frame_at level prefix)
  pointer_entry = leaf_word nodes texts n i value lt (all_any (λ (t : TextAt). IsLeaf nodes texts n i value lt t → pte_leaf t.frame Private ≡ value) (λ t h. (
      let k = and_true (n.node.level == 0) (t.page / 512 == n.node.prefix) h.passes in
      let zero_level : n.node.level ≡ 0 = same_of n.node.level 0 k.0 in
      absurd (omega arith)
      )) texts) (inl (pointers (frame_at level prefix) refl))
