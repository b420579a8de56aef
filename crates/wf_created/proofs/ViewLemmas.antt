-- The view of a generation that is born is kept, and so are those that there were.
use Rattle.std.proofs.Common.{◌≡◌, ◌<◌, ◌≤◌, ◌+◌, ◌-◌, ◌*◌, ◌/◌, ◌==◌, ◌||◌, ℕ, zero, suc, List, [], ◌∷◌, Bool, true, false, Option, Some, None, drop, length, map, refl, sym, ap, subst, ◌∙◌, inl, inr, arith, is_some, if◌then◌else◌}
use Rattle.std.specs.Prelude.{IsSome, slice_index}
use Rattle.std.specs.Option.{option_map}
use Rattle.std.specs.List.{AllByRecursion, IsDistinct, filter, list_any}
use Rattle.std.specs.Map.{keys_of}
use Rattle.std.proofs.lemmas.Bool.Decides.{nat_tests}
use Rattle.std.proofs.lemmas.List.{length-map, length-drop}
use Rattle.wf_outside.specs.Images.{text_numbers}
use Rattle.wf_outside.specs.Lists.{IsRising}
use Rattle.wf_outside.specs.Pages.{PageValue}
use Rattle.wf_frames.specs.Layout.{WordsValue}
use Rattle.wf_views.specs.declared.records.Records.{Records}
use Rattle.wf_views.specs.declared.view.NodeAt.{NodeAt}
use Rattle.wf_views.specs.declared.view.TextAt.{TextAt}
use Rattle.wf_views.specs.Lists.{found_by}
use Rattle.wf_views.specs.Views.{ViewValue}
use Rattle.wf_flat.specs.declared.state.Stage.{Stage}
use Rattle.wf_flat.specs.declared.state.Stage.TheVariants.{Here, Going, Ending}
use Rattle.wf_flat.specs.Accesses.{is_ending, is_going, is_here}
use Rattle.wf_flat.specs.Boot.{places_with}
use Rattle.wf_flat.specs.Counts.{used_of}
use Rattle.wf_flat.specs.Memory.{data_in, has_met, met_key}
use Rattle.wf_flat.specs.Ordered.{IsGen}
use Rattle.wf_flat.specs.State.{FlatState, GenState, PageState}
use Rattle.wf_effects.specs.Effects.{here_numbers, newborn}
use Rattle.wf_homes.specs.Entries.{SpellsView, data_leaf, entry_for, pointer_to, private_or}
use Rattle.wf_homes.specs.Homes.{Homes, NodeOf, Tenant, TextOf, free_frames, home_frame, same_tenant, tree_nodes}
use Rattle.wf_homes.specs.Kept.{HasNodeFor, HasNodes, HasWords, IsKeptText, IsKeptView, node_frame, node_tenants_in, text_page, word_of_frame}
use Rattle.wf_homes.specs.Laws.{AreCounted}
use Rattle.wf_homes.specs.Stands.{StandsFor}
use Rattle.wf_homes.proofs.CountLemmas.{tenants_counted}
use Rattle.wf_homes.proofs.FoundLemmas.{some_at}
use Rattle.wf_homes.proofs.HomeLemmas.{free_counted}
use Rattle.wf_homes.proofs.ListLemmas.{all_back, all_more, map_all, true_or_false}
use Rattle.wf_space.proofs.MeetLemmas.{some_of}
use Rattle.wf_space.specs.Changes.{with_changes}
use Rattle.wf_space.specs.Pieces.{ArePerformed}
use Rattle.wf_mapping.specs.declared.nodes.NewNode.{NewNode}
use Rattle.wf_mapping.specs.Laws.{node_home}
use Rattle.wf_mapping.specs.Layout.{free_in}
use Rattle.wf_mapping.specs.Nodes.{missing_node}
use Rattle.wf_mapping.proofs.AnyLemmas.{any_places}
use Rattle.wf_mapping.proofs.FreeLemmas.{free_agree}
use Rattle.wf_mapping.proofs.TreeLemmas.{place_there}
use Rattle.wf_creating.specs.Laws.{StandsInOrder, born_of_parent, text_home}
use Rattle.wf_creating.specs.Layout.{need_at_birth, nodes_at_birth, nodes_needed, number_at_birth, text_at_birth, view_at_birth}
use Rattle.wf_creating.specs.Parents.{parent_text, reach_at_birth, text_numbers_of}
use Rattle.wf_creating.specs.Plans.{birth_changes, birth_pieces, words_at_birth}
use Rattle.wf_creating.proofs.LaidLemmas.{need_born}
use Rattle.wf_creating.proofs.ParentLemmas.{IsParent, found_own, jumps_same, numbers_same, parent_of, patches_same, reach_same}
use Rattle.wf_created.specs.Created.{MayBeBorn}
use Rattle.wf_created.proofs.HousedLemmas.{after_h, all_get, are, news, node_home_is, nodes_of_it, number_is, text_home_is}
use Rattle.wf_created.proofs.NodeLemmas.{IsNodeAt, all_and, any_both, any_pick, each_key, find_any, find_placed, keys_back, leaf_entry, pointer_entry, root_found, texts_numbers}
use Rattle.wf_created.proofs.PieceLemmas.{nodes_have, node_target, olds_home, text_targets, texts_have}
use Rattle.wf_created.proofs.WriteLemmas.{HasTarget}

none_found : {A : Type 0} (key : A → ℕ) (xs : List A) (n : ℕ) → AllByRecursion (λ x. (key x == n) ≡ false) xs → found_by key xs n ≡ None
none_found key [] n all = refl
none_found key (x ∷ xs) n all = rw all.0 (none_found key xs n all.1)

-- a number is among its own
any_own : (p : ℕ → ℕ → Bool) → ((n : ℕ) → p n n ≡ true) → (ns : List ℕ) → AllByRecursion (λ n. list_any (p n) ns ≡ true) ns
any_own p same [] = tt
any_own p same (n ∷ ns) = (rw (same n) refl, all_more (λ m. list_any (p m) ns ≡ true) (λ m. list_any (p m) (n ∷ ns) ≡ true) (λ m e. or_second (p m n) (list_any (p m) ns) e) ns (any_own p same ns))
  where
    or_second : (a b : Bool) → b ≡ true → (a || b) ≡ true
    or_second true b e = refl
    or_second false b e = e

or_right : (a b : Bool) → b ≡ true → (a || b) ≡ true
or_right true b e = refl
or_right false b e = e

or_left : (a b : Bool) → a ≡ true → (a || b) ≡ true
or_left true b e = refl
or_left false b e = absurd cc

same_test : (n : ℕ) → (n == n) ≡ true
same_test n = grind (arith, nat_tests)

module _ (words new : WordsValue) (r q : Records) (homes : Homes) (s : FlatState) (parent : ℕ) (o : StandsInOrder words r homes s) (may : MayBeBorn s parent)
    (done : ArePerformed words (with_changes r (birth_changes r parent)) (birth_pieces r parent) new q) where
  abbrev st : StandsFor words r homes s
  st = o.stands

  abbrev after : FlatState
  after = born_of_parent s parent

  abbrev gen : GenState
  gen = newborn [] s parent None

  abbrev number : ℕ
  number = number_at_birth r

  abbrev texts : List TextAt
  texts = text_at_birth r parent

  abbrev nodes : List NewNode
  nodes = nodes_at_birth r parent

  abbrev view : ViewValue
  view = view_at_birth r parent

  abbrev housed : Homes
  housed = after_h words r homes s parent o may

  -- there are frames enough
  enough : need_at_birth r parent ≤ length (free_in r)
  enough =
      let counted : AreCounted s = tenants_counted s o.tidy in
      let a : length (free_frames s.limits.frames homes) + used_of s + s.worn ≡ s.limits.frames = free_counted homes s st.housed counted in
      let b : used_of s + need_at_birth r parent ≡ used_of after = need_born words r homes s parent o may.live in
      let c : used_of after + s.worn ≤ s.limits.frames = may.frames in
      let d : length (free_in r) ≡ length (free_frames s.limits.frames homes) = ap length (free_agree words r homes s st) in
      omega arith

  abbrev rest : List ℕ
  rest = drop (length (parent_text r parent)) (free_in r)

  rest_enough : length (nodes_needed r parent) ≤ length rest
  rest_enough =
      let e : need_at_birth r parent ≤ length (free_in r) = enough in
      let l : length rest ≡ length (free_in r) - length (parent_text r parent) = length-drop (length (parent_text r parent)) (free_in r) in
      omega arith

  texts_numbered : map text_page texts ≡ text_numbers_of r parent
  texts_numbered =
      let e : need_at_birth r parent ≤ length (free_in r) = enough in
      let n : length (text_numbers_of r parent) ≡ length (parent_text r parent) = length-map (parent_text r parent) text_page in
      texts_numbers (text_numbers_of r parent) (free_in r) (omega arith)

  pub pages_are : map text_page texts ≡ text_numbers gen.text
  pages_are = texts_numbered ∙ numbers_same words r homes s o parent may.live

  abbrev p : IsParent words r homes s parent
  p = parent_of words r homes s o parent may.live

  text_is : gen.text ≡ p.gen.text
  text_is = rw p.at refl

  texts_rise : IsRising (map text_page texts)
  texts_rise =
      let is : IsGen p.gen.text p.gen.reach = all_get (λ gen. IsGen gen.text gen.reach) s.gens parent p.gen p.at o.tidy.gens in
      subst IsRising (sym (pages_are ∙ ap text_numbers text_is)) is.rising

  pub texts_own : AllByRecursion (λ (t : TextAt). found_by text_page texts t.page ≡ Some t) texts
  texts_own = found_own text_page texts texts_rise

  -- each node is found at its home
  abbrev HasHome : NewNode → Type 0
  HasHome n = home_frame housed (NodeOf n.generation n.node.level n.node.prefix) ≡ Some n.node.frame

  nodes_home : AllByRecursion HasHome nodes
  nodes_home = map_all HasHome (λ (h : Tenant × ℕ). home_frame housed h.0 ≡ Some h.1) node_home (λ n e. e) nodes
      (all_back (λ (h : Tenant × ℕ). home_frame housed h.0 ≡ Some h.1) (map (text_home number) texts) (map node_home nodes)
      (all_back (λ (h : Tenant × ℕ). home_frame housed h.0 ≡ Some h.1) homes.homes (news words r homes s parent o may) (each_key housed.homes (are words r homes s parent o may).separate.once)))

  pub nodes_own : AllByRecursion (λ (m : NewNode). node_frame view m.node.level m.node.prefix ≡ Some m.node.frame) nodes
  nodes_own = all_more (λ (m : NewNode). (m.generation ≡ number) × HasHome m) (λ (m : NewNode). node_frame view m.node.level m.node.prefix ≡ Some m.node.frame)
      (λ m both. (sym (node_home_is words r homes s parent o may m.node.level m.node.prefix) ∙ ap (λ (k : ℕ). home_frame housed (NodeOf k m.node.level m.node.prefix)) (sym both.0) ∙ both.1)) nodes
      (all_and (λ (m : NewNode). m.generation ≡ number) HasHome nodes (nodes_of_it words r homes s parent o may) nodes_home)

  -- it has met nothing
  unmet : (page : ℕ) → has_met s.met number page ≡ false
  unmet page = ap is_some (none_found met_key s.met (met_key (number, page)) (all_more (λ (pair : ℕ × ℕ). (pair.0 < length s.gens) × (pair.1 < 67108864)) (λ (pair : ℕ × ℕ). (met_key pair == met_key (number, page)) ≡ false) (λ pair low. (
      let a : pair.0 < length s.gens = low.0 in
      let b : pair.1 < 67108864 = low.1 in
      let c : number ≡ length s.gens = number_is words r homes s parent o may in
      let d : met_key pair < met_key (number, page) = omega arith in
      grind (arith, nat_tests)
      )) s.met may.open_to.met))

  -- the words of its nodes
  spelled : SpellsView new housed after number
  spelled level prefix frame e i lt =
      let found : node_frame view level prefix ≡ Some frame = sym (node_home_is words r homes s parent o may level prefix) ∙ e in
      let any = any_both (IsNodeAt level prefix frame) (λ (n : NewNode). (n.generation ≡ number) × HasTarget new (node_target nodes texts n)) nodes (find_any level prefix frame nodes found)
      (all_and (λ (n : NewNode). n.generation ≡ number) (λ (n : NewNode). HasTarget new (node_target nodes texts n)) nodes (nodes_of_it words r homes s parent o may) (nodes_have words new r q homes s parent o may done)) in
      let n = any_pick (λ (n : NewNode). IsNodeAt level prefix frame n × ((n.generation ≡ number) × HasTarget new (node_target nodes texts n))) nodes any in
      ap (λ (f : ℕ). word_of_frame new f i) (sym n.1.0.frame_is) ∙ n.1.1.1 i lt ∙ entry level n.0 n.1.0.level_is n.1.1.0 ∙ ap (λ (k : ℕ). entry_for housed after number level (k * 512 + i)) n.1.0.prefix_is
    where
      entry : (l : ℕ) (n : NewNode) → n.node.level ≡ l → n.generation ≡ number → slice_index (words_at_birth nodes texts n) i ≡ entry_for housed after number l (n.node.prefix * 512 + i)
      entry zero n low its =
          leaf_entry nodes texts texts_own n i lt low
          ∙ ap (λ (k : Option ℕ). private_or k 0) (sym (text_home_is words r homes s parent o may (n.node.prefix * 512 + i)))
          ∙ ap (private_or (home_frame housed (TextOf number (n.node.prefix * 512 + i)))) (sym (ap (λ (b : Bool). if b then data_leaf housed (data_in s.pages (n.node.prefix * 512 + i)) else 0) (unmet (n.node.prefix * 512 + i))))
      entry (suc l) n high its =
          pointer_entry nodes texts number (nodes_of_it words r homes s parent o may) nodes_own n its i lt l high
          ∙ ap pointer_to (sym (node_home_is words r homes s parent o may l (n.node.prefix * 512 + i)))

  -- its nodes for leaves
  place_has : (place : ℕ) → list_any (λ k. place == k) (reach_at_birth r parent) ≡ true → IsSome (home_frame housed (NodeOf number 0 place))
  place_has place e =
      let many : length (tree_nodes (reach_at_birth r parent)) ≡ length (nodes_needed r parent) = sym (length-map (tree_nodes (reach_at_birth r parent)) (missing_node number)) in
      let le : length (nodes_needed r parent) ≤ length rest = rest_enough in
      ap is_some (node_home_is words r homes s parent o may 0 place)
      ∙ find_placed number 0 place (tree_nodes (reach_at_birth r parent)) rest (omega arith)
      ∙ place_there (reach_at_birth r parent) place ∙ e

  reach_has : (place : ℕ) → (list_any (λ n. place == n / 512) (text_numbers gen.text) || list_any (λ n. place == n / 512) (here_numbers s)) ≡ true → IsSome (home_frame housed (NodeOf number 0 place))
  reach_has place e = place_has place (
      ap (λ (ks : List ℕ). list_any (λ k. place == k) ks) (reach_same words r homes s o parent may.live)
      ∙ any_places (λ k. place == k) (places_with [] (text_numbers gen.text)) (here_numbers s)
      ∙ ap (λ (b : Bool). b || list_any (λ n. place == n / 512) (here_numbers s)) (any_places (λ k. place == k) [] (text_numbers gen.text))
      ∙ e)

  leaves : HasNodes housed after gen
  leaves = record {
    text = subst (λ (k : ℕ). AllByRecursion (HasNodeFor housed k) (text_numbers gen.text)) (number_is words r homes s parent o may)
        (all_more (λ n. list_any (λ m. n / 512 == m / 512) (text_numbers gen.text) ≡ true) (HasNodeFor housed number)
        (λ n e. reach_has (n / 512) (or_left (list_any (λ m. n / 512 == m / 512) (text_numbers gen.text)) (list_any (λ m. n / 512 == m / 512) (here_numbers s)) e)) (text_numbers gen.text) (any_own (λ n m. n / 512 == m / 512) (λ n. same_test (n / 512)) (text_numbers gen.text)));
    pages = subst (λ (k : ℕ). AllByRecursion (λ page. is_ending page.stage ≡ false → HasNodeFor housed k page.number) s.pages) (number_is words r homes s parent o may) (pages_have s.pages may.open_to.none_going (λ b e. e));
  }
    where
      by_stage : (stage : Stage) → is_going stage ≡ false → is_ending stage ≡ false → is_here stage ≡ true
      by_stage Here a b = refl
      by_stage Going a b = absurd cc
      by_stage Ending a b = absurd cc

      pages_have : (ps : List PageState) → AllByRecursion (λ page. is_going page.stage ≡ false) ps
          → ((place : ℕ) → list_any (λ n. place == n / 512) (map (λ (page : PageState). page.number) (filter (λ (page : PageState). is_here page.stage) ps)) ≡ true → list_any (λ n. place == n / 512) (here_numbers s) ≡ true)
          → AllByRecursion (λ page. is_ending page.stage ≡ false → HasNodeFor housed number page.number) ps
      pages_have [] going more = tt
      pages_have (x ∷ xs) going more = (
        (λ stays. (
            let here : is_here x.stage ≡ true = by_stage x.stage going.0 stays in
            reach_has (x.number / 512) (or_right (list_any (λ n. x.number / 512 == n / 512) (text_numbers gen.text)) (list_any (λ n. x.number / 512 == n / 512) (here_numbers s)) (more (x.number / 512) (rw (here, same_test (x.number / 512)) refl)))
            )),
        pages_have xs going.1 (λ place e. more place (elim (true_or_false (is_here x.stage)) [
          | inl t ↦ (rw t (or_right (place == x.number / 512) _ e))
          | inr t ↦ (rw t e)
        ])),
      )

  -- its text
  text_kept : (pages : List PageValue) (olds copies : List TextAt) → map text_page olds ≡ text_numbers pages → map text_page copies ≡ map text_page olds
      → AllByRecursion (IsKeptText words homes parent) pages → AllByRecursion (λ (t : TextAt). home_frame homes (TextOf parent t.page) ≡ Some t.frame) olds
      → AllByRecursion (λ (t : TextAt). found_by text_page texts t.page ≡ Some t) copies → AllByRecursion (HasTarget new) (text_targets words olds copies)
      → AllByRecursion (IsKeptText new housed number) pages
  text_kept [] olds copies a b kept home own have = tt
  text_kept (x ∷ xs) [] copies a b kept home own have = absurd cc
  text_kept (x ∷ xs) (t ∷ ts) [] a b kept home own have = absurd cc
  text_kept (x ∷ xs) (t ∷ ts) (c ∷ cs) a b kept home own have =
      let a0 : t.page ≡ x.number = cc in
      let a1 : map text_page ts ≡ text_numbers xs = cc in
      let b0 : c.page ≡ t.page = cc in
      let b1 : map text_page cs ≡ map text_page ts = cc in
      let old : home_frame homes (TextOf parent x.number) ≡ Some t.frame = subst (λ (k : ℕ). home_frame homes (TextOf parent k) ≡ Some t.frame) a0 home.0 in
      let k = some_of (home_frame homes (TextOf parent x.number)) (λ frame. HasWords words frame x.words) kept.0 in
      let same : k.0 ≡ t.frame = (let e : Some k.0 ≡ Some t.frame = sym k.1 ∙ old in cc) in
      let had : HasWords words t.frame x.words = subst (λ (f : ℕ). HasWords words f x.words) same k.2 in
      let found : found_by text_page texts x.number ≡ Some c = subst (λ (n : ℕ). found_by text_page texts n ≡ Some c) (b0 ∙ a0) own.0 in
      let now : home_frame housed (TextOf number x.number) ≡ Some c.frame = text_home_is words r homes s parent o may x.number ∙ ap (option_map (λ (t : TextAt). t.frame)) found in
      (some_at (home_frame housed (TextOf number x.number)) (λ frame. HasWords new frame x.words) c.frame now (λ i lt. (have.0 i lt ∙ had i lt)), text_kept xs ts cs a1 b1 kept.1 home.1 own.1 have.1)

  all_text : AllByRecursion (IsKeptText new housed number) gen.text
  all_text =
      let kept : AllByRecursion (IsKeptText words homes p.gen.number) p.gen.text = p.kept.text in
      let same : p.gen.number ≡ parent = o.tidy.placed parent p.gen p.at in
      text_kept gen.text (parent_text r parent) texts (numbers_same words r homes s o parent may.live) texts_numbered
      (subst (AllByRecursion (IsKeptText words homes parent)) (sym text_is) (subst (λ (k : ℕ). AllByRecursion (IsKeptText words homes k) p.gen.text) same kept))
      (olds_home words new r q homes s parent o may done) texts_own (texts_have words new r q homes s parent o may done)

  -- no node is there twice
  tenants_of_nodes : (ns : List NewNode) → AllByRecursion (λ (n : NewNode). n.generation ≡ number) ns → keys_of (map node_home ns) ≡ map (λ (node : NodeAt). NodeOf number node.level node.prefix) (map (λ (n : NewNode). n.node) ns)
  tenants_of_nodes [] all = refl
  tenants_of_nodes (n ∷ ns) all = ap (λ (k : ℕ). NodeOf k n.node.level n.node.prefix ∷ keys_of (map node_home ns)) all.0 ∙ ap (λ (ts : List Tenant). NodeOf number n.node.level n.node.prefix ∷ ts) (tenants_of_nodes ns all.1)

  nodes_apart : IsDistinct same_tenant (node_tenants_in view)
  nodes_apart = subst (IsDistinct same_tenant) (tenants_of_nodes nodes (nodes_of_it words r homes s parent o may))
      (keys_back (map (text_home number) texts) (map node_home nodes) (keys_back homes.homes (news words r homes s parent o may) (are words r homes s parent o may).separate.once))

  root_is : home_frame housed (NodeOf number 2 0) ≡ Some view.root
  root_is =
      let le : length (nodes_needed r parent) ≤ length rest = rest_enough in
      let many : length (nodes_needed r parent) ≡ length (tree_nodes (reach_at_birth r parent)) = length-map (tree_nodes (reach_at_birth r parent)) (missing_node number) in
      node_home_is words r homes s parent o may 2 0 ∙ root_found number _ rest (omega arith)

  pub new_view_kept : IsKeptView new housed after gen view
  new_view_kept =
      let g : number ≡ gen.number = number_is words r homes s parent o may in
      record {
        generation = g;
        parent = refl;
        patches = patches_same words r homes s o parent may.live;
        jumps = jumps_same words r homes s o parent may.live;
        reach = reach_same words r homes s o parent may.live;
        root = subst (λ (k : ℕ). home_frame housed (NodeOf k 2 0) ≡ Some view.root) g root_is;
        pages = pages_are;
        nodes = nodes_apart;
        met = record { same = λ page lt. sym (unmet page); low = tt };
        residents = λ h. (λ t. absurd (let k : false ≡ true = t in cc), λ is. absurd (let lt : number < length s.gens = may.open_to.residents number h is in omega arith));
        text = subst (λ (k : ℕ). AllByRecursion (IsKeptText new housed k) gen.text) g all_text;
        leaves = leaves;
        spelled = subst (SpellsView new housed after) g spelled;
      }
