-- The homes after a birth: those before it, and those of its text and its nodes.
use Rattle.std.proofs.Common.{◌≡◌, ◌≢◌, ◌<◌, ◌==◌, ◌&&◌, ◌++◌, ℕ, zero, suc, List, [], ◌∷◌, Bool, true, false, not, Option, Some, None, drop, length, map, refl, sym, ap, subst, ◌∙◌, inl, inr, arith, is_some, nat_eq, append_assoc}
use Rattle.std.specs.Prelude.{slice_get, option_and_then}
use Rattle.std.specs.List.{AllByRecursion, IsDistinct, range_with_len}
use Rattle.std.specs.Map.{lookup, values_of}
use Rattle.std.proofs.lemmas.Bool.Decides.{nat_tests}
use Rattle.std.proofs.lemmas.Option.{slice_get_past}
use Rattle.wf_frames.specs.Layout.{WordsValue}
use Rattle.wf_views.specs.declared.records.Records.{Records}
use Rattle.wf_views.specs.declared.view.NodeAt.{NodeAt}
use Rattle.wf_views.specs.declared.view.TextAt.{TextAt}
use Rattle.wf_views.specs.Lists.{found_by}
use Rattle.wf_views.specs.Views.{ViewValue, generation_number, view_of}
use Rattle.wf_outside.specs.Images.{text_numbers}
use Rattle.wf_outside.specs.Lists.{IsRising}
use Rattle.wf_flat.specs.Boot.{places_with}
use Rattle.wf_flat.specs.Ordered.{IsGen}
use Rattle.wf_flat.specs.State.{FlatState, GenState}
use Rattle.wf_effects.specs.Effects.{here_numbers, newborn}
use Rattle.wf_effects.specs.Generations.{is_live}
use Rattle.wf_homes.specs.Homes.{AreHomes, DataOf, Homes, NodeOf, Tenant, TextOf, free_frames, home_frame, homes_in, is_home, is_worn, same_tenant, tree_nodes}
use Rattle.wf_homes.specs.Kept.{node_frame, recorded_frame, text_frame}
use Rattle.wf_homes.specs.Laws.{IsTidy}
use Rattle.wf_homes.specs.Stands.{StandsFor}
use Rattle.wf_homes.proofs.CountLemmas.{tenants_counted}
use Rattle.wf_homes.proofs.HomeLemmas.{homes_made}
use Rattle.wf_homes.proofs.ListLemmas.{all_any, all_both, all_kept, all_map, all_more, any_none, distinct_front, one_or_two, true_or_false}
use Rattle.wf_homes.proofs.PlaceLemmas.{lookup_all}
use Rattle.wf_homes.proofs.RecordedLemmas.{node_looked, text_looked}
use Rattle.wf_mapping.specs.declared.nodes.MissingNode.{MissingNode}
use Rattle.wf_mapping.specs.declared.nodes.NewNode.{NewNode}
use Rattle.wf_mapping.specs.Laws.{node_home}
use Rattle.wf_mapping.specs.Layout.{free_in}
use Rattle.wf_mapping.specs.Nodes.{missing_node, nodes_placed}
use Rattle.wf_mapping.proofs.FreeLemmas.{free_agree, is_spare}
use Rattle.wf_mapping.proofs.LowLemmas.{free_low}
use Rattle.wf_mapping.proofs.PlaceLemmas.{places_rise}
use Rattle.wf_creating.specs.Laws.{StandsInOrder, born_of_parent, text_home}
use Rattle.wf_creating.specs.Layout.{nodes_at_birth, nodes_needed, number_at_birth, text_at_birth, texts_placed, view_at_birth}
use Rattle.wf_creating.specs.Parents.{parent_text, reach_at_birth, text_numbers_of}
use Rattle.wf_creating.proofs.LaidLemmas.{no_node, no_text, view_laid}
use Rattle.wf_creating.proofs.ParentLemmas.{IsParent, as_many_born, parent_of, view_there}
use Rattle.wf_created.specs.Created.{MayBeBorn}
use Rattle.wf_created.proofs.TakenLemmas.{frames_born, recorded}

-- one more element at the end
pub get_other : {A : Type 0} (xs : List A) (x : A) (i : ℕ) → i ≢ length xs → slice_get (xs ++ x ∷ []) i ≡ slice_get xs i
get_other [] x zero apart = absurd (apart refl)
get_other [] x (suc i) apart = refl
get_other (y ∷ ys) x zero apart = refl
get_other (y ∷ ys) x (suc i) apart = get_other ys x i (λ e. apart (ap suc e))

pub get_end : {A : Type 0} (xs : List A) (x : A) → slice_get (xs ++ x ∷ []) (length xs) ≡ Some x
get_end [] x = refl
get_end (y ∷ ys) x = get_end ys x

pub all_get : {A : Type 0} (P : A → Type 0) (xs : List A) (i : ℕ) (x : A) → slice_get xs i ≡ Some x → AllByRecursion P xs → P x
all_get P [] i x e all = absurd cc
all_get P (y ∷ ys) zero x e all = (let same : y ≡ x = cc in subst P same all.0)
all_get P (y ∷ ys) (suc i) x e all = all_get P ys i x e all.1

pub found_other : (xs : List ViewValue) (x : ViewValue) (n : ℕ) → x.generation ≢ n → found_by generation_number (xs ++ x ∷ []) n ≡ found_by generation_number xs n
found_other [] x n apart = (let t : (x.generation == n) ≡ false = grind (arith, nat_tests) in rw t refl)
found_other (y ∷ ys) x n apart = elim (true_or_false (y.generation == n)) [
  | inl t ↦ (rw t refl)
  | inr t ↦ (rw t (found_other ys x n apart))
]

pub found_new : (xs : List ViewValue) (x : ViewValue) (n : ℕ) → x.generation ≡ n → found_by generation_number xs n ≡ None → found_by generation_number (xs ++ x ∷ []) n ≡ Some x
found_new [] x n same none = (let t : (x.generation == n) ≡ true = grind (arith, nat_tests) in rw t refl)
found_new (y ∷ ys) x n same none = elim (true_or_false (y.generation == n)) [
  | inl t ↦ absurd (let k : Some y ≡ None = rw t at none in cc)
  | inr t ↦ (rw t (found_new ys x n same (rw t at none)))
]

-- what is looked up in two lists
pub look_first : (t : Tenant) (xs ys : List (Tenant × ℕ)) (f : ℕ) → lookup (same_tenant t) xs ≡ Some f → lookup (same_tenant t) (xs ++ ys) ≡ Some f
look_first t [] ys f e = absurd cc
look_first t (x ∷ xs) ys f e = elim (true_or_false (same_tenant t x.0)) [
  | inl u ↦ (rw u (let k : Some x.1 ≡ Some f = rw u at e in k))
  | inr u ↦ (rw u (look_first t xs ys f (rw u at e)))
]

pub look_past : (t : Tenant) (xs ys : List (Tenant × ℕ)) → lookup (same_tenant t) xs ≡ None → lookup (same_tenant t) (xs ++ ys) ≡ lookup (same_tenant t) ys
look_past t [] ys e = refl
look_past t (x ∷ xs) ys e = elim (true_or_false (same_tenant t x.0)) [
  | inl u ↦ absurd (let k : Some x.1 ≡ None = rw u at e in cc)
  | inr u ↦ (rw u (look_past t xs ys (rw u at e)))
]

look_none : (t : Tenant) (xs : List (Tenant × ℕ)) → AllByRecursion (λ (h : Tenant × ℕ). same_tenant t h.0 ≡ false) xs → lookup (same_tenant t) xs ≡ None
look_none t [] all = refl
look_none t (x ∷ xs) all = rw all.0 (look_none t xs all.1)

look_front : (t : Tenant) (xs ys : List (Tenant × ℕ)) → AllByRecursion (λ (h : Tenant × ℕ). same_tenant t h.0 ≡ false) ys → lookup (same_tenant t) (xs ++ ys) ≡ lookup (same_tenant t) xs
look_front t [] ys all = look_none t ys all
look_front t (x ∷ xs) ys all = elim (true_or_false (same_tenant t x.0)) [
  | inl u ↦ (rw u refl)
  | inr u ↦ (rw u (look_front t xs ys all))
]

values_back : (xs ys : List (Tenant × ℕ)) (ws : List ℕ) → IsDistinct nat_eq (values_of (xs ++ ys) ++ ws) → IsDistinct nat_eq (values_of ys)
unfolding IsDistinct
values_back [] ys ws d = distinct_front nat_eq (values_of ys) ws d
values_back (x ∷ xs) ys ws d = values_back xs ys ws d.1

-- what holds of frames
all_dropped : (P : ℕ → Type 0) (n : ℕ) (xs : List ℕ) → AllByRecursion P xs → AllByRecursion P (drop n xs)
all_dropped P zero xs all = all
all_dropped P (suc n) [] all = tt
all_dropped P (suc n) (x ∷ xs) all = all_dropped P n xs all.1

texts_all : (P : ℕ → Type 0) (ns fs : List ℕ) → AllByRecursion P fs → AllByRecursion (λ (t : TextAt). P t.frame) (texts_placed ns fs)
texts_all P [] fs all = tt
texts_all P (n ∷ ns) [] all = tt
texts_all P (n ∷ ns) (f ∷ fs) all = (all.0, texts_all P ns fs all.1)

nodes_all : (P : ℕ → Type 0) (ms : List MissingNode) (fs : List ℕ) → AllByRecursion P fs → AllByRecursion (λ (n : NewNode). P n.node.frame) (nodes_placed ms fs)
nodes_all P [] fs all = tt
nodes_all P (m ∷ ms) [] all = tt
nodes_all P (m ∷ ms) (f ∷ fs) all = (all.0, nodes_all P ms fs all.1)

nodes_owned : (g : ℕ) (ns : List (ℕ × ℕ)) (fs : List ℕ) → AllByRecursion (λ (n : NewNode). n.generation ≡ g) (nodes_placed (map (missing_node g) ns) fs)
nodes_owned g [] fs = tt
nodes_owned g (n ∷ ns) [] = tt
nodes_owned g (n ∷ ns) (f ∷ fs) = (refl, nodes_owned g ns fs)

-- homes of nodes of one generation
nodes_homed : (g : ℕ) (ns : List NewNode) → AllByRecursion (λ (n : NewNode). n.generation ≡ g) ns → map (λ (node : NodeAt). (NodeOf g node.level node.prefix, node.frame)) (map (λ (n : NewNode). n.node) ns) ≡ map node_home ns
nodes_homed g [] all = refl
nodes_homed g (n ∷ ns) all = ap (λ (k : ℕ). (NodeOf k n.node.level n.node.prefix, n.node.frame) ∷ map (λ (node : NodeAt). (NodeOf g node.level node.prefix, node.frame)) (map (λ (n : NewNode). n.node) ns)) (sym all.0) ∙ ap (λ (hs : List (Tenant × ℕ)). node_home n ∷ hs) (nodes_homed g ns all.1)

values_news : (g : ℕ) (ts : List TextAt) (ns : List NewNode) → values_of (map (text_home g) ts ++ map node_home ns) ≡ frames_born ts ns
values_news g [] ns = of_nodes ns
  where
    of_nodes : (ns : List NewNode) → values_of (map node_home ns) ≡ map (λ (n : NewNode). n.node.frame) ns
    of_nodes [] = refl
    of_nodes (n ∷ ns) = ap (λ (fs : List ℕ). n.node.frame ∷ fs) (of_nodes ns)
values_news g (t ∷ ts) ns = ap (λ (fs : List ℕ). t.frame ∷ fs) (values_news g ts ns)

-- a frame is free
pub record IsSpareFrame (homes : Homes) (s : FlatState) (frame : ℕ) : Type 0 where
  pub home : is_home homes frame ≡ false
  pub worn : is_worn homes frame ≡ false
  pub low : frame < s.limits.frames

-- no tenant lies there
pub none_lies : (homes : Homes) (s : FlatState) (frame : ℕ) → IsSpareFrame homes s frame → (t : Tenant) → home_frame homes t ≢ Some frame
none_lies homes s frame spare t e =
    let all : AllByRecursion (λ k. nat_eq frame k ≡ false) (values_of homes.homes) = any_none (nat_eq frame) (values_of homes.homes) spare.home in
    let bad : nat_eq frame frame ≡ false = lookup_all (λ k. nat_eq frame k ≡ false) t homes.homes frame all e in
    absurd (grind (arith, nat_tests))

-- it is nothing of this generation
abbrev pub IsOther : ℕ → Tenant → Type 0
IsOther g (TextOf h page) = h ≢ g
IsOther g (DataOf page) = Unit {0}
IsOther g (NodeOf h level prefix) = h ≢ g

other_text : (g : ℕ) (t : Tenant) (x : TextAt) → IsOther g t → same_tenant t (TextOf g x.page) ≡ false
other_text g (TextOf h page) x apart = (let e : (h == g) ≡ false = grind (arith, nat_tests) in rw e refl)
other_text g (DataOf page) x apart = refl
other_text g (NodeOf h level prefix) x apart = refl

other_node : (g : ℕ) (t : Tenant) (n : NewNode) → n.generation ≡ g → IsOther g t → same_tenant t (NodeOf n.generation n.node.level n.node.prefix) ≡ false
other_node g (TextOf h page) n same apart = refl
other_node g (DataOf page) n same apart = refl
other_node g (NodeOf h level prefix) n same apart = (let e : (h == n.generation) ≡ false = grind (arith, nat_tests) in rw e refl)

module _ (words : WordsValue) (r : Records) (homes : Homes) (s : FlatState) (parent : ℕ) (o : StandsInOrder words r homes s) (may : MayBeBorn s parent) where
  abbrev st : StandsFor words r homes s
  st = o.stands

  abbrev after : FlatState
  after = born_of_parent s parent

  abbrev gen : GenState
  gen = newborn [] s parent None

  abbrev number : ℕ
  number = number_at_birth r

  abbrev texts : List TextAt
  texts = text_at_birth r parent

  abbrev nodes : List NewNode
  nodes = nodes_at_birth r parent

  abbrev view : ViewValue
  view = view_at_birth r parent

  -- the homes that come
  abbrev pub news : List (Tenant × ℕ)
  news = map (text_home number) texts ++ map node_home nodes

  -- the homes after it
  abbrev pub after_h : Homes
  after_h = record homes { homes = homes.homes ++ news }

  pub number_is : number ≡ length s.gens
  number_is = as_many_born words r homes s o

  pub laid : homes_in homes after ≡ after_h
  laid = view_laid words r homes s parent o may.live
      ∙ ap (λ (hs : List (Tenant × ℕ)). let some : Homes = record homes { homes = hs } in some) (append_assoc homes.homes (map (text_home number) texts) (map node_home nodes))

  pub tidy_after : IsTidy after
  tidy_after = record {
    ordered = record { pages = o.tidy.ordered.pages; met = o.tidy.ordered.met };
    placed = λ g x e. (elim (one_or_two g (length s.gens)) [
      | inl same ↦ (
          let there : slice_get after.gens g ≡ Some gen = ap (slice_get after.gens) same ∙ get_end s.gens gen in
          let is : gen ≡ x = (let k : Some gen ≡ Some x = sym there ∙ e in cc) in
          ap (λ (y : GenState). y.number) (sym is) ∙ sym same
          )
      | inr apart ↦ o.tidy.placed g x (sym (get_other s.gens gen g apart) ∙ e)
    ]);
    gens = all_both (λ gen. IsGen gen.text gen.reach) s.gens (gen ∷ []) o.tidy.gens (
      record {
        rising = text_rises;
        reach_rising = places_rise (places_with [] (text_numbers gen.text)) (here_numbers s) (places_rise [] (text_numbers gen.text) tt);
      },
      tt,
    );
  }
    where
      text_rises : IsRising (text_numbers gen.text)
      text_rises =
          let p : IsParent words r homes s parent = parent_of words r homes s o parent may.live in
          let is : IsGen p.gen.text p.gen.reach = all_get (λ gen. IsGen gen.text gen.reach) s.gens parent p.gen p.at o.tidy.gens in
          rw p.at is.rising

  pub are : AreHomes after_h after
  are =
      let separate = st.housed.separate in
      subst (λ (h : Homes). AreHomes h after) laid
      (homes_made homes after (record { once = separate.once; apart = separate.apart; low = separate.low; counted = separate.counted }) (tenants_counted after tidy_after) may.frames)

  -- frames of what is born are free
  free_spare : AllByRecursion (IsSpareFrame homes s) (free_in r)
  free_spare =
      let same : free_in r ≡ free_frames s.limits.frames homes = free_agree words r homes s st in
      let len : length r.frames.frames ≡ s.limits.frames = st.sizes.of_frames in
      both (free_in r) (all_more (λ f. f < length r.frames.frames) (λ f. f < s.limits.frames) (λ f lt. omega arith) (free_in r) (free_low r.frames.frames))
      (subst (AllByRecursion (λ f. is_spare homes f ≡ true)) (sym same) (all_kept (is_spare homes) (λ f. Unit {0}) (λ f. is_spare homes f ≡ true) (λ f e u. e) (range_with_len 0 s.limits.frames) (all_any (λ (f : ℕ). Unit {0}) (λ f. tt) (range_with_len 0 s.limits.frames))))
    where
      one : (f : ℕ) → f < s.limits.frames → (h w : Bool) → is_home homes f ≡ h → is_worn homes f ≡ w → (not h && not w) ≡ true → IsSpareFrame homes s f
      one f lt true w eh ew e = absurd cc
      one f lt false true eh ew e = absurd cc
      one f lt false false eh ew e = record { home = eh; worn = ew; low = lt }

      both : (fs : List ℕ) → AllByRecursion (λ f. f < s.limits.frames) fs → AllByRecursion (λ f. is_spare homes f ≡ true) fs → AllByRecursion (IsSpareFrame homes s) fs
      both [] low spare = tt
      both (f ∷ fs) low spare = (one f low.0 (is_home homes f) (is_worn homes f) refl refl spare.0, both fs low.1 spare.1)

  pub texts_spare : AllByRecursion (λ (t : TextAt). IsSpareFrame homes s t.frame) texts
  texts_spare = texts_all (IsSpareFrame homes s) (text_numbers_of r parent) (free_in r) free_spare

  pub nodes_spare : AllByRecursion (λ (n : NewNode). IsSpareFrame homes s n.node.frame) nodes
  nodes_spare = nodes_all (IsSpareFrame homes s) (nodes_needed r parent) (drop (length (parent_text r parent)) (free_in r)) (all_dropped (IsSpareFrame homes s) (length (parent_text r parent)) (free_in r) free_spare)

  pub nodes_of_it : AllByRecursion (λ (n : NewNode). n.generation ≡ number) nodes
  nodes_of_it = nodes_owned number (tree_nodes (reach_at_birth r parent)) (drop (length (parent_text r parent)) (free_in r))

  pub values_are : values_of news ≡ frames_born texts nodes
  values_are = values_news number texts nodes

  pub frames_apart : IsDistinct nat_eq (frames_born texts nodes)
  frames_apart = subst (IsDistinct nat_eq) values_are (values_back homes.homes news homes.worn are.separate.apart)

  pub frames_spare : AllByRecursion (IsSpareFrame homes s) (frames_born texts nodes)
  frames_spare = all_both (IsSpareFrame homes s) (map (λ (t : TextAt). t.frame) texts) (map (λ (n : NewNode). n.node.frame) nodes)
      (all_map (λ (t : TextAt). IsSpareFrame homes s t.frame) (IsSpareFrame homes s) (λ (t : TextAt). t.frame) (λ t h. h) texts texts_spare)
      (all_map (λ (n : NewNode). IsSpareFrame homes s n.node.frame) (IsSpareFrame homes s) (λ (n : NewNode). n.node.frame) (λ n h. h) nodes nodes_spare)

  -- homes of all else stay
  pub other_home : (t : Tenant) → IsOther number t → home_frame after_h t ≡ home_frame homes t
  other_home t apart = by_home (home_frame homes t) refl
    where
      none : AllByRecursion (λ (h : Tenant × ℕ). same_tenant t h.0 ≡ false) news
      none = all_both (λ (h : Tenant × ℕ). same_tenant t h.0 ≡ false) (map (text_home number) texts) (map node_home nodes)
          (all_map (λ (x : TextAt). Unit {0}) (λ (h : Tenant × ℕ). same_tenant t h.0 ≡ false) (text_home number) (λ x u. other_text number t x apart) texts (all_any (λ (x : TextAt). Unit {0}) (λ x. tt) texts))
          (all_map (λ (n : NewNode). n.generation ≡ number) (λ (h : Tenant × ℕ). same_tenant t h.0 ≡ false) node_home (λ n same. other_node number t n same apart) nodes nodes_of_it)

      by_home : (f : Option ℕ) → home_frame homes t ≡ f → home_frame after_h t ≡ f
      by_home (Some f) e = look_first t homes.homes news f e
      by_home None e = look_past t homes.homes news e ∙ look_none t news none

  same_number : (number == number) ≡ true
  same_number = grind (arith, nat_tests)

  -- and those of what is born are as its view has them
  pub text_home_is : (page : ℕ) → home_frame after_h (TextOf number page) ≡ text_frame view page
  text_home_is page =
      look_past (TextOf number page) homes.homes news (ap (λ (k : ℕ). home_frame homes (TextOf k page)) number_is ∙ no_text words r homes s parent o may.live page)
      ∙ look_front (TextOf number page) (map (text_home number) texts) (map node_home nodes) (all_map (λ (n : NewNode). Unit {0}) (λ (h : Tenant × ℕ). same_tenant (TextOf number page) h.0 ≡ false) node_home (λ n u. refl) nodes (all_any (λ (n : NewNode). Unit {0}) (λ n. tt) nodes))
      ∙ sym (text_looked number same_number texts page)

  pub node_home_is : (level prefix : ℕ) → home_frame after_h (NodeOf number level prefix) ≡ node_frame view level prefix
  node_home_is level prefix =
      look_past (NodeOf number level prefix) homes.homes news (ap (λ (k : ℕ). home_frame homes (NodeOf k level prefix)) number_is ∙ no_node words r homes s parent o may.live level prefix)
      ∙ look_past (NodeOf number level prefix) (map (text_home number) texts) (map node_home nodes) (look_none (NodeOf number level prefix) (map (text_home number) texts) (all_map (λ (x : TextAt). Unit {0}) (λ (h : Tenant × ℕ). same_tenant (NodeOf number level prefix) h.0 ≡ false) (text_home number) (λ x u. refl) texts (all_any (λ (x : TextAt). Unit {0}) (λ x. tt) texts)))
      ∙ ap (λ (hs : List (Tenant × ℕ)). lookup (same_tenant (NodeOf number level prefix)) hs) (sym (nodes_homed number nodes nodes_of_it))
      ∙ sym (node_looked number same_number (map (λ (n : NewNode). n.node) nodes) level prefix)

  -- the records after it
  abbrev pub after_r : Records
  after_r = recorded texts nodes view r

  pub view_other : (g : ℕ) → g ≢ number → view_of after_r.views g ≡ view_of r.views g
  view_other g apart = found_other r.views.views view g (λ e. apart (sym e))

  no_view : view_of r.views number ≡ None
  no_view = by_view (view_of r.views number) (ap is_some (ap (view_of r.views) number_is) ∙ view_there words r homes s o (length s.gens) ∙ none_live)
    where
      none_live : is_live s (length s.gens) ≡ false
      none_live = (let e : slice_get s.gens (length s.gens) ≡ None = slice_get_past s.gens (length s.gens) (omega arith) in rw e refl)

      by_view : (v : Option ViewValue) → is_some v ≡ false → v ≡ None
      by_view None e = refl
      by_view (Some v) e = absurd cc

  pub view_new : view_of after_r.views number ≡ Some view
  view_new = found_new r.views.views view number refl no_view

  pub at_home_after : (t : Tenant) → recorded_frame after_r t ≡ home_frame after_h t
  at_home_after (DataOf page) = st.at_home (DataOf page) ∙ sym (other_home (DataOf page) tt)
  at_home_after (TextOf g page) = elim (one_or_two g number) [
    | inl same ↦ subst (λ (k : ℕ). recorded_frame after_r (TextOf k page) ≡ home_frame after_h (TextOf k page)) (sym same)
        (ap (λ (v : Option ViewValue). option_and_then (λ (x : ViewValue). text_frame x page) v) view_new ∙ sym (text_home_is page))
    | inr apart ↦ (ap (λ (v : Option ViewValue). option_and_then (λ (x : ViewValue). text_frame x page) v) (view_other g apart) ∙ st.at_home (TextOf g page) ∙ sym (other_home (TextOf g page) apart))
  ]
  at_home_after (NodeOf g level prefix) = elim (one_or_two g number) [
    | inl same ↦ subst (λ (k : ℕ). recorded_frame after_r (NodeOf k level prefix) ≡ home_frame after_h (NodeOf k level prefix)) (sym same)
        (ap (λ (v : Option ViewValue). option_and_then (λ (x : ViewValue). node_frame x level prefix) v) view_new ∙ sym (node_home_is level prefix))
    | inr apart ↦ (ap (λ (v : Option ViewValue). option_and_then (λ (x : ViewValue). node_frame x level prefix) v) (view_other g apart) ∙ st.at_home (NodeOf g level prefix) ∙ sym (other_home (NodeOf g level prefix) apart))
  ]
