-- The homes after a mapping: those before it, and those of its pages and nodes.
use Rattle.std.proofs.Common.{◌≡◌, ◌⊎◌, ◌<◌, ◌≤◌, ◌+◌, ◌/◌, ◌==◌, ◌++◌, ◌&&◌, ℕ, zero, suc, List, [], ◌∷◌, Bool, true, false, not, Some, None, drop, length, map, take, refl, sym, ap, subst, ◌∙◌, inl, inr, arith, is_some, nat_eq, append_assoc}
use Rattle.std.specs.Prelude.{IsSome}
use Rattle.std.specs.List.{AllByRecursion, IsDistinct, filter, range_with_len}
use Rattle.std.specs.Map.{keys_of, lookup, values_of}
use Rattle.std.proofs.lemmas.List.{length-take-le}
use Rattle.wf_outside.specs.Lists.{IsRising}
use Rattle.wf_outside.specs.Pages.{page_of}
use Rattle.wf_frames.specs.declared.state.FrameState.TheVariants.{Free}
use Rattle.wf_frames.specs.Frames.{HasState}
use Rattle.wf_frames.specs.Layout.{WordsValue}
use Rattle.wf_views.specs.declared.pages.PageAt.{PageAt}
use Rattle.wf_views.specs.declared.records.Records.{Records}
use Rattle.wf_views.specs.Views.{ViewValue, generation_number, view_of}
use Rattle.wf_flat.specs.Boot.{places_with}
use Rattle.wf_flat.specs.Counts.{used_of}
use Rattle.wf_flat.specs.State.{FlatState}
use Rattle.wf_homes.specs.Homes.{AreHomes, DataOf, Homes, NodeOf, Tenant, free_frames, home_frame, homes_in, is_home, is_worn, nodes_below, same_tenant, tree_nodes}
use Rattle.wf_homes.specs.Kept.{state_of}
use Rattle.wf_homes.specs.Laws.{AreCounted, IsTidy}
use Rattle.wf_homes.specs.Stands.{StandsFor}
use Rattle.wf_homes.proofs.CountLemmas.{tenants_counted}
use Rattle.wf_homes.proofs.HomeLemmas.{free_counted, homes_made}
use Rattle.wf_homes.proofs.ListLemmas.{all_any, all_back, all_both, all_kept, all_lists, all_map, all_more, all_taken, distinct_front, map_all, true_or_false}
use Rattle.wf_homes.proofs.TenantLemmas.{same_tenant_laws}
use Rattle.wf_space.proofs.ZeroLemmas.{each_found}
use Rattle.wf_mapping.specs.declared.layout.Mapping.{Mapping}
use Rattle.wf_mapping.specs.declared.nodes.MissingNode.{MissingNode}
use Rattle.wf_mapping.specs.declared.nodes.NewNode.{NewNode}
use Rattle.wf_mapping.specs.Laws.{mapped_by, node_home, page_home}
use Rattle.wf_mapping.specs.Layout.{free_in, missing_for, need_of, new_nodes, new_pages, numbers_of, pages_placed}
use Rattle.wf_mapping.specs.Nodes.{lacks_node, missing_in, missing_node, nodes_for, nodes_placed}
use Rattle.wf_mapping.proofs.FreeLemmas.{free_agree, is_spare}
use Rattle.wf_mapping.proofs.LaidLemmas.{laid_out}
use Rattle.wf_mapping.proofs.LowLemmas.{free_low}
use Rattle.wf_mapping.proofs.NeedLemmas.{need_counted, tidy_mapped}
use Rattle.wf_mapped.proofs.AnyLemmas.{all_and}
use Rattle.wf_mapped.specs.Mapped.{MayMap}
use Rattle.wf_mapped.specs.Raising.{CanBeRaised}

-- what is looked up in two lists
pub look_first : (t : Tenant) (xs ys : List (Tenant × ℕ)) (f : ℕ) → lookup (same_tenant t) xs ≡ Some f → lookup (same_tenant t) (xs ++ ys) ≡ Some f
look_first t [] ys f e = absurd cc
look_first t (x ∷ xs) ys f e = elim (true_or_false (same_tenant t x.0)) [
  | inl u ↦ (rw u (let k : Some x.1 ≡ Some f = rw u at e in k))
  | inr u ↦ (rw u (look_first t xs ys f (rw u at e)))
]

pub look_past : (t : Tenant) (xs ys : List (Tenant × ℕ)) → lookup (same_tenant t) xs ≡ None → lookup (same_tenant t) (xs ++ ys) ≡ lookup (same_tenant t) ys
look_past t [] ys e = refl
look_past t (x ∷ xs) ys e = elim (true_or_false (same_tenant t x.0)) [
  | inl u ↦ absurd (let k : Some x.1 ≡ None = rw u at e in cc)
  | inr u ↦ (rw u (look_past t xs ys (rw u at e)))
]

-- where no tenant is there twice, each is found
pub each_key : (hs : List (Tenant × ℕ)) → IsDistinct same_tenant (keys_of hs) → AllByRecursion (λ h. lookup (same_tenant h.0) hs ≡ Some h.1) hs
unfolding IsDistinct
each_key [] d = tt
each_key (x ∷ xs) d =
    let t : same_tenant x.0 x.0 ≡ true = same_tenant_laws.refl x.0 in (
      rw t refl,
      all_more (λ h. (same_tenant x.0 h.0 ≡ false) × (lookup (same_tenant h.0) xs ≡ Some h.1)) (λ h. lookup (same_tenant h.0) (x ∷ xs) ≡ Some h.1)
          (λ h both. (let f : same_tenant h.0 x.0 ≡ false = same_tenant_laws.symm h.0 x.0 ∙ both.0 in rw f both.1)) xs
          (all_and (λ h. same_tenant x.0 h.0 ≡ false) (λ h. lookup (same_tenant h.0) xs ≡ Some h.1) xs (map_all (λ h. same_tenant x.0 h.0 ≡ false) (λ k. same_tenant x.0 k ≡ false) (λ (h : Tenant × ℕ). h.0) (λ h e. e) xs d.0) (each_key xs d.1)),
    )

-- and those of the second list are none of the first
pub each_new : (xs ys : List (Tenant × ℕ)) → IsDistinct same_tenant (keys_of (xs ++ ys)) → AllByRecursion (λ h. lookup (same_tenant h.0) xs ≡ None) ys
unfolding IsDistinct
each_new [] ys d = all_any (λ h. lookup (same_tenant h.0) [] ≡ None) (λ h. refl) ys
each_new (x ∷ xs) ys d =
    all_more (λ h. (same_tenant x.0 h.0 ≡ false) × (lookup (same_tenant h.0) xs ≡ None)) (λ h. lookup (same_tenant h.0) (x ∷ xs) ≡ None)
    (λ h both. (let f : same_tenant h.0 x.0 ≡ false = same_tenant_laws.symm h.0 x.0 ∙ both.0 in rw f both.1)) ys
    (all_and (λ h. same_tenant x.0 h.0 ≡ false) (λ h. lookup (same_tenant h.0) xs ≡ None) ys
    (all_back (λ h. same_tenant x.0 h.0 ≡ false) xs ys (map_all (λ h. same_tenant x.0 h.0 ≡ false) (λ k. same_tenant x.0 k ≡ false) (λ (h : Tenant × ℕ). h.0) (λ h e. e) (xs ++ ys) d.0)) (each_new xs ys d.1))

values_back : (xs ys : List (Tenant × ℕ)) (ws : List ℕ) → IsDistinct nat_eq (values_of (xs ++ ys) ++ ws) → IsDistinct nat_eq (values_of ys)
unfolding IsDistinct
values_back [] ys ws d = distinct_front nat_eq (values_of ys) ws d
values_back (x ∷ xs) ys ws d = values_back xs ys ws d.1

-- what holds of frames, of the pages and nodes that lie in them
all_dropped : (P : ℕ → Type 0) (n : ℕ) (xs : List ℕ) → AllByRecursion P xs → AllByRecursion P (drop n xs)
all_dropped P zero xs all = all
all_dropped P (suc n) [] all = tt
all_dropped P (suc n) (x ∷ xs) all = all_dropped P n xs all.1

pages_all : (P : ℕ → Type 0) (write : Bool) (page : ℕ) (fs : List ℕ) → AllByRecursion P fs → AllByRecursion (λ p. P p.frame) (pages_placed write page fs)
pages_all P write page [] all = tt
pages_all P write page (f ∷ fs) all = (all.0, pages_all P write (page + 1) fs all.1)

pages_length : (write : Bool) (page : ℕ) (fs : List ℕ) → length (pages_placed write page fs) ≡ length fs
pages_length write page [] = refl
pages_length write page (f ∷ fs) = ap suc (pages_length write (page + 1) fs)

nodes_all : (P : ℕ → Type 0) (ms : List MissingNode) (fs : List ℕ) → AllByRecursion P fs → AllByRecursion (λ (n : NewNode). P n.node.frame) (nodes_placed ms fs)
nodes_all P [] fs all = tt
nodes_all P (m ∷ ms) [] all = tt
nodes_all P (m ∷ ms) (f ∷ fs) all = (all.0, nodes_all P ms fs all.1)

nodes_of_missing : (P : MissingNode → Type 0) (ms : List MissingNode) (fs : List ℕ) → AllByRecursion P ms → AllByRecursion (λ (n : NewNode). P (record { generation = n.generation; level = n.node.level; prefix = n.node.prefix })) (nodes_placed ms fs)
nodes_of_missing P [] fs all = tt
nodes_of_missing P (m ∷ ms) [] all = tt
nodes_of_missing P (m ∷ ms) (f ∷ fs) all = (all.0, nodes_of_missing P ms fs all.1)

-- a node of a tree is the root, or lies at a level below
abbrev pub IsInTree : ℕ → ℕ → Type 0
IsInTree level prefix = (level < 2) ⊎ ((level ≡ 2) × (prefix ≡ 0))

tree_all : (places : List ℕ) → AllByRecursion (λ n. IsInTree n.0 n.1) (tree_nodes places)
tree_all places = (inr (refl, refl), all_lists (nodes_below places) (λ n. IsInTree n.0 n.1) (places_with [] places) (all_any (λ u. AllByRecursion (λ n. IsInTree n.0 n.1) (nodes_below places u)) below (places_with [] places)))
  where
    below : (u : ℕ) → AllByRecursion (λ n. IsInTree n.0 n.1) (nodes_below places u)
    below u = (inl (omega arith), all_map (λ (place : ℕ). Unit {0}) (λ n. IsInTree n.0 n.1) (λ (place : ℕ). (0, place)) (λ place h. inl (omega arith)) (filter (λ place. place / 512 == u) places) (all_any (λ (place : ℕ). Unit {0}) (λ place. tt) (filter (λ place. place / 512 == u) places)))

-- a mapping that may be done, where words and records stand
pub record IsReady (words : WordsValue) (r : Records) (homes : Homes) (s : FlatState) (mapping : Mapping) : Type 0 where
  pub stands : StandsFor words r homes s
  pub tidy : IsTidy s
  pub up : IsRising (map generation_number r.views.views)
  pub may : MayMap s mapping
  pub raised : CanBeRaised r.frames

-- the homes that come
abbrev pub news : Records → Mapping → List (Tenant × ℕ)
news r mapping = map page_home (new_pages r mapping) ++ map node_home (new_nodes r mapping)

-- the homes after it
abbrev pub housed : Records → Homes → Mapping → Homes
housed r homes mapping = record homes { homes = homes.homes ++ news r mapping }

-- a frame is free
pub record IsSpareFrame (r : Records) (homes : Homes) (s : FlatState) (frame : ℕ) : Type 0 where
  pub home : is_home homes frame ≡ false
  pub worn : is_worn homes frame ≡ false
  pub low : frame < s.limits.frames
  pub state : HasState r.frames.frames frame Free

-- a home is new
pub record IsNewHome (r : Records) (homes after : Homes) (s : FlatState) (t : Tenant) (frame : ℕ) : Type 0 where
  pub now : home_frame after t ≡ Some frame
  pub before : home_frame homes t ≡ None
  pub spare : IsSpareFrame r homes s frame

-- a node is new
pub record IsNewNode (r : Records) (homes after : Homes) (s : FlatState) (n : NewNode) : Type 0 where
  pub home : IsNewHome r homes after s (NodeOf n.generation n.node.level n.node.prefix) n.node.frame
  pub view : IsSome (view_of r.views n.generation)
  pub level : IsInTree n.node.level n.node.prefix

module _ (words : WordsValue) (r : Records) (homes : Homes) (s : FlatState) (mapping : Mapping) (ready : IsReady words r homes s mapping) where
  abbrev st : StandsFor words r homes s
  st = ready.stands

  abbrev after_s : FlatState
  after_s = mapped_by s mapping

  abbrev after_h : Homes
  after_h = housed r homes mapping

  pub laid : homes_in homes after_s ≡ after_h
  laid = laid_out words r homes s mapping st ready.tidy ready.up ready.may.absent
      ∙ ap (λ (hs : List (Tenant × ℕ)). let some : Homes = record homes { homes = hs } in some) (append_assoc homes.homes (map page_home (new_pages r mapping)) (map node_home (new_nodes r mapping)))

  pub tidy_after : IsTidy after_s
  tidy_after = tidy_mapped s mapping ready.tidy ready.may.absent

  pub are : AreHomes after_h after_s
  are =
      let separate = st.housed.separate in
      subst (λ (h : Homes). AreHomes h after_s) laid
      (homes_made homes after_s (record { once = separate.once; apart = separate.apart; low = separate.low; counted = separate.counted }) (tenants_counted after_s tidy_after) ready.may.frames)

  -- homes that are there stay
  pub old_home : (t : Tenant) (f : ℕ) → home_frame homes t ≡ Some f → home_frame after_h t ≡ Some f
  old_home t f e = look_first t homes.homes (news r mapping) f e

  pub new_home : (t : Tenant) → home_frame homes t ≡ None → home_frame after_h t ≡ lookup (same_tenant t) (news r mapping)
  new_home t e = look_past t homes.homes (news r mapping) e

  -- frames that are free
  pub free_spare : AllByRecursion (IsSpareFrame r homes s) (free_in r)
  free_spare =
      let same : free_in r ≡ free_frames s.limits.frames homes = free_agree words r homes s st in
      let len : length r.frames.frames ≡ s.limits.frames = st.sizes.of_frames in
      let low : AllByRecursion (λ f. f < s.limits.frames) (free_in r) = all_more (λ f. f < length r.frames.frames) (λ f. f < s.limits.frames) (λ f lt. omega arith) (free_in r) (free_low r.frames.frames) in
      let spare : AllByRecursion (λ f. is_spare homes f ≡ true) (free_in r) =
      subst (AllByRecursion (λ f. is_spare homes f ≡ true)) (sym same) (all_kept (is_spare homes) (λ f. Unit {0}) (λ f. is_spare homes f ≡ true) (λ f e u. e) (range_with_len 0 s.limits.frames) (all_any (λ (f : ℕ). Unit {0}) (λ f. tt) (range_with_len 0 s.limits.frames))) in
      all_more (λ f. (f < s.limits.frames) × (is_spare homes f ≡ true)) (IsSpareFrame r homes s) (λ f both. one f both.0 (is_home homes f) (is_worn homes f) refl refl both.1) (free_in r)
      (all_and (λ f. f < s.limits.frames) (λ f. is_spare homes f ≡ true) (free_in r) low spare)
    where
      one : (f : ℕ) → f < s.limits.frames → (h w : Bool) → is_home homes f ≡ h → is_worn homes f ≡ w → (not h && not w) ≡ true → IsSpareFrame r homes s f
      one f lt true w eh ew e = absurd cc
      one f lt false true eh ew e = absurd cc
      one f lt false false eh ew e =
          let free : state_of homes f ≡ Free = rw (eh, ew) refl in
          record { home = eh; worn = ew; low = lt; state = subst (HasState r.frames.frames f) free (st.frames f lt).state }

  pub pages_spare : AllByRecursion (λ (p : PageAt). IsSpareFrame r homes s p.frame) (new_pages r mapping)
  pages_spare = pages_all (IsSpareFrame r homes s) mapping.write (page_of mapping.va) (take mapping.pages (free_in r)) (all_taken (IsSpareFrame r homes s) mapping.pages (free_in r) free_spare)

  nodes_spare : AllByRecursion (λ (n : NewNode). IsSpareFrame r homes s n.node.frame) (new_nodes r mapping)
  nodes_spare = nodes_all (IsSpareFrame r homes s) (missing_for r mapping) (drop mapping.pages (free_in r)) (all_dropped (IsSpareFrame r homes s) mapping.pages (free_in r) free_spare)

  news_spare : AllByRecursion (λ (h : Tenant × ℕ). IsSpareFrame r homes s h.1) (news r mapping)
  news_spare = all_both (λ (h : Tenant × ℕ). IsSpareFrame r homes s h.1) (map page_home (new_pages r mapping)) (map node_home (new_nodes r mapping))
      (all_map (λ (p : PageAt). IsSpareFrame r homes s p.frame) (λ (h : Tenant × ℕ). IsSpareFrame r homes s h.1) page_home (λ p h. h) (new_pages r mapping) pages_spare)
      (all_map (λ (n : NewNode). IsSpareFrame r homes s n.node.frame) (λ (h : Tenant × ℕ). IsSpareFrame r homes s h.1) node_home (λ n h. h) (new_nodes r mapping) nodes_spare)

  -- the homes that come are new
  pub all_new : AllByRecursion (λ (h : Tenant × ℕ). IsNewHome r homes after_h s h.0 h.1) (news r mapping)
  all_new =
      let now : AllByRecursion (λ (h : Tenant × ℕ). home_frame after_h h.0 ≡ Some h.1) (news r mapping) = all_back (λ (h : Tenant × ℕ). home_frame after_h h.0 ≡ Some h.1) homes.homes (news r mapping) (each_key (homes.homes ++ news r mapping) are.separate.once) in
      let before : AllByRecursion (λ (h : Tenant × ℕ). home_frame homes h.0 ≡ None) (news r mapping) = each_new homes.homes (news r mapping) are.separate.once in
      all_more (λ h. ((home_frame after_h h.0 ≡ Some h.1) × (home_frame homes h.0 ≡ None)) × IsSpareFrame r homes s h.1) (λ h. IsNewHome r homes after_h s h.0 h.1)
      (λ h all. record { now = all.0.0; before = all.0.1; spare = all.1 }) (news r mapping)
      (all_and (λ h. (home_frame after_h h.0 ≡ Some h.1) × (home_frame homes h.0 ≡ None)) (λ h. IsSpareFrame r homes s h.1) (news r mapping)
      (all_and (λ h. home_frame after_h h.0 ≡ Some h.1) (λ h. home_frame homes h.0 ≡ None) (news r mapping) now before) news_spare)

  pub news_apart : IsDistinct nat_eq (values_of (news r mapping))
  news_apart = values_back homes.homes (news r mapping) homes.worn are.separate.apart

  pub pages_new : AllByRecursion (λ (p : PageAt). IsNewHome r homes after_h s (DataOf p.page) p.frame) (new_pages r mapping)
  pages_new = map_all (λ (p : PageAt). IsNewHome r homes after_h s (DataOf p.page) p.frame) (λ (h : Tenant × ℕ). IsNewHome r homes after_h s h.0 h.1) page_home (λ p h. h) (new_pages r mapping)
      (front (map page_home (new_pages r mapping)) (map node_home (new_nodes r mapping)) all_new)
    where
      front : (xs ys : List (Tenant × ℕ)) → AllByRecursion (λ (h : Tenant × ℕ). IsNewHome r homes after_h s h.0 h.1) (xs ++ ys) → AllByRecursion (λ (h : Tenant × ℕ). IsNewHome r homes after_h s h.0 h.1) xs
      front [] ys all = tt
      front (x ∷ xs) ys all = (all.0, front xs ys all.1)

  abbrev needed : List (ℕ × ℕ)
  needed = nodes_for (numbers_of mapping)

  abbrev Is : MissingNode → Type 0
  Is m = IsSome (view_of r.views m.generation) × IsInTree m.level m.prefix

  -- the nodes that are missing are those of views that are there
  missing_there : AllByRecursion (λ (m : MissingNode). IsSome (view_of r.views m.generation) × IsInTree m.level m.prefix) (missing_for r mapping)
  missing_there = all_lists (missing_in needed) Is r.views.views
      (all_more (λ v. view_of r.views v.generation ≡ Some v) (λ v. AllByRecursion Is (missing_in needed v)) (λ v there. of_view v (ap is_some there)) r.views.views (each_found generation_number r.views.views ready.up))
    where
      of_view : (v : ViewValue) → IsSome (view_of r.views v.generation) → AllByRecursion Is (missing_in needed v)
      of_view v there = all_map (λ (n : ℕ × ℕ). IsInTree n.0 n.1) Is (missing_node v.generation) (λ n h. (there, h)) (filter (lacks_node v) needed)
          (all_kept (lacks_node v) (λ n. IsInTree n.0 n.1) (λ n. IsInTree n.0 n.1) (λ n e h. h) needed (tree_all (places_with [] (numbers_of mapping))))

  pub nodes_new : AllByRecursion (IsNewNode r homes after_h s) (new_nodes r mapping)
  nodes_new =
      let home : AllByRecursion (λ (n : NewNode). IsNewHome r homes after_h s (NodeOf n.generation n.node.level n.node.prefix) n.node.frame) (new_nodes r mapping) =
      map_all (λ (n : NewNode). IsNewHome r homes after_h s (NodeOf n.generation n.node.level n.node.prefix) n.node.frame) (λ (h : Tenant × ℕ). IsNewHome r homes after_h s h.0 h.1) node_home (λ n h. h) (new_nodes r mapping)
      (all_back (λ (h : Tenant × ℕ). IsNewHome r homes after_h s h.0 h.1) (map page_home (new_pages r mapping)) (map node_home (new_nodes r mapping)) all_new) in
      let there : AllByRecursion (λ (n : NewNode). IsSome (view_of r.views n.generation) × IsInTree n.node.level n.node.prefix) (new_nodes r mapping) =
      nodes_of_missing (λ m. IsSome (view_of r.views m.generation) × IsInTree m.level m.prefix) (missing_for r mapping) (drop mapping.pages (free_in r)) missing_there in
      all_more (λ (n : NewNode). IsNewHome r homes after_h s (NodeOf n.generation n.node.level n.node.prefix) n.node.frame × (IsSome (view_of r.views n.generation) × IsInTree n.node.level n.node.prefix)) (IsNewNode r homes after_h s)
      (λ n all. record { home = all.0; view = all.1.0; level = all.1.1 }) (new_nodes r mapping)
      (all_and (λ (n : NewNode). IsNewHome r homes after_h s (NodeOf n.generation n.node.level n.node.prefix) n.node.frame) (λ (n : NewNode). IsSome (view_of r.views n.generation) × IsInTree n.node.level n.node.prefix) (new_nodes r mapping) home there)

  -- there are frames enough
  pub enough : need_of r mapping ≤ length (free_in r)
  enough =
      let counted : AreCounted s = tenants_counted s ready.tidy in
      let a : length (free_frames s.limits.frames homes) + used_of s + s.worn ≡ s.limits.frames = free_counted homes s st.housed counted in
      let b : used_of s + need_of r mapping ≡ used_of after_s = need_counted words r homes s mapping st ready.tidy ready.up ready.may.absent in
      let c : used_of after_s + s.worn ≤ s.limits.frames = ready.may.frames in
      let d : length (free_in r) ≡ length (free_frames s.limits.frames homes) = ap length (free_agree words r homes s st) in
      omega arith

  pub pages_fit : mapping.pages ≤ length (free_in r)
  pages_fit = (let le : need_of r mapping ≤ length (free_in r) = enough in omega arith)

  pub all_placed : length (new_pages r mapping) ≡ mapping.pages
  all_placed = pages_length mapping.write (page_of mapping.va) (take mapping.pages (free_in r)) ∙ length-take-le mapping.pages (free_in r) pages_fit
