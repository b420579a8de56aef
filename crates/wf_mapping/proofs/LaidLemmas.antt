-- The homes of what is mapped are those of its layout.
use Rattle.std.proofs.Common.{◌≡◌, ◌+◌, ◌/◌, ◌==◌, ◌||◌, ◌&&◌, ◌++◌, ℕ, zero, suc, List, [], ◌∷◌, Bool, true, false, not, None, drop, length, map, take, refl, sym, ap, ◌∙◌, is_some, append_assoc}
use Rattle.std.specs.List.{AllByRecursion, filter, flat_map, list_any, range_with_len, zip}
use Rattle.std.specs.Map.{keys_of}
use Rattle.std.specs.Set.{is_member}
use Rattle.std.proofs.lemmas.List.{length-map}
use Rattle.std.proofs.lemmas.List.Elements.{recursion_from_All}
use Rattle.std.proofs.lemmas.List.FromFn.{length-range_with_len}
use Rattle.std.proofs.lemmas.Map.Made.{All-is_member, is_some-lookup}
use Rattle.wf_outside.specs.Lists.{IsRising}
use Rattle.wf_outside.specs.Pages.{page_of}
use Rattle.wf_frames.specs.Layout.{WordsValue}
use Rattle.wf_views.specs.declared.records.Records.{Records}
use Rattle.wf_views.specs.Views.{generation_number}
use Rattle.wf_flat.specs.Boot.{places_with}
use Rattle.wf_flat.specs.Memory.{data_in}
use Rattle.wf_flat.specs.State.{FlatState, GenState, PageState}
use Rattle.wf_effects.specs.Effects.{mapped_pages, reaching}
use Rattle.wf_homes.specs.Homes.{DataOf, Homes, NodeOf, Tenant, free_frames, has_tenant, home_frame, homes_in, newcomers, node_tenants, nodes_below, same_tenant, tenants_of, text_tenants, tree_nodes, with_new, without_left}
use Rattle.wf_homes.specs.Laws.{IsTidy}
use Rattle.wf_homes.specs.Stands.{StandsFor}
use Rattle.wf_homes.proofs.ListLemmas.{all_back, all_front, all_more, any_both, map_all}
use Rattle.wf_homes.proofs.TenantLemmas.{same_tenant_laws}
use Rattle.wf_space.proofs.LeftLemmas.{data_tenants, parts}
use Rattle.wf_mapping.specs.declared.layout.Mapping.{Mapping}
use Rattle.wf_mapping.specs.declared.nodes.MissingNode.{MissingNode}
use Rattle.wf_mapping.specs.Laws.{HomesAreLaidOut, homes_with, mapped_by, node_home, page_home}
use Rattle.wf_mapping.specs.Layout.{free_in, missing_for, new_nodes, new_pages, numbers_of, pages_placed}
use Rattle.wf_mapping.specs.Nodes.{nodes_placed}
use Rattle.wf_mapping.proofs.AnyLemmas.{any_filter, any_flat, any_map, any_more, any_places, any_same, or_yes}
use Rattle.wf_mapping.proofs.DataLemmas.{any_sorted, data_tenant, new_data, number}
use Rattle.wf_mapping.proofs.FreeLemmas.{free_agree}
use Rattle.wf_mapping.proofs.NodeLemmas.{is_new, live_tenants, nodes_new, tenant_of}
use Rattle.wf_mapping.proofs.TreeLemmas.{filter_both}

pub all_stay : {A : Type 0} (keeps : A → Bool) (xs : List A) → AllByRecursion (λ x. keeps x ≡ true) xs → filter keeps xs ≡ xs
all_stay keeps [] all = refl
all_stay {A = A} keeps (x ∷ xs) all = rw all.0 (ap (λ (ys : List A). x ∷ ys) (all_stay keeps xs all.1))

pub none_stays : {A : Type 0} (keeps : A → Bool) (xs : List A) → AllByRecursion (λ x. keeps x ≡ false) xs → filter keeps xs ≡ []
none_stays keeps [] all = refl
none_stays keeps (x ∷ xs) all = rw all.0 (none_stays keeps xs all.1)

-- homes that are made of two lists
pub zip_both : {A : Type 0} (xs ys : List A) (fs : List ℕ) → zip (xs ++ ys) fs ≡ zip xs (take (length xs) fs) ++ zip ys (drop (length xs) fs)
zip_both [] ys fs = refl
zip_both (x ∷ xs) [] [] = refl
zip_both (x ∷ xs) (y ∷ ys) [] = refl
zip_both {A = A} (x ∷ xs) ys (f ∷ fs) = ap (λ (ps : List (A × ℕ)). (x, f) ∷ ps) (zip_both xs ys fs)

pages_zipped : (write : Bool) (page n : ℕ) (fs : List ℕ) → zip (map DataOf (range_with_len page n)) (take n fs) ≡ map page_home (pages_placed write page (take n fs))
pages_zipped write page zero fs = refl
pages_zipped write page (suc n) [] = refl
pages_zipped write page (suc n) (f ∷ fs) = ap (λ (ps : List (Tenant × ℕ)). (DataOf page, f) ∷ ps) (pages_zipped write (page + 1) n fs)

pub nodes_zipped : (of : MissingNode → Tenant) → ((m : MissingNode) → of m ≡ NodeOf m.generation m.level m.prefix) → (ms : List MissingNode) (fs : List ℕ) → zip (map of ms) fs ≡ map node_home (nodes_placed ms fs)
nodes_zipped of is [] fs = refl
nodes_zipped of is (m ∷ ms) [] = refl
nodes_zipped of is (m ∷ ms) (f ∷ fs) = ap (λ (t : Tenant). (t, f) ∷ zip (map of ms) fs) (is m) ∙ ap (λ (ps : List (Tenant × ℕ)). (NodeOf m.generation m.level m.prefix, f) ∷ ps) (nodes_zipped of is ms fs)

-- a node that is there is there still where more pages have their places
tree_any : (p : ℕ × ℕ → Bool) (places : List ℕ) → list_any p (tree_nodes places) ≡ (p (2, 0) || list_any (λ x. p (1, x / 512) || list_any (λ q. (q / 512 == x / 512) && p (0, q)) places) places)
tree_any p places =
    ap (λ (b : Bool). p (2, 0) || b)
    (any_flat p (nodes_below places) (places_with [] places)
    ∙ any_same (λ u. list_any p (nodes_below places u)) (λ u. p (1, u) || list_any (λ q. (q / 512 == u) && p (0, q)) places) (λ u. ap (λ (b : Bool). p (1, u) || b) (any_map p (λ (place : ℕ). (0, place)) (filter (λ place. place / 512 == u) places) ∙ any_filter (λ q. p (0, q)) (λ q. q / 512 == u) places)) (places_with [] places)
    ∙ any_places (λ u. p (1, u) || list_any (λ q. (q / 512 == u) && p (0, q)) places) [] places)

or_more : (a b c : Bool) → (b ≡ true → c ≡ true) → (a || b) ≡ true → (a || c) ≡ true
or_more true b c more e = refl
or_more false b c more e = more e

or_first : (a b : Bool) → a ≡ true → (a || b) ≡ true
or_first true b e = refl
or_first false b e = absurd cc

tree_more : (p : ℕ × ℕ → Bool) (places pages : List ℕ) → list_any p (tree_nodes places) ≡ true → list_any p (tree_nodes (places_with places pages)) ≡ true
tree_more p places pages e =
    tree_any p all ∙ or_more (p (2, 0)) (list_any (below places) places) (list_any (below all) all) wider (sym (tree_any p places) ∙ e)
  where
    all : List ℕ
    all = places_with places pages

    below : List ℕ → ℕ → Bool
    below ps x = p (1, x / 512) || list_any (λ q. (q / 512 == x / 512) && p (0, q)) ps

    wide : (c : ℕ → Bool) → list_any c places ≡ true → list_any c all ≡ true
    wide c h = any_places c places pages ∙ or_first (list_any c places) (list_any (λ n. c (n / 512)) pages) h

    wider : list_any (below places) places ≡ true → list_any (below all) all ≡ true
    wider h = wide (below all) (any_more (below places) (below all) (λ x t. or_more (p (1, x / 512)) (list_any (λ q. (q / 512 == x / 512) && p (0, q)) places) (list_any (λ q. (q / 512 == x / 512) && p (0, q)) all) (wide (λ q. (q / 512 == x / 512) && p (0, q))) t) places h)

module _ (words : WordsValue) (r : Records) (homes : Homes) (s : FlatState) (mapping : Mapping) (st : StandsFor words r homes s) (tidy : IsTidy s) (up : IsRising (map generation_number r.views.views)) (absent : AllByRecursion (λ page. data_in s.pages page ≡ None) (numbers_of mapping)) where
  abbrev first : ℕ
  first = page_of mapping.va

  abbrev pages : List ℕ
  pages = numbers_of mapping

  abbrev after : FlatState
  after = mapped_by s mapping

  abbrev fresh : Tenant → Bool
  fresh = is_new words r homes s st tidy pages

  -- all that is there has a home
  all_old : AllByRecursion (λ t. fresh t ≡ false) (tenants_of s)
  all_old =
      all_more (λ t. has_tenant s t ≡ true) (λ t. fresh t ≡ false) (λ t e. (let y : is_some (home_frame homes t) ≡ true = st.housed.each t ∙ e in rw y refl)) (tenants_of s)
      (recursion_from_All (λ t. has_tenant s t ≡ true) (tenants_of s) (All-is_member same_tenant_laws (tenants_of s)))

  abbrev texts : List Tenant
  texts = flat_map text_tenants s.gens

  front_old : AllByRecursion (λ t. fresh t ≡ false) (texts ++ data_tenants s.pages)
  front_old = all_front (λ t. fresh t ≡ false) (texts ++ data_tenants s.pages) (flat_map node_tenants s.gens) all_old

  -- pages that are mapped have none
  all_fresh : (ns : List ℕ) → AllByRecursion (λ page. data_in s.pages page ≡ None) ns → AllByRecursion (λ t. fresh t ≡ true) (map DataOf ns)
  all_fresh [] all = tt
  all_fresh (n ∷ ns) all = (ap not (st.housed.each (DataOf n) ∙ data_tenant s n ∙ ap is_some all.0), all_fresh ns all.1)

  same_texts : (gens : List GenState) → flat_map text_tenants (map (reaching pages) gens) ≡ flat_map text_tenants gens
  same_texts [] = refl
  same_texts (gen ∷ gens) = ap (λ (ts : List Tenant). text_tenants gen ++ ts) (same_texts gens)

  -- the newcomers are the pages and the nodes that are missing
  abbrev missing : List Tenant
  missing = map (tenant_of words r homes s st tidy pages) (missing_for r mapping)

  pub newcomers_are : newcomers homes after ≡ map DataOf pages ++ missing
  newcomers_are =
      let middle : List Tenant = data_tenants after.pages in
      let last : List Tenant = flat_map node_tenants after.gens in
      let a : filter fresh (flat_map text_tenants after.gens) ≡ [] = ap (filter fresh) (same_texts s.gens) ∙ none_stays fresh texts (all_front (λ t. fresh t ≡ false) texts (data_tenants s.pages) front_old) in
      let b : filter fresh middle ≡ map DataOf pages =
      new_data fresh mapping.write first s.births mapping.pages s.pages (none_stays fresh (data_tenants s.pages) (all_back (λ t. fresh t ≡ false) texts (data_tenants s.pages) front_old)) (all_stay fresh (map DataOf pages) (all_fresh pages absent)) in
      let c : filter fresh last ≡ missing = nodes_new words r homes s st tidy pages up in
      filter_both fresh (flat_map text_tenants after.gens ++ middle) last
      ∙ ap (λ (ts : List Tenant). ts ++ filter fresh last) (filter_both fresh (flat_map text_tenants after.gens) middle ∙ ap (λ (ts : List Tenant). ts ++ filter fresh middle) a ∙ b)
      ∙ ap (λ (ts : List Tenant). map DataOf pages ++ ts) c

  -- and whatever was there is there still
  nodes_more : (t : Tenant) → (gen : GenState) → list_any (same_tenant t) (node_tenants gen) ≡ true → list_any (same_tenant t) (node_tenants (reaching pages gen)) ≡ true
  nodes_more t gen e = by_live gen.live refl
    where
      by_live : (b : Bool) → gen.live ≡ b → list_any (same_tenant t) (node_tenants (reaching pages gen)) ≡ true
      by_live true l =
          let was : list_any (same_tenant t) (map (λ (n : ℕ × ℕ). NodeOf gen.number n.0 n.1) (tree_nodes gen.reach)) ≡ true = rw l at e in
          ap (λ (ts : List Tenant). list_any (same_tenant t) ts) (live_tenants words r homes s st tidy pages gen l)
          ∙ (any_map (same_tenant t) (λ (n : ℕ × ℕ). NodeOf gen.number n.0 n.1) (tree_nodes (places_with gen.reach pages))
          ∙ tree_more (λ n. same_tenant t (NodeOf gen.number n.0 n.1)) gen.reach pages (sym (any_map (same_tenant t) (λ (n : ℕ × ℕ). NodeOf gen.number n.0 n.1) (tree_nodes gen.reach)) ∙ was))
      by_live false l = absurd (let k : false ≡ true = rw l at e in cc)

  gens_more : (t : Tenant) (gens : List GenState) → list_any (λ gen. list_any (same_tenant t) (node_tenants gen)) gens ≡ true → list_any (λ gen. list_any (same_tenant t) (node_tenants gen)) (map (reaching pages) gens) ≡ true
  gens_more t gens e =
      any_map (λ gen. list_any (same_tenant t) (node_tenants gen)) (reaching pages) gens
      ∙ any_more (λ gen. list_any (same_tenant t) (node_tenants gen)) (λ gen. list_any (same_tenant t) (node_tenants (reaching pages gen))) (λ gen h. nodes_more t gen h) gens e

  all_more_or : (a b c d f : Bool) → (b ≡ true → d ≡ true) → (c ≡ true → f ≡ true) → ((a || b) || c) ≡ true → ((a || d) || f) ≡ true
  all_more_or true b c d f m n e = refl
  all_more_or false true c d f m n e = rw (m refl) refl
  all_more_or false false c d f m n e = or_yes d f (n e)

  pub there_still : (t : Tenant) → has_tenant s t ≡ true → has_tenant after t ≡ true
  there_still t e =
      parts after t
      ∙ ap (λ (ts : List Tenant). (is_member same_tenant ts t || is_member same_tenant (data_tenants after.pages) t) || is_member same_tenant (flat_map node_tenants after.gens) t) (same_texts s.gens)
      ∙ all_more_or (is_member same_tenant texts t) (is_member same_tenant (data_tenants s.pages) t) (is_member same_tenant (flat_map node_tenants s.gens) t) (is_member same_tenant (data_tenants after.pages) t) (is_member same_tenant (flat_map node_tenants after.gens) t)
      data_still nodes_still (sym (parts s t) ∙ e)
    where
      is_it : PageState → Bool
      is_it p = same_tenant t (DataOf p.number)

      data_still : is_member same_tenant (data_tenants s.pages) t ≡ true → is_member same_tenant (data_tenants after.pages) t ≡ true
      data_still h =
          any_map (same_tenant t) (λ (p : PageState). DataOf p.number) after.pages
          ∙ any_sorted number (λ (p : PageState). same_tenant t (DataOf p.number)) (s.pages ++ mapped_pages None mapping.write first s.births mapping.pages)
          ∙ any_both (λ (p : PageState). same_tenant t (DataOf p.number)) s.pages (mapped_pages None mapping.write first s.births mapping.pages)
          ∙ or_first (list_any (λ (p : PageState). same_tenant t (DataOf p.number)) s.pages) (list_any (λ (p : PageState). same_tenant t (DataOf p.number)) (mapped_pages None mapping.write first s.births mapping.pages))
          (sym (any_map (same_tenant t) (λ (p : PageState). DataOf p.number) s.pages) ∙ h)

      nodes_still : is_member same_tenant (flat_map node_tenants s.gens) t ≡ true → is_member same_tenant (flat_map node_tenants after.gens) t ≡ true
      nodes_still h = any_flat (same_tenant t) node_tenants after.gens ∙ gens_more t s.gens (sym (any_flat (same_tenant t) node_tenants s.gens) ∙ h)

  keys_there : AllByRecursion (λ t. has_tenant after t ≡ true) (keys_of homes.homes)
  keys_there =
      all_more (λ t. is_member same_tenant (keys_of homes.homes) t ≡ true) (λ t. has_tenant after t ≡ true) (λ t e. there_still t (sym (st.housed.each t) ∙ is_some-lookup (same_tenant t) homes.homes ∙ e)) (keys_of homes.homes)
      (recursion_from_All (λ t. is_member same_tenant (keys_of homes.homes) t ≡ true) (keys_of homes.homes) (All-is_member same_tenant_laws (keys_of homes.homes)))

  none_left : without_left homes after ≡ homes
  none_left =
      ap (λ (hs : List (Tenant × ℕ)). let some : Homes = record homes { homes = hs } in some)
      (all_stay (λ (home : Tenant × ℕ). has_tenant after home.0) homes.homes (map_all (λ (home : Tenant × ℕ). has_tenant after home.0 ≡ true) (λ t. has_tenant after t ≡ true) (λ (home : Tenant × ℕ). home.0) (λ home e. e) homes.homes keys_there))

  zipped : zip (map DataOf pages ++ missing) (free_in r) ≡ map page_home (new_pages r mapping) ++ map node_home (new_nodes r mapping)
  zipped =
      let n : length (map DataOf pages) ≡ mapping.pages = length-map pages DataOf ∙ length-range_with_len first mapping.pages in
      zip_both (map DataOf pages) missing (free_in r)
      ∙ ap (λ (k : ℕ). zip (map DataOf pages) (take k (free_in r)) ++ zip missing (drop k (free_in r))) n
      ∙ ap (λ (ps : List (Tenant × ℕ)). ps ++ zip missing (drop mapping.pages (free_in r))) (pages_zipped mapping.write first mapping.pages (free_in r))
      ∙ ap (λ (ps : List (Tenant × ℕ)). map page_home (new_pages r mapping) ++ ps) (nodes_zipped (tenant_of words r homes s st tidy pages) (λ m. refl) (missing_for r mapping) (drop mapping.pages (free_in r)))

  pub laid : homes_in homes after ≡ homes_with homes (new_pages r mapping) (new_nodes r mapping)
  laid =
      let free : free_frames s.limits.frames homes ≡ free_in r = sym (free_agree words r homes s st) in
      ap (λ (h : Homes). with_new h after) none_left
      ∙ ap (λ (ts : List Tenant). let some : Homes = record homes { homes = homes.homes ++ zip ts (free_frames s.limits.frames homes) } in some) newcomers_are
      ∙ ap (λ (fs : List ℕ). let some : Homes = record homes { homes = homes.homes ++ zip (map DataOf pages ++ missing) fs } in some) free
      ∙ ap (λ (hs : List (Tenant × ℕ)). let some : Homes = record homes { homes = homes.homes ++ hs } in some) zipped
      ∙ ap (λ (hs : List (Tenant × ℕ)). let some : Homes = record homes { homes = hs } in some) (sym (append_assoc homes.homes (map page_home (new_pages r mapping)) (map node_home (new_nodes r mapping))))

pub laid_out : HomesAreLaidOut
laid_out words r homes s mapping st tidy up absent = laid words r homes s mapping st tidy up absent
