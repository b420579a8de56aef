-- The homes of a generation that is born are those of its layout.
use Rattle.std.proofs.Common.{◌≡◌, ◌<◌, ◌+◌, ◌||◌, ◌++◌, ℕ, List, [], ◌∷◌, Bool, true, false, not, Option, Some, None, drop, length, map, take, refl, sym, ap, ◌∙◌, arith, is_some, append_assoc}
use Rattle.std.specs.Prelude.{IsSome, option_and_then}
use Rattle.std.specs.List.{AllByRecursion, filter, flat_map, zip}
use Rattle.std.specs.Map.{keys_of}
use Rattle.std.specs.Set.{is_member}
use Rattle.std.proofs.lemmas.Grind.{flat_map-append}
use Rattle.std.proofs.lemmas.List.{append-nil, length-map}
use Rattle.std.proofs.lemmas.List.Elements.{recursion_from_All}
use Rattle.std.proofs.lemmas.Map.Made.{All-is_member, is_some-lookup}
use Rattle.wf_outside.specs.Images.{text_numbers}
use Rattle.wf_frames.specs.Layout.{WordsValue}
use Rattle.wf_views.specs.declared.records.Records.{Records}
use Rattle.wf_views.specs.Views.{ViewValue, view_of}
use Rattle.wf_flat.specs.Counts.{frames_of, nodes_of, used_of}
use Rattle.wf_flat.specs.State.{FlatState, GenState}
use Rattle.wf_effects.specs.Effects.{newborn}
use Rattle.wf_effects.specs.Generations.{is_live}
use Rattle.wf_homes.specs.Homes.{Homes, NodeOf, Tenant, TextOf, free_frames, has_tenant, home_frame, homes_in, newcomers, node_tenants, same_tenant, tenants_of, text_tenants, tree_nodes, with_new, without_left}
use Rattle.wf_homes.specs.Kept.{node_frame, text_frame, text_page}
use Rattle.wf_homes.specs.Stands.{StandsFor}
use Rattle.wf_homes.proofs.CountLemmas.{tree_length}
use Rattle.wf_homes.proofs.ListLemmas.{all_any, all_back, all_front, all_map, all_more, any_both, map_all}
use Rattle.wf_homes.proofs.TenantLemmas.{same_tenant_laws}
use Rattle.wf_space.proofs.LeftLemmas.{data_tenants, parts}
use Rattle.wf_verdict.proofs.FrameLemmas.{used_born}
use Rattle.wf_mapping.specs.declared.nodes.MissingNode.{MissingNode}
use Rattle.wf_mapping.specs.Laws.{node_home}
use Rattle.wf_mapping.specs.Layout.{free_in}
use Rattle.wf_mapping.specs.Nodes.{missing_node}
use Rattle.wf_mapping.proofs.FreeLemmas.{free_agree}
use Rattle.wf_mapping.proofs.LaidLemmas.{all_stay, nodes_zipped, none_stays, zip_both}
use Rattle.wf_mapping.proofs.NodeLemmas.{view_low}
use Rattle.wf_mapping.proofs.TreeLemmas.{filter_both}
use Rattle.wf_creating.specs.Laws.{BirthNeedIsCounted, StandsInOrder, ViewIsLaidOut, born_of_parent, homes_with_birth, text_home}
use Rattle.wf_creating.specs.Layout.{need_at_birth, nodes_at_birth, nodes_needed, number_at_birth, text_at_birth, texts_placed}
use Rattle.wf_creating.specs.Parents.{parent_text, reach_at_birth, text_numbers_of}
use Rattle.wf_creating.proofs.ParentLemmas.{as_many_born, numbers_same, reach_same}

map_two : {A B C : Type 0} (f : A → B) (g : B → C) (xs : List A) → map g (map f xs) ≡ map (λ x. g (f x)) xs
map_two f g [] = refl
map_two {C = C} f g (x ∷ xs) = ap (λ (ys : List C). g (f x) ∷ ys) (map_two f g xs)

texts_zipped : (g : ℕ) (ns fs : List ℕ) → zip (map (TextOf g) ns) (take (length ns) fs) ≡ map (text_home g) (texts_placed ns fs)
texts_zipped g [] fs = refl
texts_zipped g (n ∷ ns) [] = refl
texts_zipped g (n ∷ ns) (f ∷ fs) = ap (λ (hs : List (Tenant × ℕ)). (TextOf g n, f) ∷ hs) (texts_zipped g ns fs)

or_more : (a b c d e f : Bool) → (a ≡ true → d ≡ true) → (b ≡ true → e ≡ true) → (c ≡ true → f ≡ true) → ((a || b) || c) ≡ true → ((d || e) || f) ≡ true
or_more true b c d e f l m n h = rw (l refl) refl
or_more false true c d e f l m n h = rw (m refl) (or_left d)
  where
    or_left : (x : Bool) → ((x || true) || f) ≡ true
    or_left true = refl
    or_left false = refl
or_more false false c d e f l m n h = rw (n h) (or_right (d || e))
  where
    or_right : (x : Bool) → (x || true) ≡ true
    or_right true = refl
    or_right false = refl

module _ (words : WordsValue) (r : Records) (homes : Homes) (s : FlatState) (parent : ℕ) (o : StandsInOrder words r homes s) (live : is_live s parent ≡ true) where
  abbrev st : StandsFor words r homes s
  st = o.stands

  abbrev after : FlatState
  after = born_of_parent s parent

  abbrev gen : GenState
  gen = newborn [] s parent None

  abbrev g : ℕ
  g = length s.gens

  abbrev fresh : Tenant → Bool
  fresh t = not (is_some (home_frame homes t))

  -- what is there has a home
  all_old : AllByRecursion (λ t. fresh t ≡ false) (tenants_of s)
  all_old =
      all_more (λ t. has_tenant s t ≡ true) (λ t. fresh t ≡ false) (λ t e. ap not (st.housed.each t ∙ e)) (tenants_of s)
      (recursion_from_All (λ t. has_tenant s t ≡ true) (tenants_of s) (All-is_member same_tenant_laws (tenants_of s)))

  abbrev texts : List Tenant
  texts = flat_map text_tenants s.gens

  abbrev nodes : List Tenant
  nodes = flat_map node_tenants s.gens

  -- the generation that is born has no view, and nothing of it has a home
  no_view : view_of r.views g ≡ None
  no_view = by_view (view_of r.views g) refl
    where
      by_view : (v : Option ViewValue) → view_of r.views g ≡ v → v ≡ None
      by_view None e = refl
      by_view (Some v) e =
          let there : IsSome (view_of r.views g) = rw e refl in
          let lt : length s.gens < length s.gens = view_low words r homes s st o.tidy [] g there in
          absurd (omega arith)

  pub no_text : (page : ℕ) → home_frame homes (TextOf g page) ≡ None
  no_text page = sym (st.at_home (TextOf g page)) ∙ ap (λ (o : Option ViewValue). option_and_then (λ (v : ViewValue). text_frame v page) o) no_view

  pub no_node : (level prefix : ℕ) → home_frame homes (NodeOf g level prefix) ≡ None
  no_node level prefix = sym (st.at_home (NodeOf g level prefix)) ∙ ap (λ (o : Option ViewValue). option_and_then (λ (v : ViewValue). node_frame v level prefix) o) no_view

  abbrev new_texts : List Tenant
  new_texts = map (TextOf g) (text_numbers gen.text)

  abbrev node_of : ℕ × ℕ → Tenant
  node_of node = NodeOf g node.0 node.1

  abbrev new_nodes : List Tenant
  new_nodes = map node_of (tree_nodes gen.reach)

  texts_fresh : AllByRecursion (λ t. fresh t ≡ true) new_texts
  texts_fresh = all_map (λ (n : ℕ). Unit {0}) (λ t. fresh t ≡ true) (TextOf g) (λ n u. ap (λ (o : Option ℕ). not (is_some o)) (no_text n)) (text_numbers gen.text) (all_any (λ (n : ℕ). Unit {0}) (λ n. tt) (text_numbers gen.text))

  nodes_fresh : AllByRecursion (λ t. fresh t ≡ true) new_nodes
  nodes_fresh = all_map (λ (n : ℕ × ℕ). Unit {0}) (λ t. fresh t ≡ true) node_of (λ n u. ap (λ (o : Option ℕ). not (is_some o)) (no_node n.0 n.1)) (tree_nodes gen.reach) (all_any (λ (n : ℕ × ℕ). Unit {0}) (λ n. tt) (tree_nodes gen.reach))

  -- text and nodes in the state after
  texts_after : flat_map text_tenants after.gens ≡ texts ++ new_texts
  texts_after = flat_map-append text_tenants s.gens (gen ∷ []) ∙ ap (λ (ts : List Tenant). texts ++ ts) (append-nil new_texts)

  nodes_after : flat_map node_tenants after.gens ≡ nodes ++ new_nodes
  nodes_after = flat_map-append node_tenants s.gens (gen ∷ []) ∙ ap (λ (ts : List Tenant). nodes ++ ts) (append-nil new_nodes)

  abbrev datas : List Tenant
  datas = data_tenants s.pages

  front_old : AllByRecursion (λ t. fresh t ≡ false) (texts ++ datas)
  front_old = all_front (λ t. fresh t ≡ false) (texts ++ datas) nodes all_old

  kept_behind : (olds news : List Tenant) → AllByRecursion (λ t. fresh t ≡ false) olds → AllByRecursion (λ t. fresh t ≡ true) news → filter fresh (olds ++ news) ≡ news
  kept_behind olds news old new = filter_both fresh olds news ∙ ap (λ (ts : List Tenant). ts ++ filter fresh news) (none_stays fresh olds old) ∙ all_stay fresh news new

  -- those that have no home are its text and its nodes
  pub newcomers_born : newcomers homes after ≡ new_texts ++ new_nodes
  newcomers_born =
      let a : filter fresh (flat_map text_tenants after.gens) ≡ new_texts = ap (filter fresh) texts_after ∙ kept_behind texts new_texts (all_front (λ t. fresh t ≡ false) texts datas front_old) texts_fresh in
      let b : filter fresh datas ≡ [] = none_stays fresh datas (all_back (λ t. fresh t ≡ false) texts datas front_old) in
      let c : filter fresh (flat_map node_tenants after.gens) ≡ new_nodes = ap (filter fresh) nodes_after ∙ kept_behind nodes new_nodes (all_back (λ t. fresh t ≡ false) (texts ++ datas) nodes all_old) nodes_fresh in
      filter_both fresh (flat_map text_tenants after.gens ++ datas) (flat_map node_tenants after.gens)
      ∙ ap (λ (ts : List Tenant). ts ++ filter fresh (flat_map node_tenants after.gens))
      (filter_both fresh (flat_map text_tenants after.gens) datas ∙ ap (λ (ts : List Tenant). ts ++ filter fresh datas) a ∙ ap (λ (ts : List Tenant). new_texts ++ ts) b ∙ append-nil new_texts)
      ∙ ap (λ (ts : List Tenant). new_texts ++ ts) c

  -- whatever was there is there still
  pub there_still : (t : Tenant) → has_tenant s t ≡ true → has_tenant after t ≡ true
  there_still t e =
      parts after t
      ∙ or_more (is_member same_tenant texts t) (is_member same_tenant datas t) (is_member same_tenant nodes t) (is_member same_tenant (flat_map text_tenants after.gens) t) (is_member same_tenant datas t) (is_member same_tenant (flat_map node_tenants after.gens) t)
      (λ h. (ap (λ (ts : List Tenant). is_member same_tenant ts t) texts_after ∙ any_both (same_tenant t) texts new_texts ∙ rw h refl))
      (λ h. h)
      (λ h. (ap (λ (ts : List Tenant). is_member same_tenant ts t) nodes_after ∙ any_both (same_tenant t) nodes new_nodes ∙ rw h refl))
      (sym (parts s t) ∙ e)

  keys_there : AllByRecursion (λ t. has_tenant after t ≡ true) (keys_of homes.homes)
  keys_there =
      all_more (λ t. is_member same_tenant (keys_of homes.homes) t ≡ true) (λ t. has_tenant after t ≡ true) (λ t e. there_still t (sym (st.housed.each t) ∙ is_some-lookup (same_tenant t) homes.homes ∙ e)) (keys_of homes.homes)
      (recursion_from_All (λ t. is_member same_tenant (keys_of homes.homes) t ≡ true) (keys_of homes.homes) (All-is_member same_tenant_laws (keys_of homes.homes)))

  none_left : without_left homes after ≡ homes
  none_left =
      ap (λ (hs : List (Tenant × ℕ)). let some : Homes = record homes { homes = hs } in some)
      (all_stay (λ (home : Tenant × ℕ). has_tenant after home.0) homes.homes (map_all (λ (home : Tenant × ℕ). has_tenant after home.0 ≡ true) (λ t. has_tenant after t ≡ true) (λ (home : Tenant × ℕ). home.0) (λ home e. e) homes.homes keys_there))

  -- by the records
  number_is : number_at_birth r ≡ g
  number_is = as_many_born words r homes s o

  texts_are : new_texts ≡ map (TextOf g) (text_numbers_of r parent)
  texts_are = ap (map (TextOf g)) (sym (numbers_same words r homes s o parent live))

  abbrev missing_tenant : MissingNode → Tenant
  missing_tenant m = NodeOf m.generation m.level m.prefix

  nodes_are : new_nodes ≡ map missing_tenant (nodes_needed r parent)
  nodes_are =
      ap (λ (places : List ℕ). map node_of (tree_nodes places)) (sym (reach_same words r homes s o parent live))
      ∙ sym (map_two (missing_node g) missing_tenant (tree_nodes (reach_at_birth r parent)))
      ∙ ap (λ (k : ℕ). map missing_tenant (map (missing_node k) (tree_nodes (reach_at_birth r parent)))) (sym number_is)

  zipped : zip (new_texts ++ new_nodes) (free_in r) ≡ map (text_home (number_at_birth r)) (text_at_birth r parent) ++ map node_home (nodes_at_birth r parent)
  zipped =
      let numbers : List ℕ = text_numbers_of r parent in
      let n : length numbers ≡ length (parent_text r parent) = length-map (parent_text r parent) text_page in
      let m : length (map (TextOf g) numbers) ≡ length numbers = length-map numbers (TextOf g) in
      let news : List Tenant = map missing_tenant (nodes_needed r parent) in
      ap (λ (ts : List Tenant). zip (ts ++ new_nodes) (free_in r)) texts_are
      ∙ ap (λ (ts : List Tenant). zip (map (TextOf g) numbers ++ ts) (free_in r)) nodes_are
      ∙ zip_both (map (TextOf g) numbers) news (free_in r)
      ∙ ap (λ (k : ℕ). zip (map (TextOf g) numbers) (take k (free_in r)) ++ zip news (drop k (free_in r))) m
      ∙ ap (λ (hs : List (Tenant × ℕ)). hs ++ zip news (drop (length numbers) (free_in r))) (texts_zipped g numbers (free_in r))
      ∙ ap (λ (k : ℕ). map (text_home g) (text_at_birth r parent) ++ zip news (drop k (free_in r))) n
      ∙ ap (λ (hs : List (Tenant × ℕ)). map (text_home g) (text_at_birth r parent) ++ hs) (nodes_zipped missing_tenant (λ m. refl) (nodes_needed r parent) (drop (length (parent_text r parent)) (free_in r)))
      ∙ ap (λ (k : ℕ). map (text_home k) (text_at_birth r parent) ++ map node_home (nodes_at_birth r parent)) (sym number_is)

  pub view_laid : homes_in homes after ≡ homes_with_birth homes (number_at_birth r) (text_at_birth r parent) (nodes_at_birth r parent)
  view_laid =
      let free : free_frames s.limits.frames homes ≡ free_in r = sym (free_agree words r homes s st) in
      ap (λ (h : Homes). with_new h after) none_left
      ∙ ap (λ (ts : List Tenant). let some : Homes = record homes { homes = homes.homes ++ zip ts (free_frames s.limits.frames homes) } in some) newcomers_born
      ∙ ap (λ (fs : List ℕ). let some : Homes = record homes { homes = homes.homes ++ zip (new_texts ++ new_nodes) fs } in some) free
      ∙ ap (λ (hs : List (Tenant × ℕ)). let some : Homes = record homes { homes = homes.homes ++ hs } in some) zipped
      ∙ ap (λ (hs : List (Tenant × ℕ)). let some : Homes = record homes { homes = hs } in some) (sym (append_assoc homes.homes (map (text_home (number_at_birth r)) (text_at_birth r parent)) (map node_home (nodes_at_birth r parent))))

  -- and so many frames are needed
  pub need_born : used_of s + need_at_birth r parent ≡ used_of after
  need_born =
      let numbers : List ℕ = text_numbers_of r parent in
      let a : used_of after ≡ used_of s + frames_of gen = used_born [] s parent None in
      let b : length numbers ≡ length (parent_text r parent) = length-map (parent_text r parent) text_page in
      let c : length numbers ≡ length (text_numbers gen.text) = ap length (numbers_same words r homes s o parent live) in
      let d : length (text_numbers gen.text) ≡ length gen.text = length-map gen.text (λ page. page.number) in
      let e : length (nodes_needed r parent) ≡ length (tree_nodes (reach_at_birth r parent)) = length-map (tree_nodes (reach_at_birth r parent)) (missing_node (number_at_birth r)) in
      let f : length (tree_nodes (reach_at_birth r parent)) ≡ nodes_of gen.reach = ap (λ (places : List ℕ). length (tree_nodes places)) (reach_same words r homes s o parent live) ∙ tree_length gen.reach in
      let h : frames_of gen ≡ length gen.text + nodes_of gen.reach = refl in
      omega arith

pub birth_laid : ViewIsLaidOut
birth_laid words r homes s parent o live = view_laid words r homes s parent o live

pub birth_counted : BirthNeedIsCounted
birth_counted words r homes s parent o live = need_born words r homes s parent o live
