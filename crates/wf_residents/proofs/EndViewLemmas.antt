-- The view of a generation that ends: its pages of text and nodes, their homes, and that its frames are its own.
use Rattle.std.proofs.Common.{◌≡◌, ◌<◌, ◌==◌, ◌&&◌, ◌||◌, ◌++◌, ℕ, zero, suc, List, [], ◌∷◌, Bool, true, false, Some, map, refl, sym, ap, subst, ◌∙◌, arith, nat_eq}
use Rattle.std.specs.Prelude.{option_and_then, slice_get}
use Rattle.std.specs.List.{AllByRecursion, IsDistinct}
use Rattle.std.specs.Map.{keys_of, lookup, values_of}
use Rattle.std.specs.Set.{is_member}
use Rattle.std.proofs.lemmas.Bool.Decides.{nat_tests}
use Rattle.std.proofs.lemmas.List.{map-append}
use Rattle.wf_outside.specs.Lists.{IsRising}
use Rattle.wf_frames.specs.declared.state.FrameState.TheVariants.{InUse}
use Rattle.wf_frames.specs.Frames.{HasState}
use Rattle.wf_frames.specs.Layout.{WordsValue}
use Rattle.wf_views.specs.declared.plan.Change.TheVariants.{Dead}
use Rattle.wf_views.specs.declared.records.Records.{Records}
use Rattle.wf_views.specs.declared.view.NodeAt.{NodeAt}
use Rattle.wf_views.specs.declared.view.TextAt.{TextAt}
use Rattle.wf_views.specs.Views.{ViewValue, generation_number, view_of}
use Rattle.wf_flat.specs.Ordered.{IsGen}
use Rattle.wf_flat.specs.State.{FlatState, GenState}
use Rattle.wf_homes.specs.Homes.{DataOf, Homes, NodeOf, Tenant, TextOf, home_frame, is_home, same_tenant}
use Rattle.wf_homes.specs.Kept.{IsKeptFrame, IsKeptView, node_frame, state_of, text_frame, text_page}
use Rattle.wf_homes.specs.Stands.{StandsFor}
use Rattle.wf_homes.proofs.FoundLemmas.{found_number, some_at}
use Rattle.wf_homes.proofs.ListLemmas.{all_both, all_map, all_more, any_both, distinct_two, map_all}
use Rattle.wf_homes.proofs.PlaceLemmas.{home_low}
use Rattle.wf_homes.proofs.RecordedLemmas.{node_looked, text_looked}
use Rattle.wf_space.specs.Changes.{CanBeGiven, HasOwnFrames, MayNote, node_frames, text_frames, view_frames}
use Rattle.wf_space.proofs.MeetLemmas.{some_of}
use Rattle.wf_residents.specs.Carried.{MayDelete}
use Rattle.wf_residents.specs.Laws.{DeletionsCanBeMade}
use Rattle.wf_residents.proofs.EndLemmas.{is_own}
use Rattle.wf_residents.proofs.MoveLemmas.{live_view, yes_test}
use Rattle.wf_residents.proofs.OwnLemmas.{each_found, found_member, member_pair, values_apart}

-- the homes of a view's pages of text, and of its nodes
abbrev text_pair : ℕ → TextAt → Tenant × ℕ
text_pair g t = (TextOf g t.page, t.frame)

abbrev node_pair : ℕ → NodeAt → Tenant × ℕ
node_pair g node = (NodeOf g node.level node.prefix, node.frame)

text_values : (g : ℕ) (text : List TextAt) → values_of (map (text_pair g) text) ≡ text_frames text
text_values g [] = refl
text_values g (t ∷ ts) = ap (λ (fs : List ℕ). t.frame ∷ fs) (text_values g ts)

node_values : (g : ℕ) (nodes : List NodeAt) → values_of (map (node_pair g) nodes) ≡ node_frames nodes
node_values g [] = refl
node_values g (n ∷ ns) = ap (λ (fs : List ℕ). n.frame ∷ fs) (node_values g ns)

node_keys : (g : ℕ) (nodes : List NodeAt) → keys_of (map (node_pair g) nodes) ≡ map (λ node. NodeOf g node.level node.prefix) nodes
node_keys g [] = refl
node_keys g (n ∷ ns) = ap (λ (ts : List Tenant). NodeOf g n.level n.prefix ∷ ts) (node_keys g ns)

-- pages that rise are tenants that differ
text_distinct : (g : ℕ) (text : List TextAt) → IsRising (map text_page text) → IsDistinct same_tenant (keys_of (map (text_pair g) text))
unfolding IsDistinct
text_distinct g [] up = tt
text_distinct g (t ∷ ts) up = (later ts up.0, text_distinct g ts up.1)
  where
    later : (us : List TextAt) → AllByRecursion (λ m. t.page < m) (map text_page us) → AllByRecursion (λ k. same_tenant (TextOf g t.page) k ≡ false) (keys_of (map (text_pair g) us))
    later [] above = tt
    later (u ∷ us) above = (
      (let lt : t.page < u.page = above.0 in let w : (t.page == u.page) ≡ false = grind (arith, nat_tests) in and_no (g == g) (t.page == u.page) w),
      later us above.1,
    )
      where
        and_no : (a b : Bool) → b ≡ false → (a && b) ≡ false
        and_no true b e = e
        and_no false b e = refl

-- no page of text is a node
text_no_node : (g : ℕ) (text : List TextAt) (nodes : List NodeAt) → AllByRecursion (λ k. is_member same_tenant (keys_of (map (node_pair g) nodes)) k ≡ false) (keys_of (map (text_pair g) text))
text_no_node g [] nodes = tt
text_no_node g (t ∷ ts) nodes = (none nodes, text_no_node g ts nodes)
  where
    none : (ns : List NodeAt) → is_member same_tenant (keys_of (map (node_pair g) ns)) (TextOf g t.page) ≡ false
    none [] = refl
    none (n ∷ ns) = none ns

used_state : (homes : Homes) (f : ℕ) → is_home homes f ≡ true → state_of homes f ≡ InUse
used_state homes f e = rw e refl

module _ (words : WordsValue) (r : Records) (homes : Homes) (s : FlatState) (g : ℕ) (st : StandsFor words r homes s) (may : MayDelete s g) where
  -- the view that ends
  pub ending_view : (gen : GenState) × (slice_get s.gens g ≡ Some gen) × (view : ViewValue) × (view_of r.views g ≡ Some view) × IsKeptView words homes s gen view
  ending_view =
      let live = live_view words r homes s st g may.live in
      let v = some_of (view_of r.views g) (IsKeptView words homes s live.0) live.3 in
      (live.0, live.1, v.0, v.1, v.2)

  abbrev pub view : ViewValue
  view = ending_view.2

  pub view_at : view_of r.views g ≡ Some view
  view_at = ending_view.3

  generation : view.generation ≡ g
  generation = found_number generation_number r.views.views g view view_at

  abbrev texts : List (Tenant × ℕ)
  texts = map (text_pair g) view.text

  abbrev nodes : List (Tenant × ℕ)
  nodes = map (node_pair g) view.nodes.items

  abbrev own : List (Tenant × ℕ)
  own = texts ++ nodes

  abbrev pub frames : List ℕ
  frames = view_frames view

  frames_are : values_of own ≡ frames
  frames_are = map-append (λ (home : Tenant × ℕ). home.1) texts nodes ∙ ap (λ (fs : List ℕ). fs ++ values_of nodes) (text_values g view.text) ∙ ap (λ (fs : List ℕ). text_frames view.text ++ fs) (node_values g view.nodes.items)

  pub itself_test : (g == g) ≡ true
  itself_test = yes_test g g refl

  text_once : IsDistinct same_tenant (keys_of texts)
  text_once = text_distinct g view.text (subst IsRising (sym ending_view.4.pages) (found_gen s.gens g ending_view.0 may.tidy.gens ending_view.1).rising)
    where
      found_gen : (gens : List GenState) (k : ℕ) (gen : GenState) → AllByRecursion (λ gen. IsGen gen.text gen.reach) gens → slice_get gens k ≡ Some gen → IsGen gen.text gen.reach
      found_gen [] k gen all e = absurd cc
      found_gen (x ∷ xs) zero gen all e = (let same : x ≡ gen = cc in subst (λ (y : GenState). IsGen y.text y.reach) same all.0)
      found_gen (x ∷ xs) (suc k) gen all e = found_gen xs k gen all.1 e

  node_once : IsDistinct same_tenant (keys_of nodes)
  node_once = subst (IsDistinct same_tenant) (sym (node_keys g view.nodes.items)) (subst (λ (k : ℕ). IsDistinct same_tenant (map (λ node. NodeOf k node.level node.prefix) view.nodes.items)) generation ending_view.4.nodes)

  own_once : IsDistinct same_tenant (keys_of own)
  own_once = subst (IsDistinct same_tenant) (sym (map-append (λ (home : Tenant × ℕ). home.0) texts nodes)) (distinct_two same_tenant (keys_of texts) (keys_of nodes) text_once node_once (text_no_node g view.text view.nodes.items))

  -- the records of its tenants
  text_recorded : (n : ℕ) → home_frame homes (TextOf g n) ≡ lookup (same_tenant (TextOf g n)) texts
  text_recorded n = sym (st.at_home (TextOf g n)) ∙ ap (option_and_then (λ v. text_frame v n)) view_at ∙ text_looked g itself_test view.text n

  node_recorded : (level prefix : ℕ) → home_frame homes (NodeOf g level prefix) ≡ lookup (same_tenant (NodeOf g level prefix)) nodes
  node_recorded level prefix = sym (st.at_home (NodeOf g level prefix)) ∙ ap (option_and_then (λ v. node_frame v level prefix)) view_at ∙ node_looked g itself_test view.nodes.items level prefix

  -- each has its home, and is the generation's own
  abbrev IsOwnHome : Tenant × ℕ → Type 0
  IsOwnHome home = (home_frame homes home.0 ≡ Some home.1) × (is_own g home.0 ≡ true)

  own_homes : AllByRecursion IsOwnHome own
  own_homes = all_both IsOwnHome texts nodes
      (all_map (λ (t : TextAt). lookup (same_tenant (TextOf g t.page)) texts ≡ Some t.frame) IsOwnHome (text_pair g) (λ t e. (text_recorded t.page ∙ e, itself_test)) view.text
      (map_all (λ (t : TextAt). lookup (same_tenant (TextOf g t.page)) texts ≡ Some t.frame) (λ (home : Tenant × ℕ). lookup (same_tenant home.0) texts ≡ Some home.1) (text_pair g) (λ t e. e) view.text (each_found texts text_once)))
      (all_map (λ (n : NodeAt). lookup (same_tenant (NodeOf g n.level n.prefix)) nodes ≡ Some n.frame) IsOwnHome (node_pair g) (λ n e. (node_recorded n.level n.prefix ∙ e, itself_test)) view.nodes.items
      (map_all (λ (n : NodeAt). lookup (same_tenant (NodeOf g n.level n.prefix)) nodes ≡ Some n.frame) (λ (home : Tenant × ℕ). lookup (same_tenant home.0) nodes ≡ Some home.1) (node_pair g) (λ n e. e) view.nodes.items (each_found nodes node_once)))

  -- a frame of the view is the home of one of them
  pub own_of : (f : ℕ) → is_member nat_eq frames f ≡ true → (t : Tenant) × (home_frame homes t ≡ Some f) × (is_own g t ≡ true)
  own_of f e =
      let m : is_member nat_eq (values_of own) f ≡ true = ap (λ (fs : List ℕ). is_member nat_eq fs f) frames_are ∙ e in
      let home = member_pair IsOwnHome own f own_homes m in
      (home.0.0, home.2.0 ∙ ap Some home.1, home.2.1)

  -- and the home of each of the generation's own is among them
  or_left : (a b : Bool) → a ≡ true → (a || b) ≡ true
  or_left a b e = rw e refl

  or_second : (a b : Bool) → b ≡ true → (a || b) ≡ true
  or_second true b e = refl
  or_second false b e = e

  pub own_frame : (t : Tenant) (f : ℕ) → is_own g t ≡ true → home_frame homes t ≡ Some f → is_member nat_eq frames f ≡ true
  own_frame (DataOf n) f o e = absurd cc
  own_frame (TextOf h n) f o e =
      let same : h ≡ g = grind (arith, nat_tests) in
      let there : lookup (same_tenant (TextOf g n)) texts ≡ Some f = sym (text_recorded n) ∙ subst (λ (k : ℕ). home_frame homes (TextOf k n) ≡ Some f) same e in
      any_both (nat_eq f) (text_frames view.text) (node_frames view.nodes.items)
      ∙ or_left (is_member nat_eq (text_frames view.text) f) (is_member nat_eq (node_frames view.nodes.items) f) (sym (ap (λ (fs : List ℕ). is_member nat_eq fs f) (text_values g view.text)) ∙ found_member (TextOf g n) texts f there)
  own_frame (NodeOf h level prefix) f o e =
      let same : h ≡ g = grind (arith, nat_tests) in
      let there : lookup (same_tenant (NodeOf g level prefix)) nodes ≡ Some f = sym (node_recorded level prefix) ∙ subst (λ (k : ℕ). home_frame homes (NodeOf k level prefix) ≡ Some f) same e in
      any_both (nat_eq f) (text_frames view.text) (node_frames view.nodes.items)
      ∙ or_second (is_member nat_eq (text_frames view.text) f) (is_member nat_eq (node_frames view.nodes.items) f) (sym (ap (λ (fs : List ℕ). is_member nat_eq fs f) (node_values g view.nodes.items)) ∙ found_member (NodeOf g level prefix) nodes f there)

  -- its frames can be given back
  frame_used : (f : ℕ) (t : Tenant) → home_frame homes t ≡ Some f → HasState r.frames.frames f InUse
  frame_used f t e =
      let lt : f < s.limits.frames = home_low homes s t f st.housed.separate e in
      let kept : IsKeptFrame words r homes s.births f = st.frames f lt in
      subst (HasState r.frames.frames f) (used_state homes f (found_member t homes.homes f e)) kept.state

  all_used : (pairs : List (Tenant × ℕ)) → AllByRecursion IsOwnHome pairs → AllByRecursion (λ f. HasState r.frames.frames f InUse) (values_of pairs)
  all_used [] all = tt
  all_used (home ∷ pairs) all = (frame_used home.1 home.0 all.0.0, all_used pairs all.1)

  can_give : HasOwnFrames r.frames view
  can_give = subst (CanBeGiven r.frames) frames_are (record {
    used = all_used own own_homes;
    apart = values_apart homes s st.housed.separate own own_once (all_more IsOwnHome (λ home. home_frame homes home.0 ≡ Some home.1) (λ home h. h.0) own own_homes);
  })

  pub may_note : MayNote r (Dead g ∷ [])
  may_note = (some_at (view_of r.views g) (HasOwnFrames r.frames) view view_at can_give, tt)

pub dead_may : DeletionsCanBeMade
dead_may words r homes s g st may = may_note words r homes s g st may
