-- Views after a mapping.
use Rattle.std.proofs.Common.{◌≡◌, ◌+◌, ◌/◌, ◌==◌, ◌||◌, ◌++◌, ℕ, zero, suc, List, [], ◌∷◌, Bool, true, false, Option, Some, None, length, map, refl, sym, ap, subst, ◌∙◌, arith, is_some, nat_eq, if◌then◌else◌}
use Rattle.std.specs.Prelude.{IsSome, option_and_then, slice_get}
use Rattle.std.specs.List.{AllByRecursion, IsDistinct, list_any, range_with_len}
use Rattle.std.specs.Map.{keys_of}
use Rattle.std.specs.Option.{option_map}
use Rattle.std.specs.Set.{is_member}
use Rattle.std.proofs.lemmas.Bool.Decides.{nat_tests}
use Rattle.wf_outside.specs.Lists.{IsRising}
use Rattle.wf_outside.specs.Pages.{PageValue, page_of}
use Rattle.wf_frames.specs.Layout.{WordsValue, word_count}
use Rattle.wf_views.specs.declared.pages.PageAt.{PageAt}
use Rattle.wf_views.specs.declared.records.Records.{Records}
use Rattle.wf_views.specs.declared.view.NodeAt.{NodeAt}
use Rattle.wf_views.specs.Views.{ViewValue}
use Rattle.wf_flat.specs.Accesses.{is_ending}
use Rattle.wf_flat.specs.Boot.{places_with}
use Rattle.wf_flat.specs.Ordered.{IsGen}
use Rattle.wf_flat.specs.State.{FlatState, GenState, PageState}
use Rattle.wf_effects.specs.Effects.{mapped_pages, reaching}
use Rattle.wf_homes.specs.Entries.{SpellsView}
use Rattle.wf_homes.specs.Homes.{Homes, NodeOf, Tenant, TextOf, home_frame, same_tenant}
use Rattle.wf_homes.specs.Kept.{HasNodeFor, HasWords, IsKeptText, IsKeptView, node_frame}
use Rattle.wf_homes.specs.Stands.{StandsFor}
use Rattle.wf_homes.proofs.FoundLemmas.{some_more}
use Rattle.wf_homes.proofs.ListLemmas.{all_both, all_map, all_more, distinct_two, none_any}
use Rattle.wf_homes.proofs.TenantLemmas.{same_is}
use Rattle.wf_space.specs.Changes.{with_changes}
use Rattle.wf_space.specs.Pieces.{ArePerformed}
use Rattle.wf_mapping.specs.declared.layout.Mapping.{Mapping}
use Rattle.wf_mapping.specs.declared.nodes.NewNode.{NewNode}
use Rattle.wf_mapping.specs.Laws.{mapped_by, node_home, page_home}
use Rattle.wf_mapping.specs.Layout.{new_nodes, new_pages, numbers_of}
use Rattle.wf_mapping.specs.Plans.{map_changes, map_pieces}
use Rattle.wf_mapping.proofs.AnyLemmas.{any_places}
use Rattle.wf_mapping.proofs.NodeLemmas.{node_tenant}
use Rattle.wf_mapping.proofs.PlaceLemmas.{places_rise, rising_same}
use Rattle.wf_mapping.proofs.TreeLemmas.{place_there}
use Rattle.wf_mapped.proofs.AnyLemmas.{AnyIs, test_any}
use Rattle.wf_mapped.proofs.ChangeLemmas.{noted, nodes_are, nodes_with, reach_with, recorded}
use Rattle.wf_mapped.proofs.EntryLemmas.{old, text_same, words_stay}
use Rattle.wf_mapped.proofs.HousedLemmas.{IsNewNode, IsReady, are, housed, new_home, news, nodes_new, tidy_after}
use Rattle.wf_mapped.proofs.LookLemmas.{IsViewOf, node_skipped, tenant_of}
use Rattle.wf_mapped.proofs.PageLemmas.{each_any, number_of, sorted_all}
use Rattle.wf_mapped.proofs.ReachLemmas.{any_reached, as_tenants, frame_first, frame_in, frame_new, frame_past, frames_there, new_distinct, nodes_in, places_reached, reach_is, reaches, some_looked, tenants_both}
use Rattle.wf_mapped.proofs.SpellLemmas.{spelled_after}

got_mapped : {A B : Type 0} (f : A → B) (xs : List A) (i : ℕ) → slice_get (map f xs) i ≡ option_map f (slice_get xs i)
got_mapped f [] i = refl
got_mapped f (x ∷ xs) zero = refl
got_mapped f (x ∷ xs) (suc i) = got_mapped f xs i

pub got_reaching : (pages : List ℕ) (gens : List GenState) (g : ℕ) → slice_get (map (reaching pages) gens) g ≡ option_map (reaching pages) (slice_get gens g)
got_reaching pages gens g = got_mapped (reaching pages) gens g

distinct_after : (xs ys : List (Tenant × ℕ)) → IsDistinct same_tenant (keys_of (xs ++ ys)) → IsDistinct same_tenant (keys_of ys)
unfolding IsDistinct
distinct_after [] ys d = d
distinct_after (x ∷ xs) ys d = distinct_after xs ys d.1

keys_nodes : (ns : List NewNode) → keys_of (map node_home ns) ≡ map tenant_of ns
keys_nodes [] = refl
keys_nodes (n ∷ ns) = ap (λ (ts : List Tenant). tenant_of n ∷ ts) (keys_nodes ns)

-- what holds of numbers, of the pages that are mapped there
pub all_numbers : (P : ℕ → Type 0) (write : Bool) (page birth n : ℕ) → AllByRecursion P (range_with_len page n) → AllByRecursion (λ p. P p.number) (mapped_pages None write page birth n)
all_numbers P write page birth zero all = tt
all_numbers P write page birth (suc n) all = (all.0, all_numbers P write (page + 1) (birth + 1) n all.1)

or_last : (a b : Bool) → b ≡ true → (a || b) ≡ true
or_last true b e = refl
or_last false b e = e

or_some : (o p : Option ℕ) → is_some o ≡ false → is_some p ≡ (is_some o || is_some p)
or_some None p e = refl
or_some (Some x) p e = absurd cc

module _ (words new : WordsValue) (r q : Records) (homes : Homes) (s : FlatState) (mapping : Mapping) (ready : IsReady words r homes s mapping) (done : ArePerformed words (with_changes r (map_changes r mapping)) (map_pieces r mapping) new q)
    (whole : length new.items ≡ word_count new.frames) where
  abbrev st : StandsFor words r homes s
  st = ready.stands

  abbrev after_s : FlatState
  after_s = mapped_by s mapping

  abbrev after_h : Homes
  after_h = housed r homes mapping

  abbrev pages : List PageAt
  pages = new_pages r mapping

  abbrev nodes : List NewNode
  nodes = new_nodes r mapping

  abbrev after_r : Records
  after_r = recorded mapping.pages pages nodes r

  abbrev numbers : List ℕ
  numbers = numbers_of mapping

  keep : (t : Tenant) (f : ℕ) → home_frame homes t ≡ Some f → home_frame after_h t ≡ Some f
  keep t f e = old words new r q homes s mapping ready done whole t f e

  keep_some : (t : Tenant) → IsSome (home_frame homes t) → IsSome (home_frame after_h t)
  keep_some t some = by_home (home_frame homes t) refl some
    where
      by_home : (o : Option ℕ) → home_frame homes t ≡ o → IsSome o → IsSome (home_frame after_h t)
      by_home None e h = absurd (let k : false ≡ true = h in cc)
      by_home (Some f) e h = ap is_some (keep t f e)

  -- a home after the mapping, of those before it and those that come
  home_both : (g k : ℕ) → is_some (home_frame after_h (NodeOf g 0 k)) ≡ (is_some (home_frame homes (NodeOf g 0 k)) || list_any (reaches (nat_eq k) g) nodes)
  home_both g k = by_home (home_frame homes (NodeOf g 0 k)) refl
    where
      by_home : (o : Option ℕ) → home_frame homes (NodeOf g 0 k) ≡ o → is_some (home_frame after_h (NodeOf g 0 k)) ≡ (is_some o || list_any (reaches (nat_eq k) g) nodes)
      by_home (Some f) e = ap is_some (keep (NodeOf g 0 k) f e)
      by_home None e = ap is_some (new_home words r homes s mapping ready (NodeOf g 0 k) e ∙ node_skipped g 0 k pages nodes) ∙ some_looked g k nodes

  -- a generation after the mapping
  gen_after : (g : ℕ) (gen : GenState) → slice_get s.gens g ≡ Some gen → slice_get after_s.gens g ≡ Some (reaching numbers gen)
  gen_after g gen at = got_reaching numbers s.gens g ∙ ap (option_map (reaching numbers)) at

  reach_after : (gen : GenState) → gen.live ≡ true → (reaching numbers gen).reach ≡ places_with gen.reach numbers
  reach_after gen live = ap (λ (b : Bool). if b then places_with gen.reach numbers else gen.reach) live

  -- the places that a generation reaches are those of its nodes
  place_home : (g : ℕ) (gen : GenState) → slice_get s.gens g ≡ Some gen → gen.live ≡ true → (k : ℕ) → is_some (home_frame homes (NodeOf g 0 k)) ≡ list_any (nat_eq k) gen.reach
  place_home g gen at live k = st.housed.each (NodeOf g 0 k) ∙ node_tenant s ready.tidy g gen at live (0, k) ∙ place_there gen.reach k

  place_after : (g : ℕ) (gen : GenState) → slice_get s.gens g ≡ Some gen → gen.live ≡ true → (k : ℕ) → is_some (home_frame after_h (NodeOf g 0 k)) ≡ list_any (nat_eq k) (places_with gen.reach numbers)
  place_after g gen at live k =
      (are words r homes s mapping ready).each (NodeOf g 0 k)
      ∙ node_tenant after_s (tidy_after words r homes s mapping ready) g (reaching numbers gen) (gen_after g gen at) live (0, k)
      ∙ place_there (reaching numbers gen).reach k
      ∙ ap (list_any (nat_eq k)) (reach_after gen live)

  -- there is a node for each page that comes
  nodes_for_new : (g : ℕ) (gen : GenState) → slice_get s.gens g ≡ Some gen → gen.live ≡ true → AllByRecursion (HasNodeFor after_h g) numbers
  nodes_for_new g gen at live = all_more (λ n. AnyIs (λ m. nat_eq (n / 512) (m / 512) ≡ true) numbers) (HasNodeFor after_h g) (λ n any. (
      place_after g gen at live (n / 512) ∙ any_places (nat_eq (n / 512)) gen.reach numbers
      ∙ or_last (list_any (nat_eq (n / 512)) gen.reach) (list_any (λ m. nat_eq (n / 512) (m / 512)) numbers) (test_any (λ m. nat_eq (n / 512) (m / 512)) numbers any)
      )) numbers (each_any (λ m n. nat_eq (n / 512) (m / 512) ≡ true) (λ m. (let t : nat_eq (m / 512) (m / 512) ≡ true = grind (arith, nat_tests) in t)) numbers)

  module _ (g : ℕ) (is : IsViewOf words r homes s g) where
    abbrev gen : GenState
    gen = is.gen

    abbrev view : ViewValue
    view = is.view

    number : gen.number ≡ g
    number = ready.tidy.placed g gen is.at

    its_number : view.generation ≡ g
    its_number = is.kept.generation ∙ number

    reach_rising : IsRising gen.reach
    reach_rising = at_gen s.gens g gen ready.tidy.gens is.at
      where
        at_gen : (gens : List GenState) (i : ℕ) (x : GenState) → AllByRecursion (λ gen. IsGen gen.text gen.reach) gens → slice_get gens i ≡ Some x → IsRising x.reach
        at_gen [] i x all e = absurd cc
        at_gen (y ∷ ys) zero x all e = (let same : y ≡ x = cc in subst (λ (z : GenState). IsRising z.reach) same all.0.reach_rising)
        at_gen (y ∷ ys) (suc i) x all e = at_gen ys i x all.1 e

    -- the places
    view_rising : IsRising view.reach.items
    view_rising = subst IsRising (sym is.kept.reach) reach_rising

    reach_kept : (reach_with nodes view.generation view.reach).items ≡ (reaching numbers gen).reach
    reach_kept =
        let reached = reach_is nodes view.generation view.reach view_rising in
        let up : IsRising (places_reached nodes g gen.reach) = subst (λ (h : ℕ). IsRising (places_reached nodes h gen.reach)) its_number (subst (λ (xs : List ℕ). IsRising (places_reached nodes view.generation xs)) is.kept.reach (subst IsRising reached.0 reached.1)) in
        reached.0 ∙ ap (places_reached nodes view.generation) is.kept.reach ∙ ap (λ (h : ℕ). places_reached nodes h gen.reach) its_number
        ∙ rising_same (places_reached nodes g gen.reach) (places_with gen.reach numbers) up (places_rise gen.reach numbers reach_rising) members
        ∙ sym (reach_after gen is.live)
      where
        members : (k : ℕ) → is_member nat_eq (places_reached nodes g gen.reach) k ≡ is_member nat_eq (places_with gen.reach numbers) k
        members k =
            any_reached (nat_eq k) nodes g gen.reach
            ∙ ap (λ (b : Bool). b || list_any (reaches (nat_eq k) g) nodes) (sym (place_home g gen is.at is.live k))
            ∙ sym (home_both g k)
            ∙ place_after g gen is.at is.live k

    -- the nodes
    recorded_node : (level prefix : ℕ) → frame_in level prefix view.nodes.items ≡ home_frame homes (NodeOf g level prefix)
    recorded_node level prefix = sym (ap (λ (o : Option ViewValue). option_and_then (λ (v : ViewValue). node_frame v level prefix) o) is.there) ∙ st.at_home (NodeOf g level prefix)

    pub node_kept : (level prefix : ℕ) → frame_in level prefix (nodes_with nodes view.generation view.nodes).items ≡ home_frame after_h (NodeOf g level prefix)
    node_kept level prefix = ap (frame_in level prefix) (nodes_are nodes view.generation view.nodes) ∙ ap (λ (h : ℕ). frame_in level prefix (view.nodes.items ++ nodes_in h nodes)) its_number ∙ by_home (home_frame homes (NodeOf g level prefix)) refl
      where
        by_home : (o : Option ℕ) → home_frame homes (NodeOf g level prefix) ≡ o → frame_in level prefix (view.nodes.items ++ nodes_in g nodes) ≡ home_frame after_h (NodeOf g level prefix)
        by_home (Some f) e = frame_first level prefix f view.nodes.items (nodes_in g nodes) (recorded_node level prefix ∙ e) ∙ sym (keep (NodeOf g level prefix) f e)
        by_home None e = frame_past level prefix view.nodes.items (nodes_in g nodes) (recorded_node level prefix ∙ e) ∙ frame_new g level prefix nodes
            ∙ sym (new_home words r homes s mapping ready (NodeOf g level prefix) e ∙ node_skipped g level prefix pages nodes)

    nodes_distinct : IsDistinct same_tenant (as_tenants view.generation (nodes_with nodes view.generation view.nodes).items)
    nodes_distinct =
        subst (IsDistinct same_tenant) (sym (ap (as_tenants view.generation) (nodes_are nodes view.generation view.nodes) ∙ tenants_both view.generation view.nodes.items (nodes_in view.generation nodes)))
        (distinct_two same_tenant (as_tenants view.generation view.nodes.items) (as_tenants view.generation (nodes_in view.generation nodes)) is.kept.nodes
        (new_distinct view.generation nodes all_apart) apart)
      where
        all_apart : IsDistinct same_tenant (map tenant_of nodes)
        all_apart = subst (IsDistinct same_tenant) (keys_nodes nodes) (distinct_after (map page_home pages) (map node_home nodes) (distinct_after homes.homes (news r mapping) (are words r homes s mapping ready).separate.once))

        none_before : (h : ℕ) (ns : List NewNode) → AllByRecursion (IsNewNode r homes after_h s) ns → AllByRecursion (λ t. home_frame homes t ≡ None) (as_tenants h (nodes_in h ns))
        none_before h [] all = tt
        none_before h (n ∷ ns) all = by_test (n.generation == h) refl (none_before h ns all.1)
          where
            by_test : (b : Bool) → (n.generation == h) ≡ b → AllByRecursion (λ t. home_frame homes t ≡ None) (as_tenants h (nodes_in h ns)) → AllByRecursion (λ t. home_frame homes t ≡ None) (as_tenants h (nodes_in h (n ∷ ns)))
            by_test true e rest = (let same : n.generation ≡ h = grind (arith, nat_tests) in rw e (ap (λ (k : ℕ). home_frame homes (NodeOf k n.node.level n.node.prefix)) (sym same) ∙ all.0.home.before, rest))
            by_test false e rest = rw e rest

        not_same : (t u : Tenant) → IsSome (home_frame homes t) → home_frame homes u ≡ None → same_tenant t u ≡ false
        not_same t u some none = by_test (same_tenant t u) refl
          where
            by_test : (b : Bool) → same_tenant t u ≡ b → b ≡ false
            by_test false e = refl
            by_test true e = (let one : t ≡ u = (same_is t u).0 e in let k : true ≡ false = sym some ∙ ap is_some (ap (home_frame homes) one ∙ none) in absurd cc)

        apart : AllByRecursion (λ t. is_member same_tenant (as_tenants view.generation (nodes_in view.generation nodes)) t ≡ false) (as_tenants view.generation view.nodes.items)
        apart = all_map (λ (node : NodeAt). IsSome (frame_in node.level node.prefix view.nodes.items)) (λ t. is_member same_tenant (as_tenants view.generation (nodes_in view.generation nodes)) t ≡ false) (λ (node : NodeAt). NodeOf view.generation node.level node.prefix)
            (λ node there. (
            let some : IsSome (home_frame homes (NodeOf view.generation node.level node.prefix)) = ap is_some (ap (λ (h : ℕ). home_frame homes (NodeOf h node.level node.prefix)) its_number ∙ sym (recorded_node node.level node.prefix)) ∙ there in
            none_any (same_tenant (NodeOf view.generation node.level node.prefix)) (as_tenants view.generation (nodes_in view.generation nodes))
            (all_more (λ u. home_frame homes u ≡ None) (λ u. same_tenant (NodeOf view.generation node.level node.prefix) u ≡ false) (λ u none. not_same (NodeOf view.generation node.level node.prefix) u some none) (as_tenants view.generation (nodes_in view.generation nodes)) (none_before view.generation nodes (nodes_new words r homes s mapping ready)))
            )) view.nodes.items (frames_there view.nodes.items)

    -- the text
    text_kept : (p : PageValue) → IsKeptText words homes gen.number p → IsKeptText new after_h gen.number p
    text_kept p kept = rw (text_same words new r q homes s mapping ready done whole gen.number p.number) (some_more (home_frame homes (TextOf gen.number p.number)) (λ fr. HasWords words fr p.words) (λ fr. HasWords new fr p.words)
        (λ fr e has i lt. words_stay words new r q homes s mapping ready done whole (TextOf gen.number p.number) fr i e (λ n same. absurd cc) lt ∙ has i lt) kept)

    node_for : (n : ℕ) → HasNodeFor homes gen.number n → HasNodeFor after_h gen.number n
    node_for n has = keep_some (NodeOf gen.number 0 (n / 512)) has

    pages_have : AllByRecursion (λ p. is_ending p.stage ≡ false → HasNodeFor after_h gen.number p.number) after_s.pages
    pages_have =
        sorted_all number_of (λ p. is_ending p.stage ≡ false → HasNodeFor after_h gen.number p.number) (s.pages ++ mapped_pages None mapping.write (page_of mapping.va) s.births mapping.pages)
        (all_both (λ p. is_ending p.stage ≡ false → HasNodeFor after_h gen.number p.number) s.pages (mapped_pages None mapping.write (page_of mapping.va) s.births mapping.pages)
        (all_more (λ p. is_ending p.stage ≡ false → HasNodeFor homes gen.number p.number) (λ p. is_ending p.stage ≡ false → HasNodeFor after_h gen.number p.number) (λ p has e. node_for p.number (has e)) s.pages is.kept.leaves.pages)
        (all_more (λ (p : PageState). HasNodeFor after_h gen.number p.number) (λ p. is_ending p.stage ≡ false → HasNodeFor after_h gen.number p.number) (λ p has e. has) (mapped_pages None mapping.write (page_of mapping.va) s.births mapping.pages)
        (all_numbers (HasNodeFor after_h gen.number) mapping.write (page_of mapping.va) s.births mapping.pages (subst (λ (h : ℕ). AllByRecursion (HasNodeFor after_h h) numbers) (sym number) (nodes_for_new g gen is.at is.live)))))

    pub view_kept : IsKeptView new after_h after_s (reaching numbers gen) (noted nodes view)
    view_kept = record {
      generation = is.kept.generation;
      parent = is.kept.parent;
      patches = is.kept.patches;
      jumps = is.kept.jumps;
      reach = reach_kept;
      root = keep (NodeOf gen.number 2 0) view.root is.kept.root;
      pages = is.kept.pages;
      nodes = nodes_distinct;
      met = record { same = is.kept.met.same; low = is.kept.met.low };
      residents = is.kept.residents;
      text = all_more (IsKeptText words homes gen.number) (IsKeptText new after_h gen.number) text_kept gen.text is.kept.text;
      leaves = record {
        text = all_more (HasNodeFor homes gen.number) (HasNodeFor after_h gen.number) node_for (map (λ (p : PageValue). p.number) gen.text) is.kept.leaves.text;
        pages = pages_have;
      };
      spelled = subst (SpellsView new after_h after_s) (sym number) (spelled_after words new r q homes s mapping ready done whole g is);
    }
