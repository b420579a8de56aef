-- The view of the first generation is kept, and all of it stands for the state at the start.
use Rattle.std.proofs.Common.{◌≡◌, ◌<◌, ◌≤◌, ◌+◌, ◌-◌, ◌*◌, ◌/◌, ◌==◌, ◌++◌, ℕ, zero, suc, List, [], ◌∷◌, Bool, true, false, Option, Some, None, length, map, refl, sym, ap, subst, ◌∙◌, arith, if◌then◌else◌}
use Rattle.std.specs.Prelude.{IsSome, IsSomeAnd, MatchOption, option_and_then, slice_get}
use Rattle.std.specs.Option.{option_map}
use Rattle.std.specs.List.{AllByRecursion, IsDistinct, list_any}
use Rattle.std.proofs.lemmas.Bool.Decides.{nat_tests}
use Rattle.std.proofs.lemmas.List.FromFn.{get_or-map-range_with_len}
use Rattle.wf_outside.specs.Images.{text_numbers}
use Rattle.wf_outside.specs.Lists.{IsRising}
use Rattle.wf_outside.specs.Pages.{PageValue}
use Rattle.wf_frames.specs.Layout.{WordsValue}
use Rattle.wf_sv39.specs.declared.entry.Leaf.TheVariants.{Private}
use Rattle.wf_views.specs.declared.records.BornAt.{BornAt}
use Rattle.wf_views.specs.declared.records.Records.{Records}
use Rattle.wf_views.specs.declared.view.NodeAt.{NodeAt}
use Rattle.wf_views.specs.Views.{ViewValue, view_of}
use Rattle.wf_flat.specs.Accesses.{is_ending}
use Rattle.wf_flat.specs.Ordered.{IsGen}
use Rattle.wf_flat.specs.State.{FlatState, GenState, PageState}
use Rattle.wf_homes.specs.Entries.{SpellsView, entry_for, leaf_to, pointer_to, private_or, shared_leaf}
use Rattle.wf_homes.specs.Homes.{Homes, NodeOf, Tenant, TextOf, has_tenant, home_frame, same_tenant, tree_nodes}
use Rattle.wf_homes.specs.Kept.{HasNodeFor, HasNodes, HasMet, HasResidents, HasWords, IsKeptText, IsKeptView, IsResident, node_tenants_in, text_page, word_of_frame}
use Rattle.wf_homes.specs.Stands.{StandsFor, born_of, living, living_at}
use Rattle.wf_homes.proofs.CountLemmas.{tree_distinct}
use Rattle.wf_homes.proofs.FoundLemmas.{some_at}
use Rattle.wf_homes.proofs.ListLemmas.{all_more, any_both}
use Rattle.wf_start.specs.Layout.{first_entry, nodes_from, text_from}
use Rattle.wf_start.specs.Start.{AreFirstRecords, AreFirstWords, FirstStand, IsFirst, IsFirstView, IsReached, nodes_first}
use Rattle.wf_start.proofs.FrameLemmas.{births_raised, frame_kept}
use Rattle.wf_start.proofs.KeepLemmas.{homes, housed, node_at, pages_kept, text_at}
use Rattle.wf_start.proofs.PairLemmas.{all_places, found_in}
use Rattle.wf_start.proofs.StandLemmas.{at_home, datas, homes_are, node_home, node_recorded, nodes, tenants_are, text_recorded, texts, view_here, view_other}
use Rattle.wf_start.proofs.TreeLemmas.{node_in_tree, or_yes}

numbers_from : (a : ℕ) (pages : List PageValue) → map text_page (text_from a pages) ≡ text_numbers pages
numbers_from a [] = refl
numbers_from a (p ∷ ps) = ap (λ (ns : List ℕ). p.number ∷ ns) (numbers_from (a + 1) ps)

nodes_named : (a : ℕ) (ns : List (ℕ × ℕ)) → map (λ (n : NodeAt). NodeOf 0 n.level n.prefix) (nodes_from a ns) ≡ map (λ (n : ℕ × ℕ). NodeOf 0 n.0 n.1) ns
nodes_named a [] = refl
nodes_named a (n ∷ ns) = ap (λ (ts : List Tenant). NodeOf 0 n.0 n.1 ∷ ts) (nodes_named (a + 1) ns)

node_from : (a : ℕ) (ns : List (ℕ × ℕ)) (k : ℕ) (n : ℕ × ℕ) → slice_get ns k ≡ Some n → slice_get (nodes_from a ns) k ≡ Some (record { level = n.0; prefix = n.1; frame = a + k })
node_from a [] k n e = absurd cc
node_from a (m ∷ ns) zero n e =
    let k : Some m ≡ Some n = e in
    let same : m ≡ n = cc in
    let z : a ≡ a + 0 = omega arith in
    ap (λ (f : ℕ). let node : NodeAt = record { level = m.0; prefix = m.1; frame = f } in Some node) z ∙ ap (λ (q : ℕ × ℕ). let node : NodeAt = record { level = q.0; prefix = q.1; frame = a + 0 } in Some node) same
node_from a (m ∷ ns) (suc k) n e =
    let z : a + 1 + k ≡ a + suc k = omega arith in
    node_from (a + 1) ns k n e ∙ ap (λ (f : ℕ). let node : NodeAt = record { level = n.0; prefix = n.1; frame = f } in Some node) z

-- what stands at a place of a list that was made of another
record IsMadeOf {A B : Type 0} (f : A → B) (xs : List A) (k : ℕ) (y : B) : Type 0 where
  pub from : A
  pub at : slice_get xs k ≡ Some from
  pub is : f from ≡ y

made_of : {A B : Type 0} (f : A → B) (xs : List A) (k : ℕ) (y : B) → slice_get (map f xs) k ≡ Some y → IsMadeOf f xs k y
made_of f [] k y e = absurd cc
made_of f (x ∷ xs) zero y e = record { from = x; at = refl; is = (let k : Some (f x) ≡ Some y = e in cc) }
made_of f (x ∷ xs) (suc k) y e = let m = made_of f xs k y e in record { from = m.from; at = m.at; is = m.is }

module _ (s : FlatState) (gen : GenState) (harts : ℕ) (view : ViewValue) (r : Records) (words : WordsValue) (first : IsFirst s gen harts) (fv : IsFirstView s gen harts view) (fr : AreFirstRecords s gen view r) (fw : AreFirstWords s gen view words)
  where
    abbrev homed : Homes
    homed = homes s gen harts view r words first fv fr fw

    reach_rises : IsRising gen.reach
    reach_rises = (subst (AllByRecursion (λ (g : GenState). IsGen g.text g.reach)) first.only first.tidy.gens).0.reach_rising

    nodes_differ : IsDistinct same_tenant (node_tenants_in view)
    nodes_differ =
        let e : node_tenants_in view ≡ map (λ (n : ℕ × ℕ). NodeOf 0 n.0 n.1) (tree_nodes gen.reach) =
        ap (λ (g : ℕ). map (λ (n : NodeAt). NodeOf g n.level n.prefix) view.nodes.items) fv.generation
        ∙ ap (map (λ (n : NodeAt). NodeOf 0 n.level n.prefix)) fv.nodes
        ∙ nodes_named (nodes_first s gen) (tree_nodes gen.reach) in
        subst (IsDistinct same_tenant) (sym e) (tree_distinct 0 gen.reach reach_rises)

    has_met_none : HasMet view s
    has_met_none = record { same = λ page lt. rw (fv.met, first.unmet) refl; low = rw fv.met tt }

    residents_kept : HasResidents view s
    residents_kept h = (
      λ t. subst (λ (g : ℕ). IsResident s g h) (sym fv.generation) ((first.residents h).0 ((fv.residents h).0 t)),
      λ q. (fv.residents h).1 ((first.residents h).1 (subst (λ (g : ℕ). IsResident s g h) fv.generation q)),
    )

    text_kept : AllByRecursion (IsKeptText words homed gen.number) gen.text
    text_kept =
        all_places (IsKeptText words homed gen.number) gen.text
        (λ j p e. some_at (home_frame homed (TextOf gen.number p.number)) (λ frame. HasWords words frame p.words) j (rw first.number (text_at s gen harts view r words first fv fr fw j p e)) (fw.text j p e))

    node_reached : (n : ℕ) → IsReached gen n → IsSome (home_frame homed (NodeOf 0 0 (n / 512)))
    node_reached n reached =
        let t : Tenant = NodeOf 0 0 (n / 512) in
        let both : List Tenant = texts s gen harts view r first fv fr ++ datas s gen harts view r first fv fr in
        let there : has_tenant s t ≡ true =
        ap (list_any (same_tenant t)) (tenants_are s gen harts view r first fv fr)
        ∙ any_both (same_tenant t) both (nodes s gen harts view r first fv fr)
        ∙ or_yes (list_any (same_tenant t) both) (list_any (same_tenant t) (nodes s gen harts view r first fv fr)) (node_in_tree (n / 512) gen.reach reached) in
        (housed s gen harts view r words first fv fr fw).each t ∙ there

    has_nodes : HasNodes homed s gen
    has_nodes = record {
      text = all_more (IsReached gen) (HasNodeFor homed gen.number) (λ n q. rw first.number (node_reached n q)) (text_numbers gen.text) first.text_reached;
      pages = all_more (λ (p : PageState). IsReached gen p.number) (λ (p : PageState). is_ending p.stage ≡ false → HasNodeFor homed gen.number p.number) (λ p q _. rw first.number (node_reached p.number q)) s.pages first.data_reached;
    }

    -- the entries
    private_only : (o : Option ℕ) → leaf_to o Private ≡ private_or o 0
    private_only None = refl
    private_only (Some f) = refl

    entry_is : (level p : ℕ) → first_entry view level p ≡ entry_for homed s 0 level p
    entry_is zero p =
        let unshared : shared_leaf homed s 0 p ≡ 0 = rw first.unmet refl in
        ap (λ (o : Option ℕ). leaf_to o Private) (text_recorded s gen harts view r first fv fr p) ∙ private_only (home_frame homed (TextOf 0 p)) ∙ ap (private_or (home_frame homed (TextOf 0 p))) (sym unshared)
    entry_is (suc level) p = ap pointer_to (node_recorded s gen harts view r first fv fr level p)

    node_spelled : (level prefix frame : ℕ) → home_frame homed (NodeOf 0 level prefix) ≡ Some frame → (i : ℕ) → i < 512 → word_of_frame words frame i ≡ entry_for homed s 0 level (prefix * 512 + i)
    node_spelled level prefix frame e i lt =
        let base : ℕ = nodes_first s gen in
        let found : (base ≤ frame) × (slice_get (nodes s gen harts view r first fv fr) (frame - base) ≡ Some (NodeOf 0 level prefix)) =
        found_in (NodeOf 0 level prefix) base (nodes s gen harts view r first fv fr) frame (sym (node_home s gen harts view r first fv fr 0 level prefix) ∙ e) in
        let le : base ≤ frame = found.0 in
        let m = made_of (λ (n : ℕ × ℕ). NodeOf 0 n.0 n.1) (tree_nodes gen.reach) (frame - base) (NodeOf 0 level prefix) found.1 in
        let one : NodeOf 0 m.from.0 m.from.1 ≡ NodeOf 0 level prefix = m.is in
        let a : m.from.0 ≡ level = cc in
        let b : m.from.1 ≡ prefix = cc in
        let node : NodeAt = record { level = m.from.0; prefix = m.from.1; frame = base + (frame - base) } in
        let at : slice_get view.nodes.items (frame - base) ≡ Some node = ap (λ (ns : List NodeAt). slice_get ns (frame - base)) fv.nodes ∙ node_from base (tree_nodes gen.reach) (frame - base) m.from m.at in
        let z : frame ≡ base + (frame - base) = omega arith in
        ap (λ (f : ℕ). word_of_frame words f i) z
        ∙ fw.nodes (frame - base) node at i lt
        ∙ get_or-map-range_with_len (λ k. first_entry view node.level (node.prefix * 512 + k)) 0 512 i i 0 lt (omega arith)
        ∙ ap (λ (l : ℕ). first_entry view l (m.from.1 * 512 + i)) a
        ∙ ap (λ (p : ℕ). first_entry view level (p * 512 + i)) b
        ∙ entry_is level (prefix * 512 + i)

    spelled : SpellsView words homed s gen.number
    spelled = subst (SpellsView words homed s) (sym first.number) (λ level prefix frame e i lt. node_spelled level prefix frame e i lt)

    view_kept : IsKeptView words homed s gen view
    view_kept = record {
      generation = fv.generation ∙ sym first.number;
      parent = fv.parent;
      patches = fv.patches;
      jumps = fv.jumps;
      reach = fv.reach;
      root = rw (first.number, fv.root) (node_at s gen harts view r words first fv fr fw 0 (2, 0) refl ∙ (let z : nodes_first s gen + 0 ≡ nodes_first s gen = omega arith in ap Some z));
      pages = ap (map text_page) fv.text ∙ numbers_from 0 gen.text;
      nodes = nodes_differ;
      met = has_met_none;
      residents = residents_kept;
      text = text_kept;
      leaves = has_nodes;
      spelled = spelled;
    }

    living_here : living_at s 0 ≡ Some gen
    living_here = ap (λ (gens : List GenState). option_and_then living (slice_get gens 0)) first.only ∙ by_live gen.live first.live
      where
        by_live : (b : Bool) → b ≡ true → (if b then Some gen else None) ≡ Some gen
        by_live true e = refl
        by_live false e = absurd cc

    living_other : (g : ℕ) → living_at s (suc g) ≡ None
    living_other g = ap (λ (gens : List GenState). option_and_then living (slice_get gens (suc g))) first.only

    views_kept : (g : ℕ) → MatchOption (living_at s g) (view_of r.views g ≡ None) (λ gen. IsSomeAnd (view_of r.views g) (IsKeptView words homed s gen))
    views_kept zero =
        subst (λ (o : Option GenState). MatchOption o (view_of r.views 0 ≡ None) (λ g. IsSomeAnd (view_of r.views 0) (IsKeptView words homed s g))) (sym living_here)
        (some_at (view_of r.views 0) (IsKeptView words homed s gen) view (view_here s gen harts view r first fv fr) view_kept)
    views_kept (suc g) =
        let apart : (0 == suc g) ≡ false = grind (arith, nat_tests) in
        subst (λ (o : Option GenState). MatchOption o (view_of r.views (suc g) ≡ None) (λ k. IsSomeAnd (view_of r.views (suc g)) (IsKeptView words homed s k))) (sym (living_other g)) (view_other s gen harts view r first fv fr (suc g) apart)

    born_kept : (g : ℕ) → slice_get r.born.items g ≡ option_map born_of (slice_get s.gens g)
    born_kept g = ap (λ (bs : List BornAt). slice_get bs g) fr.born ∙ one g ∙ sym (ap (λ (gens : List GenState). option_map born_of (slice_get gens g)) first.only)
      where
        one : (k : ℕ) → slice_get (born_of gen ∷ []) k ≡ option_map born_of (slice_get (gen ∷ []) k)
        one zero = refl
        one (suc k) = refl

    pub made_stand : 1 ≤ s.limits.last_birth → StandsFor words r homed s
    made_stand le = record {
      sizes = record { of_records = fr.limits; of_words = fw.frames; whole = fw.whole; of_frames = fr.count; last_birth = fr.last_birth };
      zero_word = fw.zero_word;
      housed = housed s gen harts view r words first fv fr fw;
      at_home = at_home s gen harts view r first fv fr;
      pages = pages_kept s gen harts view r words first fv fr fw;
      frames = frame_kept s gen harts view r words first fv fr fw le;
      views = views_kept;
      born = born_kept;
      last = fr.last ∙ sym (ap (λ (gens : List GenState). Some (length gens - 1)) first.only);
      births = fr.births;
      raised = births_raised s gen harts view r words first fv fr fw le;
    }

pub first_stand : FirstStand
first_stand s gen harts view r words first fv fr fw le =
    subst (λ (h : Homes). StandsFor words r h s) (sym (homes_are s gen harts view r first fv fr)) (made_stand s gen harts view r words first fv fr fw le)
