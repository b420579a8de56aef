-- Words and records that stand for a state at the start.
use Rattle.std.proofs.Common.{◌≡◌, ◌+◌, ◌-◌, ◌==◌, ◌++◌, ℕ, List, [], false, Some, None, length, map, refl, sym, ap, ◌∙◌, inl, inr, arith, length-append}
use Rattle.std.specs.Prelude.{option_and_then}
use Rattle.std.specs.List.{flat_map}
use Rattle.std.specs.Map.{lookup}
use Rattle.std.proofs.lemmas.Bool.Decides.{nat_tests}
use Rattle.std.proofs.lemmas.List.{append-nil, length-map}
use Rattle.wf_outside.specs.Images.{text_numbers}
use Rattle.wf_outside.specs.Pages.{PageValue}
use Rattle.wf_views.specs.declared.pages.PageAt.{PageAt}
use Rattle.wf_views.specs.declared.records.Records.{Records}
use Rattle.wf_views.specs.declared.view.NodeAt.{NodeAt}
use Rattle.wf_views.specs.declared.view.TextAt.{TextAt}
use Rattle.wf_views.specs.Views.{ViewValue, view_of}
use Rattle.wf_flat.specs.Counts.{used_of}
use Rattle.wf_flat.specs.State.{FlatState, GenState, PageState}
use Rattle.wf_homes.specs.Homes.{DataOf, Homes, NodeOf, Tenant, TextOf, home_frame, homes_at_boot, node_tenants, same_tenant, tenants_of, text_tenants, tree_nodes}
use Rattle.wf_homes.specs.Kept.{node_frame, recorded_frame, text_frame}
use Rattle.wf_homes.proofs.CountLemmas.{tenants_length}
use Rattle.wf_homes.proofs.ListLemmas.{true_or_false}
use Rattle.wf_homes.proofs.RecordedLemmas.{flip_test, node_looked, page_looked, text_looked}
use Rattle.wf_start.specs.Layout.{numbered}
use Rattle.wf_start.specs.Start.{AreFirstRecords, IsFirst, IsFirstView, data_first, nodes_first}
use Rattle.wf_start.proofs.FirstLemmas.{come_first}
use Rattle.wf_start.proofs.PairLemmas.{node_pairs, none_mapped, numbered_both, page_pairs, skip_back, skip_front, text_pairs}

module _ (s : FlatState) (gen : GenState) (harts : ℕ) (view : ViewValue) (r : Records) (first : IsFirst s gen harts) (fv : IsFirstView s gen harts view) (fr : AreFirstRecords s gen view r) where
  abbrev pub texts : List Tenant
  texts = map (TextOf 0) (text_numbers gen.text)

  abbrev pub datas : List Tenant
  datas = map (λ (p : PageState). DataOf p.number) s.pages

  abbrev pub nodes : List Tenant
  nodes = map (λ (n : ℕ × ℕ). NodeOf 0 n.0 n.1) (tree_nodes gen.reach)

  pub texts_length : length texts ≡ length gen.text
  texts_length = length-map (text_numbers gen.text) (TextOf 0) ∙ length-map gen.text (λ (p : PageValue). p.number)

  pub datas_length : length datas ≡ length s.pages
  datas_length = length-map s.pages (λ (p : PageState). DataOf p.number)

  text_is : text_tenants gen ≡ texts
  text_is = rw first.live (ap (λ (k : ℕ). map (TextOf k) (text_numbers gen.text)) first.number)

  nodes_are : node_tenants gen ≡ nodes
  nodes_are = rw first.live (ap (λ (k : ℕ). map (λ (n : ℕ × ℕ). NodeOf k n.0 n.1) (tree_nodes gen.reach)) first.number)

  pub tenants_are : tenants_of s ≡ (texts ++ datas) ++ nodes
  tenants_are =
      ap (λ (gens : List GenState). (flat_map text_tenants gens ++ datas) ++ flat_map node_tenants gens) first.only
      ∙ ap (λ (ts : List Tenant). (ts ++ datas) ++ (node_tenants gen ++ [])) (append-nil (text_tenants gen) ∙ text_is)
      ∙ ap (λ (ts : List Tenant). (texts ++ datas) ++ ts) (append-nil (node_tenants gen) ∙ nodes_are)

  -- the homes
  abbrev pub made : Homes
  made = record { homes = numbered 0 (tenants_of s); worn = [] }

  pub homes_are : homes_at_boot s ≡ made
  homes_are = come_first s (let l : length (tenants_of s) ≡ used_of s = tenants_length s in omega (arith, first.fits))

  pub listed : made.homes ≡ (numbered 0 texts ++ numbered (data_first gen) datas) ++ numbered (nodes_first s gen) nodes
  listed =
      let both : length (texts ++ datas) ≡ length texts + length datas = length-append texts datas in
      let a : 0 + length (texts ++ datas) ≡ nodes_first s gen = omega (arith, texts_length, datas_length) in
      let b : 0 + length texts ≡ data_first gen = omega (arith, texts_length) in
      ap (numbered 0) tenants_are
      ∙ numbered_both 0 (texts ++ datas) nodes
      ∙ ap (λ (n : ℕ). numbered 0 (texts ++ datas) ++ numbered n nodes) a
      ∙ ap (λ (ps : List (Tenant × ℕ)). ps ++ numbered (nodes_first s gen) nodes) (numbered_both 0 texts datas ∙ ap (λ (n : ℕ). numbered 0 texts ++ numbered n datas) b)

  -- each kind of tenant is found among its own
  pub text_home : (g n : ℕ) → home_frame made (TextOf g n) ≡ lookup (same_tenant (TextOf g n)) (numbered 0 texts)
  text_home g n =
      ap (lookup (same_tenant (TextOf g n))) listed
      ∙ skip_back (TextOf g n) (numbered 0 texts ++ numbered (data_first gen) datas) (numbered (nodes_first s gen) nodes) (none_mapped (TextOf g n) (λ (m : ℕ × ℕ). NodeOf 0 m.0 m.1) (λ m. refl) (nodes_first s gen) (tree_nodes gen.reach))
      ∙ skip_back (TextOf g n) (numbered 0 texts) (numbered (data_first gen) datas) (none_mapped (TextOf g n) (λ (p : PageState). DataOf p.number) (λ p. refl) (data_first gen) s.pages)

  pub data_home : (n : ℕ) → home_frame made (DataOf n) ≡ lookup (same_tenant (DataOf n)) (numbered (data_first gen) datas)
  data_home n =
      ap (lookup (same_tenant (DataOf n))) listed
      ∙ skip_back (DataOf n) (numbered 0 texts ++ numbered (data_first gen) datas) (numbered (nodes_first s gen) nodes) (none_mapped (DataOf n) (λ (m : ℕ × ℕ). NodeOf 0 m.0 m.1) (λ m. refl) (nodes_first s gen) (tree_nodes gen.reach))
      ∙ skip_front (DataOf n) (numbered 0 texts) (numbered (data_first gen) datas) (none_mapped (DataOf n) (TextOf 0) (λ m. refl) 0 (text_numbers gen.text))

  pub node_home : (g level prefix : ℕ) → home_frame made (NodeOf g level prefix) ≡ lookup (same_tenant (NodeOf g level prefix)) (numbered (nodes_first s gen) nodes)
  node_home g level prefix =
      let t : Tenant = NodeOf g level prefix in
      ap (lookup (same_tenant t)) listed
      ∙ skip_front t (numbered 0 texts ++ numbered (data_first gen) datas) (numbered (nodes_first s gen) nodes)
      (skip_front t (numbered 0 texts) (numbered (data_first gen) datas) (none_mapped t (TextOf 0) (λ m. refl) 0 (text_numbers gen.text)) ∙ none_mapped t (λ (p : PageState). DataOf p.number) (λ p. refl) (data_first gen) s.pages)

  -- the one view
  pub view_here : view_of r.views 0 ≡ Some view
  view_here = rw (fr.views, fv.generation) refl

  pub view_other : (g : ℕ) → (0 == g) ≡ false → view_of r.views g ≡ None
  view_other g apart = rw (fr.views, fv.generation, apart) refl

  -- all is recorded at home
  pub text_recorded : (n : ℕ) → text_frame view n ≡ home_frame made (TextOf 0 n)
  text_recorded n =
      text_looked 0 refl view.text n
      ∙ ap (λ (ts : List TextAt). lookup (same_tenant (TextOf 0 n)) (map (λ (t : TextAt). (TextOf 0 t.page, t.frame)) ts)) fv.text
      ∙ ap (lookup (same_tenant (TextOf 0 n))) (text_pairs 0 gen.text)
      ∙ sym (text_home 0 n)

  pub node_recorded : (level prefix : ℕ) → node_frame view level prefix ≡ home_frame made (NodeOf 0 level prefix)
  node_recorded level prefix =
      node_looked 0 refl view.nodes.items level prefix
      ∙ ap (λ (ns : List NodeAt). lookup (same_tenant (NodeOf 0 level prefix)) (map (λ (n : NodeAt). (NodeOf 0 n.level n.prefix, n.frame)) ns)) fv.nodes
      ∙ ap (lookup (same_tenant (NodeOf 0 level prefix))) (node_pairs (nodes_first s gen) (tree_nodes gen.reach))
      ∙ sym (node_home 0 level prefix)

  pub at_home : (t : Tenant) → recorded_frame r t ≡ home_frame made t
  at_home (TextOf g n) = elim (true_or_false (g == 0)) [
    | inl y ↦ (let e : g ≡ 0 = grind (arith, nat_tests) in rw e (ap (option_and_then (λ (v : ViewValue). text_frame v n)) view_here ∙ text_recorded n))
    | inr a ↦ (
        ap (option_and_then (λ (v : ViewValue). text_frame v n)) (view_other g (flip_test g 0 false a))
        ∙ sym (text_home g n ∙ none_mapped (TextOf g n) (TextOf 0) (λ m. rw a refl) 0 (text_numbers gen.text))
        )
  ]
  at_home (DataOf n) =
      page_looked r.pages.items n
      ∙ ap (λ (ps : List PageAt). lookup (same_tenant (DataOf n)) (map (λ (p : PageAt). (DataOf p.page, p.frame)) ps)) fr.pages
      ∙ ap (lookup (same_tenant (DataOf n))) (page_pairs (data_first gen) s.pages)
      ∙ sym (data_home n)
  at_home (NodeOf g level prefix) = elim (true_or_false (g == 0)) [
    | inl y ↦ (let e : g ≡ 0 = grind (arith, nat_tests) in rw e (ap (option_and_then (λ (v : ViewValue). node_frame v level prefix)) view_here ∙ node_recorded level prefix))
    | inr a ↦ (
        ap (option_and_then (λ (v : ViewValue). node_frame v level prefix)) (view_other g (flip_test g 0 false a))
        ∙ sym (node_home g level prefix ∙ none_mapped (NodeOf g level prefix) (λ (m : ℕ × ℕ). NodeOf 0 m.0 m.1) (λ m. rw a refl) (nodes_first s gen) (tree_nodes gen.reach))
        )
  ]
