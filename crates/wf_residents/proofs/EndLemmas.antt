-- What is there when a generation has ended, and the homes then.
use Rattle.std.proofs.Common.{◌≡◌, ◌≢◌, ◌==◌, ◌&&◌, ◌||◌, ◌++◌, ◌+◌, ◌<◌, ℕ, zero, suc, List, [], ◌∷◌, Bool, true, false, not, Option, Some, None, map, refl, sym, ap, ◌∙◌, inl, inr, arith, cond, is_some}
use Rattle.std.specs.Prelude.{slice_get}
use Rattle.std.specs.List.{AllByRecursion, filter, flat_map, list_any, zip}
use Rattle.std.specs.Set.{is_member}
use Rattle.std.proofs.lemmas.Bool.Decides.{nat_tests}
use Rattle.std.proofs.lemmas.List.{append-nil}
use Rattle.std.proofs.lemmas.List.Elements.{recursion_from_All}
use Rattle.std.proofs.lemmas.Map.Entries.{lookup-filter-keys}
use Rattle.std.proofs.lemmas.Map.Made.{All-is_member}
use Rattle.wf_outside.specs.Pages.{PageValue}
use Rattle.wf_flat.specs.Lists.{changed_at}
use Rattle.wf_flat.specs.State.{FlatState, GenState, PageState}
use Rattle.wf_flat.proofs.ListLemmas.{changed_next}
use Rattle.wf_effects.specs.Effects.{dead, generation_dead}
use Rattle.wf_homes.specs.Homes.{AreHomes, DataOf, Homes, NodeOf, Tenant, TextOf, free_frames, has_tenant, home_frame, homes_in, newcomers, node_tenants, same_tenant, tenants_of, text_tenants, tree_nodes, without_left}
use Rattle.wf_homes.specs.Laws.{IsTidy}
use Rattle.wf_homes.proofs.ListLemmas.{all_any, all_map, any_both, none_any, true_or_false}
use Rattle.wf_homes.proofs.TenantLemmas.{same_is, same_tenant_laws}
use Rattle.wf_space.proofs.LeftLemmas.{data_tenants, no_data_node, no_data_text, parts}
use Rattle.wf_residents.specs.Laws.{NothingComesByDeletes}

-- whether a tenant is a page of a generation's text or one of its nodes
abbrev pub is_own : ℕ → Tenant → Bool
is_own g (TextOf h page) = h == g
is_own g (DataOf page) = false
is_own g (NodeOf h level prefix) = h == g

abbrev ArePlaced : ℕ → List GenState → Type 0
ArePlaced a gens = (i : ℕ) (gen : GenState) → slice_get gens i ≡ Some gen → gen.number ≡ a + i

placed_next : (a : ℕ) (x : GenState) (xs : List GenState) → ArePlaced a (x ∷ xs) → ArePlaced (a + 1) xs
placed_next a x xs placed = λ i gen e. (let k : gen.number ≡ a + suc i = placed (suc i) gen e in omega arith)

placed_first : (a : ℕ) (x : GenState) (xs : List GenState) → ArePlaced a (x ∷ xs) → x.number ≡ a
placed_first a x xs placed = (let k : x.number ≡ a + 0 = placed 0 x refl in omega arith)

and_all : (b c : Bool) → c ≡ false → false ≡ (b && c)
and_all true c e = sym e
and_all false c e = refl

-- tenants of generations, of which each has those of its number alone, and none where it doesn't live
module _ (f : GenState → List Tenant) (p : Tenant → Bool) (o : ℕ)
    (none : (gen : GenState) → f (dead gen) ≡ []) (own : (gen : GenState) → gen.number ≢ o → list_any p (f gen) ≡ false) where
  none_later : (xs : List GenState) (a : ℕ) → ArePlaced a xs → o < a → list_any p (flat_map f xs) ≡ false
  none_later [] a placed lt = refl
  none_later (x ∷ xs) a placed lt =
      let number : x.number ≡ a = placed_first a x xs placed in
      let here : list_any p (f x) ≡ false = own x (λ e. (let k : x.number ≡ o = e in absurd (omega arith))) in
      any_both p (f x) (flat_map f xs) ∙ rw here (none_later xs (a + 1) (placed_next a x xs placed) (omega arith))

  pub ended_any : (xs : List GenState) (a k g : ℕ) → ArePlaced a xs → g ≡ a + k → list_any p (flat_map f (changed_at xs k dead)) ≡ (not (o == g) && list_any p (flat_map f xs))
  ended_any [] a k g placed e = and_all (not (o == g)) false refl
  ended_any (x ∷ xs) a zero g placed e =
      let number : x.number ≡ a = placed_first a x xs placed in
      ap (λ (ts : List Tenant). list_any p (ts ++ flat_map f xs)) (none x)
      ∙ (elim (true_or_false (o == g)) [
        | inl t ↦ (
            let same : o ≡ g = grind (arith, nat_tests) in
            rw t (none_later xs (a + 1) (placed_next a x xs placed) (omega arith))
            )
        | inr t ↦ (
            let here : list_any p (f x) ≡ false = own x (λ i. (let s : x.number ≡ o = i in let u : (o == g) ≡ true = grind (arith, nat_tests) in let w : true ≡ false = sym u ∙ t in cc)) in
            rw t (sym (any_both p (f x) (flat_map f xs) ∙ rw here refl))
            )
      ])
  ended_any (x ∷ xs) a (suc k) g placed e =
      let number : x.number ≡ a = placed_first a x xs placed in
      let rest : list_any p (flat_map f (changed_at xs k dead)) ≡ (not (o == g) && list_any p (flat_map f xs)) = ended_any xs (a + 1) k g (placed_next a x xs placed) (omega arith) in
      ap (λ (gens : List GenState). list_any p (flat_map f gens)) (changed_next x xs k dead)
      ∙ any_both p (f x) (flat_map f (changed_at xs k dead))
      ∙ ap (λ (b : Bool). list_any p (f x) || b) rest
      ∙ (elim (true_or_false (o == g)) [
        | inl t ↦ (
            let same : o ≡ g = grind (arith, nat_tests) in
            let here : list_any p (f x) ≡ false = own x (λ i. (let s : x.number ≡ o = i in absurd (omega arith))) in
            rw (t, here) refl
            )
        | inr t ↦ (rw t (sym (any_both p (f x) (flat_map f xs))))
      ])

-- pages of text and nodes are those of their generation alone
apart_test : (a b : ℕ) → a ≢ b → (b == a) ≡ false
apart_test a b apart = grind (arith, nat_tests)

text_own : (h page : ℕ) (gen : GenState) → gen.number ≢ h → is_member same_tenant (text_tenants gen) (TextOf h page) ≡ false
text_own h page gen apart = by_live gen.live refl
  where
    by_live : (b : Bool) → gen.live ≡ b → is_member same_tenant (text_tenants gen) (TextOf h page) ≡ false
    by_live true e = rw e (none_any (same_tenant (TextOf h page)) (map (TextOf gen.number) (map (λ (p : PageValue). p.number) gen.text)) (all_map (λ (k : ℕ). Unit {0}) (λ t. same_tenant (TextOf h page) t ≡ false) (TextOf gen.number) (λ k u. (let t : (h == gen.number) ≡ false = apart_test gen.number h apart in rw t refl)) (map (λ (p : PageValue). p.number) gen.text) (all_any (λ (k : ℕ). Unit {0}) (λ k. tt) (map (λ (p : PageValue). p.number) gen.text))))
    by_live false e = rw e refl

no_text_node : (h level prefix : ℕ) (gen : GenState) → is_member same_tenant (text_tenants gen) (NodeOf h level prefix) ≡ false
no_text_node h level prefix gen = by_live gen.live refl
  where
    by_live : (b : Bool) → gen.live ≡ b → is_member same_tenant (text_tenants gen) (NodeOf h level prefix) ≡ false
    by_live true e = rw e (none_any (same_tenant (NodeOf h level prefix)) (map (TextOf gen.number) (map (λ (p : PageValue). p.number) gen.text)) (all_map (λ (k : ℕ). Unit {0}) (λ t. same_tenant (NodeOf h level prefix) t ≡ false) (TextOf gen.number) (λ k u. refl) (map (λ (p : PageValue). p.number) gen.text) (all_any (λ (k : ℕ). Unit {0}) (λ k. tt) (map (λ (p : PageValue). p.number) gen.text))))
    by_live false e = rw e refl

node_own : (h level prefix : ℕ) (gen : GenState) → gen.number ≢ h → is_member same_tenant (node_tenants gen) (NodeOf h level prefix) ≡ false
node_own h level prefix gen apart = by_live gen.live refl
  where
    by_live : (b : Bool) → gen.live ≡ b → is_member same_tenant (node_tenants gen) (NodeOf h level prefix) ≡ false
    by_live true e = rw e (none_any (same_tenant (NodeOf h level prefix)) (map (λ node. NodeOf gen.number node.0 node.1) (tree_nodes gen.reach)) (all_map (λ (k : ℕ × ℕ). Unit {0}) (λ t. same_tenant (NodeOf h level prefix) t ≡ false) (λ node. NodeOf gen.number node.0 node.1) (λ k u. (let t : (h == gen.number) ≡ false = apart_test gen.number h apart in rw t refl)) (tree_nodes gen.reach) (all_any (λ (k : ℕ × ℕ). Unit {0}) (λ k. tt) (tree_nodes gen.reach))))
    by_live false e = rw e refl

no_node_text : (h page : ℕ) (gen : GenState) → is_member same_tenant (node_tenants gen) (TextOf h page) ≡ false
no_node_text h page gen = by_live gen.live refl
  where
    by_live : (b : Bool) → gen.live ≡ b → is_member same_tenant (node_tenants gen) (TextOf h page) ≡ false
    by_live true e = rw e (none_any (same_tenant (TextOf h page)) (map (λ node. NodeOf gen.number node.0 node.1) (tree_nodes gen.reach)) (all_map (λ (k : ℕ × ℕ). Unit {0}) (λ t. same_tenant (TextOf h page) t ≡ false) (λ node. NodeOf gen.number node.0 node.1) (λ k u. refl) (tree_nodes gen.reach) (all_any (λ (k : ℕ × ℕ). Unit {0}) (λ k. tt) (tree_nodes gen.reach))))
    by_live false e = rw e refl

-- the three parts, with what ended
text_no_data : (h page : ℕ) (pages : List PageState) → is_member same_tenant (data_tenants pages) (TextOf h page) ≡ false
text_no_data h page [] = refl
text_no_data h page (p ∷ ps) = text_no_data h page ps

node_no_data : (h level prefix : ℕ) (pages : List PageState) → is_member same_tenant (data_tenants pages) (NodeOf h level prefix) ≡ false
node_no_data h level prefix [] = refl
node_no_data h level prefix (p ∷ ps) = node_no_data h level prefix ps

both_none : (d b : Bool) → b ≡ false → b ≡ (d && b)
both_none d b e = e ∙ and_all d b e

three_same : (d a b c : Bool) → b ≡ (d && b) → (((d && a) || b) || (d && c)) ≡ (d && ((a || b) || c))
three_same true a b c e = refl
three_same false a b c e = rw e refl

middle : (a b c : Bool) → a ≡ false → c ≡ false → ((a || b) || c) ≡ (b || false)
middle a b c e f = rw (e, f) refl

module _ (s : FlatState) (g : ℕ) (tidy : IsTidy s) where
  abbrev after : FlatState
  after = generation_dead s g

  placed : ArePlaced 0 s.gens
  placed = λ i gen e. (let k : gen.number ≡ i = tidy.placed i gen e in omega arith)

  -- what is there then: what was, but for its own
  pub tenant_ended : (t : Tenant) → has_tenant after t ≡ (not (is_own g t) && has_tenant s t)
  tenant_ended (TextOf h page) =
      let t : Tenant = TextOf h page in
      parts after t
      ∙ ap (λ (b : Bool). (b || is_member same_tenant (data_tenants s.pages) t) || is_member same_tenant (flat_map node_tenants after.gens) t)
      (ended_any text_tenants (same_tenant t) h (λ gen. refl) (text_own h page) s.gens 0 g g placed (omega arith))
      ∙ ap (λ (b : Bool). ((not (h == g) && is_member same_tenant (flat_map text_tenants s.gens) t) || is_member same_tenant (data_tenants s.pages) t) || b)
      (ended_any node_tenants (same_tenant t) h (λ gen. refl) (λ gen apart. no_node_text h page gen) s.gens 0 g g placed (omega arith))
      ∙ three_same (not (h == g)) (is_member same_tenant (flat_map text_tenants s.gens) t) (is_member same_tenant (data_tenants s.pages) t) (is_member same_tenant (flat_map node_tenants s.gens) t) (both_none (not (h == g)) (is_member same_tenant (data_tenants s.pages) t) (text_no_data h page s.pages))
      ∙ ap (λ (b : Bool). not (h == g) && b) (sym (parts s t))
  tenant_ended (NodeOf h level prefix) =
      let t : Tenant = NodeOf h level prefix in
      parts after t
      ∙ ap (λ (b : Bool). (b || is_member same_tenant (data_tenants s.pages) t) || is_member same_tenant (flat_map node_tenants after.gens) t)
      (ended_any text_tenants (same_tenant t) h (λ gen. refl) (λ gen apart. no_text_node h level prefix gen) s.gens 0 g g placed (omega arith))
      ∙ ap (λ (b : Bool). ((not (h == g) && is_member same_tenant (flat_map text_tenants s.gens) t) || is_member same_tenant (data_tenants s.pages) t) || b)
      (ended_any node_tenants (same_tenant t) h (λ gen. refl) (node_own h level prefix) s.gens 0 g g placed (omega arith))
      ∙ three_same (not (h == g)) (is_member same_tenant (flat_map text_tenants s.gens) t) (is_member same_tenant (data_tenants s.pages) t) (is_member same_tenant (flat_map node_tenants s.gens) t) (both_none (not (h == g)) (is_member same_tenant (data_tenants s.pages) t) (node_no_data h level prefix s.pages))
      ∙ ap (λ (b : Bool). not (h == g) && b) (sym (parts s t))
  tenant_ended (DataOf n) =
      parts after (DataOf n)
      ∙ middle (is_member same_tenant (flat_map text_tenants after.gens) (DataOf n)) (is_member same_tenant (data_tenants s.pages) (DataOf n)) (is_member same_tenant (flat_map node_tenants after.gens) (DataOf n)) (no_data_text after.gens n) (no_data_node after.gens n)
      ∙ sym (parts s (DataOf n)
      ∙ middle (is_member same_tenant (flat_map text_tenants s.gens) (DataOf n)) (is_member same_tenant (data_tenants s.pages) (DataOf n)) (is_member same_tenant (flat_map node_tenants s.gens) (DataOf n)) (no_data_text s.gens n) (no_data_node s.gens n))

  -- homes then
  abbrev homes_then : Homes → Homes
  homes_then homes = without_left homes after

  pub home_ended : (homes : Homes) → AreHomes homes s → (t : Tenant) → home_frame (without_left homes after) t ≡ cond (not (is_own g t)) (home_frame homes t) None
  home_ended homes are t =
      lookup-filter-keys (same_tenant t) (has_tenant after) (has_tenant after t) (λ u e. (ap (has_tenant after) (sym ((same_is t u).0 e)))) homes.homes
      ∙ ap (λ (b : Bool). cond b (home_frame homes t) None) (tenant_ended t)
      ∙ by_tests (not (is_own g t)) (home_frame homes t) (has_tenant s t) (are.each t)
    where
      by_tests : (d : Bool) (o : Option ℕ) (b : Bool) → is_some o ≡ b → cond (d && b) o None ≡ cond d o None
      by_tests false o b e = refl
      by_tests true None b e = rw (← e) refl
      by_tests true (Some f) b e = rw (← e) refl

  pub each_ended : (homes : Homes) → AreHomes homes s → (t : Tenant) → is_some (home_frame (without_left homes after) t) ≡ has_tenant after t
  each_ended homes are t = ap is_some (home_ended homes are t) ∙ by_test (not (is_own g t)) (home_frame homes t) ∙ ap (λ (b : Bool). not (is_own g t) && b) (are.each t) ∙ sym (tenant_ended t)
    where
      by_test : (d : Bool) (o : Option ℕ) → is_some (cond d o None) ≡ (d && is_some o)
      by_test true o = refl
      by_test false o = refl

  none_new : (homes : Homes) → AreHomes homes s → newcomers (without_left homes after) after ≡ []
  none_new homes are = all_out (tenants_of after) (recursion_from_All (λ t. is_member same_tenant (tenants_of after) t ≡ true) (tenants_of after) (All-is_member same_tenant_laws (tenants_of after)))
    where
      all_out : (ts : List Tenant) → AllByRecursion (λ t. has_tenant after t ≡ true) ts → filter (λ t. not (is_some (home_frame (without_left homes after) t))) ts ≡ []
      all_out [] all = refl
      all_out (t ∷ ts) all =
          let e : is_some (home_frame (without_left homes after) t) ≡ true = each_ended homes are t ∙ all.0 in
          rw e (all_out ts all.1)

  pub nothing_new : (homes : Homes) → AreHomes homes s → homes_in homes after ≡ without_left homes after
  nothing_new homes are =
      let kept : Homes = without_left homes after in
      ap (λ (ts : List Tenant). let made : Homes = record kept { homes = kept.homes ++ zip ts (free_frames after.limits.frames kept) } in made) (none_new homes are)
      ∙ ap (λ (hs : List (Tenant × ℕ)). let made : Homes = record kept { homes = hs } in made) (append-nil kept.homes)

pub nothing_comes : NothingComesByDeletes
nothing_comes homes s g are may = nothing_new s g may.tidy homes are
