-- What is left of homes, and what a state makes of it.
use Rattle.std.proofs.Common.{◌≡◌, ◌++◌, ◌∷◌, ◌&&◌, ◌||◌, ℕ, [], List, Bool, true, false, not, Option, Some, None, cond, is_some, map, nat_eq, refl, sym, ap, ◌∙◌, inl, inr}
use Rattle.std.specs.BTreeMap.{BTreeMap, get}
use Rattle.std.specs.BTreeSet.{BTreeSet, contains}
use Rattle.std.specs.List.{AllByRecursion, filter, fold, range_with_len, zip}
use Rattle.std.specs.Map.{lookup, values_of}
use Rattle.std.specs.Ordering.{nat_cmp}
use Rattle.std.specs.Set.{is_member}
use Rattle.wf_flat.specs.State.{FlatState}
use Rattle.wf_flat.specs.declared.event.Event.{Event}
use Rattle.wf_flat.specs.declared.event.Event.TheVariants.{Fetch, Look, Take, Put, Swap, Miss, End, Again, Wait, Enter, Sync, Trap, Exit, Out, Idle, Map, Going, Ending, Gone, Born, Move, Dead, Refused}
use Rattle.wf_homes.specs.Homes.{DataOf, Homes, Tenant, free_frames, has_tenant, home_frame, homes_behind, homes_in, is_home, is_worn, newcomers, same_tenant, tenants_of, without_left, without_page}
use Rattle.wf_homes.proofs.ListLemmas.{all_any, all_more, true_or_false}
use Rattle.wf_homes.proofs.TenantLemmas.{same_is}
use Rattle.wf_tables.specs.Values.{home_value, tenant_value}
use Rattle.wf_tables.specs.Index.{AreLeft, IsIndex, IsSet, tenant_cmp}
use Rattle.wf_tables.specs.declared.homes.Home.{Home}
use Rattle.wf_tables.specs.declared.homes.Tenant.{Tenant as CodeTenant}
use Rattle.wf_tables.proofs.RenewalLemmas.{lookup_kept}

module _ {A : Type 0} where
  -- tests that agree on all elements keep the same
  filter_agree : (p q : A → Bool) (xs : List A) → AllByRecursion (λ x. p x ≡ q x) xs → filter p xs ≡ filter q xs
  filter_agree p q [] all = refl
  filter_agree p q (x ∷ xs) all =
      ap (λ (b : Bool). cond b (x ∷ filter p xs) (filter p xs)) all.0
      ∙ ap (λ (ys : List A). cond (q x) (x ∷ ys) ys) (filter_agree p q xs all.1)

  filter_whole : (p : A → Bool) (xs : List A) → AllByRecursion (λ x. p x ≡ true) xs → filter p xs ≡ xs
  filter_whole p [] all = refl
  filter_whole p (x ∷ xs) all = rw all.0 (ap (λ (ys : List A). x ∷ ys) (filter_whole p xs all.1))

  filter_both : (p q : A → Bool) (xs : List A) → filter (λ x. p x && q x) xs ≡ filter q (filter p xs)
  filter_both p q [] = refl
  filter_both p q (x ∷ xs) = elim (true_or_false (p x)) [
    | inl e ↦ (rw e (ap (λ (ys : List A). cond (q x) (x ∷ ys) ys) (filter_both p q xs)))
    | inr e ↦ (rw e (filter_both p q xs))
  ]

  map_filter : {B : Type 0} (p : A → Bool) (q : B → Bool) (f : A → B) → ((x : A) → p x ≡ q (f x)) → (xs : List A) → map f (filter p xs) ≡ filter q (map f xs)
  map_filter p q f same [] = refl
  map_filter {B} p q f same (x ∷ xs) = elim (true_or_false (p x)) [
    | inl e ↦ (rw (e, sym (same x) ∙ e) (ap (λ (ys : List B). f x ∷ ys) (map_filter p q f same xs)))
    | inr e ↦ (rw (e, sym (same x) ∙ e) (map_filter p q f same xs))
  ]

cond_some : {X : Type 0} (b : Bool) (x : X) (o : Option X) → is_some o ≡ true → is_some (cond b (Some x) o) ≡ true
cond_some true x o e = refl
cond_some false x o e = e

-- the tenant of each home has one
found_all : (es : List (Tenant × ℕ)) → AllByRecursion (λ e. is_some (lookup (same_tenant e.0) es) ≡ true) es
found_all [] = tt
found_all (e ∷ es) = (
  rw ((same_is e.0 e.0).1 refl) refl,
  all_more (λ x. is_some (lookup (same_tenant x.0) es) ≡ true) (λ x. is_some (lookup (same_tenant x.0) (e ∷ es)) ≡ true)
      (λ x some. cond_some (same_tenant x.0 e.0) e.1 (lookup (same_tenant x.0) es) some) es (found_all es),
)

left_start : (homes : Homes) → AreLeft homes homes.homes
left_start homes = sym (filter_whole (λ home. is_some (home_frame homes home.0)) homes.homes (found_all homes.homes))

some_cond : {X : Type 0} (b : Bool) (o : Option X) → (is_some o && b) ≡ is_some (cond b o None)
some_cond true None = refl
some_cond true (Some x) = refl
some_cond false None = refl
some_cond false (Some x) = refl

left_gone : (left : Homes) (homes : List (Tenant × ℕ)) (page : ℕ) (worn : Bool) → AreLeft left homes → AreLeft (without_page left page worn) homes
left_gone left homes page worn is =
    let stays = λ (home : Tenant × ℕ). not (same_tenant (DataOf page) home.0) in
    ap (filter stays) is
    ∙ sym (filter_both (λ home. is_some (home_frame left home.0)) stays homes)
    ∙ filter_agree _ (λ home. is_some (home_frame (without_page left page worn) home.0)) homes
    (all_any _ (λ home. some_cond (stays home) (home_frame left home.0) ∙ sym (ap is_some (lookup_kept (λ t. not (same_tenant (DataOf page) t)) home.0 left.homes))) homes)

left_behind : (left : Homes) (homes : List (Tenant × ℕ)) (event : Event) → AreLeft left homes → AreLeft (homes_behind left event) homes
left_behind left homes (Gone page worn) is = left_gone left homes page worn is
left_behind left homes (Fetch pc word) is = is
left_behind left homes (Look va width value) is = is
left_behind left homes (Take page) is = is
left_behind left homes (Put va width value) is = is
left_behind left homes (Swap va width old new) is = is
left_behind left homes (Miss va) is = is
left_behind left homes (End pc) is = is
left_behind left homes (Again page) is = is
left_behind left homes (Wait on) is = is
left_behind left homes Enter is = is
left_behind left homes (Sync generation page) is = is
left_behind left homes (Trap cause value) is = is
left_behind left homes (Exit code) is = is
left_behind left homes (Out byte) is = is
left_behind left homes Idle is = is
left_behind left homes (Map page n write patch) is = is
left_behind left homes (Going page n) is = is
left_behind left homes (Ending page) is = is
left_behind left homes (Born generation parent patch) is = is
left_behind left homes (Move generation) is = is
left_behind left homes (Dead generation) is = is
left_behind left homes (Refused reason) is = is

left_more : (left : Homes) (homes : List (Tenant × ℕ)) (events : List Event) → AreLeft left homes → AreLeft (fold homes_behind left events) homes
left_more left homes [] is = is
left_more left homes (event ∷ events) is = left_more (homes_behind left event) homes events (left_behind left homes event is)

-- what events leave of homes
pub left_after : (homes : Homes) (events : List Event) → AreLeft (fold homes_behind homes events) homes.homes
left_after homes events = left_more homes homes.homes events (left_start homes)

or_true : (a b : Bool) → b ≡ true → (a || b) ≡ true
or_true true b e = refl
or_true false b e = e

-- each of the tenants is one of them
members_all : (ts : List Tenant) → AllByRecursion (λ t. is_member same_tenant ts t ≡ true) ts
members_all [] = tt
members_all (t ∷ ts) = (
  rw ((same_is t t).1 refl) refl,
  all_more (λ u. is_member same_tenant ts u ≡ true) (λ u. is_member same_tenant (t ∷ ts) u ≡ true)
      (λ u e. or_true (same_tenant u t) (is_member same_tenant ts u) e) ts (members_all ts),
)

not_either : (a b : Bool) → not (a || b) ≡ (not a && not b)
not_either true b = refl
not_either false b = refl

frames_are : (homes : List Home) → map (λ (home : Home). home.frame) homes ≡ values_of (map home_value homes)
frames_are [] = refl
frames_are (home ∷ homes) = ap (λ (fs : List ℕ). home.frame ∷ fs) (frames_are homes)

module _ (left : Homes) (s : FlatState) (index : BTreeMap CodeTenant ℕ) (tenants : List CodeTenant) (is : IsIndex index left.homes) (are : tenants_of s ≡ map tenant_value tenants) where
  -- the homes that stay
  kept_are : (homes kept : List Home) (there : BTreeSet CodeTenant) → AreLeft left (map home_value homes) → IsSet there (map tenant_value tenants)
      → kept ≡ filter (λ home. is_some (get tenant_cmp index home.tenant) && contains tenant_cmp there home.tenant) homes
      → map home_value kept ≡ (without_left left s).homes
  kept_are homes kept there rest set e =
      ap (map home_value) e
      ∙ map_filter _ (λ home. is_some (home_frame left home.0) && has_tenant s home.0) home_value
      (λ home. ap (λ (o : Option ℕ). is_some o && contains tenant_cmp there home.tenant) (is home.tenant)
      ∙ ap (λ (b : Bool). is_some (home_frame left (tenant_value home.tenant)) && b) (set home.tenant ∙ ap (λ (ts : List Tenant). is_member same_tenant ts (tenant_value home.tenant)) (sym are))) homes
      ∙ filter_both (λ home. is_some (home_frame left home.0)) (λ home. has_tenant s home.0) (map home_value homes)
      ∙ ap (filter (λ home. has_tenant s home.0)) (sym rest)

  -- what is new
  new_are : (new : List CodeTenant) → new ≡ filter (λ tenant. not (is_some (get tenant_cmp index tenant))) tenants
      → map tenant_value new ≡ newcomers (without_left left s) s
  new_are new e =
      ap (map tenant_value) e
      ∙ map_filter _ (λ tenant. not (is_some (home_frame left tenant))) tenant_value (λ tenant. ap (λ (o : Option ℕ). not (is_some o)) (is tenant)) tenants
      ∙ ap (filter (λ tenant. not (is_some (home_frame left tenant)))) (sym are)
      ∙ filter_agree _ (λ tenant. not (is_some (home_frame (without_left left s) tenant))) (tenants_of s)
      (all_more (λ t. has_tenant s t ≡ true) _ (λ t e. ap (λ (o : Option ℕ). not (is_some o)) (
      ap (λ (b : Bool). cond b (home_frame left t) None) (sym e) ∙ sym (lookup_kept (has_tenant s) t left.homes))) (tenants_of s) (members_all (tenants_of s)))

  -- the frames that are free
  free_are : (kept : List Home) (taken : BTreeSet ℕ) (worn : List ℕ) (count : ℕ) → map home_value kept ≡ (without_left left s).homes → left.worn ≡ worn
      → ((frame : ℕ) → contains nat_cmp taken frame ≡ (is_member nat_eq (map (λ (home : Home). home.frame) kept) frame || is_member nat_eq worn frame))
      → s.limits.frames ≡ count
      → filter (λ frame. not (contains nat_cmp taken frame)) (range_with_len 0 count) ≡ free_frames s.limits.frames (without_left left s)
  free_are kept taken worn count stay e holds same =
      filter_agree _ (λ frame. not (is_home (without_left left s) frame) && not (is_worn (without_left left s) frame)) (range_with_len 0 count)
      (all_any _ (λ frame.
      ap not (holds frame
      ∙ ap (λ (fs : List ℕ). is_member nat_eq fs frame || is_member nat_eq worn frame) (frames_are kept ∙ ap values_of stay)
      ∙ ap (λ (fs : List ℕ). is_member nat_eq (values_of (without_left left s).homes) frame || is_member nat_eq fs frame) (sym e))
      ∙ not_either (is_home (without_left left s) frame) (is_worn (without_left left s) frame)) (range_with_len 0 count))
      ∙ ap (λ (n : ℕ). free_frames n (without_left left s)) (sym same)

  -- all together
  pub housed_are : (homes kept : List Home) (new : List CodeTenant) (there : BTreeSet CodeTenant) (taken : BTreeSet ℕ) (worn : List ℕ) (count : ℕ) (housed : List (Tenant × ℕ))
      → AreLeft left (map home_value homes) → left.worn ≡ worn → s.limits.frames ≡ count → IsSet there (map tenant_value tenants)
      → kept ≡ filter (λ home. is_some (get tenant_cmp index home.tenant) && contains tenant_cmp there home.tenant) homes
      → new ≡ filter (λ tenant. not (is_some (get tenant_cmp index tenant))) tenants
      → ((frame : ℕ) → contains nat_cmp taken frame ≡ (is_member nat_eq (map (λ (home : Home). home.frame) kept) frame || is_member nat_eq worn frame))
      → housed ≡ map home_value kept ++ zip (map tenant_value new) (filter (λ frame. not (contains nat_cmp taken frame)) (range_with_len 0 count))
      → housed ≡ (homes_in left s).homes
  housed_are homes kept new there taken worn count housed rest e same set stays comes holds all =
      let stay = kept_are homes kept there rest set stays in
      all
      ∙ ap (λ (es : List (Tenant × ℕ)). es ++ zip (map tenant_value new) (filter (λ frame. not (contains nat_cmp taken frame)) (range_with_len 0 count))) stay
      ∙ ap (λ (ts : List Tenant). (without_left left s).homes ++ zip ts (filter (λ frame. not (contains nat_cmp taken frame)) (range_with_len 0 count))) (new_are new comes)
      ∙ ap (λ (fs : List ℕ). (without_left left s).homes ++ zip (newcomers (without_left left s) s) fs) (free_are kept taken worn count stay e holds same)
