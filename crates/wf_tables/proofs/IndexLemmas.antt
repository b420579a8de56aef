-- An index of homes, and a set of tenants, a step at a time.
use Rattle.std.proofs.Common.{◌≡◌, ◌<◌, ◌+◌, ◌++◌, ◌∷◌, ◌&&◌, ◌==◌, ℕ, [], List, Bool, true, false, Option, Some, None, cond, is_some, length, map, take, get_or, refl, sym, ap, ◌∙◌, inl, inr, arith}
use Rattle.std.specs.BTreeMap.{BTreeMap, get, is_at}
use Rattle.std.specs.Map.{lookup}
use Rattle.std.specs.Option.{option_or}
use Rattle.std.specs.Ordering.{is_eq, nat_cmp, ordering_then}
use Rattle.std.proofs.lemmas.List.{take_more, map-append}
use Rattle.std.proofs.lemmas.Bool.{cases_order}
use Rattle.std.proofs.lemmas.Bool.Decides.{nat_tests}
use Rattle.std.specs.declared.cmp.Ordering.{Ordering}
use Rattle.std.specs.declared.cmp.Ordering.TheVariants.{Less, Equal, Greater}
use Rattle.wf_homes.specs.Homes.{Tenant, same_tenant}
use Rattle.wf_homes.proofs.ListLemmas.{true_or_false}
use Rattle.wf_homes.proofs.TenantLemmas.{same_is, same_tenant_laws}
use Rattle.wf_tables.specs.Values.{tenant_value}
use Rattle.wf_tables.specs.Index.{IsIndex, tenant_cmp}
use Rattle.wf_tables.specs.declared.homes.Tenant.{Tenant as CodeTenant}
use Rattle.wf_tables.specs.declared.homes.Tenant.TheVariants.{Data, Node, Text}

number_at : (a b : ℕ) → is_eq (nat_cmp a b) ≡ (a == b)
number_at a b = elim (cases_order a b) [
  | inl e ↦ grind (arith, nat_tests)
  | inr o ↦ (elim o [
    | inl lt ↦ grind (arith, nat_tests)
    | inr gt ↦ grind (arith, nat_tests)
  ])
]

both_at : (o p : Ordering) → is_eq (ordering_then o p) ≡ (is_eq o && is_eq p)
both_at Less p = refl
both_at Equal p = refl
both_at Greater p = refl

two_at : (a b c d : ℕ) → is_eq (ordering_then (nat_cmp a b) (nat_cmp c d)) ≡ ((a == b) && (c == d))
two_at a b c d =
    both_at (nat_cmp a b) (nat_cmp c d)
    ∙ ap (λ (t : Bool). t && is_eq (nat_cmp c d)) (number_at a b) ∙ ap (λ (t : Bool). (a == b) && t) (number_at c d)

and_assoc : (a b c : Bool) → (a && (b && c)) ≡ ((a && b) && c)
and_assoc true b c = refl
and_assoc false b c = refl

-- the order tells tenants apart
pub same_at : (a b : CodeTenant) → is_at (tenant_cmp a) b ≡ same_tenant (tenant_value a) (tenant_value b)
same_at (Text g page) (Text h other) = two_at g h page other
same_at (Text g page) (Data other) = refl
same_at (Text g page) (Node h level prefix) = refl
same_at (Data page) (Text h other) = refl
same_at (Data page) (Data other) = number_at page other
same_at (Data page) (Node h level prefix) = refl
same_at (Node g level prefix) (Text h other) = refl
same_at (Node g level prefix) (Data other) = refl
same_at (Node g level prefix) (Node h other below) =
    both_at (nat_cmp g h) (ordering_then (nat_cmp level other) (nat_cmp prefix below))
    ∙ ap (λ (t : Bool). t && is_eq (ordering_then (nat_cmp level other) (nat_cmp prefix below))) (number_at g h)
    ∙ ap (λ (t : Bool). (g == h) && t) (two_at level other prefix below)
    ∙ and_assoc (g == h) (level == other) (prefix == below)

-- one element more
pub map_more : {A B : Type 0} (f : A → B) (xs : List A) (i : ℕ) (d : A) → i < length xs → map f (take i xs) ++ f (get_or xs i d) ∷ [] ≡ map f (take (i + 1) xs)
map_more f xs i d lt = sym (ap (map f) (take_more xs i d lt) ∙ map-append f (take i xs) (get_or xs i d ∷ []))

-- a look-up in homes with one more behind them
pub lookup_push : (q t : Tenant) (frame : ℕ) (homes : List (Tenant × ℕ))
    → lookup (same_tenant q) (homes ++ (t, frame) ∷ []) ≡ option_or (lookup (same_tenant q) homes) (cond (same_tenant q t) (Some frame) None)
lookup_push q t frame [] = refl
lookup_push q t frame (home ∷ homes) = elim (true_or_false (same_tenant q home.0)) [
  | inl e ↦ (rw e refl)
  | inr e ↦ (rw e (lookup_push q t frame homes))
]

-- the same tenants have the same homes
pub lookup_same : {X : Type 0} (a b : Tenant) (homes : List (Tenant × X)) → same_tenant a b ≡ true → lookup (same_tenant a) homes ≡ lookup (same_tenant b) homes
lookup_same a b homes e = ap (λ (t : Tenant). lookup (same_tenant t) homes) ((same_is a b).0 e)

push_first : (b : Bool) (frame : ℕ) (o : Option ℕ) → (b ≡ true → o ≡ None) → cond b (Some frame) o ≡ option_or o (cond b (Some frame) None)
push_first true frame o none = ap (λ (p : Option ℕ). option_or p (Some frame)) (sym (none refl))
push_first false frame None none = refl
push_first false frame (Some f) none = refl

-- a home behind the others, of a tenant that had none
pub index_first : (old new : BTreeMap CodeTenant ℕ) (t : CodeTenant) (frame : ℕ) (homes : List (Tenant × ℕ)) → IsIndex old homes → get tenant_cmp old t ≡ None
    → ((q : CodeTenant) → get tenant_cmp new q ≡ cond (is_at (tenant_cmp t) q) (Some frame) (get tenant_cmp old q))
    → IsIndex new (homes ++ (tenant_value t, frame) ∷ [])
index_first old new t frame homes is none puts = λ q.
    let flip : is_at (tenant_cmp t) q ≡ same_tenant (tenant_value q) (tenant_value t) = same_at t q ∙ same_tenant_laws.symm (tenant_value t) (tenant_value q) in
    puts q
    ∙ ap (λ (b : Bool). cond b (Some frame) (get tenant_cmp old q)) flip
    ∙ push_first (same_tenant (tenant_value q) (tenant_value t)) frame (get tenant_cmp old q)
    (λ e. is q ∙ lookup_same (tenant_value q) (tenant_value t) homes e ∙ sym (is t) ∙ none)
    ∙ ap (λ (o : Option ℕ). option_or o (cond (same_tenant (tenant_value q) (tenant_value t)) (Some frame) None)) (is q)
    ∙ sym (lookup_push (tenant_value q) (tenant_value t) frame homes)

push_again : (b : Bool) (frame : ℕ) (o : Option ℕ) → (b ≡ true → is_some o ≡ true) → o ≡ option_or o (cond b (Some frame) None)
push_again true frame None some = absurd (let e : false ≡ true = some refl in cc)
push_again true frame (Some f) some = refl
push_again false frame None some = refl
push_again false frame (Some f) some = refl

-- and of one that has a home
pub index_again : (index : BTreeMap CodeTenant ℕ) (t : CodeTenant) (frame : ℕ) (homes : List (Tenant × ℕ)) → IsIndex index homes → is_some (get tenant_cmp index t) ≡ true
    → IsIndex index (homes ++ (tenant_value t, frame) ∷ [])
index_again index t frame homes is some = λ q.
    is q
    ∙ push_again (same_tenant (tenant_value q) (tenant_value t)) frame (lookup (same_tenant (tenant_value q)) homes)
    (λ e. ap is_some (lookup_same (tenant_value q) (tenant_value t) homes e ∙ sym (is t)) ∙ some)
    ∙ sym (lookup_push (tenant_value q) (tenant_value t) frame homes)

-- what is not there
pub none_of : {X : Type 0} (o : Option X) → is_some o ≡ false → o ≡ None
none_of None e = refl
none_of (Some x) e = absurd cc
