-- Homes after a call, a step at a time.
use Rattle.std.proofs.Common.{◌≡◌, ◌<◌, ◌≤◌, ◌+◌, ◌-◌, ◌++◌, ◌∷◌, if◌then◌else◌, ℕ, suc, [], List, Bool, true, false, not, Option, Some, None, cond, length, map, take, drop, drop-cons, get_or, reverse, refl, sym, ap, ◌∙◌, inl, inr, add-one, append_assoc, arith}
use Rattle.std.specs.BTreeMap.{BTreeMap, get, is_at}
use Rattle.std.specs.List.{cons_option, filter, fold, range_with_len, zip}
use Rattle.std.specs.Map.{lookup}
use Rattle.std.proofs.lemmas.List.{append-nil, map-append, reverse-append, take_more}
use Rattle.wf_homes.specs.Homes.{DataOf, Homes, Tenant, home_frame, same_tenant, without_page}
use Rattle.wf_homes.proofs.ListLemmas.{true_or_false}
use Rattle.wf_homes.proofs.TenantLemmas.{same_is}
use Rattle.wf_tables.specs.Values.{tenant_value}
use Rattle.wf_tables.specs.Index.{AreNoted, IsIndex, tenant_cmp}
use Rattle.wf_tables.specs.declared.homes.Tenant.{Tenant as CodeTenant}
use Rattle.wf_tables.specs.declared.homes.Tenant.TheVariants.{Data}
use Rattle.wf_tables.proofs.IndexLemmas.{same_at}

module _ {A : Type 0} (keeps : A → Bool) where
  -- one element more that is kept, and one that is not
  pub kept_more : (out new xs whole : List A) (i : ℕ) (d : A) → i < length xs → keeps (get_or xs i d) ≡ true → new ≡ out ++ get_or xs i d ∷ []
      → out ++ filter keeps (drop i xs) ≡ whole → new ++ filter keeps (drop (i + 1) xs) ≡ whole
  kept_more out new xs whole i d lt e is so =
      ap (λ (ys : List A). ys ++ filter keeps (drop (i + 1) xs)) is
      ∙ append_assoc out (get_or xs i d ∷ []) (filter keeps (drop (i + 1) xs))
      ∙ ap (λ (ys : List A). out ++ ys) (
      ap (λ (k : ℕ). get_or xs i d ∷ filter keeps (drop k xs)) (add-one i)
      ∙ ap (λ (b : Bool). cond b (get_or xs i d ∷ filter keeps (drop (suc i) xs)) (filter keeps (drop (suc i) xs))) (sym e)
      ∙ sym (ap (filter keeps) (drop-cons xs i d lt)))
      ∙ so

  pub kept_less : (out xs whole : List A) (i : ℕ) (d : A) → i < length xs → keeps (get_or xs i d) ≡ false
      → out ++ filter keeps (drop i xs) ≡ whole → out ++ filter keeps (drop (i + 1) xs) ≡ whole
  kept_less out xs whole i d lt e so =
      ap (λ (ys : List A). out ++ ys) (
      ap (λ (k : ℕ). filter keeps (drop k xs)) (add-one i)
      ∙ ap (λ (b : Bool). cond b (get_or xs i d ∷ filter keeps (drop (suc i) xs)) (filter keeps (drop (suc i) xs))) (sym e)
      ∙ sym (ap (filter keeps) (drop-cons xs i d lt)))
      ∙ so

-- one event more
fold_push : {A B : Type 0} (f : B → A → B) (b : B) (xs : List A) (x : A) → fold f b (xs ++ x ∷ []) ≡ f (fold f b xs) x
fold_push f b [] x = refl
fold_push f b (y ∷ xs) x = fold_push f (f b y) xs x

pub fold_more : {A B C : Type 0} (f : B → C → B) (g : A → C) (b : B) (xs : List A) (i : ℕ) (d : A) → i < length xs
    → f (fold f b (map g (take i xs))) (g (get_or xs i d)) ≡ fold f b (map g (take (i + 1) xs))
fold_more f g b xs i d lt =
    sym (ap (λ (ys : List _). fold f b (map g ys)) (take_more xs i d lt)
    ∙ ap (fold f b) (map-append g (take i xs) (get_or xs i d ∷ []))
    ∙ fold_push f b (map g (take i xs)) (g (get_or xs i d)))

none_either : {X : Type 0} (b : Bool) (o : Option X) → o ≡ cond b o o
none_either true o = refl
none_either false o = refl

-- a look-up among the homes of tenants that are kept
pub lookup_kept : {X : Type 0} (keeps : Tenant → Bool) (q : Tenant) (es : List (Tenant × X))
    → lookup (same_tenant q) (filter (λ e. keeps e.0) es) ≡ cond (keeps q) (lookup (same_tenant q) es) None
lookup_kept keeps q [] = none_either (keeps q) None
lookup_kept keeps q (e ∷ es) = elim (true_or_false (same_tenant q e.0)) [
  | inl s ↦ (
      let same : keeps q ≡ keeps e.0 = ap keeps ((same_is q e.0).0 s) in
      elim (true_or_false (keeps e.0)) [
        | inl k ↦ (rw (same, k, s) refl)
        | inr k ↦ (rw k (lookup_kept keeps q es ∙ rw (same, k) refl))
      ])
  | inr s ↦ (elim (true_or_false (keeps e.0)) [
    | inl k ↦ (rw (k, s) (lookup_kept keeps q es))
    | inr k ↦ (rw (k, s) (lookup_kept keeps q es))
  ])
]

not_cond : {X : Type 0} (b : Bool) (o : Option X) → cond b None o ≡ cond (not b) o None
not_cond true o = refl
not_cond false o = refl

worn_less : (index new : BTreeMap CodeTenant ℕ) (page : ℕ) (homes : Homes) (worn : Bool) → IsIndex index homes.homes
    → ((q : CodeTenant) → get tenant_cmp new q ≡ cond (is_at (tenant_cmp (Data page)) q) None (get tenant_cmp index q))
    → IsIndex new (without_page homes page worn).homes
worn_less index new page homes worn is updates = λ q.
    updates q
    ∙ ap (λ (b : Bool). cond b None (get tenant_cmp index q)) (same_at (Data page) q)
    ∙ ap (λ (o : Option ℕ). cond (same_tenant (DataOf page) (tenant_value q)) None o) (is q)
    ∙ not_cond (same_tenant (DataOf page) (tenant_value q)) (lookup (same_tenant (tenant_value q)) homes.homes)
    ∙ sym (lookup_kept (λ t. not (same_tenant (DataOf page) t)) (tenant_value q) homes.homes)

reverse_push : (xs : List ℕ) (x : ℕ) (before : List ℕ) → x ∷ (reverse xs ++ before) ≡ reverse (xs ++ x ∷ []) ++ before
reverse_push xs x before = ap (λ (ys : List ℕ). ys ++ before) (sym (reverse-append xs (x ∷ [])))

-- a page is gone, and its frame is worn
pub gone_worn : (index left : BTreeMap CodeTenant ℕ) (new more before : List ℕ) (page frame : ℕ) (homes : Homes) (worn : Bool) → AreNoted index new before homes
    → ((q : CodeTenant) → get tenant_cmp left q ≡ cond (is_at (tenant_cmp (Data page)) q) None (get tenant_cmp index q))
    → get tenant_cmp index (Data page) ≡ Some frame → worn ≡ true → more ≡ new ++ frame ∷ []
    → AreNoted left more before (without_page homes page worn)
gone_worn index left new more before page frame homes worn noted updates there e is = record {
  index = worn_less index left page homes worn noted.index updates;
  worn =
      ap (λ (b : Bool). if b then cons_option (home_frame homes (DataOf page)) homes.worn else homes.worn) e
      ∙ ap (λ (o : Option ℕ). cons_option o homes.worn) (sym (noted.index (Data page)) ∙ there)
      ∙ ap (λ (xs : List ℕ). frame ∷ xs) noted.worn
      ∙ reverse_push new frame before
      ∙ ap (λ (xs : List ℕ). reverse xs ++ before) (sym is);
}

-- and is not worn
pub gone_whole : (index left : BTreeMap CodeTenant ℕ) (new before : List ℕ) (page : ℕ) (homes : Homes) (worn : Bool) → AreNoted index new before homes
    → ((q : CodeTenant) → get tenant_cmp left q ≡ cond (is_at (tenant_cmp (Data page)) q) None (get tenant_cmp index q))
    → worn ≡ false → AreNoted left new before (without_page homes page worn)
gone_whole index left new before page homes worn noted updates e = record {
  index = worn_less index left page homes worn noted.index updates;
  worn = ap (λ (b : Bool). if b then cons_option (home_frame homes (DataOf page)) homes.worn else homes.worn) e ∙ noted.worn;
}

if_either : {X : Type 0} (b : Bool) (x : X) → (if b then x else x) ≡ x
if_either true x = refl
if_either false x = refl

-- a page is gone that had no home
pub gone_none : (index left : BTreeMap CodeTenant ℕ) (new before : List ℕ) (page : ℕ) (homes : Homes) (worn : Bool) → AreNoted index new before homes
    → ((q : CodeTenant) → get tenant_cmp left q ≡ cond (is_at (tenant_cmp (Data page)) q) None (get tenant_cmp index q))
    → get tenant_cmp index (Data page) ≡ None → AreNoted left new before (without_page homes page worn)
gone_none index left new before page homes worn noted updates none = record {
  index = worn_less index left page homes worn noted.index updates;
  worn =
      ap (λ (o : Option ℕ). if worn then cons_option o homes.worn else homes.worn) (sym (noted.index (Data page)) ∙ none)
      ∙ if_either worn homes.worn
      ∙ noted.worn;
}

range_step : (k count : ℕ) → k < count → range_with_len k (count - k) ≡ k ∷ range_with_len (k + 1) (count - (k + 1))
range_step k count lt = let e : count - k ≡ suc (count - (k + 1)) = omega arith in ap (λ (n : ℕ). range_with_len k n) e

module _ (free : ℕ → Bool) where
  free_yes : (k count : ℕ) → k < count → free k ≡ true → filter free (range_with_len k (count - k)) ≡ k ∷ filter free (range_with_len (k + 1) (count - (k + 1)))
  free_yes k count lt e =
      ap (filter free) (range_step k count lt)
      ∙ ap (λ (b : Bool). cond b (k ∷ filter free (range_with_len (k + 1) (count - (k + 1)))) (filter free (range_with_len (k + 1) (count - (k + 1))))) e

  free_no : (k count : ℕ) → k < count → free k ≡ false → filter free (range_with_len k (count - k)) ≡ filter free (range_with_len (k + 1) (count - (k + 1)))
  free_no k count lt e =
      ap (filter free) (range_step k count lt)
      ∙ ap (λ (b : Bool). cond b (k ∷ filter free (range_with_len (k + 1) (count - (k + 1)))) (filter free (range_with_len (k + 1) (count - (k + 1))))) e

  -- a free frame is the home of what is next, and one that is not free is of none
  pub settle_more : (before after whole : List (Tenant × ℕ)) (new : List CodeTenant) (at k count : ℕ) (d : CodeTenant) → k < count → at < length new → free k ≡ true
      → after ≡ before ++ (tenant_value (get_or new at d), k) ∷ []
      → before ++ zip (map tenant_value (drop at new)) (filter free (range_with_len k (count - k))) ≡ whole
      → after ++ zip (map tenant_value (drop (at + 1) new)) (filter free (range_with_len (k + 1) (count - (k + 1)))) ≡ whole
  settle_more before after whole new at k count d lt within e is so =
      let rest : List (Tenant × ℕ) = zip (map tenant_value (drop (at + 1) new)) (filter free (range_with_len (k + 1) (count - (k + 1)))) in
      ap (λ (es : List (Tenant × ℕ)). es ++ rest) is
      ∙ append_assoc before ((tenant_value (get_or new at d), k) ∷ []) rest
      ∙ ap (λ (n : ℕ). before ++ (tenant_value (get_or new at d), k) ∷ zip (map tenant_value (drop n new)) (filter free (range_with_len (k + 1) (count - (k + 1))))) (add-one at)
      ∙ ap (λ (ts : List CodeTenant). before ++ zip (map tenant_value ts) (k ∷ filter free (range_with_len (k + 1) (count - (k + 1))))) (sym (drop-cons new at d within))
      ∙ ap (λ (fs : List ℕ). before ++ zip (map tenant_value (drop at new)) fs) (sym (free_yes k count lt e))
      ∙ so

  pub settle_less : (before whole : List (Tenant × ℕ)) (ts : List Tenant) (k count : ℕ) → k < count → free k ≡ false
      → before ++ zip ts (filter free (range_with_len k (count - k))) ≡ whole
      → before ++ zip ts (filter free (range_with_len (k + 1) (count - (k + 1)))) ≡ whole
  settle_less before whole ts k count lt e so = ap (λ (fs : List ℕ). before ++ zip ts fs) (sym (free_no k count lt e)) ∙ so

  zip_none : (ts : List Tenant) → zip {K = Tenant} {X = ℕ} ts [] ≡ []
  zip_none [] = refl
  zip_none (t ∷ ts) = refl

  -- no frame is left
  pub settle_end : (before whole : List (Tenant × ℕ)) (ts : List Tenant) (k count : ℕ) → count ≤ k
      → before ++ zip ts (filter free (range_with_len k (count - k))) ≡ whole → before ≡ whole
  settle_end before whole ts k count le so =
      let none : count - k ≡ 0 = omega arith in
      sym (append-nil before)
      ∙ ap (λ (es : List (Tenant × ℕ)). before ++ es) (sym (zip_none ts))
      ∙ ap (λ (n : ℕ). before ++ zip ts (filter free (range_with_len k n))) (sym none)
      ∙ so
