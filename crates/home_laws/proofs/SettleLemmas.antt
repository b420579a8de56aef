-- Homes that were made for a state are settled in it.
use Rattle.std.proofs.Common.{◌≡◌, ◌<◌, ◌≤◌, ◌+◌, ◌&&◌, ◌||◌, ◌++◌, ℕ, zero, suc, List, [], ◌∷◌, Bool, true, false, not, length, refl, ap, ◌∙◌, inl, inr, arith, nat_eq, is_some, append-nil}
use Rattle.std.specs.List.{AllByRecursion, filter, list_any, range_with_len, zip}
use Rattle.std.specs.Map.{keys_of, values_of}
use Rattle.std.specs.Set.{is_member}
use Rattle.std.proofs.lemmas.Bool.{cases_order}
use Rattle.std.proofs.lemmas.Bool.Decides.{nat_tests}
use Rattle.std.proofs.lemmas.Cmp.{nat_eq_equiv}
use Rattle.std.proofs.lemmas.List.{map-append}
use Rattle.std.proofs.lemmas.List.Elements.{recursion_from_All}
use Rattle.std.proofs.lemmas.Map.Made.{All-is_member, is_member-filter, is_some-lookup}
use Rattle.wf_flat.specs.State.{FlatState}
use Rattle.wf_homes.specs.Homes.{Homes, Tenant, free_frames, has_tenant, home_frame, homes_in, is_home, is_worn, newcomers, same_tenant, tenants_of, without_left}
use Rattle.wf_homes.proofs.ListLemmas.{all_both, all_kept, all_more, any_both, keys_zipped, true_or_false}
use Rattle.wf_homes.proofs.TenantLemmas.{same_tenant_laws, same_test}
use Rattle.home_laws.specs.Laws.{HomesSettle}

module _ {A : Type 0} where
  -- all are kept, or none is
  all_stay : (keeps : A → Bool) (xs : List A) → AllByRecursion (λ x. keeps x ≡ true) xs → filter keeps xs ≡ xs
  all_stay keeps [] all = refl
  all_stay keeps (x ∷ xs) all = rw all.0 (ap (λ (ys : List A). x ∷ ys) (all_stay keeps xs all.1))

  none_stays : (keeps : A → Bool) (xs : List A) → AllByRecursion (λ x. keeps x ≡ false) xs → filter keeps xs ≡ []
  none_stays keeps [] all = refl
  none_stays keeps (x ∷ xs) all = rw all.0 (none_stays keeps xs all.1)

  -- what holds whatever an element is
  each_holds : (P : A → Type 0) → ((x : A) → P x) → (xs : List A) → AllByRecursion P xs
  each_holds P holds [] = tt
  each_holds P holds (x ∷ xs) = (holds x, each_holds P holds xs)

module _ {K X : Type 0} where
  -- what holds of keys holds of them in pairs
  zipped_all : (P : K → Type 0) (ks : List K) (vs : List X) → AllByRecursion P ks → AllByRecursion (λ (e : K × X). P e.0) (zip ks vs)
  zipped_all P [] vs all = tt
  zipped_all P (k ∷ ks) [] all = tt
  zipped_all P (k ∷ ks) (v ∷ vs) all = (all.0, zipped_all P ks vs all.1)

  -- where there are as many keys, each value has one
  values_all : (ks : List K) (vs : List X) → length vs ≤ length ks → values_of (zip ks vs) ≡ vs
  values_all [] [] le = refl
  values_all [] (v ∷ vs) le = absurd (omega arith)
  values_all (k ∷ ks) [] le = refl
  values_all (k ∷ ks) (v ∷ vs) le = ap (λ (us : List X). v ∷ us) (values_all ks vs (omega arith))

  none_zipped : (ks : List K) (vs : List X) → vs ≡ [] → zip ks vs ≡ []
  none_zipped [] vs e = refl
  none_zipped (k ∷ ks) vs e = rw e refl

or_there : (m h : Bool) → h ≡ true → (m || (h && not m)) ≡ true
or_there true h e = refl
or_there false h e = rw e refl

-- a frame that is free is none where it is a home too
not_free : (h w : Bool) → (not (h || (not h && not w)) && not w) ≡ false
not_free true true = refl
not_free true false = refl
not_free false true = refl
not_free false false = refl

range_member : (a n k : ℕ) → a ≤ k → k < a + n → is_member nat_eq (range_with_len a n) k ≡ true
range_member a zero k le lt = absurd (omega arith)
range_member a (suc n) k le lt = elim (true_or_false (nat_eq k a)) [
  | inl t ↦ (rw t refl)
  | inr t ↦ (rw t (range_member (a + 1) n k (grind (arith, nat_tests)) (omega arith)))
]

range_each : (a n : ℕ) → AllByRecursion (λ k. (a ≤ k) × (k < a + n)) (range_with_len a n)
range_each a zero = tt
range_each a (suc n) = (((omega arith), (omega arith)), all_more (λ k. (a + 1 ≤ k) × (k < a + 1 + n)) (λ k. (a ≤ k) × (k < a + suc n)) (λ k b. (let lo = b.0 in let hi = b.1 in ((omega arith), (omega arith)))) (range_with_len (a + 1) n) (range_each (a + 1) n))

respects : (p : ℕ → Bool) (k n : ℕ) → nat_eq k n ≡ true → p k ≡ p n
respects p k n e = let same : k ≡ n = grind (arith, nat_tests) in ap p same

module _ (homes : Homes) (s : FlatState) where
  abbrev kept : Homes
  kept = without_left homes s

  abbrev there : List Tenant
  there = keys_of kept.homes

  abbrev added : List Tenant
  added = newcomers kept s

  abbrev free : List ℕ
  free = free_frames s.limits.frames kept

  abbrev made : Homes
  made = homes_in homes s

  tenants_are : AllByRecursion (λ t. has_tenant s t ≡ true) (tenants_of s)
  tenants_are = recursion_from_All (λ t. has_tenant s t ≡ true) (tenants_of s) (All-is_member same_tenant_laws (tenants_of s))

  -- nothing that has a home leaves
  kept_are : AllByRecursion (λ (home : Tenant × ℕ). has_tenant s home.0 ≡ true) kept.homes
  kept_are = all_kept (λ (home : Tenant × ℕ). has_tenant s home.0) (λ home. Unit {0}) (λ home. has_tenant s home.0 ≡ true) (λ home e u. e) homes.homes (each_holds (λ home. Unit {0}) (λ home. tt) homes.homes)

  added_are : AllByRecursion (λ t. has_tenant s t ≡ true) added
  added_are = all_kept (λ t. not (is_some (home_frame kept t))) (λ t. has_tenant s t ≡ true) (λ t. has_tenant s t ≡ true) (λ t e h. h) (tenants_of s) tenants_are

  pub none_leaves : (without_left made s).homes ≡ made.homes
  none_leaves = all_stay (λ (home : Tenant × ℕ). has_tenant s home.0) made.homes (all_both (λ (home : Tenant × ℕ). has_tenant s home.0 ≡ true) kept.homes (zip added free) kept_are (zipped_all (λ t. has_tenant s t ≡ true) added free added_are))

  -- where frames suffice, none is new
  added_members : (t : Tenant) → is_member same_tenant added t ≡ (has_tenant s t && not (is_member same_tenant there t))
  added_members t =
      is_member-filter same_tenant_laws (λ u. not (is_some (home_frame kept u))) t (λ u e. same_test (λ w. not (is_some (home_frame kept w))) t u e) (tenants_of s)
      ∙ ap (λ (b : Bool). has_tenant s t && not b) (is_some-lookup (same_tenant t) kept.homes)

  module _ (le : length added ≤ length free) where
    keys_are : keys_of made.homes ≡ there ++ added
    keys_are = map-append (λ (home : Tenant × ℕ). home.0) kept.homes (zip added free) ∙ ap (λ (ts : List Tenant). there ++ ts) (keys_zipped added free le)

    has_home : (t : Tenant) → has_tenant s t ≡ true → not (is_some (home_frame made t)) ≡ false
    has_home t e =
        ap not (is_some-lookup (same_tenant t) made.homes
        ∙ ap (list_any (same_tenant t)) keys_are
        ∙ any_both (same_tenant t) there added
        ∙ ap (λ (b : Bool). is_member same_tenant there t || b) (added_members t)
        ∙ or_there (is_member same_tenant there t) (has_tenant s t) e)

    none_new : newcomers made s ≡ []
    none_new = none_stays (λ t. not (is_some (home_frame made t))) (tenants_of s) (all_more (λ t. has_tenant s t ≡ true) (λ t. not (is_some (home_frame made t)) ≡ false) has_home (tenants_of s) tenants_are)

  -- where they don't, none is free
  module _ (le : length free ≤ length added) where
    frames_are : values_of made.homes ≡ values_of kept.homes ++ free
    frames_are = map-append (λ (home : Tenant × ℕ). home.1) kept.homes (zip added free) ∙ ap (λ (fs : List ℕ). values_of kept.homes ++ fs) (values_all added free le)

    is_taken : (k : ℕ) → is_member nat_eq (range_with_len 0 s.limits.frames) k ≡ true → (not (is_home made k) && not (is_worn made k)) ≡ false
    is_taken k e =
        let member : is_member nat_eq free k ≡ (not (is_home kept k) && not (is_worn kept k)) =
        is_member-filter nat_eq_equiv (λ frame. not (is_home kept frame) && not (is_worn kept frame)) k (λ n same. respects (λ frame. not (is_home kept frame) && not (is_worn kept frame)) k n same) (range_with_len 0 s.limits.frames)
        ∙ ap (λ (b : Bool). b && (not (is_home kept k) && not (is_worn kept k))) e in
        let home : is_home made k ≡ (is_home kept k || (not (is_home kept k) && not (is_worn kept k))) =
        ap (λ (fs : List ℕ). is_member nat_eq fs k) frames_are ∙ any_both (nat_eq k) (values_of kept.homes) free ∙ ap (λ (b : Bool). is_home kept k || b) member in
        ap (λ (b : Bool). not b && not (is_worn kept k)) home ∙ not_free (is_home kept k) (is_worn kept k)

    none_free : free_frames s.limits.frames made ≡ []
    none_free = none_stays (λ frame. not (is_home made frame) && not (is_worn made frame)) (range_with_len 0 s.limits.frames)
        (all_more (λ k. (0 ≤ k) × (k < 0 + s.limits.frames)) (λ k. (not (is_home made k) && not (is_worn made k)) ≡ false) (λ k b. is_taken k (range_member 0 s.limits.frames k b.0 b.1)) (range_with_len 0 s.limits.frames) (range_each 0 s.limits.frames))

  none_given : zip (newcomers made s) (free_frames s.limits.frames made) ≡ []
  none_given = elim (cases_order (length added) (length free)) [
    | inl e ↦ ap (λ (ts : List Tenant). zip ts (free_frames s.limits.frames made)) (none_new (omega arith))
    | inr o ↦ elim o [
      | inl lt ↦ ap (λ (ts : List Tenant). zip ts (free_frames s.limits.frames made)) (none_new (omega arith))
      | inr gt ↦ none_zipped (newcomers made s) (free_frames s.limits.frames made) (none_free (omega arith))
    ]
  ]

pub settled : HomesSettle
settled homes s =
    let stays : without_left (homes_in homes s) s ≡ homes_in homes s = ap (λ (hs : List (Tenant × ℕ)). (let h : Homes = record { homes = hs; worn = homes.worn } in h)) (none_leaves homes s) in
    ap (λ (h : Homes). (let g : Homes = record { homes = h.homes ++ zip (newcomers h s) (free_frames s.limits.frames h); worn = h.worn } in g)) stays
    ∙ ap (λ (hs : List (Tenant × ℕ)). (let h : Homes = record { homes = (homes_in homes s).homes ++ hs; worn = homes.worn } in h)) (none_given homes s)
    ∙ ap (λ (hs : List (Tenant × ℕ)). (let h : Homes = record { homes = hs; worn = homes.worn } in h)) (append-nil (homes_in homes s).homes)
