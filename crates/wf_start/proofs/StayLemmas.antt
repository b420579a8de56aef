-- Homes stay where whatever is there has one, and nothing else has.
use Rattle.std.proofs.Common.{◌≡◌, ◌++◌, ℕ, List, [], ◌∷◌, Bool, true, false, not, refl, sym, ap, ◌∙◌, is_some}
use Rattle.std.specs.List.{AllByRecursion, filter, zip}
use Rattle.std.specs.Map.{keys_of}
use Rattle.std.specs.Set.{is_member}
use Rattle.std.proofs.lemmas.List.{append-nil}
use Rattle.std.proofs.lemmas.List.Elements.{recursion_from_All}
use Rattle.std.proofs.lemmas.Map.Made.{All-is_member, is_some-lookup}
use Rattle.wf_flat.specs.State.{FlatState}
use Rattle.wf_homes.specs.Homes.{AreHomes, Homes, Tenant, free_frames, has_tenant, home_frame, homes_in, newcomers, same_tenant, tenants_of, with_new, without_left}
use Rattle.wf_start.specs.Staying.{HomesStay}
use Rattle.wf_homes.proofs.ListLemmas.{all_more, map_all}
use Rattle.wf_homes.proofs.TenantLemmas.{same_tenant_laws}

pub all_stay : {A : Type 0} (keeps : A → Bool) (xs : List A) → AllByRecursion (λ x. keeps x ≡ true) xs → filter keeps xs ≡ xs
all_stay keeps [] all = refl
all_stay {A = A} keeps (x ∷ xs) all = rw all.0 (ap (λ (ys : List A). x ∷ ys) (all_stay keeps xs all.1))

pub none_stays : {A : Type 0} (keeps : A → Bool) (xs : List A) → AllByRecursion (λ x. keeps x ≡ false) xs → filter keeps xs ≡ []
none_stays keeps [] all = refl
none_stays keeps (x ∷ xs) all = rw all.0 (none_stays keeps xs all.1)

module _ (homes : Homes) (s : FlatState) (are : AreHomes homes s) where
  abbrev keys : List Tenant
  keys = keys_of homes.homes

  there : AllByRecursion (λ t. has_tenant s t ≡ true) keys
  there =
      all_more (λ t. is_member same_tenant keys t ≡ true) (λ t. has_tenant s t ≡ true) (λ t e. sym (are.each t) ∙ is_some-lookup (same_tenant t) homes.homes ∙ e) keys
      (recursion_from_All (λ t. is_member same_tenant keys t ≡ true) keys (All-is_member same_tenant_laws keys))

  none_left : without_left homes s ≡ homes
  none_left =
      ap (λ (hs : List (Tenant × ℕ)). let some : Homes = record homes { homes = hs } in some)
      (all_stay (λ (home : Tenant × ℕ). has_tenant s home.0) homes.homes (map_all (λ (home : Tenant × ℕ). has_tenant s home.0 ≡ true) (λ t. has_tenant s t ≡ true) (λ (home : Tenant × ℕ). home.0) (λ home e. e) homes.homes there))

  none_new : newcomers homes s ≡ []
  none_new = none_stays (λ t. not (is_some (home_frame homes t))) (tenants_of s)
      (all_more (λ t. has_tenant s t ≡ true) (λ t. not (is_some (home_frame homes t)) ≡ false) (λ t e. (let y : is_some (home_frame homes t) ≡ true = are.each t ∙ e in rw y refl)) (tenants_of s)
      (recursion_from_All (λ t. has_tenant s t ≡ true) (tenants_of s) (All-is_member same_tenant_laws (tenants_of s))))

  none_made : with_new homes s ≡ homes
  none_made =
      ap (λ (ts : List Tenant). let some : Homes = record homes { homes = homes.homes ++ zip ts (free_frames s.limits.frames homes) } in some) none_new
      ∙ ap (λ (hs : List (Tenant × ℕ)). let some : Homes = record homes { homes = hs } in some) (append-nil homes.homes)

  pub kept : homes_in homes s ≡ homes
  kept = ap (λ (h : Homes). with_new h s) none_left ∙ none_made

pub homes_kept : HomesStay
homes_kept homes s are = kept homes s are
