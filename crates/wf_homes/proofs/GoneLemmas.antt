-- A page of data that is gone gives its home up.
use Rattle.std.proofs.Common.{◌≡◌, ◌<◌, ◌+◌, ◌++◌, ℕ, List, [], ◌∷◌, true, false, not, Option, Some, None, length, refl, sym, subst, ◌∙◌, inl, inr, arith, nat_eq, append_assoc}
use Rattle.std.specs.Prelude.{IsSome}
use Rattle.std.specs.List.{AllByRecursion, IsDistinct, filter}
use Rattle.std.specs.Map.{keys_of, lookup, values_of}
use Rattle.std.proofs.lemmas.Cmp.{nat_eq_equiv}
use Rattle.wf_homes.specs.Homes.{AreSeparate, DataOf, Tenant, home_frame, same_tenant, without_page}
use Rattle.wf_homes.specs.Laws.{HomesAreGivenUp}
use Rattle.wf_homes.proofs.ListLemmas.{all_back, all_both, all_front, distinct_between, distinct_kept, keys_kept, true_or_false, values_all_kept, values_kept_front}
use Rattle.wf_homes.proofs.PlaceLemmas.{lookup_all}

-- the homes of others
abbrev others : Tenant → List (Tenant × ℕ) → List (Tenant × ℕ)
others t homes = filter (λ home. not (same_tenant t home.0)) homes

others_once : (t : Tenant) (homes : List (Tenant × ℕ)) → IsDistinct same_tenant (keys_of homes) → IsDistinct same_tenant (keys_of (others t homes))
others_once t homes once = rw (keys_kept (λ u. not (same_tenant t u)) homes) (distinct_kept same_tenant (λ u. not (same_tenant t u)) (keys_of homes) once)

-- the frame that is given up differs from those of others
others_apart : (t : Tenant) (homes : List (Tenant × ℕ)) (worn : List ℕ) (f : ℕ) → IsDistinct nat_eq (values_of homes ++ worn) → lookup (same_tenant t) homes ≡ Some f
    → IsDistinct nat_eq (values_of (others t homes) ++ f ∷ worn)
unfolding IsDistinct
others_apart t [] worn f d e = absurd cc
others_apart t (home ∷ homes) worn f d e = elim (true_or_false (same_tenant t home.0)) [
  | inl s ↦ (
      let k : Some home.1 ≡ Some f = (rw s at e) in
      let same : home.1 ≡ f = cc in
      let rest : List ℕ = values_of (others t homes) in
      let apart : AllByRecursion (λ y. nat_eq home.1 y ≡ false) (rest ++ worn) =
      all_both (λ y. nat_eq home.1 y ≡ false) rest worn (values_all_kept (λ other. not (same_tenant t other.0)) (λ y. nat_eq home.1 y ≡ false) homes (all_front (λ y. nat_eq home.1 y ≡ false) (values_of homes) worn d.0))
      (all_back (λ y. nat_eq home.1 y ≡ false) (values_of homes) worn d.0) in
      let all : IsDistinct nat_eq ((rest ++ f ∷ []) ++ worn) =
      distinct_between nat_eq nat_eq_equiv.symm rest (f ∷ []) worn (values_kept_front nat_eq (λ other. not (same_tenant t other.0)) homes worn d.1) (tt, tt) (rw (← same) apart, tt) in
      rw s (subst (IsDistinct nat_eq) (append_assoc rest (f ∷ []) worn) all)
      )
  | inr s ↦ (
      let k : lookup (same_tenant t) homes ≡ Some f = (rw s at e) in
      rw s (
        all_both (λ y. nat_eq home.1 y ≡ false) (values_of (others t homes)) (f ∷ worn)
            (values_all_kept (λ other. not (same_tenant t other.0)) (λ y. nat_eq home.1 y ≡ false) homes (all_front (λ y. nat_eq home.1 y ≡ false) (values_of homes) worn d.0))
            (lookup_all (λ y. nat_eq home.1 y ≡ false) t homes f (all_front (λ y. nat_eq home.1 y ≡ false) (values_of homes) worn d.0) k, all_back (λ y. nat_eq home.1 y ≡ false) (values_of homes) worn d.0),
        others_apart t homes worn f d.1 k,
      )
      )
]

pub given_up : HomesAreGivenUp
given_up homes s after page false separate there limits e = record {
  once = others_once (DataOf page) homes.homes separate.once;
  apart = values_kept_front nat_eq (λ home. not (same_tenant (DataOf page) home.0)) homes.homes homes.worn separate.apart;
  low = rw limits (all_both (λ k. k < s.limits.frames) (values_of (others (DataOf page) homes.homes)) homes.worn
      (values_all_kept (λ home. not (same_tenant (DataOf page) home.0)) (λ k. k < s.limits.frames) homes.homes (all_front (λ k. k < s.limits.frames) (values_of homes.homes) homes.worn separate.low))
      (all_back (λ k. k < s.limits.frames) (values_of homes.homes) homes.worn separate.low));
  counted = separate.counted ∙ sym e;
}
given_up homes s after page true separate there limits e = by_home (home_frame homes (DataOf page)) refl there
  where
    by_home : (o : Option ℕ) → home_frame homes (DataOf page) ≡ o → IsSome o → AreSeparate (without_page homes page true) after
    by_home None is some = absurd cc
    by_home (Some f) is some =
        let front : AllByRecursion (λ k. k < s.limits.frames) (values_of homes.homes) = all_front (λ k. k < s.limits.frames) (values_of homes.homes) homes.worn separate.low in
        rw is (record {
          once = others_once (DataOf page) homes.homes separate.once;
          apart = others_apart (DataOf page) homes.homes homes.worn f separate.apart is;
          low = rw limits (all_both (λ k. k < s.limits.frames) (values_of (others (DataOf page) homes.homes)) (f ∷ homes.worn)
              (values_all_kept (λ home. not (same_tenant (DataOf page) home.0)) (λ k. k < s.limits.frames) homes.homes front)
              (lookup_all (λ k. k < s.limits.frames) (DataOf page) homes.homes f front is, all_back (λ k. k < s.limits.frames) (values_of homes.homes) homes.worn separate.low));
          counted = (let c : length homes.worn ≡ s.worn = separate.counted in let d : after.worn ≡ s.worn + 1 = e in omega arith);
        })
