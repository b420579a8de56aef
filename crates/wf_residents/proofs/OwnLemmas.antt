-- Homes by their frames, where some give theirs up.
use Rattle.std.proofs.Common.{◌≡◌, ◌||◌, ◌++◌, ℕ, List, [], ◌∷◌, Bool, true, false, Some, refl, sym, ap, subst, ◌∙◌, inl, inr, arith, nat_eq}
use Rattle.std.specs.List.{AllByRecursion, IsDistinct, filter}
use Rattle.std.specs.Map.{keys_of, lookup, values_of}
use Rattle.std.specs.Set.{is_member}
use Rattle.std.proofs.lemmas.Bool.Decides.{nat_tests}
use Rattle.wf_flat.specs.State.{FlatState}
use Rattle.wf_homes.specs.Homes.{AreSeparate, Homes, Tenant, home_frame, same_tenant}
use Rattle.wf_homes.proofs.ListLemmas.{all_back, none_any, true_or_false, values_all_kept}
use Rattle.wf_homes.proofs.PlaceLemmas.{homes_apart}
use Rattle.wf_homes.proofs.TenantLemmas.{same_is, same_tenant_laws}

or_right : (a b : Bool) → b ≡ true → (a || b) ≡ true
or_right true b e = refl
or_right false b e = e

pub equal_test : (a b : ℕ) → a ≡ b → nat_eq a b ≡ true
equal_test a b e = grind (arith, nat_tests)

-- the frame that a look-up finds is among the frames
pub found_member : (t : Tenant) (homes : List (Tenant × ℕ)) (f : ℕ) → lookup (same_tenant t) homes ≡ Some f → is_member nat_eq (values_of homes) f ≡ true
found_member t [] f e = absurd cc
found_member t (home ∷ homes) f e = elim (true_or_false (same_tenant t home.0)) [
  | inl s ↦ (
      let k : Some home.1 ≡ Some f = (rw s at e) in
      let m : home.1 ≡ f = cc in
      let same : nat_eq f home.1 ≡ true = equal_test f home.1 (sym m) in
      rw same refl
      )
  | inr s ↦ or_right (nat_eq f home.1) (is_member nat_eq (values_of homes) f) (found_member t homes f (rw s at e))
]

pub none_equal : (f : ℕ) (ns : List ℕ) → AllByRecursion (λ n. nat_eq f n ≡ false) ns → is_member nat_eq ns f ≡ true → ⊥
none_equal f [] all e = absurd cc
none_equal f (n ∷ ns) all e = none_equal f ns all.1 (rw all.0 at e)

-- a frame among those of pairs is that of one
pub member_pair : (P : Tenant × ℕ → Type 0) (pairs : List (Tenant × ℕ)) (f : ℕ) → AllByRecursion P pairs → is_member nat_eq (values_of pairs) f ≡ true → (pair : Tenant × ℕ) × (pair.1 ≡ f) × P pair
member_pair P [] f all e = absurd cc
member_pair P (pair ∷ pairs) f all e = elim (true_or_false (nat_eq f pair.1)) [
  | inl t ↦ (let same : pair.1 ≡ f = grind (arith, nat_tests) in (pair, same, all.0))
  | inr t ↦ member_pair P pairs f all.1 (rw t at e)
]

-- what differs from all before it is not among those behind
pub past_member : (xs ys : List ℕ) (f : ℕ) → IsDistinct nat_eq (xs ++ ys) → is_member nat_eq xs f ≡ true → is_member nat_eq ys f ≡ false
unfolding IsDistinct
past_member [] ys f d e = absurd cc
past_member (x ∷ xs) ys f d e = elim (true_or_false (nat_eq f x)) [
  | inl t ↦ (let same : x ≡ f = grind (arith, nat_tests) in none_any (nat_eq f) ys (subst (λ (n : ℕ). AllByRecursion (λ y. nat_eq n y ≡ false) ys) same (all_back (λ y. nat_eq x y ≡ false) xs ys d.0)))
  | inr t ↦ past_member xs ys f d.1 (rw t at e)
]

-- each pair is found by its tenant, where none is there twice
pub each_found : (homes : List (Tenant × ℕ)) → IsDistinct same_tenant (keys_of homes) → AllByRecursion (λ home. lookup (same_tenant home.0) homes ≡ Some home.1) homes
unfolding IsDistinct
each_found [] d = tt
each_found (home ∷ homes) d = (
  (let t : same_tenant home.0 home.0 ≡ true = same_tenant_laws.refl home.0 in rw t refl),
  later homes homes d.0 (each_found homes d.1),
)
  where
    later : (ws us : List (Tenant × ℕ)) → AllByRecursion (λ k. same_tenant home.0 k ≡ false) (keys_of ws) → AllByRecursion (λ w. lookup (same_tenant w.0) us ≡ Some w.1) ws
        → AllByRecursion (λ w. lookup (same_tenant w.0) (home ∷ us) ≡ Some w.1) ws
    later [] us apart all = tt
    later (w ∷ ws) us apart all = (
      (let t : same_tenant w.0 home.0 ≡ false = same_tenant_laws.symm w.0 home.0 ∙ apart.0 in rw t all.0),
      later ws us apart.1 all.1,
    )

-- tenants that differ have homes that differ
pub values_apart : (homes : Homes) (s : FlatState) → AreSeparate homes s → (pairs : List (Tenant × ℕ)) → IsDistinct same_tenant (keys_of pairs)
    → AllByRecursion (λ pair. home_frame homes pair.0 ≡ Some pair.1) pairs → IsDistinct nat_eq (values_of pairs)
unfolding IsDistinct
values_apart homes s separate [] d all = tt
values_apart homes s separate (pair ∷ pairs) d all = (others pairs d.0 all.1, values_apart homes s separate pairs d.1 all.1)
  where
    others : (ws : List (Tenant × ℕ)) → AllByRecursion (λ k. same_tenant pair.0 k ≡ false) (keys_of ws) → AllByRecursion (λ w. home_frame homes w.0 ≡ Some w.1) ws
        → AllByRecursion (λ y. nat_eq pair.1 y ≡ false) (values_of ws)
    others [] apart found = tt
    others (w ∷ ws) apart found = (
      (elim (true_or_false (nat_eq pair.1 w.1)) [
        | inl t ↦ absurd (
            let same : w.1 ≡ pair.1 = grind (arith, nat_tests) in
            let there : home_frame homes w.0 ≡ Some pair.1 = found.0 ∙ ap Some same in
            let one : pair.0 ≡ w.0 = homes_apart homes s pair.0 w.0 pair.1 separate all.0 there in
            let yes_same : same_tenant pair.0 w.0 ≡ true = (same_is pair.0 w.0).1 one in
            let k : true ≡ false = sym yes_same ∙ apart.0 in
            cc
            )
        | inr t ↦ t
      ]),
      others ws apart.1 found.1,
    )

-- the frame of a tenant that gives its home up is no home any more
pub gone_home : (keeps : Tenant → Bool) (t : Tenant) (homes : List (Tenant × ℕ)) (f : ℕ) → IsDistinct nat_eq (values_of homes) → lookup (same_tenant t) homes ≡ Some f → keeps t ≡ false
    → is_member nat_eq (values_of (filter (λ home. keeps home.0) homes)) f ≡ false
unfolding IsDistinct
gone_home keeps t [] f d e no_more = absurd cc
gone_home keeps t (home ∷ homes) f d e no_more = elim (true_or_false (same_tenant t home.0)) [
  | inl u ↦ (
      let k : Some home.1 ≡ Some f = (rw u at e) in
      let m : home.1 ≡ f = cc in
      let out : keeps home.0 ≡ false = sym (ap keeps ((same_is t home.0).0 u)) ∙ no_more in
      rw out (none_any (nat_eq f) (values_of (filter (λ other. keeps other.0) homes)) (values_all_kept (λ other. keeps other.0) (λ y. nat_eq f y ≡ false) homes (subst (λ (n : ℕ). AllByRecursion (λ y. nat_eq n y ≡ false) (values_of homes)) m d.0)))
      )
  | inr u ↦ (
      let there : lookup (same_tenant t) homes ≡ Some f = (rw u at e) in
      let rest : is_member nat_eq (values_of (filter (λ other. keeps other.0) homes)) f ≡ false = gone_home keeps t homes f d.1 there no_more in
      let apart : nat_eq f home.1 ≡ false = (elim (true_or_false (nat_eq f home.1)) [
        | inl w ↦ absurd (let same : home.1 ≡ f = grind (arith, nat_tests) in none_equal f (values_of homes) (subst (λ (n : ℕ). AllByRecursion (λ y. nat_eq n y ≡ false) (values_of homes)) same d.0) (found_member t homes f there))
        | inr w ↦ w
      ]) in
      elim (true_or_false (keeps home.0)) [
        | inl w ↦ rw (w, apart) rest
        | inr w ↦ rw w rest
      ]
      )
]

-- and a frame stays a home where all who have it stay
pub kept_home : (keeps : Tenant → Bool) (homes : List (Tenant × ℕ)) (f : ℕ) → AllByRecursion (λ home. home.1 ≡ f → keeps home.0 ≡ true) homes
    → is_member nat_eq (values_of (filter (λ home. keeps home.0) homes)) f ≡ is_member nat_eq (values_of homes) f
kept_home keeps [] f all = refl
kept_home keeps (home ∷ homes) f all = elim (true_or_false (keeps home.0)) [
  | inl t ↦ rw t (ap (λ (b : Bool). nat_eq f home.1 || b) (kept_home keeps homes f all.1))
  | inr t ↦ (
      let apart : nat_eq f home.1 ≡ false = (elim (true_or_false (nat_eq f home.1)) [
        | inl w ↦ absurd (let same : home.1 ≡ f = grind (arith, nat_tests) in let k : true ≡ false = sym (all.0 same) ∙ t in cc)
        | inr w ↦ w
      ]) in
      rw (t, apart) (kept_home keeps homes f all.1)
      )
]
