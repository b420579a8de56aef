-- Where words of frames stand, and that no two tenants have one home.
use Rattle.std.proofs.Common.{◌≡◌, ◌≢◌, ◌<◌, ◌||◌, ℕ, List, [], ◌∷◌, Bool, true, false, Some, length, refl, sym, ◌∙◌, inl, inr, arith, nat_eq, subst, get_or-set_same, get_or-set_other}
use Rattle.std.specs.Prelude.{slice_index, slice_set}
use Rattle.std.specs.List.{AllByRecursion, IsDistinct}
use Rattle.std.specs.Map.{lookup, values_of}
use Rattle.std.specs.Set.{is_member}
use Rattle.std.proofs.lemmas.Bool.Decides.{nat_tests}
use Rattle.wf_frames.specs.Layout.{frame_word_place, word_count, word_place}
use Rattle.wf_homes.specs.Homes.{AreSeparate, Homes, Tenant, home_frame, same_tenant}
use Rattle.wf_homes.proofs.ListLemmas.{all_front, distinct_front, true_or_false}
use Rattle.wf_homes.proofs.TenantLemmas.{same_is}
use Rattle.wf_flat.specs.State.{FlatState}

-- a word of a frame tells its frame and its place there
pub place_tells : (frames f g i j : ℕ) → i < 512 → j < 512 → word_place frames f i ≡ word_place frames g j → (f ≡ g) × (i ≡ j)
place_tells frames f g i j li lj e = (omega arith, omega arith)

-- it is past the words of frames
pub place_past : (frames f g i : ℕ) → f < frames → frame_word_place f ≢ word_place frames g i
place_past frames f g i lt e = absurd (omega arith)

pub place_low : (frames f i : ℕ) → f < frames → i < 512 → word_place frames f i < word_count frames
place_low frames f i lt li = omega arith

-- the tenant that a look-up finds is there, and so is its frame
lookup_member : (t : Tenant) (homes : List (Tenant × ℕ)) (f : ℕ) → lookup (same_tenant t) homes ≡ Some f → is_member nat_eq (values_of homes) f ≡ true
lookup_member t [] f e = absurd cc
lookup_member t (home ∷ homes) f e = elim (true_or_false (same_tenant t home.0)) [
  | inl s ↦ (
      let k : Some home.1 ≡ Some f = (rw s at e) in
      let same : nat_eq f home.1 ≡ true = (let m : home.1 ≡ f = cc in grind (arith, nat_tests)) in
      rw same refl
      )
  | inr s ↦ or_right (nat_eq f home.1) (is_member nat_eq (values_of homes) f) (lookup_member t homes f (rw s at e))
]
  where
    or_right : (a b : Bool) → b ≡ true → (a || b) ≡ true
    or_right true b e = refl
    or_right false b e = e

none_at : (f : ℕ) (ns : List ℕ) → AllByRecursion (λ n. nat_eq f n ≡ false) ns → is_member nat_eq ns f ≡ true → ⊥
none_at f [] all e = absurd cc
none_at f (n ∷ ns) all e = none_at f ns all.1 (rw all.0 at e)

-- two tenants with one home are one
lookups_apart : (t u : Tenant) (homes : List (Tenant × ℕ)) (f : ℕ) → IsDistinct nat_eq (values_of homes) → lookup (same_tenant t) homes ≡ Some f → lookup (same_tenant u) homes ≡ Some f → t ≡ u
unfolding IsDistinct
lookups_apart t u [] f d a b = absurd cc
lookups_apart t u (home ∷ homes) f d a b = elim (true_or_false (same_tenant t home.0)) [
  | inl s ↦ (
      let k : Some home.1 ≡ Some f = (rw s at a) in
      let m : home.1 ≡ f = cc in
      elim (true_or_false (same_tenant u home.0)) [
        | inl v ↦ ((same_is t home.0).0 s ∙ sym ((same_is u home.0).0 v))
        | inr v ↦ absurd (none_at home.1 (values_of homes) d.0 (rw m (lookup_member u homes f (rw v at b))))
      ]
      )
  | inr s ↦ (elim (true_or_false (same_tenant u home.0)) [
    | inl v ↦ (
        let k : Some home.1 ≡ Some f = (rw v at b) in
        let m : home.1 ≡ f = cc in
        absurd (none_at home.1 (values_of homes) d.0 (rw m (lookup_member t homes f (rw s at a))))
        )
    | inr v ↦ lookups_apart t u homes f d.1 (rw s at a) (rw v at b)
  ])
]

pub homes_apart : (homes : Homes) (s : FlatState) (t u : Tenant) (f : ℕ) → AreSeparate homes s → home_frame homes t ≡ Some f → home_frame homes u ≡ Some f → t ≡ u
homes_apart homes s t u f separate a b = lookups_apart t u homes.homes f (distinct_front nat_eq (values_of homes.homes) homes.worn separate.apart) a b

-- a home is a frame of the machine
pub lookup_all : (P : ℕ → Type 0) (t : Tenant) (homes : List (Tenant × ℕ)) (f : ℕ) → AllByRecursion P (values_of homes) → lookup (same_tenant t) homes ≡ Some f → P f
lookup_all P t [] f all e = absurd cc
lookup_all P t (home ∷ homes) f all e = elim (true_or_false (same_tenant t home.0)) [
  | inl s ↦ (let k : Some home.1 ≡ Some f = (rw s at e) in let m : home.1 ≡ f = cc in subst P m all.0)
  | inr s ↦ lookup_all P t homes f all.1 (rw s at e)
]

pub home_low : (homes : Homes) (s : FlatState) (t : Tenant) (f : ℕ) → AreSeparate homes s → home_frame homes t ≡ Some f → f < s.limits.frames
home_low homes s t f separate e = lookup_all (λ k. k < s.limits.frames) t homes.homes f (all_front (λ k. k < s.limits.frames) (values_of homes.homes) homes.worn separate.low) e

-- one word is another
pub stored_same : (items : List ℕ) (at value : ℕ) → at < length items → slice_index (slice_set items at value) at ≡ value
stored_same items at value lt = get_or-set_same items at value 0 lt

pub stored_other : (items : List ℕ) (at k value : ℕ) → k ≢ at → slice_index (slice_set items at value) k ≡ slice_index items k
stored_other items at k value apart = get_or-set_other items at k value 0 apart
