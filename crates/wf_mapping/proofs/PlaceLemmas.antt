-- Numbers that rise: what is left of them, and that members tell them.
use Rattle.std.proofs.Common.{◌≡◌, ◌<◌, ◌≤◌, ◌/◌, ◌||◌, ℕ, List, [], ◌∷◌, Bool, true, false, refl, sym, ap, ◌∙◌, inl, inr, arith, nat_eq, if◌then◌else◌}
use Rattle.std.specs.List.{AllByRecursion, filter}
use Rattle.std.specs.Set.{is_member}
use Rattle.std.proofs.lemmas.Bool.{cases_order}
use Rattle.std.proofs.lemmas.Bool.Decides.{nat_tests}
use Rattle.wf_outside.specs.Lists.{IsRising}
use Rattle.wf_flat.specs.Boot.{places_with}
use Rattle.wf_flat.specs.Lists.{with_number}
use Rattle.wf_flat.proofs.RisingLemmas.{IsRising-with_number, with_here, with_past, with_same}
use Rattle.wf_homes.proofs.ListLemmas.{all_kept, all_more, true_or_false}

pub rising_kept : (q : ℕ → Bool) (xs : List ℕ) → IsRising xs → IsRising (filter q xs)
rising_kept q [] up = tt
rising_kept q (x ∷ xs) up = elim (true_or_false (q x)) [
  | inl t ↦ (rw t (all_kept q (λ k. x < k) (λ k. x < k) (λ k e lt. lt) xs up.0, rising_kept q xs up.1))
  | inr t ↦ (rw t (rising_kept q xs up.1))
]

with_front : (k : ℕ) (xs : List ℕ) → AllByRecursion (λ m. k < m) xs → with_number k xs ≡ k ∷ xs
with_front k [] all = refl
with_front k (x ∷ xs) all = with_here k x xs all.0

-- one more number, of those that are left
pub kept_with : (q : ℕ → Bool) (k : ℕ) (ms : List ℕ) → IsRising ms → filter q (with_number k ms) ≡ (if q k then with_number k (filter q ms) else filter q ms)
kept_with q k [] up = elim (true_or_false (q k)) [
  | inl t ↦ (rw t refl)
  | inr t ↦ (rw t refl)
]
kept_with q k (m ∷ ms) up = elim (cases_order m k) [
  | inl e ↦ (rw (with_same k m ms e) (elim (true_or_false (q k)) [
    | inl t ↦ (let u : q m ≡ true = ap q e ∙ t in rw (t, u) (sym (with_same k m (filter q ms) e)))
    | inr t ↦ (let u : q m ≡ false = ap q e ∙ t in rw (t, u) refl)
  ]))
  | inr o ↦ (elim o [
    | inl lt ↦ (rw (with_past k m ms lt) (elim (true_or_false (q k)) [
      | inl t ↦ (
          let rest : filter q (with_number k ms) ≡ with_number k (filter q ms) = (let h : filter q (with_number k ms) ≡ (if q k then with_number k (filter q ms) else filter q ms) = kept_with q k ms up.1 in rw t at h) in
          elim (true_or_false (q m)) [
            | inl u ↦ (rw (t, u) (ap (λ (xs : List ℕ). m ∷ xs) rest ∙ sym (with_past k m (filter q ms) lt)))
            | inr u ↦ (rw (t, u) rest)
          ]
          )
      | inr t ↦ (
          let rest : filter q (with_number k ms) ≡ filter q ms = (let h : filter q (with_number k ms) ≡ (if q k then with_number k (filter q ms) else filter q ms) = kept_with q k ms up.1 in rw t at h) in
          elim (true_or_false (q m)) [
            | inl u ↦ (rw (t, u) (ap (λ (xs : List ℕ). m ∷ xs) rest))
            | inr u ↦ (rw (t, u) rest)
          ]
          )
    ]))
    | inr gt ↦ (
        let all : AllByRecursion (λ n. k < n) (m ∷ ms) = (gt, all_more (λ n. m < n) (λ n. k < n) (λ n lt. omega arith) ms up.0) in
        rw (with_here k m ms gt) (elim (true_or_false (q k)) [
          | inl t ↦ (rw t (sym (with_front k (filter q (m ∷ ms)) (all_kept q (λ n. k < n) (λ n. k < n) (λ n e lt. lt) (m ∷ ms) all))))
          | inr t ↦ (rw t refl)
        ])
        )
  ])
]

pub places_rise : (places ns : List ℕ) → IsRising places → IsRising (places_with places ns)
unfolding places_with
places_rise places [] up = up
places_rise places (n ∷ ns) up = places_rise (with_number (n / 512) places) ns (IsRising-with_number (n / 512) places up)

-- the places that are added do not depend on others
pub kept_places : (q : ℕ → Bool) (ps qs ns : List ℕ) → IsRising ps → IsRising qs → filter q ps ≡ filter q qs → filter q (places_with ps ns) ≡ filter q (places_with qs ns)
unfolding places_with
kept_places q ps qs [] up vp e = e
kept_places q ps qs (n ∷ ns) up vp e =
    kept_places q (with_number (n / 512) ps) (with_number (n / 512) qs) ns (IsRising-with_number (n / 512) ps up) (IsRising-with_number (n / 512) qs vp)
    (kept_with q (n / 512) ps up ∙ ap (λ (xs : List ℕ). if q (n / 512) then with_number (n / 512) xs else xs) e ∙ sym (kept_with q (n / 512) qs vp))

member_past : (xs : List ℕ) (a k : ℕ) → k ≤ a → AllByRecursion (λ m. a < m) xs → is_member nat_eq xs k ≡ false
member_past [] a k le all = refl
member_past (x ∷ xs) a k le all =
    let lt : a < x = all.0 in
    let t : nat_eq k x ≡ false = grind (arith, nat_tests) in
    rw t (member_past xs a k le all.1)

member_first : (a : ℕ) (xs : List ℕ) → is_member nat_eq (a ∷ xs) a ≡ true
member_first a xs = (let t : nat_eq a a ≡ true = grind (arith, nat_tests) in rw t refl)

-- rising numbers are told by their members
pub rising_same : (xs ys : List ℕ) → IsRising xs → IsRising ys → ((k : ℕ) → is_member nat_eq xs k ≡ is_member nat_eq ys k) → xs ≡ ys
rising_same [] [] up vp e = refl
rising_same [] (y ∷ ys) up vp e = absurd (let k : false ≡ true = e y ∙ member_first y ys in cc)
rising_same (x ∷ xs) [] up vp e = absurd (let k : false ≡ true = sym (e x) ∙ member_first x xs in cc)
rising_same (x ∷ xs) (y ∷ ys) up vp e = elim (cases_order x y) [
  | inl same ↦ (
      let rest : xs ≡ ys = rising_same xs ys up.1 vp.1 (λ k. tails k same) in
      rw (same, rest) refl
      )
  | inr o ↦ (elim o [
    | inl lt ↦ absurd (
        let past : is_member nat_eq (y ∷ ys) x ≡ false = member_past (y ∷ ys) x x (omega arith) (lt, all_more (λ m. y < m) (λ m. x < m) (λ m l. omega arith) ys vp.0) in
        let k : true ≡ false = sym (member_first x xs) ∙ e x ∙ past in cc
        )
    | inr gt ↦ absurd (
        let past : is_member nat_eq (x ∷ xs) y ≡ false = member_past (x ∷ xs) y y (omega arith) (gt, all_more (λ m. x < m) (λ m. y < m) (λ m l. omega arith) xs up.0) in
        let k : true ≡ false = sym (member_first y ys) ∙ sym (e y) ∙ past in cc
        )
  ])
]
  where
    tails : (k : ℕ) → x ≡ y → is_member nat_eq xs k ≡ is_member nat_eq ys k
    tails k same = elim (true_or_false (nat_eq k x)) [
      | inl t ↦ (
          let le : k ≤ x = grind (arith, nat_tests) in
          let l : k ≤ y = omega arith in
          member_past xs x k le up.0 ∙ sym (member_past ys y k l vp.0)
          )
      | inr t ↦ (
          let u : nat_eq k y ≡ false = rw (sym same) t in
          let h : (nat_eq k x || is_member nat_eq xs k) ≡ (nat_eq k y || is_member nat_eq ys k) = e k in
          rw (t, u) at h
          )
    ]
