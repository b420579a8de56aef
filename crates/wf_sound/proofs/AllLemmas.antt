-- What holds of all elements of a list, and of the element of a number.
use Rattle.std.proofs.Common.{◌≡◌, ◌≢◌, ◌<◌, ◌≤◌, ◌⊎◌, ◌++◌, ℕ, zero, suc, List, [], ◌∷◌, Bool, true, false, Some, None, map, refl, sym, ap, subst, ◌∙◌, inl, inr, arith, nat_eq}
use Rattle.std.specs.Prelude.{slice_get}
use Rattle.std.specs.Option.{option_map}
use Rattle.std.specs.List.{AllByRecursion, IsDistinct, filter}
use Rattle.std.proofs.lemmas.Bool.{cases_lt, cases_order}
use Rattle.std.proofs.lemmas.Bool.Decides.{nat_tests}
use Rattle.wf_outside.specs.Lists.{IsRising}
use Rattle.wf_flat.specs.Lists.{found_by, inserted_by, sorted_by}

-- a test says yes or no
pub true_or_false : (b : Bool) → (b ≡ true) ⊎ (b ≡ false)
true_or_false true = inl refl
true_or_false false = inr refl

module _ {A : Type 0} where
  -- what follows of each
  pub all_more : (P Q : A → Type 0) → ((x : A) → P x → Q x) → (xs : List A) → AllByRecursion P xs → AllByRecursion Q xs
  all_more P Q more [] all = tt
  all_more P Q more (x ∷ xs) all = (more x all.0, all_more P Q more xs all.1)

  -- what follows of each from two facts
  pub all_both : (P Q R : A → Type 0) → ((x : A) → P x → Q x → R x) → (xs : List A) → AllByRecursion P xs → AllByRecursion Q xs → AllByRecursion R xs
  all_both P Q R more [] all other = tt
  all_both P Q R more (x ∷ xs) all other = (more x all.0 other.0, all_both P Q R more xs all.1 other.1)

  -- the front, and the back
  pub all_front : (P : A → Type 0) (xs ys : List A) → AllByRecursion P (xs ++ ys) → AllByRecursion P xs
  all_front P [] ys all = tt
  all_front P (x ∷ xs) ys all = (all.0, all_front P xs ys all.1)

  pub all_back : (P : A → Type 0) (xs ys : List A) → AllByRecursion P (xs ++ ys) → AllByRecursion P ys
  all_back P [] ys all = all
  all_back P (x ∷ xs) ys all = all_back P xs ys all.1

  -- the element at a place
  pub all_get : (P : A → Type 0) (xs : List A) (i : ℕ) (x : A) → AllByRecursion P xs → slice_get xs i ≡ Some x → P x
  all_get P [] i x all e = absurd cc
  all_get P (y ∷ ys) zero x all e = let k : y ≡ x = cc in subst P k all.0
  all_get P (y ∷ ys) (suc i) x all e = all_get P ys i x all.1 e

  module _ (keeps : A → Bool) where
    -- those that are kept
    pub all_filter : (P Q : A → Type 0) → ((x : A) → keeps x ≡ true → P x → Q x) → (xs : List A) → AllByRecursion P xs → AllByRecursion Q (filter keeps xs)
    all_filter P Q more [] all = tt
    all_filter P Q more (x ∷ xs) all = elim (true_or_false (keeps x)) [
      | inl e ↦ (rw e (more x e all.0, all_filter P Q more xs all.1))
      | inr e ↦ (rw e (all_filter P Q more xs all.1))
    ]

module _ {A B : Type 0} where
  -- what follows of what each becomes
  pub all_map : (P : A → Type 0) (Q : B → Type 0) (f : A → B) → ((x : A) → P x → Q (f x)) → (xs : List A) → AllByRecursion P xs → AllByRecursion Q (map f xs)
  all_map P Q f more [] all = tt
  all_map P Q f more (x ∷ xs) all = (more x all.0, all_map P Q f more xs all.1)

  -- what holds of what each becomes
  pub map_all : (P : A → Type 0) (Q : B → Type 0) (f : A → B) → ((x : A) → Q (f x) → P x) → (xs : List A) → AllByRecursion Q (map f xs) → AllByRecursion P xs
  map_all P Q f more [] all = tt
  map_all P Q f more (x ∷ xs) all = (more x all.0, map_all P Q f more xs all.1)

-- two numbers are one, or are two
pub one_or_two : (a b : ℕ) → (a ≡ b) ⊎ (a ≢ b)
one_or_two a b = elim (cases_order a b) [
  | inl e ↦ inl e
  | inr o ↦ inr (λ e. elim o [ inl lt ↦ omega arith | inr gt ↦ omega arith ])
]

module _ {A : Type 0} (key : A → ℕ) where
  pub found_here : (x : A) (xs : List A) (n : ℕ) → key x ≡ n → found_by key (x ∷ xs) n ≡ Some x
  found_here x xs n h = grind (arith, nat_tests)

  pub found_past : (x : A) (xs : List A) (n : ℕ) → key x ≢ n → found_by key (x ∷ xs) n ≡ found_by key xs n
  found_past x xs n h = grind (arith, nat_tests)

  -- an element that was found
  pub all_found : (P : A → Type 0) (xs : List A) (n : ℕ) (x : A) → AllByRecursion P xs → found_by key xs n ≡ Some x → P x
  all_found P [] n x all e = absurd cc
  all_found P (y ∷ ys) n x all e = elim (one_or_two (key y) n) [
    | inl same ↦ (let k : y ≡ x = (let f = found_here y ys n same in cc) in subst P k all.0)
    | inr apart ↦ all_found P ys n x all.1 (sym (found_past y ys n apart) ∙ e)
  ]

  none_above : (xs : List A) (n : ℕ) → AllByRecursion (λ m. n < m) (map key xs) → found_by key xs n ≡ None
  none_above [] n up = refl
  none_above (x ∷ xs) n up = found_past x xs n (λ e. let lt : n < key x = up.0 in omega arith) ∙ none_above xs n up.1

  -- where numbers rise, each element is that of its number
  pub all_named : (xs : List A) → IsRising (map key xs) → AllByRecursion (λ x. found_by key xs (key x) ≡ Some x) xs
  all_named [] up = tt
  all_named (x ∷ xs) up = (
    found_here x xs (key x) refl,
    all_both (λ y. key x < key y) (λ y. found_by key xs (key y) ≡ Some y) (λ y. found_by key (x ∷ xs) (key y) ≡ Some y)
        (λ y lt e. found_past x xs (key y) (λ same. omega arith) ∙ e) xs (map_all (λ y. key x < key y) (λ m. key x < m) key (λ y lt. lt) xs up.0) (all_named xs up.1),
  )

  -- the element of a number where each changes and keeps its number
  pub found_map : (f : A → A) → ((x : A) → key (f x) ≡ key x) → (xs : List A) (n : ℕ) → found_by key (map f xs) n ≡ option_map f (found_by key xs n)
  found_map f same [] n = refl
  found_map f same (x ∷ xs) n = elim (one_or_two (key x) n) [
    | inl e ↦ (found_here (f x) (map f xs) n (same x ∙ e) ∙ sym (ap (option_map f) (found_here x xs n e)))
    | inr apart ↦ (found_past (f x) (map f xs) n (λ e. apart (sym (same x) ∙ e)) ∙ found_map f same xs n ∙ sym (ap (option_map f) (found_past x xs n apart)))
  ]

  -- where elements of other numbers alone are dropped
  pub found_kept : (keeps : A → Bool) (n : ℕ) → ((x : A) → key x ≡ n → keeps x ≡ true) → (xs : List A) → found_by key (filter keeps xs) n ≡ found_by key xs n
  found_kept keeps n kept [] = refl
  found_kept keeps n kept (x ∷ xs) = elim (true_or_false (keeps x)) [
    | inl t ↦ (rw t (elim (one_or_two (key x) n) [
      | inl e ↦ (found_here x (filter keeps xs) n e ∙ sym (found_here x xs n e))
      | inr apart ↦ (found_past x (filter keeps xs) n apart ∙ found_kept keeps n kept xs ∙ sym (found_past x xs n apart))
    ]))
    | inr t ↦ (rw t (found_kept keeps n kept xs ∙ sym (found_past x xs n (λ e. (let k : keeps x ≡ true = kept x e in absurd cc)))))
  ]

  -- where those of the number are dropped
  pub found_dropped : (keeps : A → Bool) (n : ℕ) → ((x : A) → key x ≡ n → keeps x ≡ false) → (xs : List A) → found_by key (filter keeps xs) n ≡ None
  found_dropped keeps n drops [] = refl
  found_dropped keeps n drops (x ∷ xs) = elim (true_or_false (keeps x)) [
    | inl t ↦ (rw t (found_past x (filter keeps xs) n (λ e. (let k : keeps x ≡ false = drops x e in absurd cc)) ∙ found_dropped keeps n drops xs))
    | inr t ↦ (rw t (found_dropped keeps n drops xs))
  ]

  -- the element of a number in two lists
  pub found_front : (xs ys : List A) (n : ℕ) (x : A) → found_by key xs n ≡ Some x → found_by key (xs ++ ys) n ≡ Some x
  found_front [] ys n x e = absurd cc
  found_front (z ∷ zs) ys n x e = elim (one_or_two (key z) n) [
    | inl same ↦ (found_here z (zs ++ ys) n same ∙ sym (found_here z zs n same) ∙ e)
    | inr apart ↦ (found_past z (zs ++ ys) n apart ∙ found_front zs ys n x (sym (found_past z zs n apart) ∙ e))
  ]

  pub found_back : (xs ys : List A) (n : ℕ) → found_by key xs n ≡ None → found_by key (xs ++ ys) n ≡ found_by key ys n
  found_back [] ys n e = refl
  found_back (z ∷ zs) ys n e = elim (one_or_two (key z) n) [
    | inl same ↦ absurd (let f = found_here z zs n same in cc)
    | inr apart ↦ (found_past z (zs ++ ys) n apart ∙ found_back zs ys n (sym (found_past z zs n apart) ∙ e))
  ]

  -- no element has a number that is not theirs
  pub found_none : (xs : List A) (n : ℕ) → AllByRecursion (λ x. key x ≢ n) xs → found_by key xs n ≡ None
  found_none [] n all = refl
  found_none (x ∷ xs) n all = found_past x xs n all.0 ∙ found_none xs n all.1

  -- and where none is found, none has it
  pub none_found : (xs : List A) (n : ℕ) → found_by key xs n ≡ None → AllByRecursion (λ x. key x ≢ n) xs
  none_found [] n e = tt
  none_found (x ∷ xs) n e = elim (one_or_two (key x) n) [
    | inl same ↦ absurd (let f = found_here x xs n same in cc)
    | inr apart ↦ (apart, none_found xs n (sym (found_past x xs n apart) ∙ e))
  ]

module _ {A : Type 0} (number : A → ℕ) where
  pub inserted_past : (x y : A) (ys : List A) → number y < number x → inserted_by number x (y ∷ ys) ≡ y ∷ inserted_by number x ys
  inserted_past x y ys h = grind (arith, nat_tests)

  pub inserted_here : (x y : A) (ys : List A) → number x ≤ number y → inserted_by number x (y ∷ ys) ≡ x ∷ y ∷ ys
  inserted_here x y ys h = grind (arith, nat_tests)

  found_inserted : (x : A) (ys : List A) (n : ℕ) → found_by number (inserted_by number x ys) n ≡ found_by number (x ∷ ys) n
  found_inserted x [] n = refl
  found_inserted x (y ∷ ys) n = elim (cases_lt (number y) (number x)) [
    | inl lt ↦ (ap (λ (zs : List A). found_by number zs n) (inserted_past x y ys lt) ∙ (elim (one_or_two (number x) n) [
      | inl e ↦ (found_past number y (inserted_by number x ys) n (λ same. omega arith) ∙ found_inserted x ys n ∙ found_here number x ys n e ∙ sym (found_here number x (y ∷ ys) n e))
      | inr apart ↦ (elim (one_or_two (number y) n) [
        | inl e ↦ (found_here number y (inserted_by number x ys) n e ∙ sym (found_past number x (y ∷ ys) n apart ∙ found_here number y ys n e))
        | inr other ↦ (found_past number y (inserted_by number x ys) n other ∙ found_inserted x ys n ∙ found_past number x ys n apart ∙ sym (found_past number x (y ∷ ys) n apart ∙ found_past number y ys n other))
      ])
    ]))
    | inr le ↦ ap (λ (zs : List A). found_by number zs n) (inserted_here x y ys le)
  ]

  -- the order of a list does not matter to what is found
  pub found_sorted : (xs : List A) (n : ℕ) → found_by number (sorted_by number xs) n ≡ found_by number xs n
  found_sorted [] n = refl
  found_sorted (x ∷ xs) n = found_inserted x (sorted_by number xs) n ∙ (elim (one_or_two (number x) n) [
    | inl e ↦ (found_here number x (sorted_by number xs) n e ∙ sym (found_here number x xs n e))
    | inr apart ↦ (found_past number x (sorted_by number xs) n apart ∙ found_sorted xs n ∙ sym (found_past number x xs n apart))
  ])

apart_flips : (a b : ℕ) → nat_eq a b ≡ false → nat_eq b a ≡ false
apart_flips a b e = grind (arith, nat_tests)

-- one more, where all are of one kind
pub all_inserted : {A : Type 0} (P : A → Type 0) (number : A → ℕ) (x : A) (ys : List A) → P x → AllByRecursion P ys → AllByRecursion P (inserted_by number x ys)
all_inserted P number x [] h all = (h, tt)
all_inserted P number x (y ∷ ys) h all = elim (cases_lt (number y) (number x)) [
  | inl lt ↦ (rw (inserted_past number x y ys lt) (all.0, all_inserted P number x ys h all.1))
  | inr le ↦ (rw (inserted_here number x y ys le) (h, all))
]

-- numbers that differ stay so when some are dropped, and when they are sorted
module _ {A : Type 0} (f : A → ℕ) where
  pub distinct_filter : (keeps : A → Bool) (xs : List A) → IsDistinct nat_eq (map f xs) → IsDistinct nat_eq (map f (filter keeps xs))
  unfolding IsDistinct
  distinct_filter keeps [] d = tt
  distinct_filter keeps (x ∷ xs) d = elim (true_or_false (keeps x)) [
    | inl t ↦ (rw t (
      all_map (λ y. nat_eq (f x) (f y) ≡ false) (λ m. nat_eq (f x) m ≡ false) f (λ y e. e) (filter keeps xs)
          (all_filter keeps (λ y. nat_eq (f x) (f y) ≡ false) (λ y. nat_eq (f x) (f y) ≡ false) (λ y k e. e) xs (map_all (λ y. nat_eq (f x) (f y) ≡ false) (λ m. nat_eq (f x) m ≡ false) f (λ y e. e) xs d.0)),
      distinct_filter keeps xs d.1,
    ))
    | inr t ↦ (rw t (distinct_filter keeps xs d.1))
  ]

  distinct_inserted : (number : A → ℕ) (x : A) (ys : List A) → AllByRecursion (λ y. nat_eq (f x) (f y) ≡ false) ys → IsDistinct nat_eq (map f ys) → IsDistinct nat_eq (map f (inserted_by number x ys))
  unfolding IsDistinct
  distinct_inserted number x [] apart d = (tt, tt)
  distinct_inserted number x (y ∷ ys) apart d = elim (cases_lt (number y) (number x)) [
    | inl lt ↦ (rw (inserted_past number x y ys lt) (
      all_map (λ z. nat_eq (f y) (f z) ≡ false) (λ m. nat_eq (f y) m ≡ false) f (λ z e. e) (inserted_by number x ys)
          (all_inserted (λ z. nat_eq (f y) (f z) ≡ false) number x ys (apart_flips (f x) (f y) apart.0) (map_all (λ z. nat_eq (f y) (f z) ≡ false) (λ m. nat_eq (f y) m ≡ false) f (λ z e. e) ys d.0)),
      distinct_inserted number x ys apart.1 d.1,
    ))
    | inr le ↦ (rw (inserted_here number x y ys le) (all_map (λ z. nat_eq (f x) (f z) ≡ false) (λ m. nat_eq (f x) m ≡ false) f (λ z e. e) (y ∷ ys) apart, d))
  ]

  pub distinct_sorted : (number : A → ℕ) (xs : List A) → IsDistinct nat_eq (map f xs) → IsDistinct nat_eq (map f (sorted_by number xs))
  unfolding IsDistinct
  distinct_sorted number [] d = tt
  distinct_sorted number (x ∷ xs) d =
      distinct_inserted number x (sorted_by number xs)
      (all_sorted (λ y. nat_eq (f x) (f y) ≡ false) number xs (map_all (λ y. nat_eq (f x) (f y) ≡ false) (λ m. nat_eq (f x) m ≡ false) f (λ y e. e) xs d.0)) (distinct_sorted number xs d.1)
    where
      all_sorted : (P : A → Type 0) (number : A → ℕ) (xs : List A) → AllByRecursion P xs → AllByRecursion P (sorted_by number xs)
      all_sorted P number [] all = tt
      all_sorted P number (x ∷ xs) all = all_inserted P number x (sorted_by number xs) all.0 (all_sorted P number xs all.1)

-- numbers of two lists that differ
pub distinct_both : (xs ys : List ℕ) → IsDistinct nat_eq xs → IsDistinct nat_eq ys → AllByRecursion (λ x. AllByRecursion (λ y. nat_eq x y ≡ false) ys) xs → IsDistinct nat_eq (xs ++ ys)
unfolding IsDistinct
distinct_both [] ys d e apart = e
distinct_both (x ∷ xs) ys d e apart = (all_append xs ys d.0 apart.0, distinct_both xs ys d.1 e apart.1)
  where
    all_append : (xs ys : List ℕ) → AllByRecursion (λ y. nat_eq x y ≡ false) xs → AllByRecursion (λ y. nat_eq x y ≡ false) ys → AllByRecursion (λ y. nat_eq x y ≡ false) (xs ++ ys)
    all_append [] ys all more = more
    all_append (z ∷ zs) ys all more = (all.0, all_append zs ys all.1 more)

-- each of the front differs from each of the back
pub distinct_apart : (xs ys : List ℕ) → IsDistinct nat_eq (xs ++ ys) → AllByRecursion (λ x. AllByRecursion (λ y. nat_eq x y ≡ false) ys) xs
unfolding IsDistinct
distinct_apart [] ys d = tt
distinct_apart (x ∷ xs) ys d = (all_back (λ y. nat_eq x y ≡ false) xs ys d.0, distinct_apart xs ys d.1)
