-- What holds of all elements, members, elements that differ, pairs, and keys that are kept.
use Rattle.std.proofs.Common.{◌≡◌, ◌≢◌, ◌<◌, ◌≤◌, ◌⊎◌, ◌++◌, ◌||◌, ℕ, zero, suc, List, [], ◌∷◌, Bool, true, false, length, map, take, refl, sym, ap, subst, ◌∙◌, inl, inr, arith}
use Rattle.std.specs.List.{AllByRecursion, IsDistinct, filter, flat_map, list_any, zip}
use Rattle.std.specs.Map.{keys_of, values_of}
use Rattle.std.specs.Set.{is_member}
use Rattle.std.proofs.lemmas.Bool.{cases_order}
use Rattle.std.proofs.lemmas.List.{map-append}
use Rattle.wf_outside.specs.Lists.{IsRising}

-- a test says yes or no
pub true_or_false : (b : Bool) → (b ≡ true) ⊎ (b ≡ false)
true_or_false true = inl refl
true_or_false false = inr refl

-- two numbers are one, or are two
pub one_or_two : (a b : ℕ) → (a ≡ b) ⊎ (a ≢ b)
one_or_two a b = elim (cases_order a b) [
  | inl e ↦ inl e
  | inr o ↦ inr (λ e. elim o [ inl lt ↦ omega arith | inr gt ↦ omega arith ])
]

or_assoc : (a b c : Bool) → ((a || b) || c) ≡ (a || (b || c))
or_assoc true b c = refl
or_assoc false b c = refl

module _ {A B : Type 0} where
  -- what holds of what each becomes
  pub map_all : (P : A → Type 0) (Q : B → Type 0) (f : A → B) → ((x : A) → Q (f x) → P x) → (xs : List A) → AllByRecursion Q (map f xs) → AllByRecursion P xs
  map_all P Q f more [] all = tt
  map_all P Q f more (x ∷ xs) all = (more x all.0, map_all P Q f more xs all.1)

  pub all_map : (P : A → Type 0) (Q : B → Type 0) (f : A → B) → ((x : A) → P x → Q (f x)) → (xs : List A) → AllByRecursion P xs → AllByRecursion Q (map f xs)
  all_map P Q f more [] all = tt
  all_map P Q f more (x ∷ xs) all = (more x all.0, all_map P Q f more xs all.1)

module _ {A : Type 0} where
  -- what follows of each
  pub all_more : (P Q : A → Type 0) → ((x : A) → P x → Q x) → (xs : List A) → AllByRecursion P xs → AllByRecursion Q xs
  all_more P Q more [] all = tt
  all_more P Q more (x ∷ xs) all = (more x all.0, all_more P Q more xs all.1)

  -- the front, and the back
  pub all_front : (P : A → Type 0) (xs ys : List A) → AllByRecursion P (xs ++ ys) → AllByRecursion P xs
  all_front P [] ys all = tt
  all_front P (x ∷ xs) ys all = (all.0, all_front P xs ys all.1)

  pub all_back : (P : A → Type 0) (xs ys : List A) → AllByRecursion P (xs ++ ys) → AllByRecursion P ys
  all_back P [] ys all = all
  all_back P (x ∷ xs) ys all = all_back P xs ys all.1

  -- both
  pub all_both : (P : A → Type 0) (xs ys : List A) → AllByRecursion P xs → AllByRecursion P ys → AllByRecursion P (xs ++ ys)
  all_both P [] ys all more = more
  all_both P (x ∷ xs) ys all more = (all.0, all_both P xs ys all.1 more)

  -- those that are kept
  pub all_kept : (keeps : A → Bool) (P Q : A → Type 0) → ((x : A) → keeps x ≡ true → P x → Q x) → (xs : List A) → AllByRecursion P xs → AllByRecursion Q (filter keeps xs)
  all_kept keeps P Q more [] all = tt
  all_kept keeps P Q more (x ∷ xs) all = elim (true_or_false (keeps x)) [
    | inl e ↦ (rw e (more x e all.0, all_kept keeps P Q more xs all.1))
    | inr e ↦ (rw e (all_kept keeps P Q more xs all.1))
  ]

  -- the first few
  pub all_taken : (P : A → Type 0) (n : ℕ) (xs : List A) → AllByRecursion P xs → AllByRecursion P (take n xs)
  all_taken P zero xs all = tt
  all_taken P (suc n) [] all = tt
  all_taken P (suc n) (x ∷ xs) all = (all.0, all_taken P n xs all.1)

  -- what holds whatever the element is
  pub all_any : (P : A → Type 0) → ((x : A) → P x) → (xs : List A) → AllByRecursion P xs
  all_any P each [] = tt
  all_any P each (x ∷ xs) = (each x, all_any P each xs)

  -- what holds of each, and of none
  pub any_both : (p : A → Bool) (xs ys : List A) → list_any p (xs ++ ys) ≡ (list_any p xs || list_any p ys)
  any_both p [] ys = refl
  any_both p (x ∷ xs) ys = ap (λ (b : Bool). p x || b) (any_both p xs ys) ∙ sym (or_assoc (p x) (list_any p xs) (list_any p ys))

  pub none_any : (p : A → Bool) (xs : List A) → AllByRecursion (λ x. p x ≡ false) xs → list_any p xs ≡ false
  none_any p [] all = refl
  none_any p (x ∷ xs) all = rw all.0 (none_any p xs all.1)

  pub any_none : (p : A → Bool) (xs : List A) → list_any p xs ≡ false → AllByRecursion (λ x. p x ≡ false) xs
  any_none p [] e = tt
  any_none p (x ∷ xs) e = elim (true_or_false (p x)) [
    | inl t ↦ absurd (let k : true ≡ false = rw t at e in cc)
    | inr t ↦ (t, any_none p xs (rw t at e))
  ]

  module _ (eq : A → A → Bool) where
    -- elements that differ, of two lists
    pub distinct_two : (xs ys : List A) → IsDistinct eq xs → IsDistinct eq ys → AllByRecursion (λ x. is_member eq ys x ≡ false) xs → IsDistinct eq (xs ++ ys)
    unfolding IsDistinct
    distinct_two [] ys d e apart = e
    distinct_two (x ∷ xs) ys d e apart = (all_both (λ y. eq x y ≡ false) xs ys d.0 (any_none (eq x) ys apart.0), distinct_two xs ys d.1 e apart.1)

    pub distinct_front : (xs ys : List A) → IsDistinct eq (xs ++ ys) → IsDistinct eq xs
    unfolding IsDistinct
    distinct_front [] ys d = tt
    distinct_front (x ∷ xs) ys d = (all_front (λ y. eq x y ≡ false) xs ys d.0, distinct_front xs ys d.1)

    -- more that differ from all come between
    pub distinct_between : ((x y : A) → eq x y ≡ eq y x) → (xs ys zs : List A) → IsDistinct eq (xs ++ zs) → IsDistinct eq ys
        → AllByRecursion (λ y. AllByRecursion (λ x. eq y x ≡ false) (xs ++ zs)) ys → IsDistinct eq ((xs ++ ys) ++ zs)
    unfolding IsDistinct
    distinct_between flips [] ys zs d e apart = distinct_two ys zs e d (all_more (λ y. AllByRecursion (λ x. eq y x ≡ false) zs) (λ y. is_member eq zs y ≡ false) (λ y all. none_any (eq y) zs all) ys apart)
    distinct_between flips (x ∷ xs) ys zs d e apart = (
      all_both (λ y. eq x y ≡ false) (xs ++ ys) zs
          (all_both (λ y. eq x y ≡ false) xs ys (all_front (λ y. eq x y ≡ false) xs zs d.0)
          (all_more (λ y. AllByRecursion (λ z. eq y z ≡ false) (x ∷ (xs ++ zs))) (λ y. eq x y ≡ false) (λ y all. flips x y ∙ all.0) ys apart))
          (all_back (λ y. eq x y ≡ false) xs zs d.0),
      distinct_between flips xs ys zs d.1 e (all_more (λ y. AllByRecursion (λ z. eq y z ≡ false) (x ∷ (xs ++ zs))) (λ y. AllByRecursion (λ z. eq y z ≡ false) (xs ++ zs)) (λ y all. all.1) ys apart),
    )

    -- those that are kept, and the first few
    pub distinct_kept : (keeps : A → Bool) (xs : List A) → IsDistinct eq xs → IsDistinct eq (filter keeps xs)
    unfolding IsDistinct
    distinct_kept keeps [] d = tt
    distinct_kept keeps (x ∷ xs) d = elim (true_or_false (keeps x)) [
      | inl t ↦ (rw t (all_kept keeps (λ y. eq x y ≡ false) (λ y. eq x y ≡ false) (λ y k e. e) xs d.0, distinct_kept keeps xs d.1))
      | inr t ↦ (rw t (distinct_kept keeps xs d.1))
    ]

    pub distinct_taken : (n : ℕ) (xs : List A) → IsDistinct eq xs → IsDistinct eq (take n xs)
    unfolding IsDistinct
    distinct_taken zero xs d = tt
    distinct_taken (suc n) [] d = tt
    distinct_taken (suc n) (x ∷ xs) d = (all_taken (λ y. eq x y ≡ false) n xs d.0, distinct_taken n xs d.1)

  -- what holds of all elements of all of some lists
  pub all_lists : {X : Type 0} (f : X → List A) (P : A → Type 0) (xs : List X) → AllByRecursion (λ x. AllByRecursion P (f x)) xs → AllByRecursion P (flat_map f xs)
  all_lists f P [] all = tt
  all_lists f P (x ∷ xs) all = all_both P (f x) (flat_map f xs) all.0 (all_lists f P xs all.1)

  pub map_lists : {X B : Type 0} (g : A → B) (f : X → List A) (xs : List X) → map g (flat_map f xs) ≡ flat_map (λ x. map g (f x)) xs
  map_lists g f [] = refl
  map_lists {B = B} g f (x ∷ xs) = map-append g (f x) (flat_map f xs) ∙ ap (λ (bs : List B). map g (f x) ++ bs) (map_lists g f xs)

  -- a list of lists: each differs in itself, and has elements of its own
  module _ {X : Type 0} (eq : A → A → Bool) (f : X → List A) (number : X → ℕ) (owner : A → ℕ) (tells : (a b : A) → eq a b ≡ true → owner a ≡ owner b) where
    pub all_owned : (ns : ℕ → Type 0) (xs : List X) → AllByRecursion (λ x. ns (number x)) xs → AllByRecursion (λ x. AllByRecursion (λ a. owner a ≡ number x) (f x)) xs
        → AllByRecursion (λ a. ns (owner a)) (flat_map f xs)
    all_owned ns [] all owned = tt
    all_owned ns (x ∷ xs) all owned =
        all_both (λ a. ns (owner a)) (f x) (flat_map f xs)
        (all_more (λ a. owner a ≡ number x) (λ a. ns (owner a)) (λ a e. subst ns (sym e) all.0) (f x) owned.0) (all_owned ns xs all.1 owned.1)

    apart_from : (a : A) (n : ℕ) (bs : List A) → owner a ≡ n → AllByRecursion (λ b. n < owner b) bs → is_member eq bs a ≡ false
    apart_from a n bs e all = none_any (eq a) bs (all_more (λ b. n < owner b) (λ b. eq a b ≡ false) (λ b lt. (elim (true_or_false (eq a b)) [
      | inl t ↦ absurd (let k : owner a ≡ owner b = tells a b t in omega arith)
      | inr t ↦ t
    ])) bs all)

    pub distinct_lists : (xs : List X) → AllByRecursion (λ x. IsDistinct eq (f x)) xs → AllByRecursion (λ x. AllByRecursion (λ a. owner a ≡ number x) (f x)) xs
        → IsRising (map number xs) → IsDistinct eq (flat_map f xs)
    unfolding IsDistinct
    distinct_lists [] each owned up = tt
    distinct_lists (x ∷ xs) each owned up =
        let later : AllByRecursion (λ a. number x < owner a) (flat_map f xs) =
        all_owned (λ m. number x < m) xs (map_all (λ y. number x < number y) (λ m. number x < m) number (λ y lt. lt) xs up.0) owned.1 in
        distinct_two eq (f x) (flat_map f xs) each.0 (distinct_lists xs each.1 owned.1 up.1)
        (all_more (λ a. owner a ≡ number x) (λ a. is_member eq (flat_map f xs) a ≡ false) (λ a e. apart_from a (number x) (flat_map f xs) e later) (f x) owned.0)

module _ {K X : Type 0} where
  -- the keys of pairs of which the keys alone say which are kept
  pub keys_kept : (keeps : K → Bool) (es : List (K × X)) → keys_of (filter (λ e. keeps e.0) es) ≡ filter keeps (keys_of es)
  keys_kept keeps [] = refl
  keys_kept keeps (e ∷ es) = elim (true_or_false (keeps e.0)) [
    | inl t ↦ (rw t (ap (λ (ks : List K). e.0 ∷ ks) (keys_kept keeps es)))
    | inr t ↦ (rw t (keys_kept keeps es))
  ]

  -- pairs of keys with the first of as many values
  pub keys_zipped : (ks : List K) (vs : List X) → length ks ≤ length vs → keys_of (zip ks vs) ≡ ks
  keys_zipped [] vs le = refl
  keys_zipped (k ∷ ks) [] le = absurd (omega arith)
  keys_zipped (k ∷ ks) (v ∷ vs) le = ap (λ (js : List K). k ∷ js) (keys_zipped ks vs (omega arith))

  pub values_zipped : (ks : List K) (vs : List X) → length ks ≤ length vs → values_of (zip ks vs) ≡ take (length ks) vs
  values_zipped [] vs le = refl
  values_zipped (k ∷ ks) [] le = absurd (omega arith)
  values_zipped (k ∷ ks) (v ∷ vs) le = ap (λ (us : List X). v ∷ us) (values_zipped ks vs (omega arith))

  pub values_all_kept : (keeps : K × X → Bool) (P : X → Type 0) (es : List (K × X)) → AllByRecursion P (values_of es) → AllByRecursion P (values_of (filter keeps es))
  values_all_kept keeps P [] all = tt
  values_all_kept keeps P (e ∷ es) all = elim (true_or_false (keeps e)) [
    | inl t ↦ (rw t (all.0, values_all_kept keeps P es all.1))
    | inr t ↦ (rw t (values_all_kept keeps P es all.1))
  ]

  pub values_kept_front : (eq : X → X → Bool) (keeps : K × X → Bool) (es : List (K × X)) (ys : List X) → IsDistinct eq (values_of es ++ ys) → IsDistinct eq (values_of (filter keeps es) ++ ys)
  unfolding IsDistinct
  values_kept_front eq keeps [] ys d = d
  values_kept_front eq keeps (e ∷ es) ys d = elim (true_or_false (keeps e)) [
    | inl t ↦ (rw t (
      all_both (λ y. eq e.1 y ≡ false) (values_of (filter keeps es)) ys (values_all_kept keeps (λ y. eq e.1 y ≡ false) es (all_front (λ y. eq e.1 y ≡ false) (values_of es) ys d.0)) (all_back (λ y. eq e.1 y ≡ false) (values_of es) ys d.0),
      values_kept_front eq keeps es ys d.1,
    ))
    | inr t ↦ (rw t (values_kept_front eq keeps es ys d.1))
  ]

  pub length_keys : (es : List (K × X)) → length (keys_of es) ≡ length es
  length_keys [] = refl
  length_keys (e ∷ es) = ap suc (length_keys es)

  pub length_values : (es : List (K × X)) → length (values_of es) ≡ length es
  length_values [] = refl
  length_values (e ∷ es) = ap suc (length_values es)

pub map_itself : (ns : List ℕ) → map (λ n. n) ns ≡ ns
map_itself [] = refl
map_itself (n ∷ ns) = ap (λ (ms : List ℕ). n ∷ ms) (map_itself ns)
