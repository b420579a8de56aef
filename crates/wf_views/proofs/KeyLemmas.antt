-- A list by rising numbers of its elements: the element of a number, a search, a change of one element, one more and one less.
use Rattle.std.proofs.Common.{◌≡◌, ◌<◌, ◌≤◌, ℕ, zero, suc, List, [], ◌∷◌, Some, None, Ok, Err, length, get_or, map, refl, sym, ap, ◌∙◌, arith, inl, inr, slice_get, slice_set}
use Rattle.std.specs.List.{insert, remove, AllByRecursion}
use Rattle.std.specs.Ordering.{nat_cmp, ordering_index}
use Rattle.std.specs.declared.cmp.Ordering.TheVariants.{Equal, Less, Greater}
use Rattle.std.specs.List.Sorted.{IsBinarySearchResult}
use Rattle.std.proofs.lemmas.Bool.{cases_order, cases_lt}
use Rattle.std.proofs.lemmas.Bool.Decides.{nat_tests}
use Rattle.std.proofs.lemmas.Option.{slice_get_cases, slice_get-get_or}
use Rattle.wf_outside.specs.Lists.{IsRising}
use Rattle.wf_views.specs.Lists.{found_by, changed_by, inserted_by, without_by}
use Rattle.wf_outside.proofs.RisingLemmas.{all_at, rising_le}

cmp_equal : (a b : ℕ) → nat_cmp a b ≡ Equal → a ≡ b
cmp_equal a b h = grind (arith, nat_tests)

cmp_less : (a b : ℕ) → nat_cmp a b ≡ Less → a < b
cmp_less a b h = grind (arith, nat_tests)

cmp_greater : (a b : ℕ) → nat_cmp a b ≡ Greater → b < a
cmp_greater a b h = grind (arith, nat_tests)

index_le : (a b n : ℕ) → a ≤ b → ordering_index (nat_cmp a n) ≤ ordering_index (nat_cmp b n)
index_le a b n h = grind (arith, nat_tests)

all_above : (a b : ℕ) (xs : List ℕ) → a < b → AllByRecursion (λ m. b < m) xs → AllByRecursion (λ m. a < m) xs
all_above a b [] h all = tt
all_above a b (x ∷ xs) h all = (let k : b < x = all.0 in omega arith, all_above a b xs h all.1)

module _ {A : Type 0} (key : A → ℕ) where
  pub found_past : (x : A) (xs : List A) (n : ℕ) → (key x ≡ n → ⊥) → found_by key (x ∷ xs) n ≡ found_by key xs n
  found_past x xs n h = grind (arith, nat_tests)

  pub found_here : (x : A) (xs : List A) (n : ℕ) → key x ≡ n → found_by key (x ∷ xs) n ≡ Some x
  found_here x xs n h = grind (arith, nat_tests)

  pub key_at : (xs : List A) (k : ℕ) (d : A) → k < length xs → get_or (map key xs) k 0 ≡ key (get_or xs k d)
  key_at [] k d h = absurd (omega arith)
  key_at (x ∷ xs) zero d h = refl
  key_at (x ∷ xs) (suc k) d h = key_at xs k d (omega arith)

  pub length_keys : (xs : List A) → length (map key xs) ≡ length xs
  length_keys [] = refl
  length_keys (x ∷ xs) = ap suc (length_keys xs)

  -- the element that stands at a place
  pub found_at : (xs : List A) (n i : ℕ) (d : A) → IsRising (map key xs) → i < length xs → key (get_or xs i d) ≡ n → found_by key xs n ≡ Some (get_or xs i d)
  found_at [] n i d up h e = absurd (omega arith)
  found_at (x ∷ xs) n zero d up h e = found_here x xs n e
  found_at (x ∷ xs) n (suc i) d up h e =
      let lt : key x < get_or (map key xs) i 0 = all_at (λ m. key x < m) (map key xs) i 0 up.0 (omega (arith, length_keys xs)) in
      let at : get_or (map key xs) i 0 ≡ key (get_or xs i d) = key_at xs i d (omega arith) in
      found_past x xs n (λ same. omega arith) ∙ found_at xs n i d up.1 (omega arith) e

  keys_le : (xs : List A) → IsRising (map key xs) → (i j : ℕ) (d : A) → i ≤ j → j < length xs → key (get_or xs i d) ≤ key (get_or xs j d)
  keys_le xs up i j d le h =
      let a : get_or (map key xs) i 0 ≡ key (get_or xs i d) = key_at xs i d (omega arith) in
      let b : get_or (map key xs) j 0 ≡ key (get_or xs j d) = key_at xs j d h in
      let k : get_or (map key xs) i 0 ≤ get_or (map key xs) j 0 = rising_le (map key xs) up i j le (omega (arith, length_keys xs)) in
      omega arith

  -- a search finds an element of the number
  pub key_hit : (xs : List A) (n i : ℕ) (d : A) → i < length xs → IsBinarySearchResult (λ x. nat_cmp (key x) n) xs (Ok i) → key (get_or xs i d) ≡ n
  key_hit xs n i d h r = cmp_equal _ _ (r d)

  -- a search finds the element
  pub key_searched : (xs : List A) (n i : ℕ) → IsRising (map key xs) → i < length xs → IsBinarySearchResult (λ x. nat_cmp (key x) n) xs (Ok i) → found_by key xs n ≡ slice_get xs i
  key_searched xs n i up h r = elim (slice_get_cases xs i).1 [
    | inl w ↦ found_at xs n i w.0 up h (cmp_equal _ _ (r w.0)) ∙ sym (slice_get-get_or xs i w.0 h)
    | inr w ↦ absurd (omega arith)
  ]

  -- a search finds the place where one would stand
  pub key_parted : (xs : List A) (n i : ℕ) → IsRising (map key xs) → IsBinarySearchResult (λ x. nat_cmp (key x) n) xs (Err i)
      → ((k : ℕ) (d : A) → k < i → k < length xs → key (get_or xs k d) < n) × ((k : ℕ) (d : A) → i ≤ k → k < length xs → n < key (get_or xs k d))
  key_parted xs n i up h =
      let w = h (λ a b d le lt. index_le (key (get_or xs a d)) (key (get_or xs b d)) n (keys_le xs up a b d le lt)) in
      ((λ k d lt within. cmp_less _ _ (w.0 k d (omega arith) lt)), (λ k d le within. cmp_greater _ _ (w.1 k d le within)))

  past_all : (xs : List A) (n : ℕ) → ((k : ℕ) (d : A) → k < length xs → key (get_or xs k d) ≡ n → ⊥) → found_by key xs n ≡ None
  past_all [] n none = refl
  past_all (x ∷ xs) n none =
      found_past x xs n (none 0 x (omega arith)) ∙ past_all xs n (λ k d lt. none (suc k) d (omega arith))

  pub key_missed : (xs : List A) (n i : ℕ) → IsRising (map key xs) → IsBinarySearchResult (λ x. nat_cmp (key x) n) xs (Err i) → found_by key xs n ≡ None
  key_missed xs n i up h =
      let w = key_parted xs n i up h in
      past_all xs n (λ k d lt same. elim (cases_lt k i) [
        | inl before ↦ (let m : key (get_or xs k d) < n = w.0 k d before lt in omega arith)
        | inr behind ↦ (let m : n < key (get_or xs k d) = w.1 k d behind lt in omega arith)
      ])

  inserted_past : (x y : A) (ys : List A) → key y < key x → inserted_by key x (y ∷ ys) ≡ y ∷ inserted_by key x ys
  inserted_past x y ys h = grind (arith, nat_tests)

  inserted_here : (x y : A) (ys : List A) → key x ≤ key y → inserted_by key x (y ∷ ys) ≡ x ∷ y ∷ ys
  inserted_here x y ys h = grind (arith, nat_tests)

  inserted_at : (x : A) (xs : List A) (i : ℕ) → i ≤ length xs → ((k : ℕ) (d : A) → k < i → k < length xs → key (get_or xs k d) < key x) → ((k : ℕ) (d : A) → i ≤ k → k < length xs → key x < key (get_or xs k d))
      → inserted_by key x xs ≡ insert xs i x
  inserted_at x [] zero h below above = refl
  inserted_at x [] (suc i) h below above = absurd (omega arith)
  inserted_at x (y ∷ ys) zero h below above = let lt : key x < key y = above 0 y (omega arith) (omega arith) in inserted_here x y ys (omega arith)
  inserted_at x (y ∷ ys) (suc i) h below above =
      inserted_past x y ys (below 0 y (omega arith) (omega arith))
      ∙ ap (λ (zs : List A). y ∷ zs) (inserted_at x ys i (omega arith) (λ k d lt within. below (suc k) d (omega arith) (omega arith)) (λ k d le within. above (suc k) d (omega arith) (omega arith)))

  -- a search finds the place of one more
  pub key_inserted : (x : A) (xs : List A) (i : ℕ) → IsRising (map key xs) → i ≤ length xs → IsBinarySearchResult (λ y. nat_cmp (key y) (key x)) xs (Err i) → inserted_by key x xs ≡ insert xs i x
  key_inserted x xs i up h r = let w = key_parted xs (key x) i up r in inserted_at x xs i h w.0 w.1

  -- an element that was found has the number
  pub key_of_found : (xs : List A) (n : ℕ) (x : A) → found_by key xs n ≡ Some x → key x ≡ n
  key_of_found [] n x e = cc
  key_of_found (y ∷ ys) n x e = elim (cases_order (key y) n) [
    | inl same ↦ (let s = found_here y ys n same in let k : y ≡ x = cc in rw (← k) same)
    | inr other ↦ (
        let differs : key y ≡ n → ⊥ = λ same. elim other [ inl lt ↦ omega arith | inr gt ↦ omega arith ] in
        let s = found_past y ys n differs in
        key_of_found ys n x cc
        )
  ]

  without_here : (x : A) (xs : List A) (n : ℕ) → key x ≡ n → without_by key (x ∷ xs) n ≡ without_by key xs n
  without_here x xs n h = grind (arith, nat_tests)

  without_past : (x : A) (xs : List A) (n : ℕ) → (key x ≡ n → ⊥) → without_by key (x ∷ xs) n ≡ x ∷ without_by key xs n
  without_past x xs n h = grind (arith, nat_tests)

  -- where no element has the number, none is taken out
  pub without_none : (xs : List A) (n : ℕ) → found_by key xs n ≡ None → without_by key xs n ≡ xs
  without_none [] n e = refl
  without_none (x ∷ xs) n e = elim (cases_order (key x) n) [
    | inl same ↦ (let s = found_here x xs n same in absurd cc)
    | inr other ↦ (
        let differs : key x ≡ n → ⊥ = λ same. elim other [ inl lt ↦ omega arith | inr gt ↦ omega arith ] in
        let s = found_past x xs n differs in
        without_past x xs n differs ∙ ap (λ (ys : List A). x ∷ ys) (without_none xs n cc)
        )
  ]

  without_above : (xs : List A) (n : ℕ) → AllByRecursion (λ m. n < m) (map key xs) → without_by key xs n ≡ xs
  without_above [] n up = refl
  without_above (x ∷ xs) n up =
      let lt : n < key x = up.0 in
      without_past x xs n (λ same. omega arith) ∙ ap (λ (ys : List A). x ∷ ys) (without_above xs n up.1)

  -- the element that stands at a place is taken out
  pub without_at : (xs : List A) (n i : ℕ) (d : A) → IsRising (map key xs) → i < length xs → key (get_or xs i d) ≡ n → without_by key xs n ≡ remove xs i
  without_at [] n i d up h e = absurd (omega arith)
  without_at (x ∷ xs) n zero d up h e = without_here x xs n e ∙ without_above xs n (rw (← e) up.0)
  without_at (x ∷ xs) n (suc i) d up h e =
      let lt : key x < get_or (map key xs) i 0 = all_at (λ m. key x < m) (map key xs) i 0 up.0 (omega (arith, length_keys xs)) in
      let at : get_or (map key xs) i 0 ≡ key (get_or xs i d) = key_at xs i d (omega arith) in
      without_past x xs n (λ same. omega arith) ∙ ap (λ (ys : List A). x ∷ ys) (without_at xs n i d up.1 (omega arith) e)

  pub all_removed : (P : ℕ → Type 0) (xs : List A) (i : ℕ) → AllByRecursion P (map key xs) → AllByRecursion P (map key (remove xs i))
  all_removed P [] zero all = tt
  all_removed P [] (suc i) all = tt
  all_removed P (x ∷ xs) zero all = all.1
  all_removed P (x ∷ xs) (suc i) all = (all.0, all_removed P xs i all.1)

  -- they still rise with one less
  pub rising_removed : (xs : List A) (i : ℕ) → IsRising (map key xs) → IsRising (map key (remove xs i))
  rising_removed [] zero up = tt
  rising_removed [] (suc i) up = tt
  rising_removed (x ∷ xs) zero up = up.1
  rising_removed (x ∷ xs) (suc i) up = (all_removed (λ m. key x < m) xs i up.0, rising_removed xs i up.1)

  all_inserted : (a : ℕ) (x : A) (xs : List A) → AllByRecursion (λ m. a < m) (map key xs) → a < key x → AllByRecursion (λ m. a < m) (map key (inserted_by key x xs))
  all_inserted a x [] all h = (h, tt)
  all_inserted a x (y ∷ ys) all h = elim (cases_lt (key y) (key x)) [
    | inl lt ↦ (rw (inserted_past x y ys lt) (all.0, all_inserted a x ys all.1 h))
    | inr ge ↦ (rw (inserted_here x y ys ge) (h, all))
  ]

  -- and with one more that is not there
  pub rising_inserted : (x : A) (xs : List A) → IsRising (map key xs) → found_by key xs (key x) ≡ None → IsRising (map key (inserted_by key x xs))
  rising_inserted x [] up e = (tt, tt)
  rising_inserted x (y ∷ ys) up e = elim (cases_order (key y) (key x)) [
    | inl same ↦ (let s = found_here y ys (key x) same in absurd cc)
    | inr other ↦ (elim other [
      | inl lt ↦ (
          let s = found_past y ys (key x) (λ same. omega arith) in
          rw (inserted_past x y ys lt) (all_inserted (key y) x ys up.0 lt, rising_inserted x ys up.1 cc)
          )
      | inr gt ↦ (let le : key x ≤ key y = omega arith in rw (inserted_here x y ys le) ((gt, all_above (key x) (key y) (map key ys) gt up.0), up))
    ])
  ]

module _ {A : Type 0} (key : A → ℕ) (f : A → A) where
  changed_here : (x : A) (xs : List A) (n : ℕ) → key x ≡ n → changed_by key (x ∷ xs) n f ≡ f x ∷ changed_by key xs n f
  changed_here x xs n h = grind (arith, nat_tests)

  changed_past : (x : A) (xs : List A) (n : ℕ) → (key x ≡ n → ⊥) → changed_by key (x ∷ xs) n f ≡ x ∷ changed_by key xs n f
  changed_past x xs n h = grind (arith, nat_tests)

  -- where no element has the number, none changes
  pub changed_none : (xs : List A) (n : ℕ) → found_by key xs n ≡ None → changed_by key xs n f ≡ xs
  changed_none [] n e = refl
  changed_none (x ∷ xs) n e = elim (cases_order (key x) n) [
    | inl same ↦ (let s = found_here key x xs n same in absurd cc)
    | inr other ↦ (
        let differs : key x ≡ n → ⊥ = λ same. elim other [ inl lt ↦ omega arith | inr gt ↦ omega arith ] in
        let s = found_past key x xs n differs in
        changed_past x xs n differs ∙ ap (λ (ys : List A). x ∷ ys) (changed_none xs n cc)
        )
  ]

  changed_above : (xs : List A) (n : ℕ) → AllByRecursion (λ m. n < m) (map key xs) → changed_by key xs n f ≡ xs
  changed_above [] n up = refl
  changed_above (x ∷ xs) n up =
      let lt : n < key x = up.0 in
      changed_past x xs n (λ same. omega arith) ∙ ap (λ (ys : List A). x ∷ ys) (changed_above xs n up.1)

  -- the element that stands at a place changes
  pub changed_only : (xs : List A) (n i : ℕ) (d : A) → IsRising (map key xs) → i < length xs → key (get_or xs i d) ≡ n → slice_set xs i (f (get_or xs i d)) ≡ changed_by key xs n f
  changed_only [] n i d up h e = absurd (omega arith)
  changed_only (x ∷ xs) n zero d up h e = sym (changed_here x xs n e ∙ ap (λ (ys : List A). f x ∷ ys) (changed_above xs n (rw (← e) up.0)))
  changed_only (x ∷ xs) n (suc i) d up h e =
      let lt : key x < get_or (map key xs) i 0 = all_at (λ m. key x < m) (map key xs) i 0 up.0 (omega (arith, length_keys key xs)) in
      let at : get_or (map key xs) i 0 ≡ key (get_or xs i d) = key_at key xs i d (omega arith) in
      ap (λ (ys : List A). x ∷ ys) (changed_only xs n i d up.1 (omega arith) e) ∙ sym (changed_past x xs n (λ same. omega arith))

  cons_is : {a b : ℕ} {ns ms : List ℕ} → a ≡ b → ns ≡ ms → a ∷ ns ≡ b ∷ ms
  cons_is p q = cc

  -- numbers stay
  pub keys_changed : (xs : List A) (n : ℕ) → ((x : A) → key (f x) ≡ key x) → map key (changed_by key xs n f) ≡ map key xs
  keys_changed [] n same = refl
  keys_changed (x ∷ xs) n same = elim (cases_order (key x) n) [
    | inl e ↦ (ap (map key) (changed_here x xs n e) ∙ cons_is (same x) (keys_changed xs n same))
    | inr other ↦ (
        let differs : key x ≡ n → ⊥ = λ same. elim other [ inl lt ↦ omega arith | inr gt ↦ omega arith ] in
        ap (map key) (changed_past x xs n differs) ∙ cons_is refl (keys_changed xs n same)
        )
  ]

-- numbers are their own keys
pub map_itself : (ns : List ℕ) → map (λ n. n) ns ≡ ns
map_itself [] = refl
map_itself (n ∷ ns) = ap (λ (ms : List ℕ). n ∷ ms) (map_itself ns)
