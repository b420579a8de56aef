-- A list by rising numbers of its elements: the element of a number, a search, a change of one element, and one more.
use Rattle.std.proofs.Common.{◌≡◌, ◌==◌, ◌<◌, ◌≤◌, ℕ, zero, suc, List, [], ◌∷◌, Option, Some, None, Ok, Err, length, get_or, map, refl, sym, ap, ◌∙◌, arith, inl, inr, slice_get, slice_set, is_some, true, false, Bool, subst}
use Rattle.std.specs.Option.{option_map}
use Rattle.std.specs.List.{insert, AllByRecursion}
use Rattle.std.specs.Ordering.{nat_cmp, ordering_index}
use Rattle.std.specs.declared.cmp.Ordering.TheVariants.{Equal, Less, Greater}
use Rattle.std.specs.List.Sorted.{IsBinarySearchResult}
use Rattle.std.proofs.lemmas.Bool.{cases_order, cases_lt}
use Rattle.std.proofs.lemmas.Bool.Decides.{nat_tests}
use Rattle.std.proofs.lemmas.Option.{slice_get_cases, slice_get-get_or}
use Rattle.wf_outside.specs.Lists.{IsRising}
use Rattle.wf_flat.specs.Lists.{found_by, changed_by, inserted_by, with_number}
use Rattle.wf_flat.specs.Memory.{met_key, has_met, with_met, data_in}
use Rattle.wf_outside.proofs.RisingLemmas.{all_at, rising_le}
use Rattle.wf_flat.proofs.RisingLemmas.{with_past, with_here, IsRising-with_number}
use Rattle.wf_flat.specs.State.{PageState}

module _ {A : Type 0} (key : A → ℕ) where
  found_past : (x : A) (xs : List A) (n : ℕ) → (key x ≡ n → ⊥) → found_by key (x ∷ xs) n ≡ found_by key xs n
  found_past x xs n h = grind (arith, nat_tests)

  found_here : (x : A) (xs : List A) (n : ℕ) → key x ≡ n → found_by key (x ∷ xs) n ≡ Some x
  found_here x xs n h = grind (arith, nat_tests)

  pub key_at : (xs : List A) (k : ℕ) (d : A) → k < length xs → get_or (map key xs) k 0 ≡ key (get_or xs k d)
  key_at [] k d h = absurd (omega arith)
  key_at (x ∷ xs) zero d h = refl
  key_at (x ∷ xs) (suc k) d h = key_at xs k d (omega arith)

  length_keys : (xs : List A) → length (map key xs) ≡ length xs
  length_keys [] = refl
  length_keys (x ∷ xs) = ap suc (length_keys xs)

  -- the element that stands at a place
  pub found_at : (xs : List A) (n i : ℕ) (d : A) → IsRising (map key xs) → i < length xs → key (get_or xs i d) ≡ n → found_by key xs n ≡ Some (get_or xs i d)
  found_at [] n i d up h e = absurd (omega arith)
  found_at (x ∷ xs) n zero d up h e = found_here x xs n e
  found_at (x ∷ xs) n (suc i) d up h e =
      let lt : key x < get_or (map key xs) i 0 = all_at (λ m. key x < m) (map key xs) i 0 up.0 (omega (arith, length_keys xs)) in
      let at : get_or (map key xs) i 0 ≡ key (get_or xs i d) = key_at xs i d (omega arith) in
      found_past x xs n (λ same. omega arith) ∙ found_at xs n i d up.1 (omega arith) e

  -- no element has the number
  pub not_found : (xs : List A) (n : ℕ) → ((k : ℕ) → k < length xs → get_or (map key xs) k 0 ≡ n → ⊥) → found_by key xs n ≡ None
  not_found [] n none = refl
  not_found (x ∷ xs) n none =
      found_past x xs n (none 0 (omega arith)) ∙ not_found xs n (λ k lt. none (suc k) (omega arith))

  keys_le : (xs : List A) → IsRising (map key xs) → (i j : ℕ) (d : A) → i ≤ j → j < length xs → key (get_or xs i d) ≤ key (get_or xs j d)
  keys_le xs up i j d le h =
      let a : get_or (map key xs) i 0 ≡ key (get_or xs i d) = key_at xs i d (omega arith) in
      let b : get_or (map key xs) j 0 ≡ key (get_or xs j d) = key_at xs j d h in
      let k : get_or (map key xs) i 0 ≤ get_or (map key xs) j 0 = rising_le (map key xs) up i j le (omega (arith, length_keys xs)) in
      omega arith

cmp_equal : (a b : ℕ) → nat_cmp a b ≡ Equal → a ≡ b
cmp_equal a b h = grind (arith, nat_tests)

cmp_less : (a b : ℕ) → nat_cmp a b ≡ Less → a < b
cmp_less a b h = grind (arith, nat_tests)

cmp_greater : (a b : ℕ) → nat_cmp a b ≡ Greater → b < a
cmp_greater a b h = grind (arith, nat_tests)

index_le : (a b n : ℕ) → a ≤ b → ordering_index (nat_cmp a n) ≤ ordering_index (nat_cmp b n)
index_le a b n h = grind (arith, nat_tests)

module _ {A : Type 0} (key : A → ℕ) where
  -- a search finds an element
  pub key_searched : (xs : List A) (n i : ℕ) → IsRising (map key xs) → i < length xs → IsBinarySearchResult (λ x. nat_cmp (key x) n) xs (Ok i) → found_by key xs n ≡ slice_get xs i
  key_searched xs n i up h r = elim (slice_get_cases xs i).1 [
    | inl w ↦ found_at key xs n i w.0 up h (cmp_equal _ _ (r w.0)) ∙ sym (slice_get-get_or xs i w.0 h)
    | inr w ↦ absurd (omega arith)
  ]

  -- a search finds the place where one would stand
  pub key_parted : (xs : List A) (n i : ℕ) → IsRising (map key xs) → IsBinarySearchResult (λ x. nat_cmp (key x) n) xs (Err i)
      → ((k : ℕ) (d : A) → k < i → k < length xs → key (get_or xs k d) < n) × ((k : ℕ) (d : A) → i ≤ k → k < length xs → n < key (get_or xs k d))
  key_parted xs n i up h =
      let w = h (λ a b d le lt. index_le (key (get_or xs a d)) (key (get_or xs b d)) n (keys_le key xs up a b d le lt)) in
      ((λ k d lt within. cmp_less _ _ (w.0 k d (omega arith) lt)), (λ k d le within. cmp_greater _ _ (w.1 k d le within)))

  past_all : (xs : List A) (n : ℕ) → ((k : ℕ) (d : A) → k < length xs → key (get_or xs k d) ≡ n → ⊥) → found_by key xs n ≡ None
  past_all [] n none = refl
  past_all (x ∷ xs) n none =
      found_past key x xs n (none 0 x (omega arith)) ∙ past_all xs n (λ k d lt. none (suc k) d (omega arith))

  pub key_missed : (xs : List A) (n i : ℕ) → IsRising (map key xs) → IsBinarySearchResult (λ x. nat_cmp (key x) n) xs (Err i) → found_by key xs n ≡ None
  key_missed xs n i up h =
      let w = key_parted xs n i up h in
      past_all xs n (λ k d lt same. elim (cases_lt k i) [
        | inl before ↦ (let m : key (get_or xs k d) < n = w.0 k d before lt in omega arith)
        | inr behind ↦ (let m : n < key (get_or xs k d) = w.1 k d behind lt in omega arith)
      ])

  inserted_past : (x y : A) (ys : List A) → key y < key x → inserted_by key x (y ∷ ys) ≡ y ∷ inserted_by key x ys
  inserted_past x y ys h = grind (arith, nat_tests)

  inserted_here : (x y : A) (ys : List A) → key x < key y → inserted_by key x (y ∷ ys) ≡ x ∷ y ∷ ys
  inserted_here x y ys h = grind (arith, nat_tests)

  inserted_at : (x : A) (xs : List A) (i : ℕ) → i ≤ length xs → ((k : ℕ) (d : A) → k < i → k < length xs → key (get_or xs k d) < key x) → ((k : ℕ) (d : A) → i ≤ k → k < length xs → key x < key (get_or xs k d))
      → inserted_by key x xs ≡ insert xs i x
  inserted_at x [] zero h below above = refl
  inserted_at x [] (suc i) h below above = absurd (omega arith)
  inserted_at x (y ∷ ys) zero h below above = inserted_here x y ys (above 0 y (omega arith) (omega arith))
  inserted_at x (y ∷ ys) (suc i) h below above =
      inserted_past x y ys (below 0 y (omega arith) (omega arith))
      ∙ ap (λ (zs : List A). y ∷ zs) (inserted_at x ys i (omega arith) (λ k d lt within. below (suc k) d (omega arith) (omega arith)) (λ k d le within. above (suc k) d (omega arith) (omega arith)))

  -- a search finds the place of one more
  pub key_inserted : (x : A) (xs : List A) (i : ℕ) → IsRising (map key xs) → i ≤ length xs → IsBinarySearchResult (λ y. nat_cmp (key y) (key x)) xs (Err i) → inserted_by key x xs ≡ insert xs i x
  key_inserted x xs i up h r = let w = key_parted xs (key x) i up r in inserted_at x xs i h w.0 w.1

pub there_is : {A : Type 0} (xs : List A) (i : ℕ) → i < length xs → is_some (slice_get xs i) ≡ true
there_is xs i h = elim (slice_get_cases xs i).1 [
  | inl w ↦ ap is_some w.2
  | inr w ↦ absurd (omega arith)
]

module _ {A : Type 0} (key : A → ℕ) where
  -- an element that was found has the number
  pub key_of_found : (xs : List A) (n : ℕ) (x : A) → found_by key xs n ≡ Some x → key x ≡ n
  key_of_found [] n x e = cc
  key_of_found (y ∷ ys) n x e = elim (cases_order (key y) n) [
    | inl same ↦ (let s = found_here key y ys n same in let k : y ≡ x = cc in rw (← k) same)
    | inr other ↦ (
        let differs : key y ≡ n → ⊥ = λ same. elim other [ inl lt ↦ omega arith | inr gt ↦ omega arith ] in
        let s = found_past key y ys n differs in
        key_of_found ys n x cc
        )
  ]

module _ {A : Type 0} (key : A → ℕ) (f : A → A) where
  changed_here : (x : A) (xs : List A) (n : ℕ) → key x ≡ n → changed_by key (x ∷ xs) n f ≡ f x ∷ changed_by key xs n f
  changed_here x xs n h = grind (arith, nat_tests)

  changed_past : (x : A) (xs : List A) (n : ℕ) → (key x ≡ n → ⊥) → changed_by key (x ∷ xs) n f ≡ x ∷ changed_by key xs n f
  changed_past x xs n h = grind (arith, nat_tests)

  -- where no element has the number, none changes
  pub changed_none : (xs : List A) (n : ℕ) → found_by key xs n ≡ None → changed_by key xs n f ≡ xs
  changed_none [] n e = refl
  changed_none (x ∷ xs) n e = elim (cases_order (key x) n) [
    | inl same ↦ (let s = found_here key x xs n same in absurd cc)
    | inr other ↦ (
        let differs : key x ≡ n → ⊥ = λ same. elim other [ inl lt ↦ omega arith | inr gt ↦ omega arith ] in
        let s = found_past key x xs n differs in
        changed_past x xs n differs ∙ ap (λ (ys : List A). x ∷ ys) (changed_none xs n cc)
        )
  ]

  changed_above : (xs : List A) (n : ℕ) → AllByRecursion (λ m. n < m) (map key xs) → changed_by key xs n f ≡ xs
  changed_above [] n up = refl
  changed_above (x ∷ xs) n up =
      let lt : n < key x = up.0 in
      changed_past x xs n (λ same. omega arith) ∙ ap (λ (ys : List A). x ∷ ys) (changed_above xs n up.1)

  changed_only : (xs : List A) (n i : ℕ) (d : A) → IsRising (map key xs) → i < length xs → key (get_or xs i d) ≡ n → slice_set xs i (f (get_or xs i d)) ≡ changed_by key xs n f
  changed_only [] n i d up h e = absurd (omega arith)
  changed_only (x ∷ xs) n zero d up h e = sym (changed_here x xs n e ∙ ap (λ (ys : List A). f x ∷ ys) (changed_above xs n (rw (← e) up.0)))
  changed_only (x ∷ xs) n (suc i) d up h e =
      let lt : key x < get_or (map key xs) i 0 = all_at (λ m. key x < m) (map key xs) i 0 up.0 (omega (arith, length_keys key xs)) in
      let at : get_or (map key xs) i 0 ≡ key (get_or xs i d) = key_at key xs i d (omega arith) in
      ap (λ (ys : List A). x ∷ ys) (changed_only xs n i d up.1 (omega arith) e) ∙ sym (changed_past x xs n (λ same. omega arith))

  -- the element that was found changes
  pub changed_found : (xs : List A) (n i : ℕ) (x y : A) → IsRising (map key xs) → i < length xs → found_by key xs n ≡ slice_get xs i → y ≡ f (get_or xs i x) → slice_set xs i y ≡ changed_by key xs n f
  changed_found xs n i x y up h found e =
      rw e (changed_only xs n i x up h (key_of_found key xs n (get_or xs i x) (found ∙ slice_get-get_or xs i x h)))

  -- numbers stay
  pub keys_changed : (xs : List A) (n : ℕ) → ((x : A) → key (f x) ≡ key x) → map key (changed_by key xs n f) ≡ map key xs
  keys_changed [] n same = refl
  keys_changed (x ∷ xs) n same = elim (cases_order (key x) n) [
    | inl e ↦ (ap (map key) (changed_here x xs n e) ∙ cons_is (same x) (keys_changed xs n same))
    | inr other ↦ (
        let differs : key x ≡ n → ⊥ = λ same. elim other [ inl lt ↦ omega arith | inr gt ↦ omega arith ] in
        ap (map key) (changed_past x xs n differs) ∙ cons_is refl (keys_changed xs n same)
        )
  ]
    where
      cons_is : {a b : ℕ} {ns ms : List ℕ} → a ≡ b → ns ≡ ms → a ∷ ns ≡ b ∷ ms
      cons_is p q = cc

  -- what is found afterwards
  pub found_changed : (xs : List A) (n : ℕ) → ((x : A) → key (f x) ≡ key x) → found_by key (changed_by key xs n f) n ≡ option_map f (found_by key xs n)
  found_changed [] n same = refl
  found_changed (x ∷ xs) n same = elim (cases_order (key x) n) [
    | inl e ↦ (ap (λ (ys : List A). found_by key ys n) (changed_here x xs n e) ∙ found_here key (f x) (changed_by key xs n f) n (same x ∙ e) ∙ sym (ap (option_map f) (found_here key x xs n e)))
    | inr other ↦ (
        let differs : key x ≡ n → ⊥ = λ same. elim other [ inl lt ↦ omega arith | inr gt ↦ omega arith ] in
        ap (λ (ys : List A). found_by key ys n) (changed_past x xs n differs) ∙ found_past key x (changed_by key xs n f) n differs ∙ found_changed xs n same ∙ sym (ap (option_map f) (found_past key x xs n differs))
        )
  ]

module _ {A : Type 0} (key : A → ℕ) where
  -- numbers with one more that is not there
  pub keys_inserted : (x : A) (xs : List A) → found_by key xs (key x) ≡ None → map key (inserted_by key x xs) ≡ with_number (key x) (map key xs)
  keys_inserted x [] e = refl
  keys_inserted x (y ∷ ys) e = elim (cases_order (key y) (key x)) [
    | inl same ↦ (let s = found_here key y ys (key x) same in absurd cc)
    | inr other ↦ (elim other [
      | inl lt ↦ (
          let s = found_past key y ys (key x) (λ same. omega arith) in
          ap (map key) (inserted_past key x y ys lt) ∙ ap (λ (ns : List ℕ). key y ∷ ns) (keys_inserted x ys cc) ∙ sym (with_past (key x) (key y) (map key ys) lt)
          )
      | inr gt ↦ (ap (map key) (inserted_here key x y ys gt) ∙ sym (with_here (key x) (key y) (map key ys) gt))
    ])
  ]

  -- they still rise
  pub rising_inserted : (x : A) (xs : List A) → IsRising (map key xs) → found_by key xs (key x) ≡ None → IsRising (map key (inserted_by key x xs))
  rising_inserted x xs up e = rw (keys_inserted x xs e) (IsRising-with_number (key x) (map key xs) up)

-- what was met still rises with one more
pub rising_met : (met : List (ℕ × ℕ)) (generation page : ℕ) → IsRising (map met_key met) → has_met met generation page ≡ false → IsRising (map met_key (with_met met generation page))
rising_met met generation page up unmet = rising_inserted met_key (generation, page) met up (none_of (found_by met_key met (met_key (generation, page))) unmet)
  where
    none_of : {A : Type 0} (o : Option A) → is_some o ≡ false → o ≡ None
    none_of None e = refl
    none_of (Some x) e = absurd cc

-- a list to which what was met was added
pub rising_added : (old seen added : List (ℕ × ℕ)) (generation page at : ℕ) → IsRising (map met_key old) → has_met old generation page ≡ false → seen ≡ old
    → added ≡ insert old at (generation, page) → with_met seen generation page ≡ insert seen at (generation, page) → IsRising (map met_key added)
rising_added old seen added generation page at up unmet same is with =
    let w = rw same at with in
    rw (is ∙ sym w) (rising_met old generation page up unmet)

-- a page of data that was found has the number that was looked for
number_by : (p : PageState) (pages : List PageState) (n : ℕ) (page : PageState) (b : Bool) → (p.number == n) ≡ b → (data_in pages n ≡ Some page → page.number ≡ n) → data_in (p ∷ pages) n ≡ Some page → page.number ≡ n
number_by p pages n page true t rest e =
    let f : data_in (p ∷ pages) n ≡ Some p = rw t refl in
    let same : p ≡ page = cc in
    let numbers : p.number ≡ n = grind (arith, nat_tests) in
    subst (λ (x : PageState). x.number ≡ n) same numbers
number_by p pages n page false t rest e =
    let f : data_in (p ∷ pages) n ≡ data_in pages n = rw t refl in
    rest (sym f ∙ e)

pub data_number : (pages : List PageState) (n : ℕ) (page : PageState) → data_in pages n ≡ Some page → page.number ≡ n
data_number [] n page e = absurd (cc)
data_number (p ∷ pages) n page e = number_by p pages n page (p.number == n) refl (data_number pages n page) e
