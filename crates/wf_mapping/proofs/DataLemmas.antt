-- New pages of data among those by rising number.
use Rattle.std.proofs.Common.{◌≡◌, ◌≤◌, ◌+◌, ◌==◌, ◌||◌, ◌++◌, ℕ, zero, suc, List, [], ◌∷◌, Bool, true, false, None, map, refl, sym, ap, ◌∙◌, inl, inr, arith, is_some, if◌then◌else◌}
use Rattle.std.specs.Prelude.{nat_lt}
use Rattle.std.specs.List.{AllByRecursion, filter, flat_map, list_any, range_with_len}
use Rattle.std.specs.Set.{is_member}
use Rattle.std.proofs.lemmas.Bool.Decides.{nat_tests}
use Rattle.wf_flat.specs.Lists.{inserted_by, sorted_by}
use Rattle.wf_flat.specs.Memory.{data_in}
use Rattle.wf_flat.specs.State.{FlatState, PageState}
use Rattle.wf_effects.specs.Effects.{mapped_page, mapped_pages}
use Rattle.wf_homes.specs.Homes.{DataOf, Tenant, has_tenant, node_tenants, same_tenant, text_tenants}
use Rattle.wf_homes.proofs.ListLemmas.{all_kept, all_more, true_or_false}
use Rattle.wf_homes.proofs.RecordedLemmas.{flip_test}
use Rattle.wf_space.proofs.LeftLemmas.{data_tenants, no_data_node, no_data_text, parts}
use Rattle.wf_mapping.proofs.TreeLemmas.{filter_both, filter_map}

module _ {A : Type 0} (key : A → ℕ) where
  -- none is below one before it
  abbrev NeverFalls : List A → Type 0
  NeverFalls [] = Unit {0}
  NeverFalls (x ∷ xs) = AllByRecursion (λ y. key x ≤ key y) xs × NeverFalls xs

  all_inserted : (P : A → Type 0) (x : A) (xs : List A) → P x → AllByRecursion P xs → AllByRecursion P (inserted_by key x xs)
  all_inserted P x [] h all = (h, tt)
  all_inserted P x (y ∷ ys) h all = elim (true_or_false (nat_lt (key y) (key x))) [
    | inl t ↦ (rw t (all.0, all_inserted P x ys h all.1))
    | inr t ↦ (rw t (h, all))
  ]

  falls_inserted : (x : A) (xs : List A) → NeverFalls xs → NeverFalls (inserted_by key x xs)
  falls_inserted x [] up = (tt, tt)
  falls_inserted x (y ∷ ys) up = elim (true_or_false (nat_lt (key y) (key x))) [
    | inl t ↦ (let le : key y ≤ key x = grind (arith, nat_tests) in rw t (all_inserted (λ z. key y ≤ key z) x ys le up.0, falls_inserted x ys up.1))
    | inr t ↦ (let le : key x ≤ key y = grind (arith, nat_tests) in rw t ((le, all_more (λ z. key y ≤ key z) (λ z. key x ≤ key z) (λ z l. omega arith) ys up.0), up))
  ]

  pub never_falls : (xs : List A) → NeverFalls (sorted_by key xs)
  never_falls [] = tt
  never_falls (x ∷ xs) = falls_inserted x (sorted_by key xs) (never_falls xs)

  pub inserted_front : (x : A) (xs : List A) → AllByRecursion (λ y. key x ≤ key y) xs → inserted_by key x xs ≡ x ∷ xs
  inserted_front x [] all = refl
  inserted_front x (y ∷ ys) all =
      let le : key x ≤ key y = all.0 in
      let t : nat_lt (key y) (key x) ≡ false = grind (arith, nat_tests) in
      rw t refl

  kept_inserted : (q : A → Bool) (x : A) (xs : List A) → NeverFalls xs → filter q (inserted_by key x xs) ≡ (if q x then inserted_by key x (filter q xs) else filter q xs)
  kept_inserted q x [] up = elim (true_or_false (q x)) [
    | inl t ↦ (rw t refl)
    | inr t ↦ (rw t refl)
  ]
  kept_inserted q x (y ∷ ys) up = elim (true_or_false (nat_lt (key y) (key x))) [
    | inl t ↦ (elim (true_or_false (q x)) [
      | inl u ↦ (
          let rest : filter q (inserted_by key x ys) ≡ inserted_by key x (filter q ys) = (let h : filter q (inserted_by key x ys) ≡ (if q x then inserted_by key x (filter q ys) else filter q ys) = kept_inserted q x ys up.1 in rw u at h) in
          elim (true_or_false (q y)) [
            | inl v ↦ (rw (t, u, v, t) (ap (λ (zs : List A). y ∷ zs) rest))
            | inr v ↦ (rw (t, u, v) rest)
          ]
          )
      | inr u ↦ (
          let rest : filter q (inserted_by key x ys) ≡ filter q ys = (let h : filter q (inserted_by key x ys) ≡ (if q x then inserted_by key x (filter q ys) else filter q ys) = kept_inserted q x ys up.1 in rw u at h) in
          elim (true_or_false (q y)) [
            | inl v ↦ (rw (t, u, v) (ap (λ (zs : List A). y ∷ zs) rest))
            | inr v ↦ (rw (t, u, v) rest)
          ]
          )
    ])
    | inr t ↦ (
        let le : key x ≤ key y = grind (arith, nat_tests) in
        let all : AllByRecursion (λ z. key x ≤ key z) (y ∷ ys) = (le, all_more (λ z. key y ≤ key z) (λ z. key x ≤ key z) (λ z l. omega arith) ys up.0) in
        elim (true_or_false (q x)) [
          | inl u ↦ (rw (t, u) (sym (inserted_front x (filter q (y ∷ ys)) (all_kept q (λ z. key x ≤ key z) (λ z. key x ≤ key z) (λ z e l. l) (y ∷ ys) all))))
          | inr u ↦ (rw (t, u) refl)
        ]
        )
  ]

  -- what is left of sorted elements are those that are left, sorted
  pub kept_sorted : (q : A → Bool) (xs : List A) → filter q (sorted_by key xs) ≡ sorted_by key (filter q xs)
  kept_sorted q [] = refl
  kept_sorted q (x ∷ xs) = kept_inserted q x (sorted_by key xs) (never_falls xs) ∙ elim (true_or_false (q x)) [
    | inl t ↦ (rw t (ap (inserted_by key x) (kept_sorted q xs)))
    | inr t ↦ (rw t (kept_sorted q xs))
  ]

  or_swap : (a b c : Bool) → (a || (b || c)) ≡ (b || (a || c))
  or_swap true true c = refl
  or_swap true false c = refl
  or_swap false b c = refl

  any_inserted : (p : A → Bool) (x : A) (xs : List A) → list_any p (inserted_by key x xs) ≡ (p x || list_any p xs)
  any_inserted p x [] = refl
  any_inserted p x (y ∷ ys) = elim (true_or_false (nat_lt (key y) (key x))) [
    | inl t ↦ (rw t (ap (λ (b : Bool). p y || b) (any_inserted p x ys) ∙ or_swap (p y) (p x) (list_any p ys)))
    | inr t ↦ (rw t refl)
  ]

  pub any_sorted : (p : A → Bool) (xs : List A) → list_any p (sorted_by key xs) ≡ list_any p xs
  any_sorted p [] = refl
  any_sorted p (x ∷ xs) = any_inserted p x (sorted_by key xs) ∙ ap (λ (b : Bool). p x || b) (any_sorted p xs)

abbrev pub number : PageState → ℕ
number page = page.number

-- pages that are mapped stand by rising number
mapped_from : (write : Bool) (page birth n low : ℕ) → low ≤ page → AllByRecursion (λ p. low ≤ p.number) (mapped_pages None write page birth n)
mapped_from write page birth zero low le = tt
mapped_from write page birth (suc n) low le = (le, mapped_from write (page + 1) (birth + 1) n low (omega arith))

pub mapped_sorted : (write : Bool) (page birth n : ℕ) → sorted_by number (mapped_pages None write page birth n) ≡ mapped_pages None write page birth n
mapped_sorted write page birth zero = refl
mapped_sorted write page birth (suc n) =
    ap (inserted_by number (mapped_page None write page birth)) (mapped_sorted write (page + 1) (birth + 1) n)
    ∙ inserted_front number (mapped_page None write page birth) (mapped_pages None write (page + 1) (birth + 1) n) (mapped_from write (page + 1) (birth + 1) n page (omega arith))

pub mapped_tenants : (write : Bool) (page birth n : ℕ) → data_tenants (mapped_pages None write page birth n) ≡ map DataOf (range_with_len page n)
mapped_tenants write page birth zero = refl
mapped_tenants write page birth (suc n) = ap (λ (ts : List Tenant). DataOf page ∷ ts) (mapped_tenants write (page + 1) (birth + 1) n)

-- a page of data is a tenant
data_member : (pages : List PageState) (n : ℕ) → is_member same_tenant (data_tenants pages) (DataOf n) ≡ is_some (data_in pages n)
data_member [] n = refl
data_member (p ∷ ps) n = elim (true_or_false (p.number == n)) [
  | inl t ↦ (let u : (n == p.number) ≡ true = flip_test p.number n true t in rw (t, u) refl)
  | inr t ↦ (let u : (n == p.number) ≡ false = flip_test p.number n false t in rw (t, u) (data_member ps n))
]

pub data_tenant : (s : FlatState) (n : ℕ) → has_tenant s (DataOf n) ≡ is_some (data_in s.pages n)
data_tenant s n =
    let a : is_member same_tenant (flat_map text_tenants s.gens) (DataOf n) ≡ false = no_data_text s.gens n in
    let b : is_member same_tenant (flat_map node_tenants s.gens) (DataOf n) ≡ false = no_data_node s.gens n in
    parts s (DataOf n)
    ∙ ap (λ (x : Bool). (x || is_member same_tenant (data_tenants s.pages) (DataOf n)) || is_member same_tenant (flat_map node_tenants s.gens) (DataOf n)) a
    ∙ ap (λ (x : Bool). is_member same_tenant (data_tenants s.pages) (DataOf n) || x) b
    ∙ or_false (is_member same_tenant (data_tenants s.pages) (DataOf n))
    ∙ data_member s.pages n
  where
    or_false : (x : Bool) → (x || false) ≡ x
    or_false true = refl
    or_false false = refl

-- of pages by rising number and those that are mapped now, those that are new are these
module _ (q : Tenant → Bool) (write : Bool) (page birth n : ℕ) where
  abbrev is_new : PageState → Bool
  is_new p = q (DataOf p.number)

  abbrev new : List PageState
  new = mapped_pages None write page birth n

  unmapped : (ps : List PageState) → filter q (data_tenants ps) ≡ [] → filter is_new ps ≡ []
  unmapped [] e = refl
  unmapped (p ∷ ps) e = elim (true_or_false (is_new p)) [
    | inl t ↦ absurd (let k : DataOf p.number ∷ filter q (data_tenants ps) ≡ [] = rw t at e in cc)
    | inr t ↦ (rw t (unmapped ps (rw t at e)))
  ]

  pub new_data : (pages : List PageState) → filter q (data_tenants pages) ≡ [] → filter q (map DataOf (range_with_len page n)) ≡ map DataOf (range_with_len page n)
      → filter q (data_tenants (sorted_by number (pages ++ mapped_pages None write page birth n))) ≡ map DataOf (range_with_len page n)
  new_data pages none all =
      filter_map q (λ (p : PageState). DataOf p.number) (sorted_by number (pages ++ new))
      ∙ ap data_tenants
      (kept_sorted number is_new (pages ++ new) ∙ ap (sorted_by number) (filter_both is_new pages new ∙ ap (λ (ps : List PageState). ps ++ filter is_new new) (unmapped pages none)) ∙ sym (kept_sorted number is_new new) ∙ ap (filter is_new) (mapped_sorted write page birth n))
      ∙ sym (filter_map q (λ (p : PageState). DataOf p.number) new)
      ∙ ap (filter q) (mapped_tenants write page birth n)
      ∙ all
