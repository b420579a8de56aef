-- The words of a node that are stored one after another.
use Rattle.std.proofs.Common.{◌≡◌, ◌⊎◌, ◌<◌, ◌%◌, ℕ, zero, suc, List, [], ◌∷◌, Bool, true, false, length, refl, sym, ap, subst, ◌∙◌, inl, inr, arith, length-set, if◌then◌else◌}
use Rattle.std.specs.Prelude.{replicate, slice_index, slice_set}
use Rattle.std.specs.List.{AllByRecursion, fold}
use Rattle.wf_views.specs.declared.view.TextAt.{TextAt}
use Rattle.wf_homes.proofs.ListLemmas.{one_or_two, true_or_false}
use Rattle.wf_homes.proofs.PlaceLemmas.{stored_other, stored_same}
use Rattle.wf_mapping.specs.declared.nodes.NewNode.{NewNode}
use Rattle.wf_mapping.specs.Blanks.{zeros}
use Rattle.wf_mapping.specs.Plans.{is_below}
use Rattle.wf_creating.specs.Plans.{has_leaf}

-- some element is it
abbrev pub AnyIs : {A : Type 0} → (A → Type 0) → List A → Type 0
AnyIs P [] = ⊥
AnyIs P (x ∷ xs) = P x ⊎ AnyIs P xs

pub zero_at : (n k : ℕ) → slice_index (zeros n) k ≡ 0
unfolding zeros
zero_at n k = of_copies n k
  where
    of_copies : (n k : ℕ) → slice_index (replicate n 0) k ≡ 0
    of_copies zero k = refl
    of_copies (suc n) zero = refl
    of_copies (suc n) (suc k) = of_copies n k

-- one word after elements were put, each of which hits it with this value, or misses it
module _ {X : Type 0} (f : List ℕ → X → List ℕ) (test : X → Bool) (place value : X → ℕ) (is : (ws : List ℕ) (x : X) → f ws x ≡ (if test x then slice_set ws (place x) (value x) else ws)) (i v : ℕ) where
  -- it is hit
  pub record Hits (x : X) : Type 0 where
    pub passes : test x ≡ true
    pub there : place x ≡ i

  long : (ws : List ℕ) (x : X) → length (f ws x) ≡ length ws
  long ws x = ap length (is ws x) ∙ elim (true_or_false (test x)) [
    | inl t ↦ (rw t (length-set ws (place x) (value x)))
    | inr t ↦ (rw t refl)
  ]

  step : (ws : List ℕ) (x : X) → i < length ws → (Hits x → value x ≡ v) → (slice_index ws i ≡ v) ⊎ Hits x → slice_index (f ws x) i ≡ v
  step ws x lt each now = ap (λ (us : List ℕ). slice_index us i) (is ws x) ∙ elim (true_or_false (test x)) [
    | inl t ↦ (elim (one_or_two i (place x)) [
      | inl same ↦ (
          let w : value x ≡ v = each (record { passes = t; there = sym same }) in
          rw t (subst (λ (k : ℕ). slice_index (slice_set ws k (value x)) i ≡ v) same (stored_same ws i (value x) lt ∙ w))
          )
      | inr apart ↦ (rw t (stored_other ws (place x) i (value x) apart ∙ (elim now [
        | inl k ↦ k
        | inr h ↦ absurd (apart (sym h.there))
      ])))
    ])
    | inr t ↦ (rw t (elim now [
      | inl k ↦ k
      | inr h ↦ absurd (let k : true ≡ false = sym h.passes ∙ t in cc)
    ]))
  ]

  pub folded : (xs : List X) (ws : List ℕ) → i < length ws → AllByRecursion (λ x. Hits x → value x ≡ v) xs → (slice_index ws i ≡ v) ⊎ AnyIs Hits xs → slice_index (fold f ws xs) i ≡ v
  folded [] ws lt all (inl k) = k
  folded [] ws lt all (inr any) = absurd any
  folded (x ∷ xs) ws lt all now =
      let same : length (f ws x) ≡ length ws = long ws x in
      folded xs (f ws x) (omega arith) all.1 (next now)
    where
      next : (slice_index ws i ≡ v) ⊎ (Hits x ⊎ AnyIs Hits xs) → (slice_index (f ws x) i ≡ v) ⊎ AnyIs Hits xs
      next (inl k) = inl (step ws x lt all.0 (inl k))
      next (inr (inl h)) = inl (step ws x lt all.0 (inr h))
      next (inr (inr any)) = inr any

-- the pointer to a node below
abbrev pub IsPointedAt : NewNode → ℕ → NewNode → Type 0
IsPointedAt above i n = (is_below above n ≡ true) × (n.node.prefix % 512 ≡ i)

-- the leaf of a page of text
abbrev pub IsLeafAt : NewNode → ℕ → TextAt → Type 0
IsLeafAt above i t = (has_leaf above t ≡ true) × (t.page % 512 ≡ i)
