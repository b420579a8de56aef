-- Lists of lines, compared line by line.
use Rattle.std.proofs.Common.{◌≡◌, ◌<◌, ◌+◌, ◌∷◌, ℕ, suc, List, length, drop, get_or, add-one, sym, ap, ◌∙◌, drop-cons}

-- what is left of a list, from an element on
pub next : {A : Type 0} (one : List A) (i : ℕ) (x : A) → i < length one → x ≡ get_or one i x → drop i one ≡ x ∷ drop (i + 1) one
next {A = A} one i x lt e =
    drop-cons one i x lt ∙ rw (add-one i) (ap (λ (y : A). y ∷ drop (suc i) one) (sym e))

-- lists that have the same first element, and the same behind it, are the same; and the other way round
pub both_next : (one other left rest behind more : List (List ℕ)) (line first : List ℕ) → left ≡ line ∷ more → rest ≡ first ∷ behind → line ≡ first
    → (left ≡ rest → one ≡ other) × (one ≡ other → left ≡ rest) → (more ≡ behind → one ≡ other) × (one ≡ other → more ≡ behind)
both_next one other left rest behind more line first l r same inv =
    ((λ e. inv.0 (l ∙ (rw (same, e) (sym r)))), (λ e. let k : line ∷ more ≡ first ∷ behind = sym l ∙ inv.1 e ∙ r in cc))

-- lists whose first elements differ are not the same
pub first_differs : (one other left rest behind more : List (List ℕ)) (line first : List ℕ) → left ≡ line ∷ more → rest ≡ first ∷ behind
    → (one ≡ other → left ≡ rest) → one ≡ other → line ≡ first
first_differs one other left rest behind more line first l r inv e = let k : line ∷ more ≡ first ∷ behind = sym l ∙ inv e ∙ r in cc
