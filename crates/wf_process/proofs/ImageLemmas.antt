-- Elements of an image, one after another.
use Rattle.std.proofs.Common.{◌≡◌, ◌<◌, ◌+◌, ℕ, suc, List, ◌∷◌, length, get_or, drop, sym, ap, ◌∙◌, add-one, drop-cons}

-- what is left of a list, from an element on
pub next : {A : Type 0} (one : List A) (i : ℕ) (x : A) → i < length one → x ≡ get_or one i x → drop i one ≡ x ∷ drop (i + 1) one
next {A = A} one i x lt e =
    drop-cons one i x lt ∙ rw (add-one i) (ap (λ (y : A). y ∷ drop (suc i) one) (sym e))
