-- One more number in a list, and harts that note pages, one after another.
use Rattle.std.proofs.Common.{◌≡◌, ◌<◌, ◌≤◌, ◌+◌, ℕ, zero, suc, List, [], ◌∷◌, length, get_or, set, map, refl, sym, ap, ◌∙◌, arith}
use Rattle.std.specs.List.{AllWithin, insert}
use Rattle.std.proofs.lemmas.List.{get_or-map}
use Rattle.wf_flat.specs.Lists.{with_number}
use Rattle.wf_flat.specs.State.{HartState}
use Rattle.wf_flat.proofs.RisingLemmas.{with_past, with_same, with_here}
use Rattle.wf_effects.specs.Effects.{new_moved, all_noted}
use Rattle.wf_effects.proofs.FrontLemmas.{others_to, others_more, other_old, length-others_to}

-- the number is there
pub number_there : (n : ℕ) (xs : List ℕ) (i d : ℕ) → i < length xs → AllWithin (λ m. m < n) xs 0 i → get_or xs i d ≡ n → xs ≡ with_number n xs
number_there n [] i d h below e = absurd (omega arith)
number_there n (x ∷ xs) zero d h below e = sym (with_same n x xs e)
number_there n (x ∷ xs) (suc i) d h below e =
    let first : x < n = below 0 d (omega arith) (omega arith) in
    ap (λ (ys : List ℕ). x ∷ ys) (number_there n xs i d (omega arith) (λ k e le lt. below (suc k) e (omega arith) (omega arith)) e)
    ∙ sym (with_past n x xs first)

-- it is to stand at i
pub number_new : (n : ℕ) (xs : List ℕ) (i d : ℕ) → i ≤ length xs → AllWithin (λ m. m < n) xs 0 i → (i < length xs → n < get_or xs i d) → insert xs i n ≡ with_number n xs
number_new n [] zero d h below above = refl
number_new n [] (suc i) d h below above = absurd (omega arith)
number_new n (x ∷ xs) zero d h below above = sym (with_here n x xs (above (omega arith)))
number_new n (x ∷ xs) (suc i) d h below above =
    let first : x < n = below 0 d (omega arith) (omega arith) in
    ap (λ (ys : List ℕ). x ∷ ys) (number_new n xs i d (omega arith) (λ k e le lt. below (suc k) e (omega arith) (omega arith)) (λ lt. above (omega arith)))
    ∙ sym (with_past n x xs first)

-- one more hart notes the pages
pub noted_next : (pages : List ℕ) (but i : ℕ) (harts now : List HartState) (all left : List (List ℕ)) (d new : HartState) (m : List ℕ) → i < length now → (i ≡ but → ⊥) → now ≡ others_to (all_noted pages) but i harts → all ≡ map (new_moved pages) harts
    → get_or left i m ≡ get_or all i m → new ≡ record (get_or now i d) { moved = get_or left i m } → set now i new ≡ others_to (all_noted pages) but (i + 1) harts
noted_next pages but i harts now all left d new m h apart e is same at =
    let lt : i < length harts = omega (arith, h, ap length e, length-others_to (all_noted pages) but i harts) in
    let old : get_or now i d ≡ get_or harts i d = ap (λ (xs : List HartState). get_or xs i d) e ∙ other_old (all_noted pages) but i harts d lt in
    let m_is : get_or left i m ≡ new_moved pages (get_or now i d) = same ∙ ap (λ (ms : List (List ℕ)). get_or ms i m) is ∙ get_or-map (new_moved pages) harts i d m lt ∙ sym (ap (new_moved pages) old) in
    others_more (all_noted pages) but i harts now d new h apart e (at ∙ ap (λ (moved : List ℕ). (let x : HartState = record (get_or now i d) { moved = moved } in x)) m_is)
