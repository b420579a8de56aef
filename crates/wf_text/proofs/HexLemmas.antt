-- The hexadecimal digits of a number, one by one.
use Rattle.std.proofs.Common.{◌≡◌, ◌<◌, ◌≤◌, ◌/◌, ◌%◌, ◌^◌, ◌++◌, ◌∷◌, [], ℕ, zero, suc, List, false, cond, eqb, refl, sym, ap, ◌∙◌, arith, append_assoc, inl, inr}
use Rattle.std.proofs.lemmas.Bool.{cases_lt}
use Rattle.std.proofs.lemmas.Bool.Decides.{nat_tests}
use Rattle.std.specs.Fmt.{digits, digits_onto, digit_glyph}

onto_cell : (k n : ℕ) (acc : List ℕ) → digits_onto (suc k) 16 false n acc ≡ cond (eqb (n / 16) 0) (digit_glyph false (n % 16) ∷ acc) (digits_onto k 16 false (n / 16) (digit_glyph false (n % 16) ∷ acc))
onto_cell k n acc = refl

onto_last : (k n : ℕ) (acc : List ℕ) → n / 16 ≡ 0 → digits_onto (suc k) 16 false n acc ≡ digit_glyph false (n % 16) ∷ acc
onto_last k n acc e = onto_cell k n acc ∙ ap (λ (m : ℕ). cond (eqb m 0) (digit_glyph false (n % 16) ∷ acc) (digits_onto k 16 false (n / 16) (digit_glyph false (n % 16) ∷ acc))) e

chosen_no : (m : ℕ) (x y : List ℕ) → 0 < m → cond (eqb m 0) x y ≡ y
chosen_no m x y h = grind (arith, nat_tests)

onto_next : (k n : ℕ) (acc : List ℕ) → 16 ≤ n → digits_onto (suc k) 16 false n acc ≡ digits_onto k 16 false (n / 16) (digit_glyph false (n % 16) ∷ acc)
onto_next k n acc h = onto_cell k n acc ∙ chosen_no (n / 16) (digit_glyph false (n % 16) ∷ acc) (digits_onto k 16 false (n / 16) (digit_glyph false (n % 16) ∷ acc)) (omega arith)

onto_append : (k n : ℕ) (acc : List ℕ) → digits_onto k 16 false n acc ≡ digits_onto k 16 false n [] ++ acc
onto_append zero n acc = refl
onto_append (suc k) n acc =
    elim (cases_lt n 16) [
      | inl lt ↦ onto_last k n acc (omega arith) ∙ ap (λ (xs : List ℕ). xs ++ acc) (sym (onto_last k n [] (omega arith)))
      | inr le ↦
          onto_next k n acc le ∙ onto_append k (n / 16) (digit_glyph false (n % 16) ∷ acc)
          ∙ sym (append_assoc (digits_onto k 16 false (n / 16) []) (digit_glyph false (n % 16) ∷ []) acc)
          ∙ ap (λ (xs : List ℕ). xs ++ acc) (sym (onto_next k n [] le ∙ onto_append k (n / 16) (digit_glyph false (n % 16) ∷ [])))
    ]

-- more room makes no difference
onto_enough : (j k n : ℕ) (acc : List ℕ) → n < 16 ^ suc j → n < 16 ^ suc k → digits_onto (suc j) 16 false n acc ≡ digits_onto (suc k) 16 false n acc
onto_enough zero k n acc p q = onto_last zero n acc (omega arith) ∙ sym (onto_last k n acc (omega arith))
onto_enough (suc j) zero n acc p q = onto_last (suc j) n acc (omega arith) ∙ sym (onto_last zero n acc (omega arith))
onto_enough (suc j) (suc k) n acc p q =
    elim (cases_lt n 16) [
      | inl lt ↦ onto_last (suc j) n acc (omega arith) ∙ sym (onto_last (suc k) n acc (omega arith))
      | inr le ↦ onto_next (suc j) n acc le ∙ onto_enough j k (n / 16) (digit_glyph false (n % 16) ∷ acc) (omega arith) (omega arith) ∙ sym (onto_next (suc k) n acc le)
    ]

digits_are : (n : ℕ) → digits 16 false n ≡ digits_onto 64 16 false n []
unfolding digits
digits_are n = refl

-- the last digit stands behind those of the rest
pub hex_step : (n : ℕ) → 16 ≤ n → n < 2 ^ 64 → digits 16 false n ≡ digits 16 false (n / 16) ++ digit_glyph false (n % 16) ∷ []
hex_step n h small =
    digits_are n ∙ onto_next 63 n [] h ∙ onto_enough 62 63 (n / 16) (digit_glyph false (n % 16) ∷ []) (omega arith) (omega arith)
    ∙ onto_append 64 (n / 16) (digit_glyph false (n % 16) ∷ []) ∙ ap (λ (xs : List ℕ). xs ++ digit_glyph false (n % 16) ∷ []) (sym (digits_are (n / 16)))
