-- Four bytes of a page that are put, and others that stay.
use Rattle.std.proofs.Common.{◌≡◌, ◌≢◌, ◌<◌, ◌⊎◌, inl, inr, ℕ, ◌*◌, ◌/◌, ◌%◌, ◌^◌, List, length, sym, ap, subst, ◌∙◌, arith}
use Rattle.std.specs.Prelude.{slice_index}
use Rattle.std.proofs.lemmas.List.{get_or-set_same, get_or-set_other}
use Rattle.wf_flat.specs.Memory.{number_in, word_with, words_with}
use Rattle.wf_sound.proofs.AllLemmas.{one_or_two}

low_put : (word value : ℕ) → value < 2 ^ 32 → word_with word 0 4 value / 2 ^ (8 * 0) % 2 ^ (8 * 4) ≡ value
low_put word value small = omega arith

high_put : (word value : ℕ) → value < 2 ^ 32 → word_with word 4 4 value / 2 ^ (8 * 4) % 2 ^ (8 * 4) ≡ value
high_put word value small = omega arith

low_kept : (word value : ℕ) → word_with word 4 4 value / 2 ^ (8 * 0) % 2 ^ (8 * 4) ≡ word / 2 ^ (8 * 0) % 2 ^ (8 * 4)
low_kept word value = omega arith

high_kept : (word value : ℕ) → word_with word 0 4 value / 2 ^ (8 * 4) % 2 ^ (8 * 4) ≡ word / 2 ^ (8 * 4) % 2 ^ (8 * 4)
high_kept word value = omega arith

-- a multiple of 4 is at one of the two places of a word
place_in : (at : ℕ) → at % 4 ≡ 0 → (at % 8 ≡ 0) ⊎ (at % 8 ≡ 4)
place_in at even = elim (one_or_two (at % 8) 0) [
  | inl low ↦ inl low
  | inr high ↦ inr (omega arith)
]

half_put : (word value b : ℕ) → (b ≡ 0) ⊎ (b ≡ 4) → value < 2 ^ 32 → word_with word b 4 value / 2 ^ (8 * b) % 2 ^ (8 * 4) ≡ value
half_put word value b (inl e) small = subst (λ (b : ℕ). word_with word b 4 value / 2 ^ (8 * b) % 2 ^ (8 * 4) ≡ value) (sym e) (low_put word value small)
half_put word value b (inr e) small = subst (λ (b : ℕ). word_with word b 4 value / 2 ^ (8 * b) % 2 ^ (8 * 4) ≡ value) (sym e) (high_put word value small)

half_kept : (word value b c : ℕ) → (b ≡ 0) ⊎ (b ≡ 4) → (c ≡ 0) ⊎ (c ≡ 4) → b ≢ c → word_with word b 4 value / 2 ^ (8 * c) % 2 ^ (8 * 4) ≡ word / 2 ^ (8 * c) % 2 ^ (8 * 4)
half_kept word value b c (inl e) (inl f) apart = absurd (apart (e ∙ sym f))
half_kept word value b c (inr e) (inr f) apart = absurd (apart (e ∙ sym f))
half_kept word value b c (inl e) (inr f) apart =
    subst (λ (b : ℕ). word_with word b 4 value / 2 ^ (8 * c) % 2 ^ (8 * 4) ≡ word / 2 ^ (8 * c) % 2 ^ (8 * 4)) (sym e)
    (subst (λ (c : ℕ). word_with word 0 4 value / 2 ^ (8 * c) % 2 ^ (8 * 4) ≡ word / 2 ^ (8 * c) % 2 ^ (8 * 4)) (sym f) (high_kept word value))
half_kept word value b c (inr e) (inl f) apart =
    subst (λ (b : ℕ). word_with word b 4 value / 2 ^ (8 * c) % 2 ^ (8 * 4) ≡ word / 2 ^ (8 * c) % 2 ^ (8 * 4)) (sym e)
    (subst (λ (c : ℕ). word_with word 4 4 value / 2 ^ (8 * c) % 2 ^ (8 * 4) ≡ word / 2 ^ (8 * c) % 2 ^ (8 * 4)) (sym f) (low_kept word value))

-- the four bytes that were put
pub number_put : (words : List ℕ) (at value : ℕ) → at / 8 < length words → at % 4 ≡ 0 → value < 2 ^ 32 → number_in (words_with words at 4 value) at 4 ≡ value
number_put words at value inside even small =
    let word : ℕ = slice_index words (at / 8) in
    ap (λ (n : ℕ). n / 2 ^ (8 * (at % 8)) % 2 ^ (8 * 4)) (get_or-set_same words (at / 8) (word_with word (at % 8) 4 value) 0 inside)
    ∙ half_put word value (at % 8) (place_in at even) small

-- and others
number_beside : (words : List ℕ) (at value k : ℕ) → at / 8 < length words → k / 8 ≡ at / 8 → at % 4 ≡ 0 → k % 4 ≡ 0 → at ≢ k → number_in (words_with words at 4 value) k 4 ≡ number_in words k 4
number_beside words at value k inside same even other apart =
    let word : ℕ = slice_index words (at / 8) in
    let differ : at % 8 ≢ k % 8 = λ e. apart (omega arith) in
    ap (λ (n : ℕ). slice_index (words_with words at 4 value) n / 2 ^ (8 * (k % 8)) % 2 ^ (8 * 4)) same
    ∙ ap (λ (n : ℕ). n / 2 ^ (8 * (k % 8)) % 2 ^ (8 * 4)) (get_or-set_same words (at / 8) (word_with word (at % 8) 4 value) 0 inside)
    ∙ half_kept word value (at % 8) (k % 8) (place_in at even) (place_in k other) differ
    ∙ ap (λ (n : ℕ). slice_index words n / 2 ^ (8 * (k % 8)) % 2 ^ (8 * 4)) (sym same)

pub number_kept : (words : List ℕ) (at value k : ℕ) → at / 8 < length words → at % 4 ≡ 0 → k % 4 ≡ 0 → at ≢ k → number_in (words_with words at 4 value) k 4 ≡ number_in words k 4
number_kept words at value k inside even other apart = elim (one_or_two (k / 8) (at / 8)) [
  | inl same ↦ number_beside words at value k inside same even other apart
  | inr far ↦ ap (λ (n : ℕ). n / 2 ^ (8 * (k % 8)) % 2 ^ (8 * 4)) (get_or-set_other words (at / 8) (k / 8) (word_with (slice_index words (at / 8)) (at % 8) 4 value) 0 far)
]
