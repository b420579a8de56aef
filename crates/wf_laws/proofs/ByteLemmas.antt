-- Bytes of numbers, of words, and of pages.
use Rattle.std.proofs.Common.{◌≡◌, ◌≢◌, ◌<◌, ◌≤◌, ◌⊎◌, inl, inr, ℕ, ◌+◌, ◌-◌, ◌*◌, ◌/◌, ◌%◌, ◌^◌, List, length, sym, ap, ◌∙◌, arith, pow_pos, mod-lt}
use Rattle.std.specs.Prelude.{slice_index}
use Rattle.std.proofs.lemmas.Nat.{shr-shr, field_of, div-mul-add, mod-mul-add}
use Rattle.std.proofs.Math.Pow.{mod-mod-pow}
use Rattle.std.proofs.Math.Nat.{div-div-eq-div-mul, mul_assoc, mul_comm, add-mul}
use Rattle.std.proofs.lemmas.Bool.{cases_order}
use Rattle.std.proofs.lemmas.List.{get_or-set_same, get_or-set_other}
use Rattle.wf_flat.specs.Memory.{number_in, word_with, words_with}
use Rattle.wf_laws.specs.Bytes.{byte_of}

-- a byte below the place where a number is cut off
pub byte_low : (n w i : ℕ) → i < w → byte_of (n % 2 ^ (8 * w)) i ≡ byte_of n i
byte_low n w i h =
    let d : ℕ = w - i - 1 in
    let e : 8 * w ≡ (8 * d + 8) + 8 * i = omega arith in
    ap (λ (a : ℕ). n % 2 ^ a / 2 ^ (8 * i) % 256) e ∙ ap (λ (a : ℕ). a % 256) (field_of n (8 * d + 8) (8 * i)) ∙ mod-mod-pow (n / 2 ^ (8 * i)) (8 * d) 8

-- and one above
pub byte_shift : (n k i : ℕ) → byte_of (n / 2 ^ (8 * k)) i ≡ byte_of n (k + i)
byte_shift n k i =
    let e : 8 * k + 8 * i ≡ 8 * (k + i) = omega arith in
    ap (λ (a : ℕ). a % 256) (shr-shr n (8 * k) (8 * i)) ∙ ap (λ (a : ℕ). n / 2 ^ a % 256) e

-- a number of three parts
gathered : (h low span v r : ℕ) → h * (low * span) + v * low + r ≡ (h * span + v) * low + r
gathered h low span v r = grind (arith, mul_assoc, mul_comm, add-mul)

-- the bytes of a word in which some were put
record Parts (word b w value : ℕ) : Type 0 where
  below : word_with word b w value % 2 ^ (8 * b) ≡ word % 2 ^ (8 * b)
  within : word_with word b w value / 2 ^ (8 * b) % 2 ^ (8 * w) ≡ value % 2 ^ (8 * w)
  above : word_with word b w value / 2 ^ (8 * b) / 2 ^ (8 * w) ≡ word / 2 ^ (8 * b) / 2 ^ (8 * w)

parts : (word b w value : ℕ) → Parts word b w value
parts word b w value =
    let low : ℕ = 2 ^ (8 * b) in
    let span : ℕ = 2 ^ (8 * w) in
    let high : ℕ = word / (low * span) in
    let e = gathered high low span (value % span) (word % low) in
    let r : word % low < low = mod-lt word (pow_pos (8 * b)) in
    let v : value % span < span = mod-lt value (pow_pos (8 * w)) in
    let q : word_with word b w value / low ≡ high * span + value % span = ap (λ (n : ℕ). n / low) e ∙ div-mul-add (high * span + value % span) low (word % low) r in
    record {
      below = ap (λ (n : ℕ). n % low) e ∙ mod-mul-add (high * span + value % span) low (word % low) r;
      within = ap (λ (n : ℕ). n % span) q ∙ mod-mul-add high span (value % span) v;
      above = ap (λ (n : ℕ). n / span) q ∙ div-mul-add high span (value % span) v ∙ sym (div-div-eq-div-mul word low span);
    }

pub byte_below : (word b w value i : ℕ) → i < b → byte_of (word_with word b w value) i ≡ byte_of word i
byte_below word b w value i h =
    sym (byte_low (word_with word b w value) b i h) ∙ ap (λ (n : ℕ). byte_of n i) (parts word b w value).below ∙ byte_low word b i h

pub byte_within : (word b w value i : ℕ) → i < w → byte_of (word_with word b w value) (b + i) ≡ byte_of value i
byte_within word b w value i h =
    let n : ℕ = word_with word b w value in
    sym (byte_shift n b i) ∙ sym (byte_low (n / 2 ^ (8 * b)) w i h) ∙ ap (λ (n : ℕ). byte_of n i) (parts word b w value).within ∙ byte_low value w i h

pub byte_above : (word b w value i : ℕ) → byte_of (word_with word b w value) (b + (w + i)) ≡ byte_of word (b + (w + i))
byte_above word b w value i =
    let n : ℕ = word_with word b w value in
    sym (byte_shift n b (w + i)) ∙ sym (byte_shift (n / 2 ^ (8 * b)) w i) ∙ ap (λ (n : ℕ). byte_of n i) (parts word b w value).above
    ∙ byte_shift (word / 2 ^ (8 * b)) w i ∙ byte_shift word b (w + i)

-- the byte at a place of a page
abbrev pub byte_at : List ℕ → ℕ → ℕ
byte_at words at = number_in words at 1

-- the bytes of what is read
pub byte_read : (words : List ℕ) (at width i : ℕ) → at % 8 + width ≤ 8 → i < width → byte_of (number_in words at width) i ≡ byte_at words (at + i)
byte_read words at width i fits h =
    let same : (at + i) / 8 ≡ at / 8 = omega arith in
    let place : (at + i) % 8 ≡ at % 8 + i = omega arith in
    let word : ℕ = slice_index words (at / 8) in
    byte_low (word / 2 ^ (8 * (at % 8))) width i h ∙ byte_shift word (at % 8) i
    ∙ sym (ap (λ (n : ℕ). byte_of (slice_index words n) ((at + i) % 8)) same ∙ ap (byte_of word) place)

-- and of what is written: of those that are put
pub byte_put : (words : List ℕ) (at width value i : ℕ) → at / 8 < length words → at % 8 + width ≤ 8 → i < width → byte_at (words_with words at width value) (at + i) ≡ byte_of value i
byte_put words at width value i inside fits h =
    let same : (at + i) / 8 ≡ at / 8 = omega arith in
    let place : (at + i) % 8 ≡ at % 8 + i = omega arith in
    let word : ℕ = word_with (slice_index words (at / 8)) (at % 8) width value in
    ap (λ (n : ℕ). byte_of (slice_index (words_with words at width value) n) ((at + i) % 8)) same
    ∙ ap (λ (n : ℕ). byte_of n ((at + i) % 8)) (get_or-set_same words (at / 8) word 0 inside)
    ∙ ap (byte_of word) place ∙ byte_within (slice_index words (at / 8)) (at % 8) width value i h

-- and of those that stay
byte_same : (words : List ℕ) (at width value k : ℕ) → at / 8 < length words → k / 8 ≡ at / 8 → (k < at) ⊎ (at + width ≤ k) → byte_at (words_with words at width value) k ≡ byte_at words k
byte_same words at width value k inside same out =
    let word : ℕ = slice_index words (at / 8) in
    let n : ℕ = word_with word (at % 8) width value in
    ap (λ (n : ℕ). byte_of (slice_index (words_with words at width value) n) (k % 8)) same
    ∙ ap (λ (n : ℕ). byte_of n (k % 8)) (get_or-set_same words (at / 8) n 0 inside)
    ∙ by_place out ∙ ap (λ (n : ℕ). byte_of (slice_index words n) (k % 8)) (sym same)
  where
    by_place : (k < at) ⊎ (at + width ≤ k) → byte_of (word_with (slice_index words (at / 8)) (at % 8) width value) (k % 8) ≡ byte_of (slice_index words (at / 8)) (k % 8)
    by_place (inl under) = byte_below (slice_index words (at / 8)) (at % 8) width value (k % 8) (omega arith)
    by_place (inr over) =
        let i : ℕ = k % 8 - at % 8 - width in
        let e : k % 8 ≡ at % 8 + (width + i) = omega arith in
        ap (byte_of (word_with (slice_index words (at / 8)) (at % 8) width value)) e ∙ byte_above (slice_index words (at / 8)) (at % 8) width value i ∙ ap (byte_of (slice_index words (at / 8))) (sym e)

pub byte_kept : (words : List ℕ) (at width value k : ℕ) → at / 8 < length words → (k < at) ⊎ (at + width ≤ k) → byte_at (words_with words at width value) k ≡ byte_at words k
byte_kept words at width value k inside out = elim (cases_order (k / 8) (at / 8)) [
  | inl same ↦ byte_same words at width value k inside same out
  | inr other ↦ (let apart : k / 8 ≢ at / 8 = omega arith in ap (λ (n : ℕ). byte_of n (k % 8)) (get_or-set_other words (at / 8) (k / 8) (word_with (slice_index words (at / 8)) (at % 8) width value) 0 apart))
]
