-- Bytes of a word.
use Rattle.std.proofs.Common.{◌≡◌, ◌⊎◌, ◌<◌, ◌≤◌, ◌+◌, ◌-◌, ◌*◌, ◌/◌, ◌%◌, ◌^◌, ℕ, ap, arith, inl, inr}
use Rattle.std.proofs.Math.Nat.{add-mul, mul_assoc, mul_comm, mul-le-mul_right, div-div-eq-div-mul, div-mul-le_self}
use Rattle.std.proofs.lemmas.Bool.{cases_lt}
use Rattle.std.proofs.lemmas.Nat.{pow-add, pow_pos}
use Rattle.wf_flat.specs.Serving.{IsPlace}

-- a quotient is below n where the number is below n times the divisor
div_below : (x y n : ℕ) → x < n * y → x / y < n
div_below x y n h = elim (cases_lt (x / y) n) [
  | inl lt ↦ lt
  | inr le ↦ (
      let a : n * y ≤ x / y * y = mul-le-mul_right y le in
      let b : x / y * y ≤ x = div-mul-le_self x y in
      absurd (omega arith)
      )
]

-- bytes in the midst of a word fit
mid_fits : (word value low span rest : ℕ) → 0 < low → 0 < span → word < rest * span * low → (word / low / span * span + value % span) * low + word % low < rest * span * low
mid_fits word value low span rest l s h =
    let q = word / low / span in
    let x = q * span + value % span in
    let a : word / low < rest * span = div_below word low (rest * span) h in
    let b : q < rest = div_below (word / low) span rest a in
    let v : value % span < span = omega arith in
    let r : word % low < low = omega arith in
    let m : (q + 1) * span ≤ rest * span = mul-le-mul_right span (omega arith) in
    let e = add-mul q 1 span in
    let k : x + 1 ≤ rest * span = omega arith in
    let n : (x + 1) * low ≤ rest * span * low = mul-le-mul_right low k in
    let f = add-mul x 1 low in
    omega arith

-- they stand between what is above them and below
pub mid_is : (word value low span : ℕ) → (word / low / span * span + value % span) * low + word % low ≡ word / (low * span) * (low * span) + value % span * low + word % low
mid_is word value low span =
    let a = add-mul (word / low / span * span) (value % span) low in
    let b = mul_assoc (word / low / span) span low in
    let c = mul_comm span low in
    let d = div-div-eq-div-mul word low span in
    cc

total : (a w : ℕ) → a + w ≤ 8 → 2 ^ (8 * (8 - a - w)) * 2 ^ (8 * w) * 2 ^ (8 * a) ≡ 2 ^ 64
total a w h =
    let e : 8 * (8 - a - w) + 8 * w + 8 * a ≡ 64 = omega arith in
    rw (← pow-add 2 (8 * (8 - a - w)) (8 * w)) (rw (← pow-add 2 (8 * (8 - a - w) + 8 * w) (8 * a)) (ap (λ (n : ℕ). 2 ^ n) e))

within : (at width : ℕ) → at < 8 → IsPlace at width → at + width ≤ 8
within at width h p = elim p.sized [
  | inl e ↦ omega arith
  | inr o ↦ (elim o [
    | inl e ↦ (let k : at % 2 ≡ 0 = rw e at p.even in omega arith)
    | inr o ↦ (elim o [
      | inl e ↦ (let k : at % 4 ≡ 0 = rw e at p.even in omega arith)
      | inr e ↦ (let k : at % 8 ≡ 0 = rw e at p.even in omega arith)
    ])
  ])
]

pub word_fits : (word at width value low span : ℕ) → word < 2 ^ 64 → at < 8 → IsPlace at width → low ≡ 2 ^ (8 * at) → span ≡ 2 ^ (8 * width)
    → (word / low / span * span + value % span) * low + word % low < 2 ^ 64
word_fits word at width value low span fits lt place l s =
    let rest = 2 ^ (8 * (8 - at - width)) in
    let e : rest * span * low ≡ 2 ^ 64 = rw (l, s) (total at width (within at width lt place)) in
    let p : 0 < low = rw l (pow_pos (8 * at)) in
    let q : 0 < span = rw s (pow_pos (8 * width)) in
    let h : word < rest * span * low = rw e fits in
    rw (← e) (mid_fits word value low span rest p q h)

-- a place in a page is one in its word
pub place_in_word : (at width : ℕ) → IsPlace at width → IsPlace (at % 8) width
place_in_word at width p = record { sized = p.sized; even = even p.sized }
  where
    even : (width ≡ 1) ⊎ ((width ≡ 2) ⊎ ((width ≡ 4) ⊎ (width ≡ 8))) → at % 8 % width ≡ 0
    even (inl e) = rw e (omega arith)
    even (inr (inl e)) = rw e (let k : at % 2 ≡ 0 = rw e at p.even in omega arith)
    even (inr (inr (inl e))) = rw e (let k : at % 4 ≡ 0 = rw e at p.even in omega arith)
    even (inr (inr (inr e))) = rw e (let k : at % 8 ≡ 0 = rw e at p.even in omega arith)

-- a place of an address is one in its page
pub place_in_page : (at width : ℕ) → IsPlace at width → IsPlace (at % 4096) width
place_in_page at width p = record { sized = p.sized; even = even p.sized }
  where
    even : (width ≡ 1) ⊎ ((width ≡ 2) ⊎ ((width ≡ 4) ⊎ (width ≡ 8))) → at % 4096 % width ≡ 0
    even (inl e) = rw e (omega arith)
    even (inr (inl e)) = rw e (let k : at % 2 ≡ 0 = rw e at p.even in omega arith)
    even (inr (inr (inl e))) = rw e (let k : at % 4 ≡ 0 = rw e at p.even in omega arith)
    even (inr (inr (inr e))) = rw e (let k : at % 8 ≡ 0 = rw e at p.even in omega arith)

pub ruleset places = (place_in_word, place_in_page)
