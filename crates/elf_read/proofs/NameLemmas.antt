-- The places of zero bytes.
use Rattle.std.proofs.Common.{◌≡◌, ◌<◌, ◌≤◌, ℕ, zero, suc, ◌+◌, ◌-◌, ◌==◌, List, [], ◌∷◌, Bool, true, false, cond, length, get_or, drop, refl, sym, ap, subst, ◌∙◌, inl, inr, arith, add-zero, zero-add, ◌⊎◌}
use Rattle.std.proofs.lemmas.Bool.{cases_order}
use Rattle.std.proofs.lemmas.Grind.{get_or_default_zero}
use Rattle.std.proofs.lemmas.List.{get_or-drop, length-drop}
use Rattle.std.proofs.lemmas.List.Sums.{position_or_len_is}
use Rattle.std.proofs.lemmas.Bool.Decides.{nat_tests}
use Rattle.std.specs.List.{position_or_len}
use Rattle.std.specs.List.{AllByRecursion}
use Rattle.wf_outside.specs.Lists.{IsRising}
use Rattle.wf_outside.proofs.RisingLemmas.{rising_at}
use Rattle.elf_read.specs.Names.{zeros_from, IsFirstFrom}

-- z is the place of a zero byte of xs, whose first byte has place n
pub record IsZeroAt (n : ℕ) (xs : List ℕ) (z : ℕ) : Type 0 where
  pub from : n ≤ z
  pub within : z < n + length xs
  pub zero_byte : get_or xs (z - n) 1 ≡ 0

later : (n b : ℕ) (bs : List ℕ) (z : ℕ) → IsZeroAt (suc n) bs z → IsZeroAt n (b ∷ bs) z
later n b bs z there =
    let e : z - n ≡ suc (z - suc n) = omega arith in
    record {
      from = omega arith;
      within = omega arith;
      zero_byte = rw e there.zero_byte;
    }

there-cons : (n b : ℕ) (bs : List ℕ) (t : Bool) → (b == 0) ≡ t → ((k : ℕ) → k < length (zeros_from (suc n) bs) → IsZeroAt (suc n) bs (get_or (zeros_from (suc n) bs) k 0)) → (k : ℕ) → k < length (cond t (n ∷ zeros_from (suc n) bs) (zeros_from (suc n) bs)) → IsZeroAt n (b ∷ bs) (get_or (cond t (n ∷ zeros_from (suc n) bs) (zeros_from (suc n) bs)) k 0)
there-cons n b bs true e rest zero h =
    let z : n - n ≡ 0 = omega arith in
    record { from = omega arith; within = omega arith; zero_byte = rw z (grind (arith, nat_tests)) }
there-cons n b bs true e rest (suc k) h = later n b bs _ (rest k (omega arith))
there-cons n b bs false e rest k h = later n b bs _ (rest k h)

-- each is the place of a zero byte
pub zero_there : (n : ℕ) (xs : List ℕ) (k : ℕ) → k < length (zeros_from n xs) → IsZeroAt n xs (get_or (zeros_from n xs) k 0)
zero_there n [] k h = absurd (omega arith)
zero_there n (b ∷ bs) k h = there-cons n b bs (b == 0) refl (zero_there (suc n) bs) k h

-- a number below the first place is below all
above-cons : (m n : ℕ) (bs : List ℕ) (t : Bool) → m < n → AllByRecursion (λ k. m < k) (zeros_from (suc n) bs) → AllByRecursion (λ k. m < k) (cond t (n ∷ zeros_from (suc n) bs) (zeros_from (suc n) bs))
above-cons m n bs true h rest = (h, rest)
above-cons m n bs false h rest = rest

above : (m n : ℕ) (bs : List ℕ) → m < n → AllByRecursion (λ k. m < k) (zeros_from n bs)
above m n [] h = tt
above m n (b ∷ bs) h = above-cons m n bs (b == 0) h (above m (suc n) bs (omega arith))

rising-cons : (n : ℕ) (bs : List ℕ) (t : Bool) → IsRising (zeros_from (suc n) bs) → IsRising (cond t (n ∷ zeros_from (suc n) bs) (zeros_from (suc n) bs))
rising-cons n bs true rest = (above n (suc n) bs (omega arith), rest)
rising-cons n bs false rest = rest

-- they rise
pub zeros_rise : (n : ℕ) (xs : List ℕ) → IsRising (zeros_from n xs)
zeros_rise n [] = tt
zeros_rise n (b ∷ bs) = rising-cons n bs (b == 0) (zeros_rise (suc n) bs)

-- a number of a place among them
pub record IsAmong (zs : List ℕ) (z : ℕ) : Type 0 where
  pub number : ℕ
  pub within : number < length zs
  pub is : get_or zs number 0 ≡ z

found-here : (n b : ℕ) (bs : List ℕ) (t : Bool) → (b == 0) ≡ t → b ≡ 0 → IsAmong (cond t (n ∷ zeros_from (suc n) bs) (zeros_from (suc n) bs)) n
found-here n b bs true e h = record { number = 0; within = omega arith; is = refl }
found-here n b bs false e h = absurd (grind (arith, nat_tests))

found-later : (n : ℕ) (bs : List ℕ) (t : Bool) (z : ℕ) → IsAmong (zeros_from (suc n) bs) z → IsAmong (cond t (n ∷ zeros_from (suc n) bs) (zeros_from (suc n) bs)) z
found-later n bs true z there = record { number = suc there.number; within = omega (arith, there.within); is = there.is }
found-later n bs false z there = there

-- each zero byte is there
pub zero_found : (n : ℕ) (xs : List ℕ) (i : ℕ) → i < length xs → get_or xs i 0 ≡ 0 → IsAmong (zeros_from n xs) (n + i)
zero_found n [] i h e = absurd (omega arith)
zero_found n (b ∷ bs) zero h e = rw (add-zero n) (found-here n b bs (b == 0) refl e)
zero_found n (b ∷ bs) (suc i) h e =
    let next : n + suc i ≡ suc n + i = omega arith in
    rw next (found-later n bs (b == 0) (suc n + i) (zero_found (suc n) bs i (omega arith) e))

-- a zero byte between a place and the first zero byte from there on would have a number
none_between : (xs : List ℕ) (at i j m : ℕ) → IsFirstFrom (zeros_from 0 xs) at i → at ≤ j → (i < length (zeros_from 0 xs) → j < get_or (zeros_from 0 xs) i 0) → m < length (zeros_from 0 xs) → get_or (zeros_from 0 xs) m 0 ≡ j → (m ≡ i) ⊎ ((m < i) ⊎ (i < m)) → ⊥
none_between xs at i j m first low high h e (inl l) =
    let here : get_or (zeros_from 0 xs) m 0 ≡ get_or (zeros_from 0 xs) i 0 = ap (λ (k : ℕ). get_or (zeros_from 0 xs) k 0) l in
    omega (arith, high (omega arith))
none_between xs at i j m first low high h e (inr (inl l)) = omega (arith, first.before m l)
none_between xs at i j m first low high h e (inr (inr l)) = omega (arith, rising_at (zeros_from 0 xs) i m (zeros_rise 0 xs) l h, high (omega arith))

-- no byte between them is a zero byte
no_zero_between : (xs : List ℕ) (at i j : ℕ) → IsFirstFrom (zeros_from 0 xs) at i → at ≤ j → j < length xs → (i < length (zeros_from 0 xs) → j < get_or (zeros_from 0 xs) i 0) → get_or xs j 0 ≡ 0 → ⊥
no_zero_between xs at i j first low within high e =
    let found = zero_found 0 xs j within e in
    none_between xs at i j found.number first low high found.within (found.is ∙ zero-add j) (cases_order found.number i)

not_zero : (b : ℕ) → (b ≡ 0 → ⊥) → (b == 0) ≡ false
not_zero b h = grind (arith, nat_tests)

-- the zero byte that is found first ends the name
pub name_ends : (xs : List ℕ) (at i : ℕ) → IsFirstFrom (zeros_from 0 xs) at i → i < length (zeros_from 0 xs) → position_or_len (λ b. b == 0) (drop at xs) ≡ get_or (zeros_from 0 xs) i 0 - at
name_ends xs at i first h =
    let z : ℕ = get_or (zeros_from 0 xs) i 0 in
    let there : IsZeroAt 0 xs z = zero_there 0 xs i h in
    let within : z < length xs = omega (arith, there.within) in
    let low : at ≤ z = first.behind i (omega arith) h in
    position_or_len_is (λ b. b == 0) (drop at xs) (z - at) 0
    (omega (arith, there.within, length-drop at xs))
    (λ k l. rw get_or-drop (not_zero _ (no_zero_between xs at i (at + k) first (omega arith) (omega (arith, there.within)) (λ _. omega arith))))
    (λ l. let e : at + (z - at) ≡ z = omega arith in
    let from_start : z - 0 ≡ z = omega arith in
    let zero_byte : get_or xs z 0 ≡ 0 = sym (get_or_default_zero xs z 1 within) ∙ sym (ap (λ (k : ℕ). get_or xs k 1) from_start) ∙ there.zero_byte in
    rw (get_or-drop, e, zero_byte) refl)

-- where no zero byte is found, the name has all bytes that are left
pub name_goes_on : (xs : List ℕ) (at i : ℕ) → IsFirstFrom (zeros_from 0 xs) at i → length (zeros_from 0 xs) ≤ i → position_or_len (λ b. b == 0) (drop at xs) ≡ length xs - at
name_goes_on xs at i first h =
    position_or_len_is (λ b. b == 0) (drop at xs) (length xs - at) 0
    (omega (arith, length-drop at xs))
    (λ k l. rw get_or-drop (not_zero _ (no_zero_between xs at i (at + k) first (omega arith) (omega arith) (λ m. absurd (omega arith)))))
    (λ l. absurd (omega (arith, length-drop at xs)))

-- what a binary search finds is the first
pub first_found : (places : List ℕ) (at i : ℕ) → IsRising places → i < length places → get_or places i 0 ≡ at → IsFirstFrom places at i
first_found places at i rising h e = record {
  bound = omega arith;
  before = λ k l. omega (arith, rising_at places k i rising l h);
  behind = λ k l m. elim (cases_order k i) [
    | inl same ↦ (let here : get_or places k 0 ≡ get_or places i 0 = ap (λ (n : ℕ). get_or places n 0) same in omega arith)
    | inr (inl less) ↦ absurd (omega arith)
    | inr (inr more) ↦ omega (arith, rising_at places i k rising more m)
  ];
}

-- the length of a name, where its end was found
pub named : (zs xs : List ℕ) (at i z : ℕ) → zs ≡ zeros_from 0 xs → IsFirstFrom zs at i → i < length zs → z ≡ get_or zs i z → z - at ≡ position_or_len (λ b. b == 0) (drop at xs)
named zs xs at i z e =
    subst (λ (ps : List ℕ). IsFirstFrom ps at i → i < length ps → z ≡ get_or ps i z → z - at ≡ position_or_len (λ b. b == 0) (drop at xs)) (sym e)
    (λ first h is. ap (λ (k : ℕ). k - at) (is ∙ get_or_default_zero (zeros_from 0 xs) i z h) ∙ sym (name_ends xs at i first h))

-- the same, where there is none
pub unnamed : (zs xs : List ℕ) (at i : ℕ) → zs ≡ zeros_from 0 xs → IsFirstFrom zs at i → length zs ≤ i → length xs - at ≡ position_or_len (λ b. b == 0) (drop at xs)
unnamed zs xs at i e =
    subst (λ (ps : List ℕ). IsFirstFrom ps at i → length ps ≤ i → length xs - at ≡ position_or_len (λ b. b == 0) (drop at xs)) (sym e)
    (λ first h. sym (name_goes_on xs at i first h))

pub ruleset names = (named, unnamed)
