-- Numbers of 1 to 8 bytes.
use Rattle.std.proofs.Common.{◌≡◌, ◌≤◌, ◌≤ℤ◌, ◌<ℤ◌, ◌-ℤ◌, ◌*◌, ◌-◌, ◌^◌, ◌⊎◌, inl, inr, ℕ, ℤ, pos, negsuc, zero, suc, Bool, true, false, None, refl, sym, ◌∙◌, arith}
use Rattle.std.proofs.lemmas.Int.{ints}
use Rattle.std.proofs.lemmas.Bool.Decides.{Decides-and, nat_tests}
use Rattle.std.proofs.lemmas.Bool.{cases_lt}
use Rattle.std.specs.Bool.{Decides}
use Rattle.std.specs.Prelude.{int_le, int_lt, min, nat_le}
use Rattle.std.specs.Int.{saturate_signed, w128}
use Rattle.asm_bytes.specs.Bytes.{has_room, number_bytes}

Decides-leb : (a b : ℕ) → Decides (nat_le a b) (a ≤ b)
Decides-leb a b = grind (arith, nat_tests)

Decides-int_le : (a b : ℤ) → Decides (int_le a b) (a ≤ℤ b)
Decides-int_le a b = grind (arith, ints)

Decides-int_lt : (a b : ℤ) → Decides (int_lt a b) (a <ℤ b)
Decides-int_lt a b = grind (arith, ints)

-- the powers of 2 that bound them
pub record ArePowers (width : ℕ) : Type 0 where
  pub twice : 2 ^ (8 * width) ≡ 2 * 2 ^ (8 * width - 1)
  pub bytes : 256 ^ width ≡ 2 ^ (8 * width)
  pub small : 2 ^ (8 * width - 1) ≤ 2 ^ 63

pub powers : (width : ℕ) → 1 ≤ width → width ≤ 8 → ArePowers width
powers zero low high = absurd (omega arith)
powers (suc zero) low high = record { twice = refl; bytes = refl; small = omega arith }
powers (suc (suc zero)) low high = record { twice = refl; bytes = refl; small = omega arith }
powers (suc (suc (suc zero))) low high = record { twice = refl; bytes = refl; small = omega arith }
powers (suc (suc (suc (suc zero)))) low high = record { twice = refl; bytes = refl; small = omega arith }
powers (suc (suc (suc (suc (suc zero))))) low high = record { twice = refl; bytes = refl; small = omega arith }
powers (suc (suc (suc (suc (suc (suc zero)))))) low high = record { twice = refl; bytes = refl; small = omega arith }
powers (suc (suc (suc (suc (suc (suc (suc zero))))))) low high = record { twice = refl; bytes = refl; small = omega arith }
powers (suc (suc (suc (suc (suc (suc (suc (suc zero)))))))) low high = record { twice = refl; bytes = refl; small = omega arith }
powers (suc (suc (suc (suc (suc (suc (suc (suc (suc n))))))))) low high = absurd (omega arith)

-- which numbers have room
room : (width : ℕ) (z : ℤ) → Decides (has_room width z) ((1 ≤ width) × (width ≤ 8) × ((pos 0 -ℤ pos (2 ^ (8 * width - 1))) ≤ℤ z) × (z <ℤ pos (2 ^ (8 * width))))
room width z =
    let whole = Decides-and _ _ (Decides-and _ _ (Decides-and _ _ (Decides-leb 1 width) (Decides-leb width 8)) (Decides-int_le _ z)) (Decides-int_lt z _) in
    (λ h. let f = whole.0 h in (f.0.0.0, f.0.0.1, f.0.1, f.1), λ f. whole.1 (((f.0, f.1), f.2), f.3))

-- a test whose fact is false
pub refuted : (test : Bool) (P : Type 0) → Decides test P → (P → ⊥) → test ≡ false
refuted true P d h = absurd (h (d.0 refl))
refuted false P d h = refl

-- a number of more than 64 bits has no room
big : (width : ℕ) (z : ℤ) → (z <ℤ (pos 0 -ℤ pos (2 ^ 64))) ⊎ (pos (2 ^ 64) ≤ℤ z) → number_bytes width z ≡ None
unfolding number_bytes
big width z far =
    let none : has_room width z ≡ false = refuted (has_room width z) _ (room width z) (λ h.
    let p : ArePowers width = powers width h.0 h.1 in
    omega (arith, ints, far, h.2, h.3, p.twice, p.small)) in
    rw none refl

-- the nearest number of 128 bits has the same bytes
pub saturated : (width : ℕ) (z : ℤ) → number_bytes width (saturate_signed w128 z) ≡ number_bytes width z
saturated width (pos n) = elim (cases_lt n (2 ^ 127)) [
  | inl small ↦ let e : min n (2 ^ 127 - 1) ≡ n = omega arith in rw e refl
  | inr large ↦ big width (pos (min n (2 ^ 127 - 1))) (inr (omega (arith, ints))) ∙ sym (big width (pos n) (inr (omega (arith, ints))))
]
saturated width (negsuc n) = elim (cases_lt n (2 ^ 127)) [
  | inl small ↦ let e : min n (2 ^ 127 - 1) ≡ n = omega arith in rw e refl
  | inr large ↦ big width (negsuc (min n (2 ^ 127 - 1))) (inl (omega (arith, ints))) ∙ sym (big width (negsuc n) (inl (omega (arith, ints))))
]
