-- Where sections end.
use Rattle.std.proofs.Common.{◌≡◌, ◌<◌, ◌≤◌, ◌+◌, ◌-◌, ◌*◌, ◌/◌, ◌%◌, ◌^◌, ◌⊎◌, ℕ, List, [], ◌∷◌, Bool, true, false, cond, ap, ◌∙◌, inl, inr, arith}
use Rattle.std.specs.Int.{next_multiple_of}
use Rattle.std.specs.List.{fold}
use Rattle.std.proofs.Math.Nat.{mod-eq_of_lt, mod-lt, mod_self, sub-zero}
use Rattle.std.proofs.lemmas.Bool.{cases_eq, cases_lt}
use Rattle.std.proofs.lemmas.Nat.{div-add-mod', mul-le}
use Rattle.elf_read.specs.declared.records.Section.{Section}
use Rattle.patch_build.specs.declared.region.Region.{Region}
use Rattle.patch_build.specs.declared.constants.TheConstants.{MOST_PATCH_PAGES}
use Rattle.patch_build.specs.declared.region.Region.TheVariants.{Text, Constants, Data}
use Rattle.patch_build.specs.Layout.{all_pages, end_with, region_end}
use Rattle.patch_build.specs.Sections.{is_of, alignment_of}

-- a number rounded up to a multiple of another
pub record IsRounded (x a q : ℕ) : Type 0 where
  pub is : next_multiple_of x a ≡ q * a
  pub low : x ≤ q * a
  pub high : q * a < x + a

-- what is added is nothing, or what is missing to the next multiple
added-none : (x a : ℕ) → 0 < a → x % a ≡ 0 → (a - x % a) % a ≡ 0
added-none x a p e = ap (λ (k : ℕ). (a - k) % a) e ∙ ap (λ (k : ℕ). k % a) (sub-zero a) ∙ mod_self a

added-some : (x a : ℕ) → 0 < a → (x % a ≡ 0 → ⊥) → (a - x % a) % a ≡ a - x % a
added-some x a p n = let l : x % a < a = mod-lt x p in mod-eq_of_lt (omega arith)

pub rounded : (x a : ℕ) → 0 < a → (q : ℕ) × IsRounded x a q
rounded x a p = by_case (cases_eq (x % a) 0) where
  low : x % a < a
  low = mod-lt x p

  by_case : (x % a ≡ 0) ⊎ (x % a ≡ 0 → ⊥) → (q : ℕ) × IsRounded x a q
  by_case (inl e) =
      let m = added-none x a p e in
      let d = div-add-mod' x a in
      (x / a, record { is = omega arith; low = omega arith; high = omega arith })
  by_case (inr n) =
      let m = added-some x a p n in
      let d = div-add-mod' x a in
      (x / a + 1, record { is = omega arith; low = omega (arith, low); high = omega (arith, low) })

pub rounded-le : (x y a : ℕ) → 0 < a → x ≤ y → next_multiple_of x a ≤ next_multiple_of y a
rounded-le x y a p le = by_case (rounded x a p) (rounded y a p) where
  by_order : (q r : ℕ) → IsRounded x a q → IsRounded y a r → (r < q) ⊎ (q ≤ r) → q * a ≤ r * a
  by_order q r f g (inl lt) = let h = mul-le (r + 1) a q a (omega arith) (omega arith) in absurd (omega (arith, f.high, g.low))
  by_order q r f g (inr le') = mul-le q a r a le' (omega arith)

  by_case : (q : ℕ) × IsRounded x a q → (r : ℕ) × IsRounded y a r → next_multiple_of x a ≤ next_multiple_of y a
  by_case (q, f) (r, g) = let h = by_order q r f g (cases_lt r q) in omega (arith, f.is, g.is)

pub alignment-pos : (s : Section) → 0 < alignment_of s
alignment-pos s = omega arith

grows : (b : Bool) (at t n : ℕ) → at ≤ cond b (at + t + n) at
grows true at t n = omega arith
grows false at t n = omega arith

-- a section more ends no lower
pub end_with-grows : (region : Region) (at : ℕ) (s : Section) → at ≤ end_with region at s
end_with-grows region at s = grows (is_of region s) at _ s.sh_size

-- and so do more sections
pub end-grows : (region : Region) (at : ℕ) (ss : List Section) → at ≤ fold (end_with region) at ss
end-grows region at [] = omega arith
end-grows region at (s ∷ ss) =
    let h = end_with-grows region at s in
    let k = end-grows region (end_with region at s) ss in
    omega arith

ordered : (b : Bool) (m n at bt size : ℕ) → m ≤ n → at ≤ bt → cond b (m + size) at ≤ cond b (n + size) bt
ordered true m n at bt size h k = omega arith
ordered false m n at bt size h k = omega arith

-- a section ends no lower where it begins no lower
pub end_with-le : (region : Region) (at bt : ℕ) (s : Section) → at ≤ bt → end_with region at s ≤ end_with region bt s
end_with-le region at bt s le =
    ordered (is_of region s) _ _ at bt s.sh_size (rounded-le at bt (alignment_of s) (alignment-pos s) le) le

-- and so do more sections
pub end-le : (region : Region) (at bt : ℕ) (ss : List Section) → at ≤ bt → fold (end_with region) at ss ≤ fold (end_with region) bt ss
end-le region at bt [] le = le
end-le region at bt (s ∷ ss) le = end-le region (end_with region at s) (end_with region bt s) ss (end_with-le region at bt s le)

-- where there are few pages, the ends are low
pub region_end-few : (region : Region) (ss : List Section) → all_pages ss ≤ MOST_PATCH_PAGES → region_end region ss < 2 ^ 32
region_end-few Text ss few = omega arith
region_end-few Constants ss few = omega arith
region_end-few Data ss few = omega arith
