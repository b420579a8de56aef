-- Numbers that are put one after another.
use Rattle.std.proofs.Common.{◌≡◌, ◌<◌, ◌≤◌, ◌+◌, ◌==◌, ◌++◌, ℕ, zero, suc, List, [], ◌∷◌, true, false, map, refl, sym, ap, subst, ◌∙◌, inl, inr, arith, is_some, append_assoc}
use Rattle.std.specs.Prelude.{◌↔◌, IsTrue}
use Rattle.std.specs.List.{AllByRecursion, range_with_len}
use Rattle.std.proofs.lemmas.Bool.Decides.{nat_tests}
use Rattle.wf_outside.specs.Lists.{IsRising}
use Rattle.wf_views.specs.Lists.{RoomyValue, has_number, itself, number_added}
use Rattle.wf_homes.proofs.ListLemmas.{map_itself, true_or_false}
use Rattle.wf_boot.proofs.PageLemmas.{below, inserted_last, not_there}

-- a number that is above all others comes behind them
added_last : (n : ℕ) (l : RoomyValue ℕ) → AllByRecursion (λ m. m < n) l.items → (number_added n l).items ≡ l.items ++ n ∷ []
added_last n l all =
    let new : has_number l.items n ≡ false = ap is_some (not_there itself n l.items all) in
    rw new (inserted_last itself n l.items all)

-- the next of rising numbers is
pub next_added : (numbers more : List ℕ) (n : ℕ) (made next : RoomyValue ℕ) → IsRising numbers → made.items ++ n ∷ more ≡ numbers → next ≡ number_added n made → next.items ++ more ≡ numbers
next_added numbers more n made next up whole is =
    let rising : IsRising (map itself (made.items ++ n ∷ more)) = subst IsRising (sym (map_itself (made.items ++ n ∷ more))) (subst IsRising (sym whole) up) in
    let all : AllByRecursion (λ m. m < n) made.items = below itself made.items n more rising in
    ap (λ (l : RoomyValue ℕ). l.items ++ more) is ∙ ap (λ (ms : List ℕ). ms ++ more) (added_last n made all) ∙ append_assoc made.items (n ∷ []) more ∙ whole

-- a range of numbers with the next one
range_next : (a n : ℕ) → range_with_len a (suc n) ≡ range_with_len a n ++ (a + n) ∷ []
range_next a zero = (let z : a ≡ a + 0 = omega arith in ap (λ (k : ℕ). k ∷ []) z)
range_next a (suc n) = (let z : a + 1 + n ≡ a + suc n = omega arith in ap (λ (ks : List ℕ). a ∷ ks) (range_next (a + 1) n ∙ ap (λ (k : ℕ). range_with_len (a + 1) n ++ k ∷ []) z))

range_low : (a n m : ℕ) → a + n ≤ m → AllByRecursion (λ k. k < m) (range_with_len a n)
range_low a zero m le = tt
range_low a (suc n) m le = (omega arith, range_low (a + 1) n m (omega arith))

pub hart_added : (h m : ℕ) (made next : RoomyValue ℕ) → made.items ≡ range_with_len 0 h → m ≡ h + 1 → next ≡ number_added h made → next.items ≡ range_with_len 0 m
hart_added h m made next range e is =
    let all : AllByRecursion (λ k. k < h) made.items = subst (AllByRecursion (λ k. k < h)) (sym range) (range_low 0 h h (omega arith)) in
    let z : 0 + h ≡ h = omega arith in
    let one : h + 1 ≡ suc h = omega arith in
    ap (λ (l : RoomyValue ℕ). l.items) is
    ∙ added_last h made all
    ∙ ap (λ (ks : List ℕ). ks ++ h ∷ []) range
    ∙ sym (range_next 0 h ∙ ap (λ (k : ℕ). range_with_len 0 h ++ k ∷ []) z)
    ∙ ap (range_with_len 0) (sym one)
    ∙ ap (range_with_len 0) (sym e)

-- which numbers a range has
pub range_has : (a n h : ℕ) → a ≤ h → h < a + n → has_number (range_with_len a n) h ≡ true
range_has a zero h le lt = absurd (omega arith)
range_has a (suc n) h le lt = elim (true_or_false (a == h)) [
  | inl t ↦ (rw t refl)
  | inr t ↦ (rw t (range_has (a + 1) n h (grind (arith, nat_tests)) (omega arith)))
]

pub range_bound : (a n h : ℕ) → has_number (range_with_len a n) h ≡ true → h < a + n
range_bound a zero h e = absurd cc
range_bound a (suc n) h e = elim (true_or_false (a == h)) [
  | inl t ↦ (let same : a ≡ h = grind (arith, nat_tests) in omega arith)
  | inr t ↦ (let rest : h < a + 1 + n = range_bound (a + 1) n h (rw t at e) in omega arith)
]

-- the harts of a range from 0 on are those below its length
pub residents_are : (harts h : ℕ) (items : List ℕ) → items ≡ range_with_len 0 harts → IsTrue (has_number items h) ↔ (h < harts)
residents_are harts h items e = rw e (
  λ is. (let t : has_number (range_with_len 0 harts) h ≡ true = is in let lt : h < 0 + harts = range_bound 0 harts h t in omega arith),
  λ lt. range_has 0 harts h (omega arith) (omega arith),
)
