-- Numbers that are put one behind another.
use Rattle.std.proofs.Common.{◌≡◌, ◌<◌, ◌==◌, ◌++◌, ℕ, List, [], ◌∷◌, true, false, None, refl, sym, ap, subst, ◌∙◌, arith, append_assoc, is_some}
use Rattle.std.specs.Prelude.{nat_lt}
use Rattle.std.specs.List.{AllByRecursion}
use Rattle.std.proofs.lemmas.Bool.Decides.{nat_tests}
use Rattle.wf_outside.specs.Lists.{IsRising}
use Rattle.wf_views.specs.Lists.{RoomyValue, found_by, has_number, inserted_by, itself, number_added}
use Rattle.wf_homes.proofs.ListLemmas.{all_back}

not_found : (ns : List ℕ) (n : ℕ) → AllByRecursion (λ m. m < n) ns → found_by itself ns n ≡ None
not_found [] n all = refl
not_found (m ∷ ms) n all =
    let lt : m < n = all.0 in
    let t : (m == n) ≡ false = grind (arith, nat_tests) in
    rw t (not_found ms n all.1)

put_last : (ns : List ℕ) (n : ℕ) → AllByRecursion (λ m. m < n) ns → inserted_by itself n ns ≡ ns ++ n ∷ []
put_last [] n all = refl
put_last (m ∷ ms) n all =
    let lt : m < n = all.0 in
    let t : nat_lt m n ≡ true = grind (arith, nat_tests) in
    rw t (ap (λ (ks : List ℕ). m ∷ ks) (put_last ms n all.1))

front_low : (ns : List ℕ) (n : ℕ) (more : List ℕ) → IsRising (ns ++ n ∷ more) → AllByRecursion (λ m. m < n) ns
front_low [] n more up = tt
front_low (m ∷ ms) n more up = ((all_back (λ k. m < k) ms (n ∷ more) up.0).0, front_low ms n more up.1)

-- the next of rising numbers comes behind those before it, and needs no room that is left
pub put_next : (numbers more : List ℕ) (n : ℕ) (made next : RoomyValue ℕ) → IsRising numbers → made.room ≡ 0 → made.items ++ n ∷ more ≡ numbers → next ≡ number_added n made
    → (next.room ≡ 0) × (next.items ++ more ≡ numbers)
put_next numbers more n made next up none whole is =
    let all : AllByRecursion (λ m. m < n) made.items = front_low made.items n more (subst IsRising (sym whole) up) in
    let new : has_number made.items n ≡ false = ap is_some (not_found made.items n all) in
    let items : (number_added n made).items ≡ made.items ++ n ∷ [] = rw new (put_last made.items n all) in
    let room : (number_added n made).room ≡ 0 = rw (new, none) refl in
    (ap (λ (l : RoomyValue ℕ). l.room) is ∙ room, ap (λ (l : RoomyValue ℕ). l.items ++ more) is ∙ ap (λ (ks : List ℕ). ks ++ more) items ∙ append_assoc made.items (n ∷ []) more ∙ whole)
