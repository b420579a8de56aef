-- What the invariant says of births: no page of data has that of another.
use Rattle.std.proofs.Common.{◌≡◌, ◌==◌, ◌∙◌, ℕ, List, [], ◌∷◌, true, false, Some, map, sym, subst, ap, inl, inr, arith, if◌then◌else◌}
use Rattle.std.specs.Prelude.{nat_eq}
use Rattle.std.specs.List.{AllByRecursion, IsDistinct}
use Rattle.std.proofs.lemmas.Bool.Decides.{nat_tests}
use Rattle.wf_outside.specs.Images.{DeltaValue}
use Rattle.wf_flat.specs.Memory.{data_in}
use Rattle.wf_flat.specs.State.{FlatState, PageState}
use Rattle.wf_sound.specs.Sound.{IsSoundState}
use Rattle.wf_sound.proofs.AllLemmas.{all_both, all_more, all_named, map_all, true_or_false}
use Rattle.wf_space.proofs.MeetLemmas.{found_each}
use Rattle.wf_access.specs.Laws.{IsOneBirth}
use Rattle.wf_process.proofs.MappedLemmas.{number_is}

apart : (a b : ℕ) → nat_eq a b ≡ false → a ≡ b → ⊥
apart a b differ e = let same : nat_eq a b ≡ true = grind (arith, nat_tests) in absurd cc

births_apart : (xs : List PageState) (n : ℕ) (page : PageState) → IsDistinct nat_eq (map (λ (p : PageState). p.birth) xs) → data_in xs n ≡ Some page → AllByRecursion (λ other. page.birth ≡ other.birth → page ≡ other) xs
unfolding IsDistinct
births_apart [] n page d e = tt
births_apart (x ∷ xs) n page d e =
    let others : AllByRecursion (λ (p : PageState). nat_eq x.birth p.birth ≡ false) xs = map_all (λ (p : PageState). nat_eq x.birth p.birth ≡ false) (λ (m : ℕ). nat_eq x.birth m ≡ false) (λ (p : PageState). p.birth) (λ p differ. differ) xs d.0 in
    elim (true_or_false (x.number == n)) [
      | inl t ↦ (
          let k : (if x.number == n then Some x else data_in xs n) ≡ Some page = e in
          let same : x ≡ page = from_some_page x page (rw t at k) in (
            λ b. sym same,
            all_more (λ (p : PageState). nat_eq x.birth p.birth ≡ false) (λ (p : PageState). page.birth ≡ p.birth → page ≡ p) (λ p differ b. absurd (apart x.birth p.birth differ (ap (λ (q : PageState). q.birth) same ∙ b))) xs others,
          )
          )
      | inr t ↦ (
          let k : (if x.number == n then Some x else data_in xs n) ≡ Some page = e in
          let rest : data_in xs n ≡ Some page = rw t at k in (
            λ b. absurd (apart x.birth page.birth (found_each (λ (p : PageState). nat_eq x.birth p.birth ≡ false) xs n page others rest) (sym b)),
            births_apart xs n page d.1 rest,
          )
          )
    ]
  where
    from_some_page : (x y : PageState) → Some x ≡ Some y → x ≡ y
    from_some_page x y e = cc

-- a page of data and its birth
pub one_birth : (deltas : List DeltaValue) (s : FlatState) (n : ℕ) (page : PageState) → IsSoundState deltas s → data_in s.pages n ≡ Some page → IsOneBirth s page
one_birth deltas s n page sound there =
    let here : data_in s.pages page.number ≡ Some page = subst (λ (m : ℕ). data_in s.pages m ≡ Some page) (sym (number_is s.pages n page there)) there in
    all_both (λ (other : PageState). page.birth ≡ other.birth → page ≡ other) (λ (other : PageState). data_in s.pages other.number ≡ Some other)
    (λ other. ((page.birth ≡ other.birth) → (page.number ≡ other.number)) × ((page.number ≡ other.number) → (page.birth ≡ other.birth)))
    (λ other is at. (
      λ e. ap (λ (p : PageState). p.number) (is e),
      λ e. (let same : Some page ≡ Some other = sym here ∙ ap (λ (m : ℕ). data_in s.pages m) e ∙ at in
          let one : page ≡ other = cc in ap (λ (p : PageState). p.birth) one),
    )) s.pages (births_apart s.pages n page sound.births there) (all_named (λ (p : PageState). p.number) s.pages sound.ordered.pages)
