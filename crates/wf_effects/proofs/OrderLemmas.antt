-- Tables that stay in order.
use Rattle.std.proofs.Common.{◌≡◌, ◌<◌, ◌+◌, ℕ, List, [], ◌∷◌, Bool, true, false, map, refl, ◌&&◌}
use Rattle.std.specs.Prelude.{nat_le, nat_lt}
use Rattle.std.specs.List.{AllByRecursion, filter}
use Rattle.wf_outside.specs.Lists.{IsRising}
use Rattle.wf_flat.specs.Memory.{met_key}
use Rattle.wf_flat.specs.State.{FlatState, PageState}
use Rattle.wf_flat.specs.Ordered.{IsOrdered, page_numbers}
use Rattle.wf_flat.proofs.ChangeLemmas.{change_ordered}
use Rattle.wf_effects.specs.Effects.{going_in, pages_going, page_ending, page_gone, ending, generation_dead}

module _ {A : Type 0} (key : A → ℕ) (keeps : A → Bool) where
  all_kept_by : (n : ℕ) (x : A) (xs : List A) (b : Bool) → keeps x ≡ b → AllByRecursion (λ m. n < m) (map key (x ∷ xs)) → AllByRecursion (λ m. n < m) (map key (filter keeps xs)) → AllByRecursion (λ m. n < m) (map key (filter keeps (x ∷ xs)))
  all_kept_by n x xs true e all rest = rw e (all.0, rest)
  all_kept_by n x xs false e all rest = rw e rest

  all_kept : (n : ℕ) (xs : List A) → AllByRecursion (λ m. n < m) (map key xs) → AllByRecursion (λ m. n < m) (map key (filter keeps xs))
  all_kept n [] all = tt
  all_kept n (x ∷ xs) all = all_kept_by n x xs (keeps x) refl all (all_kept n xs all.1)

  rising_kept_by : (x : A) (xs : List A) (b : Bool) → keeps x ≡ b → IsRising (map key (x ∷ xs)) → IsRising (map key (filter keeps xs)) → IsRising (map key (filter keeps (x ∷ xs)))
  rising_kept_by x xs true e up rest = rw e (all_kept (key x) xs up.0, rest)
  rising_kept_by x xs false e up rest = rw e rest

  -- some of rising numbers rise
  pub rising_kept : (xs : List A) → IsRising (map key xs) → IsRising (map key (filter keeps xs))
  rising_kept [] up = tt
  rising_kept (x ∷ xs) up = rising_kept_by x xs (keeps x) refl up (rising_kept xs up.1)

going_number : (first n : ℕ) (page : PageState) → (going_in first n page).number ≡ page.number
going_number first n page = by_test (nat_le first page.number && nat_lt page.number (first + n)) refl
  where
    by_test : (b : Bool) → (nat_le first page.number && nat_lt page.number (first + n)) ≡ b → (going_in first n page).number ≡ page.number
    by_test true e = rw e refl
    by_test false e = rw e refl

going_numbers : (first n : ℕ) (pages : List PageState) → page_numbers (map (going_in first n) pages) ≡ page_numbers pages
going_numbers first n [] = refl
going_numbers first n (page ∷ pages) = cons_is (going_number first n page) (going_numbers first n pages)
  where
    cons_is : {a b : ℕ} {ns ms : List ℕ} → a ≡ b → ns ≡ ms → a ∷ ns ≡ b ∷ ms
    cons_is p q = cc

pub going_ordered : (s : FlatState) (first n : ℕ) → IsOrdered s → IsOrdered (pages_going s first n)
going_ordered s first n up = record { pages = rw (going_numbers first n s.pages) (up.pages); met = up.met }

pub ending_ordered : (s : FlatState) (page : ℕ) → IsOrdered s → IsOrdered (page_ending s page)
ending_ordered s page up =
    let changed = change_ordered s page ending (λ p. refl) up in
    record { pages = changed.pages; met = rising_kept met_key _ s.met up.met }

pub gone_ordered : (s : FlatState) (page : ℕ) (worn : Bool) → IsOrdered s → IsOrdered (page_gone s page worn)
gone_ordered s page worn up = record { pages = rising_kept (λ (p : PageState). p.number) _ s.pages up.pages; met = rising_kept met_key _ s.met up.met }

pub dead_ordered : (s : FlatState) (generation : ℕ) → IsOrdered s → IsOrdered (generation_dead s generation)
dead_ordered s generation up = record { pages = up.pages; met = rising_kept met_key _ s.met up.met }
