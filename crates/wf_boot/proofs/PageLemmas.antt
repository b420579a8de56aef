-- Records of pages of data that are added by rising number.
use Rattle.std.proofs.Common.{◌≡◌, ◌<◌, ◌≤◌, ◌+◌, ◌-◌, ◌==◌, ◌++◌, ℕ, suc, List, [], ◌∷◌, true, false, Some, None, drop, length, map, refl, sym, ap, subst, ◌∙◌, arith}
use Rattle.std.specs.Prelude.{nat_lt, slice_get}
use Rattle.std.specs.List.{AllByRecursion}
use Rattle.std.proofs.lemmas.Bool.Decides.{nat_tests}
use Rattle.std.proofs.lemmas.List.{append-nil}
use Rattle.wf_outside.specs.Lists.{IsRising}
use Rattle.wf_views.specs.declared.pages.PageAt.{PageAt}
use Rattle.wf_views.specs.Lists.{RoomyValue, found_by, inserted_by}
use Rattle.wf_views.specs.Pages.{page_added, page_at, page_number}
use Rattle.wf_flat.specs.Ordered.{page_numbers}
use Rattle.wf_flat.specs.State.{PageState}
use Rattle.wf_homes.specs.Kept.{record_of}
use Rattle.wf_space.proofs.PushLemmas.{drop_all, drop_get}
use Rattle.wf_start.specs.Layout.{pages_from}
use Rattle.wf_start.proofs.FirstLemmas.{from_next}

-- the rest of a list behind the element that stands at a place
pub drop_next : {X : Type 0} (xs : List X) (i : ℕ) (x : X) → slice_get xs i ≡ Some x → drop i xs ≡ x ∷ drop (i + 1) xs
drop_next xs i x e = drop_get xs i x e ∙ (let z : suc i ≡ i + 1 = omega arith in ap (λ (k : ℕ). x ∷ drop k xs) z)

-- the first pages are added, and there is room for the others
pub record AreAdded (first : ℕ) (pages : List PageState) (n : ℕ) (made : RoomyValue PageAt) : Type 0 where
  pub whole : made.items ++ pages_from (first + n) (drop n pages) ≡ pages_from first pages
  pub room : length (drop n pages) ≤ made.room

module _ {A : Type 0} (key : A → ℕ) where
  -- what stands before an element is below it
  pub below : (xs : List A) (y : A) (ys : List A) → IsRising (map key (xs ++ y ∷ ys)) → AllByRecursion (λ x. key x < key y) xs
  below [] y ys up = tt
  below (x ∷ xs) y ys up = (at xs up.0, below xs y ys up.1)
    where
      at : (zs : List A) → AllByRecursion (λ m. key x < m) (map key (zs ++ y ∷ ys)) → key x < key y
      at [] all = all.0
      at (z ∷ zs) all = at zs all.1

  -- so it comes behind them
  pub inserted_last : (x : A) (xs : List A) → AllByRecursion (λ y. key y < key x) xs → inserted_by key x xs ≡ xs ++ x ∷ []
  inserted_last x [] all = refl
  inserted_last x (y ∷ ys) all =
      let lt : key y < key x = all.0 in
      let t : nat_lt (key y) (key x) ≡ true = grind (arith, nat_tests) in
      rw t (ap (λ (zs : List A). y ∷ zs) (inserted_last x ys all.1))

  pub not_there : (x : A) (xs : List A) → AllByRecursion (λ y. key y < key x) xs → found_by key xs (key x) ≡ None
  not_there x [] all = refl
  not_there x (y ∷ ys) all =
      let lt : key y < key x = all.0 in
      let apart : (key y == key x) ≡ false = grind (arith, nat_tests) in
      rw apart (not_there x ys all.1)

-- the numbers of the records are those of the pages
same_numbers : (frame : ℕ) (pages : List PageState) → map page_number (pages_from frame pages) ≡ page_numbers pages
same_numbers frame [] = refl
same_numbers frame (page ∷ pages) = ap (λ (ns : List ℕ). page.number ∷ ns) (same_numbers (frame + 1) pages)

module _ (first : ℕ) (pages : List PageState) (n : ℕ) (made : RoomyValue PageAt) (page : PageState) (more : List PageState) (frame : ℕ) (are : AreAdded first pages n made) (rest : drop n pages ≡ page ∷ more) (f : frame ≡ first + n) (up : IsRising (page_numbers pages)) where
  abbrev next : PageAt
  next = record_of page frame

  rising : IsRising (map page_number (made.items ++ next ∷ pages_from (first + n + 1) more))
  rising =
      let a : made.items ++ pages_from (first + n) (page ∷ more) ≡ pages_from first pages = subst (λ (ps : List PageState). made.items ++ pages_from (first + n) ps ≡ pages_from first pages) rest are.whole in
      let b : made.items ++ next ∷ pages_from (first + n + 1) more ≡ pages_from first pages = ap (λ (k : ℕ). made.items ++ record_of page k ∷ pages_from (first + n + 1) more) f ∙ a in
      subst (λ (ps : List PageAt). IsRising (map page_number ps)) (sym b) (subst IsRising (sym (same_numbers first pages)) up)

  all_below : AllByRecursion (λ p. page_number p < page_number next) made.items
  all_below = below page_number made.items next (pages_from (first + n + 1) more) rising

  pub absent : page_at made next.page ≡ None
  absent = not_there page_number next made.items all_below

  pub has_room : 0 < made.room
  has_room = (let k : length (page ∷ more) ≤ made.room = subst (λ (ps : List PageState). length ps ≤ made.room) rest are.room in omega arith)

  pub added_next : (after : RoomyValue PageAt) (m : ℕ) → m ≡ n + 1 → drop m pages ≡ more → after ≡ page_added next made → AreAdded first pages m after
  added_next after m e d is =
      let k : length (page ∷ more) ≤ made.room = subst (λ (ps : List PageState). length ps ≤ made.room) rest are.room in
      let items : after.items ≡ made.items ++ next ∷ [] = ap (λ (l : RoomyValue PageAt). l.items) is ∙ inserted_last page_number next made.items all_below in
      let room : after.room ≡ made.room - 1 = ap (λ (l : RoomyValue PageAt). l.room) is in
      record {
        whole = rw (d, e) (from_next (λ (frame : ℕ) (page : PageState). record_of page frame) first n frame made.items after.items (pages_from first pages) page (drop n pages) more rest f items are.whole);
        room = rw d (omega arith);
      }

pub none_added : (first : ℕ) (pages : List PageState) (made : RoomyValue PageAt) → made.items ≡ [] → length pages ≤ made.room → AreAdded first pages 0 made
none_added first pages made none room = record { whole = rw none (ap (λ (n : ℕ). pages_from n pages) (let e : first + 0 ≡ first = omega arith in e)); room = room }

pub all_added : (first : ℕ) (pages : List PageState) (n : ℕ) (made : RoomyValue PageAt) → AreAdded first pages n made → length pages ≤ n → made.items ≡ pages_from first pages
all_added first pages n made are ge = sym (append-nil made.items) ∙ ap (λ (ps : List PageState). made.items ++ pages_from (first + n) ps) (sym (drop_all pages n ge)) ∙ are.whole
