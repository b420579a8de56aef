-- Views that are searched for.
use Rattle.std.proofs.Common.{◌≡◌, ◌<◌, ◌≤◌, ◌+◌, ◌==◌, ℕ, suc, List, [], ◌∷◌, Bool, true, false, Some, None, drop, map, refl, sym, ap, ◌∙◌, add-one, arith}
use Rattle.std.specs.Prelude.{slice_get}
use Rattle.std.specs.List.{AllByRecursion, find}
use Rattle.std.proofs.lemmas.Bool.Decides.{nat_tests}
use Rattle.wf_views.specs.Lists.{found_by}
use Rattle.wf_views.specs.Views.{ViewValue, ViewsValue, WereAdded, generation_number, view_of}
use Rattle.wf_space.proofs.PushLemmas.{drop_get}

module _ {X : Type 0} (p : X → Bool) where
  pub find_here : (xs : List X) (i : ℕ) (x : X) → slice_get xs i ≡ Some x → p x ≡ true → find p (drop i xs) ≡ find p xs → find p xs ≡ Some x
  find_here xs i x e t is =
      let here : find p (x ∷ drop (suc i) xs) ≡ Some x = rw t refl in
      sym is ∙ ap (find p) (drop_get xs i x e) ∙ here

  pub find_past : (xs : List X) (i : ℕ) (x : X) → slice_get xs i ≡ Some x → p x ≡ false → find p (drop i xs) ≡ find p xs → find p (drop (i + 1) xs) ≡ find p xs
  find_past xs i x e t is =
      let past : find p (x ∷ drop (suc i) xs) ≡ find p (drop (suc i) xs) = rw t refl in
      rw add-one (sym past ∙ sym (ap (find p) (drop_get xs i x e)) ∙ is)

none_past : (vs : List ViewValue) (n g : ℕ) → n ≤ g → AllByRecursion (λ m. m < n) (map generation_number vs) → found_by generation_number vs g ≡ None
none_past [] n g le low = refl
none_past (v ∷ vs) n g le low =
    let lt : v.generation < n = low.0 in
    let t : (v.generation == g) ≡ false = grind (arith, nat_tests) in
    rw t (none_past vs n g le low.1)

-- there is no view past the last that was added, and none where none was
pub past_last : (views : ViewsValue) (last g : ℕ) → WereAdded views → Some last ≡ views.last → last < g → None ≡ view_of views g
past_last views last g added e lt = sym (none_past views.views (last + 1) g (omega arith) (added (last + 1) (rw (← e) (omega arith))))

pub none_added : (views : ViewsValue) (g : ℕ) → WereAdded views → None ≡ views.last → None ≡ view_of views g
none_added views g added e = sym (none_past views.views 0 g (omega arith) (added 0 (rw (← e) tt)))
