-- Pages of text in frames, and their copies.
use Rattle.std.proofs.Common.{◌≡◌, ◌≤◌, ◌+◌, ℕ, zero, suc, List, [], ◌∷◌, Some, length, map, take, refl, ap, arith}
use Rattle.std.specs.Prelude.{slice_get}
use Rattle.wf_outside.specs.declared.image.Jump.{Jump}
use Rattle.wf_views.specs.declared.plan.Piece.TheVariants.{Copy}
use Rattle.wf_views.specs.declared.view.TextAt.{TextAt}
use Rattle.wf_creating.specs.Layout.{texts_placed}
use Rattle.wf_creating.specs.Plans.{texts_copied}

pub copied_at : (jumps : List Jump) (texts copies : List TextAt) (i : ℕ) (text copy : TextAt) → slice_get texts i ≡ Some text → slice_get copies i ≡ Some copy → slice_get (texts_copied jumps texts copies) i ≡ Some (Copy text.frame copy.frame copy.page jumps)
copied_at jumps [] copies i text copy e f = absurd cc
copied_at jumps (x ∷ xs) [] i text copy e f = absurd cc
copied_at jumps (x ∷ xs) (y ∷ ys) zero text copy e f =
    let a : x ≡ text = cc in
    let b : y ≡ copy = cc in
    rw (a, b) refl
copied_at jumps (x ∷ xs) (y ∷ ys) (suc i) text copy e f = copied_at jumps xs ys i text copy e f

pub copied_count : (jumps : List Jump) (texts copies : List TextAt) → length copies ≤ length texts → length (texts_copied jumps texts copies) ≡ length copies
copied_count jumps [] [] le = refl
copied_count jumps [] (y ∷ ys) le = absurd (omega arith)
copied_count jumps (x ∷ xs) [] le = refl
copied_count jumps (x ∷ xs) (y ∷ ys) le = ap suc (copied_count jumps xs ys (omega arith))

pub map_same : {A : Type 0} (xs : List A) → map (λ x. x) xs ≡ xs
map_same [] = refl
map_same {A = A} (x ∷ xs) = ap (λ (ys : List A). x ∷ ys) (map_same xs)

pub placed_few : (ns fs : List ℕ) → length (texts_placed ns fs) ≤ length ns
placed_few [] fs = omega arith
placed_few (n ∷ ns) [] = omega arith
placed_few (n ∷ ns) (f ∷ fs) = (let le : length (texts_placed ns fs) ≤ length ns = placed_few ns fs in omega arith)

pub none_placed : (ns : List ℕ) → texts_placed ns [] ≡ []
none_placed [] = refl
none_placed (n ∷ ns) = refl

-- the first frames suffice, as many as there are pages
pub texts_laid : (ns : List ℕ) (more : ℕ) (fs : List ℕ) → texts_placed ns (take (length ns + more) fs) ≡ texts_placed ns fs
texts_laid [] more fs = refl
texts_laid (n ∷ ns) more [] = (let e : length (n ∷ ns) + more ≡ suc (length ns + more) = omega arith in rw e refl)
texts_laid (n ∷ ns) more (f ∷ fs) = (let e : length (n ∷ ns) + more ≡ suc (length ns + more) = omega arith in rw e (ap (λ (xs : List TextAt). record { page = n; frame = f } ∷ xs) (texts_laid ns more fs)))
