-- The first frames are homes at the start of a run; and lists that are made with rising numbers.
use Rattle.std.proofs.Common.{◌≡◌, ◌≤◌, ◌+◌, ◌++◌, ℕ, zero, suc, List, [], ◌∷◌, true, not, ◌&&◌, length, refl, sym, ap, ◌∙◌, arith, is_some, append_assoc}
use Rattle.std.specs.List.{range_with_len, zip}
use Rattle.wf_homes.specs.Homes.{Homes, Tenant, free_frames, home_frame, is_home, is_worn, newcomers, tenants_of}
use Rattle.wf_homes.proofs.ListLemmas.{all_any}
use Rattle.wf_start.specs.Layout.{HomesComeFirst, each_from, numbered}
use Rattle.wf_start.proofs.StayLemmas.{all_stay}

zip_range : {A : Type 0} (a n : ℕ) (xs : List A) → length xs ≤ n → zip xs (range_with_len a n) ≡ numbered a xs
zip_range a n [] le = refl
zip_range a zero (x ∷ xs) le = absurd (omega arith)
zip_range {A = A} a (suc n) (x ∷ xs) le = ap (λ (ps : List (A × ℕ)). (x, a) ∷ ps) (zip_range (a + 1) n xs (omega arith))

pub come_first : HomesComeFirst
come_first s le =
    let none : Homes = record { homes = []; worn = [] } in
    let new : newcomers none s ≡ tenants_of s = all_stay (λ t. not (is_some (home_frame none t))) (tenants_of s) (all_any (λ t. not (is_some (home_frame none t)) ≡ true) (λ t. refl) (tenants_of s)) in
    let all : List ℕ = range_with_len 0 s.limits.frames in
    let free : free_frames s.limits.frames none ≡ all = all_stay (λ frame. not (is_home none frame) && not (is_worn none frame)) all (all_any (λ frame. (not (is_home none frame) && not (is_worn none frame)) ≡ true) (λ frame. refl) all) in
    ap (λ (ts : List Tenant). let h : Homes = record { homes = zip ts (free_frames s.limits.frames none); worn = [] } in h) new
    ∙ ap (λ (fs : List ℕ). let h : Homes = record { homes = zip (tenants_of s) fs; worn = [] } in h) free
    ∙ ap (λ (hs : List (Tenant × ℕ)). let h : Homes = record { homes = hs; worn = [] } in h) (zip_range 0 s.limits.frames (tenants_of s) le)

-- one more is made
pub from_next : {A B : Type 0} (f : ℕ → A → B) (first i m : ℕ) (now next all : List B) (x : A) (rest more : List A) → rest ≡ x ∷ more → m ≡ first + i → next ≡ now ++ f m x ∷ []
    → now ++ each_from f (first + i) rest ≡ all → next ++ each_from f (first + (i + 1)) more ≡ all
from_next {A = A} {B = B} f first i m now next all x rest more r n e is =
    let k : first + (i + 1) ≡ first + i + 1 = omega arith in
    ap (λ (ys : List B). ys ++ each_from f (first + (i + 1)) more) e
    ∙ append_assoc now (f m x ∷ []) (each_from f (first + (i + 1)) more)
    ∙ ap (λ (b : ℕ). now ++ f b x ∷ each_from f (first + (i + 1)) more) n
    ∙ ap (λ (b : ℕ). now ++ f (first + i) x ∷ each_from f b more) k
    ∙ sym (ap (λ (xs : List A). now ++ each_from f (first + i) xs) r)
    ∙ is
