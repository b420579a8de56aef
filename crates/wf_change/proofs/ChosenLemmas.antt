-- Of harts before and after a page was noted, those in a generation after it.
use Rattle.std.proofs.Common.{◌≡◌, ◌==◌, ◌<◌, ◌≤◌, ◌+◌, ◌++◌, ℕ, zero, suc, Bool, true, false, List, [], ◌∷◌, length, drop, map, get_or, refl, sym, ap, ◌∙◌, add-one, append_assoc, arith}
use Rattle.std.proofs.Math.Seq.{drop-cons}
use Rattle.std.proofs.lemmas.List.{append-nil, drop_all}
use Rattle.std.specs.Prelude.{if◌then◌else◌}
use Rattle.wf_flat.specs.Lists.{others_changed}
use Rattle.wf_flat.specs.State.{HartState}
use Rattle.wf_flat.specs.Changes.{noted, noted_in}

-- of two lists of harts, place by place
abbrev pub chosen : ℕ → List HartState → List HartState → List HartState
chosen generation [] others = []
chosen generation (hart ∷ harts) [] = []
chosen generation (hart ∷ harts) (other ∷ others) =
    (if hart.generation == generation then other else hart) ∷ chosen generation harts others

-- one more
pub chosen_next : (generation : ℕ) (harts noting : List HartState) (i : ℕ) (so_far more : List HartState) (d e new : HartState) → i < length harts → length noting ≡ length harts → d ≡ get_or harts i d → e ≡ get_or noting i e → more ≡ so_far ++ new ∷ []
    → new ≡ (if d.generation == generation then e else d) → more ++ chosen generation (drop (i + 1) harts) (drop (i + 1) noting) ≡ so_far ++ chosen generation (drop i harts) (drop i noting)
chosen_next generation harts noting i so_far more d e new h same d_is e_is is at =
    let a : drop i harts ≡ d ∷ drop (suc i) harts = drop-cons harts i d h ∙ ap (λ (x : HartState). x ∷ drop (suc i) harts) (sym d_is) in
    let b : drop i noting ≡ e ∷ drop (suc i) noting = drop-cons noting i e (omega (arith, h, same)) ∙ ap (λ (x : HartState). x ∷ drop (suc i) noting) (sym e_is) in
    rw (a, b, is, add-one) (append_assoc so_far (new ∷ []) (chosen generation (drop (suc i) harts) (drop (suc i) noting)) ∙ ap (λ (x : HartState). so_far ++ x ∷ chosen generation (drop (suc i) harts) (drop (suc i) noting)) at)

-- all
pub chosen_all : (generation : ℕ) (harts noting so_far : List HartState) (i : ℕ) → length harts ≤ i → so_far ++ chosen generation (drop i harts) (drop i noting) ≡ chosen generation harts noting → so_far ≡ chosen generation harts noting
chosen_all generation harts noting so_far i h e =
    let none : drop i harts ≡ [] = drop_all i harts h in
    sym (append-nil so_far) ∙ ap (λ (hs : List HartState). so_far ++ chosen generation hs (drop i noting)) (sym none) ∙ e

stays : (b : Bool) (hart : HartState) → (if b then hart else hart) ≡ hart
stays true hart = refl
stays false hart = refl

-- the same, with themselves
chosen_same : (generation : ℕ) (harts : List HartState) → chosen generation harts harts ≡ harts
chosen_same generation [] = refl
chosen_same generation (hart ∷ harts) =
    ap (λ (h : HartState). h ∷ chosen generation harts harts) (stays (hart.generation == generation) hart) ∙ ap (λ (hs : List HartState). hart ∷ hs) (chosen_same generation harts)

-- the others of a generation have noted the page
chosen_map : (generation page : ℕ) (harts : List HartState) → chosen generation harts (map (noted page) harts) ≡ map (noted_in generation page) harts
chosen_map generation page [] = refl
chosen_map generation page (hart ∷ harts) = ap (λ (hs : List HartState). noted_in generation page hart ∷ hs) (chosen_map generation page harts)

pub chosen_others : (generation page : ℕ) (harts : List HartState) (h : ℕ) → chosen generation harts (others_changed harts h (noted page)) ≡ others_changed harts h (noted_in generation page)
chosen_others generation page [] h = refl
chosen_others generation page (hart ∷ harts) zero =
    ap (λ (x : HartState). x ∷ chosen generation harts (map (noted page) harts)) (stays (hart.generation == generation) hart)
    ∙ ap (λ (hs : List HartState). hart ∷ hs) (chosen_map generation page harts)
chosen_others generation page (hart ∷ harts) (suc h) =
    ap (λ (hs : List HartState). noted_in generation page hart ∷ hs) (chosen_others generation page harts h)
