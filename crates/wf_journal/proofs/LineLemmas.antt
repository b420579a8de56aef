-- The lines of harts, of words and of patches, from a place on.
use Rattle.std.proofs.Common.{◌≡◌, ◌<◌, ◌≤◌, ◌+◌, ◌++◌, ◌∷◌, ℕ, suc, List, [], length, get_or, drop, sym, ap, refl, ◌∙◌, add-one, append_assoc, append-nil, Result, Ok, Err}
use Rattle.std.specs.Prelude.{OnOk}
use Rattle.std.proofs.Math.Seq.{drop-cons}
use Rattle.std.proofs.lemmas.List.{drop_all}
use Rattle.std.proofs.lemmas.List.Concat.{flat_map-cons}
use Rattle.wf_flat.specs.State.{HartState}
use Rattle.wf_journal.specs.Headers.{line, joined, patch_line, patch_lines}
use Rattle.wf_journal.specs.Finals.{hart_lines, harts_from, word_line, word_lines}

pub harts_from-drop : (harts : List HartState) (n i : ℕ) (d : HartState) → i < length harts
    → harts_from n (drop i harts) ≡ hart_lines n (get_or harts i d) ++ harts_from (n + 1) (drop (i + 1) harts)
harts_from-drop harts n i d h =
    ap (harts_from n) (drop-cons harts i d h) ∙ ap (λ (k : ℕ). hart_lines n (get_or harts i d) ++ harts_from (n + 1) (drop k harts)) (sym (add-one i))

pub ruleset hart_steps = harts_from-drop

word_lines-none : (va : ℕ) → word_lines va [] ≡ []
unfolding word_lines
word_lines-none va = refl

word_lines-more : (va word : ℕ) (words : List ℕ) → word_lines va (word ∷ words) ≡ word_line va word ++ word_lines (va + 8) words
unfolding word_lines
word_lines-more va word words = refl

pub word_lines-drop : (words : List ℕ) (va i d : ℕ) → i < length words
    → word_lines va (drop i words) ≡ word_line va (get_or words i d) ++ word_lines (va + 8) (drop (i + 1) words)
word_lines-drop words va i d h = rw (drop-cons words i d h, word_lines-more, ← add-one i) refl

pub word_lines-end : (words : List ℕ) (va i : ℕ) → length words ≤ i → word_lines va (drop i words) ≡ []
word_lines-end words va i h = rw (drop_all i words h, word_lines-none) refl

patches-none : (n : ℕ) → patch_lines n [] ≡ []
unfolding patch_lines
patches-none n = refl

patches-more : (n : ℕ) (name : List ℕ) (names : List (List ℕ)) → patch_lines n (name ∷ names) ≡ patch_line n name ∷ patch_lines (suc n) names
unfolding patch_lines
patches-more n name names = refl

patches-drop : (names : List (List ℕ)) (n i : ℕ) (d : List ℕ) → i < length names
    → joined (patch_lines n (drop i names)) ≡ line (patch_line n (get_or names i d)) ++ joined (patch_lines (n + 1) (drop (i + 1) names))
patches-drop names n i d h =
    ap (λ (xs : List (List ℕ)). joined (patch_lines n xs)) (drop-cons names i d h) ∙ ap joined (patches-more n (get_or names i d) (drop (suc i) names))
    ∙ flat_map-cons line (patch_line n (get_or names i d)) (patch_lines (suc n) (drop (suc i) names))
    ∙ ap (λ (k : ℕ). line (patch_line n (get_or names i d)) ++ joined (patch_lines k (drop (suc i) names))) (sym (add-one n))
    ∙ ap (λ (k : ℕ). line (patch_line n (get_or names i d)) ++ joined (patch_lines (n + 1) (drop k names))) (sym (add-one i))

-- one patch more is written
pub patch_pushed : (names : List (List ℕ)) (n : ℕ) (name out new total : List ℕ) → out ++ joined (patch_lines n (drop n names)) ≡ total → n < length names → name ≡ get_or names n name
    → new ≡ out ++ line (patch_line n name) → new ++ joined (patch_lines (n + 1) (drop (n + 1) names)) ≡ total
patch_pushed names n name out new total so_far more is pushed =
    ap (λ (xs : List ℕ). xs ++ joined (patch_lines (n + 1) (drop (n + 1) names))) pushed
    ∙ append_assoc out (line (patch_line n name)) (joined (patch_lines (n + 1) (drop (n + 1) names)))
    ∙ ap (λ (xs : List ℕ). out ++ (line (patch_line n xs) ++ joined (patch_lines (n + 1) (drop (n + 1) names)))) is
    ∙ ap (λ (xs : List ℕ). out ++ xs) (sym (patches-drop names n n name more)) ∙ so_far

pub patches_all : (names : List (List ℕ)) (n : ℕ) (out total : List ℕ) → out ++ joined (patch_lines n (drop n names)) ≡ total → length names ≤ n → out ≡ total
patches_all names n out total so_far all =
    sym (append-nil out) ∙ ap (λ (xs : List ℕ). out ++ xs) (sym (ap (λ (xs : List (List ℕ)). joined (patch_lines n xs)) (drop_all n names all) ∙ ap joined (patches-none n))) ∙ so_far

-- a name and what stands behind it, as one text
pub same_text : {E : Type 0} (r : Result (Unit {0}) E) (new old name rest text : List ℕ) → OnOk r (new ≡ old ++ name ++ rest) → name ++ rest ≡ text → OnOk r (new ≡ old ++ text)
same_text (Ok u) new old name rest text e same = e ∙ append_assoc old name rest ∙ ap (λ (xs : List ℕ). old ++ xs) same
same_text (Err u) new old name rest text e same = tt
