-- What an object leaves to a linker, as the code finds it.
use Rattle.std.proofs.Common.{◌≡◌, ◌<◌, ◌≤◌, ◌+◌, ◌^◌, [], ◌∷◌, ◌++◌, ℕ, List, Bool, length, get_or, Option, Some, None, sym, ap, subst, ◌∙◌, arith}
use Rattle.std.specs.Prelude.{map, unwrap_or}
use Rattle.std.specs.List.{enumerate_from, filter}
use Rattle.std.specs.Option.{option_map}
use Rattle.std.specs.Str.{bytes_eq}
use Rattle.std.proofs.lemmas.List.{get_or-map, length-map, map-append}
use Rattle.std.proofs.lemmas.List.Elements.{filter-append}
use Rattle.std.proofs.lemmas.List.Quantifiers.{position-Some}
use Rattle.wf_outside.proofs.RisingLemmas.{all_at}
use Rattle.rv_asm.specs.declared.named.Label.{Label}
use Rattle.rv_asm.specs.declared.named.PlacedUse.{PlacedUse}
use Rattle.rv_asm.specs.Labels.{LabelValue, place_named, section_named, section_number}
use Rattle.rv_asm.specs.Links.{is_first_outside}
use Rattle.rv_asm.specs.Names.{name_place}
use Rattle.rv_asm.specs.Places.{label_value, label_values}
use Rattle.rv_asm.specs.Uses.{AreCloseUses, IsCloseUse, use_value, use_values}
use Rattle.rv_asm.proofs.SymbolLemmas.{find_first, find_none, is_first, is_past}

-- the section of a label by its place
pub section_none : (name : List ℕ) (labels : List LabelValue) → place_named name labels ≡ None → section_named name labels ≡ None
section_none name labels e =
    let p : LabelValue → Bool = λ l. bytes_eq l.name name in
    ap (λ (o : Option LabelValue). option_map (λ l. section_number l.section) o) (find_none p labels (is_past p labels e))

pub section_at : (name : List ℕ) (labels : List LabelValue) (entries : List Label) (place : ℕ) (d : Label) → label_values entries ≡ labels → place_named name labels ≡ Some place
    → section_named name labels ≡ Some (section_number (get_or entries place d).section)
section_at name labels entries place d shown e =
    let p : LabelValue → Bool = λ x. bytes_eq x.name name in
    let first = is_first p labels place e in
    let long : length entries ≡ length labels = sym (length-map entries label_value) ∙ ap length shown in
    let this : get_or labels place (label_value d) ≡ label_value (get_or entries place d) =
    ap (λ (ls : List LabelValue). get_or ls place (label_value d)) (sym shown) ∙ get_or-map label_value entries place d (label_value d) (omega (arith, long, first.1)) in
    ap (λ (o : Option LabelValue). option_map (λ x. section_number x.section) o)
    (find_first p labels (label_value d) (omega (arith, first.0, first.1)) ∙ ap (λ (n : ℕ). Some (get_or labels n (label_value d))) first.0 ∙ ap Some this)

-- each use is close
pub offset_at : (uses : List PlacedUse) (i : ℕ) (d : PlacedUse) → AreCloseUses (use_values uses) → i < length uses → (get_or uses i d).offset ≤ 2 ^ 32
offset_at uses i d close h =
    let this : get_or (use_values uses) i (use_value d) ≡ use_value (get_or uses i d) = get_or-map use_value uses i d (use_value d) h in
    let near = subst IsCloseUse this (all_at IsCloseUse (use_values uses) i (use_value d) close (omega (arith, h, length-map uses use_value))) in
    near.offset

-- a place among few names is a small number
pub place_small : (name : List ℕ) (names : List (List ℕ)) (o : Option ℕ) → o ≡ name_place name names → length names < 2 ^ 32 → unwrap_or o 0 < 2 ^ 32
place_small name names None e few = omega arith
place_small name names (Some i) e few = let within = (position-Some (λ (n : List ℕ). bytes_eq n name) names i [] (sym e)).0 in omega (arith, within, few)

-- ---- the names of other files

enumerate-push : (n : ℕ) (xs : List (List ℕ)) (x : List ℕ) → enumerate_from n (xs ++ x ∷ []) ≡ enumerate_from n xs ++ (n + length xs, x) ∷ []
enumerate-push n [] x = let here : n ≡ n + 0 = omega arith in ap (λ (k : ℕ). (k, x) ∷ []) here
enumerate-push n (y ∷ ys) x =
    let next : n + 1 + length ys ≡ n + length (y ∷ ys) = omega arith in
    ap (λ (l : List (ℕ × List ℕ)). (n, y) ∷ l) (enumerate-push (n + 1) ys x ∙ ap (λ (k : ℕ). enumerate_from (n + 1) ys ++ (k, x) ∷ []) next)

-- one name more
pub outside_more : (labels : List LabelValue) (all names : List (List ℕ)) (place : ℕ) (name : List ℕ) (outside more : List (List ℕ)) → length names ≡ place
    → outside ≡ map (λ p. p.1) (filter (is_first_outside labels all) (enumerate_from 0 names))
    → more ≡ outside ++ map (λ p. p.1) (filter (is_first_outside labels all) ((place, name) ∷ []))
    → more ≡ map (λ p. p.1) (filter (is_first_outside labels all) (enumerate_from 0 (names ++ name ∷ [])))
outside_more labels all names place name outside more long e f =
    let test = is_first_outside labels all in
    let second : ℕ × List ℕ → List ℕ = λ p. p.1 in
    let here : 0 + length names ≡ place = omega (arith, long) in
    f ∙ ap (λ (l : List (List ℕ)). l ++ map second (filter test ((place, name) ∷ []))) e
    ∙ sym (
    ap (λ (l : List (ℕ × List ℕ)). map second (filter test l)) (enumerate-push 0 names name ∙ ap (λ (k : ℕ). enumerate_from 0 names ++ (k, name) ∷ []) here)
    ∙ ap (map second) (filter-append test (enumerate_from 0 names) ((place, name) ∷ []))
    ∙ map-append second (filter test (enumerate_from 0 names)) (filter test ((place, name) ∷ []))
    )
