-- How labels are found by their names.
use denote.Ref.{Bor}
use Rattle.std.proofs.Common.{◌≡◌, ◌<◌, ◌≤◌, [], ◌∷◌, ◌++◌, ℕ, List, Bool, false, cond, length, Option, Some, None, sym, ap, ◌∙◌, arith, inl, inr, IfSome}
use Rattle.std.specs.Prelude.{not}
use Rattle.std.specs.List.{position, position_or_len}
use Rattle.std.specs.Str.{bytes_eq}
use Rattle.std.specs.Map.{update}
use Rattle.std.specs.BTreeMap.{BTreeMap, UpdatesBy}
use Rattle.std.specs.Cmp.Lexicographic.{slice_cmp}
use Rattle.std.specs.Ordering.{nat_cmp}
use Rattle.std.proofs.lemmas.Bool.Decides.{nat_tests}
use Rattle.std.proofs.lemmas.List.Folds.{position_or_len_push}
use Rattle.std.proofs.lemmas.List.Quantifiers.{position-Some}
use Rattle.std.proofs.lemmas.Bool.{cases_Bool}
use Rattle.std.proofs.lemmas.List.{length_push}
use Rattle.std.proofs.lemmas.List.Sums.{prefix_len-le-length}
use Rattle.std.proofs.lemmas.Map.Text.{btree_map_updates_str}
use Rattle.std.proofs.lemmas.Slice.Eq.{bytes_eq-Decides}
use Rattle.asm_lines.specs.declared.statement.SectionId.TheVariants as section
use Rattle.rv_asm.specs.Labels.{LabelValue, place_named}
use Rattle.rv_asm.specs.Places.{IsIndex}

nobody : LabelValue
nobody = record { name = []; section = section.Text; offset = 0 }

-- a place is one of the list
pub place_within : (name : List ℕ) (labels : List LabelValue) (o : Option ℕ) → o ≡ place_named name labels → IfSome o (λ place. place < length labels)
place_within name labels None e = tt
place_within name labels (Some i) e = (position-Some (λ (l : LabelValue). bytes_eq l.name name) labels i nobody (sym e)).0

pub position-push : {X : Type 0} (p : X → Bool) (xs : List X) (y : X) → position p xs ≡ None → position p (xs ++ y ∷ []) ≡ cond (p y) (Some (length xs)) None
position-push p xs y e =
    let long = length_push xs y in
    let found = position_or_len_push p xs y in
    let small : position_or_len p xs ≤ length xs = prefix_len-le-length (λ x. not (p x)) xs in
    grind (arith, nat_tests)

pub position-push_other : {X : Type 0} (p : X → Bool) (xs : List X) (y : X) → p y ≡ false → position p (xs ++ y ∷ []) ≡ position p xs
position-push_other p xs y e =
    let long = length_push xs y in
    let found = position_or_len_push p xs y in
    grind (arith, nat_tests)

-- a label whose name none has is found, and the others are found as before
place_push : (labels : List LabelValue) (l : LabelValue) → place_named l.name labels ≡ None
    → (name : List ℕ) → place_named name (labels ++ l ∷ []) ≡ update bytes_eq (λ n. place_named n labels) l.name (Some (length labels)) name
place_push labels l none name =
    elim (cases_Bool (bytes_eq l.name name)) [
      | inl same_name ↦
          let same : l.name ≡ name = (bytes_eq-Decides l.name name).0 same_name in
          position-push (λ (m : LabelValue). bytes_eq m.name name) labels l (ap (λ n. place_named n labels) (sym same) ∙ none)
          ∙ ap (λ (b : Bool). cond b (Some (length labels)) None) same_name
          ∙ sym (ap (λ (b : Bool). cond b (Some (length labels)) (place_named name labels)) same_name)
      | inr other_name ↦
          position-push_other (λ (m : LabelValue). bytes_eq m.name name) labels l other_name
          ∙ sym (ap (λ (b : Bool). cond b (Some (length labels)) (place_named name labels)) other_name)
    ]

pub index_push : (m n : BTreeMap (Bor (List ℕ)) ℕ) (labels : List LabelValue) (l : LabelValue) (count : ℕ) (more : List LabelValue) → IsIndex m labels → place_named l.name labels ≡ None
    → UpdatesBy (λ x y. slice_cmp nat_cmp x.now y.now) (λ k. slice_cmp nat_cmp l.name k.now) m n (Some count) → count ≡ length labels → more ≡ labels ++ l ∷ [] → IsIndex n more
index_push m n labels l count more index none updates long e = record {
  find = λ name.
      btree_map_updates_str l.name m n (Some count) updates name
      ∙ ap (λ (f : Option ℕ). cond (bytes_eq l.name name) (Some count) f) (index.find name)
      ∙ ap (λ (k : ℕ). cond (bytes_eq l.name name) (Some k) (place_named name labels)) long
      ∙ sym (place_push labels l none name)
      ∙ ap (place_named name) (sym e);
}
