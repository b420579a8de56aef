-- How symbols are found by their names and changed at their places.
use Rattle.std.proofs.Common.{◌≡◌, ◌<◌, ◌≤◌, ◌+◌, [], ◌∷◌, ℕ, suc, List, Bool, cond, length, get_or, Option, Some, None, Result, Ok, Err, refl, sym, ap, ◌∙◌, arith, inl, inr}
use Rattle.std.specs.Prelude.{map, not, nat_lt}
use Rattle.std.specs.List.{find, position, position_or_len}
use Rattle.std.specs.Str.{bytes_eq}
use Rattle.std.proofs.Math.ListN.{set}
use Rattle.std.proofs.Math.Seq.{map-set_same}
use Rattle.std.proofs.lemmas.Bool.{cases_Bool}
use Rattle.std.proofs.lemmas.Bool.Decides.{nat_tests}
use Rattle.std.proofs.lemmas.List.{length-map}
use Rattle.std.proofs.lemmas.List.Sums.{prefix_len-le-length}
use Rattle.elf_write.specs.declared.module.ModSymbol.{ModSymbol}
use Rattle.std.specs.Option.{ok_or}
use Rattle.std.specs.Result.{IfOk, OnErr}
use Rattle.rv_asm.specs.declared.fault.AsmFault.{AsmFault}
use Rattle.rv_asm.specs.Drafts.{label_names, symbol_names}
use Rattle.rv_asm.specs.Labels.{LabelValue, changed, place_named, symbol_named, symbol_place}
use Rattle.rv_asm.specs.Names.{name_place}

-- ---- places by names alone

first-map : {X Y : Type 0} (p : Y → Bool) (f : X → Y) (xs : List X) → position_or_len (λ x. p (f x)) xs ≡ position_or_len p (map f xs)
first-map p f [] = refl
first-map p f (x ∷ xs) = ap (λ (n : ℕ). cond (not (p (f x))) (1 + n) 0) (first-map p f xs)

pub position-map : {X Y : Type 0} (p : Y → Bool) (f : X → Y) (xs : List X) → position (λ x. p (f x)) xs ≡ position p (map f xs)
position-map p f xs =
    let same = first-map p f xs in
    let long = length-map xs f in
    ap (λ (n : ℕ). cond (nat_lt n (length xs)) (Some n) None) same
    ∙ ap (λ (m : ℕ). cond (nat_lt (position_or_len p (map f xs)) m) (Some (position_or_len p (map f xs))) None) (sym long)

-- a symbol stands at the place of its label
pub same_place : (name : List ℕ) (labels : List LabelValue) (symbols : List ModSymbol) → symbol_names symbols ≡ label_names labels → place_named name labels ≡ symbol_place name symbols
same_place name labels symbols e =
    position-map (λ n. bytes_eq n name) (λ (l : LabelValue). l.name) labels
    ∙ ap (name_place name) (sym e)
    ∙ sym (position-map (λ n. bytes_eq n name) (λ (s : ModSymbol). s.name) symbols)

-- ---- the symbol at a place

pub is_first : {X : Type 0} (p : X → Bool) (xs : List X) (i : ℕ) → position p xs ≡ Some i → (position_or_len p xs ≡ i) × (i < length xs)
is_first p xs i e =
    let small : position_or_len p xs ≤ length xs = prefix_len-le-length (λ x. not (p x)) xs in
    elim (cases_Bool (nat_lt (position_or_len p xs) (length xs))) [
      | inl t ↦
          let same : position_or_len p xs ≡ i = cc in
          let h : position_or_len p xs < length xs = grind (arith, nat_tests) in
          (same, omega arith)
      | inr t ↦ absurd cc
    ]

pub is_past : {X : Type 0} (p : X → Bool) (xs : List X) → position p xs ≡ None → position_or_len p xs ≡ length xs
is_past p xs e =
    let small : position_or_len p xs ≤ length xs = prefix_len-le-length (λ x. not (p x)) xs in
    grind (arith, nat_tests)

one_more : (n : ℕ) → 1 + n ≡ suc n
one_more n = omega arith

pub find_first : {X : Type 0} (p : X → Bool) (xs : List X) (d : X) → position_or_len p xs < length xs → find p xs ≡ Some (get_or xs (position_or_len p xs) d)
find_first p [] d h = absurd (omega arith)
find_first p (x ∷ xs) d h =
    elim (cases_Bool (p x)) [
      | inl t ↦ rw (t) refl
      | inr t ↦
          let more : 1 + position_or_len p xs < suc (length xs) = rw t at h in
          let found : find p xs ≡ Some (get_or xs (position_or_len p xs) d) = find_first p xs d (omega arith) in
          let at : find p xs ≡ Some (get_or (x ∷ xs) (1 + position_or_len p xs) d) = found ∙ sym (ap (λ (n : ℕ). Some (get_or (x ∷ xs) n d)) (one_more (position_or_len p xs))) in
          rw (t) at
    ]

pub find_none : {X : Type 0} (p : X → Bool) (xs : List X) → position_or_len p xs ≡ length xs → find p xs ≡ None
find_none p [] h = refl
find_none p (x ∷ xs) h =
    elim (cases_Bool (p x)) [
      | inl t ↦ let none : 0 ≡ suc (length xs) = rw t at h in absurd (omega arith)
      | inr t ↦
          let more : 1 + position_or_len p xs ≡ suc (length xs) = rw t at h in
          let none : find p xs ≡ None = find_none p xs (omega arith) in
          rw (t) none
    ]

-- the symbol of a name is the one at its place
pub named_at : (name : List ℕ) (symbols : List ModSymbol) (place : ℕ) (s : ModSymbol) → symbol_place name symbols ≡ Some place → s ≡ get_or symbols place s → symbol_named name symbols ≡ Some s
named_at name symbols place s e f =
    let at = is_first (λ (t : ModSymbol). bytes_eq t.name name) symbols place e in
    find_first (λ (t : ModSymbol). bytes_eq t.name name) symbols s (omega arith)
    ∙ ap (λ (n : ℕ). Some (get_or symbols n s)) at.0
    ∙ ap Some (sym f)

pub named_none : (name : List ℕ) (symbols : List ModSymbol) → symbol_place name symbols ≡ None → symbol_named name symbols ≡ None
named_none name symbols e = find_none (λ (t : ModSymbol). bytes_eq t.name name) symbols (is_past (λ (t : ModSymbol). bytes_eq t.name name) symbols e)

changed_first : (name : List ℕ) (f : ModSymbol → ModSymbol) (ss : List ModSymbol) (d : ModSymbol) → position_or_len (λ (t : ModSymbol). bytes_eq t.name name) ss < length ss
    → changed name f ss ≡ set ss (position_or_len (λ (t : ModSymbol). bytes_eq t.name name) ss) (f (get_or ss (position_or_len (λ (t : ModSymbol). bytes_eq t.name name) ss) d))
changed_first name f [] d h = absurd (omega arith)
changed_first name f (s ∷ ss) d h =
    elim (cases_Bool (bytes_eq s.name name)) [
      | inl t ↦ rw (t) refl
      | inr t ↦
          let first = position_or_len (λ (u : ModSymbol). bytes_eq u.name name) ss in
          let more : 1 + first < suc (length ss) = rw t at h in
          let made : changed name f ss ≡ set ss first (f (get_or ss first d)) = changed_first name f ss d (omega arith) in
          let at : s ∷ changed name f ss ≡ set (s ∷ ss) (1 + first) (f (get_or (s ∷ ss) (1 + first) d)) =
          ap (λ (us : List ModSymbol). s ∷ us) made ∙ sym (ap (λ (n : ℕ). set (s ∷ ss) n (f (get_or (s ∷ ss) n d))) (one_more first)) in
          rw (t) at
    ]

-- the symbols, of which the one at the place of a name is changed
pub changed_at : (name : List ℕ) (f : ModSymbol → ModSymbol) (symbols : List ModSymbol) (place : ℕ) (s : ModSymbol) → symbol_place name symbols ≡ Some place → s ≡ get_or symbols place s
    → changed name f symbols ≡ set symbols place (f s)
changed_at name f symbols place s e same =
    let at = is_first (λ (t : ModSymbol). bytes_eq t.name name) symbols place e in
    changed_first name f symbols s (omega arith)
    ∙ ap (λ (n : ℕ). set symbols n (f (get_or symbols n s))) at.0
    ∙ ap (λ (t : ModSymbol). set symbols place (f t)) (sym same)

-- a change of a symbol that keeps its name keeps all names
pub names_stay : (symbols : List ModSymbol) (place : ℕ) (s t : ModSymbol) → s ≡ get_or symbols place s → t.name ≡ s.name → symbol_names (set symbols place t) ≡ symbol_names symbols
names_stay symbols place s t e same = map-set_same (λ (u : ModSymbol). u.name) symbols place t s (same ∙ ap (λ (u : ModSymbol). u.name) e)

-- ---- what a search answers

pub place_found : (r : Result ℕ AsmFault) (o q : Option ℕ) (e : AsmFault) → r ≡ ok_or o e → q ≡ o → IfOk r (λ i. q ≡ Some i)
place_found (Ok i) (Some j) q e h k = cc
place_found (Ok i) None q e h k = absurd cc
place_found (Err x) o q e h k = tt

pub place_none : (r : Result ℕ AsmFault) (o q : Option ℕ) (e : AsmFault) → r ≡ ok_or o e → q ≡ o → OnErr r (q ≡ None)
place_none (Ok i) o q e h k = tt
place_none (Err x) (Some j) q e h k = absurd cc
place_none (Err x) None q e h k = k
