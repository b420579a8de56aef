-- Names, and how they are found.
use denote.Ref.{Bor}
use Rattle.std.proofs.Common.{◌≡◌, ◌≢◌, ◌<◌, ◌≤◌, ◌+◌, ◌^◌, ◌%◌, [], ◌∷◌, ◌++◌, ℕ, zero, suc, List, Bool, true, false, cond, length, get_or, Option, Some, None, refl, sym, ap, ◌∙◌, add-one, add-zero, arith, inl, inr}
use Rattle.std.specs.Prelude.{◌&&◌, is_some, map, nat_lt, not, take}
use Rattle.std.specs.BTreeMap.{BTreeMap, UpdatesBy, get_by}
use Rattle.std.specs.Cmp.Lexicographic.{slice_cmp}
use Rattle.std.specs.List.{filter, position, range_with_len, AllByRecursion}
use Rattle.std.specs.Ordering.{nat_cmp}
use Rattle.std.specs.Str.{bytes_eq}
use Rattle.std.proofs.lemmas.Bool.{cases_Bool}
use Rattle.std.proofs.lemmas.Bool.Decides.{nat_tests}
use Rattle.std.proofs.lemmas.Fmt.{decimal_by_steps}
use Rattle.std.proofs.lemmas.List.{append-nil, length-append, length-map, length-take, map-append, nil_from_length, take-append-le, take_all, take_more}
use Rattle.std.proofs.lemmas.List.Elements.{filter-append}
use Rattle.std.proofs.lemmas.List.Folds.{position_or_len_push}
use Rattle.std.proofs.lemmas.List.Sums.{prefix_len-le-length}
use Rattle.std.proofs.lemmas.Map.Text.{btree_map_updates_str}
use Rattle.std.proofs.lemmas.Slice.Eq.{bytes_eq-Decides}
use Rattle.std.specs.List.{position_or_len}
use Rattle.wf_text.specs.Lines.{lines_of}
use Rattle.rv_asm.specs.Names.{IsNameIndex, free_names, la_count, name_place, name_values, names_used, pcrel_name, with_free}
use Rattle.rv_asm.specs.Uses.{IsPlainName}
use Rattle.rv_asm.proofs.FirstLemmas.{no_lines}
use Rattle.rv_asm.proofs.PlaceLemmas.{position-push, position-push_other}

-- ---- an index of names

-- a name that is there already is found as before
position-push_found : {X : Type 0} (p : X → Bool) (xs : List X) (y : X) (i : ℕ) → position p xs ≡ Some i → position p (xs ++ y ∷ []) ≡ Some i
position-push_found p xs y i e =
    let found = position_or_len_push p xs y in
    let long = length-append xs (y ∷ []) in
    let small : position_or_len p xs ≤ length xs = prefix_len-le-length (λ x. not (p x)) xs in
    grind (arith, nat_tests)

pub index_first : (m n : BTreeMap (Bor (List ℕ)) ℕ) (names : List (List ℕ)) (name : List ℕ) (count : ℕ) → IsNameIndex m names → name_place name names ≡ None
    → UpdatesBy (λ x y. slice_cmp nat_cmp x.now y.now) (λ k. slice_cmp nat_cmp name k.now) m n (Some count) → count ≡ length names → IsNameIndex n (names ++ name ∷ [])
index_first m n names name count index none updates long = record {
  find = λ q.
      btree_map_updates_str name m n (Some count) updates q
      ∙ ap (λ (f : Option ℕ). cond (bytes_eq name q) (Some count) f) (index.find q)
      ∙ ap (λ (k : ℕ). cond (bytes_eq name q) (Some k) (name_place q names)) long
      ∙ by_test q;
}
  where
    by_test : (q : List ℕ) → cond (bytes_eq name q) (Some (length names)) (name_place q names) ≡ name_place q (names ++ name ∷ [])
    by_test q =
        elim (cases_Bool (bytes_eq name q)) [
          | inl same_name ↦
              let same : name ≡ q = (bytes_eq-Decides name q).0 same_name in
              ap (λ (b : Bool). cond b (Some (length names)) (name_place q names)) same_name
              ∙ sym (position-push (λ (k : List ℕ). bytes_eq k q) names name (ap (λ (k : List ℕ). name_place k names) (sym same) ∙ none) ∙ ap (λ (b : Bool). cond b (Some (length names)) None) same_name)
          | inr other_name ↦
              ap (λ (b : Bool). cond b (Some (length names)) (name_place q names)) other_name
              ∙ sym (position-push_other (λ (k : List ℕ). bytes_eq k q) names name other_name)
        ]

pub index_again : (m : BTreeMap (Bor (List ℕ)) ℕ) (names : List (List ℕ)) (name : List ℕ) → IsNameIndex m names → is_some (name_place name names) ≡ true → IsNameIndex m (names ++ name ∷ [])
index_again m names name index there = record { find = λ q. index.find q ∙ by_test q }
  where
    by_test : (q : List ℕ) → name_place q names ≡ name_place q (names ++ name ∷ [])
    by_test q =
        elim (cases_Bool (bytes_eq name q)) [
          | inl same_name ↦
              let same : name ≡ q = (bytes_eq-Decides name q).0 same_name in
              at_place q (name_place q names) refl (ap (λ (k : List ℕ). is_some (name_place k names)) (sym same) ∙ there)
          | inr other_name ↦ sym (position-push_other (λ (k : List ℕ). bytes_eq k q) names name other_name)
        ]
      where
        at_place : (q : List ℕ) (o : Option ℕ) → name_place q names ≡ o → is_some (name_place q names) ≡ true → name_place q names ≡ name_place q (names ++ name ∷ [])
        at_place q None e some = absurd cc
        at_place q (Some i) e some = e ∙ sym (position-push_found (λ (k : List ℕ). bytes_eq k q) names name i e)

-- one name more
pub values_more : (names : List (Bor (List ℕ))) (i : ℕ) (d : Bor (List ℕ)) → i < length names → name_values (take (i + 1) names) ≡ name_values (take i names) ++ (get_or names i d).now ∷ []
values_more names i d h = ap name_values (take_more names i d h) ∙ map-append (λ (n : Bor (List ℕ)). n.now) (take i names) (get_or names i d ∷ [])

pub values_length : (names : List (Bor (List ℕ))) (i : ℕ) → i ≤ length names → length (name_values (take i names)) ≡ i
values_length names i h = length-map (take i names) (λ (n : Bor (List ℕ)). n.now) ∙ omega (arith, length-take i names, h)

-- ---- no lines

pub no_names : (rest : List ℕ) → length rest ≡ 0 → names_used (lines_of rest) ≡ []
no_names rest e = ap (λ (bytes : List ℕ). names_used (lines_of bytes)) (nil_from_length rest e) ∙ ap names_used no_lines

pub no_las : (rest : List ℕ) → length rest ≡ 0 → la_count (lines_of rest) ≡ 0
no_las rest e = ap (λ (bytes : List ℕ). la_count (lines_of bytes)) (nil_from_length rest e) ∙ ap la_count no_lines

-- ---- names of local labels

plain_append : (xs ys : List ℕ) → IsPlainName xs → IsPlainName ys → IsPlainName (xs ++ ys)
plain_append [] ys h k = k
plain_append (x ∷ xs) ys h k = (h.0, plain_append xs ys h.1 k)

above_zero : (n : ℕ) → 48 + n ≢ 0
above_zero n = λ e. omega (arith, e)

pub pcrel_plain : (n : ℕ) → n < 2 ^ 64 → IsPlainName (pcrel_name n)
pcrel_plain n h =
    ((λ e. cc), ((λ e. cc), ((λ e. cc), decimal_by_steps (λ _ ds. IsPlainName ds) (λ d l. (above_zero d, tt)) (λ m ds l plain. plain_append ds ((48 + m % 10) ∷ []) plain (above_zero (m % 10), tt)) n h)))

range_push : (a n : ℕ) → range_with_len a (suc n) ≡ range_with_len a n ++ (a + n) ∷ []
range_push a zero = ap (λ (k : ℕ). k ∷ []) (sym (add-zero a))
range_push a (suc n) =
    let next : a + 1 + n ≡ a + suc n = omega arith in
    ap (λ (l : List ℕ). a ∷ l) (range_push (a + 1) n ∙ ap (λ (k : ℕ). range_with_len (a + 1) n ++ k ∷ []) next)

-- one number more
pub candidates_more : (n : ℕ) → map pcrel_name (range_with_len 0 (n + 1)) ≡ map pcrel_name (range_with_len 0 n) ++ pcrel_name n ∷ []
candidates_more n =
    let zero_on : 0 + n ≡ n = omega arith in
    ap (λ (k : ℕ). map pcrel_name (range_with_len 0 k)) (add-one n)
    ∙ ap (map pcrel_name) (range_push 0 n ∙ ap (λ (k : ℕ). range_with_len 0 n ++ k ∷ []) zero_on)
    ∙ map-append pcrel_name (range_with_len 0 n) (n ∷ [])

abbrev is_free : List (List ℕ) → List ℕ → Bool
is_free used name = not (is_some (name_place name used))

-- one name more, of which some are taken
with_more : (count : ℕ) (used xs : List (List ℕ)) (x : List ℕ) (b c : Bool) → is_free used x ≡ b → nat_lt (length (take count (filter (is_free used) xs))) count ≡ c
    → (cond (c && b) (take count (filter (is_free used) xs) ++ x ∷ []) (take count (filter (is_free used) xs))) ≡ take count (filter (is_free used) xs ++ cond b (x ∷ []) [])
with_more count used xs x b false e f =
    let ys = filter (is_free used) xs in
    let full : count ≤ length ys = grind (arith, nat_tests, length-take count ys) in
    sym (take-append-le count ys (cond b (x ∷ []) []) full)
with_more count used xs x false true e f =
    let ys = filter (is_free used) xs in
    sym (ap (take count) (append-nil ys))
with_more count used xs x true true e f =
    let ys = filter (is_free used) xs in
    let short : length ys < count = grind (arith, nat_tests, length-take count ys) in
    let whole : take count ys ≡ ys = take_all count ys (omega (arith, short)) in
    ap (λ (l : List (List ℕ)). l ++ x ∷ []) whole ∙ sym (take_all count (ys ++ x ∷ []) (omega (arith, short, length-append ys (x ∷ []))))

pub free_more : (count : ℕ) (used names xs : List (List ℕ)) (x : List ℕ) → names ≡ take count (filter (is_free used) xs) → with_free count used names x ≡ take count (filter (is_free used) (xs ++ x ∷ []))
free_more count used names xs x e =
    ap (λ (l : List (List ℕ)). with_free count used l x) e
    ∙ with_more count used xs x (is_free used x) (nat_lt (length (take count (filter (is_free used) xs))) count) refl refl
    ∙ sym (ap (take count) (filter-append (is_free used) xs (x ∷ [])))

pub free_plain : (count : ℕ) (used names : List (List ℕ)) (x : List ℕ) → AllByRecursion IsPlainName names → IsPlainName x → AllByRecursion IsPlainName (with_free count used names x)
free_plain count used names x h k =
    elim (nat_lt (length names) count && is_free used x) as (λ v. AllByRecursion IsPlainName (cond v (names ++ x ∷ []) names)) [ true ↦ all_more names h | false ↦ h ]
  where
    all_more : (ns : List (List ℕ)) → AllByRecursion IsPlainName ns → AllByRecursion IsPlainName (ns ++ x ∷ [])
    all_more [] g = (k, tt)
    all_more (n ∷ ns) g = (g.0, all_more ns g.1)

-- a name that the map does not have
pub none_by : (name : List ℕ) (m : BTreeMap (Bor (List ℕ)) ℕ) (names : List (List ℕ)) → IsNameIndex m names → is_some (get_by (λ k. slice_cmp nat_cmp name k.now) m) ≡ false → name_place name names ≡ None
none_by name m names index e = go (name_place name names) refl
  where
    go : (o : Option ℕ) → name_place name names ≡ o → name_place name names ≡ None
    go None f = f
    go (Some i) f = absurd (let some : is_some (get_by (λ k. slice_cmp nat_cmp name k.now) m) ≡ true = ap is_some (index.find name ∙ f) in cc)

-- where all candidates were looked at
pub free_names_are : (count n : ℕ) (used names : List (List ℕ)) → names ≡ take count (filter (is_free used) (map pcrel_name (range_with_len 0 n))) → n ≡ count + length used → names ≡ free_names count used
unfolding free_names
free_names_are count n used names e all = e ∙ ap (λ (k : ℕ). take count (filter (is_free used) (map pcrel_name (range_with_len 0 k)))) all
