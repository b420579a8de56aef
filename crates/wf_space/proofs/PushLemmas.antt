-- Elements that are pushed one after another.
use Rattle.std.proofs.Common.{◌≡◌, ◌<◌, ◌≤◌, ◌+◌, ◌-◌, ◌++◌, ℕ, zero, suc, List, [], ◌∷◌, Bool, false, Some, drop, length, map, refl, sym, ap, subst, ◌∙◌, arith, append_assoc, length-append}
use Rattle.std.specs.Prelude.{slice_get}
use Rattle.std.specs.List.{find, flat_map, range_with_len}
use Rattle.std.proofs.lemmas.List.{append-nil}
use Rattle.wf_views.specs.Lists.{RoomyValue}
use Rattle.wf_space.specs.Jobs.{all_pushed}

pushed_none : {A : Type 0} (l : RoomyValue A) → all_pushed [] l ≡ l
pushed_none {A = A} l =
    let e : l.room - 0 ≡ l.room = omega arith in
    ap (λ (xs : List A). let m : RoomyValue A = record { items = xs; room = l.room - 0 } in m) (append-nil l.items) ∙ ap (λ (k : ℕ). let m : RoomyValue A = record { items = l.items; room = k } in m) e

pushed_two : {A : Type 0} (a b : List A) (l : RoomyValue A) → all_pushed b (all_pushed a l) ≡ all_pushed (a ++ b) l
pushed_two {A = A} a b l =
    let e : (l.items ++ a) ++ b ≡ l.items ++ (a ++ b) = append_assoc l.items a b in
    let n : length (a ++ b) ≡ length a + length b = length-append a b in
    let f : l.room - length a - length b ≡ l.room - length (a ++ b) = omega arith in
    ap (λ (xs : List A). let m : RoomyValue A = record { items = xs; room = l.room - length a - length b } in m) e ∙ ap (λ (k : ℕ). let m : RoomyValue A = record { items = l.items ++ (a ++ b); room = k } in m) f

module _ {X A : Type 0} (f : X → List A) where
  -- what is still to be pushed
  pub record ArePushed (rest all : List X) (old now : RoomyValue A) : Type 0 where
    pub room : length (flat_map f rest) ≤ now.room
    pub whole : all_pushed (flat_map f rest) now ≡ all_pushed (flat_map f all) old

  pub push_start : (all : List X) (l : RoomyValue A) → length (flat_map f all) ≤ l.room → ArePushed all all l l
  push_start all l le = record { room = le; whole = refl }

  first_is : (rest more : List X) (x : X) (now : RoomyValue A) → rest ≡ x ∷ more → length (flat_map f rest) ≤ now.room → length (f x) + length (flat_map f more) ≤ now.room
  first_is rest more x now e le =
      let k : length (flat_map f (x ∷ more)) ≤ now.room = subst (λ (xs : List X). length (flat_map f xs) ≤ now.room) e le in
      let n : length (flat_map f (x ∷ more)) ≡ length (f x) + length (flat_map f more) = length-append (f x) (flat_map f more) in
      omega arith

  pub push_room : (rest all more : List X) (x : X) (old now : RoomyValue A) → ArePushed rest all old now → rest ≡ x ∷ more → length (f x) ≤ now.room
  push_room rest all more x old now are e = (let k : length (f x) + length (flat_map f more) ≤ now.room = first_is rest more x now e are.room in omega arith)

  pub push_next : (rest all more : List X) (x : X) (old now next : RoomyValue A) → ArePushed rest all old now → rest ≡ x ∷ more → next ≡ all_pushed (f x) now → ArePushed more all old next
  push_next rest all more x old now next are e made =
      let k : length (f x) + length (flat_map f more) ≤ now.room = first_is rest more x now e are.room in
      let r : next.room ≡ now.room - length (f x) = ap (λ (l : RoomyValue A). l.room) made in
      record {
        room = omega arith;
        whole = ap (all_pushed (flat_map f more)) made ∙ pushed_two (f x) (flat_map f more) now ∙ sym (ap (λ (xs : List X). all_pushed (flat_map f xs) now) e) ∙ are.whole;
      }

  pub push_end : (rest all : List X) (old now : RoomyValue A) → ArePushed rest all old now → rest ≡ [] → now ≡ all_pushed (flat_map f all) old
  push_end rest all old now are e = sym (pushed_none now) ∙ sym (ap (λ (xs : List X). all_pushed (flat_map f xs) now) e) ∙ are.whole

-- the rest of a list behind the element that stands at a place
pub drop_get : {X : Type 0} (xs : List X) (i : ℕ) (x : X) → slice_get xs i ≡ Some x → drop i xs ≡ x ∷ drop (suc i) xs
drop_get [] i x e = absurd cc
drop_get {X = X} (y ∷ xs) zero x e = (let k : y ≡ x = cc in ap (λ (z : X). z ∷ xs) k)
drop_get (y ∷ xs) (suc i) x e = drop_get xs i x e

pub drop_all : {X : Type 0} (xs : List X) (i : ℕ) → length xs ≤ i → drop i xs ≡ []
drop_all [] zero le = refl
drop_all [] (suc i) le = refl
drop_all (y ∷ xs) zero le = absurd (omega arith)
drop_all (y ∷ xs) (suc i) le = drop_all xs i (omega arith)

-- the rest of a range
pub range_rest : (first n i : ℕ) → i < n → range_with_len (first + i) (n - i) ≡ (first + i) ∷ range_with_len (first + (i + 1)) (n - (i + 1))
range_rest first n i lt =
    let e : n - i ≡ suc (n - (i + 1)) = omega arith in
    let f : (first + i) + 1 ≡ first + (i + 1) = omega arith in
    ap (range_with_len (first + i)) e ∙ ap (λ (k : ℕ). (first + i) ∷ range_with_len k (n - (i + 1))) f

pub range_end : (first n i : ℕ) → n ≤ i → range_with_len (first + i) (n - i) ≡ []
range_end first n i le = (let e : n - i ≡ 0 = omega arith in ap (range_with_len (first + i)) e)

pub range_start : (first n : ℕ) → range_with_len (first + 0) (n - 0) ≡ range_with_len first n
range_start first n =
    let e : first + 0 ≡ first = omega arith in
    let f : n - 0 ≡ n = omega arith in
    ap (λ (k : ℕ). range_with_len k (n - 0)) e ∙ ap (range_with_len first) f

-- one element for each
pub singles : {X A : Type 0} (g : X → A) (xs : List X) → flat_map (λ x. g x ∷ []) xs ≡ map g xs
singles g [] = refl
singles {A = A} g (x ∷ xs) = ap (λ (ys : List A). g x ∷ ys) (singles g xs)

pub singles_length : {A : Type 0} (g : ℕ → A) (first n : ℕ) → length (flat_map (λ x. g x ∷ []) (range_with_len first n)) ≡ n
singles_length g first zero = refl
singles_length g first (suc n) = ap suc (singles_length g (first + 1) n)

pub range_pushed : {A : Type 0} (f : ℕ → List A) (first n : ℕ) (l : RoomyValue A) → length (flat_map f (range_with_len first n)) ≤ l.room → ArePushed f (range_with_len (first + 0) (n - 0)) (range_with_len first n) l l
range_pushed f first n l le = subst (λ (rest : List ℕ). ArePushed f rest (range_with_len first n) l l) (sym (range_start first n)) (push_start f (range_with_len first n) l le)

pub singles_pushed : {A : Type 0} (g : ℕ → A) (first n : ℕ) (l : RoomyValue A) → n ≤ l.room → ArePushed (λ x. g x ∷ []) (range_with_len (first + 0) (n - 0)) (range_with_len first n) l l
singles_pushed g first n l le = range_pushed (λ x. g x ∷ []) first n l (let e : length (flat_map (λ x. g x ∷ []) (range_with_len first n)) ≡ n = singles_length g first n in omega arith)

pub range_next : {A : Type 0} (f : ℕ → List A) (first n i : ℕ) (old now next : RoomyValue A) → i < n → ArePushed f (range_with_len (first + i) (n - i)) (range_with_len first n) old now → next ≡ all_pushed (f (first + i)) now
    → ArePushed f (range_with_len (first + (i + 1)) (n - (i + 1))) (range_with_len first n) old next
range_next f first n i old now next lt are made =
    push_next f (range_with_len (first + i) (n - i)) (range_with_len first n) (range_with_len (first + (i + 1)) (n - (i + 1))) (first + i) old now next are (range_rest first n i lt) made

-- what is searched for in a range is not there yet
pub find_next : (p : ℕ → Bool) (first n i : ℕ) → i < n → p (first + i) ≡ false → find p (range_with_len (first + i) (n - i)) ≡ find p (range_with_len first n) → find p (range_with_len (first + (i + 1)) (n - (i + 1))) ≡ find p (range_with_len first n)
find_next p first n i lt f e =
    let past : find p ((first + i) ∷ range_with_len (first + (i + 1)) (n - (i + 1))) ≡ find p (range_with_len (first + (i + 1)) (n - (i + 1))) = rw f refl in
    sym (ap (find p) (range_rest first n i lt) ∙ past) ∙ e
