-- Elements that are pushed one after another, one for each.
use Rattle.std.proofs.Common.{◌≡◌, ◌<◌, ◌≤◌, ◌+◌, ℕ, suc, List, [], ◌∷◌, Some, drop, length, map, refl, ap, ◌∙◌, arith}
use Rattle.std.specs.Prelude.{slice_get}
use Rattle.std.specs.List.{flat_map}
use Rattle.wf_views.specs.Lists.{RoomyValue, pushed}
use Rattle.wf_space.specs.Jobs.{all_pushed}
use Rattle.wf_space.proofs.PushLemmas.{ArePushed, drop_all, drop_get, push_end, push_next, push_room, push_start, singles}

-- the rest of a list behind the element that stands at a place
pub drop_next : {X : Type 0} (xs : List X) (i : ℕ) (x : X) → slice_get xs i ≡ Some x → drop i xs ≡ x ∷ drop (i + 1) xs
drop_next xs i x e = drop_get xs i x e ∙ (let z : suc i ≡ i + 1 = omega arith in ap (λ (k : ℕ). x ∷ drop k xs) z)

-- what is pushed for the elements from a place on
module _ {X A : Type 0} (f : X → List A) where
  pub all_start : (xs : List X) (l : RoomyValue A) → length (flat_map f xs) ≤ l.room → ArePushed f (drop 0 xs) xs l l
  all_start xs l le = push_start f xs l le

  pub all_room : (xs : List X) (i : ℕ) (x : X) (old now : RoomyValue A) → ArePushed f (drop i xs) xs old now → slice_get xs i ≡ Some x → length (f x) ≤ now.room
  all_room xs i x old now are e = push_room f (drop i xs) xs (drop (i + 1) xs) x old now are (drop_next xs i x e)

  pub all_next : (xs : List X) (i : ℕ) (x : X) (old now next : RoomyValue A) → ArePushed f (drop i xs) xs old now → slice_get xs i ≡ Some x → next ≡ all_pushed (f x) now → ArePushed f (drop (i + 1) xs) xs old next
  all_next xs i x old now next are e made = push_next f (drop i xs) xs (drop (i + 1) xs) x old now next are (drop_next xs i x e) made

  pub all_end : (xs : List X) (i : ℕ) (old now : RoomyValue A) → ArePushed f (drop i xs) xs old now → length xs ≤ i → now ≡ all_pushed (flat_map f xs) old
  all_end xs i old now are le = push_end f (drop i xs) xs old now are (drop_all xs i le)

-- one is pushed for each
module _ {X A : Type 0} (g : X → A) where
  abbrev pub single : X → List A
  single x = g x ∷ []

  as_many : (xs : List X) → length (flat_map single xs) ≡ length xs
  as_many [] = refl
  as_many (x ∷ xs) = ap suc (as_many xs)

  -- those from a place on are still to be pushed
  pub record AreMade (xs : List X) (i : ℕ) (old now : RoomyValue A) : Type 0 where
    pub are : ArePushed single (drop i xs) xs old now

  pub made_none : (xs : List X) (l : RoomyValue A) → length xs ≤ l.room → AreMade xs 0 l l
  made_none xs l le = record { are = all_start single xs l (let n : length (flat_map single xs) ≡ length xs = as_many xs in omega arith) }

  pub made_room : (xs : List X) (i : ℕ) (x : X) (old now : RoomyValue A) → AreMade xs i old now → slice_get xs i ≡ Some x → 0 < now.room
  made_room xs i x old now made e = (let k : length (single x) ≤ now.room = all_room single xs i x old now made.are e in omega arith)

  pub made_next : (xs : List X) (i : ℕ) (x : X) (old now next : RoomyValue A) → AreMade xs i old now → slice_get xs i ≡ Some x → next ≡ pushed (g x) now → AreMade xs (i + 1) old next
  made_next xs i x old now next made e is = record { are = all_next single xs i x old now next made.are e is }

  pub made_all : (xs : List X) (i : ℕ) (old now : RoomyValue A) → AreMade xs i old now → length xs ≤ i → now ≡ all_pushed (map g xs) old
  made_all xs i old now made le = all_end single xs i old now made.are le ∙ ap (λ (ys : List A). all_pushed ys old) (singles g xs)
