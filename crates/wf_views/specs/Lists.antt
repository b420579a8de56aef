-- Lists with room, and lists in the order of their elements' numbers.
use Rattle.std.specs.Prelude.{◌≡◌, ◌<◌, ◌⊎◌, true, ℕ, ◌-◌, ◌==◌, List, [], ◌∷◌, ◌++◌, Bool, not, Option, Some, None, refl, is_some, if◌then◌else◌, map, max, nat_lt}
use Rattle.std.specs.List.{filter}
use Rattle.std.specs.Coded.{Coded, code_by, coded×, coded_ℕ, coded_list}

-- a list as clauses see it, with its room: so many more elements come without memory
pub record RoomyValue (A : Type 0) : Type 0 where
  pub items : List A
  pub room : ℕ

-- such a list is stored as the pair of its fields
abbrev pub roomy_code : {A : Type 0} → Coded A → Coded (RoomyValue A)
roomy_code {A} code =
    code_by
    (List A × ℕ)
    (coded× (coded_list code) coded_ℕ)
    (λ l. (l.items, l.room))
    (λ p. record { items = p.0; room = p.1 })
    (λ _. refl)

-- room for at least so many elements
abbrev pub roomier : {A : Type 0} → ℕ → RoomyValue A → RoomyValue A
roomier room l = record l { room = max l.room room }

-- one more element at the end, which takes room
abbrev pub pushed : {A : Type 0} → A → RoomyValue A → RoomyValue A
pushed x l = record { items = l.items ++ x ∷ []; room = l.room - 1 }

-- the element of a number
abbrev pub found_by : {A : Type 0} → (A → ℕ) → List A → ℕ → Option A
found_by number [] n = None
found_by number (x ∷ xs) n = if number x == n then Some x else found_by number xs n

-- the element of a number changes
abbrev pub changed_by : {A : Type 0} → (A → ℕ) → List A → ℕ → (A → A) → List A
changed_by number xs n f = map (λ x. if number x == n then f x else x) xs

-- the element of a number is taken out
abbrev pub without_by : {A : Type 0} → (A → ℕ) → List A → ℕ → List A
without_by number xs n = filter (λ x. not (number x == n)) xs

-- one more element, before the first whose number is not below its own
abbrev pub inserted_by : {A : Type 0} → (A → ℕ) → A → List A → List A
inserted_by number x [] = x ∷ []
inserted_by number x (y ∷ ys) =
    if nat_lt (number y) (number x) then y ∷ inserted_by number x ys else x ∷ y ∷ ys

-- a number among numbers is its own
abbrev pub itself : ℕ → ℕ
itself n = n

-- whether a number is among these
abbrev pub has_number : List ℕ → ℕ → Bool
has_number ns n = is_some (found_by itself ns n)

-- a number comes among rising ones, once; it takes room where it is new
abbrev pub number_added : ℕ → RoomyValue ℕ → RoomyValue ℕ
number_added n l =
    if has_number l.items n then l
    else record { items = inserted_by itself n l.items; room = l.room - 1 }

-- a number may come among these without memory: it is there already, or there is room
abbrev pub MayAdd : ℕ → RoomyValue ℕ → Type 0
MayAdd n l = (has_number l.items n ≡ true) ⊎ (0 < l.room)

-- a number is no longer among rising ones
abbrev pub number_removed : ℕ → RoomyValue ℕ → RoomyValue ℕ
number_removed n l = record l { items = without_by itself l.items n }
