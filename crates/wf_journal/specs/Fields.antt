-- How a line is read: words that are parted by one space each.
use Rattle.std.specs.Prelude.{ℕ, List, [], ◌∷◌, ◌-◌, ◌^◌, ◌==◌, Option, Some, None, option_and_then, codes, drop, length, slice_index, Bool, true, false, if◌then◌else◌}
use Rattle.std.specs.Str.{bytes_eq}
use Rattle.wf_text.specs.Lines.{before, from}
use Rattle.wf_text.specs.Numbers.{glyph_value, number_of, number_from}
use Rattle.wf_flat.specs.declared.event.Actor.{Actor}
use Rattle.wf_flat.specs.declared.event.Actor.TheVariants.{Hart, Kernel}

-- what comes of a value, where there is one
infixl 10 ◌>>=◌
abbrev pub ◌>>=◌ : {A B : Type 0} → Option A → (A → Option B) → Option B
o >>= f = option_and_then f o

-- the word behind a space, and what stands behind it
unfoldable pub word_at : List ℕ → Option (List ℕ × List ℕ)
word_at [] = None
word_at (c ∷ cs) = if c == 32 then Some (before 32 cs, from 32 cs) else None

-- what the next word is the text of, and what stands behind it
unfoldable pub field : {A : Type 0} → (List ℕ → Option A) → List ℕ → Option (A × List ℕ)
field value_of rest = do
  word ← word_at rest
  value ← value_of word.0
  Some (value, word.1)

-- a value where nothing stands behind it
abbrev pub ended : {A : Type 0} → List ℕ → A → Option A
ended [] x = Some x
ended (c ∷ cs) x = None

-- one word, and no more
unfoldable pub one : {A : Type 0} → (List ℕ → Option A) → List ℕ → Option A
one f rest = do
  a ← field f rest
  ended a.1 a.0

-- two words, and no more
unfoldable pub two : {A B : Type 0} → (List ℕ → Option A) → (List ℕ → Option B) → List ℕ
    → Option (A × B)
two f g rest = do
  a ← field f rest
  b ← field g a.1
  ended b.1 (a.0, b.0)

-- three words, and no more
unfoldable pub three : {A B C : Type 0} → (List ℕ → Option A) → (List ℕ → Option B)
    → (List ℕ → Option C) → List ℕ → Option (A × B × C)
three f g h rest = do
  a ← field f rest
  b ← field g a.1
  c ← field h b.1
  ended c.1 (a.0, b.0, c.0)

-- four words, and no more
unfoldable pub four : {A B C D : Type 0} → (List ℕ → Option A) → (List ℕ → Option B)
    → (List ℕ → Option C) → (List ℕ → Option D) → List ℕ → Option (A × B × C × D)
four f g h i rest = do
  a ← field f rest
  b ← field g a.1
  c ← field h b.1
  d ← field i c.1
  ended d.1 (a.0, b.0, c.0, d.0)

-- numbers of 64, 32 and 8 bits
abbrev pub hex64 : List ℕ → Option ℕ
hex64 = number_of 16 (2 ^ 64 - 1)

-- a hexadecimal number of 32 bits
abbrev pub hex32 : List ℕ → Option ℕ
hex32 = number_of 16 (2 ^ 32 - 1)

-- a decimal number of 64 bits
abbrev pub decimal64 : List ℕ → Option ℕ
decimal64 = number_of 10 (2 ^ 64 - 1)

-- a decimal number of 32 bits
abbrev pub decimal32 : List ℕ → Option ℕ
decimal32 = number_of 10 (2 ^ 32 - 1)

-- a decimal number of 8 bits
abbrev pub decimal8 : List ℕ → Option ℕ
decimal8 = number_of 10 255

-- a number of so many hexadecimal digits
unfoldable pub wide_hex : ℕ → ℕ → List ℕ → Option ℕ
wide_hex width most word =
    if length word == width then number_from glyph_value 16 most 0 word else None

-- a right: `rw`, or `r` alone
unfoldable pub right_of : List ℕ → Option Bool
right_of word =
    if bytes_eq word (codes "rw") then Some true
    else (if bytes_eq word (codes "r") then Some false else None)

-- the patch of this number, where there is a number
abbrev pub as_patch : Option ℕ → Option (Option ℕ)
as_patch None = None
as_patch (Some k) = Some (Some k)

-- a patch: `p` and its number, or the text that stands for none
unfoldable pub patch_of : List ℕ → List ℕ → Option (Option ℕ)
patch_of none word =
    if bytes_eq word none then Some None
    else (if slice_index word 0 == 112 then as_patch (decimal32 (drop 1 word)) else None)

-- the hart of this number, where there is a number
abbrev pub as_hart : Option ℕ → Option Actor
as_hart None = None
as_hart (Some h) = Some (Hart h)

-- an actor: `k`, or `h` and a number below 256
unfoldable pub actor_of : List ℕ → Option Actor
actor_of word =
    if bytes_eq word (codes "k") then Some Kernel
    else (if slice_index word 0 == 104 then as_hart (decimal8 (drop 1 word)) else None)
