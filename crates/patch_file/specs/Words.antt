-- A line of a patch's file: words that are parted by spaces, which may also stand before the first
-- and behind the last.
use Rattle.std.specs.Prelude.{ℕ, List, ◌==◌, ◌||◌, Bool, Option, Some, None, option_and_then, codes, length, slice_index, if◌then◌else◌}
use Rattle.std.specs.Str.{bytes_eq}
use Rattle.wf_text.specs.Lines.{before, from, unspaced, name_of}

-- what comes of a value, where there is one
infixl 10 ◌>>=◌
abbrev pub ◌>>=◌ : {A B : Type 0} → Option A → (A → Option B) → Option B
o >>= f = option_and_then f o

-- a line without a word, or whose first word begins with `#`
abbrev pub is_passed : List ℕ → Bool
is_passed line = (length (unspaced line) == 0) || (slice_index (unspaced line) 0 == 35)

-- what stands behind the next word, where it is this one
unfoldable pub behind_word : List ℕ → List ℕ → Option (List ℕ)
behind_word word rest =
    if bytes_eq (before 32 (unspaced rest)) word then Some (from 32 (unspaced rest)) else None

-- the next word, where it is a name, and what stands behind it
unfoldable pub next_name : List ℕ → Option (List ℕ × List ℕ)
next_name rest = do
  name ← name_of (before 32 (unspaced rest))
  Some (name, from 32 (unspaced rest))

-- no word is left
abbrev pub is_ended : List ℕ → Bool
is_ended rest = length (unspaced rest) == 0

-- the format and its version: `wfpatch 1`
unfoldable pub header_in : List ℕ → Option (Unit {0})
header_in line = do
  rest ← behind_word (codes "wfpatch") line
  rest ← behind_word (codes "1") rest
  if is_ended rest then Some tt else None

-- the name of the object: `object NAME`
unfoldable pub object_in : List ℕ → Option (List ℕ)
object_in line = do
  rest ← behind_word (codes "object") line
  name ← next_name rest
  if is_ended name.1 then Some name.0 else None

-- the names of what is replaced and of what replaces it: `replace OLD NEW`
unfoldable pub replace_in : List ℕ → Option (List ℕ × List ℕ)
replace_in line = do
  rest ← behind_word (codes "replace") line
  old ← next_name rest
  new ← next_name old.1
  if is_ended new.1 then Some (old.0, new.0) else None
