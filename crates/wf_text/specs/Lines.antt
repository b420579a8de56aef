-- Lines, the words of a line, and names.
use Rattle.std.specs.Prelude.{ℕ, List, [], ◌∷◌, ◌==◌, ◌&&◌, Bool, true, nat_lt, nat_le, Option, Some, None, length, if◌then◌else◌}

-- a line that begins with this byte, where these lines follow
abbrev pub with_first : ℕ → List (List ℕ) → List (List ℕ)
with_first c [] = (c ∷ []) ∷ []
with_first c (line ∷ lines) = (c ∷ line) ∷ lines

-- the lines of a text: a line ends with a newline, and the last may lack it
unfoldable pub lines_of : List ℕ → List (List ℕ)
lines_of [] = []
lines_of (c ∷ cs) = if c == 10 then [] ∷ lines_of cs else with_first c (lines_of cs)

-- what stands before the first such byte, or all
unfoldable pub before : ℕ → List ℕ → List ℕ
before mark [] = []
before mark (c ∷ cs) = if c == mark then [] else c ∷ before mark cs

-- what stands from the first such byte on
unfoldable pub from : ℕ → List ℕ → List ℕ
from mark [] = []
from mark (c ∷ cs) = if c == mark then c ∷ cs else from mark cs

-- what stands behind the spaces at the front
unfoldable pub unspaced : List ℕ → List ℕ
unspaced [] = []
unspaced (c ∷ cs) = if c == 32 then unspaced cs else c ∷ cs

-- each byte is printed, and is no space
unfoldable pub are_graphic : List ℕ → Bool
are_graphic [] = true
are_graphic (c ∷ cs) = nat_le 33 c && nat_le c 126 && are_graphic cs

-- the name of a file
unfoldable pub name_of : List ℕ → Option (List ℕ)
name_of word = if nat_lt 0 (length word) && are_graphic word then Some word else None
