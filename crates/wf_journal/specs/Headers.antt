-- The first lines of a report, and how lines are joined.
use Rattle.std.specs.Prelude.{ℕ, suc, List, [], ◌∷◌, ◌++◌, codes}
use Rattle.std.specs.List.{flat_map}
use Rattle.std.specs.Fmt.{decimal}

-- a line ends with a newline
abbrev pub line : List ℕ → List ℕ
line text = text ++ 10 ∷ []

-- the first line of a report, which is that of its format and version
abbrev pub version_text : List ℕ
version_text = codes "wfpatch run 1"

-- how many harts the run has
abbrev pub harts_text : ℕ → List ℕ
harts_text harts = codes "harts " ++ decimal harts

-- how many frames
abbrev pub frames_text : ℕ → List ℕ
frames_text frames = codes "frames " ++ decimal frames

-- a patch: its number and its name
unfoldable pub patch_line : ℕ → List ℕ → List ℕ
patch_line number name = codes "patch " ++ decimal number ++ codes " " ++ name

-- the patches by their numbers
unfoldable pub patch_lines : ℕ → List (List ℕ) → List (List ℕ)
patch_lines number [] = []
patch_lines number (name ∷ names) = patch_line number name ∷ patch_lines (suc number) names

-- the first lines of a report
abbrev pub header_lines : ℕ → ℕ → List (List ℕ) → List (List ℕ)
header_lines harts frames patches =
    version_text ∷ harts_text harts ∷ frames_text frames ∷ patch_lines 0 patches

-- lines as bytes
abbrev pub joined : List (List ℕ) → List ℕ
joined lines = flat_map line lines
