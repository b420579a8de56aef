-- The lines of a patch's file: the header, the object, and then what is replaced. Lines without a
-- word, and lines whose first word begins with `#`, are passed over.
use Rattle.std.specs.Prelude.{◌≡◌, ℕ, suc, List, [], ◌∷◌, ◌+◌, Option, Some, None, Result, Ok, Err, length, if◌then◌else◌}
use Rattle.wf_text.specs.Lines.{lines_of}
use Rattle.patch_file.specs.declared.patch.Replace.{Replace}
use Rattle.patch_file.specs.declared.patch.PatchFault.{PatchFault}
use Rattle.patch_file.specs.declared.patch.PatchFault.TheVariants.{Line, Memory}
use Rattle.patch_file.specs.Words.{is_passed, header_in, object_in, replace_in}
use Rattle.patch_file.specs.Patches.{PatchValue}

-- what comes of what was read, where no line is at fault
infixl 10 ◌>>=◌
abbrev pub ◌>>=◌ : {A B : Type 0} → Result A ℕ → (A → Result B ℕ) → Result B ℕ
(Ok x) >>= f = f x
(Err line) >>= f = Err line

-- the lines that are not passed over, each with its number; the first line has this one
unfoldable pub unpassed : ℕ → List (List ℕ) → List (ℕ × List ℕ)
unpassed number [] = []
unpassed number (line ∷ lines) =
    if is_passed line then unpassed (suc number) lines
    else (number, line) ∷ unpassed (suc number) lines

-- a value, or the fault at this line where there is none
abbrev pub or_fault : {A : Type 0} → ℕ → Option A → Result A ℕ
or_fault line None = Err line
or_fault line (Some x) = Ok x

-- the first of these lines as a value, with those behind it; where there is none, this line is
-- missing
unfoldable pub line_at : {A : Type 0} → (List ℕ → Option A) → ℕ → List (ℕ × List ℕ)
    → Result (A × List (ℕ × List ℕ)) ℕ
line_at value_of missing [] = Err missing
line_at value_of missing (line ∷ lines) = do
  x ← or_fault line.0 (value_of line.1)
  Ok (x, lines)

-- what these names replace, on the line of this number
abbrev pub replace_on : ℕ → List ℕ × List ℕ → Replace
replace_on number names = record { old = names.0; new = names.1; line = number }

-- what a line of this number replaces
unfoldable pub replace_at : ℕ → List ℕ → Result Replace ℕ
replace_at number line = do
  names ← or_fault number (replace_in line)
  Ok (replace_on number names)

-- what all these lines replace
unfoldable pub replaces_in : List (ℕ × List ℕ) → Result (List Replace) ℕ
replaces_in [] = Ok []
replaces_in (line ∷ lines) = do
  replace ← replace_at line.0 line.1
  replaces ← replaces_in lines
  Ok (replace ∷ replaces)

-- a file of these lines, the header's first and then the object's; or its first fault, where this
-- line is the missing one
abbrev pub patch_in : ℕ → List (ℕ × List ℕ) → Result PatchValue ℕ
patch_in missing lines = do
  header ← line_at header_in missing lines
  object ← line_at object_in missing header.1
  replaces ← replaces_in object.1
  Ok (record { object = object.0; replaces = replaces })

-- The file of these bytes, or its fault: the first line that is not as it should be, or one past
-- the last line where the header's or the object's is missing.
unfoldable pub patch_of : List ℕ → Result PatchValue ℕ
patch_of bytes = patch_in (1 + length (lines_of bytes)) (unpassed 1 (lines_of bytes))

-- a fault is that of reading, unless memory ran out
abbrev pub IsFaultOf : {Y : Type 0} → PatchFault → Result Y ℕ → Type 0
IsFaultOf Memory read = Unit {0}
IsFaultOf (Line line) read = read ≡ Err line

-- a result, seen by view, is that of reading, unless memory ran out
abbrev pub Gives : {X Y : Type 0} → (X → Y) → Result X PatchFault → Result Y ℕ → Type 0
Gives view (Ok x) read = read ≡ Ok (view x)
Gives view (Err fault) read = IsFaultOf fault read

-- a result is that of reading, unless memory ran out
abbrev pub GivesPatch : Result PatchValue PatchFault → Result PatchValue ℕ → Type 0
GivesPatch result read = Gives (λ patch. patch) result read
