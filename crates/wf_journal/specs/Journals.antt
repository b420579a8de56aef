-- A journal: the first lines, then entries and listings, then final lines. Any line that begins
-- with `| ` is a listing, and any line that begins with `= ` a final line.
use Rattle.std.specs.Prelude.{◌≡◌, ◌≤◌, ℕ, suc, List, [], ◌∷◌, ◌++◌, ◌==◌, Bool, true, false, nat_lt, nat_eq, Option, Some, None, Result, Ok, Err, codes, length, drop, if◌then◌else◌}
use Rattle.std.specs.Str.{bytes_eq}
use Rattle.std.specs.List.{starts_with}
use Rattle.wf_text.specs.Lines.{lines_of, name_of}
use Rattle.wf_text.specs.Numbers.{number_of}
use Rattle.wf_flat.specs.declared.event.Entry.{Entry}
use Rattle.wf_journal.specs.declared.journal.JournalFault.{JournalFault}
use Rattle.wf_journal.specs.declared.journal.JournalFault.TheVariants.{Line, Memory}
use Rattle.wf_journal.specs.Headers.{version_text}
use Rattle.wf_journal.specs.Fields.{◌>>=◌, word_at, ended}
use Rattle.wf_journal.specs.Events.{entry_of}

-- a journal, without where it lies in memory: the sizes of the run, the names of its patches by
-- their numbers, its entries, and its final lines
pub record JournalValue : Type 0 where
  pub harts : ℕ
  pub frames : ℕ
  pub patches : List (List ℕ)
  pub entries : List Entry
  pub end : List (List ℕ)

-- what some lines gave, and whether an entry, a listing or a final line was among them
pub record SoFar : Type 0 where
  pub journal : JournalValue
  pub body : Bool

-- a journal as far as it was read, and whether its first lines are behind
abbrev pub so_far : JournalValue → Bool → SoFar
so_far journal body = record { journal = journal; body = body }

-- a number from the least on
abbrev pub at_least : ℕ → Option ℕ → Option ℕ
at_least least None = None
at_least least (Some n) = if nat_lt n least then None else Some n

-- the number behind a name, from the least to the most
unfoldable pub size_of : List ℕ → ℕ → ℕ → List ℕ → Option ℕ
size_of name least most line =
    if starts_with nat_eq line name
    then at_least least (number_of 10 most (drop (length name) line))
    else None

-- the name of the patch of this number: `patch`, the number, and the name
unfoldable pub patch_named : ℕ → List ℕ → Option (List ℕ)
patch_named number line =
    if starts_with nat_eq line (codes "patch") then (do
      told ← word_at (drop 5 line)
      n ← number_of 10 63 told.0
      name ← word_at told.1
      file ← name_of name.0
      if n == number then ended name.1 file else None)
    else None

-- with one more entry
abbrev pub with_entry : JournalValue → Option Entry → Option SoFar
with_entry journal None = None
with_entry journal (Some entry) =
    Some (so_far (record journal { entries = journal.entries ++ entry ∷ [] }) true)

-- with one more patch, or else with one more entry
abbrev pub with_patch : JournalValue → Option (List ℕ) → Option SoFar → Option SoFar
with_patch journal None other = other
with_patch journal (Some name) other =
    Some (so_far (record journal { patches = journal.patches ++ name ∷ [] }) false)

-- With one more line, where it may stand there: behind a final line only final lines, and behind an
-- entry or a listing no patch.
unfoldable pub with_line : SoFar → List ℕ → Option SoFar
with_line so line =
    if starts_with nat_eq line (codes "= ")
    then Some (so_far (record so.journal { end = so.journal.end ++ line ∷ [] }) true)
    else (if nat_lt 0 (length so.journal.end) then None
    else (if starts_with nat_eq line (codes "| ")
    then Some (so_far so.journal true)
    else (if so.body then with_entry so.journal (entry_of so.journal.harts line)
    else with_patch so.journal (patch_named (length so.journal.patches) line)
    (with_entry so.journal (entry_of so.journal.harts line)))))

-- what the lines behind a line give, or the fault of that line
abbrev pub next_line : {A : Type 0} → ℕ → Option A → (A → Result JournalValue ℕ)
    → Result JournalValue ℕ
next_line number None rest = Err number
next_line number (Some x) rest = rest x

-- lines from this number on, behind those before them; the fault is the first that may not stand
-- there
unfoldable pub with_lines : SoFar → ℕ → List (List ℕ) → Result JournalValue ℕ
with_lines so number [] = Ok so.journal
with_lines so number (line ∷ lines) =
    next_line number (with_line so line) (λ more. with_lines more (suc number) lines)

-- a journal of these sizes, without any line
abbrev pub started : ℕ → ℕ → SoFar
started harts frames =
    so_far (record { harts = harts; frames = frames; patches = []; entries = []; end = [] }) false

-- the version that a line names, where it is the one that there is
abbrev pub version_of : List ℕ → Option ℕ
version_of line = if bytes_eq line version_text then Some 1 else None

-- the line of this number at the front, as a value, with the lines behind it; the fault is its
-- number
abbrev pub as_line : {A : Type 0} → ℕ → List (List ℕ) → Option A → Result (A × List (List ℕ)) ℕ
as_line number lines None = Err number
as_line number lines (Some x) = Ok (x, lines)

-- the first of these lines, which has this number, as a value, with the lines behind it
unfoldable pub line_at : {A : Type 0} → ℕ → (List ℕ → Option A) → List (List ℕ)
    → Result (A × List (List ℕ)) ℕ
line_at number value_of [] = Err number
line_at number value_of (line ∷ lines) = as_line number lines (value_of line)

-- what comes of what was read, where no line is at fault
abbrev pub and_then : {A B : Type 0} → Result A ℕ → (A → Result B ℕ) → Result B ℕ
and_then (Ok x) f = f x
and_then (Err n) f = Err n

-- a run may have so many harts and frames
abbrev pub IsSized : ℕ → ℕ → Type 0
IsSized harts frames = (1 ≤ harts) × (harts ≤ 64) × (64 ≤ frames) × (frames ≤ 65536)

-- The first three lines: how many harts and how many frames.
unfoldable pub sizes_of : List (List ℕ) → Result (ℕ × ℕ × List (List ℕ)) ℕ
sizes_of lines =
    and_then (line_at 1 version_of lines) (λ version.
    and_then (line_at 2 (size_of (codes "harts ") 1 64) version.1) (λ harts.
    and_then (line_at 3 (size_of (codes "frames ") 64 65536) harts.1)
    (λ frames. Ok (harts.0, frames.0, frames.1))))

-- The journal of a text, or its fault: the number of the first line that may not stand where it
-- does, or one past the last line where one of the first three is missing.
unfoldable pub journal_of : List ℕ → Result JournalValue ℕ
journal_of bytes =
    and_then (sizes_of (lines_of bytes)) (λ sizes. with_lines (started sizes.0 sizes.1) 4 sizes.2)

-- a result is that of reading, unless memory ran out
abbrev pub GivesJournal : Result JournalValue JournalFault → Result JournalValue ℕ → Type 0
GivesJournal (Ok journal) read = read ≡ Ok journal
GivesJournal (Err Memory) read = Unit {0}
GivesJournal (Err (Line line)) read = read ≡ Err line

-- a reader of the first lines gives what reading gives
abbrev pub Found : {X Y : Type 0} → (X → Y) → Result X ℕ → Result Y ℕ → Type 0
Found view (Ok x) read = read ≡ Ok (view x)
Found view (Err line) read = read ≡ Err line
