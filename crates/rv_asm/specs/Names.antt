-- Names, and how they are found.
use denote.Ref.{Bor}
use Rattle.std.specs.Prelude.{◌≡◌, ◌&&◌, ℕ, ◌+◌, Bool, false, true, List, [], ◌∷◌, ◌++◌, codes, is_some, length, map, nat_lt, not, slice_get, take, Option, Some, None, if◌then◌else◌}
use Rattle.std.specs.BTreeMap.{BTreeMap, get_by}
use Rattle.std.specs.Cmp.Lexicographic.{slice_cmp}
use Rattle.std.specs.Fmt.{decimal}
use Rattle.std.specs.List.{filter, flat_map, position, range_with_len}
use Rattle.std.specs.Option.{option_map_or}
use Rattle.std.specs.Ordering.{nat_cmp}
use Rattle.std.specs.Str.{bytes_eq}
use Rattle.asm_lines.specs.declared.statement.Use.{Use}
use Rattle.asm_lines.specs.declared.statement.Use.TheVariants as use_
use Rattle.asm_lines.specs.Lines.{LineValue, line_of}
use Rattle.asm_lines.specs.Statements.{Asked, Empty, Section, Align, Zero, Number, Hex, Ascii, Li, Plain, Named}
use Rattle.elf_write.specs.declared.module.Form.{Form}
use Rattle.elf_write.specs.declared.module.Form.TheVariants.{Exec, Object}

-- the place of the first of these names that is a name
abbrev pub name_place : List ℕ → List (List ℕ) → Option ℕ
name_place name names = position (λ n. bytes_eq n name) names

-- names, without where they lie in memory
abbrev pub name_values : List (Bor (List ℕ)) → List (List ℕ)
name_values names = map (λ n. n.now) names

-- the map has the place of each name
pub record IsNameIndex (places : BTreeMap (Bor (List ℕ)) ℕ) (names : List (List ℕ)) : Type 0 where
  pub find : (name : List ℕ) → get_by (λ k. slice_cmp nat_cmp name k.now) places
      ≡ name_place name names

-- the name in a statement
abbrev pub name_in : Asked → Option (List ℕ)
name_in Empty = None
name_in (Section _) = None
name_in (Align n) = None
name_in (Zero count) = None
name_in (Number width value) = None
name_in (Hex digits) = None
name_in (Ascii text) = None
name_in (Li rd value) = None
name_in (Plain inst) = None
name_in (Named what name) = Some name

-- a name, if there is one
abbrev pub if_named : Option (List ℕ) → List (List ℕ)
if_named name = option_map_or (λ n. n ∷ []) name []

-- the names in a line, if it is one: its label, and that in its statement
abbrev pub names_in : Option LineValue → List (List ℕ)
names_in None = []
names_in (Some line) = if_named line.label ++ if_named (name_in line.asked)

-- the names in lines
abbrev pub names_used : List (List ℕ) → List (List ℕ)
names_used lines = flat_map (λ text. names_in (line_of text)) lines

-- whether a name is that of la
abbrev pub is_la_use : Use → Bool
is_la_use use_.Globl = false
is_la_use use_.Size = false
is_la_use (use_.Address width addend) = false
is_la_use (use_.Branch cond rs1 rs2) = false
is_la_use (use_.Jal rd) = false
is_la_use use_.Call = false
is_la_use (use_.La rd) = true

-- whether a statement is la
abbrev pub is_la : Asked → Bool
is_la Empty = false
is_la (Section _) = false
is_la (Align n) = false
is_la (Zero count) = false
is_la (Number width value) = false
is_la (Hex digits) = false
is_la (Ascii text) = false
is_la (Li rd value) = false
is_la (Plain inst) = false
is_la (Named what name) = is_la_use what

-- whether a line is la
abbrev pub is_la_line : List ℕ → Bool
is_la_line text = option_map_or (λ line. is_la line.asked) (line_of text) false

-- how many of these lines are la
abbrev pub la_count : List (List ℕ) → ℕ
la_count lines = length (filter is_la_line lines)

-- the name of a local label at the auipc of la: .Lp and a decimal number
abbrev pub pcrel_name : ℕ → List ℕ
pcrel_name n = codes ".Lp" ++ decimal n

-- the first so many of these names, by rising numbers, that are none of those used
unfoldable pub free_names : ℕ → List (List ℕ) → List (List ℕ)
free_names count used =
    take count
    (filter (λ name. not (is_some (name_place name used)))
    (map pcrel_name (range_with_len 0 (count + length used))))

-- names with one more, if it is free and there are fewer than so many
abbrev pub with_free : ℕ → List (List ℕ) → List (List ℕ) → List ℕ → List (List ℕ)
with_free count used names name =
    if nat_lt (length names) count && not (is_some (name_place name used))
    then names ++ name ∷ []
    else names

-- the names of the local labels of an object, one for each la in its lines, which no line uses
abbrev pub pcrel_names : Form → List (List ℕ) → List (List ℕ)
pcrel_names Exec lines = []
pcrel_names Object lines = free_names (la_count lines) (names_used lines)

-- the name of the next such label, where a statement is la and so many were taken
abbrev pub own_label : List (List ℕ) → ℕ → Asked → Option (List ℕ)
own_label names taken asked = if is_la asked then slice_get names taken else None
