-- Bytes of a line: blanks, names, and what is left without a comment.
use Rattle.std.specs.Prelude.{ℕ, ◌-◌, ◌==◌, ◌&&◌, ◌||◌, not, Bool, false, List, [], ◌∷◌, length, take, drop, nat_le, nat_lt, position, slice_index, unwrap_or, Option, if◌then◌else◌}
use Rattle.std.specs.List.{suffix_len, list_all}

-- a space or a tab
abbrev pub is_blank : ℕ → Bool
is_blank b = b == 32 || b == 9

-- a decimal digit
abbrev pub is_digit : ℕ → Bool
is_digit b = nat_le 48 b && nat_le b 57

-- a letter, _, . or $
abbrev pub is_name_start : ℕ → Bool
is_name_start b =
    (nat_le 65 b && nat_le b 90) || (nat_le 97 b && nat_le b 122) || b == 95 || b == 46 || b == 36

-- a byte that may stand in a name behind its first
abbrev pub is_name_byte : ℕ → Bool
is_name_byte b = is_name_start b || is_digit b

-- the place of the first byte that passes, or the end
abbrev pub place_or_end : (ℕ → Bool) → List ℕ → ℕ
place_or_end passes text = unwrap_or (position passes text) (length text)

-- the place of a byte
abbrev pub place_of : ℕ → List ℕ → Option ℕ
place_of byte text = position (λ b. b == byte) text

-- how many bytes of a name stand at the front
abbrev pub name_len : List ℕ → ℕ
name_len text = place_or_end (λ b. not (is_name_byte b)) text

-- a name: bytes of names, the first no digit
abbrev pub is_name : List ℕ → Bool
is_name text =
    nat_lt 0 (length text) && is_name_start (slice_index text 0) && list_all is_name_byte text

-- without the blanks at the front
abbrev pub trimmed_start : List ℕ → List ℕ
trimmed_start text = drop (place_or_end (λ b. not (is_blank b)) text) text

-- without the blanks at the end
abbrev pub trimmed_end : List ℕ → List ℕ
trimmed_end text = take (length text - suffix_len is_blank text) text

-- a text without spaces and tabs at its start and end
abbrev pub trimmed : List ℕ → List ℕ
trimmed text = trimmed_end (trimmed_start text)

-- up to the first # that stands outside quotes, which begins a comment; inside or outside of quotes
abbrev pub code_from : Bool → List ℕ → List ℕ
code_from quoted [] = []
code_from quoted (b ∷ bs) =
    if b == 35 && not quoted then []
    else b ∷ code_from (if b == 34 then not quoted else quoted) bs

-- a line without its comment and the blanks at its ends
abbrev pub code_of : List ℕ → List ℕ
code_of line = trimmed (code_from false line)
