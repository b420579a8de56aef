-- Numbers as text, both ways.
use Rattle.std.specs.Prelude.{ℕ, zero, suc, List, [], ◌∷◌, ◌++◌, ◌+◌, ◌*◌, ◌-◌, ◌/◌, ◌%◌, ◌==◌, ◌&&◌, false, nat_lt, nat_le, Option, Some, None, length, if◌then◌else◌}
use Rattle.std.specs.Fmt.{digits, digit_glyph}
use Rattle.std.specs.Char.{to_ascii_lowercase}

-- lower-case hexadecimal, without leading zeros
abbrev pub hex : ℕ → List ℕ
hex n = digits 16 false n

-- the last so many hexadecimal digits of a number
unfoldable pub last_hex : ℕ → ℕ → List ℕ
last_hex zero n = []
last_hex (suc width) n = last_hex width (n / 16) ++ digit_glyph false (n % 16) ∷ []

-- the value of a digit, in lower case; 16 for any other byte
abbrev pub glyph_value : ℕ → ℕ
glyph_value c =
    if nat_le 48 c && nat_le c 57 then c - 48
    else (if nat_le 97 c && nat_le c 102 then c - 87 else 16)

-- the value of a hexadecimal digit of either case; 16 for any other byte
abbrev pub digit_of : ℕ → ℕ
digit_of c = glyph_value (to_ascii_lowercase c)

-- the number that digits of these values write behind those of a number, where it is at most the
-- most
unfoldable pub number_from : (ℕ → ℕ) → ℕ → ℕ → ℕ → List ℕ → Option ℕ
number_from value base most n [] = Some n
number_from value base most n (c ∷ cs) =
    if nat_lt (value c) base && nat_le (n * base + value c) most
    then number_from value base most (n * base + value c) cs
    else None

-- the number whose digits these are, without leading zeros, where it is at most the most
unfoldable pub number_of : ℕ → ℕ → List ℕ → Option ℕ
number_of base most [] = None
number_of base most (c ∷ []) = number_from glyph_value base most 0 (c ∷ [])
number_of base most (c ∷ d ∷ cs) =
    if c == 48 then None else number_from glyph_value base most 0 (c ∷ d ∷ cs)

-- the number whose hexadecimal digits of either case these are, leading zeros among them; none
-- where there is no digit
abbrev pub any_hex : ℕ → List ℕ → Option ℕ
any_hex most bytes = if length bytes == 0 then None else number_from digit_of 16 most 0 bytes
