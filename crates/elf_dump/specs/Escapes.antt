-- Names as they are printed.
use Rattle.std.specs.Prelude.{ℕ, List, [], ◌∷◌, Bool, false, not, ◌&&◌, ◌/◌, ◌%◌, ◌==◌, nat_le, if◌then◌else◌}
use Rattle.std.specs.Fmt.{digit_glyph}

-- the byte is printed as it is: from the space to the tilde, but for the backslash
abbrev pub is_shown : ℕ → Bool
is_shown b = nat_le 0x20 b && nat_le b 0x7E && not (b == 0x5C)

-- a byte as it is printed: itself, or a backslash, an x and two hexadecimal digits
abbrev pub escaped_byte : ℕ → List ℕ
escaped_byte b =
    if is_shown b
    then b ∷ []
    else 0x5C ∷ 0x78 ∷ digit_glyph false (b / 16) ∷ digit_glyph false (b % 16) ∷ []
