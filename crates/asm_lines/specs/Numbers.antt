-- Numbers: decimal digits without a leading zero, or 0x and hexadecimal digits of either case,
-- behind a - if below 0.
use Rattle.std.specs.Prelude.{ℕ, ℤ, pos, ◌+◌, ◌-◌, ◌*◌, ◌^◌, ◌-ℤ◌, ◌==◌, ◌&&◌, ◌||◌, not, Bool, List, length, drop, min, fold, nat_le, nat_lt, nat_eq, codes, slice_index, Option, if◌then◌else◌}
use Rattle.std.specs.List.{list_all, starts_with}
use Rattle.std.specs.Option.{option_map}
use Rattle.asm_lines.specs.Bytes.{is_digit}
use Rattle.asm_lines.specs.Choice.{when}

-- a hexadecimal digit of either case
abbrev pub is_hex_digit : ℕ → Bool
is_hex_digit b = is_digit b || (nat_le 65 b && nat_le b 70) || (nat_le 97 b && nat_le b 102)

-- the value of a digit
abbrev pub digit_value : ℕ → ℕ
digit_value b = if nat_le 97 b then b - 87 else if nat_le 65 b then b - 55 else b - 48

-- the number of digits in a base; one above 2 ^ 66 counts as 2 ^ 66, and no field has room for
-- either
abbrev pub value_of : ℕ → List ℕ → ℕ
value_of base digits = fold (λ n b. min (n * base + digit_value b) (2 ^ 66)) 0 digits

-- decimal digits, the first no 0 but where it is the only one
abbrev pub is_decimal : List ℕ → Bool
is_decimal text =
    nat_lt 0 (length text) && list_all is_digit text
    && (length text == 1 || not (slice_index text 0 == 48))

-- the number that decimal digits write
abbrev pub decimal_of : List ℕ → Option ℕ
decimal_of text = when (is_decimal text) (value_of 10 text)

-- the number that hexadecimal digits write, where there is one at least
abbrev pub hexadecimal_of : List ℕ → Option ℕ
hexadecimal_of digits =
    when (nat_lt 0 (length digits) && list_all is_hex_digit digits) (value_of 16 digits)

-- the number that a text without a sign writes: hexadecimal behind `0x`, else decimal
abbrev pub natural_of : List ℕ → Option ℕ
natural_of text =
    if starts_with nat_eq text (codes "0x") then hexadecimal_of (drop 2 text) else decimal_of text

-- the number that a text writes, which may begin with a minus
abbrev pub number_of : List ℕ → Option ℤ
number_of text =
    if starts_with nat_eq text (codes "-")
    then option_map (λ n. pos 0 -ℤ pos n) (natural_of (drop 1 text))
    else option_map pos (natural_of text)
