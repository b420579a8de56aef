-- The names of registers: x0 to x31, and those of the calling convention (RISC-V ELF psABI,
-- "Integer Register Convention").
use Rattle.std.specs.Prelude.{ℕ, ◌+◌, ◌==◌, ◌&&◌, List, drop, codes, nat_lt, slice_index, Option, Some, None, if◌then◌else◌}
use Rattle.std.specs.Str.{bytes_eq}
use Rattle.asm_lines.specs.Choice.{◌>>=◌}
use Rattle.asm_lines.specs.Numbers.{decimal_of}

-- the register of a letter and a number: x0 to x31, a0 to a7, s0 to s11, t0 to t6
abbrev pub numbered : ℕ → ℕ → Option ℕ
numbered letter n =
    if letter == 120 && nat_lt n 32 then Some n
    else if letter == 97 && nat_lt n 8 then Some (10 + n)
    else if letter == 115 && nat_lt n 2 then Some (8 + n)
    else if letter == 115 && nat_lt n 12 then Some (16 + n)
    else if letter == 116 && nat_lt n 3 then Some (5 + n)
    else if letter == 116 && nat_lt n 7 then Some (25 + n)
    else None

-- the register of a name
unfoldable pub register_of : List ℕ → Option ℕ
register_of name =
    if bytes_eq name (codes "zero") then Some 0
    else if bytes_eq name (codes "ra") then Some 1
    else if bytes_eq name (codes "sp") then Some 2
    else if bytes_eq name (codes "gp") then Some 3
    else if bytes_eq name (codes "tp") then Some 4
    else if bytes_eq name (codes "fp") then Some 8
    else (do
      n ← decimal_of (drop 1 name)
      numbered (slice_index name 0) n)
