-- A hart's pc and registers, as clauses see them.
use Rattle.std.specs.Prelude.{◌≡◌, ℕ, List, slice_index}

-- the pc and x0 to x31
pub record ArchState : Type 0 where
  pub pc : ℕ
  pub x : List ℕ

-- x0 is 0 (RISC-V unprivileged ISA, "Programmers' Model for Base Integer ISA")
abbrev pub IsArch : List ℕ → Type 0
IsArch x = slice_index x 0 ≡ 0
