-- The jump that a patch puts over the first eight bytes of a function: auipc of x6, and jalr
-- through it. RISC-V unprivileged ISA, "Integer Register-Immediate Instructions" and "Unconditional
-- Jumps".
use Rattle.std.specs.Prelude.{◌≡◌, ◌≤ℤ◌, ◌+ℤ◌, ◌-ℤ◌, ◌*ℤ◌, ◌+◌, ◌-◌, ◌%◌, ◌^◌, ℕ, ℤ, pos, negsuc, List, ◌++◌, take, drop, Some, slice_set}
use Rattle.std.specs.Int.{from_le_bytes, to_le_bytes, w32}
use Rattle.rv_alu.specs.Arithmetic.{shifted_right}
use Rattle.rv_inst.specs.declared.inst.Inst.{Inst}
use Rattle.rv_inst.specs.declared.inst.Inst.TheVariants.{Auipc, Jalr}
use Rattle.rv_inst.specs.declared.want.Want.{Want}
use Rattle.rv_inst.specs.declared.want.Want.TheVariants.{Nothing}
use Rattle.rv_inst.specs.Arch.{ArchState}
use Rattle.rv_inst.specs.Decoding.{inst_of}
use Rattle.rv_inst.specs.Meanings.{want_of, meaning_of, to_jump, next_pc}
use Rattle.rv_inst.specs.Spelling.{word_of}

-- how far it is from one address to another, as a whole number
abbrev pub distance : ℕ → ℕ → ℤ
distance from to = pos to -ℤ pos from

-- the two instructions reach so far: from -2 ^ 31 - 2 ^ 11 to 2 ^ 31 - 2 ^ 11 - 1
abbrev pub IsInReach : ℤ → Type 0
IsInReach v = (negsuc (2 ^ 31 + 2 ^ 11 - 1) ≤ℤ v) × (v ≤ℤ pos (2 ^ 31 - 2 ^ 11 - 1))

-- the jump can lead from one address to the other: the target is even and in reach
abbrev pub CanJump : ℕ → ℕ → Type 0
CanJump from to = (to % 2 ≡ 0) × IsInReach (distance from to)

-- what auipc adds to its address: the nearest multiple of 2 ^ 12, which leaves -2 ^ 11 to 2 ^ 11 -
-- 1
abbrev pub high_part : ℤ → ℤ
high_part v = shifted_right (v +ℤ pos 0x800) 12 *ℤ pos (2 ^ 12)

-- what jalr adds: the rest
abbrev pub low_part : ℤ → ℤ
low_part v = v -ℤ high_part v

-- auipc of x6, of a jump so far
abbrev pub first_inst : ℤ → Inst
first_inst v = Auipc 6 (high_part v)

-- jalr through x6, of a jump so far
abbrev pub second_inst : ℤ → Inst
second_inst v = Jalr 0 6 (low_part v)

-- the two words of a jump so far
abbrev pub jump_words : ℤ → ℕ × ℕ
jump_words v = (word_of (first_inst v), word_of (second_inst v))

-- the eight bytes of the jump, the lowest of each word first
abbrev pub jump_bytes : ℕ → ℕ → List ℕ
jump_bytes from to =
    let words = jump_words (distance from to) in
    to_le_bytes w32 words.0 ++ to_le_bytes w32 words.1

-- The four bytes are an instruction that wants this of its hart and takes it from one state to
-- another.
pub record Runs (bytes : List ℕ) (before : ArchState) (want : Want) (after : ArchState)
    : Type 0 where
  pub inst : Inst
  pub decodes : inst_of (from_le_bytes w32 bytes) ≡ Some inst
  pub wants : want_of inst before ≡ want
  pub leaves : (got : ℕ) → meaning_of inst before got ≡ after

-- a hart with this pc and these registers
abbrev pub state_at : ℕ → List ℕ → ArchState
state_at pc x = record { pc = pc; x = x }

-- The eight bytes take a hart with these registers from one address to the other, and change x6
-- alone. The first instruction wants nothing, the second what a jump to that address wants.
pub record LeadsTo (bytes : List ℕ) (from to : ℕ) (x : List ℕ) : Type 0 where
  pub between : ℕ
  pub first : Runs (take 4 bytes) (state_at from x) Nothing
      (state_at (next_pc from) (slice_set x 6 between))
  pub second : Runs (drop 4 bytes) (state_at (next_pc from) (slice_set x 6 between)) (to_jump to)
      (state_at to (slice_set x 6 between))
