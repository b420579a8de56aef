-- The values that relocations take (RISC-V ELF psABI, "Relocations").
use Rattle.std.specs.Prelude.{◌+◌, ◌-◌, ◌%◌, ◌^◌, ◌==◌, ℤ, pos, neg_ℤ, Bool, true, false, ◌&&◌, Option, Some, None, if◌then◌else◌, int_le, unsigned_abs}
use Rattle.elf_fields.specs.declared.bounds.Bounds.{Bounds}
use Rattle.elf_fields.specs.declared.bounds.Bounds.TheVariants.{Any, Word, SignedWord, Branch, Jump, Pair, EvenPair}
use Rattle.patch_rules.specs.declared.links.LinkRule.{LinkRule}
use Rattle.patch_rules.specs.declared.links.LinkRule.TheVariants.{Odd, Reach}

-- a number from one to another, both included
abbrev pub is_between : ℤ → ℤ → ℤ → Bool
is_between low high v = int_le low v && int_le v high

-- the value is neither too low nor too high
abbrev pub reaches : Bounds → ℤ → Bool
reaches Any v = true
reaches Word v = is_between (neg_ℤ (pos (2 ^ 31))) (pos (2 ^ 32 - 1)) v
reaches SignedWord v = is_between (neg_ℤ (pos (2 ^ 31))) (pos (2 ^ 31 - 1)) v
reaches Branch v = is_between (neg_ℤ (pos 4096)) (pos 4094) v
reaches Jump v = is_between (neg_ℤ (pos (2 ^ 20))) (pos (2 ^ 20 - 2)) v
reaches Pair v = is_between (neg_ℤ (pos (2 ^ 31 + 2 ^ 11))) (pos (2 ^ 31 - 2 ^ 11 - 1)) v
reaches EvenPair v = is_between (neg_ℤ (pos (2 ^ 31 + 2 ^ 11))) (pos (2 ^ 31 - 2 ^ 11 - 1)) v

-- the value is the distance of a jump or a branch, which lead to even addresses
abbrev pub is_even_only : Bounds → Bool
is_even_only Any = false
is_even_only Word = false
is_even_only SignedWord = false
is_even_only Branch = true
is_even_only Jump = true
is_even_only Pair = false
is_even_only EvenPair = true

-- the number is odd
abbrev pub is_odd : ℤ → Bool
is_odd v = unsigned_abs v % 2 == 1

-- why a value is refused: it is odd where it must not be, or out of reach
abbrev pub refusal_of : Bounds → ℤ → Option LinkRule
refusal_of bounds v =
    if is_even_only bounds && is_odd v then Some Odd
    else if reaches bounds v then None
    else Some (Reach v)
