-- What the operations and the conditions give of two registers, as whole numbers below 2 ^ 64.
-- RISC-V unprivileged ISA, "RV32I Base Integer Instruction Set", "RV64I Base Integer Instruction
-- Set", "M" Extension for Integer Multiplication and Division, and "A" Extension for Atomic
-- Instructions.
use Rattle.std.specs.Prelude.{ℕ, ◌+◌, ◌-◌, ◌*◌, ◌/◌, ◌%◌, ◌^◌, ◌==◌, ℤ, pos, neg_ℤ, ◌-ℤ◌, ◌*ℤ◌, Bool, not, min, max, if◌then◌else◌, nat_lt, nat_le, int_lt, int_le, int_div, int_rem, unsigned_abs, bit_and, bit_or, bit_xor}
use Rattle.std.specs.Int.{int_div_euclid, int_rem_euclid}
use Rattle.rv_alu.specs.declared.op.AluOp.{AluOp}
use Rattle.rv_alu.specs.declared.op.AluOp.TheVariants.{Add, Sub, Sll, Slt, Sltu, Xor, Srl, Sra, Or, And, Addw, Subw, Sllw, Srlw, Sraw, Mul, Mulh, Mulhsu, Mulhu, Div, Divu, Rem, Remu, Mulw, Divw, Divuw, Remw, Remuw}
use Rattle.rv_alu.specs.declared.op.AmoOp.{AmoOp}
use Rattle.rv_alu.specs.declared.op.AmoOp.TheVariants as amo
use Rattle.rv_alu.specs.declared.op.Cond.{Cond}
use Rattle.rv_alu.specs.declared.op.Cond.TheVariants.{Equal, NotEqual, Less, GreaterOrEqual, LessUnsigned, GreaterOrEqualUnsigned}

-- a number of so many bits, read as a two's complement number
abbrev pub signed : ℕ → ℕ → ℤ
signed bits n = if nat_lt n (2 ^ (bits - 1)) then pos n else pos n -ℤ pos (2 ^ bits)

-- an integer modulo 2 ^ 64
abbrev pub wrapped : ℤ → ℕ
wrapped z = unsigned_abs (int_rem_euclid z (pos (2 ^ 64)))

-- the low 32 bits of a number
abbrev pub low_word : ℕ → ℕ
low_word n = n % 2 ^ 32

-- the low 32 bits of a number, sign-extended to 64
abbrev pub extended : ℕ → ℕ
extended n = wrapped (signed 32 (low_word n))

-- an integer divided by 2 ^ k and rounded down: a shift to the right that brings in the sign
abbrev pub shifted_right : ℤ → ℕ → ℤ
shifted_right z k = int_div_euclid z (pos (2 ^ k))

-- 1 for true and 0 for false
abbrev pub one_if : Bool → ℕ
one_if test = if test then 1 else 0

-- the low 32 bits of a number, read as a two's complement number
abbrev pub signed_word : ℕ → ℤ
signed_word n = signed 32 (low_word n)

-- Division follows "Division Operations", with its table of division by zero and overflow. Of the
-- least number and -1 the quotient is one too great, which the low bits alone make the least number
-- again, and the remainder is 0.

-- a signed quotient: rounded towards zero, and all bits set where the divisor is 0
abbrev pub signed_quotient : ℤ → ℤ → ℤ
signed_quotient a b = if unsigned_abs b == 0 then neg_ℤ (pos 1) else int_div a b

-- a signed remainder: it has the sign of the dividend, and is the dividend where the divisor is 0
abbrev pub signed_remainder : ℤ → ℤ → ℤ
signed_remainder a b = if unsigned_abs b == 0 then a else int_rem a b

-- an unsigned quotient of so many bits: rounded down, and all bits set where the divisor is 0
abbrev pub unsigned_quotient : ℕ → ℕ → ℕ → ℕ
unsigned_quotient bits a b = if b == 0 then 2 ^ bits - 1 else a / b

-- an unsigned remainder: it is the dividend where the divisor is 0
abbrev pub unsigned_remainder : ℕ → ℕ → ℕ
unsigned_remainder a b = if b == 0 then a else a % b

-- what an operation gives of two registers ("Integer Computational Instructions", "Multiplication
-- Operations", "Division Operations")
abbrev pub alu_of : AluOp → ℕ → ℕ → ℕ
alu_of Add a b = (a + b) % 2 ^ 64
alu_of Sub a b = (a + 2 ^ 64 - b) % 2 ^ 64
alu_of Sll a b = a * 2 ^ (b % 2 ^ 6) % 2 ^ 64
alu_of Slt a b = one_if (int_lt (signed 64 a) (signed 64 b))
alu_of Sltu a b = one_if (nat_lt a b)
alu_of Xor a b = bit_xor a b
alu_of Srl a b = a / 2 ^ (b % 2 ^ 6)
alu_of Sra a b = wrapped (shifted_right (signed 64 a) (b % 2 ^ 6))
alu_of Or a b = bit_or a b
alu_of And a b = bit_and a b
-- the W forms: the low 32 bits alone, and the result sign-extended
alu_of Addw a b = extended (a + b)
alu_of Subw a b = extended (a + 2 ^ 64 - b)
alu_of Sllw a b = extended (a * 2 ^ (b % 2 ^ 5))
alu_of Srlw a b = extended (low_word a / 2 ^ (b % 2 ^ 5))
alu_of Sraw a b = wrapped (shifted_right (signed_word a) (b % 2 ^ 5))
alu_of Mul a b = a * b % 2 ^ 64
alu_of Mulh a b = wrapped (shifted_right (signed 64 a *ℤ signed 64 b) 64)
alu_of Mulhsu a b = wrapped (shifted_right (signed 64 a *ℤ pos b) 64)
alu_of Mulhu a b = a * b / 2 ^ 64
alu_of Div a b = wrapped (signed_quotient (signed 64 a) (signed 64 b))
alu_of Divu a b = unsigned_quotient 64 a b
alu_of Rem a b = wrapped (signed_remainder (signed 64 a) (signed 64 b))
alu_of Remu a b = unsigned_remainder a b
alu_of Mulw a b = extended (a * b)
alu_of Divw a b = extended (wrapped (signed_quotient (signed_word a) (signed_word b)))
alu_of Divuw a b = extended (unsigned_quotient 32 (low_word a) (low_word b))
alu_of Remw a b = extended (wrapped (signed_remainder (signed_word a) (signed_word b)))
alu_of Remuw a b = extended (unsigned_remainder (low_word a) (low_word b))

-- what an atomic memory operation writes of the old number in memory and that of the register, both
-- of so many bits ("Atomic Memory Operations")
abbrev pub amo_in : AmoOp → ℕ → ℕ → ℕ → ℕ
amo_in amo.Swap bits old b = b
amo_in amo.Add bits old b = (old + b) % 2 ^ bits
amo_in amo.Xor bits old b = bit_xor old b
amo_in amo.And bits old b = bit_and old b
amo_in amo.Or bits old b = bit_or old b
amo_in amo.Min bits old b = if int_le (signed bits old) (signed bits b) then old else b
amo_in amo.Max bits old b = if int_le (signed bits old) (signed bits b) then b else old
amo_in amo.Minu bits old b = min old b
amo_in amo.Maxu bits old b = max old b

-- what it writes where it is of 64 bits, or of the low 32 bits of both
abbrev pub amo_of : AmoOp → Bool → ℕ → ℕ → ℕ
amo_of op wide old b = if wide then amo_in op 64 old b else amo_in op 32 (low_word old) (low_word b)

-- whether a branch on the condition is taken ("Conditional Branches")
abbrev pub taken_of : Cond → ℕ → ℕ → Bool
taken_of Equal a b = a == b
taken_of NotEqual a b = not (a == b)
taken_of Less a b = int_lt (signed 64 a) (signed 64 b)
taken_of GreaterOrEqual a b = int_le (signed 64 b) (signed 64 a)
taken_of LessUnsigned a b = nat_lt a b
taken_of GreaterOrEqualUnsigned a b = nat_le b a
