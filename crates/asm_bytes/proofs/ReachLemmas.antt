-- Labels that are too far away.
use Rattle.std.proofs.Common.{◌≡◌, ◌-◌, ◌≤ℤ◌, ◌+ℤ◌, ◌*ℤ◌, ◌^◌, ℕ, ℤ, pos, negsuc, List, [], ◌∷◌, Result, Ok, Err, Option, None, refl, arith}
use Rattle.std.proofs.lemmas.Int.{ints}
use Rattle.std.specs.Prelude.{⊤}
use Rattle.rv_alu.specs.Arithmetic.{shifted_right}
use Rattle.rv_alu.specs.declared.op.Cond.{Cond}
use Rattle.rv_encode.specs.Jumps.{distance, high_part}
use Rattle.rv_inst.specs.declared.inst.Inst.{Inst}
use Rattle.rv_inst.specs.declared.inst.Inst.TheVariants.{Auipc, Branch, Jal}
use Rattle.rv_inst.specs.Spelling.{IsSpelled, IsNumber}
use Rattle.asm_lines.specs.declared.statement.Use.TheVariants as use_
use Rattle.asm_bytes.specs.Bytes.{IsFar, IsPut, use_bytes}
use Rattle.asm_bytes.specs.Shorts.{call_code, la_code}
use Rattle.asm_bytes.specs.Words.{code_bytes, has_word}
use Rattle.asm_bytes.specs.declared.fault.PutFault.{PutFault}
use Rattle.asm_bytes.specs.declared.fault.PutFault.TheVariants.{Range}
use Rattle.asm_bytes.proofs.NumberLemmas.{refuted}
use Rattle.asm_bytes.proofs.WordLemmas.{decided}

-- what answers Range puts nothing
pub is_refused : (answer : Result ⊤ PutFault) (old : List ℕ) (bytes : Option (List ℕ)) → answer ≡ Err Range → bytes ≡ None → IsPut answer old old bytes
is_refused (Ok done) old bytes e none = cc e
is_refused (Err fault) old bytes e none = record { added = tt; refused = λ _. none; same = λ _. refl }

-- without a word there are no bytes
no_code : (inst : Inst) (rest : List Inst) → (IsSpelled inst → ⊥) → code_bytes (inst ∷ rest) ≡ None
unfolding code_bytes
no_code inst rest h = rw (refuted (has_word inst) (IsSpelled inst) (decided inst) h) refl

-- a number rounded down to a multiple of 2 ^ 12
pub below : (z : ℤ) → (shifted_right z 12 *ℤ pos (2 ^ 12)) ≤ℤ z
below (pos n) = omega (arith, ints)
below (negsuc n) = omega (arith, ints)

pub near : (z : ℤ) → z ≤ℤ ((shifted_right z 12 *ℤ pos (2 ^ 12)) +ℤ pos (2 ^ 12 - 1))
near (pos n) = omega (arith, ints)
near (negsuc n) = omega (arith, ints)

-- auipc can't add so much
far_part : (v : ℤ) → IsFar v → IsNumber 32 (high_part v) → ⊥
far_part v far h = omega (arith, ints, far, h.0, h.1, below (v +ℤ pos 0x800), near (v +ℤ pos 0x800))

pub far_branch : (cond : Cond) (address target rs1 rs2 : ℕ) → IsFar (distance address target) → use_bytes address target (use_.Branch cond rs1 rs2) ≡ None
unfolding use_bytes
far_branch cond address target rs1 rs2 far = no_code (Branch cond rs1 rs2 (distance address target)) [] (λ h. omega (arith, ints, far, h.2))

pub far_jal : (address target rd : ℕ) → IsFar (distance address target) → use_bytes address target (use_.Jal rd) ≡ None
unfolding use_bytes
far_jal address target rd far = no_code (Jal rd (distance address target)) [] (λ h. omega (arith, ints, far, h.1))

pub far_call : (address target : ℕ) → IsFar (distance address target) → use_bytes address target use_.Call ≡ None
unfolding use_bytes call_code
far_call address target far = no_code (Auipc 1 (high_part (distance address target))) _ (λ h. far_part (distance address target) far h.1)

pub far_la : (address target rd : ℕ) → IsFar (distance address target) → use_bytes address target (use_.La rd) ≡ None
unfolding use_bytes la_code
far_la address target rd far = no_code (Auipc rd (high_part (distance address target))) _ (λ h. far_part (distance address target) far h.1)
