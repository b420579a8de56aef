-- What an instruction wants, by its kind.
use Rattle.std.proofs.Common.{◌≡◌, ◌≢◌, ◌⊎◌, ℕ, Bool, true, false, Option, Some, None, inl, inr, refl, subst, ap, arith}
use Rattle.std.specs.Prelude.{if◌then◌else◌, ◌==◌, ◌%◌, slice_index}
use Rattle.std.proofs.lemmas.Bool.Decides.{nat_tests}
use Rattle.rv_alu.specs.Arithmetic.{taken_of}
use Rattle.rv_alu.specs.declared.op.AmoOp.{AmoOp}
use Rattle.rv_inst.specs.declared.inst.Inst.{Inst}
use Rattle.rv_inst.specs.declared.inst.Inst.TheVariants.{Lui, Auipc, Jal, Jalr, Branch, Load, Store, AluImm, Alu, Amo, Lr, Sc, Fence, FenceI, Ecall, Ebreak}
use Rattle.rv_inst.specs.declared.want.Want.{Want}
use Rattle.rv_inst.specs.declared.want.Want.TheVariants.{Nothing, Look, Put, Swap, Reserve, PutIf, Call, Trap}
use Rattle.rv_inst.specs.Arch.{ArchState}
use Rattle.rv_inst.specs.Meanings.{want_of, to_jump, aligned, at_offset, jalr_target, atomic_width}
use Rattle.rv_inst.specs.Rows.{load_code, store_code}
use Rattle.rv_inst.specs.Spelling.{IsSpelled}
use Rattle.wf_flat.specs.Serving.{IsPlace}
use Rattle.wf_flat.specs.Accesses.{Access, access_of}

abbrev is_call : Want → Bool
is_call Call = true
is_call want = false

by_test : (f : Want → Bool) (b : Bool) (one other : Want) (w : Bool) → f one ≡ w → f other ≡ w → f (if b then one else other) ≡ w
by_test f true one other w p q = p
by_test f false one other w p q = q

jump_calls : (target : ℕ) → is_call (to_jump target) ≡ false
jump_calls target = by_test is_call (target % 4 == 0) Nothing (Trap 0 target) false refl refl

aligned_calls : (va width cause : ℕ) (want : Want) → is_call want ≡ false → is_call (aligned va width cause want) ≡ false
aligned_calls va width cause want h = by_test is_call (va % width == 0) want (Trap cause va) false h refl

-- an ecall alone wants a call
calls : (inst : Inst) (arch : ArchState) → is_call (want_of inst arch) ≡ true → inst ≡ Ecall
calls (Lui rd imm) arch e = absurd (cc)
calls (Auipc rd imm) arch e = absurd (cc)
calls (Jal rd off) arch e = absurd (let n = jump_calls (at_offset arch.pc off) in cc)
calls (Jalr rd rs1 off) arch e = absurd (let n = jump_calls (jalr_target (slice_index arch.x rs1) off) in cc)
calls (Branch cond rs1 rs2 off) arch e = absurd (let n = by_test is_call (taken_of cond (slice_index arch.x rs1) (slice_index arch.x rs2)) (to_jump (at_offset arch.pc off)) Nothing false (jump_calls (at_offset arch.pc off)) refl in cc)
calls (Load width sign rd rs1 off) arch e = absurd (let va : ℕ = at_offset (slice_index arch.x rs1) off in let n = aligned_calls va width 4 (Look va width) refl in cc)
calls (Store width rs1 rs2 off) arch e = absurd (let va : ℕ = at_offset (slice_index arch.x rs1) off in let n = aligned_calls va width 6 (Put va width (slice_index arch.x rs2)) refl in cc)
calls (AluImm op rd rs1 imm) arch e = absurd (cc)
calls (Alu op rd rs1 rs2) arch e = absurd (cc)
calls (Amo op wide aq rl rd rs1 rs2) arch e = absurd (let n = aligned_calls (slice_index arch.x rs1) (atomic_width wide) 6 (Swap (slice_index arch.x rs1) (atomic_width wide) op (slice_index arch.x rs2)) refl in cc)
calls (Lr wide aq rl rd rs1) arch e = absurd (let n = aligned_calls (slice_index arch.x rs1) (atomic_width wide) 4 (Reserve (slice_index arch.x rs1) (atomic_width wide)) refl in cc)
calls (Sc wide aq rl rd rs1 rs2) arch e = absurd (let n = aligned_calls (slice_index arch.x rs1) (atomic_width wide) 6 (PutIf (slice_index arch.x rs1) (atomic_width wide) (slice_index arch.x rs2)) refl in cc)
calls (Fence raw) arch e = absurd (cc)
calls (FenceI raw) arch e = absurd (cc)
calls Ecall arch e = refl
calls Ebreak arch e = absurd (cc)

pub wants_call : (inst : Inst) (arch : ArchState) → want_of inst arch ≡ Call → inst ≡ Ecall
wants_call inst arch e = calls inst arch (ap is_call e)

-- an access of an instruction is at a place
abbrev HasPlace : Option Access → Type 0
HasPlace None = Unit {0}
HasPlace (Some access) = IsPlace access.va access.width

abbrev IsPlaced : Want → Type 0
IsPlaced want = HasPlace (access_of (Some want))

-- of one of two
placed_test : (b : Bool) (one other : Want) → IsPlaced one → IsPlaced other → IsPlaced (if b then one else other)
placed_test true one other p q = p
placed_test false one other p q = q

placed_jump : (target : ℕ) → IsPlaced (to_jump target)
placed_jump target = placed_test (target % 4 == 0) Nothing (Trap 0 target) tt tt

is_zero : (n : ℕ) → (n == 0) ≡ true → n ≡ 0
is_zero n e = grind (arith, nat_tests)

placed_aligned : (va width cause : ℕ) (want : Want) → (va % width ≡ 0 → IsPlaced want) → IsPlaced (aligned va width cause want)
placed_aligned va width cause want p = by_side (va % width == 0) refl
  where
    by_side : (b : Bool) → (va % width == 0) ≡ b → IsPlaced (if b then want else Trap cause va)
    by_side true t = p (is_zero (va % width) t)
    by_side false t = tt

load_width : (width : ℕ) (sign : Bool) → load_code width sign ≢ None → (width ≡ 1) ⊎ ((width ≡ 2) ⊎ ((width ≡ 4) ⊎ (width ≡ 8)))
load_width width true h = grind (arith, nat_tests)
load_width width false h = grind (arith, nat_tests)

store_width : (width : ℕ) → store_code width ≢ None → (width ≡ 1) ⊎ ((width ≡ 2) ⊎ ((width ≡ 4) ⊎ (width ≡ 8)))
store_width width h = grind (arith, nat_tests)

wide_or_not : (wide : Bool) → (atomic_width wide ≡ 1) ⊎ ((atomic_width wide ≡ 2) ⊎ ((atomic_width wide ≡ 4) ⊎ (atomic_width wide ≡ 8)))
wide_or_not true = inr (inr (inr refl))
wide_or_not false = inr (inr (inl refl))

placed : (inst : Inst) (arch : ArchState) → IsSpelled inst → IsPlaced (want_of inst arch)
placed (Load width sign rd rs1 off) arch h =
    let va : ℕ = at_offset (slice_index arch.x rs1) off in
    placed_aligned va width 4 (Look va width) (λ e. record { sized = load_width width sign h.3; even = e })
placed (Store width rs1 rs2 off) arch h =
    let va : ℕ = at_offset (slice_index arch.x rs1) off in
    placed_aligned va width 6 (Put va width (slice_index arch.x rs2)) (λ e. record { sized = store_width width h.3; even = e })
placed (Amo op wide aq rl rd rs1 rs2) arch h =
    let va : ℕ = slice_index arch.x rs1 in
    placed_aligned va (atomic_width wide) 6 (Swap va (atomic_width wide) op (slice_index arch.x rs2)) (λ e. record { sized = wide_or_not wide; even = e })
placed (Lr wide aq rl rd rs1) arch h =
    let va : ℕ = slice_index arch.x rs1 in
    placed_aligned va (atomic_width wide) 4 (Reserve va (atomic_width wide)) (λ e. record { sized = wide_or_not wide; even = e })
placed (Sc wide aq rl rd rs1 rs2) arch h =
    let va : ℕ = slice_index arch.x rs1 in
    placed_aligned va (atomic_width wide) 6 (PutIf va (atomic_width wide) (slice_index arch.x rs2)) (λ e. record { sized = wide_or_not wide; even = e })
placed (Jal rd off) arch h = placed_jump (at_offset arch.pc off)
placed (Jalr rd rs1 off) arch h = placed_jump (jalr_target (slice_index arch.x rs1) off)
placed (Branch cond rs1 rs2 off) arch h = placed_test (taken_of cond (slice_index arch.x rs1) (slice_index arch.x rs2)) (to_jump (at_offset arch.pc off)) Nothing (placed_jump (at_offset arch.pc off)) tt
placed inst arch h = tt

pub look_place : (inst : Inst) (arch : ArchState) (va width : ℕ) → IsSpelled inst → want_of inst arch ≡ Look va width → IsPlace va width
look_place inst arch va width h e = subst IsPlaced e (placed inst arch h)

pub reserve_place : (inst : Inst) (arch : ArchState) (va width : ℕ) → IsSpelled inst → want_of inst arch ≡ Reserve va width → IsPlace va width
reserve_place inst arch va width h e = subst IsPlaced e (placed inst arch h)

pub put_place : (inst : Inst) (arch : ArchState) (va width value : ℕ) → IsSpelled inst → want_of inst arch ≡ Put va width value → IsPlace va width
put_place inst arch va width value h e = subst IsPlaced e (placed inst arch h)

pub put_if_place : (inst : Inst) (arch : ArchState) (va width value : ℕ) → IsSpelled inst → want_of inst arch ≡ PutIf va width value → IsPlace va width
put_if_place inst arch va width value h e = subst IsPlaced e (placed inst arch h)

pub swap_place : (inst : Inst) (arch : ArchState) (va width value : ℕ) (op : AmoOp) → IsSpelled inst → want_of inst arch ≡ Swap va width op value → IsPlace va width
swap_place inst arch va width value op h e = subst IsPlaced e (placed inst arch h)

pub ruleset places = (look_place, reserve_place, put_place, put_if_place, swap_place)
