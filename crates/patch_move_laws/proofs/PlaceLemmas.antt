-- Where a hart's instruction leaves its pc.
use Rattle.std.proofs.Common.{◌≡◌, ◌≢◌, ◌<◌, ◌%◌, ◌^◌, ◌==◌, ℕ, Option, Some, None, Bool, true, false, if◌then◌else◌, refl, ap, ◌∙◌, arith}
use Rattle.std.specs.Prelude.{option_and_then, slice_index}
use Rattle.std.specs.Option.{option_map}
use Rattle.std.proofs.lemmas.Bool.Decides.{nat_tests}
use Rattle.rv_alu.specs.Arithmetic.{taken_of}
use Rattle.rv_inst.specs.declared.inst.Inst.{Inst}
use Rattle.rv_inst.specs.declared.inst.Inst.TheVariants.{Jal, Jalr, Branch, Load, Store, Amo, Lr, Sc, Ecall, Ebreak}
use Rattle.rv_inst.specs.declared.want.Want.{Want}
use Rattle.rv_inst.specs.declared.want.Want.TheVariants.{Nothing, Call, Trap}
use Rattle.rv_inst.specs.Arch.{ArchState}
use Rattle.rv_inst.specs.Decoding.{inst_of}
use Rattle.rv_inst.specs.Meanings.{at_offset, atomic_width, jalr_target, next_pc, to_jump, want_of}
use Rattle.wf_flat.specs.State.{HartState}
use Rattle.wf_flat.specs.Steps.{arch_after, arch_by, inst_in, want_in}

-- an address of an instruction
abbrev pub IsPlaced : ℕ → Type 0
IsPlaced pc = (pc % 4 ≡ 0) × (pc < 2 ^ 64)

next_placed : (pc : ℕ) → IsPlaced pc → IsPlaced (next_pc pc)
next_placed pc p = let even = p.0 in (omega arith, omega arith)

-- a jump that does not trap leads to such an address
abbrev TrapsNot : Want → Type 0
TrapsNot want = (cause value : ℕ) → want ≢ Trap cause value

jump_placed : (target : ℕ) → target < 2 ^ 64 → TrapsNot (to_jump target) → IsPlaced target
jump_placed target low never = by_test (target % 4 == 0) refl never
  where
    by_test : (b : Bool) → (target % 4 == 0) ≡ b → TrapsNot (if b then Nothing else Trap 0 target) → IsPlaced target
    by_test true e never = (grind (arith, nat_tests), low)
    by_test false e never = absurd (never 0 target refl)

branch_placed : (b : Bool) (target pc : ℕ) → target < 2 ^ 64 → IsPlaced pc → TrapsNot (if b then to_jump target else Nothing) → IsPlaced (if b then target else next_pc pc)
branch_placed true target pc low p never = jump_placed target low never
branch_placed false target pc low p never = next_placed pc p

inst_placed : (inst : Inst) (hart : HartState) → IsPlaced hart.arch.pc → TrapsNot (want_of inst hart.arch) → IsPlaced (arch_by (Some inst) hart).pc
inst_placed (Jal rd off) hart p never = jump_placed (at_offset hart.arch.pc off) (omega arith) never
inst_placed (Jalr rd rs1 off) hart p never = jump_placed (jalr_target (slice_index hart.arch.x rs1) off) (omega arith) never
inst_placed (Branch cond rs1 rs2 off) hart p never = branch_placed (taken_of cond (slice_index hart.arch.x rs1) (slice_index hart.arch.x rs2)) (at_offset hart.arch.pc off) hart.arch.pc (omega arith) p never
inst_placed Ebreak hart p never = p
inst_placed inst hart p never = next_placed hart.arch.pc p

by_inst : (o : Option Inst) (hart : HartState) → IsPlaced hart.arch.pc → ((cause value : ℕ) → option_map (λ (inst : Inst). want_of inst hart.arch) o ≢ Some (Trap cause value)) → IsPlaced (arch_by o hart).pc
by_inst None hart p never = p
by_inst (Some inst) hart p never = inst_placed inst hart p (λ cause value e. never cause value (ap Some e))

pub ends_placed : (hart : HartState) → IsPlaced hart.arch.pc → ((cause value : ℕ) → want_in hart ≢ Some (Trap cause value)) → IsPlaced (arch_after hart).pc
ends_placed hart p never = by_inst (inst_in hart) hart p never

-- an instruction that wants a call is an ecall
jump_calls : (target : ℕ) → to_jump target ≢ Call
jump_calls target = by_test (target % 4 == 0)
  where
    by_test : (b : Bool) → (if b then Nothing else Trap 0 target) ≢ Call
    by_test true = λ e. cc
    by_test false = λ e. cc

choice_calls : (b : Bool) (one other : Want) → one ≢ Call → other ≢ Call → (if b then one else other) ≢ Call
choice_calls true one other p q = p
choice_calls false one other p q = q

call_is : (inst : Inst) (arch : ArchState) → want_of inst arch ≡ Call → inst ≡ Ecall
call_is Ecall arch e = refl
call_is (Jal rd off) arch e = absurd (jump_calls (at_offset arch.pc off) e)
call_is (Jalr rd rs1 off) arch e = absurd (jump_calls (jalr_target (slice_index arch.x rs1) off) e)
call_is (Branch cond rs1 rs2 off) arch e = absurd (choice_calls (taken_of cond (slice_index arch.x rs1) (slice_index arch.x rs2)) (to_jump (at_offset arch.pc off)) Nothing (jump_calls (at_offset arch.pc off)) (λ e. cc) e)
call_is (Load width sign rd rs1 off) arch e = absurd (choice_calls (at_offset (slice_index arch.x rs1) off % width == 0) _ _ (λ e. cc) (λ e. cc) e)
call_is (Store width rs1 rs2 off) arch e = absurd (choice_calls (at_offset (slice_index arch.x rs1) off % width == 0) _ _ (λ e. cc) (λ e. cc) e)
call_is (Amo op wide aq rl rd rs1 rs2) arch e = absurd (choice_calls (slice_index arch.x rs1 % atomic_width wide == 0) _ _ (λ e. cc) (λ e. cc) e)
call_is (Lr wide aq rl rd rs1) arch e = absurd (choice_calls (slice_index arch.x rs1 % atomic_width wide == 0) _ _ (λ e. cc) (λ e. cc) e)
call_is (Sc wide aq rl rd rs1 rs2) arch e = absurd (choice_calls (slice_index arch.x rs1 % atomic_width wide == 0) _ _ (λ e. cc) (λ e. cc) e)
call_is inst arch e = absurd (cc)

-- the word of a hart that calls
pub record HasCalled (hart : HartState) : Type 0 where
  pub word : ℕ
  pub is : hart.fetched ≡ Some word
  pub call : inst_of word ≡ Some Ecall

by_word : (word : ℕ) (o : Option Inst) (arch : ArchState) → inst_of word ≡ o → option_map (λ (inst : Inst). want_of inst arch) o ≡ Some Call → inst_of word ≡ Some Ecall
by_word word None arch is e = absurd (cc)
by_word word (Some inst) arch is e = let same : want_of inst arch ≡ Call = cc in is ∙ ap Some (call_is inst arch same)

by_fetched : (hart : HartState) (o : Option ℕ) → hart.fetched ≡ o → option_map (λ (inst : Inst). want_of inst hart.arch) (option_and_then inst_of o) ≡ Some Call → HasCalled hart
by_fetched hart None is e = absurd (cc)
by_fetched hart (Some word) is e = record { word = word; is = is; call = by_word word (inst_of word) hart.arch refl e }

pub has_called : (hart : HartState) → want_in hart ≡ Some Call → HasCalled hart
has_called hart e = by_fetched hart hart.fetched refl e
