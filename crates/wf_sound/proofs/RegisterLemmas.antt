-- Instructions and calls keep 32 registers, the first of them 0.
use Rattle.std.proofs.Common.{◌≡◌, ◌≢◌, ◌==◌, ℕ, List, Bool, true, false, Option, Some, None, length, refl, sym, ◌∙◌, arith, length-set, if◌then◌else◌}
use Rattle.std.specs.Prelude.{slice_index, slice_set}
use Rattle.std.proofs.lemmas.List.{get_or-set_other}
use Rattle.std.proofs.lemmas.Bool.Decides.{nat_tests}
use Rattle.rv_inst.specs.declared.inst.Inst.{Inst}
use Rattle.rv_inst.specs.declared.inst.Inst.TheVariants.{Lui, Auipc, Jal, Jalr, Branch, Load, Store, AluImm, Alu, Amo, Lr, Sc, Fence, FenceI, Ecall, Ebreak}
use Rattle.rv_inst.specs.Meanings.{written}
use Rattle.wf_flat.specs.State.{HartState}
use Rattle.wf_flat.specs.Steps.{arch_after, arch_by, inst_in}

-- so many registers, and the first is 0
pub record AreRegisters (x : List ℕ) : Type 0 where
  pub count : length x ≡ 32
  pub zero_first : slice_index x 0 ≡ 0

pub set_kept : (x : List ℕ) (rd value : ℕ) → rd ≢ 0 → AreRegisters x → AreRegisters (slice_set x rd value)
set_kept x rd value apart are = record {
  count = (let k : length (slice_set x rd value) ≡ length x = rw length-set refl in k ∙ are.count);
  zero_first = get_or-set_other x rd 0 value 0 (λ e. apart (sym e)) ∙ are.zero_first;
}

written_kept : (x : List ℕ) (rd value : ℕ) → AreRegisters x → AreRegisters (written x rd value)
written_kept x rd value are = by_test (rd == 0) (λ e same. (let k : rd == 0 ≡ true = grind (arith, nat_tests) in absurd cc))
  where
    by_test : (b : Bool) → (b ≡ false → rd ≢ 0) → AreRegisters (if b then x else slice_set x rd value)
    by_test true apart = are
    by_test false apart = set_kept x rd value (apart refl) are

meaning_kept : (inst : Option Inst) (hart : HartState) → AreRegisters hart.arch.x → AreRegisters (arch_by inst hart).x
meaning_kept None hart are = are
meaning_kept (Some (Lui rd imm)) hart are = written_kept hart.arch.x rd _ are
meaning_kept (Some (Auipc rd imm)) hart are = written_kept hart.arch.x rd _ are
meaning_kept (Some (Jal rd off)) hart are = written_kept hart.arch.x rd _ are
meaning_kept (Some (Jalr rd rs1 off)) hart are = written_kept hart.arch.x rd _ are
meaning_kept (Some (Branch cond rs1 rs2 off)) hart are = are
meaning_kept (Some (Load width sign rd rs1 off)) hart are = written_kept hart.arch.x rd _ are
meaning_kept (Some (Store width rs1 rs2 off)) hart are = are
meaning_kept (Some (AluImm op rd rs1 imm)) hart are = written_kept hart.arch.x rd _ are
meaning_kept (Some (Alu op rd rs1 rs2)) hart are = written_kept hart.arch.x rd _ are
meaning_kept (Some (Amo op wide aq rl rd rs1 rs2)) hart are = written_kept hart.arch.x rd _ are
meaning_kept (Some (Lr wide aq rl rd rs1)) hart are = written_kept hart.arch.x rd _ are
meaning_kept (Some (Sc wide aq rl rd rs1 rs2)) hart are = written_kept hart.arch.x rd _ are
meaning_kept (Some (Fence raw)) hart are = are
meaning_kept (Some (FenceI raw)) hart are = are
meaning_kept (Some Ecall) hart are = set_kept hart.arch.x 10 _ (λ e. absurd (omega arith)) are
meaning_kept (Some Ebreak) hart are = are

-- the registers after an instruction
pub registers_after : (hart : HartState) → AreRegisters hart.arch.x → AreRegisters (arch_after hart).x
registers_after hart are = meaning_kept (inst_in hart) hart are
