-- Which instructions have a word, as a test and as a fact.
use Rattle.std.proofs.Common.{◌≡◌, ◌≢◌, ◌&&◌, suc, true≢false, ◌^◌, ℕ, ℤ, Bool, true, false, Option, Some, None, refl, sym, ap, arith}
use Rattle.std.proofs.lemmas.Int.{ints}
use Rattle.std.proofs.lemmas.Bool.Decides.{Decides-and, Decides-eqb, Decides-ltb}
use Rattle.std.specs.Prelude.{is_some}
use Rattle.std.specs.Bool.{Decides}
use Rattle.std.specs.Option.{SomeIff}
use Rattle.rv_inst.specs.declared.inst.Inst.{Inst}
use Rattle.rv_inst.specs.declared.inst.Inst.TheVariants.{Lui, Auipc, Jal, Jalr, Branch, Load, Store, AluImm, Alu, Amo, Lr, Sc, Fence, FenceI, Ecall, Ebreak}
use Rattle.rv_inst.specs.Rows.{ImmCodes, Number, Shift64, Shift32, load_code, store_code, imm_codes}
use Rattle.rv_inst.specs.Spelling.{IsSpelled, IsRegister, IsNumber, IsAmount, IsImm, word_of}
use Rattle.rv_encode.specs.Words.{IsWordOf}
use Rattle.asm_lines.specs.Choice.{when}
use Rattle.asm_bytes.specs.Words.{has_word, is_amount, is_imm, is_number, is_register}

pub number_12 : (z : ℤ) → Decides (is_number 12 z) (IsNumber 12 z)
number_12 z = grind (arith, ints)

number_13 : (z : ℤ) → Decides (is_number 13 z) (IsNumber 13 z)
number_13 z = grind (arith, ints)

number_21 : (z : ℤ) → Decides (is_number 21 z) (IsNumber 21 z)
number_21 z = grind (arith, ints)

pub number_32 : (z : ℤ) → Decides (is_number 32 z) (IsNumber 32 z)
number_32 z = grind (arith, ints)

amount : (bits : ℕ) (z : ℤ) → Decides (is_amount (suc bits) z) (IsAmount (suc bits) z)
amount bits z = grind (arith, ints)

is_there : {T : Type 0} (o : Option T) → Decides (is_some o) (o ≢ None)
is_there None = (λ h. cc h, λ h. absurd (h refl))
is_there (Some x) = (λ _ e. cc e, λ _. refl)

imm : (codes : Option ImmCodes) (z : ℤ) → Decides (is_imm codes z) (IsImm codes z)
imm (Some (Number op f3)) z = number_12 z
imm (Some (Shift64 op f3 f6)) z = amount 63 z
imm (Some (Shift32 op f3 f7)) z = amount 31 z
imm None z = (λ h. cc h, λ h. absurd h)

register : (r : ℕ) → Decides (is_register r) (IsRegister r)
register r = Decides-ltb r 32

-- three and four facts
three : {P Q R : Type 0} (a b c : Bool) → Decides a P → Decides b Q → Decides c R → Decides (a && b && c) (P × Q × R)
three a b c p q r = let all = Decides-and _ _ (Decides-and _ _ p q) r in (λ h. let f = all.0 h in (f.0.0, f.0.1, f.1), λ f. all.1 ((f.0, f.1), f.2))

four : {P Q R S : Type 0} (a b c d : Bool) → Decides a P → Decides b Q → Decides c R → Decides d S → Decides (a && b && c && d) (P × Q × R × S)
four a b c d p q r s = let all = Decides-and _ _ (three _ _ _ p q r) s in (λ h. let f = all.0 h in (f.0.0, f.0.1, f.0.2, f.1), λ f. all.1 ((f.0, f.1, f.2), f.3))

pub decided : (inst : Inst) → Decides (has_word inst) (IsSpelled inst)
unfolding has_word
decided (Lui rd imm) = three _ _ _ (register rd) (number_32 imm) (Decides-eqb _ _)
decided (Auipc rd imm) = three _ _ _ (register rd) (number_32 imm) (Decides-eqb _ _)
decided (Jal rd off) = three _ _ _ (register rd) (number_21 off) (Decides-eqb _ _)
decided (Jalr rd rs1 off) = three _ _ _ (register rd) (register rs1) (number_12 off)
decided (Branch cond rs1 rs2 off) = four _ _ _ _ (register rs1) (register rs2) (number_13 off) (Decides-eqb _ _)
decided (Load width signed rd rs1 off) = four _ _ _ _ (register rd) (register rs1) (number_12 off) (is_there (load_code width signed))
decided (Store width rs1 rs2 off) = four _ _ _ _ (register rs1) (register rs2) (number_12 off) (is_there (store_code width))
decided (AluImm op rd rs1 z) = three _ _ _ (register rd) (register rs1) (imm (imm_codes op) z)
decided (Alu op rd rs1 rs2) = three _ _ _ (register rd) (register rs1) (register rs2)
decided (Amo op wide aq rl rd rs1 rs2) = three _ _ _ (register rd) (register rs1) (register rs2)
decided (Lr wide aq rl rd rs1) = Decides-and _ _ (register rd) (register rs1)
decided (Sc wide aq rl rd rs1 rs2) = three _ _ _ (register rd) (register rs1) (register rs2)
decided (Fence raw) = three _ _ _ (Decides-ltb raw (2 ^ 32)) (Decides-eqb _ _) (Decides-eqb _ _)
decided (FenceI raw) = three _ _ _ (Decides-ltb raw (2 ^ 32)) (Decides-eqb _ _) (Decides-eqb _ _)
decided Ecall = (λ _. tt, λ _. refl)
decided Ebreak = (λ _. tt, λ _. refl)

by_test : (test : Bool) (P : Type 0) (answer : Option ℕ) (word : ℕ) → Decides test P → SomeIff answer P word → answer ≡ when test word
by_test true P None word d h = absurd (h (d.0 refl))
by_test true P (Some given) word d h = ap Some h.1
by_test false P None word d h = refl
by_test false P (Some given) word d h = absurd (true≢false (sym (d.1 h.0)))

pub word_answer : (answer : Option ℕ) (inst : Inst) → IsWordOf answer inst → answer ≡ when (has_word inst) (word_of inst)
word_answer answer inst h = by_test (has_word inst) (IsSpelled inst) answer (word_of inst) (decided inst) h
