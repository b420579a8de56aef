-- The instruction of a word is that of its row, and each row's.
use Rattle.std.proofs.Common.{◌≡◌, ◌==◌, ℕ, ℤ, pos, Bool, true, false, Option, Some, None, refl, sym, subst, ap, ◌∙◌, arith}
use Rattle.std.specs.Prelude.{if◌then◌else◌}
use Rattle.std.specs.Option.{option_map}
use Rattle.std.proofs.lemmas.Bool.Decides.{nat_tests}
use Rattle.rv_alu.specs.declared.op.AluOp.{AluOp}
use Rattle.rv_alu.specs.declared.op.AluOp.TheVariants.{Add, Sub, Sll, Slt, Sltu, Xor, Srl, Sra, Or, And, Addw, Subw, Sllw, Srlw, Sraw, Mul, Mulh, Mulhsu, Mulhu, Div, Divu, Rem, Remu, Mulw, Divw, Divuw, Remw, Remuw}
use Rattle.rv_alu.specs.declared.op.AmoOp.{AmoOp}
use Rattle.rv_alu.specs.declared.op.AmoOp.TheVariants as amo
use Rattle.rv_alu.specs.declared.op.Cond.{Cond}
use Rattle.rv_alu.specs.declared.op.Cond.TheVariants.{Equal, NotEqual, Less, GreaterOrEqual, LessUnsigned, GreaterOrEqualUnsigned}
use Rattle.rv_inst.specs.declared.inst.Inst.{Inst}
use Rattle.rv_inst.specs.declared.inst.Inst.TheVariants.{Lui, Auipc, Jal, Jalr, Branch, Load, Store, AluImm, Alu, Amo, Lr, Sc, Fence, FenceI, Ecall, Ebreak}
use Rattle.rv_inst.specs.Fields.{opcode, rd_in, funct3, rs1_in, rs2_in, funct7, funct6, funct5, aq_in, rl_in, imm_i, imm_s, imm_b, imm_u, imm_j, amount_64, amount_32}
use Rattle.rv_inst.specs.Rows.{IsRow, branch_code, load_code, store_code, amo_code, alu_codes, HasCodes, wide_code}
use Rattle.rv_inst.specs.Decoding.{inst_of, inst_by, jalr_of, cond_at, branch_of, load_of, store_of, imm_of, imm_word_of, base_at, other_at, product_at, base_word_at, other_word_at, product_word_at, op_at, op_word_at, alu_with, fence_of, system_of, amo_at, amo_inst_of, atomic_with, atomic_of}

-- what a test says
is_equal : (a b : ℕ) → (a == b) ≡ true → a ≡ b
is_equal a b e = grind (arith, nat_tests)

-- an answer by a test comes from one of its sides
from_test : {A : Type 0} (b : Bool) (x y : Option A) (z : A) (Q : Type 0) → (b ≡ true → x ≡ Some z → Q) → (b ≡ false → y ≡ Some z → Q) → (if b then x else y) ≡ Some z → Q
from_test true x y z Q f g e = f refl e
from_test false x y z Q f g e = g refl e

-- and from its test, where it is there only then
from_only : {A : Type 0} (b : Bool) (x : Option A) (z : A) (Q : Type 0) → (b ≡ true → x ≡ Some z → Q) → (if b then x else None) ≡ Some z → Q
from_only true x z Q f e = f refl e
from_only false x z Q f e = absurd (cc)

-- an answer made of another comes from one
from_map : {A B : Type 0} (f : A → B) (o : Option A) (z : B) → option_map f o ≡ Some z → (x : A) × (o ≡ Some x) × (f x ≡ z)
from_map f None z e = absurd (cc)
from_map f (Some x) z e = (x, refl, cc)

as_row : (word : ℕ) (one inst : Inst) → IsRow word one → Some one ≡ Some inst → IsRow word inst
as_row word one inst h e = let same : one ≡ inst = cc in subst (IsRow word) same h

-- the operation of a code has that code
cond_is : (f : ℕ) (cond : Cond) → cond_at f ≡ Some cond → f ≡ branch_code cond
cond_is f cond e = grind (arith, nat_tests)

amo_is : (f : ℕ) (op : AmoOp) → amo_at f ≡ Some op → f ≡ amo_code op
amo_is f op e = grind (arith, nat_tests)

base_is : (f : ℕ) (op : AluOp) → base_at f ≡ Some op → (0x33, f, 0x00) ≡ alu_codes op
base_is f op e = grind (arith, nat_tests)

other_is : (f : ℕ) (op : AluOp) → other_at f ≡ Some op → (0x33, f, 0x20) ≡ alu_codes op
other_is f op e = grind (arith, nat_tests)

product_is : (f : ℕ) (op : AluOp) → product_at f ≡ Some op → (0x33, f, 0x01) ≡ alu_codes op
product_is f op e = grind (arith, nat_tests)

base_word_is : (f : ℕ) (op : AluOp) → base_word_at f ≡ Some op → (0x3B, f, 0x00) ≡ alu_codes op
base_word_is f op e = grind (arith, nat_tests)

other_word_is : (f : ℕ) (op : AluOp) → other_word_at f ≡ Some op → (0x3B, f, 0x20) ≡ alu_codes op
other_word_is f op e = grind (arith, nat_tests)

product_word_is : (f : ℕ) (op : AluOp) → product_word_at f ≡ Some op → (0x3B, f, 0x01) ≡ alu_codes op
product_word_is f op e = grind (arith, nat_tests)

op_is : (f7 f3 : ℕ) (op : AluOp) → op_at f7 f3 ≡ Some op → (0x33, f3, f7) ≡ alu_codes op
op_is f7 f3 op =
    from_test (f7 == 0x00) _ _ op ((0x33, f3, f7) ≡ alu_codes op) (λ t e. rw (is_equal f7 0x00 t) (base_is f3 op e))
    (λ _. from_test (f7 == 0x20) _ _ op ((0x33, f3, f7) ≡ alu_codes op) (λ t e. rw (is_equal f7 0x20 t) (other_is f3 op e))
    (λ _. from_only (f7 == 0x01) _ op ((0x33, f3, f7) ≡ alu_codes op) (λ t e. rw (is_equal f7 0x01 t) (product_is f3 op e))))

op_word_is : (f7 f3 : ℕ) (op : AluOp) → op_word_at f7 f3 ≡ Some op → (0x3B, f3, f7) ≡ alu_codes op
op_word_is f7 f3 op =
    from_test (f7 == 0x00) _ _ op ((0x3B, f3, f7) ≡ alu_codes op) (λ t e. rw (is_equal f7 0x00 t) (base_word_is f3 op e))
    (λ _. from_test (f7 == 0x20) _ _ op ((0x3B, f3, f7) ≡ alu_codes op) (λ t e. rw (is_equal f7 0x20 t) (other_word_is f3 op e))
    (λ _. from_only (f7 == 0x01) _ op ((0x3B, f3, f7) ≡ alu_codes op) (λ t e. rw (is_equal f7 0x01 t) (product_word_is f3 op e))))

-- each opcode's answer is the instruction of a row
jalr_row : (word : ℕ) (inst : Inst) → opcode word ≡ 0x67 → jalr_of word ≡ Some inst → IsRow word inst
jalr_row word inst h = from_only (funct3 word == 0) _ inst (IsRow word inst) (λ t. as_row word (Jalr (rd_in word) (rs1_in word) (imm_i word)) inst (h, is_equal _ _ t, refl, refl, refl))

branch_row : (word : ℕ) (inst : Inst) → opcode word ≡ 0x63 → branch_of word ≡ Some inst → IsRow word inst
branch_row word inst h e =
    let w = from_map (λ (cond : Cond). Branch cond (rs1_in word) (rs2_in word) (imm_b word)) (cond_at (funct3 word)) inst e in
    subst (IsRow word) w.2 (h, cond_is (funct3 word) w.0 w.1, refl, refl, refl)

load_row : (word : ℕ) (inst : Inst) → opcode word ≡ 0x03 → load_of word ≡ Some inst → IsRow word inst
load_row word inst h =
    from_test (funct3 word == 0) _ _ inst (IsRow word inst) (λ t. row 0 1 true (is_equal _ _ t) refl)
    (λ _. from_test (funct3 word == 1) _ _ inst (IsRow word inst) (λ t. row 1 2 true (is_equal _ _ t) refl)
    (λ _. from_test (funct3 word == 2) _ _ inst (IsRow word inst) (λ t. row 2 4 true (is_equal _ _ t) refl)
    (λ _. from_test (funct3 word == 3) _ _ inst (IsRow word inst) (λ t. row 3 8 true (is_equal _ _ t) refl)
    (λ _. from_test (funct3 word == 4) _ _ inst (IsRow word inst) (λ t. row 4 1 false (is_equal _ _ t) refl)
    (λ _. from_test (funct3 word == 5) _ _ inst (IsRow word inst) (λ t. row 5 2 false (is_equal _ _ t) refl)
    (λ _. from_only (funct3 word == 6) _ inst (IsRow word inst) (λ t. row 6 4 false (is_equal _ _ t) refl)))))))
  where
    row : (code width : ℕ) (signed : Bool) → funct3 word ≡ code → load_code width signed ≡ Some code → Some (Load width signed (rd_in word) (rs1_in word) (imm_i word)) ≡ Some inst → IsRow word inst
    row code width signed f c = as_row word (Load width signed (rd_in word) (rs1_in word) (imm_i word)) inst (h, c ∙ sym (ap Some f), refl, refl, refl)

store_row : (word : ℕ) (inst : Inst) → opcode word ≡ 0x23 → store_of word ≡ Some inst → IsRow word inst
store_row word inst h =
    from_test (funct3 word == 0) _ _ inst (IsRow word inst) (λ t. row 0 1 (is_equal _ _ t) refl)
    (λ _. from_test (funct3 word == 1) _ _ inst (IsRow word inst) (λ t. row 1 2 (is_equal _ _ t) refl)
    (λ _. from_test (funct3 word == 2) _ _ inst (IsRow word inst) (λ t. row 2 4 (is_equal _ _ t) refl)
    (λ _. from_only (funct3 word == 3) _ inst (IsRow word inst) (λ t. row 3 8 (is_equal _ _ t) refl))))
  where
    row : (code width : ℕ) → funct3 word ≡ code → store_code width ≡ Some code → Some (Store width (rs1_in word) (rs2_in word) (imm_s word)) ≡ Some inst → IsRow word inst
    row code width f c = as_row word (Store width (rs1_in word) (rs2_in word) (imm_s word)) inst (h, c ∙ sym (ap Some f), refl, refl, refl)

imm_row : (word : ℕ) (inst : Inst) → opcode word ≡ 0x13 → imm_of word ≡ Some inst → IsRow word inst
imm_row word inst h =
    from_test (funct3 word == 0) _ _ inst (IsRow word inst) (λ t. as_row word (AluImm Add (rd_in word) (rs1_in word) (imm_i word)) inst ((h, is_equal _ _ t, refl), refl, refl))
    (λ _. from_test (funct3 word == 1) _ _ inst (IsRow word inst) (λ t. from_only (funct6 word == 0b000000) _ inst (IsRow word inst) (λ u. as_row word (AluImm Sll (rd_in word) (rs1_in word) (pos (amount_64 word))) inst ((h, is_equal _ _ t, is_equal _ _ u, refl), refl, refl)))
    (λ _. from_test (funct3 word == 2) _ _ inst (IsRow word inst) (λ t. as_row word (AluImm Slt (rd_in word) (rs1_in word) (imm_i word)) inst ((h, is_equal _ _ t, refl), refl, refl))
    (λ _. from_test (funct3 word == 3) _ _ inst (IsRow word inst) (λ t. as_row word (AluImm Sltu (rd_in word) (rs1_in word) (imm_i word)) inst ((h, is_equal _ _ t, refl), refl, refl))
    (λ _. from_test (funct3 word == 4) _ _ inst (IsRow word inst) (λ t. as_row word (AluImm Xor (rd_in word) (rs1_in word) (imm_i word)) inst ((h, is_equal _ _ t, refl), refl, refl))
    (λ _. from_test (funct3 word == 5) _ _ inst (IsRow word inst) (λ t. from_test (funct6 word == 0b000000) _ _ inst (IsRow word inst) (λ u. as_row word (AluImm Srl (rd_in word) (rs1_in word) (pos (amount_64 word))) inst ((h, is_equal _ _ t, is_equal _ _ u, refl), refl, refl)) (λ _. from_only (funct6 word == 0b010000) _ inst (IsRow word inst) (λ u. as_row word (AluImm Sra (rd_in word) (rs1_in word) (pos (amount_64 word))) inst ((h, is_equal _ _ t, is_equal _ _ u, refl), refl, refl))))
    (λ _. from_test (funct3 word == 6) _ _ inst (IsRow word inst) (λ t. as_row word (AluImm Or (rd_in word) (rs1_in word) (imm_i word)) inst ((h, is_equal _ _ t, refl), refl, refl))
    (λ _. from_only (funct3 word == 7) _ inst (IsRow word inst) (λ t. as_row word (AluImm And (rd_in word) (rs1_in word) (imm_i word)) inst ((h, is_equal _ _ t, refl), refl, refl)))))))))

imm_word_row : (word : ℕ) (inst : Inst) → opcode word ≡ 0x1B → imm_word_of word ≡ Some inst → IsRow word inst
imm_word_row word inst h =
    from_test (funct3 word == 0) _ _ inst (IsRow word inst) (λ t. as_row word (AluImm Addw (rd_in word) (rs1_in word) (imm_i word)) inst ((h, is_equal _ _ t, refl), refl, refl))
    (λ _. from_test (funct3 word == 1) _ _ inst (IsRow word inst) (λ t. from_only (funct7 word == 0x00) _ inst (IsRow word inst) (λ u. as_row word (AluImm Sllw (rd_in word) (rs1_in word) (pos (amount_32 word))) inst ((h, is_equal _ _ t, is_equal _ _ u, refl), refl, refl)))
    (λ _. from_only (funct3 word == 5) _ inst (IsRow word inst) (λ t. from_test (funct7 word == 0x00) _ _ inst (IsRow word inst) (λ u. as_row word (AluImm Srlw (rd_in word) (rs1_in word) (pos (amount_32 word))) inst ((h, is_equal _ _ t, is_equal _ _ u, refl), refl, refl)) (λ _. from_only (funct7 word == 0x20) _ inst (IsRow word inst) (λ u. as_row word (AluImm Sraw (rd_in word) (rs1_in word) (pos (amount_32 word))) inst ((h, is_equal _ _ t, is_equal _ _ u, refl), refl, refl))))))

codes_are : (word : ℕ) (codes : ℕ × ℕ × ℕ) → (opcode word, funct3 word, funct7 word) ≡ codes → HasCodes word codes
codes_are word codes e = subst (HasCodes word) e (refl, refl, refl)

alu_row : (word : ℕ) (inst : Inst) (op : Option AluOp) → ((found : AluOp) → op ≡ Some found → (opcode word, funct3 word, funct7 word) ≡ alu_codes found) → alu_with word op ≡ Some inst → IsRow word inst
alu_row word inst op h e =
    let w = from_map (λ (found : AluOp). Alu found (rd_in word) (rs1_in word) (rs2_in word)) op inst e in
    subst (IsRow word) w.2 (codes_are word (alu_codes w.0) (h w.0 w.1), refl, refl, refl)

fence_row : (word : ℕ) (inst : Inst) → opcode word ≡ 0x0F → fence_of word ≡ Some inst → IsRow word inst
fence_row word inst h =
    from_test (funct3 word == 0) _ _ inst (IsRow word inst) (λ t. as_row word (Fence word) inst (h, is_equal _ _ t, refl))
    (λ _. from_only (funct3 word == 1) _ inst (IsRow word inst) (λ t. as_row word (FenceI word) inst (h, is_equal _ _ t, refl)))

system_row : (word : ℕ) (inst : Inst) → system_of word ≡ Some inst → IsRow word inst
system_row word inst =
    from_test (word == 0x00000073) _ _ inst (IsRow word inst) (λ t. as_row word Ecall inst (is_equal _ _ t))
    (λ _. from_only (word == 0x00100073) _ inst (IsRow word inst) (λ t. as_row word Ebreak inst (is_equal _ _ t)))

atomic_with_row : (word : ℕ) (wide : Bool) (inst : Inst) → opcode word ≡ 0x2F → funct3 word ≡ wide_code wide → atomic_with word wide ≡ Some inst → IsRow word inst
atomic_with_row word wide inst h f =
    from_test (funct5 word == 0b00010) _ _ inst (IsRow word inst)
    (λ t. from_only (rs2_in word == 0) _ inst (IsRow word inst) (λ u. as_row word (Lr wide (aq_in word) (rl_in word) (rd_in word) (rs1_in word)) inst ((h, f, is_equal _ _ t, refl, refl), refl, refl, is_equal _ _ u)))
    (λ _. from_test (funct5 word == 0b00011) _ _ inst (IsRow word inst)
    (λ t. as_row word (Sc wide (aq_in word) (rl_in word) (rd_in word) (rs1_in word) (rs2_in word)) inst ((h, f, is_equal _ _ t, refl, refl), refl, refl, refl))
    (λ _ e. amo_row e))
  where
    amo_row : amo_inst_of word wide ≡ Some inst → IsRow word inst
    amo_row e =
        let w = from_map (λ (op : AmoOp). Amo op wide (aq_in word) (rl_in word) (rd_in word) (rs1_in word) (rs2_in word)) (amo_at (funct5 word)) inst e in
        subst (IsRow word) w.2 ((h, f, amo_is (funct5 word) w.0 w.1, refl, refl), refl, refl, refl)

atomic_row : (word : ℕ) (inst : Inst) → opcode word ≡ 0x2F → atomic_of word ≡ Some inst → IsRow word inst
atomic_row word inst h =
    from_test (funct3 word == 2) _ _ inst (IsRow word inst) (λ t. atomic_with_row word false inst h (is_equal _ _ t))
    (λ _. from_only (funct3 word == 3) _ inst (IsRow word inst) (λ t. atomic_with_row word true inst h (is_equal _ _ t)))

row_by : (op word : ℕ) (inst : Inst) → opcode word ≡ op → inst_by op word ≡ Some inst → IsRow word inst
unfolding inst_by
row_by op word inst h =
    from_test (op == 0x37) _ _ inst (IsRow word inst) (λ t. as_row word (Lui (rd_in word) (imm_u word)) inst (h ∙ is_equal op _ t, refl, refl))
    (λ _. from_test (op == 0x17) _ _ inst (IsRow word inst) (λ t. as_row word (Auipc (rd_in word) (imm_u word)) inst (h ∙ is_equal op _ t, refl, refl))
    (λ _. from_test (op == 0x6F) _ _ inst (IsRow word inst) (λ t. as_row word (Jal (rd_in word) (imm_j word)) inst (h ∙ is_equal op _ t, refl, refl))
    (λ _. from_test (op == 0x67) _ _ inst (IsRow word inst) (λ t. jalr_row word inst (h ∙ is_equal op _ t))
    (λ _. from_test (op == 0x63) _ _ inst (IsRow word inst) (λ t. branch_row word inst (h ∙ is_equal op _ t))
    (λ _. from_test (op == 0x03) _ _ inst (IsRow word inst) (λ t. load_row word inst (h ∙ is_equal op _ t))
    (λ _. from_test (op == 0x23) _ _ inst (IsRow word inst) (λ t. store_row word inst (h ∙ is_equal op _ t))
    (λ _. from_test (op == 0x13) _ _ inst (IsRow word inst) (λ t. imm_row word inst (h ∙ is_equal op _ t))
    (λ _. from_test (op == 0x1B) _ _ inst (IsRow word inst) (λ t. imm_word_row word inst (h ∙ is_equal op _ t))
    (λ _. from_test (op == 0x33) _ _ inst (IsRow word inst) (λ t. alu_row word inst (op_at (funct7 word) (funct3 word)) (λ found e. rw (h ∙ is_equal op _ t) (op_is (funct7 word) (funct3 word) found e)))
    (λ _. from_test (op == 0x3B) _ _ inst (IsRow word inst) (λ t. alu_row word inst (op_word_at (funct7 word) (funct3 word)) (λ found e. rw (h ∙ is_equal op _ t) (op_word_is (funct7 word) (funct3 word) found e)))
    (λ _. from_test (op == 0x0F) _ _ inst (IsRow word inst) (λ t. fence_row word inst (h ∙ is_equal op _ t))
    (λ _. from_test (op == 0x73) _ _ inst (IsRow word inst) (λ _. system_row word inst)
    (λ _. from_only (op == 0x2F) _ inst (IsRow word inst) (λ t. atomic_row word inst (h ∙ is_equal op _ t)))))))))))))))

pub row_of_inst : (word : ℕ) (inst : Inst) → inst_of word ≡ Some inst → IsRow word inst
unfolding inst_of
row_of_inst word inst e = row_by (opcode word) word inst refl e

-- a load's and a store's instruction, by the width
lb_inst : (word width rd rs1 : ℕ) (off : ℤ) → IsRow word (Load width true rd rs1 off) → width ≡ 1 → Some 0 ≡ Some (funct3 word) → inst_of word ≡ Some (Load width true rd rs1 off)
unfolding inst_of inst_by
lb_inst word width rd rs1 off h e c = let f : funct3 word ≡ 0 = cc in rw (h.0, f, e, h.2, h.3, h.4) refl

lh_inst : (word width rd rs1 : ℕ) (off : ℤ) → IsRow word (Load width true rd rs1 off) → width ≡ 2 → Some 1 ≡ Some (funct3 word) → inst_of word ≡ Some (Load width true rd rs1 off)
unfolding inst_of inst_by
lh_inst word width rd rs1 off h e c = let f : funct3 word ≡ 1 = cc in rw (h.0, f, e, h.2, h.3, h.4) refl

lw_inst : (word width rd rs1 : ℕ) (off : ℤ) → IsRow word (Load width true rd rs1 off) → width ≡ 4 → Some 2 ≡ Some (funct3 word) → inst_of word ≡ Some (Load width true rd rs1 off)
unfolding inst_of inst_by
lw_inst word width rd rs1 off h e c = let f : funct3 word ≡ 2 = cc in rw (h.0, f, e, h.2, h.3, h.4) refl

ld_inst : (word width rd rs1 : ℕ) (off : ℤ) → IsRow word (Load width true rd rs1 off) → width ≡ 8 → Some 3 ≡ Some (funct3 word) → inst_of word ≡ Some (Load width true rd rs1 off)
unfolding inst_of inst_by
ld_inst word width rd rs1 off h e c = let f : funct3 word ≡ 3 = cc in rw (h.0, f, e, h.2, h.3, h.4) refl

lbu_inst : (word width rd rs1 : ℕ) (off : ℤ) → IsRow word (Load width false rd rs1 off) → width ≡ 1 → Some 4 ≡ Some (funct3 word) → inst_of word ≡ Some (Load width false rd rs1 off)
unfolding inst_of inst_by
lbu_inst word width rd rs1 off h e c = let f : funct3 word ≡ 4 = cc in rw (h.0, f, e, h.2, h.3, h.4) refl

lhu_inst : (word width rd rs1 : ℕ) (off : ℤ) → IsRow word (Load width false rd rs1 off) → width ≡ 2 → Some 5 ≡ Some (funct3 word) → inst_of word ≡ Some (Load width false rd rs1 off)
unfolding inst_of inst_by
lhu_inst word width rd rs1 off h e c = let f : funct3 word ≡ 5 = cc in rw (h.0, f, e, h.2, h.3, h.4) refl

lwu_inst : (word width rd rs1 : ℕ) (off : ℤ) → IsRow word (Load width false rd rs1 off) → width ≡ 4 → Some 6 ≡ Some (funct3 word) → inst_of word ≡ Some (Load width false rd rs1 off)
unfolding inst_of inst_by
lwu_inst word width rd rs1 off h e c = let f : funct3 word ≡ 6 = cc in rw (h.0, f, e, h.2, h.3, h.4) refl

sb_inst : (word width rs1 rs2 : ℕ) (off : ℤ) → IsRow word (Store width rs1 rs2 off) → width ≡ 1 → Some 0 ≡ Some (funct3 word) → inst_of word ≡ Some (Store width rs1 rs2 off)
unfolding inst_of inst_by
sb_inst word width rs1 rs2 off h e c = let f : funct3 word ≡ 0 = cc in rw (h.0, f, e, h.2, h.3, h.4) refl

sh_inst : (word width rs1 rs2 : ℕ) (off : ℤ) → IsRow word (Store width rs1 rs2 off) → width ≡ 2 → Some 1 ≡ Some (funct3 word) → inst_of word ≡ Some (Store width rs1 rs2 off)
unfolding inst_of inst_by
sh_inst word width rs1 rs2 off h e c = let f : funct3 word ≡ 1 = cc in rw (h.0, f, e, h.2, h.3, h.4) refl

sw_inst : (word width rs1 rs2 : ℕ) (off : ℤ) → IsRow word (Store width rs1 rs2 off) → width ≡ 4 → Some 2 ≡ Some (funct3 word) → inst_of word ≡ Some (Store width rs1 rs2 off)
unfolding inst_of inst_by
sw_inst word width rs1 rs2 off h e c = let f : funct3 word ≡ 2 = cc in rw (h.0, f, e, h.2, h.3, h.4) refl

sd_inst : (word width rs1 rs2 : ℕ) (off : ℤ) → IsRow word (Store width rs1 rs2 off) → width ≡ 8 → Some 3 ≡ Some (funct3 word) → inst_of word ≡ Some (Store width rs1 rs2 off)
unfolding inst_of inst_by
sd_inst word width rs1 rs2 off h e c = let f : funct3 word ≡ 3 = cc in rw (h.0, f, e, h.2, h.3, h.4) refl

signed_load : (word width rd rs1 : ℕ) (off : ℤ) → IsRow word (Load width true rd rs1 off) → load_code width true ≡ Some (funct3 word) → inst_of word ≡ Some (Load width true rd rs1 off)
signed_load word width rd rs1 off h =
    from_test (width == 1) _ _ (funct3 word) (inst_of word ≡ Some (Load width true rd rs1 off)) (λ t. lb_inst word width rd rs1 off h (is_equal _ _ t))
    (λ _. from_test (width == 2) _ _ (funct3 word) (inst_of word ≡ Some (Load width true rd rs1 off)) (λ t. lh_inst word width rd rs1 off h (is_equal _ _ t))
    (λ _. from_test (width == 4) _ _ (funct3 word) (inst_of word ≡ Some (Load width true rd rs1 off)) (λ t. lw_inst word width rd rs1 off h (is_equal _ _ t))
    (λ _. from_only (width == 8) _ (funct3 word) (inst_of word ≡ Some (Load width true rd rs1 off)) (λ t. ld_inst word width rd rs1 off h (is_equal _ _ t)))))

unsigned_load : (word width rd rs1 : ℕ) (off : ℤ) → IsRow word (Load width false rd rs1 off) → load_code width false ≡ Some (funct3 word) → inst_of word ≡ Some (Load width false rd rs1 off)
unsigned_load word width rd rs1 off h =
    from_test (width == 1) _ _ (funct3 word) (inst_of word ≡ Some (Load width false rd rs1 off)) (λ t. lbu_inst word width rd rs1 off h (is_equal _ _ t))
    (λ _. from_test (width == 2) _ _ (funct3 word) (inst_of word ≡ Some (Load width false rd rs1 off)) (λ t. lhu_inst word width rd rs1 off h (is_equal _ _ t))
    (λ _. from_only (width == 4) _ (funct3 word) (inst_of word ≡ Some (Load width false rd rs1 off)) (λ t. lwu_inst word width rd rs1 off h (is_equal _ _ t))))

store_inst : (word width rs1 rs2 : ℕ) (off : ℤ) → IsRow word (Store width rs1 rs2 off) → store_code width ≡ Some (funct3 word) → inst_of word ≡ Some (Store width rs1 rs2 off)
store_inst word width rs1 rs2 off h =
    from_test (width == 1) _ _ (funct3 word) (inst_of word ≡ Some (Store width rs1 rs2 off)) (λ t. sb_inst word width rs1 rs2 off h (is_equal _ _ t))
    (λ _. from_test (width == 2) _ _ (funct3 word) (inst_of word ≡ Some (Store width rs1 rs2 off)) (λ t. sh_inst word width rs1 rs2 off h (is_equal _ _ t))
    (λ _. from_test (width == 4) _ _ (funct3 word) (inst_of word ≡ Some (Store width rs1 rs2 off)) (λ t. sw_inst word width rs1 rs2 off h (is_equal _ _ t))
    (λ _. from_only (width == 8) _ (funct3 word) (inst_of word ≡ Some (Store width rs1 rs2 off)) (λ t. sd_inst word width rs1 rs2 off h (is_equal _ _ t)))))

-- the instruction of a row is the word's
pub inst_of_row : (word : ℕ) (inst : Inst) → IsRow word inst → inst_of word ≡ Some inst
unfolding inst_of inst_by
inst_of_row word (Lui rd imm) h = rw (h.0, h.1, h.2) refl
inst_of_row word (Auipc rd imm) h = rw (h.0, h.1, h.2) refl
inst_of_row word (Jal rd off) h = rw (h.0, h.1, h.2) refl
inst_of_row word (Jalr rd rs1 off) h = rw (h.0, h.1, h.2, h.3, h.4) refl
inst_of_row word (Branch Equal rs1 rs2 off) h = rw (h.0, h.1, h.2, h.3, h.4) refl
inst_of_row word (Branch NotEqual rs1 rs2 off) h = rw (h.0, h.1, h.2, h.3, h.4) refl
inst_of_row word (Branch Less rs1 rs2 off) h = rw (h.0, h.1, h.2, h.3, h.4) refl
inst_of_row word (Branch GreaterOrEqual rs1 rs2 off) h = rw (h.0, h.1, h.2, h.3, h.4) refl
inst_of_row word (Branch LessUnsigned rs1 rs2 off) h = rw (h.0, h.1, h.2, h.3, h.4) refl
inst_of_row word (Branch GreaterOrEqualUnsigned rs1 rs2 off) h = rw (h.0, h.1, h.2, h.3, h.4) refl
inst_of_row word (Load width true rd rs1 off) h = signed_load word width rd rs1 off h h.1
inst_of_row word (Load width false rd rs1 off) h = unsigned_load word width rd rs1 off h h.1
inst_of_row word (Store width rs1 rs2 off) h = store_inst word width rs1 rs2 off h h.1
inst_of_row word (AluImm Add rd rs1 imm) h = rw (h.0.0, h.0.1, h.0.2, h.1, h.2) refl
inst_of_row word (AluImm Slt rd rs1 imm) h = rw (h.0.0, h.0.1, h.0.2, h.1, h.2) refl
inst_of_row word (AluImm Sltu rd rs1 imm) h = rw (h.0.0, h.0.1, h.0.2, h.1, h.2) refl
inst_of_row word (AluImm Xor rd rs1 imm) h = rw (h.0.0, h.0.1, h.0.2, h.1, h.2) refl
inst_of_row word (AluImm Or rd rs1 imm) h = rw (h.0.0, h.0.1, h.0.2, h.1, h.2) refl
inst_of_row word (AluImm And rd rs1 imm) h = rw (h.0.0, h.0.1, h.0.2, h.1, h.2) refl
inst_of_row word (AluImm Addw rd rs1 imm) h = rw (h.0.0, h.0.1, h.0.2, h.1, h.2) refl
inst_of_row word (AluImm Sll rd rs1 imm) h = rw (h.0.0, h.0.1, h.0.2, h.0.3, h.1, h.2) refl
inst_of_row word (AluImm Srl rd rs1 imm) h = rw (h.0.0, h.0.1, h.0.2, h.0.3, h.1, h.2) refl
inst_of_row word (AluImm Sra rd rs1 imm) h = rw (h.0.0, h.0.1, h.0.2, h.0.3, h.1, h.2) refl
inst_of_row word (AluImm Sllw rd rs1 imm) h = rw (h.0.0, h.0.1, h.0.2, h.0.3, h.1, h.2) refl
inst_of_row word (AluImm Srlw rd rs1 imm) h = rw (h.0.0, h.0.1, h.0.2, h.0.3, h.1, h.2) refl
inst_of_row word (AluImm Sraw rd rs1 imm) h = rw (h.0.0, h.0.1, h.0.2, h.0.3, h.1, h.2) refl
inst_of_row word (AluImm op rd rs1 imm) h = absurd h.0
inst_of_row word (Alu Add rd rs1 rs2) h = rw (h.0.0, h.0.1, h.0.2, h.1, h.2, h.3) refl
inst_of_row word (Alu Sll rd rs1 rs2) h = rw (h.0.0, h.0.1, h.0.2, h.1, h.2, h.3) refl
inst_of_row word (Alu Slt rd rs1 rs2) h = rw (h.0.0, h.0.1, h.0.2, h.1, h.2, h.3) refl
inst_of_row word (Alu Sltu rd rs1 rs2) h = rw (h.0.0, h.0.1, h.0.2, h.1, h.2, h.3) refl
inst_of_row word (Alu Xor rd rs1 rs2) h = rw (h.0.0, h.0.1, h.0.2, h.1, h.2, h.3) refl
inst_of_row word (Alu Srl rd rs1 rs2) h = rw (h.0.0, h.0.1, h.0.2, h.1, h.2, h.3) refl
inst_of_row word (Alu Or rd rs1 rs2) h = rw (h.0.0, h.0.1, h.0.2, h.1, h.2, h.3) refl
inst_of_row word (Alu And rd rs1 rs2) h = rw (h.0.0, h.0.1, h.0.2, h.1, h.2, h.3) refl
inst_of_row word (Alu Sub rd rs1 rs2) h = rw (h.0.0, h.0.1, h.0.2, h.1, h.2, h.3) refl
inst_of_row word (Alu Sra rd rs1 rs2) h = rw (h.0.0, h.0.1, h.0.2, h.1, h.2, h.3) refl
inst_of_row word (Alu Mul rd rs1 rs2) h = rw (h.0.0, h.0.1, h.0.2, h.1, h.2, h.3) refl
inst_of_row word (Alu Mulh rd rs1 rs2) h = rw (h.0.0, h.0.1, h.0.2, h.1, h.2, h.3) refl
inst_of_row word (Alu Mulhsu rd rs1 rs2) h = rw (h.0.0, h.0.1, h.0.2, h.1, h.2, h.3) refl
inst_of_row word (Alu Mulhu rd rs1 rs2) h = rw (h.0.0, h.0.1, h.0.2, h.1, h.2, h.3) refl
inst_of_row word (Alu Div rd rs1 rs2) h = rw (h.0.0, h.0.1, h.0.2, h.1, h.2, h.3) refl
inst_of_row word (Alu Divu rd rs1 rs2) h = rw (h.0.0, h.0.1, h.0.2, h.1, h.2, h.3) refl
inst_of_row word (Alu Rem rd rs1 rs2) h = rw (h.0.0, h.0.1, h.0.2, h.1, h.2, h.3) refl
inst_of_row word (Alu Remu rd rs1 rs2) h = rw (h.0.0, h.0.1, h.0.2, h.1, h.2, h.3) refl
inst_of_row word (Alu Addw rd rs1 rs2) h = rw (h.0.0, h.0.1, h.0.2, h.1, h.2, h.3) refl
inst_of_row word (Alu Sllw rd rs1 rs2) h = rw (h.0.0, h.0.1, h.0.2, h.1, h.2, h.3) refl
inst_of_row word (Alu Srlw rd rs1 rs2) h = rw (h.0.0, h.0.1, h.0.2, h.1, h.2, h.3) refl
inst_of_row word (Alu Subw rd rs1 rs2) h = rw (h.0.0, h.0.1, h.0.2, h.1, h.2, h.3) refl
inst_of_row word (Alu Sraw rd rs1 rs2) h = rw (h.0.0, h.0.1, h.0.2, h.1, h.2, h.3) refl
inst_of_row word (Alu Mulw rd rs1 rs2) h = rw (h.0.0, h.0.1, h.0.2, h.1, h.2, h.3) refl
inst_of_row word (Alu Divw rd rs1 rs2) h = rw (h.0.0, h.0.1, h.0.2, h.1, h.2, h.3) refl
inst_of_row word (Alu Divuw rd rs1 rs2) h = rw (h.0.0, h.0.1, h.0.2, h.1, h.2, h.3) refl
inst_of_row word (Alu Remw rd rs1 rs2) h = rw (h.0.0, h.0.1, h.0.2, h.1, h.2, h.3) refl
inst_of_row word (Alu Remuw rd rs1 rs2) h = rw (h.0.0, h.0.1, h.0.2, h.1, h.2, h.3) refl
inst_of_row word (Amo amo.Swap true aq rl rd rs1 rs2) h = rw (h.0.0, h.0.1, h.0.2, h.0.3, h.0.4, h.1, h.2, h.3) refl
inst_of_row word (Amo amo.Swap false aq rl rd rs1 rs2) h = rw (h.0.0, h.0.1, h.0.2, h.0.3, h.0.4, h.1, h.2, h.3) refl
inst_of_row word (Amo amo.Add true aq rl rd rs1 rs2) h = rw (h.0.0, h.0.1, h.0.2, h.0.3, h.0.4, h.1, h.2, h.3) refl
inst_of_row word (Amo amo.Add false aq rl rd rs1 rs2) h = rw (h.0.0, h.0.1, h.0.2, h.0.3, h.0.4, h.1, h.2, h.3) refl
inst_of_row word (Amo amo.Xor true aq rl rd rs1 rs2) h = rw (h.0.0, h.0.1, h.0.2, h.0.3, h.0.4, h.1, h.2, h.3) refl
inst_of_row word (Amo amo.Xor false aq rl rd rs1 rs2) h = rw (h.0.0, h.0.1, h.0.2, h.0.3, h.0.4, h.1, h.2, h.3) refl
inst_of_row word (Amo amo.And true aq rl rd rs1 rs2) h = rw (h.0.0, h.0.1, h.0.2, h.0.3, h.0.4, h.1, h.2, h.3) refl
inst_of_row word (Amo amo.And false aq rl rd rs1 rs2) h = rw (h.0.0, h.0.1, h.0.2, h.0.3, h.0.4, h.1, h.2, h.3) refl
inst_of_row word (Amo amo.Or true aq rl rd rs1 rs2) h = rw (h.0.0, h.0.1, h.0.2, h.0.3, h.0.4, h.1, h.2, h.3) refl
inst_of_row word (Amo amo.Or false aq rl rd rs1 rs2) h = rw (h.0.0, h.0.1, h.0.2, h.0.3, h.0.4, h.1, h.2, h.3) refl
inst_of_row word (Amo amo.Min true aq rl rd rs1 rs2) h = rw (h.0.0, h.0.1, h.0.2, h.0.3, h.0.4, h.1, h.2, h.3) refl
inst_of_row word (Amo amo.Min false aq rl rd rs1 rs2) h = rw (h.0.0, h.0.1, h.0.2, h.0.3, h.0.4, h.1, h.2, h.3) refl
inst_of_row word (Amo amo.Max true aq rl rd rs1 rs2) h = rw (h.0.0, h.0.1, h.0.2, h.0.3, h.0.4, h.1, h.2, h.3) refl
inst_of_row word (Amo amo.Max false aq rl rd rs1 rs2) h = rw (h.0.0, h.0.1, h.0.2, h.0.3, h.0.4, h.1, h.2, h.3) refl
inst_of_row word (Amo amo.Minu true aq rl rd rs1 rs2) h = rw (h.0.0, h.0.1, h.0.2, h.0.3, h.0.4, h.1, h.2, h.3) refl
inst_of_row word (Amo amo.Minu false aq rl rd rs1 rs2) h = rw (h.0.0, h.0.1, h.0.2, h.0.3, h.0.4, h.1, h.2, h.3) refl
inst_of_row word (Amo amo.Maxu true aq rl rd rs1 rs2) h = rw (h.0.0, h.0.1, h.0.2, h.0.3, h.0.4, h.1, h.2, h.3) refl
inst_of_row word (Amo amo.Maxu false aq rl rd rs1 rs2) h = rw (h.0.0, h.0.1, h.0.2, h.0.3, h.0.4, h.1, h.2, h.3) refl
inst_of_row word (Lr true aq rl rd rs1) h = rw (h.0.0, h.0.1, h.0.2, h.3, h.0.3, h.0.4, h.1, h.2) refl
inst_of_row word (Lr false aq rl rd rs1) h = rw (h.0.0, h.0.1, h.0.2, h.3, h.0.3, h.0.4, h.1, h.2) refl
inst_of_row word (Sc true aq rl rd rs1 rs2) h = rw (h.0.0, h.0.1, h.0.2, h.0.3, h.0.4, h.1, h.2, h.3) refl
inst_of_row word (Sc false aq rl rd rs1 rs2) h = rw (h.0.0, h.0.1, h.0.2, h.0.3, h.0.4, h.1, h.2, h.3) refl
inst_of_row word (Fence raw) h = rw (h.0, h.1, h.2) refl
inst_of_row word (FenceI raw) h = rw (h.0, h.1, h.2) refl
inst_of_row word Ecall h = rw h refl
inst_of_row word Ebreak h = rw h refl
