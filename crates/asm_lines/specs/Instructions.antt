-- Instructions, as their texts show them (RISC-V unprivileged ISA, "RV32/64G Instruction Set
-- Listings").
use Rattle.std.specs.Prelude.{ℕ, ℤ, pos, ◌^◌, ◌-ℤ◌, ◌*ℤ◌, ◌&&◌, Bool, true, false, List, [], ◌∷◌, codes, find, int_le, int_lt, Option, Some, None, if◌then◌else◌}
use Rattle.std.specs.Option.{option_map}
use Rattle.std.specs.Str.{bytes_eq}
use Rattle.rv_encode.specs.Texts.{alu_name, branch_name, imm_name}
use Rattle.rv_inst.specs.declared.inst.Inst.{Inst}
use Rattle.rv_inst.specs.declared.inst.Inst.TheVariants.{Lui, Auipc, Jal, Jalr, Branch, Load, Store, AluImm, Alu, Fence, FenceI, Ecall, Ebreak}
use Rattle.asm_lines.specs.declared.instructions.TheConstants.{ALU_OPS, IMM_OPS, CONDS}
use Rattle.asm_lines.specs.declared.statement.Use.TheVariants as use_
use Rattle.asm_lines.specs.Choice.{◌>>=◌, or_else}
use Rattle.asm_lines.specs.Operands.{immediate, immediate_of, name_of, pair, register_and_address, register_and_number, three_registers, unfit}
use Rattle.asm_lines.specs.Registers.{register_of}
use Rattle.asm_lines.specs.Statements.{Asked, Named, Plain}

-- an operation on two registers, as add
unfoldable pub alu : List ℕ → List ℕ → Option Inst
alu mnemonic args = do
  op ← find (λ op. bytes_eq (alu_name op) mnemonic) ALU_OPS
  r ← three_registers args
  Some (Alu op r.0 r.1 r.2)

-- an operation on a register and a number, as addi
unfoldable pub alu_imm : List ℕ → List ℕ → Option Inst
alu_imm mnemonic args = do
  op ← find (λ op. bytes_eq (imm_name op) mnemonic) IMM_OPS
  p ← pair args
  rd ← register_of p.0
  r ← register_and_number p.1
  Some (AluImm op rd r.0 (immediate r.1))

-- the width in bytes of a load, and whether it extends the sign
abbrev pub load_kind : List ℕ → Option (ℕ × Bool)
load_kind mnemonic =
    if bytes_eq mnemonic (codes "lb") then Some (1, true)
    else if bytes_eq mnemonic (codes "lh") then Some (2, true)
    else if bytes_eq mnemonic (codes "lw") then Some (4, true)
    else if bytes_eq mnemonic (codes "ld") then Some (8, true)
    else if bytes_eq mnemonic (codes "lbu") then Some (1, false)
    else if bytes_eq mnemonic (codes "lhu") then Some (2, false)
    else if bytes_eq mnemonic (codes "lwu") then Some (4, false)
    else None

-- a load, by its name: the register, and the address that it reads
unfoldable pub load : List ℕ → List ℕ → Option Inst
load mnemonic args = do
  kind ← load_kind mnemonic
  r ← register_and_address args
  Some (Load kind.0 kind.1 r.0 r.2 r.1)

-- the width in bytes of a store
abbrev pub store_width : List ℕ → Option ℕ
store_width mnemonic =
    if bytes_eq mnemonic (codes "sb") then Some 1
    else if bytes_eq mnemonic (codes "sh") then Some 2
    else if bytes_eq mnemonic (codes "sw") then Some 4
    else if bytes_eq mnemonic (codes "sd") then Some 8
    else None

-- a store, by its name: the register that is stored, and the address
unfoldable pub store : List ℕ → List ℕ → Option Inst
store mnemonic args = do
  width ← store_width mnemonic
  r ← register_and_address args
  Some (Store width r.2 r.0 r.1)

-- jalr, with its offset before the register in parentheses
unfoldable pub jalr : List ℕ → List ℕ → Option Inst
jalr mnemonic args =
    if bytes_eq mnemonic (codes "jalr") then (do
      r ← register_and_address args
      Some (Jalr r.0 r.2 r.1))
    else None

-- the immediate of lui and auipc, whose operand is its bits 31 to 12, a number from 0 to 2 ^ 20 - 1
abbrev pub upper : ℤ → ℤ
upper n =
    if int_le (pos 0) n && int_lt n (pos (2 ^ 19)) then n *ℤ pos (2 ^ 12)
    else if int_le (pos (2 ^ 19)) n && int_lt n (pos (2 ^ 20))
    then (n -ℤ pos (2 ^ 20)) *ℤ pos (2 ^ 12)
    else unfit

-- `lui` and `auipc`: the register, and the number for bits 31 to 12
unfoldable pub upper_inst : List ℕ → List ℕ → Option Inst
upper_inst mnemonic args =
    if bytes_eq mnemonic (codes "lui")
    then option_map (λ r. Lui r.0 (upper r.1)) (register_and_number args)
    else if bytes_eq mnemonic (codes "auipc")
    then option_map (λ r. Auipc r.0 (upper r.1)) (register_and_number args)
    else None

-- an instruction without operands; fence is that of all reads and writes, of memory and of devices
unfoldable pub bare : List ℕ → List ℕ → Option Inst
bare mnemonic [] =
    if bytes_eq mnemonic (codes "fence") then Some (Fence 0x0FF0000F)
    else if bytes_eq mnemonic (codes "fence.i") then Some (FenceI 0x0000100F)
    else if bytes_eq mnemonic (codes "ecall") then Some Ecall
    else if bytes_eq mnemonic (codes "ebreak") then Some Ebreak
    else None
bare mnemonic (b ∷ bs) = None

-- a branch, to a name or by a number
unfoldable pub branch : List ℕ → List ℕ → Option Asked
branch mnemonic args = do
  cond ← find (λ cond. bytes_eq (branch_name cond) mnemonic) CONDS
  p ← pair args
  rs1 ← register_of p.0
  q ← pair p.1
  rs2 ← register_of q.0
  or_else
      (option_map (λ off. Plain (Branch cond rs1 rs2 off)) (immediate_of q.1))
      (option_map (λ name. Named (use_.Branch cond rs1 rs2) name) (name_of q.1))

-- jal to a name or by a number
unfoldable pub jal_to : ℕ → List ℕ → Option Asked
jal_to rd target =
    or_else
    (option_map (λ off. Plain (Jal rd off)) (immediate_of target))
    (option_map (λ name. Named (use_.Jal rd) name) (name_of target))

-- `jal`, with a register and a name or with a name alone
unfoldable pub jal : List ℕ → List ℕ → Option Asked
jal mnemonic args =
    if bytes_eq mnemonic (codes "jal") then (do
      p ← pair args
      rd ← register_of p.0
      jal_to rd p.1)
    else None
