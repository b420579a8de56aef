-- Atomic instructions: a mnemonic, and its width and order behind a point (RISC-V unprivileged ISA,
-- "Atomic Memory Operations" and "Load-Reserved/Store-Conditional Instructions").
use Rattle.std.specs.Prelude.{ℕ, Bool, true, false, List, codes, drop, find, take, length, unwrap_or, Option, Some, None, if◌then◌else◌}
use Rattle.std.specs.Str.{bytes_eq}
use Rattle.rv_alu.specs.declared.op.AmoOp.{AmoOp}
use Rattle.rv_encode.specs.Texts.{amo_name}
use Rattle.rv_inst.specs.declared.inst.Inst.{Inst}
use Rattle.rv_inst.specs.declared.inst.Inst.TheVariants.{Amo, Lr, Sc}
use Rattle.asm_lines.specs.declared.atomics.Order.{Order}
use Rattle.asm_lines.specs.declared.atomics.TheConstants.{AMO_OPS}
use Rattle.asm_lines.specs.Bytes.{place_of}
use Rattle.asm_lines.specs.Choice.{◌>>=◌}
use Rattle.asm_lines.specs.Operands.{in_parentheses, pair}
use Rattle.asm_lines.specs.Registers.{register_of}

-- the width of an operation, and whether it has acquire and release semantics, as the dialect
-- writes them
abbrev pub order : Bool → Bool → Bool → Option Order
order wide aq rl = Some (record { wide = wide; aq = aq; rl = rl })

-- the width and order of a suffix
abbrev pub order_of : List ℕ → Option Order
order_of suffix =
    if bytes_eq suffix (codes ".w") then order false false false
    else if bytes_eq suffix (codes ".w.aq") then order false true false
    else if bytes_eq suffix (codes ".w.rl") then order false false true
    else if bytes_eq suffix (codes ".w.aqrl") then order false true true
    else if bytes_eq suffix (codes ".d") then order true false false
    else if bytes_eq suffix (codes ".d.aq") then order true true false
    else if bytes_eq suffix (codes ".d.rl") then order true false true
    else if bytes_eq suffix (codes ".d.aqrl") then order true true true
    else None

-- lr: a register, and an address in a register in parentheses
unfoldable pub lr : Order → List ℕ → Option Inst
lr o args = do
  p ← pair args
  rd ← register_of p.0
  rs1 ← in_parentheses p.1
  Some (Lr o.wide o.aq o.rl rd rs1)

-- sc and atomic memory operations: two registers, and an address: rd, rs2 and rs1
unfoldable pub three_with_address : List ℕ → Option (ℕ × ℕ × ℕ)
three_with_address args = do
  p ← pair args
  rd ← register_of p.0
  q ← pair p.1
  rs2 ← register_of q.0
  rs1 ← in_parentheses q.1
  Some (rd, rs2, rs1)

-- a store-conditional of this width and order: the register of its answer, the one that is stored,
-- and the address
unfoldable pub sc : Order → List ℕ → Option Inst
sc o args = do
  r ← three_with_address args
  Some (Sc o.wide o.aq o.rl r.0 r.2 r.1)

-- an atomic memory operation of this width and order: the register of what was read, the operand,
-- and the address
unfoldable pub amo : AmoOp → Order → List ℕ → Option Inst
amo op o args = do
  r ← three_with_address args
  Some (Amo op o.wide o.aq o.rl r.0 r.2 r.1)

-- by what stands before the first point
unfoldable pub atomic_named : List ℕ → Order → List ℕ → Option Inst
atomic_named name o args =
    if bytes_eq name (codes "lr") then lr o args
    else if bytes_eq name (codes "sc") then sc o args
    else (do
      op ← find (λ op. bytes_eq (amo_name op) name) AMO_OPS
      amo op o args)

-- how many bytes stand before the first point
abbrev pub head_len : List ℕ → ℕ
head_len mnemonic = unwrap_or (place_of 46 mnemonic) (length mnemonic)

-- an instruction of the A extension: its name, and behind that the suffix of width and order
unfoldable pub atomic : List ℕ → List ℕ → Option Inst
atomic mnemonic args = do
  o ← order_of (drop (head_len mnemonic) mnemonic)
  atomic_named (take (head_len mnemonic) mnemonic) o args
