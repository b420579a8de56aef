-- The short forms (RISC-V unprivileged ISA, "RISC-V Assembly Programmer's Handbook").
use Rattle.std.specs.Prelude.{ℕ, pos, List, [], ◌∷◌, codes, Option, Some, None, if◌then◌else◌}
use Rattle.std.specs.Option.{option_map}
use Rattle.std.specs.Str.{bytes_eq}
use Rattle.rv_alu.specs.declared.op.AluOp.TheVariants.{Add}
use Rattle.rv_inst.specs.declared.inst.Inst.TheVariants.{AluImm, Jalr}
use Rattle.asm_lines.specs.declared.statement.Use.TheVariants.{Call, Jal, La}
use Rattle.asm_lines.specs.Operands.{name_of, register_and_name, register_and_number, two_registers}
use Rattle.asm_lines.specs.Statements.{Asked, Li, Named, Plain}

-- without operands: nop is addi x0, x0, 0, and ret is jalr x0, 0(x1)
unfoldable pub bare_short : List ℕ → List ℕ → Option Asked
bare_short mnemonic [] =
    if bytes_eq mnemonic (codes "nop") then Some (Plain (AluImm Add 0 0 (pos 0)))
    else if bytes_eq mnemonic (codes "ret") then Some (Plain (Jalr 0 1 (pos 0)))
    else None
bare_short mnemonic (b ∷ bs) = None

-- with operands: mv RD, RS is addi RD, RS, 0; li RD, N; la RD, NAME; call NAME; and j NAME is jal
-- x0, NAME
unfoldable pub short : List ℕ → List ℕ → Option Asked
short mnemonic args =
    if bytes_eq mnemonic (codes "mv")
    then option_map (λ r. Plain (AluImm Add r.0 r.1 (pos 0))) (two_registers args)
    else if bytes_eq mnemonic (codes "li")
    then option_map (λ r. Li r.0 r.1) (register_and_number args)
    else if bytes_eq mnemonic (codes "la")
    then option_map (λ r. Named (La r.0) r.1) (register_and_name args)
    else if bytes_eq mnemonic (codes "call")
    then option_map (λ name. Named Call name) (name_of args)
    else if bytes_eq mnemonic (codes "j")
    then option_map (λ name. Named (Jal 0) name) (name_of args)
    else bare_short mnemonic args
