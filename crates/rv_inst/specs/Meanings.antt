-- What an instruction wants of memory or the kernel, and what it leaves in the registers
-- (RISC-V unprivileged ISA: RV64I, M, A and Zifencei).
use Rattle.std.specs.Prelude.{ℕ, ℤ, ◌+◌, ◌-◌, ◌*◌, ◌%◌, ◌^◌, ◌==◌, List, Bool, true, if◌then◌else◌, slice_index, slice_set}
use Rattle.std.specs.Int.{cast_unsigned, w64}
use Rattle.rv_alu.specs.Arithmetic.{alu_of, taken_of, signed, wrapped}
use Rattle.rv_inst.specs.declared.inst.Inst.{Inst}
use Rattle.rv_inst.specs.declared.inst.Inst.TheVariants.{Lui, Auipc, Jal, Jalr, Branch, Load, Store, AluImm, Alu, Amo, Lr, Sc, Fence, FenceI, Ecall, Ebreak}
use Rattle.rv_inst.specs.declared.want.Want.{Want}
use Rattle.rv_inst.specs.declared.want.Want.TheVariants.{Nothing, Look, Put, Swap, Reserve, PutIf, Call, Trap}
use Rattle.rv_inst.specs.declared.causes.TheConstants.{INSTRUCTION_ADDRESS_MISALIGNED, BREAKPOINT, LOAD_ADDRESS_MISALIGNED, STORE_ADDRESS_MISALIGNED}
use Rattle.rv_inst.specs.Arch.{ArchState}

-- the address at an offset, modulo 2 ^ 64
abbrev pub at_offset : ℕ → ℤ → ℕ
at_offset base off = (base + cast_unsigned w64 off) % 2 ^ 64

-- the target of a jalr: the address with bit 0 cleared ("Unconditional Jumps")
abbrev pub jalr_target : ℕ → ℤ → ℕ
jalr_target base off = at_offset base off - at_offset base off % 2

-- the bytes of an atomic operation
abbrev pub atomic_width : Bool → ℕ
atomic_width wide = if wide then 8 else 4

-- A jump wants nothing, unless its target is no multiple of 4: then it traps ("Unconditional
-- Jumps").
abbrev pub to_jump : ℕ → Want
to_jump target = if target % 4 == 0 then Nothing else Trap INSTRUCTION_ADDRESS_MISALIGNED target

-- An access wants what it is to do, unless its address is no multiple of its width: then it traps
-- with this cause ("Load and Store Instructions").
abbrev pub aligned : ℕ → ℕ → ℕ → Want → Want
aligned va width cause want = if va % width == 0 then want else Trap cause va

-- what the instruction wants
abbrev pub want_of : Inst → ArchState → Want
want_of (Lui rd imm) arch = Nothing
want_of (Auipc rd imm) arch = Nothing
want_of (Jal rd off) arch = to_jump (at_offset arch.pc off)
want_of (Jalr rd rs1 off) arch = to_jump (jalr_target (slice_index arch.x rs1) off)
want_of (Branch cond rs1 rs2 off) arch =
    if taken_of cond (slice_index arch.x rs1) (slice_index arch.x rs2)
    then to_jump (at_offset arch.pc off)
    else Nothing
want_of (Load width sign rd rs1 off) arch =
    let va = at_offset (slice_index arch.x rs1) off in
    aligned va width LOAD_ADDRESS_MISALIGNED (Look va width)
want_of (Store width rs1 rs2 off) arch =
    let va = at_offset (slice_index arch.x rs1) off in
    aligned va width STORE_ADDRESS_MISALIGNED (Put va width (slice_index arch.x rs2))
want_of (AluImm op rd rs1 imm) arch = Nothing
want_of (Alu op rd rs1 rs2) arch = Nothing
want_of (Amo op wide aq rl rd rs1 rs2) arch =
    let va = slice_index arch.x rs1 in
    let width = atomic_width wide in
    aligned va width STORE_ADDRESS_MISALIGNED (Swap va width op (slice_index arch.x rs2))
want_of (Lr wide aq rl rd rs1) arch =
    let va = slice_index arch.x rs1 in
    aligned va (atomic_width wide) LOAD_ADDRESS_MISALIGNED (Reserve va (atomic_width wide))
want_of (Sc wide aq rl rd rs1 rs2) arch =
    let va = slice_index arch.x rs1 in
    let width = atomic_width wide in
    aligned va width STORE_ADDRESS_MISALIGNED (PutIf va width (slice_index arch.x rs2))
want_of (Fence raw) arch = Nothing
want_of (FenceI raw) arch = Nothing
want_of Ecall arch = Call
want_of Ebreak arch = Trap BREAKPOINT arch.pc

-- a register is written, unless it is x0
abbrev pub written : List ℕ → ℕ → ℕ → List ℕ
written x rd value = if rd == 0 then x else slice_set x rd value

-- the address of the next instruction
abbrev pub next_pc : ℕ → ℕ
next_pc pc = (pc + 4) % 2 ^ 64

-- on to the next instruction, with a register written
abbrev pub with_written : ArchState → ℕ → ℕ → ArchState
with_written arch rd value = record { pc = next_pc arch.pc; x = written arch.x rd value }

-- to a target, with the address of the next instruction in a register
abbrev pub jump_and_link : ArchState → ℕ → ℕ → ArchState
jump_and_link arch rd target = record { pc = target; x = written arch.x rd (next_pc arch.pc) }

-- so many bytes that were read, extended to a register by their sign or by zeros
abbrev pub loaded : ℕ → Bool → ℕ → ℕ
loaded width sign got =
    let n = got % 2 ^ (8 * width) in
    if sign then wrapped (signed (8 * width) n) else n

-- The pc and registers after the instruction, where `got` is what it read, or 1 for an sc that
-- missed and 0 for one that did not. After an ecall or an ebreak they are the kernel's to say.
abbrev pub meaning_of : Inst → ArchState → ℕ → ArchState
meaning_of (Lui rd imm) arch got = with_written arch rd (cast_unsigned w64 imm)
meaning_of (Auipc rd imm) arch got = with_written arch rd (at_offset arch.pc imm)
meaning_of (Jal rd off) arch got = jump_and_link arch rd (at_offset arch.pc off)
meaning_of (Jalr rd rs1 off) arch got = jump_and_link arch rd (jalr_target (slice_index arch.x rs1) off)
meaning_of (Branch cond rs1 rs2 off) arch got =
    let is_taken = taken_of cond (slice_index arch.x rs1) (slice_index arch.x rs2) in
    record { pc = if is_taken then at_offset arch.pc off else next_pc arch.pc; x = arch.x }
meaning_of (Load width sign rd rs1 off) arch got = with_written arch rd (loaded width sign got)
meaning_of (Store width rs1 rs2 off) arch got = record { pc = next_pc arch.pc; x = arch.x }
meaning_of (AluImm op rd rs1 imm) arch got =
    with_written arch rd (alu_of op (slice_index arch.x rs1) (cast_unsigned w64 imm))
meaning_of (Alu op rd rs1 rs2) arch got =
    with_written arch rd (alu_of op (slice_index arch.x rs1) (slice_index arch.x rs2))
meaning_of (Amo op wide aq rl rd rs1 rs2) arch got = with_written arch rd (loaded (atomic_width wide) true got)
meaning_of (Lr wide aq rl rd rs1) arch got = with_written arch rd (loaded (atomic_width wide) true got)
meaning_of (Sc wide aq rl rd rs1 rs2) arch got = with_written arch rd got
meaning_of (Fence raw) arch got = record { pc = next_pc arch.pc; x = arch.x }
meaning_of (FenceI raw) arch got = record { pc = next_pc arch.pc; x = arch.x }
meaning_of Ecall arch got = arch
meaning_of Ebreak arch got = arch

-- the pc and registers after a call of the kernel: its answer is in a0, which is x10 (RISC-V ELF
-- psABI, "Integer Register Convention")
abbrev pub called : ArchState → ℕ → ArchState
called arch answer = record { pc = next_pc arch.pc; x = slice_set arch.x 10 answer }
