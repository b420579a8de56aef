-- Page table entries (RISC-V privileged ISA, "Sv39: Page-Based 39-bit Virtual-Memory System").
use Rattle.std.specs.Prelude.{◌+◌, ◌*◌, ◌/◌, ◌%◌, ◌^◌, ◌==◌, ℕ, Option, Some, None, if◌then◌else◌}
use Rattle.wf_sv39.specs.declared.entry.Leaf.{Leaf}
use Rattle.wf_sv39.specs.declared.entry.Leaf.TheVariants.{Private, Read, Write}
use Rattle.wf_sv39.specs.declared.entry.TheConstants.{VALID, READ, WRITE, EXECUTE, USER, ACCESSED, DIRTY, PRIVATE}

-- a pointer to the node in a frame: the frame's number from bit 10 on, and V alone
abbrev pub pte_node : ℕ → ℕ
pte_node frame = frame * 2 ^ 10 + VALID

-- the bits of a leaf beside its frame: V, R, U and A always; X and the software's bit 8 for text
-- that is private to one view; W and D for data that may be written
abbrev pub leaf_bits : Leaf → ℕ
leaf_bits Private = VALID + READ + EXECUTE + USER + ACCESSED + PRIVATE
leaf_bits Read = VALID + READ + USER + ACCESSED
leaf_bits Write = VALID + READ + WRITE + USER + ACCESSED + DIRTY

-- a leaf for the page in a frame
abbrev pub pte_leaf : ℕ → Leaf → ℕ
pte_leaf frame leaf = frame * 2 ^ 10 + leaf_bits leaf

-- the frame that an entry names, its physical page number in bits 53 to 10: physical memory starts
-- at 0
abbrev pub frame_of : ℕ → ℕ
frame_of pte = pte / 2 ^ 10 % 2 ^ 44

-- which leaf an entry is, by its low ten bits
abbrev pub leaf_of : ℕ → Option Leaf
leaf_of pte =
    let bits = pte % 2 ^ 10 in
    if bits == leaf_bits Private then Some Private
    else (if bits == leaf_bits Read then Some Read
    else (if bits == leaf_bits Write then Some Write else None))
