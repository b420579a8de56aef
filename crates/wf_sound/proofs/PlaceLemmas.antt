-- An access is at a place of its width.
use Rattle.std.proofs.Common.{◌≡◌, ℕ, ◌%◌, ◌==◌, Option, Some, None, Bool, true, false, refl, subst, arith, inl, inr}
use Rattle.std.specs.Prelude.{if◌then◌else◌, slice_index, option_and_then}
use Rattle.std.specs.Option.{option_map}
use Rattle.std.proofs.lemmas.Bool.Decides.{nat_tests}
use Rattle.rv_alu.specs.Arithmetic.{taken_of}
use Rattle.rv_inst.specs.declared.inst.Inst.{Inst}
use Rattle.rv_inst.specs.declared.inst.Inst.TheVariants.{Jal, Jalr, Branch, Load, Store, Amo, Lr, Sc}
use Rattle.rv_inst.specs.declared.want.Want.{Want}
use Rattle.rv_inst.specs.declared.want.Want.TheVariants.{Nothing, Look, Put, Swap, Reserve, PutIf, Trap}
use Rattle.rv_inst.specs.Arch.{ArchState}
use Rattle.rv_inst.specs.Decoding.{inst_of}
use Rattle.rv_inst.specs.Fields.{funct3}
use Rattle.rv_inst.specs.Meanings.{at_offset, jalr_target, to_jump, atomic_width, want_of}
use Rattle.rv_inst.specs.Rows.{IsRow, load_code, store_code}
use Rattle.wf_flat.specs.State.{HartState}
use Rattle.wf_flat.specs.Accesses.{Access, access_of}
use Rattle.wf_flat.specs.Serving.{IsPlace, IsWidth}
use Rattle.wf_flat.specs.Steps.{access_in}

-- an instruction is that of a row
abbrev pub HaveRows : Type 0
HaveRows = (word : ℕ) (inst : Inst) → inst_of word ≡ Some inst → IsRow word inst

-- where there is an access, it is at a place
abbrev HasPlace : Option Access → Type 0
HasPlace None = Unit {0}
HasPlace (Some access) = IsPlace access.va access.width

place_test : (b : Bool) (one other : Want) → HasPlace (access_of (Some one)) → HasPlace (access_of (Some other)) → HasPlace (access_of (Some (if b then one else other)))
place_test true one other p q = p
place_test false one other p q = q

place_aligned : (b : Bool) (one other : Want) → (b ≡ true → HasPlace (access_of (Some one))) → HasPlace (access_of (Some other)) → HasPlace (access_of (Some (if b then one else other)))
place_aligned true one other p q = p refl
place_aligned false one other p q = q

place_jump : (target : ℕ) → HasPlace (access_of (Some (to_jump target)))
place_jump target = place_test (target % 4 == 0) Nothing (Trap 0 target) tt tt

load_width : (width code : ℕ) (signed : Bool) → load_code width signed ≡ Some code → IsWidth width
load_width width code true c = grind (arith, nat_tests)
load_width width code false c = grind (arith, nat_tests)

store_width : (width code : ℕ) → store_code width ≡ Some code → IsWidth width
store_width width code c = grind (arith, nat_tests)

atomic_is : (wide : Bool) → IsWidth (atomic_width wide)
atomic_is true = inr (inr (inr refl))
atomic_is false = inr (inr (inl refl))

placed : (va width : ℕ) → IsWidth width → (va % width == 0) ≡ true → IsPlace va width
placed va width sized e = record { sized = sized; even = grind (arith, nat_tests) }

by_inst : (inst : Inst) (word : ℕ) (arch : ArchState) → IsRow word inst → HasPlace (access_of (Some (want_of inst arch)))
by_inst (Load width signed rd rs1 off) word arch r =
    let va : ℕ = at_offset (slice_index arch.x rs1) off in
    place_aligned (va % width == 0) (Look va width) (Trap 4 va) (placed va width (load_width width (funct3 word) signed r.1)) tt
by_inst (Store width rs1 rs2 off) word arch r =
    let va : ℕ = at_offset (slice_index arch.x rs1) off in
    place_aligned (va % width == 0) (Put va width (slice_index arch.x rs2)) (Trap 6 va) (placed va width (store_width width (funct3 word) r.1)) tt
by_inst (Jal rd off) word arch r = place_jump (at_offset arch.pc off)
by_inst (Jalr rd rs1 off) word arch r = place_jump (jalr_target (slice_index arch.x rs1) off)
by_inst (Branch cond rs1 rs2 off) word arch r = place_test (taken_of cond (slice_index arch.x rs1) (slice_index arch.x rs2)) (to_jump (at_offset arch.pc off)) Nothing (place_jump (at_offset arch.pc off)) tt
by_inst (Amo op wide aq rl rd rs1 rs2) word arch r =
    let va : ℕ = slice_index arch.x rs1 in
    place_aligned (va % atomic_width wide == 0) (Swap va (atomic_width wide) op (slice_index arch.x rs2)) (Trap 6 va) (placed va (atomic_width wide) (atomic_is wide)) tt
by_inst (Lr wide aq rl rd rs1) word arch r =
    let va : ℕ = slice_index arch.x rs1 in
    place_aligned (va % atomic_width wide == 0) (Reserve va (atomic_width wide)) (Trap 4 va) (placed va (atomic_width wide) (atomic_is wide)) tt
by_inst (Sc wide aq rl rd rs1 rs2) word arch r =
    let va : ℕ = slice_index arch.x rs1 in
    place_aligned (va % atomic_width wide == 0) (PutIf va (atomic_width wide) (slice_index arch.x rs2)) (Trap 6 va) (placed va (atomic_width wide) (atomic_is wide)) tt
by_inst inst word arch r = tt

by_word : HaveRows → (word : ℕ) (o : Option Inst) (arch : ArchState) → inst_of word ≡ o → HasPlace (access_of (option_map (λ (inst : Inst). want_of inst arch) o))
by_word rows word None arch e = tt
by_word rows word (Some inst) arch e = by_inst inst word arch (rows word inst e)

by_fetched : HaveRows → (fetched : Option ℕ) (arch : ArchState) → HasPlace (access_of (option_map (λ (inst : Inst). want_of inst arch) (option_and_then inst_of fetched)))
by_fetched rows None arch = tt
by_fetched rows (Some word) arch = by_word rows word (inst_of word) arch refl

pub access_placed : HaveRows → (hart : HartState) (access : Access) → access_in hart ≡ Some access → IsPlace access.va access.width
access_placed rows hart access e = subst HasPlace e (by_fetched rows hart.fetched hart.arch)
