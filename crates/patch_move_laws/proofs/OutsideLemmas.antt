-- A hart at an ecall of its own text goes on inside no jump that has its words.
use Rattle.std.proofs.Common.{◌≡◌, ◌<◌, ◌+◌, ◌%◌, ◌^◌, ◌&&◌, ℕ, List, [], ◌∷◌, Some, None, Bool, true, false, if◌then◌else◌, refl, subst, ap, arith}
use Rattle.std.specs.Prelude.{nat_lt}
use Rattle.std.specs.List.{AllByRecursion, list_any}
use Rattle.std.proofs.lemmas.Bool.Decides.{nat_tests}
use Rattle.rv_inst.specs.declared.inst.Inst.{Inst}
use Rattle.rv_inst.specs.declared.inst.Inst.TheVariants.{Ecall}
use Rattle.rv_inst.specs.Decoding.{inst_of}
use Rattle.rv_inst.specs.Meanings.{next_pc}
use Rattle.rv_inst.specs.Spelling.{word_of}
use Rattle.rv_inst.proofs.RowLemmas.{inst_of_row}
use Rattle.rv_inst.proofs.SpellingLemmas.{word_is_row}
use Rattle.rv_encode.specs.Jumps.{distance, first_inst}
use Rattle.rv_encode.proofs.JumpLemmas.{first_spelled}
use Rattle.wf_outside.specs.declared.image.Jump.{Jump}
use Rattle.wf_outside.specs.declared.refusal.Refusal.TheVariants.{Inside}
use Rattle.wf_outside.specs.Pages.{PageValue}
use Rattle.wf_flat.specs.Accesses.{generation_text}
use Rattle.wf_flat.specs.Memory.{word_at}
use Rattle.wf_effects.specs.Generations.{jumps_in}
use Rattle.wf_verdict.specs.Verdict.{is_in_jump}
use Rattle.patch_move_laws.specs.Moves.{CallsGoOnOutside, HasItsWords}

-- where a multiple of 4 is inside a jump at one, the jump begins four bytes before
jump_begins : (pc at : ℕ) → pc % 4 ≡ 0 → at % 4 ≡ 0 → pc < 2 ^ 64 → (nat_lt at (next_pc pc) && nat_lt (next_pc pc) (at + 8)) ≡ true → pc ≡ at
jump_begins pc at even_pc even_at low inside = grind (arith, nat_tests)

-- the first word of a jump is no ecall
no_call : (text : List PageValue) (jump : Jump) (word : ℕ) → HasItsWords text jump → word_at text jump.at ≡ Some word → inst_of word ≡ Some Ecall → ⊥
no_call text jump word has is call =
    let inst : Inst = first_inst (distance jump.at has.to) in
    let row = word_is_row inst (first_spelled (distance jump.at has.to) has.reach.1) in
    let decodes : inst_of (word_of inst) ≡ Some inst = inst_of_row (word_of inst) inst row.1 in
    let same : word_of inst ≡ word = let first = has.first in cc in
    let both : inst_of word ≡ Some inst = subst (λ (w : ℕ). inst_of w ≡ Some inst) same decodes in
    cc

outside_one : (text : List PageValue) (jump : Jump) (pc word : ℕ) → HasItsWords text jump → pc % 4 ≡ 0 → pc < 2 ^ 64 → word_at text pc ≡ Some word → inst_of word ≡ Some Ecall → is_in_jump (next_pc pc) jump ≡ false
outside_one text jump pc word has even low is call = by_test (is_in_jump (next_pc pc) jump) refl
  where
    by_test : (b : Bool) → is_in_jump (next_pc pc) jump ≡ b → b ≡ false
    by_test false t = refl
    by_test true t = absurd (no_call text jump word has (subst (λ (at : ℕ). word_at text at ≡ Some word) (jump_begins pc jump.at even has.even low t) is) call)

outside_all : (text : List PageValue) (jumps : List Jump) (pc word : ℕ) → AllByRecursion (HasItsWords text) jumps → pc % 4 ≡ 0 → pc < 2 ^ 64 → word_at text pc ≡ Some word → inst_of word ≡ Some Ecall
    → list_any (is_in_jump (next_pc pc)) jumps ≡ false
outside_all text [] pc word all even low is call = refl
outside_all text (jump ∷ jumps) pc word all even low is call = rw (outside_one text jump pc word all.0 even low is call) (outside_all text jumps pc word all.1 even low is call)

pub go_on_outside : CallsGoOnOutside
go_on_outside s hart has call =
    ap (λ (b : Bool). if b then Some (Inside (next_pc hart.arch.pc)) else None)
    (outside_all (generation_text s hart.generation) (jumps_in s hart.generation) hart.arch.pc call.word has call.even call.low call.is_text call.is_call)
