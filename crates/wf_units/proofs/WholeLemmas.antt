-- Every hart of a sound machine that rests has a unit.
use Rattle.std.proofs.Common.{◌≡◌, ◌<◌, ◌+◌, ◌^◌, ◌%◌, ◌==◌, ℕ, List, [], ◌∷◌, Option, Some, None, Bool, true, false, refl, sym, ap, ◌∙◌, not, if◌then◌else◌, map}
use Rattle.std.specs.Prelude.{slice_index}
use Rattle.rv_alu.specs.Arithmetic.{amo_of, taken_of}
use Rattle.rv_inst.specs.declared.inst.Inst.{Inst}
use Rattle.rv_inst.specs.declared.inst.Inst.TheVariants.{Lui, Auipc, Jal, Jalr, Branch, Load, Store, AluImm, Alu, Amo, Lr, Sc, Fence, FenceI, Ecall, Ebreak}
use Rattle.rv_inst.specs.declared.want.Want.{Want}
use Rattle.rv_inst.specs.declared.want.Want.TheVariants as want
use Rattle.rv_inst.specs.Arch.{ArchState}
use Rattle.rv_inst.specs.Decoding.{inst_of}
use Rattle.rv_inst.specs.Meanings.{aligned, at_offset, atomic_width, jalr_target, next_pc, to_jump, want_of}
use Rattle.wf_outside.specs.declared.refusal.Refusal.{Refusal}
use Rattle.wf_outside.specs.declared.sizes.TheConstants.{PAGE_SIZE}
use Rattle.wf_outside.specs.Images.{DeltaValue}
use Rattle.wf_outside.specs.Pages.{PageValue, page_of}
use Rattle.wf_flat.specs.declared.state.Life.{Life}
use Rattle.wf_flat.specs.declared.state.Life.TheVariants.{Running, Exited, Trapped}
use Rattle.wf_flat.specs.State.{FlatState, HartState, PageState}
use Rattle.wf_flat.specs.Accesses.{Access, access_of, accessed_text, generation_text, has_reserved, stands}
use Rattle.wf_flat.specs.Memory.{data_in, number_in, page_in, word_at}
use Rattle.wf_flat.specs.Steps.{is_lost}
use Rattle.wf_verdict.specs.declared.requests.Request.{Request}
use Rattle.wf_verdict.specs.declared.requests.Request.TheVariants.{Exits, PutsByte, Maps, Unmaps, TellsGeneration, Migrates, Quiesces, Deletes, Clones, Patches, NoCall}
use Rattle.wf_verdict.specs.Requests.{requested_by}
use Rattle.wf_verdict.specs.Verdict.{pages_from, refusal_of}
use Rattle.wf_sound.specs.Laws.{EntriesKeepSound, JournalsKeepSound}
use Rattle.wf_sound.proofs.AllLemmas.{all_get}
use Rattle.wf_service.specs.Calling.{IsAtCall}
use Rattle.wf_service.proofs.QuietLemmas.{IsFree}
use Rattle.wf_units.specs.Accessing.{FindsData, write_at}
use Rattle.wf_units.specs.Calls.{IsCalling, MayAllGo}
use Rattle.wf_units.specs.Instructions.{FindsInst, FindsWord, is_faulty, is_page_faulty}
use Rattle.wf_units.specs.Units.{IsAtRest}
use Rattle.wf_units.specs.Whole.{HasUnit}
use Rattle.wf_units.proofs.AccessLemmas.{load_unit, read_at, reserve_unit, text_load_unit, text_reserve_unit}
use Rattle.wf_units.proofs.AskLemmas.{fault_unit}
use Rattle.wf_units.proofs.EndLemmas.{of_program}
use Rattle.wf_units.proofs.PlainLemmas.{idle_unit, illegal_unit, lost_unit, run_unit, wanted_trap_unit}
use Rattle.wf_units.proofs.RefusalLemmas.{IsOfProgram}
use Rattle.wf_units.proofs.RequestLemmas.{byte_unit, clone_unit, deletion_unit, exit_unit, map_unit, migration_unit, quiesce_unit, refused_unit, told_unit, unmap_unit}
use Rattle.wf_units.proofs.WriteLemmas.{conditional_unit, lost_conditional_unit, missed_conditional_unit, store_unit, swap_unit}

-- an ecall alone wants a call
abbrev is_call : Want → Bool
is_call want.Call = true
is_call w = false

by_test : (b : Bool) (one other : Want) → is_call one ≡ false → is_call other ≡ false → is_call (if b then one else other) ≡ false
by_test true one other p q = p
by_test false one other p q = q

jump_calls : (target : ℕ) → is_call (to_jump target) ≡ false
jump_calls target = by_test (target % 4 == 0) want.Nothing (want.Trap 0 target) refl refl

aligned_calls : (va width cause : ℕ) (w : Want) → is_call w ≡ false → is_call (aligned va width cause w) ≡ false
aligned_calls va width cause w p = by_test (va % width == 0) w (want.Trap cause va) p refl

calls : (inst : Inst) (arch : ArchState) → is_call (want_of inst arch) ≡ true → inst ≡ Ecall
calls (Lui rd imm) arch e = absurd (cc)
calls (Auipc rd imm) arch e = absurd (cc)
calls (Jal rd off) arch e = absurd (let n = jump_calls (at_offset arch.pc off) in cc)
calls (Jalr rd rs1 off) arch e = absurd (let n = jump_calls (jalr_target (slice_index arch.x rs1) off) in cc)
calls (Branch cond rs1 rs2 off) arch e = absurd (let n = by_test (taken_of cond (slice_index arch.x rs1) (slice_index arch.x rs2)) (to_jump (at_offset arch.pc off)) want.Nothing (jump_calls (at_offset arch.pc off)) refl in cc)
calls (Load width sign rd rs1 off) arch e = absurd (let va : ℕ = at_offset (slice_index arch.x rs1) off in let n = aligned_calls va width 4 (want.Look va width) refl in cc)
calls (Store width rs1 rs2 off) arch e = absurd (let va : ℕ = at_offset (slice_index arch.x rs1) off in let n = aligned_calls va width 6 (want.Put va width (slice_index arch.x rs2)) refl in cc)
calls (AluImm op rd rs1 imm) arch e = absurd (cc)
calls (Alu op rd rs1 rs2) arch e = absurd (cc)
calls (Amo op wide aq rl rd rs1 rs2) arch e = absurd (let n = aligned_calls (slice_index arch.x rs1) (atomic_width wide) 6 (want.Swap (slice_index arch.x rs1) (atomic_width wide) op (slice_index arch.x rs2)) refl in cc)
calls (Lr wide aq rl rd rs1) arch e = absurd (let n = aligned_calls (slice_index arch.x rs1) (atomic_width wide) 4 (want.Reserve (slice_index arch.x rs1) (atomic_width wide)) refl in cc)
calls (Sc wide aq rl rd rs1 rs2) arch e = absurd (let n = aligned_calls (slice_index arch.x rs1) (atomic_width wide) 6 (want.PutIf (slice_index arch.x rs1) (atomic_width wide) (slice_index arch.x rs2)) refl in cc)
calls (Fence raw) arch e = absurd (cc)
calls (FenceI raw) arch e = absurd (cc)
calls Ecall arch e = refl
calls Ebreak arch e = absurd (cc)

-- at a call
module _ (keeps : EntriesKeepSound) (journals : JournalsKeepSound) (deltas : List DeltaValue) (s : FlatState) (h word : ℕ) (hart : HartState) (c : IsCalling deltas s h word hart) where
  none_worn : (pages : List ℕ) → MayAllGo s (map (λ page. (page, false)) pages) pages
  none_worn [] = record { are = refl; worn = tt }
  none_worn (page ∷ pages) =
      let rest = none_worn pages in
      record { are = ap (λ (l : List ℕ). page ∷ l) rest.are; worn = ((λ e. absurd (cc)), rest.worn) }

  granted : (request : Request) → requested_by hart ≡ request → IsOfProgram request → refusal_of deltas s (next_pc hart.arch.pc) request ≡ None → HasUnit deltas s h
  granted (Exits code) is of none = record { events = _; new = _; is = exit_unit keeps journals deltas s h word hart code (record { calling = c; requested = is; granted = none }) }
  granted (PutsByte byte) is of none = record { events = _; new = _; is = byte_unit keeps journals deltas s h word hart byte (record { calling = c; requested = is; granted = none }) }
  granted (Maps va pages right) is of none = record { events = _; new = _; is = map_unit keeps journals deltas s h word hart va pages right (record { calling = c; requested = is; granted = none }) }
  granted (Unmaps va pages) is of none = record { events = _; new = _; is = unmap_unit keeps journals deltas s h word hart va pages (map (λ page. (page, false)) (pages_from va pages)) (record { calling = c; requested = is; granted = none }) (none_worn (pages_from va pages)) }
  granted TellsGeneration is of none = record { events = _; new = _; is = told_unit keeps journals deltas s h word hart (record { calling = c; requested = is; granted = none }) }
  granted (Migrates generation) is of none = record { events = _; new = _; is = migration_unit keeps journals deltas s h word hart generation (record { calling = c; requested = is; granted = none }) }
  granted Quiesces is of none = record { events = _; new = _; is = quiesce_unit keeps journals deltas s h word hart (record { calling = c; requested = is; granted = none }) }
  granted (Deletes generation) is of none = record { events = _; new = _; is = deletion_unit keeps journals deltas s h word hart generation (record { calling = c; requested = is; granted = none }) }
  granted (Clones parent) is of none = record { events = _; new = _; is = clone_unit keeps journals deltas s h word hart parent (record { calling = c; requested = is; granted = none }) }
  granted (Patches patch) is of none = absurd of
  granted (NoCall number) is of none = absurd (cc)

  calls_have : (o : Option Refusal) → refusal_of deltas s (next_pc hart.arch.pc) (requested_by hart) ≡ o → HasUnit deltas s h
  calls_have None is = granted (requested_by hart) refl (of_program hart) is
  calls_have (Some reason) is = record { events = _; new = _; is = refused_unit keeps journals deltas s h word hart reason (record { calling = c; denied = is }) }

-- at an access
module _ (journals : JournalsKeepSound) (deltas : List DeltaValue) (s : FlatState) (h : ℕ) (hart : HartState) (word : ℕ) (inst : Inst) where
  -- it cannot be made
  data_faulty : (access : Access) (o : Option PageState) → data_in s.pages (page_of access.va) ≡ o → is_page_faulty access o ≡ true → accessed_text s hart access ≡ None → is_faulty s hart access ≡ true
  data_faulty access o is wrong none = rw none (ap (is_page_faulty access) is ∙ wrong)

  text_faulty : (access : Access) (page : PageValue) → accessed_text s hart access ≡ Some page → access.write ≡ true → is_faulty s hart access ≡ true
  text_faulty access page text writes = rw text writes

  fails : (w : Want) (access : Access) → FindsInst deltas s h hart word inst w → access_of (Some w) ≡ Some access → is_lost (Some w) hart.reservation ≡ false → is_faulty s hart access ≡ true → HasUnit deltas s h
  fails w access f e kept wrong = record { events = _; new = _; is = fault_unit journals deltas s h hart word inst w access f e kept wrong }

  loads_have : (va width : ℕ) → FindsInst deltas s h hart word inst (want.Look va width) → (text : Option PageValue) → page_in (generation_text s hart.generation) (page_of va) ≡ text → (o : Option PageState) → data_in s.pages (page_of va) ≡ o → HasUnit deltas s h
  loads_have va width f (Some page) text o is = record { events = _; new = _; is = text_load_unit journals deltas s h hart word inst va width page f text }
  loads_have va width f None text None is = fails (want.Look va width) (read_at va width) f refl refl (data_faulty (read_at va width) None is refl text)
  loads_have va width f None text (Some page) is = record { events = _; new = _; is = load_unit journals deltas s h hart word inst va width page f (record { no_text = text; there = is }) }

  reserves_have : (va width : ℕ) → FindsInst deltas s h hart word inst (want.Reserve va width) → (text : Option PageValue) → page_in (generation_text s hart.generation) (page_of va) ≡ text → (o : Option PageState) → data_in s.pages (page_of va) ≡ o → HasUnit deltas s h
  reserves_have va width f (Some page) text o is = record { events = _; new = _; is = text_reserve_unit journals deltas s h hart word inst va width page f text }
  reserves_have va width f None text None is = fails (want.Reserve va width) (read_at va width) f refl refl (data_faulty (read_at va width) None is refl text)
  reserves_have va width f None text (Some page) is = record { events = _; new = _; is = reserve_unit journals deltas s h hart word inst va width page f (record { no_text = text; there = is }) }

  -- a write: what it does to a page that may be written
  writes_have : (w : Want) (va width : ℕ) → FindsInst deltas s h hart word inst w → access_of (Some w) ≡ Some (write_at va width) → is_lost (Some w) hart.reservation ≡ false → ((page : PageState) → FindsData s hart va page → page.write ≡ true → HasUnit deltas s h)
      → (text : Option PageValue) → page_in (generation_text s hart.generation) (page_of va) ≡ text → (o : Option PageState) → data_in s.pages (page_of va) ≡ o → HasUnit deltas s h
  writes_have w va width f e kept write (Some page) text o is = fails w (write_at va width) f e kept (text_faulty (write_at va width) page text refl)
  writes_have w va width f e kept write None text None is = fails w (write_at va width) f e kept (data_faulty (write_at va width) None is refl text)
  writes_have w va width f e kept write None text (Some page) is = by_right page.write refl
    where
      by_right : (b : Bool) → page.write ≡ b → HasUnit deltas s h
      by_right true right = write page (record { no_text = text; there = is }) right
      by_right false right = fails w (write_at va width) f e kept (data_faulty (write_at va width) (Some page) is (ap not right) text)

  conditionals_have : (va width value : ℕ) → FindsInst deltas s h hart word inst (want.PutIf va width value) → (b : Bool) → has_reserved hart.reservation va width ≡ b → HasUnit deltas s h
  conditionals_have va width value f false lost = record { events = _; new = _; is = lost_conditional_unit deltas s h hart word inst va width value f journals lost }
  conditionals_have va width value f true reserved =
      writes_have (want.PutIf va width value) va width f refl (ap not reserved) (λ page d right. by_standing page d right (stands hart.reservation (write_at va width) page) refl) (page_in (generation_text s hart.generation) (page_of va)) refl (data_in s.pages (page_of va)) refl
    where
      by_standing : (page : PageState) → FindsData s hart va page → page.write ≡ true → (b : Bool) → stands hart.reservation (write_at va width) page ≡ b → HasUnit deltas s h
      by_standing page d right true standing = record { events = _; new = _; is = conditional_unit journals deltas s h hart word inst va width value page f d right standing }
      by_standing page d right false standing = record { events = _; new = _; is = missed_conditional_unit deltas s h hart word inst va width value f journals page d right reserved standing }

-- by what is wanted
module _ (keeps : EntriesKeepSound) (journals : JournalsKeepSound) (deltas : List DeltaValue) (s : FlatState) (h : ℕ) (hart : HartState) (births : s.births + 65536 < 2 ^ 64) where
  wants_have : (word : ℕ) (inst : Inst) (w : Want) → FindsInst deltas s h hart word inst w → HasUnit deltas s h
  wants_have word inst want.Nothing f = record { events = _; new = _; is = run_unit journals deltas s h hart word inst f }
  wants_have word inst (want.Trap cause value) f = record { events = _; new = _; is = wanted_trap_unit journals deltas s h hart word inst cause value f }
  wants_have word inst (want.Look va width) f = loads_have journals deltas s h hart word inst va width f (page_in (generation_text s hart.generation) (page_of va)) refl (data_in s.pages (page_of va)) refl
  wants_have word inst (want.Reserve va width) f = reserves_have journals deltas s h hart word inst va width f (page_in (generation_text s hart.generation) (page_of va)) refl (data_in s.pages (page_of va)) refl
  wants_have word inst (want.Put va width value) f =
      writes_have journals deltas s h hart word inst (want.Put va width value) va width f refl refl (λ page d right. record { events = _; new = _; is = store_unit journals deltas s h hart word inst va width value page f d right })
      (page_in (generation_text s hart.generation) (page_of va)) refl (data_in s.pages (page_of va)) refl
  wants_have word inst (want.Swap va width op value) f =
      writes_have journals deltas s h hart word inst (want.Swap va width op value) va width f refl refl
      (λ page d right. record { events = _; new = _; is = swap_unit journals deltas s h hart word inst va width value (number_in page.words (va % PAGE_SIZE) width) (amo_of op (width == 8) (number_in page.words (va % PAGE_SIZE) width) value) op page f d right refl refl })
      (page_in (generation_text s hart.generation) (page_of va)) refl (data_in s.pages (page_of va)) refl
  wants_have word inst (want.PutIf va width value) f = conditionals_have journals deltas s h hart word inst va width value f (has_reserved hart.reservation va width) refl
  wants_have word inst want.Call f =
      let r = f.finds.rests in
      let ecall : inst ≡ Ecall = calls inst hart.arch (ap is_call f.wants) in
      let at : IsAtCall s word hart = record { runs = f.finds.runs; no_try = all_get IsFree s.harts h hart r.rests.no_try r.there; text = f.finds.text; ecall = f.is_inst ∙ ap Some ecall } in
      calls_have keeps journals deltas s h word hart (record { rests = r; births = births; at_call = at }) (refusal_of deltas s (next_pc hart.arch.pc) (requested_by hart)) refl

  words_have : (o : Option ℕ) → FindsWord deltas s h hart o → HasUnit deltas s h
  words_have None f = record { events = _; new = _; is = lost_unit journals deltas s h hart f }
  words_have (Some word) f = by_inst (inst_of word) refl
    where
      by_inst : (i : Option Inst) → inst_of word ≡ i → HasUnit deltas s h
      by_inst None none = record { events = _; new = _; is = illegal_unit journals deltas s h hart word f none }
      by_inst (Some inst) is = wants_have word inst (want_of inst hart.arch) (record { finds = f; is_inst = is; wants = refl })

  lives_have : IsAtRest deltas s h hart → (l : Life) → hart.life ≡ l → HasUnit deltas s h
  lives_have r Running is = words_have (word_at (generation_text s hart.generation) hart.arch.pc) (record { rests = r; runs = is; text = refl })
  lives_have r (Exited code) is = record { events = _; new = _; is = idle_unit deltas s h hart r (λ e. (let k : Running ≡ Exited code = sym e ∙ is in cc)) }
  lives_have r (Trapped cause value) is = record { events = _; new = _; is = idle_unit deltas s h hart r (λ e. (let k : Running ≡ Trapped cause value = sym e ∙ is in cc)) }

pub harts_have : (keeps : EntriesKeepSound) (journals : JournalsKeepSound) (deltas : List DeltaValue) (s : FlatState) (h : ℕ) (hart : HartState) → IsAtRest deltas s h hart → s.births + 65536 < 2 ^ 64 → HasUnit deltas s h
harts_have keeps journals deltas s h hart r births = lives_have keeps journals deltas s h hart births r hart.life refl
