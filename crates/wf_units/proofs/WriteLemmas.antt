-- Whole stores, store-conditionals and atomic memory operations.
use Rattle.std.proofs.Common.{◌≡◌, ◌≢◌, ◌&&◌, ◌==◌, ◌%◌, ◌*◌, ◌^◌, ℕ, List, [], ◌∷◌, Option, Some, None, Bool, true, false, refl, sym, subst, ap, ◌∙◌, not, if◌then◌else◌, is_some}
use Rattle.std.specs.Prelude.{IsSomeAnd, slice_get}
use Rattle.std.specs.List.{AllByRecursion}
use Rattle.rv_alu.specs.declared.op.AmoOp.{AmoOp}
use Rattle.rv_alu.specs.Arithmetic.{amo_of}
use Rattle.rv_inst.specs.declared.inst.Inst.{Inst}
use Rattle.rv_inst.specs.declared.want.Want.{Want}
use Rattle.rv_inst.specs.declared.want.Want.TheVariants as want
use Rattle.rv_inst.specs.Arch.{ArchState}
use Rattle.rv_inst.specs.Meanings.{meaning_of}
use Rattle.wf_outside.specs.declared.sizes.TheConstants.{PAGE_SIZE}
use Rattle.wf_outside.specs.Images.{DeltaValue}
use Rattle.wf_outside.specs.Pages.{page_of}
use Rattle.wf_flat.specs.declared.event.Event.{Event}
use Rattle.wf_flat.specs.declared.event.Event.TheVariants.{End, Fetch, Miss, Put, Swap, Take}
use Rattle.wf_flat.specs.declared.state.Reservation.{Reservation}
use Rattle.wf_flat.specs.State.{FlatState, HartState, PageState}
use Rattle.wf_flat.specs.Accesses.{Access, access_of, accessed_data, accessed_text, has_reserved, holds, holds_page, is_reached, stands}
use Rattle.wf_flat.specs.Changes.{change_hart, change_page, fetched_with, missed, put_with, swapped_by, taken_by, written_by}
use Rattle.wf_flat.specs.Memory.{data_in, has_met, number_in}
use Rattle.wf_flat.specs.Steps.{MayMiss, MayPut, MaySwap, access_in, arch_after, has_ended, is_conditional, is_done, is_lost, misses, misses_page, put_of, swap_of, takes_for, want_in}
use Rattle.wf_flat.proofs.ListLemmas.{and_some}
use Rattle.wf_flat.proofs.FoundLemmas.{data_number}
use Rattle.wf_sound.specs.Laws.{JournalsKeepSound}
use Rattle.wf_service.specs.Resting.{IsSettled}
use Rattle.wf_units.specs.Accessing.{FindsData, access_events, miss_events, put_events, swap_events, write_at}
use Rattle.wf_units.specs.Ends.{bytes_written, hart_missed, hart_put_if, hart_wrote, now_met, try_passed}
use Rattle.wf_units.specs.Instructions.{FindsInst}
use Rattle.wf_units.specs.Units.{IsLegalUnit}
use Rattle.wf_units.proofs.AskLemmas.{has_met_behind, met_as, met_behind, not_held, same_number, settled_page, trying}
use Rattle.wf_units.proofs.PlainLemmas.{arch_there, fetch_first, in_try_there, none_tries, settled_stays, want_there}
use Rattle.wf_units.proofs.RestLemmas.{Leaves, Makes, answered_rest, found_taken, reached, take_first, taken, written_rest}
use Rattle.wf_units.proofs.AccessLemmas.{data_unit, or_first, or_self, tries, written_stays}
use Rattle.wf_units.proofs.TryLemmas.{unit_rests}

module _ (deltas : List DeltaValue) (s : FlatState) (h : ℕ) (hart : HartState) (word : ℕ) (inst : Inst) (w : Want) (va width : ℕ) (f : FindsInst deltas s h hart word inst w) (e : access_of (Some w) ≡ Some (write_at va width)) (ends : (x : HartState) → is_done x (Some w) ≡ has_ended x (Some (write_at va width))) (other : w ≢ want.Call) where
  -- a write that is put leaves this
  pub put_leaves : (g : HartState → HartState) → ((arch : ArchState) → arch ≡ meaning_of inst hart.arch 0 → record (try_passed hart) { looked = Some 0; put = true; reservation = if is_conditional (Some w) then None else hart.reservation; arch = arch } ≡ g hart) → Leaves word inst (write_at va width) (fetched_with word hart) written_by g hart 0
  put_leaves g is =
      let x : HartState = fetched_with word hart in
      let y : HartState = written_by x in
      let wants : want_in x ≡ Some w = want_there x word inst w refl f.is_inst f.wants in
      let now : want_in y ≡ Some w = want_there y word inst w refl f.is_inst f.wants in
      let arch : arch_after y ≡ meaning_of inst hart.arch 0 = arch_there y word inst w refl f.is_inst f.wants other in
      let make : Option Want → HartState = λ o. record (try_passed hart) { looked = Some 0; put = true; reservation = if is_conditional o then None else hart.reservation; arch = arch_after y } in
      record {
        runs = f.finds.runs;
        accesses = ap access_of now ∙ e;
        done = ap (is_done y) now ∙ ends y;
        arch = arch;
        ends = ap make wants ∙ is (arch_after y) arch;
      }

module _ (deltas : List DeltaValue) (s : FlatState) (h : ℕ) (hart : HartState) (word : ℕ) (inst : Inst) (w : Want) (va width : ℕ) (f : FindsInst deltas s h hart word inst w) (e : access_of (Some w) ≡ Some (write_at va width)) (ends : (x : HartState) → is_done x (Some w) ≡ has_ended x (Some (write_at va width))) (other : w ≢ want.Call) (page : PageState) (d : FindsData s hart va page) (right : page.write ≡ true) where
  -- the state in which the page is taken
  abbrev pub held : FlatState
  held = taken deltas s h hart word inst w (write_at va width) (met_behind s hart (page_of va)) f

  found_held : data_in held.pages (page_of va) ≡ Some (taken_by h page)
  found_held = found_taken deltas s h hart word inst w (write_at va width) (met_behind s hart (page_of va)) f page d

  there : slice_get held.harts h ≡ Some (fetched_with word hart)
  there = in_try_there s h word hart f.finds.rests.there

  holding : holds held h (write_at va width) ≡ true
  holding = let self = same_number h in ap (holds_page h) found_held ∙ self

  -- the page is taken and written, and the try ends
  write_unit : (journals : JournalsKeepSound) (event : Event) (k g : HartState → HartState) (got value : ℕ) → is_lost (Some w) hart.reservation ≡ false → takes_for (Some w) (trying s h word (met_behind s hart (page_of va))) (fetched_with word hart) (write_at va width) page ≡ true
      → Makes deltas held h event (change_hart (change_page held (page_of va) (put_with (va % PAGE_SIZE) width value)) h k) → Leaves word inst (write_at va width) (fetched_with word hart) k g hart got → (k (fetched_with word hart)).put ≡ true → ((hart : HartState) → (g hart).fetched ≡ None)
      → IsLegalUnit deltas s h (access_events s hart word va (Take (page_of va) ∷ event ∷ End (meaning_of inst hart.arch got).pc ∷ [])) (change_hart (bytes_written (now_met s h hart (page_of va)) va width value) h g)
  write_unit journals event k g got value kept takes makes leaves puts over =
      let r = f.finds.rests.rests in
      let n : ℕ = page_of va in
      let access : Access = write_at va width in
      let met : List (ℕ × ℕ) = met_behind s hart n in
      let new : FlatState = change_hart (bytes_written (met_as s met) va width value) h g in
      let rest : List Event = event ∷ End (meaning_of inst hart.arch got).pc ∷ [] in
      data_unit deltas s h hart word inst w access f e journals page d right kept (Take n ∷ rest) (λ s. bytes_written s va width value) g r.no_one refl (written_stays s.limits.last_writes (va % PAGE_SIZE) width value n s.pages r.free) over
      (take_first deltas s h hart word inst w access met f page d rest new e right (has_met_behind s hart n) takes
      (written_rest deltas s h hart word inst w access met f page d event k g got value makes leaves puts))

  -- low bytes of a value are put
  put_makes : (value : ℕ) → put_of (Some w) ≡ Some value → Makes deltas held h (Put va width (value % 2 ^ (8 * width))) (change_hart (change_page held (page_of va) (put_with (va % PAGE_SIZE) width (value % 2 ^ (8 * width)))) h written_by)
  put_makes value puts =
      let x : HartState = fetched_with word hart in
      let low : ℕ = value % 2 ^ (8 * width) in
      let t = tries deltas s h hart word inst w (write_at va width) f e in
      let whole : IsSomeAnd (put_of (want_in x)) (λ whole. low ≡ whole % 2 ^ (8 * width)) = and_some (put_of (want_in x)) (λ whole. low ≡ whole % 2 ^ (8 * width)) value (ap put_of t.wants ∙ puts) refl in
      let may : MayPut held h x va width low = (t.accesses, holding, refl, refl, whole) in
      record { may = and_some (slice_get held.harts h) _ x there (f.finds.runs, may); unended = refl; stays = λ deltas s h inside. rw inside refl; changed = refl }

  pub put_unit : (journals : JournalsKeepSound) (g : HartState → HartState) (value : ℕ) → put_of (Some w) ≡ Some value → is_lost (Some w) hart.reservation ≡ false → takes_for (Some w) (trying s h word (met_behind s hart (page_of va))) (fetched_with word hart) (write_at va width) page ≡ true
      → ((arch : ArchState) → arch ≡ meaning_of inst hart.arch 0 → record (try_passed hart) { looked = Some 0; put = true; reservation = if is_conditional (Some w) then None else hart.reservation; arch = arch } ≡ g hart) → ((hart : HartState) → (g hart).fetched ≡ None)
      → IsLegalUnit deltas s h (access_events s hart word va (put_events hart inst va width (value % 2 ^ (8 * width)))) (change_hart (bytes_written (now_met s h hart (page_of va)) va width (value % 2 ^ (8 * width))) h g)
  put_unit journals g value puts kept takes is over = write_unit journals (Put va width (value % 2 ^ (8 * width))) written_by g 0 (value % 2 ^ (8 * width)) kept takes (put_makes value puts) (put_leaves deltas s h hart word inst w va width f e ends other g is) refl over

pub store_unit : (journals : JournalsKeepSound) (deltas : List DeltaValue) (s : FlatState) (h : ℕ) (hart : HartState) (word : ℕ) (inst : Inst) (va width value : ℕ) (page : PageState) → FindsInst deltas s h hart word inst (want.Put va width value) → FindsData s hart va page → page.write ≡ true
    → IsLegalUnit deltas s h (access_events s hart word va (put_events hart inst va width (value % 2 ^ (8 * width)))) (change_hart (bytes_written (now_met s h hart (page_of va)) va width (value % 2 ^ (8 * width))) h (hart_wrote inst 0))
store_unit journals deltas s h hart word inst va width value page f d right =
    put_unit deltas s h hart word inst (want.Put va width value) va width f refl (λ x. refl) (λ e. cc) page d right journals (hart_wrote inst 0) value refl refl refl
    (λ arch is. ap (λ (a : ArchState). (let k : HartState = record (try_passed hart) { looked = Some 0; put = true; arch = a } in k)) is) (λ hart. refl)

reserved_of : (o : Option Reservation) (access : Access) (page : PageState) → stands o access page ≡ true → has_reserved o access.va access.width ≡ true
reserved_of None access page e = absurd (cc)
reserved_of (Some r) access page e = by_test (has_reserved (Some r) access.va access.width) (r.birth == page.birth) (r.writes == page.writes) e
  where
    by_test : (a b c : Bool) → (a && b && c) ≡ true → a ≡ true
    by_test true b c e = refl
    by_test false b c e = absurd (cc)

pub conditional_unit : (journals : JournalsKeepSound) (deltas : List DeltaValue) (s : FlatState) (h : ℕ) (hart : HartState) (word : ℕ) (inst : Inst) (va width value : ℕ) (page : PageState) → FindsInst deltas s h hart word inst (want.PutIf va width value) → FindsData s hart va page → page.write ≡ true → stands hart.reservation (write_at va width) page ≡ true
    → IsLegalUnit deltas s h (access_events s hart word va (put_events hart inst va width (value % 2 ^ (8 * width)))) (change_hart (bytes_written (now_met s h hart (page_of va)) va width (value % 2 ^ (8 * width))) h (hart_put_if inst))
conditional_unit journals deltas s h hart word inst va width value page f d right standing =
    put_unit deltas s h hart word inst (want.PutIf va width value) va width f refl (λ x. refl) (λ e. cc) page d right journals (hart_put_if inst) value refl (ap not (reserved_of hart.reservation (write_at va width) page standing)) standing
    (λ arch is. ap (λ (a : ArchState). (let k : HartState = record (try_passed hart) { looked = Some 0; put = true; reservation = None; arch = a } in k)) is) (λ hart. refl)

-- an atomic memory operation
pub swap_leaves : (deltas : List DeltaValue) (s : FlatState) (h : ℕ) (hart : HartState) (word : ℕ) (inst : Inst) (va width value old : ℕ) (op : AmoOp) → FindsInst deltas s h hart word inst (want.Swap va width op value) → Leaves word inst (write_at va width) (fetched_with word hart) (swapped_by old) (hart_wrote inst old) hart old
swap_leaves deltas s h hart word inst va width value old op f =
    let w : Want = want.Swap va width op value in
    let y : HartState = swapped_by old (fetched_with word hart) in
    let now : want_in y ≡ Some w = want_there y word inst w refl f.is_inst f.wants in
    let arch : arch_after y ≡ meaning_of inst hart.arch old = arch_there y word inst w refl f.is_inst f.wants (λ e. cc) in
    record {
      runs = f.finds.runs;
      accesses = ap access_of now;
      done = ap (is_done y) now;
      arch = arch;
      ends = ap (λ (a : ArchState). (let k : HartState = record (try_passed hart) { looked = Some old; put = true; arch = a } in k)) arch;
    }

pub swap_unit : (journals : JournalsKeepSound) (deltas : List DeltaValue) (s : FlatState) (h : ℕ) (hart : HartState) (word : ℕ) (inst : Inst) (va width value old new : ℕ) (op : AmoOp) (page : PageState) → FindsInst deltas s h hart word inst (want.Swap va width op value) → FindsData s hart va page → page.write ≡ true
    → old ≡ number_in page.words (va % PAGE_SIZE) width → new ≡ amo_of op (width == 8) old value
    → IsLegalUnit deltas s h (access_events s hart word va (swap_events hart inst va width old new)) (change_hart (bytes_written (now_met s h hart (page_of va)) va width new) h (hart_wrote inst old))
swap_unit journals deltas s h hart word inst va width value old new op page f d right reads makes =
    let w : Want = want.Swap va width op value in
    let x : HartState = fetched_with word hart in
    let t = tries deltas s h hart word inst w (write_at va width) f refl in
    let other : w ≢ want.Call = λ e. cc in
    let u : FlatState = held deltas s h hart word inst w va width f refl (λ x. refl) other page d right in
    let found = found_held deltas s h hart word inst w va width f refl (λ x. refl) other page d right in
    let bytes : IsSomeAnd (accessed_data u (write_at va width)) (λ page. old ≡ number_in page.words (va % PAGE_SIZE) width) = and_some (accessed_data u (write_at va width)) (λ page. old ≡ number_in page.words (va % PAGE_SIZE) width) (taken_by h page) found reads in
    let makes_it : swap_of (want_in x) old ≡ Some new = ap (λ (o : Option Want). swap_of o old) t.wants ∙ ap Some (sym makes) in
    let may : MaySwap u h x va width old new = (t.accesses, holding deltas s h hart word inst w va width f refl (λ x. refl) other page d right, refl, refl, bytes, makes_it) in
    write_unit deltas s h hart word inst w va width f refl (λ x. refl) other page d right journals (Swap va width old new) (swapped_by old) (hart_wrote inst old) old new refl refl
    (record { may = and_some (slice_get u.harts h) _ x (in_try_there s h word hart f.finds.rests.there) (f.finds.runs, may); unended = refl; stays = λ deltas s h inside. rw inside refl; changed = refl })
    (swap_leaves deltas s h hart word inst va width value old op f) refl (λ hart. refl)

-- a store-conditional that misses
module _ (deltas : List DeltaValue) (s : FlatState) (h : ℕ) (hart : HartState) (word : ℕ) (inst : Inst) (va width value : ℕ) (f : FindsInst deltas s h hart word inst (want.PutIf va width value)) where
  pub miss_leaves : Leaves word inst (write_at va width) (fetched_with word hart) missed (hart_missed inst) hart 1
  miss_leaves =
      let w : Want = want.PutIf va width value in
      let y : HartState = missed (fetched_with word hart) in
      let now : want_in y ≡ Some w = want_there y word inst w refl f.is_inst f.wants in
      let arch : arch_after y ≡ meaning_of inst hart.arch 1 = arch_there y word inst w refl f.is_inst f.wants (λ e. cc) in
      record {
        runs = f.finds.runs;
        accesses = ap access_of now;
        done = ap (is_done y) now ∙ ap is_conditional now;
        arch = arch;
        ends = ap (λ (a : ArchState). (let k : HartState = record (try_passed hart) { looked = Some 1; reservation = None; arch = a } in k)) arch;
      }

  miss_makes : (u : FlatState) → slice_get u.harts h ≡ Some (fetched_with word hart) → AllByRecursion IsSettled u.pages → misses u (fetched_with word hart) (write_at va width) ≡ true → Makes deltas u h (Miss va) (change_hart u h missed)
  miss_makes u there free miss =
      let x : HartState = fetched_with word hart in
      let t = tries deltas s h hart word inst (want.PutIf va width value) (write_at va width) f refl in
      let own : MayMiss u h x (Some (write_at va width)) va = (refl, ap is_conditional t.wants, refl, not_held u h (write_at va width) free, miss) in
      let may : MayMiss u h x (access_in x) va = subst (λ (o : Option Access). MayMiss u h x o va) (sym t.accesses) own in
      record { may = and_some (slice_get u.harts h) _ x there (f.finds.runs, may); unended = refl; stays = λ deltas s h inside. rw inside refl; changed = refl }

  pub lost_conditional_unit : (journals : JournalsKeepSound) → has_reserved hart.reservation va width ≡ false → IsLegalUnit deltas s h (Fetch hart.arch.pc word ∷ miss_events hart inst va) (change_hart s h (hart_missed inst))
  lost_conditional_unit journals lost =
      let r = f.finds.rests.rests in
      let w : Want = want.PutIf va width value in
      let access : Access = write_at va width in
      let x : HartState = fetched_with word hart in
      let t : FlatState = trying s h word s.met in
      let tr = tries deltas s h hart word inst w access f refl in
      let is : is_lost (want_in x) hart.reservation ≡ true = ap (λ (o : Option Want). is_lost o hart.reservation) tr.wants ∙ ap not lost in
      let miss : misses t x access ≡ true = or_first (is_lost (want_in x) hart.reservation) (not (is_some (accessed_text t x access)) && misses_page t x access (accessed_data t access)) is in
      let rest = answered_rest deltas s h hart word inst w access s.met f (Miss va) missed (hart_missed inst) 1 (miss_makes t (in_try_there s h word hart f.finds.rests.there) r.free miss) miss_leaves in
      let new : FlatState = change_hart s h (hart_missed inst) in
      unit_rests journals deltas s h (Fetch hart.arch.pc word ∷ miss_events hart inst va) new f.finds.rests.sound (fetch_first deltas s h hart word (miss_events hart inst va) new f.finds rest)
      r.no_one (none_tries s.harts h (hart_missed inst) r.no_try (λ hart. refl)) (settled_stays s.pages r.free)

  pub missed_conditional_unit : (journals : JournalsKeepSound) (page : PageState) → FindsData s hart va page → page.write ≡ true → has_reserved hart.reservation va width ≡ true → stands hart.reservation (write_at va width) page ≡ false
      → IsLegalUnit deltas s h (access_events s hart word va (miss_events hart inst va)) (change_hart (now_met s h hart (page_of va)) h (hart_missed inst))
  missed_conditional_unit journals page d right reserved standing =
      let r = f.finds.rests.rests in
      let w : Want = want.PutIf va width value in
      let access : Access = write_at va width in
      let n : ℕ = page_of va in
      let met : List (ℕ × ℕ) = met_behind s hart n in
      let x : HartState = fetched_with word hart in
      let t : FlatState = trying s h word met in
      let known : has_met met hart.generation page.number ≡ true = ap (has_met met hart.generation) (data_number s.pages n page d.there) ∙ has_met_behind s hart n in
      let in_reach : is_reached t x access page ≡ true = reached t x access page (settled_page s.pages n page r.free d.there) known right in
      let at_page : misses_page t x access (Some page) ≡ true = rw (in_reach, standing) refl in
      let none : accessed_text t x access ≡ None = d.no_text in
      let later : (not (is_some (accessed_text t x access)) && misses_page t x access (accessed_data t access)) ≡ true = rw none (ap (misses_page t x access) d.there ∙ at_page) in
      let miss : misses t x access ≡ true = or_self (is_lost (want_in x) hart.reservation) (not (is_some (accessed_text t x access)) && misses_page t x access (accessed_data t access)) later in
      data_unit deltas s h hart word inst w access f refl journals page d right (ap not reserved) (miss_events hart inst va) (λ s. s) (hart_missed inst) r.no_one refl (settled_stays s.pages r.free) (λ hart. refl)
      (answered_rest deltas s h hart word inst w access met f (Miss va) missed (hart_missed inst) 1 (miss_makes t (in_try_there s h word hart f.finds.rests.there) r.free miss) miss_leaves)
