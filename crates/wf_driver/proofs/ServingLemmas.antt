-- What the steps of an access may rely on, from what was found.
use Rattle.std.proofs.Common.{◌≡◌, ◌≢◌, ◌%◌, ℕ, List, [], ◌∷◌, Option, Some, None, Bool, true, false, refl, sym, subst, ap, ◌∙◌}
use Rattle.std.specs.Prelude.{IsSomeAnd, IfSome, slice_get, ◌*◌, ◌^◌, ◌==◌, ◌||◌, ◌&&◌, not, is_some, nat_lt, if◌then◌else◌}
use Rattle.std.specs.Option.{option_map}
use Rattle.std.specs.List.{AllByRecursion}
use Rattle.rv_alu.specs.declared.op.AmoOp.{AmoOp}
use Rattle.rv_alu.specs.Arithmetic.{amo_of}
use Rattle.rv_inst.specs.declared.inst.Inst.{Inst}
use Rattle.rv_inst.specs.declared.want.Want.{Want}
use Rattle.rv_inst.specs.Arch.{ArchState}
use Rattle.rv_inst.specs.Meanings.{want_of}
use Rattle.wf_outside.specs.Pages.{PageValue, page_of}
use Rattle.wf_flat.specs.declared.event.Event.TheVariants as events
use Rattle.wf_flat.specs.declared.state.Life.TheVariants.{Running}
use Rattle.wf_flat.specs.declared.state.Reservation.{Reservation}
use Rattle.wf_flat.specs.State.{FlatState, HartState, PageState}
use Rattle.wf_flat.specs.Memory.{page_in, data_in, number_in, has_met, with_met}
use Rattle.wf_flat.specs.Serving.{held_by}
use Rattle.wf_flat.specs.Accesses.{Access, access_of, holds, holds_page, is_open, is_reached, stands, generation_text, accessed_text, accessed_data, has_right}
use Rattle.wf_flat.specs.Steps.{OfHart, MayLook, MayTake, MayPut, MaySwap, MayMiss, Reads, access_in, want_in, is_conditional, is_lost, misses, takes_for, put_of, swap_of}
use Rattle.wf_flat.specs.Changes.{reserves, taken_by}
use Rattle.wf_flat.specs.declared.state.Stage.TheVariants.{Here}
use Rattle.wf_verdict.specs.declared.work.Todo.TheVariants.{Exactly}
use Rattle.wf_legal.specs.Calls.{todo_of_page}
use Rattle.wf_driver.specs.declared.finding.Found.{Found}
use Rattle.wf_driver.specs.declared.actions.Operand.{Operand}
use Rattle.wf_driver.specs.declared.actions.Write.{Write}
use Rattle.wf_driver.specs.declared.actions.Write.TheVariants.{Put, PutIf, Swap}
use Rattle.wf_service.specs.Resting.{IsSettled}
use Rattle.wf_driver.specs.Stepping.{IsTrying, IsLoad, IsStore, IsFoundPage, IsPageToSync, IsMeeting, IsToDo, IsNear, WillReach, WillWrite, load_at, store_at, load_want, put_by, store_want}
use Rattle.wf_flat.proofs.ListLemmas.{some_and, and_some}
use Rattle.wf_driver.proofs.StepLemmas.{both, each}
use Rattle.wf_flat.proofs.FoundLemmas.{data_number}
use Rattle.wf_driver.proofs.AccessLemmas.{wanted, accessed, found_free, not_held, fault_asked, fault_calls, faults, barred_by, text_bars, todo_in_text, todo_without_text, reach, free_reads, held_reads, free_taken}
use Rattle.wf_driver.proofs.MakingLemmas.{still_in, held_page, holds_by, met_now}

-- no text of the hart's generation is at the address
abbrev pub IsTextless : FlatState → ℕ → ℕ → Type 0
IsTextless s h va = OfHart s h (λ hart. page_in (generation_text s hart.generation) (page_of va) ≡ None)

-- what the hart wants is no store-conditional that misses wherever it points
abbrev pub IsKept : FlatState → ℕ → Type 0
IsKept s h = OfHart s h (λ hart. is_lost (want_in hart) hart.reservation ≡ false)

-- the accesses of a load and of a write, and what they want
pub load_access : (arch : ArchState) (operand : Operand) (reserving : Bool) → IsLoad arch operand reserving → access_of (Some (want_of operand.inst arch)) ≡ Some (load_at operand)
load_access arch operand reserving load = ap (λ (w : Want). access_of (Some w)) load.0 ∙ by_test reserving
  where
    by_test : (b : Bool) → access_of (Some (load_want operand b)) ≡ Some (load_at operand)
    by_test true = refl
    by_test false = refl

pub store_access : (arch : ArchState) (operand : Operand) (write : Write) → IsStore arch operand write → access_of (Some (want_of operand.inst arch)) ≡ Some (store_at operand)
store_access arch operand write store = ap (λ (w : Want). access_of (Some w)) store.0 ∙ by_write write
  where
    by_write : (write : Write) → access_of (Some (store_want operand write)) ≡ Some (store_at operand)
    by_write (Put value) = refl
    by_write (PutIf value) = refl
    by_write (Swap op value) = refl

wants : (s : FlatState) (h : ℕ) (arch : ArchState) (inst : Inst) (w : Want) (P : Option Want → Type 0) → want_of inst arch ≡ w → OfHart s h (IsTrying arch inst) → P (Some w) → OfHart s h (λ hart. P (want_in hart))
wants s h arch inst w P e ready p =
    each (slice_get s.harts h) (IsTrying arch inst) (λ (hart : HartState). P (want_in hart)) (λ hart is t. subst P (sym (wanted arch inst hart t.1 t.2 ∙ ap Some e)) p) ready

pub load_kind : (s : FlatState) (h : ℕ) (arch : ArchState) (operand : Operand) (reserving : Bool) → IsLoad arch operand reserving → OfHart s h (IsTrying arch operand.inst) → OfHart s h (λ hart. reserves (want_in hart) ≡ reserving)
load_kind s h arch operand reserving load ready = wants s h arch operand.inst (load_want operand reserving) (λ (w : Option Want). reserves w ≡ reserving) load.0 ready (by_test reserving)
  where
    by_test : (b : Bool) → reserves (Some (load_want operand b)) ≡ b
    by_test true = refl
    by_test false = refl

pub load_kept : (s : FlatState) (h : ℕ) (arch : ArchState) (operand : Operand) (reserving : Bool) → IsLoad arch operand reserving → OfHart s h (IsTrying arch operand.inst) → IsKept s h
load_kept s h arch operand reserving load ready =
    each (slice_get s.harts h) (IsTrying arch operand.inst) (λ (hart : HartState). is_lost (want_in hart) hart.reservation ≡ false)
    (λ hart is t. ap (λ (w : Option Want). is_lost w hart.reservation) (wanted arch operand.inst hart t.1 t.2 ∙ ap Some load.0) ∙ by_test hart.reservation reserving) ready
  where
    by_test : (o : Option Reservation) (b : Bool) → is_lost (Some (load_want operand b)) o ≡ false
    by_test o true = refl
    by_test o false = refl

-- a write that is not lost
pub store_kept : (s : FlatState) (h : ℕ) (arch : ArchState) (operand : Operand) (write : Write) → IsStore arch operand write → OfHart s h (IsTrying arch operand.inst) → WillReach s h operand write → IsKept s h
store_kept s h arch operand write store ready reaches =
    each (slice_get s.harts h) (λ (hart : HartState). IsTrying arch operand.inst hart × (is_lost (Some (store_want operand write)) hart.reservation ≡ false)) (λ (hart : HartState). is_lost (want_in hart) hart.reservation ≡ false)
    (λ hart is t. ap (λ (w : Option Want). is_lost w hart.reservation) (wanted arch operand.inst hart t.0.1 t.0.2 ∙ ap Some store.0) ∙ t.1) (both (slice_get s.harts h) _ _ ready reaches)

pub reaches : (s : FlatState) (h : ℕ) (operand : Operand) (write : Write) (lost : Bool) → OfHart s h (λ hart. lost ≡ is_lost (Some (store_want operand write)) hart.reservation) → lost ≡ false → WillReach s h operand write
reaches s h operand write lost is e =
    each (slice_get s.harts h) (λ (hart : HartState). lost ≡ is_lost (Some (store_want operand write)) hart.reservation) (λ (hart : HartState). is_lost (Some (store_want operand write)) hart.reservation ≡ false) (λ hart there l. sym l ∙ e) is

-- text at the address, or none
mapped_none : {A B : Type 0} (f : A → B) (o : Option A) → None ≡ option_map f o → o ≡ None
mapped_none f None e = refl
mapped_none f (Some x) e = absurd (cc)

pub textless : (s : FlatState) (h va width : ℕ) (value : Option ℕ) → OfHart s h (λ hart. value ≡ option_map (λ (page : PageValue). number_in page.words (va % 4096) width) (page_in (generation_text s hart.generation) (page_of va))) → value ≡ None → IsTextless s h va
textless s h va width value read none =
    each (slice_get s.harts h) (λ (hart : HartState). value ≡ option_map (λ (page : PageValue). number_in page.words (va % 4096) width) (page_in (generation_text s hart.generation) (page_of va))) (λ (hart : HartState). page_in (generation_text s hart.generation) (page_of va) ≡ None)
    (λ hart is e. mapped_none (λ (page : PageValue). number_in page.words (va % 4096) width) (page_in (generation_text s hart.generation) (page_of va)) (sym none ∙ e)) read

mapped_some : {A B : Type 0} (f : A → B) (o : Option A) → is_some (option_map f o) ≡ true → o ≢ None
mapped_some f None e = absurd (cc)
mapped_some f (Some x) e = λ c. cc

pub textful : (s : FlatState) (h va width : ℕ) (value : Option ℕ) → OfHart s h (λ hart. value ≡ option_map (λ (page : PageValue). number_in page.words (va % 4096) width) (page_in (generation_text s hart.generation) (page_of va))) → is_some value ≡ true
    → OfHart s h (λ hart. page_in (generation_text s hart.generation) (page_of va) ≢ None)
textful s h va width value read some =
    each (slice_get s.harts h) (λ (hart : HartState). value ≡ option_map (λ (page : PageValue). number_in page.words (va % 4096) width) (page_in (generation_text s hart.generation) (page_of va))) (λ (hart : HartState). page_in (generation_text s hart.generation) (page_of va) ≢ None)
    (λ hart is e. mapped_some (λ (page : PageValue). number_in page.words (va % 4096) width) (page_in (generation_text s hart.generation) (page_of va)) (sym (ap is_some e) ∙ some)) read

pub is_none : (o : Option ℕ) → false ≡ is_some o → o ≡ None
is_none None e = refl
is_none (Some x) e = absurd (cc)

pub is_below : (b : Bool) → false ≡ not b → b ≡ true
is_below true e = refl
is_below false e = absurd (cc)

not_last : (b : Bool) → true ≡ not b → b ≡ false
not_last true e = absurd (cc)
not_last false e = refl

-- an access that is barred traps: to no page
pub missing : (s : FlatState) (h : ℕ) (arch : ArchState) (inst : Inst) (access : Access) → AllByRecursion IsSettled s.pages → OfHart s h (IsTrying arch inst) → IsKept s h → access_of (Some (want_of inst arch)) ≡ Some access → IsTextless s h access.va
    → data_in s.pages (page_of access.va) ≡ None → OfHart s h (λ hart. IsToDo s h hart (Exactly (events.Trap (if access.write then 15 else 13) access.va) ∷ []))
missing s h arch inst access free ready kept e text none =
    each (slice_get s.harts h) (λ (hart : HartState). (IsTrying arch inst hart × (is_lost (want_in hart) hart.reservation ≡ false)) × (page_in (generation_text s hart.generation) (page_of access.va) ≡ None))
    (λ (hart : HartState). IsToDo s h hart (Exactly (events.Trap (if access.write then 15 else 13) access.va) ∷ []))
    (λ hart is t. (
      t.0.0.0,
      fault_calls s h hart access (fault_asked s h hart arch inst access free t.0.0 t.0.1 e (barred_by s hart access t.1 (ap (is_open s hart access) none))),
      λ deltas. faults s h hart access (fault_asked s h hart arch inst access free t.0.0 t.0.1 e (barred_by s hart access t.1 (ap (is_open s hart access) none))) deltas ∙ todo_without_text s hart access t.1 ∙ rw none refl,
    )) (both (slice_get s.harts h) _ _ (both (slice_get s.harts h) _ _ ready kept) text)

-- to text, which is not written
pub in_text : (s : FlatState) (h : ℕ) (arch : ArchState) (inst : Inst) (access : Access) → AllByRecursion IsSettled s.pages → OfHart s h (IsTrying arch inst) → IsKept s h → access_of (Some (want_of inst arch)) ≡ Some access
    → OfHart s h (λ hart. page_in (generation_text s hart.generation) (page_of access.va) ≢ None) → access.write ≡ true → OfHart s h (λ hart. IsToDo s h hart (Exactly (events.Trap 15 access.va) ∷ []))
in_text s h arch inst access free ready kept e text writes =
    each (slice_get s.harts h) (λ (hart : HartState). (IsTrying arch inst hart × (is_lost (want_in hart) hart.reservation ≡ false)) × (page_in (generation_text s hart.generation) (page_of access.va) ≢ None))
    (λ (hart : HartState). IsToDo s h hart (Exactly (events.Trap 15 access.va) ∷ []))
    (λ hart is t. (
      t.0.0.0,
      fault_calls s h hart access (fault_asked s h hart arch inst access free t.0.0 t.0.1 e (text_bars s hart access t.1 writes)),
      λ deltas. faults s h hart access (fault_asked s h hart arch inst access free t.0.0 t.0.1 e (text_bars s hart access t.1 writes)) deltas ∙ todo_in_text s hart access t.1 ∙ ap (λ (b : Bool). Exactly (events.Trap (if b then 15 else 13) access.va) ∷ []) writes,
    )) (both (slice_get s.harts h) _ _ (both (slice_get s.harts h) _ _ ready kept) text)

-- to a page that may not be written
and_false : (a b : Bool) → (a && b && false) ≡ false
and_false true true = refl
and_false true false = refl
and_false false b = refl

pub denied : (s : FlatState) (h : ℕ) (arch : ArchState) (inst : Inst) (access : Access) (found : Found) → AllByRecursion IsSettled s.pages → OfHart s h (IsTrying arch inst) → IsKept s h → access_of (Some (want_of inst arch)) ≡ Some access → IsTextless s h access.va
    → IsFoundPage s (page_of access.va) found → access.write ≡ true → not found.write ≡ true → OfHart s h (λ hart. IsToDo s h hart (Exactly (events.Trap 15 access.va) ∷ []))
denied s h arch inst access found free ready kept e text found_is writes denies =
    let d = some_and (data_in s.pages (page_of access.va)) _ found_is in
    let here = found_free s.pages (page_of access.va) d.0 free d.1 in
    let no : d.0.write ≡ false = sym d.2.1 ∙ not_last found.write (sym denies) in
    let right : has_right access d.0 ≡ false = rw (writes, no) refl in
    each (slice_get s.harts h) (λ (hart : HartState). (IsTrying arch inst hart × (is_lost (want_in hart) hart.reservation ≡ false)) × (page_in (generation_text s hart.generation) (page_of access.va) ≡ None))
    (λ (hart : HartState). IsToDo s h hart (Exactly (events.Trap 15 access.va) ∷ []))
    (λ hart is t. (
      t.0.0.0,
      fault_calls s h hart access (fault_asked s h hart arch inst access free t.0.0 t.0.1 e (barred_by s hart access t.1 (rw d.1 (rw (here.0, right) (and_false true (has_met s.met hart.generation d.0.number)))))),
      λ deltas. faults s h hart access (fault_asked s h hart arch inst access free t.0.0 t.0.1 e (barred_by s hart access t.1 (rw d.1 (rw (here.0, right) (and_false true (has_met s.met hart.generation d.0.number)))))) deltas
          ∙ todo_without_text s hart access t.1 ∙ rw d.1 (rw (here.0, right, writes) refl),
    )) (both (slice_get s.harts h) _ _ (both (slice_get s.harts h) _ _ ready kept) text)

todo_sync : (s : FlatState) (hart : HartState) (access : Access) (page : PageState) → accessed_data s access ≡ Some page → page.stage ≡ Here → has_right access page ≡ true → has_met s.met hart.generation page.number ≡ false
    → todo_of_page s hart access (accessed_data s access) ≡ Exactly (events.Sync hart.generation page.number) ∷ []
todo_sync s hart access page is here right page_to_sync = rw is (rw (here, right, page_to_sync) refl)

-- a page that was not met is met first
pub meets : (s : FlatState) (h : ℕ) (arch : ArchState) (inst : Inst) (access : Access) (found : Found) (met : Option (List (ℕ × ℕ))) → AllByRecursion IsSettled s.pages → OfHart s h (IsTrying arch inst) → IsKept s h → access_of (Some (want_of inst arch)) ≡ Some access
    → IsTextless s h access.va → IsFoundPage s (page_of access.va) found → ((page : PageState) → page.write ≡ found.write → has_right access page ≡ true) → IsPageToSync s h access.va met → IsMeeting s h found.page met
meets s h arch inst access found None free ready kept e text found_is right page_to_sync =
    let d = some_and (data_in s.pages (page_of access.va)) _ found_is in
    let met : OfHart s h (λ hart. has_met s.met hart.generation d.0.number ≡ true) = subst (λ (o : Option PageState). IfSome o (λ page. OfHart s h (λ hart. has_met s.met hart.generation page.number ≡ true))) d.1 page_to_sync in
    subst (λ (n : ℕ). OfHart s h (λ hart. has_met s.met hart.generation n ≡ true)) (sym d.2.0) met
meets s h arch inst access found (Some met) free ready kept e text found_is right page_to_sync =
    let d = some_and (data_in s.pages (page_of access.va)) _ found_is in
    let here = found_free s.pages (page_of access.va) d.0 free d.1 in
    let may : has_right access d.0 ≡ true = right d.0 (sym d.2.1) in
    let u : OfHart s h (λ hart. (has_met s.met hart.generation d.0.number ≡ false) × (met ≡ with_met s.met hart.generation d.0.number))
    = subst (λ (o : Option PageState). IsSomeAnd o (λ page. OfHart s h (λ hart. (has_met s.met hart.generation page.number ≡ false) × (met ≡ with_met s.met hart.generation page.number)))) d.1 page_to_sync.0 in
    let asks : OfHart s h (λ hart. IsToDo s h hart (Exactly (events.Sync hart.generation d.0.number) ∷ []) × (met ≡ with_met s.met hart.generation d.0.number))
    = each (slice_get s.harts h)
    (λ (hart : HartState). ((IsTrying arch inst hart × (is_lost (want_in hart) hart.reservation ≡ false)) × (page_in (generation_text s hart.generation) (page_of access.va) ≡ None)) × ((has_met s.met hart.generation d.0.number ≡ false) × (met ≡ with_met s.met hart.generation d.0.number)))
    (λ (hart : HartState). IsToDo s h hart (Exactly (events.Sync hart.generation d.0.number) ∷ []) × (met ≡ with_met s.met hart.generation d.0.number))
    (λ hart is t. (
      (
        t.0.0.0.0,
        fault_calls s h hart access (fault_asked s h hart arch inst access free t.0.0.0 t.0.0.1 e (barred_by s hart access t.0.1 (rw d.1 (rw (here.0, t.1.0) refl)))),
        λ deltas. faults s h hart access (fault_asked s h hart arch inst access free t.0.0.0 t.0.0.1 e (barred_by s hart access t.0.1 (rw d.1 (rw (here.0, t.1.0) refl)))) deltas
            ∙ todo_without_text s hart access t.0.1 ∙ todo_sync s hart access d.0 d.1 here.0 may t.1.0,
      ),
      t.1.1,
    )) (both (slice_get s.harts h) _ _ (both (slice_get s.harts h) _ _ (both (slice_get s.harts h) _ _ ready kept) text) u) in
    (subst (λ (n : ℕ). OfHart s h (λ hart. IsToDo s h hart (Exactly (events.Sync hart.generation n) ∷ []) × (met ≡ with_met s.met hart.generation n))) (sym d.2.0) asks, page_to_sync.1)

-- what is met then has been met
pub meets_now : (s new : FlatState) (h generation page : ℕ) → OfHart s h (λ hart. generation ≡ hart.generation) → new.harts ≡ s.harts → new.met ≡ with_met s.met generation page → OfHart new h (λ hart. has_met new.met hart.generation page ≡ true)
meets_now s new h generation page own harts met =
    let w = some_and (slice_get s.harts h) _ own in
    let now : has_met new.met w.0.generation page ≡ true = rw (met, ← w.2) (met_now s.met generation page) in
    and_some (slice_get new.harts h) _ w.0 (ap (λ (xs : List HartState). slice_get xs h) harts ∙ w.1) now

-- where a page was met, no text is at the address, and the page is near
pub near : (s new : FlatState) (h va page : ℕ) → IsTextless s h va → new.gens ≡ s.gens → new.harts ≡ s.harts → OfHart new h (λ hart. has_met new.met hart.generation page ≡ true) → IsNear new h va page
near s new h va page text gens harts met = both (slice_get new.harts h) _ _ (rw (harts, gens) text) met

-- the page of an access to a free page is not held
pub free_held : (s : FlatState) (h : ℕ) (access : Access) → AllByRecursion IsSettled s.pages → None ≡ held_by s h (Some access)
free_held s h access free = let none : holds s h access ≡ false = not_held s h access free in rw none refl

-- a load from text looks at it
reads_text : (s : FlatState) (h va width value : ℕ) (hart : HartState) (access : Access) (o : Option PageValue) → access.va ≡ va → access.width ≡ width → option_map (λ (page : PageValue). number_in page.words (va % 4096) width) o ≡ Some value → Reads s h hart access o value
reads_text s h va width value hart access None a w e = absurd (cc)
reads_text s h va width value hart access (Some page) a w e = rw (a, w) (cc)

pub text_looks : (s : FlatState) (h value : ℕ) (arch : ArchState) (operand : Operand) (reserving : Bool) → IsLoad arch operand reserving → OfHart s h (IsTrying arch operand.inst)
    → OfHart s h (λ hart. option_map (λ (page : PageValue). number_in page.words (operand.va % 4096) operand.width) (page_in (generation_text s hart.generation) (page_of operand.va)) ≡ Some value)
    → OfHart s h (λ hart. (hart.life ≡ Running) × MayLook s h hart operand.va operand.width value)
text_looks s h value arch operand reserving load ready read =
    each (slice_get s.harts h)
    (λ (hart : HartState). IsTrying arch operand.inst hart × (option_map (λ (page : PageValue). number_in page.words (operand.va % 4096) operand.width) (page_in (generation_text s hart.generation) (page_of operand.va)) ≡ Some value))
    (λ (hart : HartState). (hart.life ≡ Running) × MayLook s h hart operand.va operand.width value)
    (λ hart is t. (
      t.0.0,
      (
        accessed arch operand.inst hart (load_at operand) t.0 (load_access arch operand reserving load),
        t.0.3,
        reads_text s h operand.va operand.width value hart (load_at operand) (accessed_text s hart (load_at operand)) refl refl t.1,
      ),
    )) (both (slice_get s.harts h) _ _ ready read)

-- below the last count of writes a load looks at once
pub free_looks : (s : FlatState) (h value : ℕ) (arch : ArchState) (operand : Operand) (reserving : Bool) (found : Found) → AllByRecursion IsSettled s.pages → IsLoad arch operand reserving → OfHart s h (IsTrying arch operand.inst) → IsFoundPage s (page_of operand.va) found
    → IsNear s h operand.va found.page → found.last ≡ false → IfSome (data_in s.pages (page_of operand.va)) (λ page. value ≡ number_in page.words (operand.va % 4096) operand.width)
    → OfHart s h (λ hart. (hart.life ≡ Running) × MayLook s h hart operand.va operand.width value)
free_looks s h value arch operand reserving found free load ready found_is near below read =
    let d = some_and (data_in s.pages (page_of operand.va)) _ found_is in
    let value_is : value ≡ number_in d.0.words (operand.va % 4096) operand.width = subst (λ (o : Option PageState). IfSome o (λ page. value ≡ number_in page.words (operand.va % 4096) operand.width)) d.1 read in
    let low : nat_lt d.0.writes s.limits.last_writes ≡ true = is_below (nat_lt d.0.writes s.limits.last_writes) (sym below ∙ d.2.4) in
    subst (λ (v : ℕ). OfHart s h (λ hart. (hart.life ≡ Running) × MayLook s h hart operand.va operand.width v)) (sym value_is)
    (each (slice_get s.harts h) (λ (hart : HartState). IsTrying arch operand.inst hart × ((page_in (generation_text s hart.generation) (page_of operand.va) ≡ None) × (has_met s.met hart.generation found.page ≡ true)))
    (λ (hart : HartState). (hart.life ≡ Running) × MayLook s h hart operand.va operand.width (number_in d.0.words (operand.va % 4096) operand.width))
    (λ hart is t. (
      t.0.0,
      (
        accessed arch operand.inst hart (load_at operand) t.0 (load_access arch operand reserving load),
        t.0.3,
        free_reads s h hart (load_at operand) d.0 free t.1.0 d.1 (subst (λ (n : ℕ). has_met s.met hart.generation n ≡ true) d.2.0 t.1.1) refl low,
      ),
    )) (both (slice_get s.harts h) _ _ ready near))

-- at the last one it takes the page
pub last_takes : (s : FlatState) (h : ℕ) (arch : ArchState) (operand : Operand) (reserving : Bool) (found : Found) → AllByRecursion IsSettled s.pages → IsLoad arch operand reserving → OfHart s h (IsTrying arch operand.inst) → IsFoundPage s (page_of operand.va) found
    → IsNear s h operand.va found.page → found.last ≡ true → OfHart s h (λ hart. (hart.life ≡ Running) × MayTake s hart (access_in hart) found.page)
last_takes s h arch operand reserving found free load ready found_is near last =
    let d = some_and (data_in s.pages (page_of operand.va)) _ found_is in
    let number : found.page ≡ page_of operand.va = d.2.0 ∙ data_number s.pages (page_of operand.va) d.0 d.1 in
    let high : nat_lt d.0.writes s.limits.last_writes ≡ false = not_last (nat_lt d.0.writes s.limits.last_writes) (sym last ∙ d.2.4) in
    each (slice_get s.harts h) (λ (hart : HartState). IsTrying arch operand.inst hart × ((page_in (generation_text s hart.generation) (page_of operand.va) ≡ None) × (has_met s.met hart.generation found.page ≡ true)))
    (λ (hart : HartState). (hart.life ≡ Running) × MayTake s hart (access_in hart) found.page)
    (λ hart is t. (
      t.0.0,
      subst (λ (p : ℕ). MayTake s hart (access_in hart) p) (sym number)
          (free_taken s hart arch operand.inst (load_at operand) d.0 free t.0 (load_access arch operand reserving load) t.1.0 d.1 (subst (λ (n : ℕ). has_met s.met hart.generation n ≡ true) d.2.0 t.1.1) refl
          (ap (λ (w : Want). takes_for (Some w) s hart (load_at operand) d.0) load.0 ∙ by_test hart d.0 high reserving)),
    )) (both (slice_get s.harts h) _ _ ready near)
  where
    by_test : (hart : HartState) (page : PageState) → nat_lt page.writes s.limits.last_writes ≡ false → (b : Bool) → takes_for (Some (load_want operand b)) s hart (load_at operand) page ≡ true
    by_test hart page high true = rw high refl
    by_test hart page high false = rw high refl

pub write_takes : (s : FlatState) (h : ℕ) (arch : ArchState) (operand : Operand) (write : Write) (found : Found) → AllByRecursion IsSettled s.pages → IsStore arch operand write → OfHart s h (IsTrying arch operand.inst) → IsFoundPage s (page_of operand.va) found
    → IsNear s h operand.va found.page → found.write ≡ true → WillWrite s h operand write true → OfHart s h (λ hart. (hart.life ≡ Running) × MayTake s hart (access_in hart) found.page)
write_takes s h arch operand write found free store ready found_is near right will =
    let d = some_and (data_in s.pages (page_of operand.va)) _ found_is in
    let number : found.page ≡ page_of operand.va = d.2.0 ∙ data_number s.pages (page_of operand.va) d.0 d.1 in
    each (slice_get s.harts h)
    (λ (hart : HartState). (IsTrying arch operand.inst hart × ((page_in (generation_text s hart.generation) (page_of operand.va) ≡ None) × (has_met s.met hart.generation found.page ≡ true)))
    × IfSome (data_in s.pages (page_of operand.va)) (λ page. true ≡ takes_for (Some (store_want operand write)) s hart (store_at operand) page))
    (λ (hart : HartState). (hart.life ≡ Running) × MayTake s hart (access_in hart) found.page)
    (λ hart is t. (
      t.0.0.0,
      subst (λ (p : ℕ). MayTake s hart (access_in hart) p) (sym number)
          (free_taken s hart arch operand.inst (store_at operand) d.0 free t.0.0 (store_access arch operand write store) t.0.1.0 d.1 (subst (λ (n : ℕ). has_met s.met hart.generation n ≡ true) d.2.0 t.0.1.1) (sym d.2.1 ∙ right)
          (ap (λ (w : Want). takes_for (Some w) s hart (store_at operand) d.0) store.0
          ∙ sym (subst (λ (o : Option PageState). IfSome o (λ page. true ≡ takes_for (Some (store_want operand write)) s hart (store_at operand) page)) d.1 t.1))),
    )) (both (slice_get s.harts h) _ _ (both (slice_get s.harts h) _ _ ready near) will)

-- the page behind a take
pub record IsTaken (s new : FlatState) (h va number : ℕ) : Type 0 where
  pub page : PageState
  pub number_is : number ≡ page_of va
  pub old_page : data_in s.pages (page_of va) ≡ Some page
  pub new_page : data_in new.pages (page_of va) ≡ Some (taken_by h page)

pub taken : (s new : FlatState) (h va : ℕ) (found : Found) → IsFoundPage s (page_of va) found → data_in new.pages found.page ≡ option_map (taken_by h) (data_in s.pages found.page) → IsTaken s new h va found.page
taken s new h va found is page =
    let d = some_and (data_in s.pages (page_of va)) _ is in
    let number : found.page ≡ page_of va = d.2.0 ∙ data_number s.pages (page_of va) d.0 d.1 in
    let there : data_in new.pages (page_of va) ≡ option_map (taken_by h) (data_in s.pages (page_of va)) = subst (λ (n : ℕ). data_in new.pages n ≡ option_map (taken_by h) (data_in s.pages n)) number page in
    record { page = d.0; number_is = number; old_page = d.1; new_page = there ∙ ap (option_map (taken_by h)) d.1 }

pub taken_held : (s new : FlatState) (h : ℕ) (access : Access) (found : Found) → IsFoundPage s (page_of access.va) found → data_in new.pages found.page ≡ option_map (taken_by h) (data_in s.pages found.page) → Some found.page ≡ held_by new h (Some access)
taken_held s new h access found is page =
    let t = taken s new h access.va found is page in
    ap Some t.number_is ∙ held_page new h access (taken_by h t.page) t.new_page refl

pub taken_looks : (s new : FlatState) (h value : ℕ) (arch : ArchState) (operand : Operand) (reserving : Bool) (found : Found) → IsLoad arch operand reserving → OfHart s h (IsTrying arch operand.inst) → IsFoundPage s (page_of operand.va) found → IsNear s h operand.va found.page
    → new.harts ≡ s.harts → new.gens ≡ s.gens → data_in new.pages found.page ≡ option_map (taken_by h) (data_in s.pages found.page) → IfSome (data_in s.pages (page_of operand.va)) (λ page. value ≡ number_in page.words (operand.va % 4096) operand.width)
    → OfHart new h (λ hart. (hart.life ≡ Running) × MayLook new h hart operand.va operand.width value)
taken_looks s new h value arch operand reserving found load ready is near harts gens page read =
    let t = taken s new h operand.va found is page in
    let value_is : value ≡ number_in t.page.words (operand.va % 4096) operand.width = subst (λ (o : Option PageState). IfSome o (λ page. value ≡ number_in page.words (operand.va % 4096) operand.width)) t.old_page read in
    let text : OfHart new h (λ hart. (page_in (generation_text new hart.generation) (page_of operand.va) ≡ None) × (has_met s.met hart.generation found.page ≡ true)) = rw (harts, gens) near in
    subst (λ (v : ℕ). OfHart new h (λ hart. (hart.life ≡ Running) × MayLook new h hart operand.va operand.width v)) (sym value_is)
    (each (slice_get new.harts h) (λ (hart : HartState). IsTrying arch operand.inst hart × ((page_in (generation_text new hart.generation) (page_of operand.va) ≡ None) × (has_met s.met hart.generation found.page ≡ true)))
    (λ (hart : HartState). (hart.life ≡ Running) × MayLook new h hart operand.va operand.width (number_in t.page.words (operand.va % 4096) operand.width))
    (λ hart there f. (
      f.0.0,
      (
        accessed arch operand.inst hart (load_at operand) f.0 (load_access arch operand reserving load),
        f.0.3,
        held_reads new h hart (load_at operand) (taken_by h t.page) f.1.0 t.new_page refl,
      ),
    )) (both (slice_get new.harts h) _ _ (still_in s new h arch operand.inst harts ready) text))

-- a page that the hart holds is put to, or swapped
may_put : (s : FlatState) (h low whole : ℕ) (arch : ArchState) (operand : Operand) (write : Write) → IsStore arch operand write → OfHart s h (IsTrying arch operand.inst) → put_of (Some (store_want operand write)) ≡ Some whole → holds s h (store_at operand) ≡ true
    → low ≡ whole % 2 ^ (8 * operand.width) → OfHart s h (λ hart. (hart.life ≡ Running) × MayPut s h hart operand.va operand.width low)
may_put s h low whole arch operand write store ready puts holding low_is =
    each (slice_get s.harts h) (IsTrying arch operand.inst) (λ (hart : HartState). (hart.life ≡ Running) × MayPut s h hart operand.va operand.width low)
    (λ hart is t. (
      t.0,
      (
        accessed arch operand.inst hart (store_at operand) t (store_access arch operand write store),
        holding,
        t.3,
        t.4,
        and_some (put_of (want_in hart)) _ whole (ap put_of (wanted arch operand.inst hart t.1 t.2 ∙ ap Some store.0) ∙ puts) low_is,
      ),
    )) ready

pub put_may : (s : FlatState) (h low page value : ℕ) (conditional : Bool) (arch : ArchState) (operand : Operand) → IsStore arch operand (put_by conditional value) → OfHart s h (IsTrying arch operand.inst) → Some page ≡ held_by s h (Some (store_at operand))
    → low ≡ value % 2 ^ (8 * operand.width) → OfHart s h (λ hart. (hart.life ≡ Running) × MayPut s h hart operand.va operand.width low)
put_may s h low page value conditional arch operand store ready held low_is = may_put s h low value arch operand (put_by conditional value) store ready (by_test conditional) (holds_by s h page (store_at operand) held) low_is
  where
    by_test : (b : Bool) → put_of (Some (store_want operand (put_by b value))) ≡ Some value
    by_test true = refl
    by_test false = refl

-- whether a write is conditional
pub put_kind : (s : FlatState) (h value : ℕ) (conditional : Bool) (arch : ArchState) (operand : Operand) → IsStore arch operand (put_by conditional value) → OfHart s h (IsTrying arch operand.inst) → OfHart s h (λ hart. is_conditional (want_in hart) ≡ conditional)
put_kind s h value conditional arch operand store ready = wants s h arch operand.inst (store_want operand (put_by conditional value)) (λ (w : Option Want). is_conditional w ≡ conditional) store.0 ready (by_test conditional)
  where
    by_test : (b : Bool) → is_conditional (Some (store_want operand (put_by b value))) ≡ b
    by_test true = refl
    by_test false = refl

there_held : (o : Option PageState) (h : ℕ) (P : PageState → Type 0) → holds_page h o ≡ true → IfSome o P → IsSomeAnd o P
there_held None h P e p = absurd (cc)
there_held (Some page) h P e p = p

pub swap_may : (s : FlatState) (h page value old new : ℕ) (op : AmoOp) (arch : ArchState) (operand : Operand) → IsStore arch operand (Swap op value) → OfHart s h (IsTrying arch operand.inst) → Some page ≡ held_by s h (Some (store_at operand))
    → IfSome (data_in s.pages (page_of operand.va)) (λ page. old ≡ number_in page.words (operand.va % 4096) operand.width) → new ≡ amo_of op (operand.width == 8) old value
    → OfHart s h (λ hart. (hart.life ≡ Running) × MaySwap s h hart operand.va operand.width old new)
swap_may s h page value old new op arch operand store ready held read made =
    let holding : holds s h (store_at operand) ≡ true = holds_by s h page (store_at operand) held in
    each (slice_get s.harts h) (IsTrying arch operand.inst) (λ (hart : HartState). (hart.life ≡ Running) × MaySwap s h hart operand.va operand.width old new)
    (λ hart is t. (
      t.0,
      (
        accessed arch operand.inst hart (store_at operand) t (store_access arch operand (Swap op value) store),
        holding,
        t.3,
        t.4,
        there_held (accessed_data s (store_at operand)) h (λ page. old ≡ number_in page.words (operand.va % 4096) operand.width) holding read,
        ap (λ (w : Option Want). swap_of w old) (wanted arch operand.inst hart t.1 t.2 ∙ ap Some store.0) ∙ ap Some (sym made),
      ),
    )) ready

-- a store-conditional alone is lost, or does not write
lost_conditional : (operand : Operand) (write : Write) (o : Option Reservation) → is_lost (Some (store_want operand write)) o ≡ true → is_conditional (Some (store_want operand write)) ≡ true
lost_conditional operand (Put value) o e = absurd (cc)
lost_conditional operand (PutIf value) o e = refl
lost_conditional operand (Swap op value) o e = absurd (cc)

unstanding : (s : FlatState) (hart : HartState) (operand : Operand) (write : Write) (page : PageState) → takes_for (Some (store_want operand write)) s hart (store_at operand) page ≡ false
    → (is_conditional (Some (store_want operand write)) ≡ true) × (stands hart.reservation (store_at operand) page ≡ false)
unstanding s hart operand (Put value) page e = absurd (cc)
unstanding s hart operand (PutIf value) page e = (refl, e)
unstanding s hart operand (Swap op value) page e = absurd (cc)

pub lost_is_conditional : (s : FlatState) (h : ℕ) (arch : ArchState) (operand : Operand) (write : Write) (lost : Bool) → IsStore arch operand write → OfHart s h (λ hart. lost ≡ is_lost (Some (store_want operand write)) hart.reservation) → lost ≡ true
    → is_conditional (Some (want_of operand.inst arch)) ≡ true
lost_is_conditional s h arch operand write lost store is e =
    let w = some_and (slice_get s.harts h) _ is in
    ap (λ (w : Want). is_conditional (Some w)) store.0 ∙ lost_conditional operand write w.0.reservation (sym w.2 ∙ e)

pub lost_misses : (s : FlatState) (h : ℕ) (arch : ArchState) (operand : Operand) (write : Write) (lost : Bool) → AllByRecursion IsSettled s.pages → IsStore arch operand write → OfHart s h (IsTrying arch operand.inst)
    → OfHart s h (λ hart. lost ≡ is_lost (Some (store_want operand write)) hart.reservation) → lost ≡ true → OfHart s h (λ hart. (hart.life ≡ Running) × MayMiss s h hart (access_in hart) operand.va)
lost_misses s h arch operand write lost free store ready is e =
    each (slice_get s.harts h) (λ (hart : HartState). IsTrying arch operand.inst hart × (lost ≡ is_lost (Some (store_want operand write)) hart.reservation)) (λ (hart : HartState). (hart.life ≡ Running) × MayMiss s h hart (access_in hart) operand.va)
    (λ hart there t.
    let want_is : want_in hart ≡ Some (store_want operand write) = wanted arch operand.inst hart t.0.1 t.0.2 ∙ ap Some store.0 in
    let lost_is : is_lost (Some (store_want operand write)) hart.reservation ≡ true = sym t.1 ∙ e in
    let gone : is_lost (want_in hart) hart.reservation ≡ true = ap (λ (w : Option Want). is_lost w hart.reservation) want_is ∙ lost_is in
    let missing : misses s hart (store_at operand) ≡ true = rw gone refl in
    let may : MayMiss s h hart (Some (store_at operand)) operand.va = (refl, ap is_conditional want_is ∙ lost_conditional operand write hart.reservation lost_is, t.0.3, not_held s h (store_at operand) free, missing) in
    (t.0.0, subst (λ (o : Option Access). MayMiss s h hart o operand.va) (sym (accessed arch operand.inst hart (store_at operand) t.0 (store_access arch operand write store))) may))
    (both (slice_get s.harts h) _ _ ready is)

pub idle_is_conditional : (s : FlatState) (h : ℕ) (arch : ArchState) (operand : Operand) (write : Write) (found : Found) → IsStore arch operand write → IsFoundPage s (page_of operand.va) found → WillWrite s h operand write false
    → is_conditional (Some (want_of operand.inst arch)) ≡ true
idle_is_conditional s h arch operand write found store found_is will =
    let d = some_and (data_in s.pages (page_of operand.va)) _ found_is in
    let w = some_and (slice_get s.harts h) _ will in
    let takes : takes_for (Some (store_want operand write)) s w.0 (store_at operand) d.0 ≡ false
    = sym (subst (λ (o : Option PageState). IfSome o (λ page. false ≡ takes_for (Some (store_want operand write)) s w.0 (store_at operand) page)) d.1 w.2) in
    ap (λ (w : Want). is_conditional (Some w)) store.0 ∙ (unstanding s w.0 operand write d.0 takes).0

or_true : (a b : Bool) → b ≡ true → (a || b) ≡ true
or_true true b e = refl
or_true false b e = e

pub idle_misses : (s : FlatState) (h : ℕ) (arch : ArchState) (operand : Operand) (write : Write) (found : Found) → AllByRecursion IsSettled s.pages → IsStore arch operand write → OfHart s h (IsTrying arch operand.inst) → IsFoundPage s (page_of operand.va) found
    → IsNear s h operand.va found.page → found.write ≡ true → WillWrite s h operand write false → OfHart s h (λ hart. (hart.life ≡ Running) × MayMiss s h hart (access_in hart) operand.va)
idle_misses s h arch operand write found free store ready found_is near right will =
    let d = some_and (data_in s.pages (page_of operand.va)) _ found_is in
    let here = found_free s.pages (page_of operand.va) d.0 free d.1 in
    each (slice_get s.harts h)
    (λ (hart : HartState). (IsTrying arch operand.inst hart × ((page_in (generation_text s hart.generation) (page_of operand.va) ≡ None) × (has_met s.met hart.generation found.page ≡ true)))
    × IfSome (data_in s.pages (page_of operand.va)) (λ page. false ≡ takes_for (Some (store_want operand write)) s hart (store_at operand) page))
    (λ (hart : HartState). (hart.life ≡ Running) × MayMiss s h hart (access_in hart) operand.va)
    (λ hart there t.
    let want_is : want_in hart ≡ Some (store_want operand write) = wanted arch operand.inst hart t.0.0.1 t.0.0.2 ∙ ap Some store.0 in
    let takes : takes_for (Some (store_want operand write)) s hart (store_at operand) d.0 ≡ false
    = sym (subst (λ (o : Option PageState). IfSome o (λ page. false ≡ takes_for (Some (store_want operand write)) s hart (store_at operand) page)) d.1 t.1) in
    let u = unstanding s hart operand write d.0 takes in
    let met : has_met s.met hart.generation d.0.number ≡ true = subst (λ (n : ℕ). has_met s.met hart.generation n ≡ true) d.2.0 t.0.1.1 in
    let reached : is_reached s hart (store_at operand) d.0 ≡ true = reach s hart (store_at operand) d.0 here.0 met (sym d.2.1 ∙ right) in
    let missing : misses s hart (store_at operand) ≡ true = or_true (is_lost (want_in hart) hart.reservation) _ (rw (t.0.1.0, d.1) (rw (reached, u.1) refl)) in
    let may : MayMiss s h hart (Some (store_at operand)) operand.va = (refl, ap is_conditional want_is ∙ u.0, t.0.0.3, not_held s h (store_at operand) free, missing) in
    (t.0.0.0, subst (λ (o : Option Access). MayMiss s h hart o operand.va) (sym (accessed arch operand.inst hart (store_at operand) t.0.0 (store_access arch operand write store))) may))
    (both (slice_get s.harts h) _ _ (both (slice_get s.harts h) _ _ ready near) will)

-- what was found is there where pages and limits stay
pub found_same : (s new : FlatState) (number : ℕ) (found : Found) → new.pages ≡ s.pages → new.limits ≡ s.limits → IsFoundPage s number found → IsFoundPage new number found
found_same s new number found pages limits is = rw (pages, limits) is
