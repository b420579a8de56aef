-- What a hart in a try is to do is what its action says.
use Rattle.std.proofs.Common.{◌≡◌, ℕ, List, [], ◌∷◌, Option, Some, None, true, false, refl, sym, subst, ap, ◌∙◌}
use Rattle.std.specs.Prelude.{IsSomeAnd, slice_get, option_and_then, unwrap_or}
use Rattle.std.specs.Option.{option_map}
use Rattle.rv_inst.specs.declared.inst.Inst.{Inst}
use Rattle.rv_inst.specs.declared.inst.Inst.TheVariants.{Ecall}
use Rattle.rv_inst.specs.declared.want.Want.TheVariants.{Nothing}
use Rattle.rv_inst.specs.Arch.{ArchState}
use Rattle.rv_inst.specs.Decoding.{inst_of}
use Rattle.rv_inst.specs.Meanings.{want_of, meaning_of}
use Rattle.wf_flat.specs.declared.event.Event.TheVariants as events
use Rattle.wf_flat.specs.State.{FlatState, HartState}
use Rattle.wf_flat.specs.Memory.{word_at}
use Rattle.rv_inst.specs.declared.want.Want.{Want}
use Rattle.wf_flat.specs.Steps.{OfHart, Ask, Stopped, ask_of, inst_in, want_in, is_lost, ask_by, ask_of_word, ask_of_want, arch_by, arch_after, generation_text}
use Rattle.wf_flat.specs.Changes.{fetched_with}
use Rattle.wf_verdict.specs.declared.work.Todo.TheVariants.{Exactly}
use Rattle.wf_legal.specs.Calls.{todo_by, todo_of}
use Rattle.wf_driver.specs.declared.actions.Action.TheVariants.{Run, Trap}
use Rattle.wf_driver.specs.declared.actions.Action.TheVariants as actions
use Rattle.wf_driver.specs.declared.stepping.Start.TheVariants.{Word, Fault}
use Rattle.wf_outside.specs.Images.{DeltaValue}
use Rattle.wf_outside.specs.Pages.{page_of}
use Rattle.wf_service.specs.Calling.{IsAtCall}
use Rattle.wf_service.specs.Resting.{IsResting}
use Rattle.wf_flat.specs.Memory.{data_in, has_met, with_met}
use Rattle.wf_driver.specs.declared.actions.Operand.{Operand}
use Rattle.wf_driver.specs.declared.actions.Write.{Write}
use Rattle.wf_driver.specs.declared.actions.Action.{Action}
use Rattle.wf_driver.specs.Stepping.{IsTryStart, IsAction, IsTrapOf, IsAt, IsInTry, IsTrying, IsToDo, IsToMeet, IsPageToSync, IsDone, WillReach, store_want}
use Rattle.wf_driver.proofs.StepLemmas.{no_try_of}
use Rattle.wf_driver.proofs.AccessLemmas.{no_call, wanted}
use Rattle.wf_flat.proofs.ListLemmas.{if_some_more, some_and, and_some}

-- after what wants nothing the registers are those of its meaning
plain_arch : (inst : Inst) (hart : HartState) → want_of inst hart.arch ≡ Nothing → arch_by (Some inst) hart ≡ meaning_of inst hart.arch (unwrap_or hart.looked 0)
plain_arch Ecall hart e = absurd (cc)
plain_arch inst hart e = refl

pub run_ready : (s : FlatState) (h word : ℕ) (arch next : ArchState) → OfHart s h (IsInTry arch word) → IsAction arch word (Run next) → IsDone s h None next
run_ready s h word arch next ready action =
    let w = some_and (slice_get s.harts h) _ ready in
    let i = some_and (inst_of word) _ action in
    let hart : HartState = w.0 in
    let inst : inst_in hart ≡ Some i.0 = ap (option_and_then inst_of) w.2.1 ∙ i.1 in
    let want : want_of i.0 hart.arch ≡ Nothing = rw w.2.3 i.2.0 in
    let wants : want_in hart ≡ Some Nothing = wanted arch i.0 hart inst w.2.3 ∙ ap Some i.2.0 in
    let looked : unwrap_or hart.looked 0 ≡ 0 = ap (λ (o : Option ℕ). unwrap_or o 0) w.2.2 in
    let after : arch_after hart ≡ meaning_of i.0 arch 0 = ap (λ (o : Option Inst). arch_by o hart) inst ∙ plain_arch i.0 hart want ∙ ap (meaning_of i.0 hart.arch) looked ∙ ap (λ (a : ArchState). meaning_of i.0 a 0) w.2.3 in
    and_some (slice_get s.harts h) _ hart w.1 (w.2.0, rw wants refl, rw wants refl, i.2.1 ∙ sym after)

-- what it asks for
asked : (s : FlatState) (h : ℕ) (hart : HartState) (word : ℕ) (ask : Ask) → hart.fetched ≡ Some word → ask_of_word s h hart word (inst_of word) ≡ Some ask → (deltas : List DeltaValue) → todo_by deltas s h hart ≡ todo_of deltas s hart ask
asked s h hart word ask f e = λ deltas.
    ap (λ (o : Option ℕ). unwrap_or (option_map (λ (a : Ask). todo_of deltas s hart a) (ask_by s h hart o)) []) f ∙ ap (λ (o : Option Ask). unwrap_or (option_map (λ (a : Ask). todo_of deltas s hart a) o) []) e

stops : (s : FlatState) (h word cause value : ℕ) (arch : ArchState) (hart : HartState) (o : Option Inst) → hart.arch ≡ arch → IsTrapOf arch word o cause value → ask_of_word s h hart word o ≡ Some (Stopped cause value)
stops s h word cause value arch hart None a action = rw (action.0, action.1) refl
stops s h word cause value arch hart (Some inst) a action = ap (λ (x : ArchState). ask_of_want s h hart (Some (want_of inst x))) a ∙ ap (λ (w : Want). ask_of_want s h hart (Some w)) action

pub trap_ready : (s : FlatState) (h word cause value : ℕ) (arch : ArchState) → OfHart s h (IsInTry arch word) → IsAction arch word (Trap cause value)
    → OfHart s h (λ hart. IsToDo s h hart (Exactly (events.Trap cause value) ∷ []))
trap_ready s h word cause value arch ready action =
    let w = some_and (slice_get s.harts h) _ ready in
    let ask : ask_of_word s h w.0 word (inst_of word) ≡ Some (Stopped cause value) = stops s h word cause value arch w.0 (inst_of word) w.2.3 action in
    and_some (slice_get s.harts h) _ w.0 w.1 (w.2.0, no_call s h w.0 (Stopped cause value) (λ e. cc) (ap (ask_by s h w.0) w.2.1 ∙ ask), asked s h w.0 word (Stopped cause value) w.2.1 ask)

-- of a pc that is no text, of a machine at rest
pub fault_ready : (s : FlatState) (h pc : ℕ) → IsResting s → IsTryStart s h (Fault pc) → OfHart s h (λ hart. IsToDo s h hart (Exactly (events.Trap 12 pc) ∷ []))
fault_ready s h pc r ready =
    let w = some_and (slice_get s.harts h) _ ready in
    let none = no_try_of s.harts h w.0 r.no_try w.1 in
    let read : word_at (generation_text s w.0.generation) w.0.arch.pc ≡ None = rw w.2.1 w.2.2 in
    let todo : (deltas : List DeltaValue) → todo_by deltas s h w.0 ≡ Exactly (events.Trap 12 w.0.arch.pc) ∷ [] = λ deltas. rw (none, read) refl in
    let ask : ask_of s h w.0 ≡ Some (Stopped 12 w.0.arch.pc) = rw (none, read) refl in
    and_some (slice_get s.harts h) _ w.0 w.1 (w.2.0, no_call s h w.0 (Stopped 12 w.0.arch.pc) (λ e. cc) ask, subst (λ (a : ℕ). (deltas : List DeltaValue) → todo_by deltas s h w.0 ≡ Exactly (events.Trap 12 a) ∷ []) w.2.1 todo)

-- of a word of its text, of a machine at rest
pub word_ready : (s : FlatState) (h word : ℕ) (arch : ArchState) → IsResting s → IsTryStart s h (Word arch word) → OfHart s h (λ hart. IsAt s hart arch.pc word × (hart.arch ≡ arch))
word_ready s h word arch r ready =
    let w = some_and (slice_get s.harts h) _ ready in
    let none = no_try_of s.harts h w.0 r.no_try w.1 in
    and_some (slice_get s.harts h) _ w.0 w.1 ((w.2.0, none, sym (ap (λ (a : ArchState). a.pc) w.2.1), w.2.2), w.2.1)

-- a hart at a word that is an ecall is at a call
pub call_ready : (s : FlatState) (h word : ℕ) (arch : ArchState) → IsResting s → IsTryStart s h (Word arch word) → inst_of word ≡ Some Ecall → OfHart s h (IsAtCall s word)
call_ready s h word arch r ready e =
    let w = some_and (slice_get s.harts h) _ (word_ready s h word arch r ready) in
    let text : word_at (generation_text s w.0.generation) w.0.arch.pc ≡ Some word = subst (λ (a : ℕ). word_at (generation_text s w.0.generation) a ≡ Some word) w.2.0.2 w.2.0.3 in
    and_some (slice_get s.harts h) (IsAtCall s word) w.0 w.1 (record { runs = w.2.0.0; no_try = w.2.0.1; text = text; ecall = e })

-- behind its fetch it is in a try of the word
pub fetched_ready : (s new : FlatState) (h word : ℕ) (arch : ArchState) → OfHart s h (λ hart. IsAt s hart arch.pc word × (hart.arch ≡ arch)) → slice_get new.harts h ≡ option_map (fetched_with word) (slice_get s.harts h) → OfHart new h (IsInTry arch word)
fetched_ready s new h word arch ready e =
    let w = some_and (slice_get s.harts h) _ ready in
    let is : slice_get new.harts h ≡ Some (fetched_with word w.0) = e ∙ ap (option_map (fetched_with word)) w.1 in
    and_some (slice_get new.harts h) _ (fetched_with word w.0) is (w.2.0.0, refl, refl, w.2.1, refl, refl)

-- a load and a store are in their accesses
pub in_access : (s : FlatState) (h word : ℕ) (arch : ArchState) (inst : Inst) → OfHart s h (IsInTry arch word) → inst_of word ≡ Some inst → OfHart s h (IsTrying arch inst)
in_access s h word arch inst ready e =
    let v = some_and (slice_get s.harts h) _ ready in
    let inst_is : inst_in v.0 ≡ Some inst = ap (option_and_then inst_of) v.2.1 ∙ e in
    and_some (slice_get s.harts h) _ v.0 v.1 (v.2.0, inst_is, v.2.3, v.2.2, v.2.4, v.2.5)

-- what is to be met stays so behind a fetch
of_generation : (s new : FlatState) (h word : ℕ) (P : ℕ → Type 0) → slice_get new.harts h ≡ option_map (fetched_with word) (slice_get s.harts h) → OfHart s h (λ hart. P hart.generation) → OfHart new h (λ hart. P hart.generation)
of_generation s new h word P e ready =
    let w = some_and (slice_get s.harts h) _ ready in
    and_some (slice_get new.harts h) _ (fetched_with word w.0) (e ∙ ap (option_map (fetched_with word)) w.1) w.2

some_map : {A : Type 0} (o : Option A) (P Q : A → Type 0) → ((x : A) → P x → Q x) → IsSomeAnd o P → IsSomeAnd o Q
some_map None P Q f h = absurd h
some_map (Some x) P Q f h = f x h

sync_kept : (s new : FlatState) (h va word : ℕ) (met : Option (List (ℕ × ℕ))) → slice_get new.harts h ≡ option_map (fetched_with word) (slice_get s.harts h) → new.pages ≡ s.pages → new.met ≡ s.met → IsPageToSync s h va met → IsPageToSync new h va met
sync_kept s new h va word None e p m page_to_sync =
    rw (p, m) (if_some_more (data_in s.pages (page_of va)) (λ page. OfHart s h (λ hart. has_met s.met hart.generation page.number ≡ true)) (λ page. OfHart new h (λ hart. has_met s.met hart.generation page.number ≡ true))
    (λ page. of_generation s new h word (λ g. has_met s.met g page.number ≡ true) e) page_to_sync)
sync_kept s new h va word (Some met) e p m page_to_sync = (
  rw (p, m) (some_map (data_in s.pages (page_of va)) (λ page. OfHart s h (λ hart. (has_met s.met hart.generation page.number ≡ false) × (met ≡ with_met s.met hart.generation page.number)))
      (λ page. OfHart new h (λ hart. (has_met s.met hart.generation page.number ≡ false) × (met ≡ with_met s.met hart.generation page.number)))
      (λ page. of_generation s new h word (λ g. (has_met s.met g page.number ≡ false) × (met ≡ with_met s.met g page.number)) e) page_to_sync.0),
  page_to_sync.1,
)

reached_before : (s new : FlatState) (h word : ℕ) (operand : Operand) (write : Write) → slice_get new.harts h ≡ option_map (fetched_with word) (slice_get s.harts h) → WillReach new h operand write → WillReach s h operand write
reached_before s new h word operand write e reaches = by_hart (slice_get s.harts h) (subst (λ (o : Option HartState). IsSomeAnd o (λ hart. is_lost (Some (store_want operand write)) hart.reservation ≡ false)) e reaches)
  where
    by_hart : (o : Option HartState) → IsSomeAnd (option_map (fetched_with word) o) (λ hart. is_lost (Some (store_want operand write)) hart.reservation ≡ false) → IsSomeAnd o (λ hart. is_lost (Some (store_want operand write)) hart.reservation ≡ false)
    by_hart None p = p
    by_hart (Some hart) p = p

pub to_meet_kept : (s new : FlatState) (h word : ℕ) (action : Action) (met : Option (List (ℕ × ℕ))) → slice_get new.harts h ≡ option_map (fetched_with word) (slice_get s.harts h) → new.pages ≡ s.pages → new.met ≡ s.met → IsToMeet s h action met → IsToMeet new h action met
to_meet_kept s new h word (actions.Load operand reserves) met e p m page_to_sync = sync_kept s new h operand.va word met e p m page_to_sync
to_meet_kept s new h word (actions.Store operand write) met e p m page_to_sync = λ reaches. sync_kept s new h operand.va word met e p m (page_to_sync (reached_before s new h word operand write e reaches))
to_meet_kept s new h word (Run next) met e p m none = none
to_meet_kept s new h word (Trap cause value) met e p m none = none
