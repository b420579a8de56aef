-- Instructions that want nothing or a trap, fetches that find no word, and idles.
use Rattle.std.proofs.Common.{◌≡◌, ◌≢◌, ℕ, List, [], ◌∷◌, Option, Some, None, true, false, refl, sym, ap, ◌∙◌}
use Rattle.std.specs.Prelude.{slice_get, option_and_then, unwrap_or}
use Rattle.std.specs.Option.{option_map}
use Rattle.std.specs.List.{AllByRecursion}
use Rattle.rv_inst.specs.declared.causes.TheConstants.{ILLEGAL_INSTRUCTION, INSTRUCTION_PAGE_FAULT}
use Rattle.rv_inst.specs.declared.inst.Inst.{Inst}
use Rattle.rv_inst.specs.declared.inst.Inst.TheVariants.{Ecall}
use Rattle.rv_inst.specs.declared.want.Want.{Want}
use Rattle.rv_inst.specs.declared.want.Want.TheVariants as want
use Rattle.rv_inst.specs.Arch.{ArchState}
use Rattle.rv_inst.specs.Decoding.{inst_of}
use Rattle.rv_inst.specs.Meanings.{meaning_of, want_of}
use Rattle.wf_outside.specs.Images.{DeltaValue}
use Rattle.wf_flat.specs.declared.event.Actor.{Actor}
use Rattle.wf_flat.specs.declared.event.Actor.TheVariants.{Hart}
use Rattle.wf_flat.specs.declared.event.Event.{Event}
use Rattle.wf_flat.specs.declared.event.Event.TheVariants.{End, Enter, Fetch, Idle, Trap}
use Rattle.wf_flat.specs.declared.state.Life.TheVariants.{Running}
use Rattle.wf_flat.specs.State.{FlatState, HartState, PageState}
use Rattle.wf_flat.specs.Accesses.{access_of, is_ending}
use Rattle.wf_flat.specs.Changes.{change_hart, ended, entered, fetched_with, leave_hart, trapped_with, try_ended, without}
use Rattle.wf_flat.specs.Lists.{changed_at}
use Rattle.wf_flat.specs.Serving.{held_by}
use Rattle.wf_flat.specs.Steps.{Ask, MayAct, OfHart, Stopped, access_in, arch_after, arch_by, ask_by, ask_of, ask_of_fetch, ask_of_want, ask_of_word, inst_in, is_done, is_inside, want_in}
use Rattle.wf_flat.proofs.ChangeLemmas.{given_none}
use Rattle.wf_flat.proofs.HartLemmas.{changed_get}
use Rattle.wf_flat.proofs.ListLemmas.{and_some}
use Rattle.wf_verdict.specs.declared.work.Todo.TheVariants.{Exactly}
use Rattle.wf_legal.specs.Calls.{todo_by, todo_of}
use Rattle.wf_legal.specs.Legal.{at_rest}
use Rattle.wf_legal.proofs.JournalLemmas.{self_inside}
use Rattle.wf_sound.specs.Laws.{JournalsKeepSound}
use Rattle.wf_sound.proofs.AllLemmas.{all_get}
use Rattle.wf_service.specs.Resting.{IsSettled}
use Rattle.wf_service.proofs.BeginLemmas.{in_try}
use Rattle.wf_service.proofs.QuietLemmas.{IsFree, all_but, all_changed}
use Rattle.wf_units.specs.Ends.{hart_ran, hart_trapped, try_passed}
use Rattle.wf_units.specs.Instructions.{FindsInst, FindsWord, trap_events}
use Rattle.wf_units.specs.Units.{IsAtRest, IsLegalUnit}
use Rattle.wf_units.proofs.EndLemmas.{alike, changed_twice, leave_first}
use Rattle.wf_units.proofs.TryLemmas.{Asks, UnitFrom, outside_allowed, unit_last, unit_outside, unit_rests, unit_stopped, leads_outside}

-- pages at rest are not Ending
pub settled_stays : (pages : List PageState) → AllByRecursion IsSettled pages → AllByRecursion (λ page. is_ending page.stage ≡ false) pages
settled_stays [] all = tt
settled_stays (page ∷ pages) all = (rw all.0.0 refl, settled_stays pages all.1)

-- a hart changes, and no try is left
pub none_tries : (harts : List HartState) (h : ℕ) (g : HartState → HartState) → AllByRecursion IsFree harts → ((hart : HartState) → (g hart).fetched ≡ None) → AllByRecursion IsFree (changed_at harts h g)
none_tries harts h g free over = all_changed IsFree g h harts (all_but IsFree h harts free) over

-- nobody leaves the kernel where nobody is inside
pub leave_nobody : (s : FlatState) (h : ℕ) (g : HartState → HartState) → s.inside ≡ None → leave_hart s h g ≡ change_hart s h g
leave_nobody s h g inside =
    let none : without s.inside (Hart h) ≡ s.inside = rw inside refl in
    ap (λ (o : Option Actor). (let f : FlatState = record s { inside = o; harts = changed_at s.harts h g } in f)) none

-- its Fetch
pub fetch_first : (deltas : List DeltaValue) (s : FlatState) (h : ℕ) (hart : HartState) (word : ℕ) (events : List Event) (new : FlatState) → FindsWord deltas s h hart (Some word) → UnitFrom deltas (at_rest deltas (in_try s h word)) h events new → UnitFrom deltas (at_rest deltas s) h (Fetch hart.arch.pc word ∷ events) new
fetch_first deltas s h hart word events new f rest =
    let r = f.rests.rests in
    let no_try : hart.fetched ≡ None = all_get IsFree s.harts h hart r.no_try f.rests.there in
    let may : MayAct s (Hart h) (Fetch hart.arch.pc word) = and_some (slice_get s.harts h) _ hart f.rests.there (f.runs, (no_try, refl, f.text)) in
    unit_outside deltas s (in_try s h word) h (Fetch hart.arch.pc word) events new r.no_one may refl (λ deltas s h inside. rw inside refl) refl rest

pub in_try_there : (s : FlatState) (h word : ℕ) (hart : HartState) → slice_get s.harts h ≡ Some hart → slice_get (in_try s h word).harts h ≡ Some (fetched_with word hart)
in_try_there s h word hart there = changed_get s.harts h (fetched_with word) hart there

-- a trap stops it
pub trap_unit : (journals : JournalsKeepSound) (deltas : List DeltaValue) (s : FlatState) (h : ℕ) (hart : HartState) (word cause value : ℕ) (ask : Ask) → FindsWord deltas s h hart (Some word) → ask_of (in_try s h word) h (fetched_with word hart) ≡ Some ask
    → todo_by deltas (entered (in_try s h word) (Hart h)) h (fetched_with word hart) ≡ Exactly (Trap cause value) ∷ [] → IsLegalUnit deltas s h (trap_events hart word cause value) (change_hart s h (hart_trapped cause value))
trap_unit journals deltas s h hart word cause value ask f asks todo =
    let r = f.rests.rests in
    let new : FlatState = change_hart s h (hart_trapped cause value) in
    let a : Asks deltas (in_try s h word) h (fetched_with word hart) ask (Trap cause value) new = record {
      inside = r.no_one;
      free = r.free;
      there = in_try_there s h word hart f.rests.there;
      runs = f.runs;
      asks = asks;
      todo = todo;
      closes = refl;
      moves = λ m. refl;
      changed = leave_first s h word (trapped_with cause value) r.no_one;
    } in
    unit_rests journals deltas s h (trap_events hart word cause value) new f.rests.sound (fetch_first deltas s h hart word (Enter ∷ Trap cause value ∷ []) new f (unit_stopped deltas (in_try s h word) h (fetched_with word hart) ask (Trap cause value) new a refl))
    r.no_one (none_tries s.harts h (hart_trapped cause value) r.no_try (λ hart. refl)) (settled_stays s.pages r.free)

pub illegal_unit : (journals : JournalsKeepSound) (deltas : List DeltaValue) (s : FlatState) (h : ℕ) (hart : HartState) (word : ℕ) → FindsWord deltas s h hart (Some word) → inst_of word ≡ None
    → IsLegalUnit deltas s h (trap_events hart word ILLEGAL_INSTRUCTION word) (change_hart s h (hart_trapped ILLEGAL_INSTRUCTION word))
illegal_unit journals deltas s h hart word f none =
    let x : HartState = fetched_with word hart in
    let t : FlatState = in_try s h word in
    let asks : ask_of t h x ≡ Some (Stopped ILLEGAL_INSTRUCTION word) = ap (ask_of_word t h x word) none in
    let inside : ask_of (entered t (Hart h)) h x ≡ Some (Stopped ILLEGAL_INSTRUCTION word) = ap (ask_of_word (entered t (Hart h)) h x word) none in
    trap_unit journals deltas s h hart word ILLEGAL_INSTRUCTION word (Stopped ILLEGAL_INSTRUCTION word) f asks (ap (λ (o : Option Ask). unwrap_or (option_map (λ (a : Ask). todo_of deltas (entered t (Hart h)) x a) o) []) inside)

-- what is asked by an instruction that wants this
pub asks_for : (s : FlatState) (h word : ℕ) (inst : Inst) (w : Want) (hart : HartState) → hart.fetched ≡ Some word → inst_of word ≡ Some inst → want_of inst hart.arch ≡ w → ask_of s h hart ≡ ask_of_want s h hart (Some w)
asks_for s h word inst w hart fetched is wants =
    ap (ask_by s h hart) fetched ∙ ap (ask_of_word s h hart word) is ∙ ap (λ (w : Want). ask_of_want s h hart (Some w)) wants

pub wanted_trap_unit : (journals : JournalsKeepSound) (deltas : List DeltaValue) (s : FlatState) (h : ℕ) (hart : HartState) (word : ℕ) (inst : Inst) (cause value : ℕ) → FindsInst deltas s h hart word inst (want.Trap cause value)
    → IsLegalUnit deltas s h (trap_events hart word cause value) (change_hart s h (hart_trapped cause value))
wanted_trap_unit journals deltas s h hart word inst cause value f =
    let x : HartState = fetched_with word hart in
    let t : FlatState = in_try s h word in
    let asks : ask_of t h x ≡ Some (Stopped cause value) = asks_for t h word inst (want.Trap cause value) x refl f.is_inst f.wants in
    let inside : ask_of (entered t (Hart h)) h x ≡ Some (Stopped cause value) = asks_for (entered t (Hart h)) h word inst (want.Trap cause value) x refl f.is_inst f.wants in
    trap_unit journals deltas s h hart word cause value (Stopped cause value) f.finds asks (ap (λ (o : Option Ask). unwrap_or (option_map (λ (a : Ask). todo_of deltas (entered t (Hart h)) x a) o) []) inside)

-- a fetch that finds no word
leaves_alone : (s : FlatState) (h : ℕ) (g : HartState → HartState) → s.inside ≡ None → leave_hart (entered s (Hart h)) h g ≡ change_hart s h g
leaves_alone s h g inside =
    let k : is_inside (Some (Hart h)) (Hart h) ≡ true = self_inside h in
    let left : without (Some (Hart h)) (Hart h) ≡ None = rw k refl in
    ap (λ (o : Option Actor). (let f : FlatState = record s { inside = o; harts = changed_at s.harts h g } in f)) (left ∙ sym inside)

pub lost_unit : (journals : JournalsKeepSound) (deltas : List DeltaValue) (s : FlatState) (h : ℕ) (hart : HartState) → FindsWord deltas s h hart None
    → IsLegalUnit deltas s h (Enter ∷ Trap INSTRUCTION_PAGE_FAULT hart.arch.pc ∷ []) (change_hart s h (trapped_with INSTRUCTION_PAGE_FAULT hart.arch.pc))
lost_unit journals deltas s h hart f =
    let r = f.rests.rests in
    let cause : ℕ = INSTRUCTION_PAGE_FAULT in
    let new : FlatState = change_hart s h (trapped_with cause hart.arch.pc) in
    let no_try : hart.fetched ≡ None = all_get IsFree s.harts h hart r.no_try f.rests.there in
    let asks : ask_of s h hart ≡ Some (Stopped cause hart.arch.pc) = ap (ask_by s h hart) no_try ∙ ap (ask_of_fetch hart.arch.pc) f.text in
    let inside : ask_of (entered s (Hart h)) h hart ≡ Some (Stopped cause hart.arch.pc) = ap (ask_by (entered s (Hart h)) h hart) no_try ∙ ap (ask_of_fetch hart.arch.pc) f.text in
    let a : Asks deltas s h hart (Stopped cause hart.arch.pc) (Trap cause hart.arch.pc) new = record {
      inside = r.no_one;
      free = r.free;
      there = f.rests.there;
      runs = f.runs;
      asks = asks;
      todo = ap (λ (o : Option Ask). unwrap_or (option_map (λ (a : Ask). todo_of deltas (entered s (Hart h)) hart a) o) []) inside;
      closes = refl;
      moves = λ m. refl;
      changed = leaves_alone s h (trapped_with cause hart.arch.pc) r.no_one;
    } in
    unit_rests journals deltas s h (Enter ∷ Trap cause hart.arch.pc ∷ []) new f.rests.sound (unit_stopped deltas s h hart (Stopped cause hart.arch.pc) (Trap cause hart.arch.pc) new a refl)
    r.no_one (none_tries s.harts h (trapped_with cause hart.arch.pc) r.no_try (λ hart. refl)) (settled_stays s.pages r.free)

-- a hart that has stopped idles
pub idle_unit : (deltas : List DeltaValue) (s : FlatState) (h : ℕ) (hart : HartState) → IsAtRest deltas s h hart → hart.life ≢ Running → IsLegalUnit deltas s h (Idle ∷ []) s
idle_unit deltas s h hart r stopped =
    let inside = r.rests.no_one in
    let may : MayAct s (Hart h) Idle = and_some (slice_get s.harts h) (λ hart. hart.life ≢ Running) hart r.there stopped in
    let u = unit_last deltas (at_rest deltas s) h Idle s (outside_allowed deltas s h Idle inside may) refl (leads_outside deltas s s h Idle inside (λ deltas s h inside. rw inside refl) refl) in
    record { legal = u.legal; reached = u.reached; rests = r.rests; unit = u.unit }

-- an instruction that is no ecall leaves what it means
pub meant : (inst : Inst) (hart : HartState) → want_of inst hart.arch ≢ want.Call → arch_by (Some inst) hart ≡ meaning_of inst hart.arch (unwrap_or hart.looked 0)
meant Ecall hart other = absurd (other refl)
meant inst hart other = refl

pub inst_there : (hart : HartState) (word : ℕ) (inst : Inst) → hart.fetched ≡ Some word → inst_of word ≡ Some inst → inst_in hart ≡ Some inst
inst_there hart word inst fetched is = ap (option_and_then inst_of) fetched ∙ is

pub want_there : (hart : HartState) (word : ℕ) (inst : Inst) (w : Want) → hart.fetched ≡ Some word → inst_of word ≡ Some inst → want_of inst hart.arch ≡ w → want_in hart ≡ Some w
want_there hart word inst w fetched is wants = ap (option_map (λ (i : Inst). want_of i hart.arch)) (inst_there hart word inst fetched is) ∙ ap Some wants

pub arch_there : (hart : HartState) (word : ℕ) (inst : Inst) (w : Want) → hart.fetched ≡ Some word → inst_of word ≡ Some inst → want_of inst hart.arch ≡ w → w ≢ want.Call → arch_after hart ≡ meaning_of inst hart.arch (unwrap_or hart.looked 0)
arch_there hart word inst w fetched is wants other =
    ap (λ (o : Option Inst). arch_by o hart) (inst_there hart word inst fetched is) ∙ meant inst hart (λ e. other (sym wants ∙ e))

-- an End
pub end_unit : (deltas : List DeltaValue) (t new : FlatState) (h : ℕ) (hart : HartState) (arch : ArchState) → t.inside ≡ None → slice_get t.harts h ≡ Some hart → hart.life ≡ Running → is_done hart (want_in hart) ≡ true → arch_after hart ≡ arch → try_ended t h ≡ new
    → UnitFrom deltas (at_rest deltas t) h (End arch.pc ∷ []) new
end_unit deltas t new h hart arch inside there runs done is changed =
    let may : MayAct t (Hart h) (End arch.pc) = and_some (slice_get t.harts h) _ hart there (runs, (done, ap (λ (a : ArchState). a.pc) (sym is))) in
    unit_last deltas (at_rest deltas t) h (End arch.pc) new (outside_allowed deltas t h (End arch.pc) inside may) refl (leads_outside deltas t new h (End arch.pc) inside (λ deltas s h inside. rw inside refl) changed)

-- where it holds no page
pub ended_free : (t : FlatState) (h : ℕ) → t.inside ≡ None → OfHart t h (λ hart. None ≡ held_by t h (access_in hart)) → try_ended t h ≡ change_hart t h ended
ended_free t h inside none = ap (λ (f : FlatState). leave_hart f h ended) (sym (given_none t h none)) ∙ leave_nobody t h ended inside

-- an instruction that wants nothing
pub run_unit : (journals : JournalsKeepSound) (deltas : List DeltaValue) (s : FlatState) (h : ℕ) (hart : HartState) (word : ℕ) (inst : Inst) → FindsInst deltas s h hart word inst want.Nothing
    → IsLegalUnit deltas s h (Fetch hart.arch.pc word ∷ End (meaning_of inst hart.arch 0).pc ∷ []) (change_hart s h (hart_ran inst))
run_unit journals deltas s h hart word inst f =
    let r = f.finds.rests.rests in
    let x : HartState = fetched_with word hart in
    let t : FlatState = in_try s h word in
    let arch : ArchState = meaning_of inst hart.arch 0 in
    let new : FlatState = change_hart s h (hart_ran inst) in
    let there = in_try_there s h word hart f.finds.rests.there in
    let wants : want_in x ≡ Some want.Nothing = want_there x word inst want.Nothing refl f.is_inst f.wants in
    let is : arch_after x ≡ arch = arch_there x word inst want.Nothing refl f.is_inst f.wants (λ e. cc) in
    let none : None ≡ held_by t h (access_in x) = ap (λ (o : Option Want). held_by t h (access_of o)) (sym wants) in
    let ended_so : ended x ≡ hart_ran inst hart = ap (λ (a : ArchState). (let k : HartState = record (try_passed hart) { arch = a } in k)) is in
    let changed : try_ended t h ≡ new = ended_free t h r.no_one (and_some (slice_get t.harts h) _ x there none)
    ∙ ap (λ (harts : List HartState). (let k : FlatState = record s { harts = harts } in k)) (changed_twice s.harts h (fetched_with word) ended)
    ∙ alike s h hart (λ hart. ended (fetched_with word hart)) (hart_ran inst) f.finds.rests.there ended_so in
    unit_rests journals deltas s h (Fetch hart.arch.pc word ∷ End arch.pc ∷ []) new f.finds.rests.sound
    (fetch_first deltas s h hart word (End arch.pc ∷ []) new f.finds (end_unit deltas t new h x arch r.no_one there f.finds.runs (ap (is_done x) wants) is changed))
    r.no_one (none_tries s.harts h (hart_ran inst) r.no_try (λ hart. refl)) (settled_stays s.pages r.free)
