-- What the access of a hart asks for, where nobody holds a page and none is leaving; its page is met.
use Rattle.std.proofs.Common.{◌≡◌, ◌&&◌, ◌||◌, ◌++◌, ◌==◌, ℕ, List, [], ◌∷◌, Option, Some, None, Bool, true, false, refl, sym, ap, ◌∙◌, not, if◌then◌else◌, is_some, unwrap_or, arith}
use Rattle.std.specs.Prelude.{nat_lt}
use Rattle.std.specs.Option.{option_map}
use Rattle.std.specs.List.{AllByRecursion}
use Rattle.std.proofs.lemmas.Bool.Decides.{nat_tests}
use Rattle.rv_inst.specs.declared.inst.Inst.{Inst}
use Rattle.rv_inst.specs.declared.want.Want.{Want}
use Rattle.rv_inst.specs.declared.want.Want.TheVariants as want
use Rattle.rv_inst.specs.Decoding.{inst_of}
use Rattle.rv_inst.specs.Meanings.{want_of}
use Rattle.wf_outside.specs.Images.{DeltaValue}
use Rattle.wf_outside.specs.Pages.{PageValue, page_of}
use Rattle.wf_flat.specs.declared.event.Actor.{Actor}
use Rattle.wf_flat.specs.declared.event.Actor.TheVariants.{Hart}
use Rattle.wf_flat.specs.declared.event.Event.{Event}
use Rattle.wf_flat.specs.declared.event.Event.TheVariants.{Enter, Sync}
use Rattle.wf_flat.specs.declared.state.Stage.TheVariants.{Here}
use Rattle.wf_flat.specs.State.{FlatState, HartState, PageState}
use Rattle.wf_flat.specs.Accesses.{Access, access_of, accessed_data, accessed_text, has_moved, has_right, holds, holds_page, is_barred, is_here, is_open}
use Rattle.wf_flat.specs.Changes.{change_hart, entered, fetched_with, page_met, without}
use Rattle.wf_flat.specs.Lists.{found_by, inserted_by}
use Rattle.wf_flat.specs.Memory.{data_in, has_met, met_key, with_met}
use Rattle.wf_flat.specs.Serving.{IsAlone}
use Rattle.wf_flat.specs.Steps.{Ask, Faulted, ask_of, ask_of_access, ask_of_want, is_lost, is_inside, want_in}
use Rattle.wf_flat.proofs.ChangeLemmas.{sync_alone}
use Rattle.wf_flat.proofs.FoundLemmas.{data_number}
use Rattle.wf_verdict.specs.declared.work.Todo.TheVariants.{Exactly}
use Rattle.wf_legal.specs.Calls.{access_trap, todo_by, todo_of, todo_of_access, todo_of_page}
use Rattle.wf_legal.specs.Legal.{at_rest}
use Rattle.wf_legal.proofs.JournalLemmas.{self_inside}
use Rattle.wf_sound.specs.Laws.{JournalsKeepSound}
use Rattle.wf_sound.proofs.AllLemmas.{all_found}
use Rattle.wf_service.specs.Resting.{IsSettled}
use Rattle.wf_service.proofs.BeginLemmas.{in_try}
use Rattle.wf_service.proofs.QuietLemmas.{IsFree, all_but, but_changed}
use Rattle.wf_units.specs.Accessing.{FindsData, meeting_events}
use Rattle.wf_units.specs.Ends.{hart_trapped, now_met}
use Rattle.wf_units.specs.Instructions.{FindsInst, access_cause, is_faulty, is_page_faulty, trap_events}
use Rattle.wf_units.specs.Units.{IsLegalUnit}
use Rattle.wf_units.proofs.PlainLemmas.{asks_for, in_try_there, trap_unit, want_there}
use Rattle.wf_units.proofs.TryLemmas.{Asks, UnitFrom, unit_asked}

-- what is asked where an access is wanted
want_asks : (s : FlatState) (h : ℕ) (hart : HartState) (w : Want) (access : Access) → access_of (Some w) ≡ Some access → ask_of_want s h hart (Some w) ≡ ask_of_access s h hart (Some access)
want_asks s h hart want.Nothing access e = absurd (cc)
want_asks s h hart want.Call access e = absurd (cc)
want_asks s h hart (want.Trap cause value) access e = absurd (cc)
want_asks s h hart (want.Look va width) access e = ap (ask_of_access s h hart) e
want_asks s h hart (want.Reserve va width) access e = ap (ask_of_access s h hart) e
want_asks s h hart (want.Put va width value) access e = ap (ask_of_access s h hart) e
want_asks s h hart (want.PutIf va width value) access e = ap (ask_of_access s h hart) e
want_asks s h hart (want.Swap va width op value) access e = ap (ask_of_access s h hart) e

-- nobody holds the page of an access
none_holds : (o : Option PageState) (h : ℕ) → ((page : PageState) → o ≡ Some page → IsSettled page) → holds_page h o ≡ false
none_holds None h f = refl
none_holds (Some page) h f = let e : page.holder ≡ None = (f page refl).1 in rw e refl

pub settled_page : (pages : List PageState) (n : ℕ) (page : PageState) → AllByRecursion IsSettled pages → data_in pages n ≡ Some page → IsSettled page
settled_page pages n page free is = all_found (λ (page : PageState). page.number) IsSettled pages n page free is

pub not_held : (s : FlatState) (h : ℕ) (access : Access) → AllByRecursion IsSettled s.pages → holds s h access ≡ false
not_held s h access free = none_holds (accessed_data s access) h (λ page e. settled_page s.pages (page_of access.va) page free e)

barred_asks : (s : FlatState) (h : ℕ) (hart : HartState) (access : Access) → hart.looked ≡ None → holds s h access ≡ false → is_lost (want_in hart) hart.reservation ≡ false → is_barred s hart access ≡ true
    → ask_of_access s h hart (Some access) ≡ Some (Faulted access)
barred_asks s h hart access looked held lost barred = rw (looked, held, lost, barred) refl

-- an access that is barred is a fault
pub faulted : (s : FlatState) (h word : ℕ) (inst : Inst) (w : Want) (access : Access) (hart : HartState) → AllByRecursion IsSettled s.pages → hart.fetched ≡ Some word → inst_of word ≡ Some inst → want_of inst hart.arch ≡ w → access_of (Some w) ≡ Some access
    → hart.looked ≡ None → is_lost (Some w) hart.reservation ≡ false → is_barred s hart access ≡ true → ask_of s h hart ≡ Some (Faulted access)
faulted s h word inst w access hart free fetched is wants e looked kept barred =
    let lost : is_lost (want_in hart) hart.reservation ≡ false = ap (λ (o : Option Want). is_lost o hart.reservation) (want_there hart word inst w fetched is wants) ∙ kept in
    asks_for s h word inst w hart fetched is wants ∙ want_asks s h hart w access e ∙ barred_asks s h hart access looked (not_held s h access free) lost barred

todo_faulted : (deltas : List DeltaValue) (s : FlatState) (h : ℕ) (hart : HartState) (access : Access) → ask_of s h hart ≡ Some (Faulted access) → todo_by deltas s h hart ≡ todo_of_access s hart access
todo_faulted deltas s h hart access asks = ap (λ (o : Option Ask). unwrap_or (option_map (λ (a : Ask). todo_of deltas s hart a) o) []) asks

-- barred, where its page is not open
or_true : (b : Bool) → (b || true) ≡ true
or_true true = refl
or_true false = refl

closed_bars : (s : FlatState) (hart : HartState) (access : Access) → accessed_text s hart access ≡ None → is_open s hart access (accessed_data s access) ≡ false → is_barred s hart access ≡ true
closed_bars s hart access none closed = rw (none, closed) (or_true (has_moved hart (page_of access.va)))

-- an access that cannot be made
and_false : (a b : Bool) → b ≡ false → (a && b) ≡ false
and_false true b e = e
and_false false b e = refl

wrong_closes : (s : FlatState) (hart : HartState) (access : Access) (o : Option PageState) → is_page_faulty access o ≡ true → is_open s hart access o ≡ false
wrong_closes s hart access None e = refl
wrong_closes s hart access (Some page) e =
    let none : has_right access page ≡ false = no_right (has_right access page) e in
    rw none (and_false _ _ (and_false _ false refl))
  where
    no_right : (b : Bool) → not b ≡ true → b ≡ false
    no_right true e = absurd (cc)
    no_right false e = refl

pub faulty_barred : (s : FlatState) (hart : HartState) (access : Access) → is_faulty s hart access ≡ true → is_barred s hart access ≡ true
faulty_barred s hart access e = by_text (accessed_text s hart access) refl e
  where
    by_text : (o : Option PageValue) → accessed_text s hart access ≡ o → (if is_some o then access.write else is_page_faulty access (accessed_data s access)) ≡ true → is_barred s hart access ≡ true
    by_text None none e = closed_bars s hart access none (wrong_closes s hart access (accessed_data s access) e)
    by_text (Some page) text e = rw text e

page_trap : (s : FlatState) (hart : HartState) (access : Access) (o : Option PageState) → is_page_faulty access o ≡ true → todo_of_page s hart access o ≡ access_trap access
page_trap s hart access None e = refl
page_trap s hart access (Some page) e = by_right (has_right access page) refl e
  where
    by_right : (b : Bool) → has_right access page ≡ b → not b ≡ true → todo_of_page s hart access (Some page) ≡ access_trap access
    by_right true is e = absurd (cc)
    by_right false is e = let none : _ ≡ false = and_false (is_here page.stage) false refl in rw is (rw none refl)

pub faulty_traps : (s : FlatState) (hart : HartState) (access : Access) → is_faulty s hart access ≡ true → todo_of_access s hart access ≡ access_trap access
faulty_traps s hart access e = by_text (accessed_text s hart access) refl e
  where
    by_text : (o : Option PageValue) → accessed_text s hart access ≡ o → (if is_some o then access.write else is_page_faulty access (accessed_data s access)) ≡ true → todo_of_access s hart access ≡ access_trap access
    by_text None none e = rw none (page_trap s hart access (accessed_data s access) e)
    by_text (Some page) text e = rw text refl

-- an access that cannot be made stops its hart
pub fault_unit : (journals : JournalsKeepSound) (deltas : List DeltaValue) (s : FlatState) (h : ℕ) (hart : HartState) (word : ℕ) (inst : Inst) (w : Want) (access : Access) → FindsInst deltas s h hart word inst w → access_of (Some w) ≡ Some access
    → is_lost (Some w) hart.reservation ≡ false → is_faulty s hart access ≡ true → IsLegalUnit deltas s h (trap_events hart word (access_cause access) access.va) (change_hart s h (hart_trapped (access_cause access) access.va))
fault_unit journals deltas s h hart word inst w access f e kept wrong =
    let x : HartState = fetched_with word hart in
    let t : FlatState = in_try s h word in
    let free = f.finds.rests.rests.free in
    let asks : ask_of t h x ≡ Some (Faulted access) = faulted t h word inst w access x free refl f.is_inst f.wants e refl kept (faulty_barred t x access wrong) in
    let inside : ask_of (entered t (Hart h)) h x ≡ Some (Faulted access) = faulted (entered t (Hart h)) h word inst w access x free refl f.is_inst f.wants e refl kept (faulty_barred (entered t (Hart h)) x access wrong) in
    trap_unit journals deltas s h hart word (access_cause access) access.va (Faulted access) f.finds asks (todo_faulted deltas (entered t (Hart h)) h x access inside ∙ faulty_traps (entered t (Hart h)) x access wrong)

-- a page that is not met yet
unmet_closes : (s : FlatState) (hart : HartState) (access : Access) (page : PageState) → page.stage ≡ Here → has_met s.met hart.generation page.number ≡ false → is_open s hart access (Some page) ≡ false
unmet_closes s hart access page here unmet = rw (here, unmet) refl

unmet_syncs : (s : FlatState) (hart : HartState) (access : Access) (page : PageState) → page.stage ≡ Here → has_right access page ≡ true → has_met s.met hart.generation page.number ≡ false → todo_of_page s hart access (Some page) ≡ Exactly (Sync hart.generation page.number) ∷ []
unmet_syncs s hart access page here right unmet = rw (here, right, unmet) refl

-- the state in which the hart is in its try, where generations have met these pages
abbrev pub met_as : FlatState → List (ℕ × ℕ) → FlatState
met_as s met = record s { met = met }

abbrev pub trying : FlatState → ℕ → ℕ → List (ℕ × ℕ) → FlatState
trying s h word met = in_try (met_as s met) h word

-- what generations have met behind the meeting
abbrev pub met_behind : FlatState → HartState → ℕ → List (ℕ × ℕ)
met_behind s hart n = if has_met s.met hart.generation n then s.met else with_met s.met hart.generation n

left : (h : ℕ) → without (Some (Hart h)) (Hart h) ≡ None
left h = let k : is_inside (Some (Hart h)) (Hart h) ≡ true = self_inside h in rw k refl

module _ (deltas : List DeltaValue) (s : FlatState) (h : ℕ) (hart : HartState) (word : ℕ) (inst : Inst) (w : Want) (access : Access) (page : PageState) (f : FindsInst deltas s h hart word inst w) (e : access_of (Some w) ≡ Some access)
    (kept : is_lost (Some w) hart.reservation ≡ false) (d : FindsData s hart access.va page) (right : has_right access page ≡ true) where
  abbrev n : ℕ
  n = page_of access.va

  alone : IsAlone (in_try s h word) h
  alone = but_changed IsFree (fetched_with word) h s.harts (all_but IsFree h s.harts f.finds.rests.rests.no_try)

  -- the Sync is asked for
  sync_asks : has_met s.met hart.generation n ≡ false → Asks deltas (in_try s h word) h (fetched_with word hart) (Faulted access) (Sync hart.generation n) (trying s h word (with_met s.met hart.generation n))
  sync_asks unmet =
      let x : HartState = fetched_with word hart in
      let t : FlatState = in_try s h word in
      let u : FlatState = entered t (Hart h) in
      let g : ℕ = hart.generation in
      let r = f.finds.rests.rests in
      let number : page.number ≡ n = data_number s.pages n page d.there in
      let here = (settled_page s.pages n page r.free d.there).0 in
      let none : has_met s.met g page.number ≡ false = ap (has_met s.met g) number ∙ unmet in
      let shut : is_open t x access (accessed_data t access) ≡ false = ap (is_open t x access) d.there ∙ unmet_closes t x access page here none in
      let closed : is_open u x access (accessed_data u access) ≡ false = ap (is_open u x access) d.there ∙ unmet_closes u x access page here none in
      let asks : ask_of t h x ≡ Some (Faulted access) = faulted t h word inst w access x r.free refl f.is_inst f.wants e refl kept (closed_bars t x access d.no_text shut) in
      let inside : ask_of u h x ≡ Some (Faulted access) = faulted u h word inst w access x r.free refl f.is_inst f.wants e refl kept (closed_bars u x access d.no_text closed) in
      let textless : todo_of_access u x access ≡ todo_of_page u x access (accessed_data u access) = without_text u x access d.no_text in
      let todo : todo_by deltas u h x ≡ Exactly (Sync g n) ∷ [] = todo_faulted deltas u h x access inside ∙ textless ∙ ap (todo_of_page u x access) d.there ∙ unmet_syncs u x access page here right none ∙ ap (λ (k : ℕ). Exactly (Sync g k) ∷ []) number in
      let met : List (ℕ × ℕ) = with_met s.met g n in
      let changed : page_met u h g n ≡ trying s h word met = sym (sync_alone u h g n met alone refl) ∙ ap (λ (o : Option Actor). (let k : FlatState = record t { met = met; inside = o } in k)) (left h ∙ sym r.no_one) in
      record { inside = r.no_one; free = r.free; there = in_try_there s h word hart f.finds.rests.there; runs = f.finds.runs; asks = asks; todo = todo; closes = refl; moves = λ m. refl; changed = changed }
    where
      without_text : (u : FlatState) (x : HartState) (access : Access) → accessed_text u x access ≡ None → todo_of_access u x access ≡ todo_of_page u x access (accessed_data u access)
      without_text u x access none = rw none refl

  -- the page is met, where it is not yet
  pub meet_first : (events : List Event) (new : FlatState) → UnitFrom deltas (at_rest deltas (trying s h word (met_behind s hart n))) h events new → UnitFrom deltas (at_rest deltas (in_try s h word)) h (meeting_events s hart n ++ events) new
  meet_first events new rest = by_test (has_met s.met hart.generation n) refl rest
    where
      by_test : (b : Bool) → has_met s.met hart.generation n ≡ b → UnitFrom deltas (at_rest deltas (trying s h word (if b then s.met else with_met s.met hart.generation n))) h events new
          → UnitFrom deltas (at_rest deltas (in_try s h word)) h ((if b then [] else Enter ∷ Sync hart.generation n ∷ []) ++ events) new
      by_test true is rest = rest
      by_test false is rest = unit_asked deltas (in_try s h word) h (fetched_with word hart) (Faulted access) (Sync hart.generation n) (trying s h word (with_met s.met hart.generation n)) events new (sync_asks is) refl rest

-- the state that is then
pub now_met_is : (s : FlatState) (h : ℕ) (hart : HartState) (n : ℕ) → s.inside ≡ None → AllByRecursion IsFree s.harts → now_met s h hart n ≡ met_as s (met_behind s hart n)
now_met_is s h hart n inside free = by_test (has_met s.met hart.generation n)
  where
    met : List (ℕ × ℕ)
    met = with_met s.met hart.generation n

    outside : without s.inside (Hart h) ≡ s.inside
    outside = rw inside refl

    by_test : (b : Bool) → (if b then s else page_met s h hart.generation n) ≡ met_as s (if b then s.met else with_met s.met hart.generation n)
    by_test true = refl
    by_test false = sym (sync_alone s h hart.generation n (with_met s.met hart.generation n) (all_but IsFree h s.harts free) refl) ∙ ap (λ (o : Option Actor). (let k : FlatState = record s { met = with_met s.met hart.generation n; inside = o } in k)) outside

-- a page that is met now has been met
pub same_number : (n : ℕ) → (n == n) ≡ true
same_number n = grind (arith, nat_tests)

met_in : (met : List (ℕ × ℕ)) (pair : ℕ × ℕ) → is_some (found_by met_key (inserted_by met_key pair met) (met_key pair)) ≡ true
met_in [] pair = let self : (met_key pair == met_key pair) ≡ true = same_number (met_key pair) in rw self refl
met_in (other ∷ met) pair = by_order (met_in met pair) (nat_lt (met_key other) (met_key pair))
  where
    by_test : (b : Bool) (o : Option (ℕ × ℕ)) → is_some o ≡ true → is_some (if b then Some other else o) ≡ true
    by_test true o e = refl
    by_test false o e = e

    by_order : is_some (found_by met_key (inserted_by met_key pair met) (met_key pair)) ≡ true → (b : Bool) → is_some (found_by met_key (if b then other ∷ inserted_by met_key pair met else pair ∷ other ∷ met) (met_key pair)) ≡ true
    by_order rest true = by_test (met_key other == met_key pair) (found_by met_key (inserted_by met_key pair met) (met_key pair)) rest
    by_order rest false = let self : (met_key pair == met_key pair) ≡ true = same_number (met_key pair) in rw self refl

pub has_met_behind : (s : FlatState) (hart : HartState) (n : ℕ) → has_met (met_behind s hart n) hart.generation n ≡ true
has_met_behind s hart n = by_test (has_met s.met hart.generation n) refl
  where
    by_test : (b : Bool) → has_met s.met hart.generation n ≡ b → has_met (if b then s.met else with_met s.met hart.generation n) hart.generation n ≡ true
    by_test true is = is
    by_test false is = met_in s.met (hart.generation, n)
