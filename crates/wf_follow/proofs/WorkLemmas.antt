-- What a call has to do: of a hart for which no page has moved, and of the kernel's own actor.
use Rattle.std.proofs.Common.{◌≡◌, ◌⊎◌, ℕ, zero, suc, List, [], ◌∷◌, ◌++◌, ◌+◌, ◌≤◌, ◌<◌, Option, Some, None, Bool, true, false, length, refl, sym, subst, ◌∙◌, inl, inr, arith}
use Rattle.std.specs.Prelude.{MatchBool, ◌&&◌, if◌then◌else◌, is_some, map, not, unwrap_or}
use Rattle.std.specs.Option.{option_map}
use Rattle.std.specs.List.{range_with_len}
use Rattle.std.proofs.lemmas.Bool.{and_parts, cases_lt}
use Rattle.rv_inst.specs.declared.inst.Inst.{Inst}
use Rattle.rv_inst.specs.declared.want.Want.{Want}
use Rattle.rv_inst.specs.declared.want.Want.TheVariants as want
use Rattle.rv_inst.specs.Decoding.{inst_of}
use Rattle.rv_inst.specs.Meanings.{next_pc, want_of}
use Rattle.wf_outside.specs.declared.refusal.Refusal.{Refusal}
use Rattle.wf_outside.specs.Images.{DeltaValue}
use Rattle.wf_outside.specs.Pages.{page_of}
use Rattle.wf_flat.specs.declared.event.Event.{Event}
use Rattle.wf_flat.specs.declared.event.Event.TheVariants.{Again, Born, Dead, End, Ending, Exit, Going, Gone, Map, Move, Out, Refused, Sync, Trap}
use Rattle.wf_flat.specs.declared.state.Stage.{Stage}
use Rattle.wf_flat.specs.declared.state.Stage.TheVariants as stages
use Rattle.wf_flat.specs.State.{FlatState, HartState, PageState}
use Rattle.wf_flat.specs.Memory.{data_in, has_met, word_at}
use Rattle.wf_flat.specs.Accesses.{Access, access_of, accessed_data, accessed_text, generation_text, has_moved, has_right, is_barred, is_ending, is_free, is_here, is_open}
use Rattle.wf_flat.specs.Steps.{Ask, Called, Faulted, Stopped, ask_by, ask_of, ask_of_access, ask_of_fetch, ask_of_want, ask_of_word, asks_access}
use Rattle.wf_effects.specs.declared.ranges.PageRun.{PageRun}
use Rattle.wf_effects.specs.Generations.{newest}
use Rattle.wf_effects.specs.Ranges.{runs_of}
use Rattle.wf_verdict.specs.declared.requests.Request.{Request}
use Rattle.wf_verdict.specs.declared.requests.Request.TheVariants.{Exits, PutsByte, Maps, Unmaps, TellsGeneration, Migrates, Quiesces, Deletes, Clones, Patches, NoCall}
use Rattle.wf_verdict.specs.declared.work.Todo.{Todo}
use Rattle.wf_verdict.specs.declared.work.Todo.TheVariants.{Exactly, Leaves}
use Rattle.wf_verdict.specs.Requests.{requested_by}
use Rattle.wf_verdict.specs.Verdict.{delta_at, pages_from, refusal_of}
use Rattle.wf_verdict.specs.Work.{map_of, refused_or, work_of}
use Rattle.wf_legal.specs.Calls.{IsGone, IsLeaving, IsNext, access_trap, ending_of, later, todo_by, todo_of, todo_of_access, todo_of_call, todo_of_page}
use Rattle.wf_follow.proofs.BirthLemmas.{IsFew}

-- the page is to leave
abbrev pub IsToLeave : ℕ → List Todo → Type 0
IsToLeave page [] = ⊥
IsToLeave page (Exactly event ∷ todo) = IsToLeave page todo
IsToLeave page (Leaves other ∷ todo) = (page ≡ other) ⊎ IsToLeave page todo

-- each of so many pages from one on is to leave
abbrev pub AreToLeave : ℕ → ℕ → List Todo → Type 0
AreToLeave first n todo = (page : ℕ) → first ≤ page → page < first + n → IsToLeave page todo

-- An event of a hart's call, and what is to be done behind it: what closes the call is the last; and
-- where an unmap begins, its pages are to leave.
abbrev pub FitsBefore : Event → List Todo → Type 0
FitsBefore (End pc) todo = todo ≡ []
FitsBefore (Sync generation page) todo = todo ≡ []
FitsBefore (Trap cause value) todo = todo ≡ []
FitsBefore (Exit code) todo = todo ≡ []
FitsBefore (Out byte) todo = Unit {0}
FitsBefore (Map page n write patch) todo = Unit {0}
FitsBefore (Going page n) todo = AreToLeave page n todo
FitsBefore (Born generation parent patch) todo = Unit {0}
FitsBefore (Move generation) todo = Unit {0}
FitsBefore (Dead generation) todo = Unit {0}
FitsBefore (Refused reason) todo = Unit {0}
FitsBefore event todo = ⊥

-- what a hart's call has still to do
abbrev pub IsHartWork : List Todo → Type 0
IsHartWork [] = Unit {0}
IsHartWork (Exactly event ∷ todo) = FitsBefore event todo × IsHartWork todo
IsHartWork (Leaves page ∷ todo) = IsHartWork todo

-- all that it has to do begins with no page that leaves
abbrev pub IsHartStart : List Todo → Type 0
IsHartStart [] = Unit {0}
IsHartStart (Exactly event ∷ todo) = FitsBefore event todo × IsHartWork todo
IsHartStart (Leaves page ∷ todo) = ⊥

pub start_work : (todo : List Todo) → IsHartStart todo → IsHartWork todo
start_work [] start = tt
start_work (Exactly event ∷ todo) start = start
start_work (Leaves page ∷ todo) start = absurd start

-- where no page has moved, a page that is Here, with the right and met, is not barred
opens : (stage : Stage) (met right : Bool) → (is_here stage && right) ≡ true → met ≡ true → (is_here stage && (not (is_ending stage) && met && right)) ≡ true
opens stages.Here true true here m = refl
opens stages.Here false right here m = absurd (cc)
opens stages.Here true false here m = absurd (cc)
opens stages.Going met right here m = absurd (cc)
opens stages.Ending met right here m = absurd (cc)

not_barred : (s : FlatState) (hart : HartState) (access : Access) (page : PageState) → hart.moved ≡ [] → is_some (accessed_text s hart access) ≡ false → accessed_data s access ≡ Some page
    → (is_here page.stage && has_right access page) ≡ true → has_met s.met hart.generation page.number ≡ true → is_barred s hart access ≡ false
not_barred s hart access page moved text is here met =
    let still : has_moved hart (page_of access.va) ≡ false = rw moved refl in
    let reached : is_open s hart access (Some page) ≡ true = opens page.stage (has_met s.met hart.generation page.number) (has_right access page) here met in
    let there : is_open s hart access (accessed_data s access) ≡ true = subst (λ (o : Option PageState). is_open s hart access o ≡ true) (sym is) reached in
    rw (text, still, there) refl

not_true : (b : Bool) → not b ≡ false → b ≡ true
not_true true e = refl
not_true false e = absurd (cc)

-- what is done about a barred access
page_start : (s : FlatState) (hart : HartState) (access : Access) (o : Option PageState) → hart.moved ≡ [] → is_some (accessed_text s hart access) ≡ false → accessed_data s access ≡ o → is_barred s hart access ≡ true
    → IsHartStart (todo_of_page s hart access o)
page_start s hart access None moved text is barred = (refl, tt)
page_start s hart access (Some page) moved text is barred = by_tests (not (is_here page.stage && has_right access page)) (has_met s.met hart.generation page.number) refl refl
  where
    by_tests : (a b : Bool) → not (is_here page.stage && has_right access page) ≡ a → has_met s.met hart.generation page.number ≡ b
        → IsHartStart (if a then access_trap access else if b then Exactly (Again page.number) ∷ [] else Exactly (Sync hart.generation page.number) ∷ [])
    by_tests true b f g = (refl, tt)
    by_tests false true f g = absurd (let open_now = not_barred s hart access page moved text is (not_true (is_here page.stage && has_right access page) f) g in cc)
    by_tests false false f g = (refl, tt)

access_start : (s : FlatState) (hart : HartState) (access : Access) → hart.moved ≡ [] → is_barred s hart access ≡ true → IsHartStart (todo_of_access s hart access)
access_start s hart access moved barred = by_test (is_some (accessed_text s hart access)) refl
  where
    by_test : (b : Bool) → is_some (accessed_text s hart access) ≡ b → IsHartStart (if b then access_trap access else todo_of_page s hart access (accessed_data s access))
    by_test true text = (refl, tt)
    by_test false text = page_start s hart access (accessed_data s access) moved text refl barred

-- how a program's call ends
ending_work : (next : ℕ) (request : Request) → IsHartWork (ending_of next request)
ending_work next (Exits code) = tt
ending_work next request = (refl, tt)

-- the pages of an unmap leave
range_leaves : (first n : ℕ) (todo : List Todo) → AreToLeave first n (map Leaves (range_with_len first n) ++ todo)
range_leaves first zero todo page low high = absurd (omega arith)
range_leaves first (suc n) todo page low high = elim (cases_lt first page) [
  | inl lt ↦ inr (range_leaves (first + 1) n todo page (omega arith) (omega arith))
  | inr le ↦ inl (omega arith)
]

leaves_work : (pages : List ℕ) (todo : List Todo) → IsHartWork todo → IsHartWork (map Leaves pages ++ todo)
leaves_work [] todo work = work
leaves_work (page ∷ pages) todo work = leaves_work pages todo work

-- the runs of a patch are mapped, and a generation is born
runs_work : (patch : ℕ) (runs : List PageRun) (born next : ℕ) (parent : ℕ) → IsHartStart ((map (map_of patch) runs ++ Exactly (Born born parent (Some patch)) ∷ []) ++ Exactly (End next) ∷ [])
runs_work patch [] born next parent = (tt, (refl, tt))
runs_work patch (run ∷ runs) born next parent = (tt, start_work _ (runs_work patch runs born next parent))

-- what is done about a request of a program
work_start : (deltas : List DeltaValue) (s : FlatState) (next : ℕ) (request : Request) → IsHartStart (work_of deltas s request ++ ending_of next request)
work_start deltas s next (Exits code) = (refl, tt)
work_start deltas s next (PutsByte byte) = (tt, (refl, tt))
work_start deltas s next (Maps va pages right) = (tt, (refl, tt))
work_start deltas s next (Unmaps va pages) = (range_leaves (page_of va) pages (Exactly (End next) ∷ []), leaves_work (pages_from va pages) (Exactly (End next) ∷ []) (refl, tt))
work_start deltas s next TellsGeneration = (refl, tt)
work_start deltas s next (Migrates generation) = (tt, (refl, tt))
work_start deltas s next Quiesces = (tt, (refl, tt))
work_start deltas s next (Deletes generation) = (tt, (refl, tt))
work_start deltas s next (Clones generation) = (tt, (refl, tt))
work_start deltas s next (Patches patch) = runs_work patch (runs_of (delta_at deltas patch).shared) (length s.gens) next (newest s)
work_start deltas s next (NoCall number) = (refl, tt)

call_start : (deltas : List DeltaValue) (s : FlatState) (next : ℕ) (request : Request) → IsHartStart (todo_of_call deltas s next request)
call_start deltas s next request = by_refusal (refusal_of deltas s next request)
  where
    by_refusal : (o : Option Refusal) → IsHartStart (refused_or o (work_of deltas s request) ++ ending_of next request)
    by_refusal None = work_start deltas s next request
    by_refusal (Some reason) = (tt, ending_work next request)

-- a hart that faults is barred
access_faults : (s : FlatState) (h : ℕ) (hart : HartState) (access : Access) (o : Option Access) → ask_of_access s h hart o ≡ Some (Faulted access) → is_barred s hart access ≡ true
access_faults s h hart access None e = absurd (cc)
access_faults s h hart access (Some other) e = by_test (asks_access s h hart other) refl e
  where
    by_test : (b : Bool) → asks_access s h hart other ≡ b → (if b then Some (Faulted other) else None) ≡ Some (Faulted access) → is_barred s hart access ≡ true
    by_test true asks e =
        let same : other ≡ access = cc in
        subst (λ (x : Access). is_barred s hart x ≡ true) same (and_parts _ _ asks).1
    by_test false asks e = absurd (cc)

want_faults : (s : FlatState) (h : ℕ) (hart : HartState) (access : Access) (w : Want) → ask_of_want s h hart (Some w) ≡ Some (Faulted access) → is_barred s hart access ≡ true
want_faults s h hart access want.Call e = absurd (cc)
want_faults s h hart access (want.Trap cause value) e = absurd (cc)
want_faults s h hart access w e = access_faults s h hart access (access_of (Some w)) e

word_faults : (s : FlatState) (h : ℕ) (hart : HartState) (access : Access) (word : ℕ) (o : Option Inst) → ask_of_word s h hart word o ≡ Some (Faulted access) → is_barred s hart access ≡ true
word_faults s h hart access word None e = absurd (cc)
word_faults s h hart access word (Some inst) e = want_faults s h hart access (want_of inst hart.arch) e

fetch_faults : (access : Access) (pc : ℕ) (o : Option ℕ) → ask_of_fetch pc o ≡ Some (Faulted access) → ⊥
fetch_faults access pc None e = cc
fetch_faults access pc (Some word) e = cc

faults_by : (s : FlatState) (h : ℕ) (hart : HartState) (access : Access) (o : Option ℕ) → ask_by s h hart o ≡ Some (Faulted access) → is_barred s hart access ≡ true
faults_by s h hart access None e = absurd (fetch_faults access hart.arch.pc (word_at (generation_text s hart.generation) hart.arch.pc) e)
faults_by s h hart access (Some word) e = word_faults s h hart access word (inst_of word) e

-- what is done about what a hart asks for, for which no page has moved
pub todo_start : (deltas : List DeltaValue) (s : FlatState) (h : ℕ) (hart : HartState) → hart.moved ≡ [] → IsHartStart (todo_by deltas s h hart)
todo_start deltas s h hart moved = by_ask (ask_of s h hart) refl
  where
    by_ask : (o : Option Ask) → ask_of s h hart ≡ o → IsHartStart (unwrap_or (option_map (λ (ask : Ask). todo_of deltas s hart ask) o) [])
    by_ask None e = tt
    by_ask (Some Called) e = call_start deltas s (next_pc hart.arch.pc) (requested_by hart)
    by_ask (Some (Stopped cause value)) e = (refl, tt)
    by_ask (Some (Faulted access)) e = access_start s hart access moved (faults_by s h hart access hart.fetched e)

pub later_work : (todo : List Todo) → IsHartWork todo → IsHartWork (later todo)
later_work [] work = tt
later_work (Exactly event ∷ todo) work = work.1
later_work (Leaves page ∷ todo) work = work

-- an event of a hart's call
abbrev pub is_hart_event : Event → Bool
is_hart_event (End pc) = true
is_hart_event (Sync generation page) = true
is_hart_event (Trap cause value) = true
is_hart_event (Exit code) = true
is_hart_event (Out byte) = true
is_hart_event (Map page n write patch) = true
is_hart_event (Going page n) = true
is_hart_event (Gone page worn) = true
is_hart_event (Born generation parent patch) = true
is_hart_event (Move generation) = true
is_hart_event (Dead generation) = true
is_hart_event (Refused reason) = true
is_hart_event event = false

pub fits_event : (event : Event) (todo : List Todo) → FitsBefore event todo → is_hart_event event ≡ true
fits_event (End pc) todo fits = refl
fits_event (Sync generation page) todo fits = refl
fits_event (Trap cause value) todo fits = refl
fits_event (Exit code) todo fits = refl
fits_event (Out byte) todo fits = refl
fits_event (Map page n write patch) todo fits = refl
fits_event (Going page n) todo fits = refl
fits_event (Born generation parent patch) todo fits = refl
fits_event (Move generation) todo fits = refl
fits_event (Dead generation) todo fits = refl
fits_event (Refused reason) todo fits = refl
fits_event event todo fits = absurd fits

-- one event at most is the first of what is to be done, where no frame is worn
gone_unworn : (s : FlatState) (page : ℕ) (e : Event) → IsFew s → IsGone s page e → e ≡ Gone page false
gone_unworn s page e few gone = elim gone [ inl is ↦ is | inr worn ↦ absurd (let most = worn.1 in omega arith) ]

leaving_same : (s : FlatState) (page : ℕ) (o : Option PageState) (e f : Event) → IsFew s → IsLeaving s page o e → IsLeaving s page o f → e ≡ f
leaving_same s page None e f few p q = absurd p
leaving_same s page (Some found) e f few p q = by_free (is_free found) p q
  where
    by_free : (b : Bool) → MatchBool b (IsGone s page e) (e ≡ Ending page) → MatchBool b (IsGone s page f) (f ≡ Ending page) → e ≡ f
    by_free true p q = gone_unworn s page e few p ∙ sym (gone_unworn s page f few q)
    by_free false p q = p ∙ sym q

pub next_same : (s : FlatState) (todo : List Todo) (e f : Event) → IsFew s → IsNext s todo e → IsNext s todo f → e ≡ f
next_same s [] e f few p q = absurd p
next_same s (Exactly next ∷ todo) e f few p q = p ∙ sym q
next_same s (Leaves page ∷ todo) e f few p q = leaving_same s page (data_in s.pages page) e f few p q
