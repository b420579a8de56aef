-- How the call of a hart begins.
use Rattle.std.proofs.Common.{◌≡◌, ◌≢◌, ◌<◌, ◌+◌, ◌^◌, ◌++◌, ℕ, zero, suc, List, [], ◌∷◌, Option, Some, None, Bool, true, false, refl, sym, subst, ap, ◌∙◌, arith, map, length}
use Rattle.std.specs.Prelude.{IsSomeAnd, MatchBool, slice_get}
use Rattle.std.specs.List.{AllByRecursion, filter}
use Rattle.rv_inst.specs.Meanings.{next_pc}
use Rattle.wf_outside.specs.Images.{DeltaValue}
use Rattle.wf_flat.specs.declared.event.Actor.{Actor}
use Rattle.wf_flat.specs.declared.event.Actor.TheVariants.{Hart}
use Rattle.wf_flat.specs.declared.event.Event.{Event}
use Rattle.wf_flat.specs.declared.event.Event.TheVariants.{Enter, Fetch}
use Rattle.wf_flat.specs.declared.event.Entry.{Entry}
use Rattle.wf_flat.specs.State.{FlatState, HartState, PageState}
use Rattle.wf_flat.specs.Accesses.{generation_text, is_ending}
use Rattle.wf_flat.specs.Memory.{word_at}
use Rattle.wf_flat.specs.Changes.{change_hart, entered, fetched_with}
use Rattle.wf_flat.specs.Follows.{IsUnit}
use Rattle.wf_flat.specs.Lists.{changed_at}
use Rattle.wf_flat.specs.Steps.{Called, MayAct, OfHart, ask_by, ask_of, ask_of_word, is_inside}
use Rattle.wf_flat.proofs.HartLemmas.{changed_get}
use Rattle.wf_flat.proofs.ListLemmas.{and_some, changed_next, length_changed, some_and}
use Rattle.wf_verdict.specs.declared.work.Todo.{Todo}
use Rattle.wf_verdict.specs.declared.work.Todo.TheVariants.{Exactly, Leaves}
use Rattle.wf_verdict.specs.Requests.{requested_by}
use Rattle.wf_legal.specs.Calls as calls
use Rattle.wf_legal.specs.Calls.{GoesOn, Settling, later, may_go, todo_by, todo_of_call}
use Rattle.wf_legal.specs.Events.{flat_after}
use Rattle.wf_legal.specs.Legal.{Allows, IsLegal, Moment, after, at_rest, end_of}
use Rattle.wf_sound.specs.Laws.{AllowedCanBeMade, EntriesKeepSound, JournalsKeepSound}
use Rattle.wf_sound.specs.Making.{CanBeMade}
use Rattle.wf_sound.specs.Sound.{IsSound}
use Rattle.wf_service.specs.Adding.{Adds, IsOpen}
use Rattle.wf_service.specs.Calling.{HasBegun, HasEntered, HasToDo, IsAtCall, IsInCall, IsPartOf, IsQuiet, entered_at, moment_with}
use Rattle.wf_service.specs.Resting.{IsResting, IsSettled}
use Rattle.wf_service.proofs.AddLemmas.{adds_more, adds_none, entry, open_join, unit_join}
use Rattle.wf_service.proofs.FirstLemmas.{HasFirst, IsKind, Step, first_allowed as allowed_first, first_step, has_first, todo_is}
use Rattle.wf_service.proofs.QuietLemmas.{IsFree, all_but, but_changed}

-- the work of a hart that has entered
abbrev pub IsWork : List DeltaValue → FlatState → ℕ → List Todo → Type 0
IsWork deltas s h todo = OfHart s h (λ hart. todo ≡ todo_of_call deltas s (next_pc hart.arch.pc) (requested_by hart))

same_hart : (s : FlatState) (h : ℕ) (x y : HartState) → slice_get s.harts h ≡ Some x → slice_get s.harts h ≡ Some y → x ≡ y
same_hart s h x y e f = cc

pub whole_work : (deltas : List DeltaValue) (s : FlatState) (h word : ℕ) (todo : List Todo) → HasEntered deltas s h word → IsWork deltas s h todo → OfHart s h (λ hart. todo ≡ todo_by deltas s h hart)
whole_work deltas s h word todo entered work =
    let w = some_and (slice_get s.harts h) (IsInCall word) entered.ready in
    let v = some_and (slice_get s.harts h) (λ hart. todo ≡ todo_of_call deltas s (next_pc hart.arch.pc) (requested_by hart)) work in
    let same : v.0 ≡ w.0 = same_hart s h v.0 w.0 v.1 w.1 in
    let is : todo ≡ todo_of_call deltas s (next_pc w.0.arch.pc) (requested_by w.0) = subst (λ (hart : HartState). todo ≡ todo_of_call deltas s (next_pc hart.arch.pc) (requested_by hart)) same v.2 in
    and_some (slice_get s.harts h) (λ hart. todo ≡ todo_by deltas s h hart) w.0 w.1 (is ∙ sym (todo_is deltas s h word w.0 w.2))

-- its first thing is an event
pub work_first : (deltas : List DeltaValue) (s : FlatState) (h : ℕ) (todo : List Todo) → IsWork deltas s h todo → HasFirst todo
work_first deltas s h todo work =
    let v = some_and (slice_get s.harts h) (λ hart. todo ≡ todo_of_call deltas s (next_pc hart.arch.pc) (requested_by hart)) work in
    subst HasFirst (sym v.2) (has_first deltas s (next_pc v.0.arch.pc) (requested_by v.0))

pub first_some : (todo : List Todo) → HasFirst todo → todo ≢ []
first_some todo first e = let n : Exactly first.event ∷ first.rest ≡ [] = sym first.is ∙ e in cc

pub first_plain : (todo : List Todo) → HasFirst todo → (page : ℕ) (rest : List Todo) → todo ≢ Leaves page ∷ rest
first_plain todo first page rest e = let n : Exactly first.event ∷ first.rest ≡ Leaves page ∷ rest = sym first.is ∙ e in cc

-- so it can be made
pub first_can : (can : AllowedCanBeMade) (deltas : List DeltaValue) (s : FlatState) (h word : ℕ) (todo : List Todo) (event : Event) → HasEntered deltas s h word → IsWork deltas s h todo → todo ≡ Exactly event ∷ later todo → CanBeMade deltas s (Hart h) event
first_can can deltas s h word todo event entered work first =
    let w = some_and (slice_get s.harts h) (IsInCall word) entered.ready in
    let v = some_and (slice_get s.harts h) (λ hart. todo ≡ todo_by deltas s h hart) (whole_work deltas s h word todo entered work) in
    let same : v.0 ≡ w.0 = same_hart s h v.0 w.0 v.1 w.1 in
    let is : todo ≡ todo_by deltas s h w.0 = subst (λ (hart : HartState). todo ≡ todo_by deltas s h hart) same v.2 in
    let births = entered.births in
    can (entered_at deltas s) (Hart h) event entered.sound (omega arith) (and_allowed w.0 w.1 w.2 is)
  where
    and_allowed : (hart : HartState) → slice_get s.harts h ≡ Some hart → IsInCall word hart → todo ≡ todo_by deltas s h hart → Allows (entered_at deltas s) (Hart h) event
    and_allowed hart there calling is = allowed_first deltas s h word hart there entered calling event (later todo) (sym is ∙ first)

-- and how the call stands behind it
pub first_stands : (keeps : EntriesKeepSound) (deltas : List DeltaValue) (s new : FlatState) (h word : ℕ) (todo : List Todo) → HasEntered deltas s h word → (b : HasBegun deltas s h todo new) → Step (entered_at deltas s) h b.event (later todo)
first_stands keeps deltas s new h word todo entered b =
    let w = some_and (slice_get s.harts h) (IsInCall word) entered.ready in
    let v = some_and (slice_get s.harts h) (λ hart. todo ≡ todo_by deltas s h hart) b.whole in
    let same : v.0 ≡ w.0 = same_hart s h v.0 w.0 v.1 w.1 in
    let is : todo ≡ todo_by deltas s h w.0 = subst (λ (hart : HartState). todo ≡ todo_by deltas s h hart) same v.2 in
    let f : HasFirst todo = subst HasFirst (sym (is ∙ todo_is deltas s h word w.0 w.2)) (has_first deltas s (next_pc w.0.arch.pc) (requested_by w.0)) in
    let heads : Exactly b.event ∷ later todo ≡ Exactly f.event ∷ f.rest = sym b.first ∙ f.is in
    let event : f.event ≡ b.event = cc in
    let rest : f.rest ≡ later todo = cc in
    let kind : IsKind b.event (later todo) = subst (λ (e : Event). IsKind e (later todo)) event (subst (λ (l : List Todo). IsKind f.event l) rest f.kind) in
    first_step keeps deltas s h word w.0 w.1 entered w.2 b.event (later todo) kind (sym is ∙ b.first)

-- a hart enters: its Fetch and its Enter are allowed, and nothing is owed
owes_none : (pages : List PageState) → AllByRecursion IsSettled pages → map (λ page. page.number) (filter may_go pages) ≡ []
owes_none [] all = refl
owes_none (page ∷ pages) all = rw all.0.0 (owes_none pages all.1)

settled_stays : (pages : List PageState) → AllByRecursion IsSettled pages → AllByRecursion (λ page. is_ending page.stage ≡ false) pages
settled_stays [] all = tt
settled_stays (page ∷ pages) all = (rw all.0.0 refl, settled_stays pages all.1)

allowed_outside : (m : Moment) (h : ℕ) (e : Event) → m.flat.inside ≡ None → MayAct m.flat (Hart h) e → Allows m (Hart h) e
allowed_outside m h e rest p =
    subst (λ (b : Bool). MatchBool b (GoesOn m.deltas m.flat (Hart h) m.call e) (MayAct m.flat (Hart h) e)) (sym (ap (λ (i : Option Actor). is_inside i (Hart h)) rest)) p

abbrev pub in_try : FlatState → ℕ → ℕ → FlatState
in_try s h word = change_hart s h (fetched_with word)

abbrev pub inside_with : FlatState → ℕ → ℕ → FlatState
inside_with s h word = entered (in_try s h word) (Hart h)

abbrev pub two : ℕ → ℕ → ℕ → List Entry
two h pc word = entry h (Fetch pc word) ∷ entry h Enter ∷ []

pub record Enters (deltas : List DeltaValue) (s : FlatState) (h pc word : ℕ) : Type 0 where
  pub legal : IsLegal (at_rest deltas s) (two h pc word)
  pub reached : entered_at deltas (inside_with s h word) ≡ end_of (at_rest deltas s) (two h pc word)

pub enters : (deltas : List DeltaValue) (s : FlatState) (h pc word : ℕ) → IsResting s → OfHart s h (λ hart. IsAtCall s word hart × (pc ≡ hart.arch.pc)) → Enters deltas s h pc word
enters deltas s h pc word r ready =
    let w = some_and (slice_get s.harts h) (λ hart. IsAtCall s word hart × (pc ≡ hart.arch.pc)) ready in
    let hart : HartState = w.0 in
    let at : IsAtCall s word w.0 = w.2.0 in
    let text : word_at (generation_text s w.0.generation) pc ≡ Some word = subst (λ (a : ℕ). word_at (generation_text s w.0.generation) a ≡ Some word) (sym w.2.1) at.text in
    let may : MayAct s (Hart h) (Fetch pc word) = and_some (slice_get s.harts h) _ w.0 w.1 (at.runs, (at.no_try, w.2.1, text)) in
    let fetched : Allows (at_rest deltas s) (Hart h) (Fetch pc word) = allowed_outside (at_rest deltas s) h (Fetch pc word) r.no_one may in
    let t : FlatState = in_try s h word in
    let first : after (at_rest deltas s) (Hart h) (Fetch pc word) ≡ at_rest deltas t = rw r.no_one refl in
    let there : slice_get t.harts h ≡ Some (fetched_with word w.0) = changed_get s.harts h (fetched_with word) w.0 w.1 in
    let asks : ask_of t h (fetched_with word w.0) ≡ Some Called = rw at.ecall refl in
    let some : ask_of t h (fetched_with word w.0) ≢ None = λ e. (let k : Some Called ≡ None = sym asks ∙ e in cc) in
    let enter : MayAct t (Hart h) Enter = and_some (slice_get t.harts h) _ (fetched_with word w.0) there (at.runs, (r.no_one, some)) in
    let allowed : Allows (at_rest deltas t) (Hart h) Enter = allowed_outside (at_rest deltas t) h Enter r.no_one enter in
    let second : after (at_rest deltas t) (Hart h) Enter ≡ entered_at deltas (inside_with s h word)
    = ap (λ (owed : List ℕ). (let m : Moment = record { deltas = deltas; flat = inside_with s h word; call = Some (Settling owed None) } in m)) (owes_none s.pages r.free) in
    record {
      legal = (fetched, (subst (λ (m : Moment). Allows m (Hart h) Enter) (sym first) allowed, tt));
      reached = sym (ap (λ (m : Moment). after m (Hart h) Enter) first ∙ second);
    }

pub has_entered : (journals : JournalsKeepSound) (deltas : List DeltaValue) (s : FlatState) (h pc word : ℕ) → IsSound (at_rest deltas s) → s.births + 65536 < 2 ^ 64 → IsResting s → OfHart s h (λ hart. IsAtCall s word hart × (pc ≡ hart.arch.pc)) → HasEntered deltas (inside_with s h word) h word
has_entered journals deltas s h pc word sound births r ready =
    let w = some_and (slice_get s.harts h) (λ hart. IsAtCall s word hart × (pc ≡ hart.arch.pc)) ready in
    let e = enters deltas s h pc word r ready in
    record {
      sound = subst IsSound (sym e.reached) (journals (at_rest deltas s) (two h pc word) sound e.legal);
      inside = refl;
      quiet = record { alone = but_changed IsFree (fetched_with word) h s.harts (all_but IsFree h s.harts r.no_try); stays = settled_stays s.pages r.free };
      ready = and_some (slice_get (in_try s h word).harts h) (IsInCall word) (fetched_with word w.0) (changed_get s.harts h (fetched_with word) w.0 w.1) (record { runs = w.2.0.runs; fetched = refl; ecall = w.2.0.ecall });
      births = births;
    }

-- the whole call: its first three entries, and what comes behind them
pub call_begun : (keeps : EntriesKeepSound) (deltas : List DeltaValue) (s new : FlatState) (h pc word : ℕ) (before now : List Entry) (todo : List Todo) → IsResting s → OfHart s h (λ hart. IsAtCall s word hart × (pc ≡ hart.arch.pc)) → HasEntered deltas (inside_with s h word) h word
    → (b : HasBegun deltas (inside_with s h word) h todo new) → now ≡ before ++ (entry h (Fetch pc word) ∷ entry h Enter ∷ entry h b.event ∷ []) → Adds (at_rest deltas s) before (moment_with deltas new (later todo)) now (IsPartOf h (later todo))
call_begun keeps deltas s new h pc word before now todo r ready entered b written =
    let e = enters deltas s h pc word r ready in
    let step = first_stands keeps deltas (inside_with s h word) new h word todo entered b in
    let open_two : IsOpen h (two h pc word) = ((refl, refl), ((refl, refl), tt)) in
    let m : Moment = entered_at deltas (inside_with s h word) in
    let next : after m (Hart h) b.event ≡ moment_with deltas new (later todo) = step.next ∙ ap (λ (f : FlatState). moment_with deltas f (later todo)) (sym b.changed) in
    record {
      made = two h pc word ++ entry h b.event ∷ [];
      appended = written;
      legal = (e.legal.0, (e.legal.1.0, (subst (λ (m : Moment). Allows m (Hart h) b.event) e.reached step.allowed, tt)));
      reached = sym next ∙ ap (λ (m : Moment). after m (Hart h) b.event) e.reached;
      fits = step.part (two h pc word) open_two;
    }

pub call_todo : (keeps : EntriesKeepSound) (deltas : List DeltaValue) (s new : FlatState) (h word : ℕ) (todo : List Todo) → HasEntered deltas s h word → (b : HasBegun deltas s h todo new) → HasToDo new h (later todo)
call_todo keeps deltas s new h word todo entered b =
    let step = first_stands keeps deltas s new h word todo entered b in
    subst (λ (f : FlatState). HasToDo f h (later todo)) (sym b.changed) step.todo

pub call_harts : (keeps : EntriesKeepSound) (deltas : List DeltaValue) (s new : FlatState) (h word : ℕ) (todo : List Todo) → HasEntered deltas s h word → (b : HasBegun deltas s h todo new) → length new.harts ≡ length s.harts
call_harts keeps deltas s new h word todo entered b =
    let step = first_stands keeps deltas s new h word todo entered b in
    ap (λ (f : FlatState). length f.harts) b.changed ∙ step.harts

-- what is taken back
set_back : {A : Type 0} (xs : List A) (i : ℕ) (f : A → A) (x : A) → slice_get xs i ≡ Some x → changed_at (changed_at xs i f) i (λ y. x) ≡ xs
set_back {A = A} [] i f x e = refl
set_back {A = A} (y ∷ ys) zero f x e = let same : y ≡ x = cc in ap (λ (z : A). z ∷ ys) (sym same)
set_back {A = A} (y ∷ ys) (suc i) f x e = rw (changed_next y ys i f) (changed_next y (changed_at ys i f) i (λ z. x) ∙ ap (λ (zs : List A). y ∷ zs) (set_back ys i f x e))

pub taken_back : (s : FlatState) (h word : ℕ) (hart : HartState) → slice_get s.harts h ≡ Some hart → s.inside ≡ None → record (inside_with s h word) { harts = changed_at (inside_with s h word).harts h (λ state. hart); inside = None } ≡ s
taken_back s h word hart there inside =
    ap (λ (harts : List HartState). record s { harts = harts; inside = None }) (set_back s.harts h (fetched_with word) hart there) ∙ sym (ap (λ (i : Option Actor). record s { inside = i }) inside)

pub at_pc : (s : FlatState) (h pc word : ℕ) (hart : HartState) → OfHart s h (IsAtCall s word) → slice_get s.harts h ≡ Some hart → pc ≡ hart.arch.pc → OfHart s h (λ hart. IsAtCall s word hart × (pc ≡ hart.arch.pc))
at_pc s h pc word hart ready there is =
    let w = some_and (slice_get s.harts h) (IsAtCall s word) ready in
    let same : w.0 ≡ hart = same_hart s h w.0 hart w.1 there in
    and_some (slice_get s.harts h) (λ hart. IsAtCall s word hart × (pc ≡ hart.arch.pc)) hart there (subst (IsAtCall s word) same w.2, is)

one_event : (todo : List Todo) (e f : Event) → todo ≡ Exactly e ∷ later todo → todo ≡ Exactly f ∷ later todo → e ≡ f
one_event todo e f is other = let both : Exactly e ∷ later todo ≡ Exactly f ∷ later todo = sym is ∙ other in cc

pub served : (keeps : EntriesKeepSound) (deltas : List DeltaValue) (s mid new : FlatState) (h pc word : ℕ) (before now : List Entry) (todo one other : List Todo) (event : Event) → IsResting s → OfHart s h (λ hart. IsAtCall s word hart × (pc ≡ hart.arch.pc))
    → mid ≡ inside_with s h word → HasEntered deltas mid h word → HasBegun deltas mid h todo new → one ≡ todo → other ≡ todo → one ≡ Exactly event ∷ later one → now ≡ before ++ (entry h (Fetch pc word) ∷ entry h Enter ∷ entry h event ∷ [])
    → Adds (at_rest deltas s) before (moment_with deltas new (later other)) now (IsPartOf h (later other))
served keeps deltas s mid new h pc word before now todo one other event r ready is has b same also first written =
    let e : HasEntered deltas (inside_with s h word) h word = subst (λ (f : FlatState). HasEntered deltas f h word) is has in
    let begun : HasBegun deltas (inside_with s h word) h todo new = subst (λ (f : FlatState). HasBegun deltas f h todo new) is b in
    let head : todo ≡ Exactly event ∷ later todo = subst (λ (l : List Todo). l ≡ Exactly event ∷ later l) same first in
    let events : event ≡ begun.event = one_event todo event begun.event head begun.first in
    let put : now ≡ before ++ (entry h (Fetch pc word) ∷ entry h Enter ∷ entry h begun.event ∷ []) = written ∙ ap (λ (x : Event). before ++ (entry h (Fetch pc word) ∷ entry h Enter ∷ entry h x ∷ [])) events in
    subst (λ (l : List Todo). Adds (at_rest deltas s) before (moment_with deltas new (later l)) now (IsPartOf h (later l))) (sym also) (call_begun keeps deltas s new h pc word before now todo r ready e begun put)

pub served_todo : (keeps : EntriesKeepSound) (deltas : List DeltaValue) (s new : FlatState) (h word : ℕ) (todo other : List Todo) → HasEntered deltas s h word → HasBegun deltas s h todo new → other ≡ todo → HasToDo new h (later other)
served_todo keeps deltas s new h word todo other e b also = subst (λ (l : List Todo). HasToDo new h (later l)) (sym also) (call_todo keeps deltas s new h word todo e b)

pub back_to : (s mid new back : FlatState) (h word : ℕ) (hart : HartState) → mid ≡ inside_with s h word → new ≡ mid → back ≡ record new { harts = changed_at new.harts h (λ state. hart); inside = None } → slice_get s.harts h ≡ Some hart → s.inside ≡ None → back ≡ s
back_to s mid new back h word hart is same put there inside =
    put ∙ ap (λ (f : FlatState). record f { harts = changed_at f.harts h (λ state. hart); inside = None }) (same ∙ is) ∙ taken_back s h word hart there inside

pub mid_harts : (s mid : FlatState) (h word : ℕ) → mid ≡ inside_with s h word → length mid.harts ≡ length s.harts
mid_harts s mid h word is = ap (λ (f : FlatState). length f.harts) is ∙ length_changed (fetched_with word) s.harts h
