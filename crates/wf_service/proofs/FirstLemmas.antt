-- What the call of a hart has to do, and what comes of the first of it.
use Rattle.std.proofs.Common.{◌≡◌, ◌≢◌, ◌++◌, ◌==◌, ℕ, zero, suc, length, List, [], ◌∷◌, Option, Some, None, Bool, true, false, refl, sym, subst, ap, ◌∙◌, inr, map, if◌then◌else◌, unwrap_or}
use Rattle.std.specs.Prelude.{MatchBool, slice_get}
use Rattle.std.proofs.lemmas.List.{length-map}
use Rattle.std.specs.Option.{option_and_then, option_map}
use Rattle.std.specs.List.{AllByRecursion, range_with_len}
use Rattle.rv_inst.specs.declared.inst.Inst.{Inst}
use Rattle.rv_inst.specs.declared.inst.Inst.TheVariants.{Ecall}
use Rattle.rv_inst.specs.declared.want.Want.TheVariants as want
use Rattle.rv_inst.specs.Decoding.{inst_of}
use Rattle.rv_inst.specs.Meanings.{next_pc, want_of}
use Rattle.wf_outside.specs.declared.refusal.Refusal.{Refusal}
use Rattle.wf_outside.specs.declared.refusal.Refusal.TheVariants.{Number}
use Rattle.wf_outside.specs.Pages.{page_of}
use Rattle.wf_outside.specs.Images.{DeltaValue}
use Rattle.wf_flat.specs.declared.event.Actor.{Actor}
use Rattle.wf_flat.specs.declared.event.Actor.TheVariants.{Hart}
use Rattle.wf_flat.specs.declared.event.Event.{Event}
use Rattle.wf_flat.specs.declared.event.Event.TheVariants.{Born, Dead, End, Exit, Going, Gone, Map, Move, Out, Refused}
use Rattle.wf_flat.specs.declared.event.Entry.{Entry}
use Rattle.wf_flat.specs.State.{FlatState, HartState}
use Rattle.wf_flat.specs.Accesses.{is_ending}
use Rattle.wf_flat.specs.Changes.{answered, ended, exited_with, leave_hart, without}
use Rattle.wf_flat.specs.Lists.{others_changed}
use Rattle.wf_flat.specs.Follows.{IsUnit, ends_unit}
use Rattle.wf_flat.specs.Refusals.{refused_answer}
use Rattle.wf_flat.specs.Steps.{Ask, Called, MayAct, OfHart, ask_by, ask_of_word, inst_in, is_inside, want_in}
use Rattle.wf_flat.proofs.ListLemmas.{and_some, length_changed, some_and}
use Rattle.wf_effects.specs.declared.ranges.PageRun.{PageRun}
use Rattle.wf_effects.specs.Effects.{all_noted, delta_of, generation_born, generation_dead, mapped, moved_to, pages_going, pages_noted}
use Rattle.wf_effects.specs.Generations.{newest}
use Rattle.wf_effects.specs.Ranges.{runs_of}
use Rattle.wf_verdict.specs.declared.requests.Request.{Request}
use Rattle.wf_verdict.specs.declared.requests.Request.TheVariants.{Exits, PutsByte, Maps, Unmaps, TellsGeneration, Migrates, Quiesces, Deletes, Clones, Patches, NoCall}
use Rattle.wf_verdict.specs.declared.work.Todo.{Todo}
use Rattle.wf_verdict.specs.declared.work.Todo.TheVariants.{Exactly, Leaves}
use Rattle.wf_verdict.specs.Requests.{requested_by}
use Rattle.wf_verdict.specs.Verdict.{delta_at, pages_from, refusal_of}
use Rattle.wf_verdict.specs.Work.{done_about, map_of, refused_or, work_of}
use Rattle.wf_legal.specs.Calls as calls
use Rattle.wf_legal.specs.Calls.{Doing, GoesOn, IsNext, Settling, call_behind, closes_hart_call, later, settled_with, todo_by, todo_of, todo_of_call, todo_with}
use Rattle.wf_legal.specs.Events.{flat_after}
use Rattle.wf_legal.specs.Legal.{Allows, Moment, after, at_rest, call_after}
use Rattle.wf_legal.proofs.JournalLemmas.{self_inside}
use Rattle.wf_sound.specs.Sound.{IsSound}
use Rattle.wf_sound.specs.Laws.{EntriesKeepSound}
use Rattle.wf_service.specs.Adding.{IsOpen}
use Rattle.wf_service.specs.Calling.{HasBegun, HasEntered, HasToDo, IsInCall, IsPartOf, IsQuiet, entered_at, moment_with}
use Rattle.wf_service.specs.Resting.{IsResting}
use Rattle.wf_service.proofs.AddLemmas.{entry, open_join, unit_join, unit_of_one}
use Rattle.wf_service.proofs.QuietLemmas.{IsFree, all_changed, call_end, quiet_going, quiet_hart, quiet_mapped, quiet_noted, rest_of}

-- more is to do
abbrev pub IsMore : List Todo → Type 0
IsMore [] = ⊥
IsMore (next ∷ todo) = Unit {0}

-- the first event of a call, by its kind: it closes the call, and nothing is left, or more is to do
abbrev pub IsKind : Event → List Todo → Type 0
IsKind (Exit code) rest = rest ≡ []
IsKind (End pc) rest = rest ≡ []
IsKind (Out byte) rest = IsMore rest
IsKind (Map page n write patch) rest = IsMore rest
IsKind (Going page n) rest = IsMore rest
IsKind (Born generation parent patch) rest = IsMore rest
IsKind (Move generation) rest = IsMore rest
IsKind (Dead generation) rest = IsMore rest
IsKind (Refused reason) rest = IsMore rest
IsKind event rest = ⊥

-- the first thing to do is an event of some kind
pub record HasFirst (todo : List Todo) : Type 0 where
  pub event : Event
  pub rest : List Todo
  pub is : todo ≡ Exactly event ∷ rest
  pub kind : IsKind event rest

abbrev the_end : ℕ → List Todo
the_end next = Exactly (End next) ∷ []

more_end : (todo : List Todo) (next : ℕ) → IsMore (todo ++ the_end next)
more_end [] next = tt
more_end (x ∷ todo) next = tt

-- what is done about a request, behind which the call ends
or_refused : (o : Option Refusal) (work : List Todo) (next : ℕ) → HasFirst (work ++ the_end next) → HasFirst (refused_or o work ++ the_end next)
or_refused None work next first = first
or_refused (Some reason) work next first = record { event = Refused reason; rest = the_end next; is = refl; kind = tt }

patch_first : (s : FlatState) (patch next : ℕ) (runs : List PageRun) → HasFirst ((map (map_of patch) runs ++ Exactly (Born (length s.gens) (newest s) (Some patch)) ∷ []) ++ the_end next)
patch_first s patch next [] = record { event = Born (length s.gens) (newest s) (Some patch); rest = the_end next; is = refl; kind = tt }
patch_first s patch next (run ∷ runs) = record {
  event = Map run.first run.count run.write (Some patch);
  rest = (map (map_of patch) runs ++ Exactly (Born (length s.gens) (newest s) (Some patch)) ∷ []) ++ the_end next;
  is = refl;
  kind = more_end (map (map_of patch) runs ++ Exactly (Born (length s.gens) (newest s) (Some patch)) ∷ []) next;
}

pub has_first : (deltas : List DeltaValue) (s : FlatState) (next : ℕ) (request : Request) → HasFirst (todo_of_call deltas s next request)
has_first deltas s next (Exits code) = record { event = Exit code; rest = []; is = refl; kind = refl }
has_first deltas s next (PutsByte byte) = record { event = Out byte; rest = the_end next; is = refl; kind = tt }
has_first deltas s next (Maps va pages right) = or_refused (refusal_of deltas s next (Maps va pages right)) (work_of deltas s (Maps va pages right)) next (record { event = Map (page_of va) pages (right == 3) None; rest = the_end next; is = refl; kind = tt })
has_first deltas s next (Unmaps va pages) = or_refused (refusal_of deltas s next (Unmaps va pages)) (work_of deltas s (Unmaps va pages)) next
    (record { event = Going (page_of va) pages; rest = map Leaves (pages_from va pages) ++ the_end next; is = refl; kind = more_end (map Leaves (pages_from va pages)) next })
has_first deltas s next TellsGeneration = record { event = End next; rest = []; is = refl; kind = refl }
has_first deltas s next (Migrates generation) = or_refused (refusal_of deltas s next (Migrates generation)) (work_of deltas s (Migrates generation)) next (record { event = Move generation; rest = the_end next; is = refl; kind = tt })
has_first deltas s next Quiesces = or_refused (refusal_of deltas s next Quiesces) (work_of deltas s Quiesces) next (record { event = Move (newest s); rest = the_end next; is = refl; kind = tt })
has_first deltas s next (Deletes generation) = or_refused (refusal_of deltas s next (Deletes generation)) (work_of deltas s (Deletes generation)) next (record { event = Dead generation; rest = the_end next; is = refl; kind = tt })
has_first deltas s next (Clones generation) = or_refused (refusal_of deltas s next (Clones generation)) (work_of deltas s (Clones generation)) next (record { event = Born (length s.gens) generation None; rest = the_end next; is = refl; kind = tt })
has_first deltas s next (Patches patch) = or_refused (refusal_of deltas s next (Patches patch)) (work_of deltas s (Patches patch)) next (patch_first s patch next (runs_of (delta_at deltas patch).shared))
has_first deltas s next (NoCall number) = record { event = Refused (Number number); rest = the_end next; is = refl; kind = tt }

-- what a hart in a try of an ecall asks for
pub todo_is : (deltas : List DeltaValue) (s : FlatState) (h word : ℕ) (hart : HartState) → IsInCall word hart → todo_by deltas s h hart ≡ todo_of_call deltas s (next_pc hart.arch.pc) (requested_by hart)
todo_is deltas s h word hart is =
    let e : ask_of_word s h hart word (inst_of word) ≡ Some Called = rw is.ecall refl in
    ap (λ (o : Option ℕ). unwrap_or (option_map (λ (a : Ask). todo_of deltas s hart a) (ask_by s h hart o)) []) is.fetched ∙ ap (λ (o : Option Ask). unwrap_or (option_map (λ (a : Ask). todo_of deltas s hart a) o) []) e

pub wants_call : (word : ℕ) (hart : HartState) → IsInCall word hart → want_in hart ≡ Some want.Call
wants_call word hart is =
    let inst : inst_in hart ≡ Some Ecall = ap (option_and_then inst_of) is.fetched ∙ is.ecall in
    rw inst refl

-- inside, what a call goes on with is allowed
pub here : (m : Moment) (h : ℕ) → m.flat.inside ≡ Some (Hart h) → is_inside m.flat.inside (Hart h) ≡ true
here m h inside = ap (λ (i : Option Actor). is_inside i (Hart h)) inside ∙ self_inside h

pub allowed_inside : (m : Moment) (h : ℕ) (e : Event) → m.flat.inside ≡ Some (Hart h) → GoesOn m.deltas m.flat (Hart h) m.call e → Allows m (Hart h) e
allowed_inside m h e inside goes = subst (λ (b : Bool). MatchBool b (GoesOn m.deltas m.flat (Hart h) m.call e) (MayAct m.flat (Hart h) e)) (sym (here m h inside)) goes

-- what comes of an event of a hart's call: it is allowed, and leads to where the rest is to do
pub record Step (m : Moment) (h : ℕ) (e : Event) (rest : List Todo) : Type 0 where
  pub allowed : Allows m (Hart h) e
  pub next : after m (Hart h) e ≡ moment_with m.deltas (flat_after m.deltas m.flat (Hart h) e) rest
  pub part : (es : List Entry) → IsOpen h es → IsPartOf h rest (es ++ entry h e ∷ [])
  pub todo : HasToDo (flat_after m.deltas m.flat (Hart h) e) h rest
  pub harts : length (flat_after m.deltas m.flat (Hart h) e).harts ≡ length m.flat.harts

-- how an event moves the open call on
abbrev pub Moves : ℕ → Event → Type 0
Moves h e = (m : Moment) → call_after m (Hart h) e ≡ (if is_inside m.flat.inside (Hart h) then (if closes_hart_call e then None else call_behind m.deltas m.flat (Hart h) m.call e) else m.call)

without_self : (o : Option Actor) (h : ℕ) → o ≡ Some (Hart h) → without o (Hart h) ≡ None
without_self o h e = let k : is_inside (Some (Hart h)) (Hart h) ≡ true = self_inside h in rw (e, k) refl

module _ (keeps : EntriesKeepSound) (m : Moment) (h : ℕ) (sound : IsSound m) (inside : m.flat.inside ≡ Some (Hart h)) (quiet : IsQuiet m.flat h) where
  pub closing : (e : Event) (g : HartState → HartState) → Allows m (Hart h) e → Moves h e → closes_hart_call e ≡ true → ends_unit e ≡ true → flat_after m.deltas m.flat (Hart h) e ≡ leave_hart m.flat h g → ((hart : HartState) → (g hart).fetched ≡ None) → Step m h e []
  closing e g allowed moves closes ends changed free =
      let within = here m h inside in
      let none : call_after m (Hart h) e ≡ None = moves m ∙ rw (within, closes) refl in
      let new : FlatState = flat_after m.deltas m.flat (Hart h) e in
      let next : after m (Hart h) e ≡ moment_with m.deltas new [] = ap (λ (call : Option calls.Call). (let n : Moment = record { deltas = m.deltas; flat = new; call = call } in n)) none in
      let rests : IsResting new = rest_of m.deltas new (subst IsSound next (keeps m (Hart h) e sound allowed)) (ap (λ (f : FlatState). f.inside) changed ∙ without_self m.flat.inside h inside)
      (subst (λ (f : FlatState). AllByRecursion IsFree f.harts) (sym changed) (all_changed IsFree g h m.flat.harts quiet.alone free))
      (subst (λ (f : FlatState). AllByRecursion (λ page. is_ending page.stage ≡ false) f.pages) (sym changed) quiet.stays) in
      record {
        allowed = allowed;
        next = next;
        part = λ es o. unit_join h es (entry h e ∷ []) o (unit_of_one h e ends);
        todo = rests;
        harts = ap (λ (f : FlatState). length f.harts) changed ∙ length_changed g m.flat.harts h;
      }

  pub opening : (e : Event) (x : Todo) (xs : List Todo) → Allows m (Hart h) e → call_after m (Hart h) e ≡ Some (Doing (x ∷ xs)) → ends_unit e ≡ false → (flat_after m.deltas m.flat (Hart h) e).inside ≡ Some (Hart h) → IsQuiet (flat_after m.deltas m.flat (Hart h) e) h
      → length (flat_after m.deltas m.flat (Hart h) e).harts ≡ length m.flat.harts → Step m h e (x ∷ xs)
  opening e x xs allowed called unended stays calm harts =
      let new : FlatState = flat_after m.deltas m.flat (Hart h) e in
      let next : after m (Hart h) e ≡ moment_with m.deltas new (x ∷ xs) = ap (λ (call : Option calls.Call). (let n : Moment = record { deltas = m.deltas; flat = new; call = call } in n)) called in
      record {
        allowed = allowed;
        next = next;
        part = λ es o. open_join h es (entry h e ∷ []) o ((refl, unended), tt);
        todo = record { deltas = m.deltas; sound = subst IsSound next (keeps m (Hart h) e sound allowed); inside = stays; quiet = calm };
        harts = harts;
      }

pub length_others : {A : Type 0} (f : A → A) (xs : List A) (at : ℕ) → length (others_changed xs at f) ≡ length xs
length_others f [] at = refl
length_others f (x ∷ xs) zero = ap suc (length-map xs f)
length_others f (x ∷ xs) (suc at) = ap suc (length_others f xs at)

-- the first thing of a call
module _ (deltas : List DeltaValue) (s : FlatState) (h word : ℕ) (hart : HartState) (there : slice_get s.harts h ≡ Some hart) (entered : HasEntered deltas s h word) (calling : IsInCall word hart) where
  pub first_allowed : (e : Event) (rest : List Todo) → todo_by deltas s h hart ≡ Exactly e ∷ rest → Allows (entered_at deltas s) (Hart h) e
  first_allowed e rest whole =
      allowed_inside (entered_at deltas s) h e entered.inside (inr (refl, and_some (slice_get s.harts h) (λ hart. IsNext s (todo_by deltas s h hart) e) hart there (subst (λ (l : List Todo). IsNext s l e) (sym whole) refl)))

  whole_with : (e : Event) (rest : List Todo) → todo_by deltas s h hart ≡ Exactly e ∷ rest → todo_with deltas s (Hart h) e ≡ Exactly e ∷ rest
  whole_with e rest whole = ap (λ (o : Option HartState). unwrap_or (option_map (λ (hart : HartState). todo_by deltas s h hart) o) []) there ∙ whole

-- and how it stands behind it
module _ (keeps : EntriesKeepSound) (deltas : List DeltaValue) (s : FlatState) (h word : ℕ) (hart : HartState) (there : slice_get s.harts h ≡ Some hart) (entered : HasEntered deltas s h word) (calling : IsInCall word hart) where
  opens : (e : Event) (rest : List Todo) → IsMore rest → todo_by deltas s h hart ≡ Exactly e ∷ rest → Moves h e → settled_with deltas s (Hart h) [] e ≡ Doing (later (todo_with deltas s (Hart h) e)) → closes_hart_call e ≡ false → ends_unit e ≡ false
      → (flat_after deltas s (Hart h) e).inside ≡ s.inside → IsQuiet (flat_after deltas s (Hart h) e) h → length (flat_after deltas s (Hart h) e).harts ≡ length s.harts → Step (entered_at deltas s) h e rest
  opens e [] more whole moves works closes unended stays calm harts = absurd more
  opens e (x ∷ xs) more whole moves works closes unended stays calm harts =
      let within = here (entered_at deltas s) h entered.inside in
      let called : call_after (entered_at deltas s) (Hart h) e ≡ Some (Doing (x ∷ xs)) = moves (entered_at deltas s) ∙ rw (within, closes) (ap Some (works ∙ ap (λ (l : List Todo). Doing (later l)) (whole_with deltas s h word hart there entered calling e (x ∷ xs) whole))) in
      opening keeps (entered_at deltas s) h entered.sound entered.inside entered.quiet e x xs (first_allowed deltas s h word hart there entered calling e (x ∷ xs) whole) called unended (stays ∙ entered.inside) calm harts

  pub first_step : (e : Event) (rest : List Todo) → IsKind e rest → todo_by deltas s h hart ≡ Exactly e ∷ rest → Step (entered_at deltas s) h e rest
  first_step (Exit code) [] none whole =
      closing keeps (entered_at deltas s) h entered.sound entered.inside entered.quiet (Exit code) (exited_with code) (first_allowed deltas s h word hart there entered calling (Exit code) [] whole) (λ m. refl) refl refl refl (λ hart. refl)
  first_step (Exit code) (x ∷ xs) none whole = absurd (cc)
  first_step (End pc) [] none whole =
      closing keeps (entered_at deltas s) h entered.sound entered.inside entered.quiet (End pc) ended (first_allowed deltas s h word hart there entered calling (End pc) [] whole) (λ m. refl) refl refl
      (call_end s h (and_some (slice_get s.harts h) (λ hart. want_in hart ≡ Some want.Call) hart there (wants_call word hart calling))) (λ hart. refl)
  first_step (End pc) (x ∷ xs) none whole = absurd (cc)
  first_step (Out byte) rest more whole =
      opens (Out byte) rest more whole (λ m. refl) refl refl refl refl (quiet_hart s h (answered 0) entered.quiet) (length_changed (answered 0) s.harts h)
  first_step (Map page n write patch) rest more whole =
      let t : FlatState = mapped s page n write (delta_of deltas patch) in
      let pages : List ℕ = range_with_len page n in
      opens (Map page n write patch) rest more whole (λ m. refl) refl refl refl refl (quiet_hart (pages_noted t (Hart h) pages) h (answered 0) (quiet_noted t h pages (quiet_mapped s h page n write (delta_of deltas patch) entered.quiet)))
      (length_changed (answered 0) (others_changed s.harts h (all_noted pages)) h ∙ length_others (all_noted pages) s.harts h)
  first_step (Going page n) rest more whole =
      let t : FlatState = pages_going s page n in
      let pages : List ℕ = range_with_len page n in
      opens (Going page n) rest more whole (λ m. refl) refl refl refl refl (quiet_hart (pages_noted t (Hart h) pages) h (answered 0) (quiet_noted t h pages (quiet_going s h page n entered.quiet)))
      (length_changed (answered 0) (others_changed s.harts h (all_noted pages)) h ∙ length_others (all_noted pages) s.harts h)
  first_step (Born generation parent patch) rest more whole =
      let t : FlatState = generation_born deltas s parent patch in
      let q : IsQuiet t h = record { alone = entered.quiet.alone; stays = entered.quiet.stays } in
      opens (Born generation parent patch) rest more whole (λ m. refl) refl refl refl refl (quiet_hart t h (answered generation) q) (length_changed (answered generation) s.harts h)
  first_step (Move generation) rest more whole =
      opens (Move generation) rest more whole (λ m. refl) refl refl refl refl (quiet_hart s h (moved_to generation) entered.quiet) (length_changed (moved_to generation) s.harts h)
  first_step (Dead generation) rest more whole =
      let t : FlatState = generation_dead s generation in
      let q : IsQuiet t h = record { alone = entered.quiet.alone; stays = entered.quiet.stays } in
      opens (Dead generation) rest more whole (λ m. refl) refl refl refl refl (quiet_hart t h (answered 0) q) (length_changed (answered 0) s.harts h)
  first_step (Refused reason) rest more whole =
      opens (Refused reason) rest more whole (λ m. refl) refl refl refl refl (quiet_hart s h (answered (refused_answer reason)) entered.quiet) (length_changed (answered (refused_answer reason)) s.harts h)
  first_step event rest kind whole = absurd kind
