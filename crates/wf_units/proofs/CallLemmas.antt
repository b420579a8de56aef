-- Whole calls of harts: their Fetch and Enter, the first of what is to do, and what comes behind it.
use Rattle.std.proofs.Common.{◌≡◌, ◌≤◌, ◌++◌, ℕ, List, [], ◌∷◌, Option, Some, None, Bool, true, false, refl, sym, subst, ap, ◌∙◌, inl, inr, map, append_assoc, append-nil, not, ◌==◌, length}
use Rattle.std.specs.Prelude.{IsSomeAnd, MatchBool, slice_get}
use Rattle.std.specs.List.{AllByRecursion}
use Rattle.rv_inst.specs.Meanings.{next_pc}
use Rattle.wf_outside.specs.Images.{DeltaValue}
use Rattle.wf_flat.specs.declared.event.Actor.TheVariants.{Hart}
use Rattle.wf_flat.specs.declared.event.Event.{Event}
use Rattle.wf_flat.specs.declared.event.Event.TheVariants.{End, Ending, Gone}
use Rattle.wf_flat.specs.declared.event.Entry.{Entry}
use Rattle.wf_flat.specs.State.{FlatState, HartState, PageState}
use Rattle.wf_flat.specs.Accesses.{is_ending, is_free, is_going}
use Rattle.wf_flat.specs.Changes.{change_hart, fetched_with, try_ended}
use Rattle.wf_flat.specs.Follows.{IsUnit}
use Rattle.wf_flat.specs.Memory.{data_in}
use Rattle.wf_flat.specs.Steps.{OfHart}
use Rattle.wf_flat.proofs.HartLemmas.{changed_get}
use Rattle.wf_flat.proofs.ListLemmas.{and_some, some_and}
use Rattle.wf_effects.specs.Effects.{all_noted, page_gone}
use Rattle.wf_verdict.specs.declared.work.Todo.{Todo}
use Rattle.wf_verdict.specs.declared.work.Todo.TheVariants.{Exactly, Leaves}
use Rattle.wf_verdict.specs.Requests.{requested_by}
use Rattle.wf_legal.specs.Calls as calls
use Rattle.wf_legal.specs.Calls.{Doing, IsGone, IsLeaving, later, todo_by, todo_of_call}
use Rattle.wf_legal.specs.Events.{flat_after}
use Rattle.wf_legal.specs.Legal.{Allows, IsLegal, Moment, after, at_rest, call_after, end_of}
use Rattle.wf_sound.specs.Laws.{EntriesKeepSound, JournalsKeepSound}
use Rattle.wf_sound.specs.Sound.{HasHolder, IsHartWork}
use Rattle.wf_sound.proofs.AllLemmas.{all_filter, all_found}
use Rattle.wf_service.specs.Adding.{IsOpen}
use Rattle.wf_service.specs.Calling.{HasEntered, HasToDo, IsAtCall, IsInCall, IsInside, IsPartOf, IsQuiet, moment_with}
use Rattle.wf_service.proofs.AddLemmas.{entry}
use Rattle.wf_service.proofs.BeginLemmas.{enters, has_entered, inside_with, two}
use Rattle.wf_service.proofs.FirstLemmas.{IsKind, IsMore, allowed_inside, first_step, here, length_others, opening, todo_is}
use Rattle.wf_service.proofs.GoingLemmas.{Light, calls_hart, ends_light, hart_work}
use Rattle.wf_service.proofs.QuietLemmas.{holder_in_call, noted_alone, quiet_noted}
use Rattle.wf_service.specs.Resting.{IsResting}
use Rattle.wf_units.specs.Calls.{IsCalling, call_of}
use Rattle.wf_units.specs.Ends.{each_gone}
use Rattle.wf_units.specs.Units.{IsLegalUnit, entries_by}

-- what comes of a hart's call that has these things still to do
pub record Tail (deltas : List DeltaValue) (s : FlatState) (h : ℕ) (todo : List Todo) (events : List Event) (new : FlatState) : Type 0 where
  pub legal : IsLegal (moment_with deltas s todo) (entries_by h events)
  pub reached : at_rest deltas new ≡ end_of (moment_with deltas s todo) (entries_by h events)
  pub rests : IsResting new
  pub part : (es : List Entry) → IsPartOf h todo es → IsUnit h (es ++ entries_by h events)

pub tail_none : (deltas : List DeltaValue) (s : FlatState) (h : ℕ) → HasToDo s h [] → Tail deltas s h [] [] s
tail_none deltas s h has = record { legal = tt; reached = refl; rests = has; part = λ es u. subst (IsUnit h) (sym (append-nil es)) u }

pub tail_more : (deltas : List DeltaValue) (s mid new : FlatState) (h : ℕ) (todo : List Todo) (e : Event) (events : List Event) → Light s h todo e mid → Tail deltas mid h (later todo) events new → Tail deltas s h todo (e ∷ events) new
tail_more deltas s mid new h todo e events light tail =
    record {
      legal = (light.allowed deltas, subst (λ (m : Moment). IsLegal m (entries_by h events)) (sym (light.next deltas)) tail.legal);
      reached = tail.reached ∙ ap (λ (m : Moment). end_of m (entries_by h events)) (sym (light.next deltas));
      rests = tail.rests;
      part = λ es p. subst (IsUnit h) (append_assoc es (entry h e ∷ []) (entries_by h events)) (tail.part (es ++ entry h e ∷ []) (light.part es p));
    }

-- the End of the call
pub tail_end : (keeps : EntriesKeepSound) (deltas : List DeltaValue) (s : FlatState) (h next : ℕ) → HasToDo s h (Exactly (End next) ∷ []) → Tail deltas s h (Exactly (End next) ∷ []) (End next ∷ []) (try_ended s h)
tail_end keeps deltas s h next has =
    let light : Light s h (Exactly (End next) ∷ []) (End next) (try_ended s h) = ends_light keeps s (try_ended s h) h (End next) (Exactly (End next)) (Exactly (End next) ∷ []) refl refl refl has in
    tail_more deltas s (try_ended s h) (try_ended s h) h (Exactly (End next) ∷ []) (End next) [] light (tail_none deltas (try_ended s h) h light.todo_then)

-- a page that leaves goes, its frame worn or not
abbrev pub left_to_do : List ℕ → ℕ → List Todo
left_to_do pages next = map Leaves pages ++ Exactly (End next) ∷ []

pub more_behind : (pages : List ℕ) (next : ℕ) → IsMore (left_to_do pages next)
more_behind [] next = tt
more_behind (p ∷ pages) next = tt

leaves_by : (s : FlatState) (page : ℕ) (rest : List Todo) (pages : List ℕ) (next : ℕ) → Leaves page ∷ rest ≡ left_to_do pages next → AllByRecursion (λ n. IsSomeAnd (data_in s.pages n) (λ page. is_going page.stage ≡ true)) pages → IsSomeAnd (data_in s.pages page) (λ page. is_going page.stage ≡ true)
leaves_by s page rest [] next e going = absurd (cc)
leaves_by s page rest (p ∷ pages) next e going =
    let same : p ≡ page = cc in
    subst (λ (n : ℕ). IsSomeAnd (data_in s.pages n) (λ page. is_going page.stage ≡ true)) same going.0

is_gone : (s : FlatState) (page : ℕ) (worn : Bool) → (worn ≡ true → s.limits.last_birth ≤ s.births) → IsGone s page (Gone page worn)
is_gone s page true may = inr (refl, may refl)
is_gone s page false may = inl refl

free_leaves : (s : FlatState) (n : ℕ) (worn : Bool) (o : Option PageState) (found : PageState) → o ≡ Some found → found.holder ≡ None → IsGone s n (Gone n worn) → IsLeaving s n o (Gone n worn)
free_leaves s n worn o found is free gone =
    let clear : is_free found ≡ true = rw free refl in
    subst (λ (o : Option PageState). IsLeaving s n o (Gone n worn)) (sym is) (subst (λ (b : Bool). MatchBool b (IsGone s n (Gone n worn)) (Gone n worn ≡ Ending n)) (sym clear) gone)

may_leave : (s : FlatState) (h page : ℕ) (worn : Bool) (rest : List Todo) → (worn ≡ true → s.limits.last_birth ≤ s.births) → IsInside s h (Leaves page ∷ rest) → IsLeaving s page (data_in s.pages page) (Gone page worn)
may_leave s h page worn rest may i =
    let w = hart_work s h (Leaves page) rest i in
    let work : IsHartWork s (Leaves page ∷ rest) = w.1 in
    let found = some_and (data_in s.pages page) (λ page. is_going page.stage ≡ true) (leaves_by s page rest work.pages work.next work.is work.going) in
    let of : HasHolder s found.0 = all_found (λ (page : PageState). page.number) (HasHolder s) s.pages page found.0 i.sound.state.held found.1 in
    free_leaves s page worn (data_in s.pages page) found.0 found.1 (holder_in_call s h found.0 i.quiet.alone (calls_hart s h w.0) of) (is_gone s page worn may)

quiet_gone : (s : FlatState) (h page : ℕ) (worn : Bool) → IsQuiet s h → IsQuiet (page_gone s page worn) h
quiet_gone s h page worn q = record {
  alone = q.alone;
  stays = all_filter (λ (other : PageState). not (other.number == page)) (λ page. is_ending page.stage ≡ false) (λ page. is_ending page.stage ≡ false) (λ other keeps stays. stays) s.pages q.stays;
}

pub gone_light : (keeps : EntriesKeepSound) (s : FlatState) (h page : ℕ) (worn : Bool) (rest : List Todo) → (worn ≡ true → s.limits.last_birth ≤ s.births) → IsMore rest → IsInside s h (Leaves page ∷ rest) → Light s h (Leaves page ∷ rest) (Gone page worn) (page_gone s page worn)
gone_light keeps s h page worn [] may more i = absurd more
gone_light keeps s h page worn (x ∷ xs) may more i =
    let e : Event = Gone page worn in
    let new : FlatState = page_gone s page worn in
    let goes = may_leave s h page worn (x ∷ xs) may i in
    let m : List DeltaValue → Moment = λ deltas. moment_with deltas s (Leaves page ∷ x ∷ xs) in
    let changed : (deltas : List DeltaValue) → new ≡ flat_after deltas s (Hart h) e = λ deltas. sym (noted_alone new h (page ∷ []) i.quiet.alone) in
    let allowed : (deltas : List DeltaValue) → Allows (m deltas) (Hart h) e = λ deltas. allowed_inside (m deltas) h e i.inside goes in
    let called : (deltas : List DeltaValue) → call_after (m deltas) (Hart h) e ≡ Some (Doing (x ∷ xs)) = λ deltas. (let within = here (m deltas) h i.inside in rw within refl) in
    let step = opening keeps (m i.deltas) h i.sound i.inside i.quiet e x xs (allowed i.deltas) (called i.deltas) refl i.inside
    (quiet_noted new h (page ∷ []) (quiet_gone s h page worn i.quiet)) (length_others (all_noted (page ∷ [])) s.harts h) in
    record {
      allowed = allowed;
      next = λ deltas. ap (λ (call : Option calls.Call). (let n : Moment = record { deltas = deltas; flat = flat_after deltas s (Hart h) e; call = call } in n)) (called deltas) ∙ ap (λ (f : FlatState). moment_with deltas f (x ∷ xs)) (sym (changed deltas));
      part = step.part;
      todo_then = subst (λ (f : FlatState). HasToDo f h (x ∷ xs)) (sym (changed i.deltas)) step.todo;
      harts = ap (λ (f : FlatState). length f.harts) (changed i.deltas) ∙ step.harts;
    }

-- a state in which a hart is inside, in a try of this word, and changed so since
abbrev pub inside_changed : FlatState → ℕ → ℕ → (HartState → HartState) → FlatState
inside_changed w h word f = change_hart (inside_with w h word) h f

-- all pages that leave go, and the call ends
pub leaves_tail : (keeps : EntriesKeepSound) (deltas : List DeltaValue) (h word next : ℕ) (f : HartState → HartState) (gone : List (ℕ × Bool)) (w : FlatState) → AllByRecursion (λ page. page.1 ≡ true → w.limits.last_birth ≤ w.births) gone → HasToDo (inside_changed w h word f) h (left_to_do (map (λ page. page.0) gone) next)
    → Tail deltas (inside_changed w h word f) h (left_to_do (map (λ page. page.0) gone) next) (map (λ page. Gone page.0 page.1) gone ++ End next ∷ []) (try_ended (inside_changed (each_gone w gone) h word f) h)
leaves_tail keeps deltas h word next f [] w may has = tail_end keeps deltas (inside_changed w h word f) h next has
leaves_tail keeps deltas h word next f (page ∷ gone) w may has =
    let pages : List ℕ = map (λ (page : ℕ × Bool). page.0) gone in
    let light = gone_light keeps (inside_changed w h word f) h page.0 page.1 (left_to_do pages next) may.0 (more_behind pages next) has in
    tail_more deltas (inside_changed w h word f) (inside_changed (page_gone w page.0 page.1) h word f) (try_ended (inside_changed (each_gone (page_gone w page.0 page.1) gone) h word f) h) h (left_to_do (page.0 ∷ pages) next) (Gone page.0 page.1)
    (map (λ page. Gone page.0 page.1) gone ++ End next ∷ []) light (leaves_tail keeps deltas h word next f gone (page_gone w page.0 page.1) may.1 light.todo_then)

-- the whole call: its Fetch, its Enter, the first of what is to do, and what comes behind that
module _ (keeps : EntriesKeepSound) (journals : JournalsKeepSound) (deltas : List DeltaValue) (s : FlatState) (h word : ℕ) (hart : HartState) (c : IsCalling deltas s h word hart) where
  ready : OfHart s h (λ other. IsAtCall s word other × (hart.arch.pc ≡ other.arch.pc))
  ready = and_some (slice_get s.harts h) (λ other. IsAtCall s word other × (hart.arch.pc ≡ other.arch.pc)) hart c.rests.there (c.at_call, refl)

  pub has_come : HasEntered deltas (inside_with s h word) h word
  has_come = has_entered journals deltas s h hart.arch.pc word c.rests.sound c.births c.rests.rests ready

  pub in_call : IsInCall word (fetched_with word hart)
  in_call = record { runs = c.at_call.runs; fetched = refl; ecall = c.at_call.ecall }

  pub is_there : slice_get (inside_with s h word).harts h ≡ Some (fetched_with word hart)
  is_there = changed_get s.harts h (fetched_with word) hart c.rests.there

  pub work_is : todo_by deltas (inside_with s h word) h (fetched_with word hart) ≡ todo_of_call deltas (inside_with s h word) (next_pc hart.arch.pc) (requested_by hart)
  work_is = todo_is deltas (inside_with s h word) h word (fetched_with word hart) in_call

  pub unit_of : (e : Event) (rest : List Todo) (events : List Event) (new : FlatState) → IsKind e rest → todo_of_call deltas (inside_with s h word) (next_pc hart.arch.pc) (requested_by hart) ≡ Exactly e ∷ rest
      → (HasToDo (flat_after deltas (inside_with s h word) (Hart h) e) h rest → Tail deltas (flat_after deltas (inside_with s h word) (Hart h) e) h rest events new) → IsLegalUnit deltas s h (call_of hart word (e ∷ events)) new
  unit_of e rest events new kind whole behind =
      let t : FlatState = inside_with s h word in
      let front = enters deltas s h hart.arch.pc word c.rests.rests ready in
      let step = first_step keeps deltas t h word (fetched_with word hart) is_there has_come in_call e rest kind (work_is ∙ whole) in
      let tail = behind step.todo in
      let start : Moment = end_of (at_rest deltas s) (two h hart.arch.pc word) in
      let leads : after start (Hart h) e ≡ moment_with deltas (flat_after deltas t (Hart h) e) rest = ap (λ (m : Moment). after m (Hart h) e) (sym front.reached) ∙ step.next in
      let opens : IsOpen h (two h hart.arch.pc word) = ((refl, refl), ((refl, refl), tt)) in
      record {
        legal = (front.legal.0, (front.legal.1.0, (subst (λ (m : Moment). Allows m (Hart h) e) front.reached step.allowed, subst (λ (m : Moment). IsLegal m (entries_by h events)) (sym leads) tail.legal)));
        reached = tail.reached ∙ ap (λ (m : Moment). end_of m (entries_by h events)) (sym leads);
        rests = tail.rests;
        unit = tail.part (two h hart.arch.pc word ++ entry h e ∷ []) (step.part (two h hart.arch.pc word) opens);
      }
