-- How the call of a hart goes on.
use Rattle.std.proofs.Common.{◌≡◌, ◌≢◌, ◌<◌, ◌≤◌, ◌+◌, ◌++◌, ℕ, zero, suc, add-one, drop, take, ◌-◌, List, [], ◌∷◌, Option, Some, None, Bool, true, false, refl, sym, subst, ap, ◌∙◌, inl, arith, length, map}
use Rattle.std.specs.Prelude.{IsSomeAnd, MatchBool, slice_get}
use Rattle.std.specs.List.{AllByRecursion}
use Rattle.rv_inst.specs.declared.want.Want.TheVariants as want
use Rattle.wf_outside.specs.Images.{DeltaValue}
use Rattle.wf_flat.specs.declared.event.Actor.{Actor}
use Rattle.wf_flat.specs.declared.event.Actor.TheVariants.{Hart}
use Rattle.wf_flat.specs.declared.event.Event.{Event}
use Rattle.wf_flat.specs.declared.event.Event.TheVariants.{End, Ending, Gone}
use Rattle.wf_flat.specs.declared.event.Entry.{Entry}
use Rattle.wf_flat.specs.declared.state.Life.TheVariants.{Running}
use Rattle.wf_flat.specs.State.{FlatState, HartState, PageState}
use Rattle.wf_flat.specs.Accesses.{is_free, is_going}
use Rattle.wf_flat.specs.Changes.{ended, try_ended}
use Rattle.wf_flat.specs.Counts.{used_of}
use Rattle.wf_flat.specs.Follows.{IsUnit}
use Rattle.wf_flat.specs.Lists.{others_changed}
use Rattle.wf_flat.specs.Memory.{data_in}
use Rattle.wf_flat.specs.Steps.{OfHart, want_in}
use Rattle.wf_flat.proofs.ListLemmas.{and_some, some_and}
use Rattle.wf_effects.specs.Effects.{all_noted, page_gone}
use Rattle.wf_verdict.specs.declared.work.Todo.{Todo}
use Rattle.wf_verdict.specs.declared.work.Todo.TheVariants.{Exactly, Leaves}
use Rattle.wf_legal.specs.Calls as calls
use Rattle.wf_legal.specs.Calls.{Doing, IsGone, IsLeaving, later}
use Rattle.wf_legal.specs.Events.{flat_after}
use Rattle.wf_legal.specs.Legal.{Allows, Moment, after, at_rest, call_after}
use Rattle.wf_sound.specs.Laws.{EntriesKeepSound}
use Rattle.wf_sound.specs.Sound.{HasHolder, IsHartWork, IsInHand, IsSound}
use Rattle.wf_sound.proofs.AllLemmas.{all_found}
use Rattle.wf_sound.proofs.HandLemmas.{CallsHart, calls_only}
use Rattle.wf_service.specs.Adding.{Adds, IsOpen}
use Rattle.wf_service.specs.Calling.{HasToDo, IsInside, IsPartOf, IsQuiet, moment_with}
use Rattle.wf_service.specs.Resting.{IsResting}
use Rattle.wf_service.proofs.AddLemmas.{adds_more, entry}
use Rattle.wf_service.proofs.FirstLemmas.{IsMore, Step, allowed_inside, closing, here, length_others, opening}
use Rattle.wf_service.proofs.QuietLemmas.{call_end, holder_in_call, quiet_gone, quiet_noted}

-- what comes of an event of a call that goes on, whatever the patches are
pub record Light (s : FlatState) (h : ℕ) (todo : List Todo) (e : Event) (new : FlatState) : Type 0 where
  pub allowed : (deltas : List DeltaValue) → Allows (moment_with deltas s todo) (Hart h) e
  pub next : (deltas : List DeltaValue) → after (moment_with deltas s todo) (Hart h) e ≡ moment_with deltas new (later todo)
  pub part : (es : List Entry) → IsPartOf h todo es → IsPartOf h (later todo) (es ++ entry h e ∷ [])
  pub todo_then : HasToDo new h (later todo)
  pub harts : length new.harts ≡ length s.harts

-- the hart is in a try of a call, and this is its work
pub hart_work : (s : FlatState) (h : ℕ) (x : Todo) (rest : List Todo) → IsInside s h (x ∷ rest) → CallsHart s h × IsHartWork s (x ∷ rest)
hart_work s h x rest i =
    let hand : IsInHand i.deltas s (Some (Hart h)) (Some (Doing (x ∷ rest))) = subst (λ (o : Option Actor). IsInHand i.deltas s o (Some (Doing (x ∷ rest)))) i.inside i.sound.call in
    calls_only s h (IsHartWork s (x ∷ rest)) hand

pub calls_hart : (s : FlatState) (h : ℕ) → CallsHart s h → OfHart s h (λ hart. want_in hart ≡ Some want.Call)
calls_hart s h calls =
    let w = some_and (slice_get s.harts h) (λ hart. (hart.life ≡ Running) × (want_in hart ≡ Some want.Call)) calls in
    and_some (slice_get s.harts h) (λ hart. want_in hart ≡ Some want.Call) w.0 w.1 w.2.1

-- a page that leaves is there, and more is to do behind it
more_behind : (pages : List ℕ) (next : ℕ) → IsMore (map Leaves pages ++ Exactly (End next) ∷ [])
more_behind [] next = tt
more_behind (p ∷ pages) next = tt

leaves_by : (s : FlatState) (page : ℕ) (rest : List Todo) (pages : List ℕ) (next : ℕ) → Leaves page ∷ rest ≡ map Leaves pages ++ Exactly (End next) ∷ [] → AllByRecursion (λ n. IsSomeAnd (data_in s.pages n) (λ page. is_going page.stage ≡ true)) pages
    → IsSomeAnd (data_in s.pages page) (λ page. is_going page.stage ≡ true) × IsMore rest
leaves_by s page rest [] next e going = absurd (cc)
leaves_by s page rest (p ∷ pages) next e going =
    let same : p ≡ page = cc in
    let behind : map Leaves pages ++ Exactly (End next) ∷ [] ≡ rest = cc in
    (subst (λ (n : ℕ). IsSomeAnd (data_in s.pages n) (λ page. is_going page.stage ≡ true)) same going.0, subst IsMore behind (more_behind pages next))

-- what is no page that leaves is the end
exactly_by : (e : Event) (rest : List Todo) (pages : List ℕ) (next : ℕ) → Exactly e ∷ rest ≡ map Leaves pages ++ Exactly (End next) ∷ [] → (e ≡ End next) × (rest ≡ [])
exactly_by e rest [] next is = (let a : e ≡ End next = cc in a, let b : rest ≡ [] = cc in b)
exactly_by e rest (p ∷ pages) next is = absurd (cc)

free_leaves : (s : FlatState) (n : ℕ) (o : Option PageState) (found : PageState) → o ≡ Some found → found.holder ≡ None → IsLeaving s n o (Gone n false)
free_leaves s n o found is free =
    let clear : is_free found ≡ true = rw free refl in
    subst (λ (o : Option PageState). IsLeaving s n o (Gone n false)) (sym is) (subst (λ (b : Bool). MatchBool b (IsGone s n (Gone n false)) (Gone n false ≡ Ending n)) (sym clear) (inl refl))

page_found : (s : FlatState) (h page : ℕ) (rest : List Todo) → IsInside s h (Leaves page ∷ rest) → (found : PageState) × (data_in s.pages page ≡ Some found) × (found.holder ≡ None) × IsMore rest
page_found s h page rest i =
    let w = hart_work s h (Leaves page) rest i in
    let work : IsHartWork s (Leaves page ∷ rest) = w.1 in
    let by = leaves_by s page rest work.pages work.next work.is work.going in
    let found = some_and (data_in s.pages page) (λ page. is_going page.stage ≡ true) by.0 in
    let of : HasHolder s found.0 = all_found (λ (page : PageState). page.number) (HasHolder s) s.pages page found.0 i.sound.state.held found.1 in
    (found.0, found.1, holder_in_call s h found.0 i.quiet.alone (calls_hart s h w.0) of, by.1)

some_pages : (pages : List PageState) (n : ℕ) (page : PageState) → data_in pages n ≡ Some page → 1 ≤ length pages
some_pages [] n page e = absurd (cc)
some_pages (x ∷ pages) n page e = omega arith

-- no frame more can be worn than there are
pub few_worn : (s : FlatState) (h page : ℕ) (rest : List Todo) → IsInside s h (Leaves page ∷ rest) → s.worn < 65536
few_worn s h page rest i =
    let found = page_found s h page rest i in
    let some : 1 ≤ length s.pages = some_pages s.pages page found.0 found.1 in
    let frames = i.sound.state.frames in
    let most = i.sound.state.limits.many_frames in
    omega arith

gone_light : (keeps : EntriesKeepSound) (s new : FlatState) (h page : ℕ) (rest : List Todo) → ((deltas : List DeltaValue) → new ≡ flat_after deltas s (Hart h) (Gone page false)) → IsMore rest → IsInside s h (Leaves page ∷ rest) → Light s h (Leaves page ∷ rest) (Gone page false) new
gone_light keeps s new h page [] changed more i = absurd more
gone_light keeps s new h page (x ∷ xs) changed more i =
    let found = page_found s h page (x ∷ xs) i in
    let goes : IsLeaving s page (data_in s.pages page) (Gone page false) = free_leaves s page (data_in s.pages page) found.0 found.1 found.2 in
    let m : List DeltaValue → Moment = λ deltas. moment_with deltas s (Leaves page ∷ x ∷ xs) in
    let allowed : (deltas : List DeltaValue) → Allows (m deltas) (Hart h) (Gone page false) = λ deltas. allowed_inside (m deltas) h (Gone page false) i.inside goes in
    let called : (deltas : List DeltaValue) → call_after (m deltas) (Hart h) (Gone page false) ≡ Some (Doing (x ∷ xs)) = λ deltas. (let within = here (m deltas) h i.inside in rw within refl) in
    let step = opening keeps (m i.deltas) h i.sound i.inside i.quiet (Gone page false) x xs (allowed i.deltas) (called i.deltas) refl i.inside
    (quiet_noted (page_gone s page false) h (page ∷ []) (quiet_gone s h page i.quiet)) (length_others (all_noted (page ∷ [])) s.harts h) in
    record {
      allowed = allowed;
      next = λ deltas. ap (λ (call : Option calls.Call). (let n : Moment = record { deltas = deltas; flat = flat_after deltas s (Hart h) (Gone page false); call = call } in n)) (called deltas) ∙ ap (λ (f : FlatState). moment_with deltas f (x ∷ xs)) (sym (changed deltas));
      part = step.part;
      todo_then = subst (λ (f : FlatState). HasToDo f h (x ∷ xs)) (sym (changed i.deltas)) step.todo;
      harts = ap (λ (f : FlatState). length f.harts) (changed i.deltas) ∙ step.harts;
    }

end_light : (keeps : EntriesKeepSound) (s new : FlatState) (h next : ℕ) → new ≡ try_ended s h → IsInside s h (Exactly (End next) ∷ []) → Light s h (Exactly (End next) ∷ []) (End next) new
end_light keeps s new h next changed i =
    let w = hart_work s h (Exactly (End next)) [] i in
    let m : List DeltaValue → Moment = λ deltas. moment_with deltas s (Exactly (End next) ∷ []) in
    let allowed : (deltas : List DeltaValue) → Allows (m deltas) (Hart h) (End next) = λ deltas. allowed_inside (m deltas) h (End next) i.inside refl in
    let called : (deltas : List DeltaValue) → call_after (m deltas) (Hart h) (End next) ≡ None = λ deltas. (let within = here (m deltas) h i.inside in rw within refl) in
    let step = closing keeps (m i.deltas) h i.sound i.inside i.quiet (End next) ended (allowed i.deltas) (λ m. refl) refl refl (call_end s h (calls_hart s h w.0)) (λ hart. refl) in
    record {
      allowed = allowed;
      next = λ deltas. ap (λ (call : Option calls.Call). (let n : Moment = record { deltas = deltas; flat = try_ended s h; call = call } in n)) (called deltas) ∙ ap (λ (f : FlatState). moment_with deltas f []) (sym changed);
      part = step.part;
      todo_then = subst (λ (f : FlatState). HasToDo f h []) (sym changed) step.todo;
      harts = ap (λ (f : FlatState). length f.harts) changed ∙ step.harts;
    }

-- so the first of what is to do is done
pub leaves_light : (keeps : EntriesKeepSound) (s new : FlatState) (h page : ℕ) (x : Todo) (todo : List Todo) → todo ≡ x ∷ later todo → x ≡ Leaves page → ((deltas : List DeltaValue) → new ≡ flat_after deltas s (Hart h) (Gone page false)) → HasToDo s h todo → Light s h todo (Gone page false) new
leaves_light keeps s new h page x todo is head changed has =
    let whole : todo ≡ Leaves page ∷ later todo = is ∙ ap (λ (y : Todo). y ∷ later todo) head in
    let i : IsInside s h (Leaves page ∷ later todo) = subst (HasToDo s h) whole has in
    let found = page_found s h page (later todo) i in
    subst (λ (l : List Todo). Light s h l (Gone page false) new) (sym whole) (gone_light keeps s new h page (later todo) changed found.3 i)

pub leaves_worn : (s : FlatState) (h page : ℕ) (x : Todo) (todo : List Todo) → todo ≡ x ∷ later todo → x ≡ Leaves page → HasToDo s h todo → s.worn < 65536
leaves_worn s h page x todo is head has =
    few_worn s h page (later todo) (subst (HasToDo s h) (is ∙ ap (λ (y : Todo). y ∷ later todo) head) has)

pub ends_light : (keeps : EntriesKeepSound) (s new : FlatState) (h : ℕ) (e : Event) (x : Todo) (todo : List Todo) → todo ≡ x ∷ later todo → x ≡ Exactly e → new ≡ try_ended s h → HasToDo s h todo → Light s h todo e new
ends_light keeps s new h e x todo is head changed has =
    let whole : todo ≡ Exactly e ∷ later todo = is ∙ ap (λ (y : Todo). y ∷ later todo) head in
    let i : IsInside s h (Exactly e ∷ later todo) = subst (HasToDo s h) whole has in
    let w = hart_work s h (Exactly e) (later todo) i in
    let work : IsHartWork s (Exactly e ∷ later todo) = w.1 in
    let by = exactly_by e (later todo) work.pages work.next work.is in
    let all : todo ≡ Exactly (End work.next) ∷ [] = whole ∙ ap (λ (y : Event). Exactly y ∷ later todo) by.0 ∙ ap (λ (l : List Todo). Exactly (End work.next) ∷ l) by.1 in
    let j : IsInside s h (Exactly (End work.next) ∷ []) = subst (HasToDo s h) all has in
    subst (λ (y : Event). Light s h todo y new) (sym by.0) (subst (λ (l : List Todo). Light s h l (End work.next) new) (sym all) (end_light keeps s new h work.next changed j))

pub ends_calls : (s : FlatState) (h : ℕ) (x : Todo) (todo : List Todo) → todo ≡ x ∷ later todo → HasToDo s h todo → OfHart s h (λ hart. want_in hart ≡ Some want.Call)
ends_calls s h x todo is has =
    let i : IsInside s h (x ∷ later todo) = subst (HasToDo s h) is has in
    let w = hart_work s h x (later todo) i in
    calls_hart s h w.0

pub inside_of : (s : FlatState) (h : ℕ) (x : Todo) (todo : List Todo) → todo ≡ x ∷ later todo → HasToDo s h todo → IsInside s h (x ∷ later todo)
inside_of s h x todo is has = subst (HasToDo s h) is has

-- and its entry added
pub light_adds : (s new : FlatState) (h : ℕ) (todo : List Todo) (e : Event) (now behind : List Entry) → Light s h todo e new → behind ≡ now ++ entry h e ∷ [] → (m : Moment) (before : List Entry) → Adds m before (moment_with m.deltas s todo) now (IsPartOf h todo)
    → Adds m before (moment_with m.deltas new (later todo)) behind (IsPartOf h (later todo))
light_adds s new h todo e now behind light written m before a =
    adds_more m (moment_with m.deltas s todo) (moment_with m.deltas new (later todo)) before now behind (IsPartOf h todo) (IsPartOf h (later todo)) (entry h e ∷ []) light.part a (light.allowed m.deltas, tt) (sym (light.next m.deltas)) written

-- what is behind the first
later_next : (todo : List Todo) (i : ℕ) → later (drop i todo) ≡ drop (suc i) todo
later_next [] zero = refl
later_next [] (suc i) = refl
later_next (x ∷ todo) zero = refl
later_next (x ∷ todo) (suc i) = later_next todo i

pub later_drop : (todo : List Todo) (i : ℕ) → later (drop i todo) ≡ drop (i + 1) todo
later_drop todo i = rw add-one (later_next todo i)

pub later_one : (todo : List Todo) → later todo ≡ drop 1 todo
later_one [] = refl
later_one (x ∷ todo) = refl

pub drop_some : (todo : List Todo) (i : ℕ) → i < length todo → drop i todo ≢ []
drop_some [] i lt e = absurd (let k : i < 0 = lt in omega arith)
drop_some (x ∷ todo) zero lt e = absurd (cc)
drop_some (x ∷ todo) (suc i) lt e = drop_some todo i (omega arith) e

pub drop_end : (todo : List Todo) (i : ℕ) → length todo ≤ i → drop i todo ≡ []
drop_end [] zero le = refl
drop_end [] (suc i) le = refl
drop_end (x ∷ todo) zero le = absurd (omega arith)
drop_end (x ∷ todo) (suc i) le = drop_end todo i (omega arith)

pub some_length : (todo : List Todo) → todo ≢ [] → 1 ≤ length todo
some_length [] n = absurd (n refl)
some_length (x ∷ todo) n = omega arith

-- what is added behind one more
pub adds_next : (s new : FlatState) (h i : ℕ) (todo tail : List Todo) (now behind : List Entry) (m : Moment) (before : List Entry) → tail ≡ drop i todo
    → (Adds m before (moment_with m.deltas s tail) now (IsPartOf h tail) → Adds m before (moment_with m.deltas new (later tail)) behind (IsPartOf h (later tail)))
    → Adds m before (moment_with m.deltas s (drop i todo)) now (IsPartOf h (drop i todo)) → Adds m before (moment_with m.deltas new (drop (i + 1) todo)) behind (IsPartOf h (drop (i + 1) todo))
adds_next s new h i todo tail now behind m before is step a =
    let to : later tail ≡ drop (i + 1) todo = ap later is ∙ later_drop todo i in
    subst (λ (l : List Todo). Adds m before (moment_with m.deltas new l) behind (IsPartOf h l)) to
    (step (subst (λ (l : List Todo). Adds m before (moment_with m.deltas s l) now (IsPartOf h l)) (sym is) a))

pub todo_next : (new : FlatState) (h i : ℕ) (todo tail : List Todo) → tail ≡ drop i todo → HasToDo new h (later tail) → HasToDo new h (drop (i + 1) todo)
todo_next new h i todo tail is has = subst (HasToDo new h) (ap later is ∙ later_drop todo i) has

-- and at the end
pub adds_last : (s new : FlatState) (h i : ℕ) (todo : List Todo) (now behind : List Entry) → length todo ≤ i → ((m : Moment) (before : List Entry) → Adds m before (moment_with m.deltas s (drop 1 todo)) now (IsPartOf h (drop 1 todo)) → Adds m before (moment_with m.deltas new (drop i todo)) behind (IsPartOf h (drop i todo)))
    → (m : Moment) (before : List Entry) → Adds m before (moment_with m.deltas s (later todo)) now (IsPartOf h (later todo)) → Adds m before (at_rest m.deltas new) behind (IsUnit h)
adds_last s new h i todo now behind le adds m before a =
    subst (λ (l : List Todo). Adds m before (moment_with m.deltas new l) behind (IsPartOf h l)) (drop_end todo i le)
    (adds m before (subst (λ (l : List Todo). Adds m before (moment_with m.deltas s l) now (IsPartOf h l)) (later_one todo) a))

pub rests_last : (new : FlatState) (h i : ℕ) (todo : List Todo) → length todo ≤ i → HasToDo new h (drop i todo) → IsResting new
rests_last new h i todo le has = subst (HasToDo new h) (drop_end todo i le) has

pub todo_first : (s : FlatState) (h : ℕ) (todo : List Todo) → HasToDo s h (later todo) → HasToDo s h (drop 1 todo)
todo_first s h todo has = subst (HasToDo s h) (later_one todo) has

-- the rest of a list from a place on
take_enough : (xs : List Todo) (n : ℕ) → length xs ≤ n → take n xs ≡ xs
take_enough [] zero le = refl
take_enough [] (suc n) le = refl
take_enough (x ∷ xs) zero le = absurd (omega arith)
take_enough (x ∷ xs) (suc n) le = ap (λ (ys : List Todo). x ∷ ys) (take_enough xs n (omega arith))

rest_length : (todo : List Todo) (i : ℕ) → length (drop i todo) ≤ length todo - i
rest_length [] zero = omega arith
rest_length [] (suc i) = omega arith
rest_length (x ∷ todo) zero = omega arith
rest_length (x ∷ todo) (suc i) = let le = rest_length todo i in omega arith

pub take_rest : (todo : List Todo) (i : ℕ) → take (length todo - i) (drop i todo) ≡ drop i todo
take_rest todo i = take_enough (drop i todo) (length todo - i) (rest_length todo i)
