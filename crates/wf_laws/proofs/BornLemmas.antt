-- A generation that is born has the next number, and the text of its parent and its patch.
use Rattle.std.proofs.Common.{◌⊎◌, ◌≡◌, ◌<◌, inl, inr, ℕ, List, [], ◌∷◌, ◌++◌, ◌+◌, length, Option, Some, None, Bool, true, false, not, ◌&&◌, if◌then◌else◌, is_some, map, refl, sym, subst, ap, ◌∙◌, arith}
use Rattle.std.specs.Prelude.{MatchBool, slice_get, unwrap_or}
use Rattle.std.specs.Option.{option_map}
use Rattle.rv_inst.specs.Meanings.{next_pc}
use Rattle.wf_outside.specs.declared.refusal.Refusal.{Refusal}
use Rattle.wf_outside.specs.Images.{DeltaValue}
use Rattle.wf_flat.specs.declared.event.Actor.{Actor}
use Rattle.wf_flat.specs.declared.event.Actor.TheVariants.{Hart, Kernel}
use Rattle.wf_flat.specs.declared.event.Event.{Event}
use Rattle.wf_flat.specs.declared.event.Event.TheVariants.{Enter, Idle, Ending, Gone, Born}
use Rattle.wf_flat.specs.declared.event.Entry.{Entry}
use Rattle.wf_flat.specs.State.{FlatState, HartState, GenState, PageState}
use Rattle.wf_flat.specs.Memory.{has_met}
use Rattle.wf_flat.specs.Accesses.{Access, accessed_data, accessed_text, has_right, is_here}
use Rattle.wf_flat.specs.Steps.{Ask, Called, Stopped, Faulted, MayAct, ask_of, generation_text, is_inside, text_in}
use Rattle.wf_flat.proofs.ListLemmas.{some_and}
use Rattle.wf_effects.specs.Effects.{born_text, delta_of, newborn}
use Rattle.wf_effects.specs.declared.ranges.PageRun.{PageRun}
use Rattle.wf_effects.specs.Ranges.{runs_of}
use Rattle.wf_verdict.specs.declared.requests.Request.{Request}
use Rattle.wf_verdict.specs.declared.requests.Request.TheVariants.{Exits, PutsByte, Maps, Unmaps, TellsGeneration, Migrates, Quiesces, Deletes, Clones, Patches, NoCall}
use Rattle.wf_verdict.specs.declared.work.Todo.{Todo}
use Rattle.wf_verdict.specs.declared.work.Todo.TheVariants.{Exactly, Leaves}
use Rattle.wf_verdict.specs.Requests.{requested_by}
use Rattle.wf_verdict.specs.Verdict.{delta_at, pages_from, refusal_of}
use Rattle.wf_verdict.specs.Work.{done_about, map_of, refused_or, work_of}
use Rattle.wf_legal.specs.Events.{flat_after}
use Rattle.wf_legal.specs.Calls.{Call, Doing, Settling, GoesOn, IsGone, IsNext, IsLeaving, call_behind, closes_call, ending_of, later, request_with, settled_with, todo_by, todo_of, todo_of_page, todo_with}
use Rattle.wf_legal.specs.Legal.{IsLegal, Moment, Allows, after, at_rest, call_after, end_of}
use Rattle.wf_legal.proofs.JournalLemmas.{end_of-append}
use Rattle.std.proofs.lemmas.Bool.{cases_order}
use Rattle.wf_laws.specs.Texts.{GenerationsAreBorn, TextsAreTold, WasBorn}
use Rattle.wf_laws.proofs.CallLemmas.{IsLateCall, inner_comes, call_kept}
use Rattle.wf_laws.proofs.CarryLemmas.{at, carried, kept_deltas}
use Rattle.wf_laws.proofs.GenLemmas.{count_after, count_are, get_last, gens_are, is_born, texts_stay}

-- no generation is born with it
abbrev HasNoBorn : List Todo → Type 0
HasNoBorn [] = Unit {0}
HasNoBorn (Exactly event ∷ todo) = (is_born event ≡ false) × HasNoBorn todo
HasNoBorn (Leaves page ∷ todo) = HasNoBorn todo

-- one generation at most is born with it, and that has this number
abbrev NamesNext : ℕ → List Todo → Type 0
NamesNext n [] = Unit {0}
NamesNext n (Exactly (Born generation parent patch) ∷ todo) = (generation ≡ n) × HasNoBorn todo
NamesNext n (Exactly event ∷ todo) = NamesNext n todo
NamesNext n (Leaves page ∷ todo) = NamesNext n todo

abbrev NamesNextCall : ℕ → Option Call → Type 0
NamesNextCall n None = Unit {0}
NamesNextCall n (Some (Settling owed last)) = Unit {0}
NamesNextCall n (Some (Doing todo)) = NamesNext n todo

none_names : (n : ℕ) (todo : List Todo) → HasNoBorn todo → NamesNext n todo
none_names n [] p = tt
none_names n (Exactly (Born generation parent patch) ∷ todo) p = absurd (let never = p.0 in cc)
none_names n (Exactly event ∷ todo) p = none_names n todo p.1
none_names n (Leaves page ∷ todo) p = none_names n todo p

unborn_names : (n : ℕ) (event : Event) (todo : List Todo) → is_born event ≡ false → NamesNext n todo → NamesNext n (Exactly event ∷ todo)
unborn_names n (Born generation parent patch) todo u p = absurd (cc)
unborn_names n event todo u p = p

names_later : (n : ℕ) (todo : List Todo) → NamesNext n todo → NamesNext n (later todo)
names_later n [] p = tt
names_later n (Exactly (Born generation parent patch) ∷ todo) p = none_names n todo p.1
names_later n (Exactly event ∷ todo) p = p
names_later n (Leaves page ∷ todo) p = p

-- what is done about a request
ending_unborn : (next : ℕ) (request : Request) → HasNoBorn (ending_of next request)
ending_unborn next (Exits code) = tt
ending_unborn next (PutsByte byte) = (refl, tt)
ending_unborn next (Maps va pages right) = (refl, tt)
ending_unborn next (Unmaps va pages) = (refl, tt)
ending_unborn next TellsGeneration = (refl, tt)
ending_unborn next (Migrates generation) = (refl, tt)
ending_unborn next Quiesces = (refl, tt)
ending_unborn next (Deletes generation) = (refl, tt)
ending_unborn next (Clones generation) = (refl, tt)
ending_unborn next (Patches patch) = (refl, tt)
ending_unborn next (NoCall number) = (refl, tt)

unborn_append : (one other : List Todo) → HasNoBorn one → HasNoBorn other → HasNoBorn (one ++ other)
unborn_append [] other p q = q
unborn_append (Exactly event ∷ todo) other p q = (p.0, unborn_append todo other p.1 q)
unborn_append (Leaves page ∷ todo) other p q = unborn_append todo other p q

names_append : (n : ℕ) (one other : List Todo) → NamesNext n one → HasNoBorn other → NamesNext n (one ++ other)
names_append n [] other p q = none_names n other q
names_append n (Exactly (Born generation parent patch) ∷ todo) other p q = (p.0, unborn_append todo other p.1 q)
names_append n (Exactly event ∷ todo) other p q = names_append n todo other p q
names_append n (Leaves page ∷ todo) other p q = names_append n todo other p q

names_patch : (patch : ℕ) (runs : List PageRun) (n parent : ℕ) (by : Option ℕ) → NamesNext n (map (map_of patch) runs ++ Exactly (Born n parent by) ∷ [])
names_patch patch [] n parent by = (refl, tt)
names_patch patch (run ∷ runs) n parent by = names_patch patch runs n parent by

names_leaves : (n : ℕ) (pages : List ℕ) → NamesNext n (map Leaves pages)
names_leaves n [] = tt
names_leaves n (page ∷ pages) = names_leaves n pages

names_work : (deltas : List DeltaValue) (s : FlatState) (request : Request) → NamesNext (length s.gens) (work_of deltas s request)
names_work deltas s (Exits code) = tt
names_work deltas s (PutsByte byte) = tt
names_work deltas s (Maps va pages right) = tt
names_work deltas s (Unmaps va pages) = names_leaves (length s.gens) (pages_from va pages)
names_work deltas s TellsGeneration = tt
names_work deltas s (Migrates generation) = tt
names_work deltas s Quiesces = tt
names_work deltas s (Deletes generation) = tt
names_work deltas s (Clones generation) = (refl, tt)
names_work deltas s (Patches patch) = names_patch patch (runs_of (delta_at deltas patch).shared) (length s.gens) _ _
names_work deltas s (NoCall number) = tt

names_or : (n : ℕ) (o : Option Refusal) (work : List Todo) → NamesNext n work → NamesNext n (refused_or o work)
names_or n None work p = p
names_or n (Some reason) work p = tt

names_done : (deltas : List DeltaValue) (s : FlatState) (next : ℕ) (request : Request) → NamesNext (length s.gens) (done_about deltas s next request)
names_done deltas s next request = names_or (length s.gens) (refusal_of deltas s next request) (work_of deltas s request) (names_work deltas s request)

names_choice : (n : ℕ) (b : Bool) (one other : List Todo) → NamesNext n one → NamesNext n other → NamesNext n (if b then one else other)
names_choice n true one other p q = p
names_choice n false one other p q = q

names_page : (n : ℕ) (s : FlatState) (hart : HartState) (access : Access) (o : Option PageState) → NamesNext n (todo_of_page s hart access o)
names_page n s hart access None = tt
names_page n s hart access (Some page) = names_choice n (not (is_here page.stage && has_right access page)) _ _ tt (names_choice n (has_met s.met hart.generation page.number) _ _ tt tt)

names_asked : (deltas : List DeltaValue) (s : FlatState) (hart : HartState) (o : Option Ask) → NamesNext (length s.gens) (unwrap_or (option_map (λ ask. todo_of deltas s hart ask) o) [])
names_asked deltas s hart None = tt
names_asked deltas s hart (Some Called) =
    let next : ℕ = next_pc hart.arch.pc in
    names_append (length s.gens) (done_about deltas s next (requested_by hart)) (ending_of next (requested_by hart)) (names_done deltas s next (requested_by hart)) (ending_unborn next (requested_by hart))
names_asked deltas s hart (Some (Stopped cause value)) = tt
names_asked deltas s hart (Some (Faulted access)) = names_choice (length s.gens) (is_some (accessed_text s hart access)) _ _ tt (names_page (length s.gens) s hart access (accessed_data s access))

names_hart : (deltas : List DeltaValue) (s : FlatState) (h : ℕ) (o : Option HartState) → NamesNext (length s.gens) (unwrap_or (option_map (λ hart. todo_by deltas s h hart) o) [])
names_hart deltas s h None = tt
names_hart deltas s h (Some hart) = names_asked deltas s hart (ask_of s h hart)

names_request : (deltas : List DeltaValue) (s : FlatState) (o : Option Request) → NamesNext (length s.gens) (unwrap_or (option_map (λ request. done_about deltas s 0 request) o) [])
names_request deltas s None = tt
names_request deltas s (Some request) = names_done deltas s 0 request

names_with : (deltas : List DeltaValue) (s : FlatState) (actor : Actor) (e : Event) → NamesNext (length s.gens) (todo_with deltas s actor e)
names_with deltas s (Hart h) e = names_hart deltas s h (slice_get s.harts h)
names_with deltas s Kernel e = names_request deltas s (request_with e)

-- where it bears none
settled_names : (deltas : List DeltaValue) (s : FlatState) (actor : Actor) (owed : List ℕ) (e : Event) → NamesNextCall (length s.gens) (Some (settled_with deltas s actor owed e))
settled_names deltas s actor owed (Gone page worn) = tt
settled_names deltas s actor owed e = names_later (length s.gens) (todo_with deltas s actor e) (names_with deltas s actor e)

behind_names : (deltas : List DeltaValue) (s : FlatState) (actor : Actor) (call : Option Call) (e : Event) → NamesNextCall (length s.gens) call → NamesNextCall (length s.gens) (call_behind deltas s actor call e)
behind_names deltas s actor None e p = tt
behind_names deltas s actor (Some (Doing todo)) e p = names_later (length s.gens) todo p
behind_names deltas s actor (Some (Settling owed last)) e p = settled_names deltas s actor owed e

side_names : (n : ℕ) (inside closes : Bool) (call behind : Option Call) → NamesNextCall n call → NamesNextCall n behind → NamesNextCall n (if inside then (if closes then None else behind) else call)
side_names n true true call behind p q = tt
side_names n true false call behind p q = q
side_names n false closes call behind p q = p

unborn_after : (m : Moment) (actor : Actor) (e : Event) → NamesNextCall (length m.flat.gens) m.call → NamesNextCall (length m.flat.gens) (call_after m actor e)
unborn_after m (Hart h) Enter p = tt
unborn_after m (Hart h) e p =
    side_names (length m.flat.gens) (is_inside m.flat.inside (Hart h)) (closes_call (Hart h) e) m.call (call_behind m.deltas m.flat (Hart h) m.call e) p (behind_names m.deltas m.flat (Hart h) m.call e p)
unborn_after m Kernel Enter p = tt
unborn_after m Kernel Idle p = p
unborn_after m Kernel e p =
    side_names (length m.flat.gens) (is_inside m.flat.inside Kernel) (closes_call Kernel e) m.call (call_behind m.deltas m.flat Kernel m.call e) p (behind_names m.deltas m.flat Kernel m.call e p)

-- where it bears one
record IsBorn (n generation : ℕ) (todo : List Todo) : Type 0 where
  next : generation ≡ n
  none : HasNoBorn (later todo)

gone_unborn : (s : FlatState) (page : ℕ) (e : Event) → IsGone s page e → is_born e ≡ false
gone_unborn s page e (inl is) = ap is_born is
gone_unborn s page e (inr is) = ap is_born is.0

leaving_unborn : (s : FlatState) (number : ℕ) (o : Option PageState) (e : Event) → IsLeaving s number o e → is_born e ≡ false
leaving_unborn s number None e p = absurd p
leaving_unborn s number (Some page) e p = by_free (not (is_some page.holder)) p
  where
    by_free : (b : Bool) → MatchBool b (IsGone s number e) (e ≡ Ending number) → is_born e ≡ false
    by_free true p = gone_unborn s number e p
    by_free false p = ap is_born p

names_exactly : (n generation parent : ℕ) (patch : Option ℕ) (next : Event) (todo : List Todo) → Born generation parent patch ≡ next → NamesNext n (Exactly next ∷ todo) → (generation ≡ n) × HasNoBorn todo
names_exactly n generation parent patch next todo same p = subst (λ (e : Event). NamesNext n (Exactly e ∷ todo)) (sym same) p

names_born : (s : FlatState) (n generation parent : ℕ) (patch : Option ℕ) (todo : List Todo) → NamesNext n todo → IsNext s todo (Born generation parent patch) → IsBorn n generation todo
names_born s n generation parent patch [] p next = absurd next
names_born s n generation parent patch (Exactly event ∷ todo) p next = let w = names_exactly n generation parent patch event todo next p in record { next = w.0; none = w.1 }
names_born s n generation parent patch (Leaves page ∷ todo) p next = absurd (let never = leaving_unborn s page _ (Born generation parent patch) next in cc)

-- its number is the next, and no other is born in the same call
hart_todo : (deltas : List DeltaValue) (s : FlatState) (h : ℕ) (e : Event) (hart : HartState) → slice_get s.harts h ≡ Some hart → todo_with deltas s (Hart h) e ≡ todo_by deltas s h hart
hart_todo deltas s h e hart is = ap (λ (o : Option HartState). unwrap_or (option_map (λ (hart : HartState). todo_by deltas s h hart) o) []) is

born_inside : (deltas : List DeltaValue) (s : FlatState) (actor : Actor) (call : Option Call) (generation parent : ℕ) (patch : Option ℕ) → NamesNextCall (length s.gens) call → GoesOn deltas s actor call (Born generation parent patch)
    → (generation ≡ length s.gens) × ((n : ℕ) → (h : ℕ) → actor ≡ Hart h → NamesNextCall n (call_behind deltas s actor call (Born generation parent patch)))
born_inside deltas s actor None generation parent patch p a = absurd a
born_inside deltas s actor (Some (Doing todo)) generation parent patch p a = let w = names_born s (length s.gens) generation parent patch todo p a in (w.next, λ n h is. none_names n (later todo) w.none)
born_inside deltas s actor (Some (Settling owed last)) generation parent patch p (inl settles) = absurd (let never = gone_unborn s settles.page _ settles.is in cc)
born_inside deltas s (Hart k) (Some (Settling owed last)) generation parent patch p (inr asked) =
    let hart = some_and (slice_get s.harts k) _ asked.1 in
    let w = names_born s (length s.gens) generation parent patch (todo_by deltas s k hart.0) (names_asked deltas s hart.0 (ask_of s k hart.0)) hart.2 in
    let todo = hart_todo deltas s k (Born generation parent patch) hart.0 hart.1 in
    (w.next, λ n h is. none_names n (later (todo_with deltas s (Hart k) (Born generation parent patch))) (subst (λ (todo : List Todo). HasNoBorn (later todo)) (sym todo) w.none))
born_inside deltas s Kernel (Some (Settling owed last)) generation parent patch p (inr asked) =
    let w = names_born s (length s.gens) generation parent patch (done_about deltas s 0 asked.1.request) (names_done deltas s 0 asked.1.request) asked.1.next in
    (w.next, λ n h is. absurd (cc))

-- who bears one is inside
born_goes : (b : Bool) (m : Moment) (actor : Actor) (e : Event) → MatchBool b (GoesOn m.deltas m.flat actor m.call e) (MayAct m.flat actor e) → b ≡ true → GoesOn m.deltas m.flat actor m.call e
born_goes true m actor e a t = a
born_goes false m actor e a t = absurd (cc)

bears : (m : Moment) (actor : Actor) (generation parent : ℕ) (patch : Option ℕ) → IsLateCall m.call → Allows m actor (Born generation parent patch) → GoesOn m.deltas m.flat actor m.call (Born generation parent patch)
bears m (Hart h) generation parent patch late a = born_goes (is_inside m.flat.inside (Hart h)) m (Hart h) (Born generation parent patch) a (inner_comes m (Hart h) (Born generation parent patch) refl late a).0
bears m Kernel generation parent patch late a = born_goes (is_inside m.flat.inside Kernel) m Kernel (Born generation parent patch) a (inner_comes m Kernel (Born generation parent patch) refl late a).0

-- what each entry keeps
abbrev pub IsNamed : Moment → Type 0
IsNamed m = IsLateCall m.call × NamesNextCall (length m.flat.gens) m.call

born_call : (n : ℕ) (b : Bool) (call behind : Option Call) → b ≡ true → NamesNextCall n behind → NamesNextCall n (if b then behind else call)
born_call n true call behind t p = p
born_call n false call behind t p = absurd (cc)

closed_call : (n : ℕ) (b : Bool) (call : Option Call) → b ≡ true → NamesNextCall n (if b then None else call)
closed_call n true call t = tt
closed_call n false call t = absurd (cc)

born_after : (m : Moment) (actor : Actor) (generation parent : ℕ) (patch : Option ℕ) → IsNamed m → Allows m actor (Born generation parent patch) → NamesNextCall (length m.flat.gens + 1) (call_after m actor (Born generation parent patch))
born_after m (Hart h) generation parent patch p a =
    born_call (length m.flat.gens + 1) (is_inside m.flat.inside (Hart h)) m.call (call_behind m.deltas m.flat (Hart h) m.call (Born generation parent patch)) (inner_comes m (Hart h) (Born generation parent patch) refl p.0 a).0
    ((born_inside m.deltas m.flat (Hart h) m.call generation parent patch p.1 (bears m (Hart h) generation parent patch p.0 a)).1 (length m.flat.gens + 1) h refl)
born_after m Kernel generation parent patch p a = closed_call (length m.flat.gens + 1) (is_inside m.flat.inside Kernel) m.call (inner_comes m Kernel (Born generation parent patch) refl p.0 a).0

named_by : (m : Moment) (actor : Actor) (e : Event) → IsNamed m → Allows m actor e → NamesNextCall (count_after e (length m.flat.gens)) (call_after m actor e)
named_by m actor (Born generation parent patch) p a = born_after m actor generation parent patch p a
named_by m actor Enter p a = unborn_after m actor Enter p.1
named_by m actor e p a = unborn_after m actor e p.1

pub named_after : (m : Moment) (actor : Actor) (e : Event) → IsNamed m → Allows m actor e → IsNamed (after m actor e)
named_after m actor e p a = (call_kept m actor e p.0, subst (λ (n : ℕ). NamesNextCall n (call_after m actor e)) (sym (count_are m.deltas m.flat actor e)) (named_by m actor e p a))

pub next_number : (m : Moment) (actor : Actor) (generation parent : ℕ) (patch : Option ℕ) → IsNamed m → Allows m actor (Born generation parent patch) → generation ≡ length m.flat.gens
next_number m actor generation parent patch p a = (born_inside m.deltas m.flat actor m.call generation parent patch p.1 (bears m actor generation parent patch p.0 a)).0

-- the text that it is born with
text_born : (deltas : List DeltaValue) (s : FlatState) (actor : Actor) (generation parent : ℕ) (patch : Option ℕ) → generation ≡ length s.gens → generation_text (flat_after deltas s actor (Born generation parent patch)) generation ≡ born_text s parent (delta_of deltas patch)
text_born deltas s actor generation parent patch next =
    let gens : List GenState = s.gens ++ newborn deltas s parent patch ∷ [] in
    ap (λ (gens : List GenState). text_in (slice_get gens generation)) (gens_are deltas s actor (Born generation parent patch)) ∙ ap (λ (g : ℕ). text_in (slice_get gens g)) next ∙ ap text_in (get_last s.gens (newborn deltas s parent patch))

pub told : TextsAreTold
told deltas s front back actor generation parent patch l =
    let start : Moment = at_rest deltas s in
    let born : Entry = record { actor = actor; event = Born generation parent patch } in
    let before : Moment = end_of start front in
    let w = at start front born back l in
    let named : IsNamed before = carried IsNamed named_after start front (tt, tt) w.legal in
    let next = next_number before actor generation parent patch named w.allowed in
    let behind : Moment = after before actor (Born generation parent patch) in
    let more : length behind.flat.gens ≡ length before.flat.gens + 1 = count_are before.deltas before.flat actor (Born generation parent patch) in
    let below : generation < length behind.flat.gens = omega arith in
    let same : before.deltas ≡ deltas = kept_deltas start front in (
      next,
      ap (λ (m : Moment). generation_text m.flat generation) (end_of-append start front (born ∷ back)) ∙ texts_stay behind back generation w.rest below
          ∙ text_born before.deltas before.flat actor generation parent patch next ∙ ap (λ (deltas : List DeltaValue). born_text before.flat parent (delta_of deltas patch)) same,
    )

-- a generation that is there after an entry, and was not before, is born with it
first_born : (entries : List Entry) (actor : Actor) (e : Event) (generation n : ℕ) → generation < count_after e n → ((g parent : ℕ) (patch : Option ℕ) → e ≡ Born g parent patch → g ≡ n)
    → (generation < n) ⊎ WasBorn (record { actor = actor; event = e } ∷ entries) generation
first_born entries actor (Born g parent patch) generation n below number = elim (cases_order generation n) [
  | inl same ↦ inr (record {
    front = [];
    actor = actor;
    parent = parent;
    patch = patch;
    back = entries;
    joined = ap (λ (g : ℕ). record { actor = actor; event = Born g parent patch } ∷ entries) (number g parent patch refl ∙ sym same);
  })
  | inr apart ↦ inl (omega arith)
]
first_born entries actor e generation n below number = inl below

named_born : (m : Moment) (entries : List Entry) (generation : ℕ) → IsNamed m → IsLegal m entries → generation < length (end_of m entries).flat.gens → (generation < length m.flat.gens) ⊎ WasBorn entries generation
named_born m [] generation named l below = inl below
named_born m (entry ∷ entries) generation named l below = elim (named_born (after m entry.actor entry.event) entries generation (named_after m entry.actor entry.event named l.0) l.1 below) [
  | inr later ↦ inr (record {
    front = entry ∷ later.front;
    actor = later.actor;
    parent = later.parent;
    patch = later.patch;
    back = later.back;
    joined = ap (λ (es : List Entry). entry ∷ es) later.joined;
  })
  | inl there ↦ first_born entries entry.actor entry.event generation (length m.flat.gens) (subst (λ (n : ℕ). generation < n) (count_are m.deltas m.flat entry.actor entry.event) there)
      (λ g parent patch is. next_number m entry.actor g parent patch named (subst (λ (e : Event). Allows m entry.actor e) is l.0))
]

pub are_born : GenerationsAreBorn
are_born deltas s entries generation l below = named_born (at_rest deltas s) entries generation (tt, tt) l below
