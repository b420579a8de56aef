-- From a sound state, pages that are mapped are not there.
use Rattle.std.proofs.Common.{◌≡◌, inl, inr, ℕ, zero, suc, List, [], ◌∷◌, ◌++◌, ◌+◌, ◌==◌, Option, Some, None, Bool, true, false, ◌&&◌, is_some, map, refl, sym, subst, ap, arith}
use Rattle.std.specs.Prelude.{MatchBool, nat_le, nat_lt, slice_get}
use Rattle.std.specs.List.{AllByRecursion, range_with_len}
use Rattle.std.proofs.lemmas.Bool.Decides.{nat_tests}
use Rattle.wf_outside.specs.Images.{DeltaValue, data_numbers, text_numbers}
use Rattle.wf_flat.specs.declared.event.Actor.{Actor}
use Rattle.wf_flat.specs.declared.event.Actor.TheVariants.{Hart, Kernel}
use Rattle.wf_flat.specs.declared.event.Event.{Event}
use Rattle.wf_flat.specs.declared.event.Event.TheVariants.{End, Ending, Map}
use Rattle.wf_flat.specs.declared.event.Entry.{Entry}
use Rattle.wf_flat.specs.State.{FlatState, PageState}
use Rattle.wf_flat.specs.Memory.{data_in}
use Rattle.wf_flat.specs.Accesses.{is_free}
use Rattle.wf_flat.specs.Steps.{MayAct, is_inside, is_same}
use Rattle.wf_flat.proofs.ListLemmas.{some_and}
use Rattle.wf_effects.specs.declared.ranges.PageRun.{PageRun}
use Rattle.wf_effects.specs.Ranges.{runs_of}
use Rattle.wf_effects.specs.Texts.{pages_of}
use Rattle.wf_verdict.specs.declared.requests.Request.{Request}
use Rattle.wf_verdict.specs.declared.requests.Request.TheVariants.{Exits, PutsByte, Maps, Unmaps, TellsGeneration, Migrates, Quiesces, Deletes, Clones, Patches, NoCall}
use Rattle.wf_verdict.specs.declared.work.Todo.{Todo}
use Rattle.wf_verdict.specs.declared.work.Todo.TheVariants.{Exactly, Leaves}
use Rattle.wf_verdict.specs.Verdict.{delta_at, pages_from, refusals_of}
use Rattle.wf_verdict.specs.Work.{map_of, work_of}
use Rattle.wf_legal.specs.Calls.{Begins, Call, Doing, Settling, GoesOn, IsGone, IsNext, IsLeaving}
use Rattle.wf_legal.specs.Legal.{Allows, Moment, IsLegal, after}
use Rattle.wf_laws.specs.Bytes.{IsFresh, MapsAreFresh}
use Rattle.wf_laws.proofs.CallLemmas.{IsLateCall, call_kept, inner_comes}
use Rattle.wf_laws.proofs.RequestLemmas.{is_refused, is_requested, requested, unrefused}
use Rattle.wf_sound.specs.Laws.{EntriesKeepSound}
use Rattle.wf_sound.specs.Sound.{HasNoneGoing, IsInHand, IsSound, IsUnused, run_numbers}
use Rattle.wf_sound.proofs.PatchLemmas.{all_unsorted, runs_numbers}
use Rattle.wf_sound.proofs.RefusalLemmas.{all_none, unused_pages}

-- what holds of all numbers of a range
of_range : (P : ℕ → Type 0) (first n k : ℕ) → AllByRecursion P (range_with_len first n) → (nat_le first k && nat_lt k (first + n)) ≡ true → P k
of_range P first zero k all t = absurd (grind (arith, nat_tests))
of_range P first (suc n) k all t = by_first (first == k) refl (of_range P (first + 1) n k all.1)
  where
    by_first : (b : Bool) → (first == k) ≡ b → ((nat_le (first + 1) k && nat_lt k (first + 1 + n)) ≡ true → P k) → P k
    by_first true same rest = (let is : first ≡ k = grind (arith, nat_tests) in subst P is all.0)
    by_first false same rest = rest (grind (arith, nat_tests))

all_front : (P : ℕ → Type 0) (one other : List ℕ) → AllByRecursion P (one ++ other) → AllByRecursion P one
all_front P [] other p = tt
all_front P (x ∷ one) other p = (p.0, all_front P one other p.1)

all_back : (P : ℕ → Type 0) (one other : List ℕ) → AllByRecursion P (one ++ other) → AllByRecursion P other
all_back P [] other p = p
all_back P (x ∷ one) other p = all_back P one other p.1

no_data : (o : Option PageState) → is_some o ≡ false → o ≡ None
no_data None e = refl
no_data (Some page) e = absurd (cc)

-- an event that maps, and others
abbrev is_map : Event → Bool
is_map (Map first n write patch) = true
is_map event = false

unmapped : (e event : Event) → is_map event ≡ false → is_map e ≡ true → e ≡ event → ⊥
unmapped e event u m p = let same = ap is_map p in cc

-- none of the pages that it maps is there
abbrev MapsUnused : FlatState → Event → Type 0
MapsUnused s (Map first n write patch) = AllByRecursion (IsUnused s) (range_with_len first n)
MapsUnused s event = Unit {0}

unused_fresh : (s : FlatState) (e : Event) → MapsUnused s e → IsFresh s e
unused_fresh s (Map first n write patch) p k mapped = no_data (data_in s.pages k) (of_range (IsUnused s) first n k p mapped).0
unused_fresh s e p k mapped = absurd (cc)

not_map_fresh : (s : FlatState) (e : Event) → is_map e ≡ false → MapsUnused s e
not_map_fresh s (Map first n write patch) u = absurd (cc)
not_map_fresh s e u = tt

-- the first run of a patch
runs_next : (s : FlatState) (patch : ℕ) (runs : List PageRun) (born : Event) (e : Event) → is_map born ≡ false → is_map e ≡ true → AllByRecursion (IsUnused s) (run_numbers runs) → IsNext s (map (map_of patch) runs ++ Exactly born ∷ []) e → MapsUnused s e
runs_next s patch [] born e u m all p = absurd (unmapped e born u m p)
runs_next s patch (run ∷ runs) born e u m all p = subst (MapsUnused s) (sym p) (all_front (IsUnused s) (range_with_len run.first run.count) (run_numbers runs) all)

-- what is requested
unused_data : (s : FlatState) (delta : DeltaValue) → AllByRecursion (IsUnused s) (pages_of delta) → AllByRecursion (IsUnused s) (run_numbers (runs_of delta.shared))
unused_data s delta all = subst (AllByRecursion (IsUnused s)) (sym (runs_numbers delta.shared)) (all_back (IsUnused s) (text_numbers delta.private) (data_numbers delta.shared) (all_unsorted (IsUnused s) (text_numbers delta.private ++ data_numbers delta.shared) all))

work_unused : (deltas : List DeltaValue) (s : FlatState) (next : ℕ) (request : Request) (e : Event) → HasNoneGoing s → AllByRecursion (λ o. o ≡ None) (refusals_of deltas s next request) → is_map e ≡ true → IsNext s (work_of deltas s request) e → MapsUnused s e
work_unused deltas s next (Exits code) e none refusals m p = absurd (unmapped e _ refl m p)
work_unused deltas s next (PutsByte byte) e none refusals m p = absurd (unmapped e _ refl m p)
work_unused deltas s next (Maps va pages right) e none refusals m p = subst (MapsUnused s) (sym p) (unused_pages s (pages_from va pages) none refusals.1.1.0 refusals.1.1.1.0)
work_unused deltas s next (Unmaps va pages) e none refusals m p = absurd (unmapped e _ refl m p)
work_unused deltas s next TellsGeneration e none refusals m p = absurd p
work_unused deltas s next (Migrates generation) e none refusals m p = absurd (unmapped e _ refl m p)
work_unused deltas s next Quiesces e none refusals m p = absurd (unmapped e _ refl m p)
work_unused deltas s next (Deletes generation) e none refusals m p = absurd (unmapped e _ refl m p)
work_unused deltas s next (Clones generation) e none refusals m p = absurd (unmapped e _ refl m p)
work_unused deltas s next (Patches patch) e none refusals m p =
    let delta : DeltaValue = delta_at deltas patch in
    runs_next s patch (runs_of delta.shared) _ e refl m (unused_data s delta (unused_pages s (pages_of delta) none refusals.1.1.1.0 refusals.1.1.1.1.0)) p
work_unused deltas s next (NoCall number) e none refusals m p = absurd p

requested_event : (e : Event) → is_map e ≡ true → is_requested e ≡ true
requested_event (Map first n write patch) m = refl
requested_event e m = absurd (cc)

unrefused_event : (e : Event) → is_map e ≡ true → is_refused e ≡ false
unrefused_event (Map first n write patch) m = refl
unrefused_event e m = absurd (cc)

begins_unused : (deltas : List DeltaValue) (s : FlatState) (actor : Actor) (e : Event) → HasNoneGoing s → is_map e ≡ true → Begins deltas s actor e → MapsUnused s e
begins_unused deltas s actor e none m p =
    let r = requested deltas s actor e (requested_event e m) p in
    let u = unrefused deltas s actor e r (unrefused_event e m) in
    work_unused deltas s r.next r.request e none (all_none (refusals_of deltas s r.next r.request) u.0) m u.1

-- a page that leaves maps none
gone_unmapped : (s : FlatState) (page : ℕ) (e : Event) → is_map e ≡ true → IsGone s page e → ⊥
gone_unmapped s page e m (inl is) = unmapped e _ refl m is
gone_unmapped s page e m (inr is) = unmapped e _ refl m is.0

leaving_unmapped : (s : FlatState) (number : ℕ) (o : Option PageState) (e : Event) → is_map e ≡ true → IsLeaving s number o e → ⊥
leaving_unmapped s number None e m p = p
leaving_unmapped s number (Some page) e m p = by_free (is_free page) p
  where
    by_free : (b : Bool) → MatchBool b (IsGone s number e) (e ≡ Ending number) → ⊥
    by_free true p = gone_unmapped s number e m p
    by_free false p = unmapped e _ refl m p

hart_next : (s : FlatState) (pages : List ℕ) (next : ℕ) (e : Event) → is_map e ≡ true → IsNext s (map Leaves pages ++ Exactly (End next) ∷ []) e → ⊥
hart_next s [] next e m p = unmapped e _ refl m p
hart_next s (page ∷ pages) next e m p = leaving_unmapped s page (data_in s.pages page) e m p

-- in a call
of_call : (deltas : List DeltaValue) (s : FlatState) (actor : Actor) (call : Option Call) (e : Event) → is_map e ≡ true → IsInHand deltas s (Some actor) call → GoesOn deltas s actor call e → MapsUnused s e
of_call deltas s actor None e m hand p = absurd p
of_call deltas s actor (Some (Settling owed last)) e m hand (inl settles) = absurd (gone_unmapped s settles.page e m settles.is)
of_call deltas s (Hart h) (Some (Settling owed last)) e m hand (inr begins) = begins_unused deltas s (Hart h) e (some_and (slice_get s.harts h) _ hand).2.1.none_going m begins.1
of_call deltas s Kernel (Some (Settling owed last)) e m hand (inr begins) = begins_unused deltas s Kernel e hand.none_going m begins.1
of_call deltas s (Hart h) (Some (Doing todo)) e m hand p =
    let work = (some_and (slice_get s.harts h) _ hand).2.1.1 in
    absurd (hart_next s work.pages work.next e m (subst (λ (todo : List Todo). IsNext s todo e) work.is p))
of_call deltas s Kernel (Some (Doing todo)) e m hand p =
    runs_next s hand.patch hand.runs _ e refl m (all_back (IsUnused s) (text_numbers hand.delta.private) (run_numbers hand.runs) hand.unused) (subst (λ (todo : List Todo). IsNext s todo e) hand.is p)

-- who is inside
same_actor : (one other : Actor) → is_same one other ≡ true → one ≡ other
same_actor (Hart h) (Hart other) e = (let same : h ≡ other = grind (arith, nat_tests) in ap Hart same)
same_actor Kernel Kernel e = refl
same_actor (Hart h) Kernel e = absurd (cc)
same_actor Kernel (Hart h) e = absurd (cc)

inside_is : (o : Option Actor) (actor : Actor) → is_inside o actor ≡ true → o ≡ Some actor
inside_is None actor e = absurd (cc)
inside_is (Some other) actor e = ap Some (same_actor other actor e)

goes_on : (b : Bool) (m : Moment) (actor : Actor) (e : Event) → MatchBool b (GoesOn m.deltas m.flat actor m.call e) (MayAct m.flat actor e) → b ≡ true → GoesOn m.deltas m.flat actor m.call e
goes_on true m actor e a t = a
goes_on false m actor e a t = absurd (cc)

going_on : (m : Moment) (actor : Actor) (first n : ℕ) (write : Bool) (patch : Option ℕ) → IsLateCall m.call → Allows m actor (Map first n write patch) → GoesOn m.deltas m.flat actor m.call (Map first n write patch)
going_on m (Hart h) first n write patch late a = goes_on (is_inside m.flat.inside (Hart h)) m (Hart h) (Map first n write patch) a (inner_comes m (Hart h) (Map first n write patch) refl late a).0
going_on m Kernel first n write patch late a = goes_on (is_inside m.flat.inside Kernel) m Kernel (Map first n write patch) a (inner_comes m Kernel (Map first n write patch) refl late a).0

maps_unused : (m : Moment) (actor : Actor) (e : Event) → IsSound m → IsLateCall m.call → Allows m actor e → MapsUnused m.flat e
maps_unused m actor (Map first n write patch) sound late a =
    let inside : m.flat.inside ≡ Some actor = inside_is m.flat.inside actor (inner_comes m actor (Map first n write patch) refl late a).0 in
    of_call m.deltas m.flat actor m.call (Map first n write patch) refl (subst (λ (o : Option Actor). IsInHand m.deltas m.flat o m.call) inside sound.call) (going_on m actor first n write patch late a)
maps_unused m actor e sound late a = tt

pub fresh : (m : Moment) (actor : Actor) (e : Event) → IsSound m → IsLateCall m.call → Allows m actor e → IsFresh m.flat e
fresh m actor e sound late a = unused_fresh m.flat e (maps_unused m actor e sound late a)

pub maps_fresh : EntriesKeepSound → (m : Moment) (entries : List Entry) → IsSound m → IsLateCall m.call → IsLegal m entries → MapsAreFresh m entries
maps_fresh keeps m [] sound late l = tt
maps_fresh keeps m (entry ∷ entries) sound late l =
    (fresh m entry.actor entry.event sound late l.0, maps_fresh keeps (after m entry.actor entry.event) entries (keeps m entry.actor entry.event sound l.0) (call_kept m entry.actor entry.event late) l.1)
