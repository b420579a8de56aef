-- A sound state meets the premises of the laws.
use Rattle.std.proofs.Common.{◌≡◌, ◌<◌, ℕ, List, [], ◌∷◌, ◌++◌, length, Option, Some, None, Bool, true, false, ◌==◌, is_some, map, refl, sym, subst, ap, ◌∙◌, arith}
use Rattle.std.proofs.lemmas.Bool.Decides.{nat_tests}
use Rattle.std.specs.Prelude.{IsSomeAnd, slice_get, unwrap_or}
use Rattle.std.specs.Option.{option_map, IfSome}
use Rattle.std.specs.List.{AllByRecursion}
use Rattle.wf_outside.specs.Images.{DeltaValue, text_numbers}
use Rattle.wf_outside.specs.Pages.{DataPageValue, PageValue}
use Rattle.wf_flat.specs.declared.event.Actor.{Actor}
use Rattle.wf_flat.specs.declared.event.Actor.TheVariants.{Hart, Kernel}
use Rattle.wf_flat.specs.declared.event.Event.{Event}
use Rattle.wf_flat.specs.declared.event.Event.TheVariants.{End, Look, Put, Swap, Take}
use Rattle.wf_flat.specs.declared.event.Entry.{Entry}
use Rattle.wf_flat.specs.declared.state.Life.TheVariants.{Running}
use Rattle.wf_flat.specs.declared.state.Stage.{Stage}
use Rattle.wf_flat.specs.declared.state.Stage.TheVariants.{Here, Going, Ending}
use Rattle.wf_flat.specs.State.{FlatState, GenState, HartState, PageState}
use Rattle.wf_flat.specs.Memory.{data_in, page_in}
use Rattle.wf_flat.specs.Accesses.{is_going, text_in}
use Rattle.wf_flat.specs.Steps.{OfHart}
use Rattle.wf_flat.proofs.ListLemmas.{and_some, some_and}
use Rattle.wf_effects.specs.declared.ranges.PageRun.{PageRun}
use Rattle.wf_effects.specs.Generations.{is_live}
use Rattle.wf_effects.specs.Ranges.{is_data}
use Rattle.wf_verdict.specs.declared.work.Todo.TheVariants.{Exactly, Leaves}
use Rattle.wf_verdict.specs.Work.{map_of}
use Rattle.wf_legal.specs.Calls.{Call, Doing, Settling}
use Rattle.wf_legal.specs.Legal.{Allows, Moment, IsLegal, at_rest, end_of}
use Rattle.wf_next.specs.Determined.{IsGoingAway, LeavesAreGoing}
use Rattle.wf_next.proofs.DeterminedLemmas.{next_determined}
use Rattle.wf_laws.specs.Bytes.{HasWholePages, IsWholeDelta}
use Rattle.wf_laws.specs.Conditionals.{HasOldBirths}
use Rattle.wf_laws.specs.Dead.{RunsInLive, StandsByNumber}
use Rattle.wf_laws.specs.Holders.{HoldersTry, IsTryingAt, IsNoText, Touches}
use Rattle.wf_laws.proofs.CallLemmas.{IsLateCall, acts_outside}
use Rattle.wf_laws.proofs.CarryLemmas.{at, carried}
use Rattle.wf_laws.proofs.DeadLemmas.{all_at, all_more, at_all, unfetched}
use Rattle.wf_laws.proofs.EndingLemmas.{for_holder}
use Rattle.wf_laws.proofs.FitLemmas.{HaveRows}
use Rattle.wf_laws.proofs.HolderLemmas.{IsHeld, held_there, touch_held}
use Rattle.wf_laws.proofs.LatestLemmas.{latest, swaps}
use Rattle.wf_laws.proofs.ReservationLemmas.{between}
use Rattle.wf_laws.proofs.TouchLemmas.{still_held}
use Rattle.wf_sound.specs.Laws.{EntriesKeepSound}
use Rattle.wf_sound.specs.Sound.{HasHolder, IsDelta, IsHolder, IsInHand, IsSound, IsSoundGen, IsSoundPage, IsSoundState}
use Rattle.wf_sound_laws.specs.Laws.{Enters, SoundConditionalsAreAlone, SoundDeadAreNotFetched, SoundEndingIsForHolder, SoundHartsAreDetermined, SoundHoldersAreAlone, SoundLooksAreLatest, SoundSwapsAreLatest}
use Rattle.wf_sound_laws.proofs.FreshLemmas.{maps_fresh}

-- what a sound state has
whole_pages : (deltas : List DeltaValue) (s : FlatState) → IsSoundState deltas s → HasWholePages s
whole_pages deltas s sound = all_more (IsSoundPage s.limits s.births) (λ (page : PageState). length page.words ≡ 512) s.pages (λ page p. p.is_page.whole) sound.pages

whole_delta : (delta : DeltaValue) → IsDelta delta → IsWholeDelta delta
whole_delta delta p = all_more _ (λ (page : DataPageValue). length page.words ≡ 512) delta.shared (λ page p. p.whole) p.shared_pages

whole_deltas : (deltas : List DeltaValue) → AllByRecursion IsDelta deltas → AllByRecursion IsWholeDelta deltas
whole_deltas deltas all = all_more IsDelta IsWholeDelta deltas whole_delta all

old_births : (deltas : List DeltaValue) (s : FlatState) → IsSoundState deltas s → HasOldBirths s
old_births deltas s sound = all_more (IsSoundPage s.limits s.births) (λ (page : PageState). page.birth < s.births) s.pages (λ page p. p.birth) sound.pages

try_one : (s : FlatState) (page : PageState) → HasHolder s page → IfSome page.holder (λ (h : ℕ). OfHart s h (IsTryingAt s h page.number))
try_one s page p = by_holder page.holder p
  where
    by_holder : (o : Option ℕ) → IfSome o (λ (h : ℕ). OfHart s h (IsHolder s h page.number)) → IfSome o (λ (h : ℕ). OfHart s h (IsTryingAt s h page.number))
    by_holder None p = tt
    by_holder (Some h) p = (let w = some_and (slice_get s.harts h) _ p in and_some (slice_get s.harts h) _ w.0 w.1 (w.2.outside, w.2.access))

holders_try : (deltas : List DeltaValue) (s : FlatState) → IsSoundState deltas s → HoldersTry s
holders_try deltas s sound = all_more (HasHolder s) _ s.pages (try_one s) sound.held

by_number : (deltas : List DeltaValue) (s : FlatState) → IsSoundState deltas s → StandsByNumber s
by_number deltas s sound g gen is = (sound.placed g gen is).0

in_live : (deltas : List DeltaValue) (s : FlatState) → IsSoundState deltas s → RunsInLive s
in_live deltas s sound = at_all (λ (hart : HartState). hart.life ≡ Running → is_live s hart.generation ≡ true) s.harts (λ h hart is. (sound.harts h hart is).live)

-- pages that a call has still to let go are Going
stage_going : (stage : Stage) → is_going stage ≡ true → stage ≡ Going
stage_going Here e = absurd (cc)
stage_going Going e = refl
stage_going Ending e = absurd (cc)

going_pages : (s : FlatState) (pages : List ℕ) (next : ℕ) → AllByRecursion (λ (n : ℕ). IsSomeAnd (data_in s.pages n) (λ (page : PageState). is_going page.stage ≡ true)) pages → AllByRecursion (IsGoingAway s) (map Leaves pages ++ Exactly (End next) ∷ [])
going_pages s [] next all = (tt, tt)
going_pages s (n ∷ pages) next all = (let w = some_and (data_in s.pages n) _ all.0 in and_some (data_in s.pages n) _ w.0 w.1 (stage_going w.0.stage w.2), going_pages s pages next all.1)

going_runs : (s : FlatState) (patch : ℕ) (runs : List PageRun) (born : Event) → AllByRecursion (IsGoingAway s) (map (map_of patch) runs ++ Exactly born ∷ [])
going_runs s patch [] born = (tt, tt)
going_runs s patch (run ∷ runs) born = (tt, going_runs s patch runs born)

leaves_going : (deltas : List DeltaValue) (s : FlatState) (inside : Option Actor) (call : Option Call) → IsInHand deltas s inside call → LeavesAreGoing s call
leaves_going deltas s inside None hand = tt
leaves_going deltas s inside (Some (Settling owed last)) hand = tt
leaves_going deltas s None (Some (Doing todo)) hand = absurd hand
leaves_going deltas s (Some Kernel) (Some (Doing todo)) hand = subst (AllByRecursion (IsGoingAway s)) (sym hand.is) (going_runs s hand.patch hand.runs _)
leaves_going deltas s (Some (Hart h)) (Some (Doing todo)) hand =
    let work = (some_and (slice_get s.harts h) _ hand).2.1.1 in
    subst (AllByRecursion (IsGoingAway s)) (sym work.is) (going_pages s work.pages work.next work.going)

-- the end of a journal is sound
sound_end : EntriesKeepSound → (m : Moment) (entries : List Entry) → IsSound m → IsLegal m entries → IsSound (end_of m entries)
sound_end keeps m entries sound l = carried IsSound keeps m entries sound l

pub determined : EntriesKeepSound → SoundHartsAreDetermined
determined keeps deltas s entries h event sound l undisturbed a =
    let m : Moment = end_of (at_rest deltas s) entries in
    let last = sound_end keeps (at_rest deltas s) entries sound l in
    next_determined m h event (leaves_going m.deltas m.flat m.flat.inside m.call last.call) undisturbed a

pub looks : HaveRows → EntriesKeepSound → SoundLooksAreLatest
looks rows keeps deltas s front back h va width value sound l none =
    let w = at (at_rest deltas s) front (record { actor = Hart h; event = Look va width value }) back l in
    latest rows deltas s front back h va width value (whole_pages deltas s sound.state) (whole_deltas deltas sound.deltas) (maps_fresh keeps (at_rest deltas s) front sound tt w.legal) l none

pub swap_reads : HaveRows → EntriesKeepSound → SoundSwapsAreLatest
swap_reads rows keeps deltas s front back h va width old new sound l =
    let w = at (at_rest deltas s) front (record { actor = Hart h; event = Swap va width old new }) back l in
    swaps rows deltas s front back h va width old new (whole_pages deltas s sound.state) (whole_deltas deltas sound.deltas) (maps_fresh keeps (at_rest deltas s) front sound tt w.legal) l

-- no page of data is text of a running hart's generation
by_number_test : (page : ℕ) (p : PageValue) (text : List PageValue) (b : Bool) → (p.number == page) ≡ b → b ≡ false → page_in text page ≡ None → page_in (p ∷ text) page ≡ None
by_number_test page p text b t off rest = rw (t ∙ off) rest

text_apart : (s : FlatState) (page : ℕ) (text : List PageValue) → is_data s page ≡ true → AllByRecursion (λ (n : ℕ). is_data s n ≡ false) (text_numbers text) → page_in text page ≡ None
text_apart s page [] is all = refl
text_apart s page (p ∷ text) is all = by_number_test page p text (p.number == page) refl (off (p.number == page) refl) (text_apart s page text is all.1)
  where
    off : (b : Bool) → (p.number == page) ≡ b → b ≡ false
    off true t = absurd (let same : p.number ≡ page = grind (arith, nat_tests) in let never : is_data s page ≡ false = subst (λ (n : ℕ). is_data s n ≡ false) same all.0 in cc)
    off false t = refl

live_apart : (deltas : List DeltaValue) (s : FlatState) (g page : ℕ) (o : Option GenState) → slice_get s.gens g ≡ o → unwrap_or (option_map (λ (gen : GenState). gen.live) o) false ≡ true → IsSoundState deltas s → is_data s page ≡ true → page_in (text_in o) page ≡ None
live_apart deltas s g page None there live sound is = absurd (cc)
live_apart deltas s g page (Some gen) there live sound is = text_apart s page gen.text is ((all_at (IsSoundGen deltas s) s.gens g gen sound.gens there).apart live)

no_text : (deltas : List DeltaValue) (s : FlatState) (h page : ℕ) (hart : HartState) → IsSoundState deltas s → slice_get s.harts h ≡ Some hart → hart.life ≡ Running → is_data s page ≡ true → IsNoText s h page
no_text deltas s h page hart sound is runs data_there =
    and_some (slice_get s.harts h) _ hart is (live_apart deltas s hart.generation page (slice_get s.gens hart.generation) refl ((sound.harts h hart is).live runs) sound data_there)

held_data : (s : FlatState) (h page : ℕ) → IsHeld s h page → is_data s page ≡ true
held_data s h page held = (let w = held_there h (data_in s.pages page) held in ap (λ (o : Option PageState). is_some o) w.1)

enters_touch : (m : Moment) (h other page : ℕ) (event : Event) → IsSound m → IsLateCall m.call → IsHeld m.flat h page → Allows m (Hart other) event → Enters page event → Touches m.flat other page event
enters_touch m h other page (Take taken) sound late held a enters = enters
enters_touch m h other page (Put va width value) sound late held a enters = enters
enters_touch m h other page (Swap va width old new) sound late held a enters = enters
enters_touch m h other page (Look va width value) sound late held a enters =
    let w = some_and (slice_get m.flat.harts other) _ (acts_outside m other (Look va width value) refl late a) in
    (enters, no_text m.deltas m.flat other page w.0 sound.state w.1 w.2.0 (held_data m.flat h page held))
enters_touch m h other page event sound late held a enters = absurd enters

pub alone_in : EntriesKeepSound → SoundHoldersAreAlone
alone_in keeps deltas s front middle back h other page event sound l unended enters =
    let start : Moment = at_rest deltas s in
    let takes : Entry = record { actor = Hart h; event = Take page } in
    let before : Moment = end_of start (front ++ takes ∷ middle) in
    let w = at start (front ++ takes ∷ middle) (record { actor = Hart other; event = event }) back l in
    let held = still_held deltas s front middle h page w.legal unended in
    let last = sound_end keeps start (front ++ takes ∷ middle) sound w.legal in
    touch_held before h other page event held.0 w.allowed (enters_touch before h other page event last held.0 held.1 w.allowed enters) held.1

pub endings : SoundEndingIsForHolder
endings deltas s front middle back actor other page event sound l unmapped touch = for_holder deltas s front middle back actor other page event (holders_try deltas s sound.state) l unmapped touch

pub conditionals : SoundConditionalsAreAlone
conditionals deltas s front middle back h va width value va' width' value' sound l reserving unreserved conditional =
    between deltas s front middle back h va width value va' width' value' (holders_try deltas s sound.state) (old_births deltas s sound.state) l reserving unreserved conditional

pub dead_unfetched : SoundDeadAreNotFetched
dead_unfetched deltas s front middle back actor generation h pc word sound l =
    unfetched deltas s front middle back actor generation h pc word (by_number deltas s sound.state) (in_live deltas s sound.state) l
