-- What a hart requests, and is not refused, keeps the invariant; so does its refusal.
use Rattle.std.proofs.Common.{◌≡◌, ◌≢◌, ◌<◌, ◌≤◌, ◌+◌, ◌^◌, ◌==◌, ◌&&◌, ◌++◌, ℕ, zero, suc, List, [], ◌∷◌, Bool, true, false, Option, Some, None, length, map, refl, sym, ap, subst, ◌∙◌, inl, inr, arith, if◌then◌else◌, unwrap_or}
use Rattle.std.specs.Prelude.{slice_get, slice_index, IfSome, IsSomeAnd, Contains, nat_le, nat_lt}
use Rattle.std.specs.Option.{option_map}
use Rattle.std.specs.List.{AllByRecursion, range_with_len}
use Rattle.std.proofs.lemmas.Bool.Decides.{nat_tests}
use Rattle.std.proofs.lemmas.Option.{slice_get_within}
use Rattle.rv_inst.specs.declared.want.Want.TheVariants as want
use Rattle.rv_inst.specs.Meanings.{next_pc}
use Rattle.wf_outside.specs.declared.refusal.Refusal.{Refusal}
use Rattle.wf_outside.specs.declared.refusal.Refusal.TheVariants.{Number}
use Rattle.wf_outside.specs.Images.{DeltaValue}
use Rattle.wf_outside.specs.Images.{data_numbers}
use Rattle.wf_outside.specs.Lists.{IsRising}
use Rattle.wf_effects.specs.Effects.{delta_of}
use Rattle.wf_effects.specs.Ranges.{is_data}
use Rattle.wf_outside.specs.Pages.{page_of}
use Rattle.wf_flat.specs.declared.event.Actor.TheVariants.{Hart}
use Rattle.wf_flat.specs.declared.event.Event.{Event}
use Rattle.wf_flat.specs.declared.event.Event.TheVariants.{Born, Dead, End, Enter, Going, Map, Move, Out, Refused}
use Rattle.wf_flat.specs.declared.state.Life.TheVariants.{Running}
use Rattle.wf_flat.specs.declared.state.Stage.TheVariants as stages
use Rattle.wf_flat.specs.State.{FlatState, HartState, PageState}
use Rattle.wf_flat.specs.Memory.{data_in}
use Rattle.wf_flat.specs.Accesses.{is_going}
use Rattle.wf_flat.specs.Refusals.{refused_answer}
use Rattle.wf_flat.specs.Steps.{Ask, Called, Faulted, OfHart, Stopped, ask_of, want_in}
use Rattle.wf_flat.proofs.FoundLemmas.{key_of_found}
use Rattle.wf_flat.proofs.ListLemmas.{all_append, and_some, if_some_more, some_and}
use Rattle.wf_flat.proofs.SortLemmas.{all_sorted}
use Rattle.wf_calls.specs.declared.numbers.TheConstants.{EXIT, PUT_BYTE, MAP, UNMAP, OWN_GENERATION, MIGRATE, QUIESCE, DELETE, CREATE}
use Rattle.wf_effects.specs.Effects.{generation_born, generation_dead, going_in, hart_moved, mapped, mapped_pages, moved_to, pages_going}
use Rattle.wf_effects.specs.Generations.{is_live, newest}
use Rattle.wf_verdict.specs.declared.requests.Request.{Request}
use Rattle.wf_verdict.specs.declared.requests.Request.TheVariants.{Exits, PutsByte, Maps, Unmaps, TellsGeneration, Migrates, Quiesces, Deletes, Clones, Patches, NoCall}
use Rattle.wf_verdict.specs.declared.work.Todo.{Todo}
use Rattle.wf_verdict.specs.declared.work.Todo.TheVariants.{Exactly, Leaves}
use Rattle.wf_verdict.specs.Requests.{request_of, requested_by}
use Rattle.wf_verdict.specs.Verdict.{absent, bad_range, leaving, no_frames, no_more_views, no_view, not_empty, overlap, pages_from, refusal_of, clone_refusals, delete_refusals, map_refusals, migrate_refusals, unmap_refusals}
use Rattle.wf_verdict.specs.Work.{done_about, refused_or, work_of}
use Rattle.wf_legal.specs.Calls.{Call, Doing, IsNext, Settling, closes_hart_call, ending_of, later, settled_with, todo_by, todo_of, todo_of_call, todo_with}
use Rattle.wf_legal.specs.Events.{flat_after}
use Rattle.wf_flat.specs.Counts.{used_of}
use Rattle.wf_sound.specs.Making.{CanBeBorn, CanBeMapped, WantsNoTrap}
use Rattle.wf_sound.proofs.FrameLemmas.{used_more}
use Rattle.wf_sound.specs.Sound.{HasNoneGoing, IsDelta, IsUnused, IsHartWork, IsSoundState}
use Rattle.wf_sound.proofs.AllLemmas.{all_both, all_map, all_more, one_or_two}
use Rattle.wf_sound.proofs.BeginLemmas.{BeginsWell, Fits, access_well, asks_calls, answered_call, ends_next, exit_well, noted_call, of_calling, one_well, settled_is, trap_well}
use Rattle.wf_sound.proofs.GenerationLemmas.{born_sound, dead_sound, live_gen}
use Rattle.wf_sound.proofs.HandLemmas.{calls_with, first_true, second_true}
use Rattle.wf_sound.proofs.LeaveLemmas.{going_sound, going_staged, staged_found}
use Rattle.wf_sound.proofs.MapLemmas.{mapped_sound, range_rises}
use Rattle.wf_sound.proofs.OwnLemmas.{moved_sound}
use Rattle.wf_sound.proofs.RefusalLemmas.{all_none, empty_none, frames_enough, newest_lives, present_pages, range_low, unused_pages, view_live, views_few}
use Rattle.wf_sound.proofs.TextLemmas.{newborn_clone}
use Rattle.wf_sound.proofs.TryLemmas.{keeps_want}
use Rattle.wf_sound.proofs.WorkLemmas.{IsSoundWith, call_ends, next_call, with_inside}

-- what is mapped now is not Going
pub mapped_none : (s : FlatState) (first n : ℕ) (write : Bool) (delta : Option DeltaValue) → HasNoneGoing s → HasNoneGoing (mapped s first n write delta)
mapped_none s first n write delta none =
    all_sorted (λ page. is_going page.stage ≡ false) (λ page. page.number) (s.pages ++ mapped_pages delta write first s.births n)
    (all_append (λ page. is_going page.stage ≡ false) s.pages (mapped_pages delta write first s.births n) none (new_none first s.births n))
  where
    new_none : (page birth n : ℕ) → AllByRecursion (λ page. is_going page.stage ≡ false) (mapped_pages delta write page birth n)
    new_none page birth zero = tt
    new_none page birth (suc n) = (refl, new_none (page + 1) (birth + 1) n)

range_within : (a n : ℕ) → AllByRecursion (λ m. (a ≤ m) × (m < a + n)) (range_with_len a n)
range_within a zero = tt
range_within a (suc n) = ((omega arith, omega arith), all_more (λ m. (a + 1 ≤ m) × (m < a + 1 + n)) (λ m. (a ≤ m) × (m < a + suc n)) (λ m b. (let x = b.0 in omega arith, let y = b.1 in omega arith)) (range_with_len (a + 1) n) (range_within (a + 1) n))

in_range : (a n m : ℕ) → a ≤ m → m < a + n → Contains (range_with_len a n) m
in_range a zero m le lt = absurd (omega arith)
in_range a (suc n) m le lt = elim (one_or_two a m) [
  | inl same ↦ (0, omega arith, same)
  | inr apart ↦ (let w = in_range (a + 1) n m (omega arith) (omega arith) in (suc w.0, (let k = w.1 in omega arith), w.2))
]

going_now : (first n : ℕ) (page : PageState) → first ≤ page.number → page.number < first + n → is_going (going_in first n page).stage ≡ true
going_now first n page le lt =
    let e : (nat_le first page.number && nat_lt page.number (first + n)) ≡ true = grind (arith, nat_tests) in
    rw e refl

going_only : (first n : ℕ) (page : PageState) → is_going page.stage ≡ false → is_going (going_in first n page).stage ≡ true → Contains (range_with_len first n) (going_in first n page).number
going_only first n page calm going = by_test (nat_le first page.number && nat_lt page.number (first + n)) refl going
  where
    by_test : (b : Bool) → (nat_le first page.number && nat_lt page.number (first + n)) ≡ b → is_going (if b then record page { stage = stages.Going } else page).stage ≡ true → Contains (range_with_len first n) (if b then record page { stage = stages.Going } else page).number
    by_test true e g =
        let a : nat_le first page.number ≡ true = first_true (nat_le first page.number) (nat_lt page.number (first + n)) e in
        let b : nat_lt page.number (first + n) ≡ true = second_true (nat_le first page.number) (nat_lt page.number (first + n)) e in
        in_range first n page.number (grind (arith, nat_tests)) (grind (arith, nat_tests))
    by_test false e g = absurd cc

-- pages that are there, and of which an unmap has begun, are to leave
unmap_work : (s : FlatState) (first n next : ℕ) → HasNoneGoing s → AllByRecursion (λ m. IsSomeAnd (data_in s.pages m) (λ page. Unit {0})) (range_with_len first n) → IsHartWork (pages_going s first n) (map Leaves (range_with_len first n) ++ Exactly (End next) ∷ [])
unmap_work s first n next none present = record {
  pages = range_with_len first n;
  next = next;
  is = refl;
  rising = range_rises first n;
  going = all_both (λ m. (first ≤ m) × (m < first + n)) (λ m. IsSomeAnd (data_in s.pages m) (λ page. Unit {0})) (λ m. IsSomeAnd (data_in (pages_going s first n).pages m) (λ page. is_going page.stage ≡ true))
      (λ m within is.
      let w = some_and (data_in s.pages m) (λ page. Unit {0}) is in
      let number : w.0.number ≡ m = key_of_found (λ (page : PageState). page.number) s.pages m w.0 w.1 in
      let low = within.0 in
      let high = within.1 in
      and_some (data_in (pages_going s first n).pages m) (λ page. is_going page.stage ≡ true) (going_in first n w.0)
      (staged_found (going_in first n) (going_staged first n) s.pages m ∙ ap (option_map (going_in first n)) w.1) (going_now first n w.0 (omega arith) (omega arith)))
      (range_with_len first n) (range_within first n) present;
  only = all_map (λ page. is_going page.stage ≡ false) (λ page. is_going page.stage ≡ true → Contains (range_with_len first n) page.number) (going_in first n) (λ page calm going. going_only first n page calm going) s.pages none;
}

-- a hart in a try of a call is in none of a trap
pub call_no_trap : (hart : HartState) → want_in hart ≡ Some want.Call → WantsNoTrap hart
call_no_trap hart calls cause value e = let k : Some want.Call ≡ Some (want.Trap cause value) = sym calls ∙ e in cc

-- a clone can be born
pub clone_fits : (deltas : List DeltaValue) (s : FlatState) (parent : ℕ) → is_live s parent ≡ true → length s.gens < 1024 → CanBeBorn deltas s parent None
clone_fits deltas s parent live few = record {
  there = (let w = live_gen s parent live in slice_get_within s.gens parent w.0 w.1);
  few = omega arith;
  few_patches = tt;
  fits = tt;
}

-- pages that are not used can be mapped
pub map_fits : (deltas : List DeltaValue) (s : FlatState) (first n : ℕ) (write : Bool) (patch : Option ℕ) → IsSoundState deltas s → IfSome (delta_of deltas patch) IsDelta → first + n ≤ 67108864 → AllByRecursion (IsUnused s) (range_with_len first n)
    → used_of (mapped s first n write (delta_of deltas patch)) + s.worn ≤ s.limits.frames → s.births + 65536 < 2 ^ 64 → CanBeMapped deltas s first n patch
map_fits deltas s first n write patch sound is low unused frames few =
    let more = used_more s first n write (delta_of deltas patch) in
    let most = sound.limits.many_frames in
    record {
      low = low;
      few = omega arith;
      free = all_more (IsUnused s) (λ m. is_data s m ≡ false) (λ m e. e.0) (range_with_len first n) unused;
      rising = if_some_more (delta_of deltas patch) IsDelta (λ delta. IsRising (data_numbers delta.shared)) (λ delta kept. kept.shared_rising) is;
    }

-- no call patches
no_patch : (own number a0 a1 a2 patch : ℕ) → request_of own number a0 a1 a2 ≢ Patches patch
no_patch own number a0 a1 a2 patch =
    either (number == EXIT) (λ e. cc) (either (number == PUT_BYTE) (λ e. cc) (either (number == MAP) (λ e. cc) (either (number == UNMAP) (λ e. cc) (either (number == OWN_GENERATION) (λ e. cc)
    (either (number == MIGRATE) (λ e. cc) (either (number == QUIESCE) (λ e. cc) (either (number == DELETE) (λ e. cc) (either (number == CREATE) (λ e. cc) (λ e. cc)))))))))
  where
    either : {r q : Request} (b : Bool) → r ≢ Patches patch → q ≢ Patches patch → (if b then r else q) ≢ Patches patch
    either true f g = f
    either false f g = g

module _ (deltas : List DeltaValue) (s : FlatState) (h : ℕ) (hart : HartState) (there : slice_get s.harts h ≡ Some hart) (runs : hart.life ≡ Running) (sound : IsSoundState deltas s) (inside : s.inside ≡ Some (Hart h)) (none : HasNoneGoing s) (calls : want_in hart ≡ Some want.Call) where
  refused_well : (reason : Refusal) (next : ℕ) → BeginsWell deltas s h (Exactly (Refused reason) ∷ Exactly (End next) ∷ [])
  refused_well reason next = one_well deltas s h hart there runs sound inside none (Refused reason) (Exactly (End next) ∷ []) ((λ page worn e. cc), (λ e. cc)) (λ few. tt)
      (answered_call deltas s h hart there runs sound inside none s (refused_answer reason) (Exactly (End next) ∷ []) sound inside (ends_next deltas s h hart there runs sound inside none s next calls refl none))

  -- what is done about a request that may be refused
  asked_well : (next : ℕ) (request : Request) → ending_of next request ≡ Exactly (End next) ∷ [] → (refusal_of deltas s next request ≡ None → BeginsWell deltas s h (work_of deltas s request ++ Exactly (End next) ∷ []))
      → BeginsWell deltas s h (todo_of_call deltas s next request)
  asked_well next request ends well = subst (λ (rest : List Todo). BeginsWell deltas s h (done_about deltas s next request ++ rest)) (sym ends) (by_refusal (refusal_of deltas s next request) refl)
    where
      by_refusal : (o : Option Refusal) → refusal_of deltas s next request ≡ o → BeginsWell deltas s h (refused_or o (work_of deltas s request) ++ Exactly (End next) ∷ [])
      by_refusal None e = well e
      by_refusal (Some reason) e = refused_well reason next

  byte_well : (next byte : ℕ) → BeginsWell deltas s h (Exactly (Out byte) ∷ Exactly (End next) ∷ [])
  byte_well next byte = one_well deltas s h hart there runs sound inside none (Out byte) (Exactly (End next) ∷ []) ((λ page worn e. cc), (λ e. cc)) (λ few. tt)
      (answered_call deltas s h hart there runs sound inside none s 0 (Exactly (End next) ∷ []) sound inside (ends_next deltas s h hart there runs sound inside none s next calls refl none))

  end_well : (next : ℕ) → BeginsWell deltas s h (Exactly (End next) ∷ [])
  end_well next = one_well deltas s h hart there runs sound inside none (End next) [] ((λ page worn e. cc), (λ e. cc)) (λ few. and_some (slice_get s.harts h) WantsNoTrap hart there (call_no_trap hart calls))
      (call_ends deltas s h sound inside (of_calling deltas s h hart there runs sound inside none calls) next none)

  move_well : (next generation : ℕ) → is_live s generation ≡ true → BeginsWell deltas s h (Exactly (Move generation) ∷ Exactly (End next) ∷ [])
  move_well next generation live = one_well deltas s h hart there runs sound inside none (Move generation) (Exactly (End next) ∷ []) ((λ page worn e. cc), (λ e. cc)) (λ few. tt)
      (let w = live_gen s generation live in
      let keeps = keeps_want deltas s h hart there sound s.inside (λ o e. e) (moved_to generation) (moved_sound s h generation hart (slice_get_within s.gens generation w.0 w.1) live) refl refl in
      with_inside deltas (hart_moved s h generation) (Some (Hart h)) (Some (Doing (Exactly (End next) ∷ []))) keeps.state inside
      (keeps.hand (Some (Hart h)) (Some (Doing (Exactly (End next) ∷ []))) (ends_next deltas s h hart there runs sound inside none s next calls refl none)))

  dead_well : (next generation : ℕ) → not_empty s generation ≡ None → BeginsWell deltas s h (Exactly (Dead generation) ∷ Exactly (End next) ∷ [])
  dead_well next generation empty = one_well deltas s h hart there runs sound inside none (Dead generation) (Exactly (End next) ∷ []) ((λ page worn e. cc), (λ e. cc)) (λ few. tt)
      (answered_call deltas s h hart there runs sound inside none (generation_dead s generation) 0 (Exactly (End next) ∷ []) (dead_sound deltas s generation (empty_none s generation empty) sound) inside
      (ends_next deltas s h hart there runs sound inside none (generation_dead s generation) next calls refl none))

  born_well : (next generation : ℕ) → no_view s generation ≡ None → no_more_views s ≡ None → no_frames s (generation_born [] s generation None) ≡ None → BeginsWell deltas s h (Exactly (Born (length s.gens) generation None) ∷ Exactly (End next) ∷ [])
  born_well next generation view few frames = one_well deltas s h hart there runs sound inside none (Born (length s.gens) generation None) (Exactly (End next) ∷ []) ((λ page worn e. cc), (λ e. cc)) (λ enough. clone_fits deltas s generation (view_live s generation view) (views_few s few))
      (let u : FlatState = generation_born deltas s generation None in
      let live = view_live s generation view in
      let is = born_sound deltas s generation None sound live (views_few s few) (newborn_clone deltas s generation sound live) (frames_enough deltas s u sound frames) in
      answered_call deltas s h hart there runs sound inside none u (length s.gens) (Exactly (End next) ∷ []) is inside (ends_next deltas s h hart there runs sound inside none u next calls refl none))

  map_well : (next va pages : ℕ) (write : Bool) → bad_range va pages ≡ None → overlap s (pages_from va pages) ≡ None → leaving s (pages_from va pages) ≡ None → no_frames s (mapped s (page_of va) pages write None) ≡ None
      → BeginsWell deltas s h (Exactly (Map (page_of va) pages write None) ∷ Exactly (End next) ∷ [])
  map_well next va pages write range over leave frames = one_well deltas s h hart there runs sound inside none (Map (page_of va) pages write None) (Exactly (End next) ∷ []) ((λ page worn e. cc), (λ e. cc))
      (λ few. map_fits deltas s (page_of va) pages write None sound tt (range_low va pages range) (unused_pages s (range_with_len (page_of va) pages) none over leave)
      (frames_enough deltas s (mapped s (page_of va) pages write None) sound frames) few)
      (let v : FlatState = mapped s (page_of va) pages write None in
      let is = mapped_sound deltas s (page_of va) pages write None sound tt (range_low va pages range) (unused_pages s (range_with_len (page_of va) pages) none over leave) (frames_enough deltas s v sound frames) in
      noted_call deltas s h hart there runs sound inside none v (range_with_len (page_of va) pages) 0 (Exactly (End next) ∷ []) is inside
      (ends_next deltas s h hart there runs sound inside none v next calls refl (mapped_none s (page_of va) pages write None none)))

  unmap_well : (next va pages : ℕ) → bad_range va pages ≡ None → absent s (pages_from va pages) ≡ None → BeginsWell deltas s h (Exactly (Going (page_of va) pages) ∷ map Leaves (pages_from va pages) ++ Exactly (End next) ∷ [])
  unmap_well next va pages range none_absent = one_well deltas s h hart there runs sound inside none (Going (page_of va) pages) (map Leaves (pages_from va pages) ++ Exactly (End next) ∷ []) ((λ page worn e. cc), (λ e. cc)) (λ few. range_low va pages range)
      (let v : FlatState = pages_going s (page_of va) pages in
      let rest : List Todo = map Leaves (range_with_len (page_of va) pages) ++ Exactly (End next) ∷ [] in
      let work = unmap_work s (page_of va) pages next none (present_pages s (range_with_len (page_of va) pages) none_absent) in
      noted_call deltas s h hart there runs sound inside none v (range_with_len (page_of va) pages) 0 rest (going_sound deltas s (page_of va) pages sound) inside
      (calls_with v h (IsHartWork v rest) (of_calling deltas s h hart there runs sound inside none calls) work))

  -- what is done about each request of a hart
  request_well : (next : ℕ) (request : Request) → ((patch : ℕ) → request ≢ Patches patch) → BeginsWell deltas s h (todo_of_call deltas s next request)
  request_well next (Exits code) no_patch = exit_well deltas s h hart there runs sound inside none code []
  request_well next (PutsByte byte) no_patch = byte_well next byte
  request_well next (Maps va pages right) no_patch = asked_well next (Maps va pages right) refl (λ e.
      let are = all_none (map_refusals s va pages right) e in
      map_well next va pages (right == 3) are.0 are.1.1.0 are.1.1.1.0 are.1.1.1.1.0)
  request_well next (Unmaps va pages) no_patch = asked_well next (Unmaps va pages) refl (λ e.
      let are = all_none (unmap_refusals s va pages) e in
      unmap_well next va pages are.0 are.1.0)
  request_well next TellsGeneration no_patch = end_well next
  request_well next (Migrates generation) no_patch = asked_well next (Migrates generation) refl (λ e. (let are = all_none (migrate_refusals s generation next) e in move_well next generation (view_live s generation are.0)))
  request_well next Quiesces no_patch = asked_well next Quiesces refl (λ e. move_well next (newest s) (newest_lives deltas s hart.generation sound ((sound.harts h hart there).live runs)))
  request_well next (Deletes generation) no_patch = asked_well next (Deletes generation) refl (λ e. (let are = all_none (delete_refusals s generation) e in dead_well next generation are.1.0))
  request_well next (Clones generation) no_patch = asked_well next (Clones generation) refl (λ e. (let are = all_none (clone_refusals s generation) e in born_well next generation are.0 are.1.0 are.1.1.0))
  request_well next (Patches patch) no_patch = absurd (no_patch patch refl)
  request_well next (NoCall number) no_patch = refused_well (Number number) next

module _ (deltas : List DeltaValue) (s : FlatState) (h : ℕ) (hart : HartState) (there : slice_get s.harts h ≡ Some hart) (runs : hart.life ≡ Running) (sound : IsSoundState deltas s) (inside : s.inside ≡ Some (Hart h)) (none : HasNoneGoing s) where
  -- what a hart asks for keeps the invariant
  ask_well : (ask : Ask) → ask_of s h hart ≡ Some ask → BeginsWell deltas s h (todo_of deltas s hart ask)
  ask_well Called e = request_well deltas s h hart there runs sound inside none (asks_calls s h hart e) (next_pc hart.arch.pc) (requested_by hart)
      (no_patch hart.generation (slice_index hart.arch.x 17) (slice_index hart.arch.x 10) (slice_index hart.arch.x 11) (slice_index hart.arch.x 12))
  ask_well (Stopped cause value) e = trap_well deltas s h hart there runs sound inside none cause value []
  ask_well (Faulted access) e = access_well deltas s h hart there runs sound inside none access

  todo_well : (o : Option Ask) → ask_of s h hart ≡ o → BeginsWell deltas s h (unwrap_or (option_map (λ ask. todo_of deltas s hart ask) o) [])
  todo_well None e = λ event next. absurd next
  todo_well (Some ask) e = ask_well ask e

  begun : (event : Event) → OfHart s h (λ hart. IsNext s (todo_by deltas s h hart) event) → IsNext s (todo_by deltas s h hart) event
  begun event begins =
      let w = some_and (slice_get s.harts h) (λ hart. IsNext s (todo_by deltas s h hart) event) begins in
      let same : w.0 ≡ hart = (let k : slice_get s.harts h ≡ Some w.0 = w.1 in cc) in
      subst (λ (x : HartState). IsNext s (todo_by deltas s h x) event) same w.2

  -- the event with which one begins suits the state
  pub begin_fits : (event : Event) → OfHart s h (λ hart. IsNext s (todo_by deltas s h hart) event) → Fits deltas s (Hart h) event
  begin_fits event begins = (todo_well (ask_of s h hart) refl event (begun event begins)).2

  -- no call begins with an Enter
  pub hart_enters_not : OfHart s h (λ hart. IsNext s (todo_by deltas s h hart) Enter) → ⊥
  hart_enters_not begins = (todo_well (ask_of s h hart) refl Enter (begun Enter begins)).0.1 refl

  -- so does its begin
  pub hart_begins : (owed : List ℕ) (last : Option ℕ) (event : Event) → OfHart s h (λ hart. IsNext s (todo_by deltas s h hart) event) → IsSoundWith deltas (flat_after deltas s (Hart h) event) (next_call deltas s (Hart h) (Some (Settling owed last)) event)
  hart_begins owed last event begins =
      let well = todo_well (ask_of s h hart) refl event (begun event begins) in
      let todo : todo_with deltas s (Hart h) event ≡ todo_by deltas s h hart = ap (λ (o : Option HartState). unwrap_or (option_map (λ hart. todo_by deltas s h hart) o) []) there in
      let call : settled_with deltas s (Hart h) owed event ≡ Doing (later (todo_by deltas s h hart)) = settled_is deltas s (Hart h) owed event well.0 ∙ ap (λ (t : List Todo). Doing (later t)) todo in
      subst (λ (c : Call). IsSoundWith deltas (flat_after deltas s (Hart h) event) (if closes_hart_call event then None else Some c)) (sym call) well.1
