-- The invariant is kept by each entry that a hart makes outside the kernel.
use Rattle.std.proofs.Common.{◌≡◌, ◌≢◌, ◌%◌, ◌&&◌, ℕ, List, Bool, true, false, Option, Some, None, refl, sym, ap, subst, ◌∙◌, is_some, if◌then◌else◌}
use Rattle.std.specs.Prelude.{slice_get, not}
use Rattle.wf_outside.specs.Images.{DeltaValue}
use Rattle.wf_outside.specs.Pages.{page_of}
use Rattle.wf_flat.specs.declared.event.Actor.{Actor}
use Rattle.wf_flat.specs.declared.event.Actor.TheVariants.{Hart}
use Rattle.wf_flat.specs.declared.event.Event.{Event}
use Rattle.wf_flat.specs.declared.event.Event.TheVariants.{Fetch, Look, Take, Put, Swap, Miss, End, Again, Wait, Enter, Sync, Trap, Exit, Out, Idle, Map, Going, Ending, Gone, Born, Move, Dead, Refused}
use Rattle.wf_flat.specs.declared.event.WaitFor.{WaitFor}
use Rattle.wf_flat.specs.declared.event.WaitFor.TheVariants as waits
use Rattle.wf_flat.specs.declared.state.Life.TheVariants.{Running}
use Rattle.wf_flat.specs.State.{FlatState, HartState, PageState}
use Rattle.wf_flat.specs.Memory.{data_in, has_met}
use Rattle.wf_flat.specs.Accesses.{Access, accessed_data, holder_is, holds, has_right, holds_page, in_reach, is_ending, is_free, is_held_by_other, is_reached}
use Rattle.wf_flat.specs.Steps.{MayAct, MayTake, MayTryAgain, MayWait, MayWaitForPage, TakesData, access_in, is_conditional, is_inside, is_kept_from, takes_for, want_in}
use Rattle.wf_flat.specs.Changes.{ended, fetched_with, give_back_by, give_back_of, given_back, looked_with, missed, note_page, change_page, leave_hart, swapped_by, tried, try_ended, without, written_by}
use Rattle.wf_flat.proofs.ListLemmas.{some_and}
use Rattle.wf_legal.specs.Calls.{Call}
use Rattle.wf_legal.specs.Events.{flat_after}
use Rattle.wf_sound.specs.Sound.{IsInHand, IsSoundState}
use Rattle.wf_sound.proofs.HandLemmas.{first_true, second_true}
use Rattle.wf_sound.proofs.HolderLemmas.{HoldsNot, asks_not, free_not}
use Rattle.wf_sound.proofs.OwnLemmas.{ended_sound, fetched_sound, left_if, looked_sound, missed_sound, tried_sound}
use Rattle.wf_sound.proofs.PageLemmas.{end_keeps, put_keeps, take_keeps}
use Rattle.wf_sound.proofs.TryLemmas.{ComesNone, Keeps, KeepsOthers, keeps_free, keeps_want}

-- an entry of a hart outside the kernel keeps the invariant, and who is inside
pub record KeepsOutside (deltas : List DeltaValue) (s t : FlatState) : Type 0 where
  pub state : IsSoundState deltas t
  pub hand : (call : Option Call) → IsInHand deltas s s.inside call → IsInHand deltas t s.inside call
  pub inside : t.inside ≡ s.inside

outside_all : (deltas : List DeltaValue) (s t : FlatState) → Keeps deltas s t → t.inside ≡ s.inside → KeepsOutside deltas s t
outside_all deltas s t keeps inside = record { state = keeps.state; hand = keeps.hand s.inside; inside = inside }

outside_others : (deltas : List DeltaValue) (s t : FlatState) (h : ℕ) → is_inside s.inside (Hart h) ≡ false → KeepsOthers deltas s t h → t.inside ≡ s.inside → KeepsOutside deltas s t
outside_others deltas s t h outside keeps inside = record { state = keeps.state; hand = λ call in_hand. keeps.hand s.inside call outside in_hand; inside = inside }

-- who is not inside does not leave
pub stays_inside : (inside : Option Actor) (actor : Actor) → is_inside inside actor ≡ false → without inside actor ≡ inside
stays_inside inside actor e = rw e refl

same_comes : (inside : Option Actor) (actor : Actor) → is_inside inside actor ≡ false → ComesNone inside (without inside actor)
same_comes inside actor e o out = rw (stays_inside inside actor e) out

not_true : (b : Bool) → not b ≡ true → b ≡ false
not_true true e = absurd cc
not_true false e = refl

-- what is in reach is not Ending
reached_stays : (s : FlatState) (hart : HartState) (access : Access) (page : PageState) → is_reached s hart access page ≡ true → is_ending page.stage ≡ false
reached_stays s hart access page e =
    not_true (is_ending page.stage)
    (first_true (not (is_ending page.stage)) (has_met s.met hart.generation page.number)
    (first_true (in_reach s hart page) (has_right access page) e))

-- who leaves is inside no more
pub comes_without : (inside : Option Actor) (actor : Actor) → ComesNone inside (without inside actor)
comes_without inside actor = by_test (is_inside inside actor)
  where
    by_test : (b : Bool) → ComesNone inside (if b then None else inside)
    by_test true o e = refl
    by_test false o e = e

given_by : (s : FlatState) (h page : ℕ) (f : PageState → PageState) (b : Bool) → (if b then note_page (change_page s page f) h page else s).inside ≡ s.inside
given_by s h page f true = refl
given_by s h page f false = refl

given_of : (s : FlatState) (h : ℕ) (hart : HartState) (o : Option Access) → (give_back_of s h hart o).inside ≡ s.inside
given_of s h hart None = refl
given_of s h hart (Some access) = given_by s h (page_of access.va) (given_back s.limits.last_writes hart.put) (holds s h access)

given_inside : (s : FlatState) (h : ℕ) (o : Option HartState) → (give_back_by s h o).inside ≡ s.inside
given_inside s h None = refl
given_inside s h (Some hart) = given_of s h hart (access_in hart)

-- who is inside when a try has ended
pub ended_inside : (s : FlatState) (h : ℕ) → (try_ended s h).inside ≡ without s.inside (Hart h)
ended_inside s h = ap (λ (o : Option Actor). without o (Hart h)) (given_inside s h (slice_get s.harts h))

module _ (deltas : List DeltaValue) (s : FlatState) (h : ℕ) (hart : HartState) (there : slice_get s.harts h ≡ Some hart) (sound : IsSoundState deltas s) where
  ended_free : HoldsNot s h hart → KeepsOthers deltas s (leave_hart s h ended) h
  ended_free none = keeps_free deltas s h hart there sound (without s.inside (Hart h)) (comes_without s.inside (Hart h)) ended (ended_sound s h hart) refl none

  ended_page : (access : Access) (o : Option PageState) → access_in hart ≡ Some access → data_in s.pages (page_of access.va) ≡ o → holds_page h o ≡ true
      → KeepsOthers deltas s (leave_hart (note_page (change_page s (page_of access.va) (given_back s.limits.last_writes hart.put)) h (page_of access.va)) h ended) h
  ended_page access None wants found held = absurd cc
  ended_page access (Some page) wants found held = end_keeps deltas s h hart there sound access page (without s.inside (Hart h)) (comes_without s.inside (Hart h)) wants found held

  ended_if : (access : Access) (b : Bool) → access_in hart ≡ Some access → holds s h access ≡ b
      → KeepsOthers deltas s (leave_hart (if b then note_page (change_page s (page_of access.va) (given_back s.limits.last_writes hart.put)) h (page_of access.va) else s) h ended) h
  ended_if access true wants held = ended_page access (data_in s.pages (page_of access.va)) wants refl held
  ended_if access false wants held = ended_free (λ other wanted. (let k : access ≡ other = cc in subst (λ (a : Access). holds s h a ≡ false) k held))

  ended_by : (o : Option Access) → access_in hart ≡ o → KeepsOthers deltas s (leave_hart (give_back_of s h hart o) h ended) h
  ended_by None wants = ended_free (λ other wanted. absurd cc)
  ended_by (Some access) wants = ended_if access (holds s h access) wants refl

  -- a try ends, and what it holds is given back
  pub try_ends : KeepsOthers deltas s (try_ended s h) h
  try_ends = subst (λ (o : Option HartState). KeepsOthers deltas s (leave_hart (give_back_by s h o) h ended) h) (sym there) (ended_by (access_in hart) refl)

module _ (deltas : List DeltaValue) (s : FlatState) (h : ℕ) (hart : HartState) (there : slice_get s.harts h ≡ Some hart) (sound : IsSoundState deltas s) (outside : is_inside s.inside (Hart h) ≡ false) where
  fetching : (word : ℕ) → hart.fetched ≡ None → KeepsOutside deltas s (flat_after deltas s (Hart h) (Fetch 0 word))
  fetching word e = outside_others deltas s (flat_after deltas s (Hart h) (Fetch 0 word)) h outside
      (keeps_free deltas s h hart there sound s.inside (λ o e. e) (fetched_with word) (fetched_sound s h word hart) refl (free_not s h hart e)) refl

  looking : (va width value : ℕ) → KeepsOutside deltas s (flat_after deltas s (Hart h) (Look va width value))
  looking va width value = outside_all deltas s (flat_after deltas s (Hart h) (Look va width value))
      (keeps_want deltas s h hart there sound s.inside (λ o e. e) (looked_with s va width value) (looked_sound s h va width value hart sound.pages) refl refl) refl

  missing : (va : ℕ) → KeepsOutside deltas s (flat_after deltas s (Hart h) (Miss va))
  missing va = outside_all deltas s (flat_after deltas s (Hart h) (Miss va)) (keeps_want deltas s h hart there sound s.inside (λ o e. e) missed (missed_sound s h hart) refl refl) refl

  giving_up : HoldsNot s h hart → KeepsOutside deltas s (flat_after deltas s (Hart h) (Again 0))
  giving_up none = outside_others deltas s (flat_after deltas s (Hart h) (Again 0)) h outside
      (keeps_free deltas s h hart there sound (without s.inside (Hart h)) (same_comes s.inside (Hart h) outside) tried (tried_sound s h hart) refl none) (stays_inside s.inside (Hart h) outside)

  waiting : (on : WaitFor) → HoldsNot s h hart → KeepsOutside deltas s (flat_after deltas s (Hart h) (Wait on))
  waiting on none = outside_others deltas s (flat_after deltas s (Hart h) (Wait on)) h outside (keeps_free deltas s h hart there sound s.inside (λ o e. e) tried (tried_sound s h hart) refl none) refl

  putting : (access : Access) (va width value : ℕ) → access_in hart ≡ Some access → holds s h access ≡ true → KeepsOutside deltas s (flat_after deltas s (Hart h) (Put va width value))
  putting access va width value wants held = outside_all deltas s (flat_after deltas s (Hart h) (Put va width value))
      (put_keeps deltas s h hart there sound written_by access (page_of va) (va % 4096) width value wants held refl refl
      (λ holding is. record {
        generation = is.generation;
        live = is.live;
        registers = is.registers;
        zero_register = is.zero_register;
        reservation = left_if s (is_conditional (want_in hart)) None hart.reservation tt is.reservation;
        written = holding;
      })) refl

  swapping : (access : Access) (va width old new : ℕ) → access_in hart ≡ Some access → holds s h access ≡ true → KeepsOutside deltas s (flat_after deltas s (Hart h) (Swap va width old new))
  swapping access va width old new wants held = outside_all deltas s (flat_after deltas s (Hart h) (Swap va width old new))
      (put_keeps deltas s h hart there sound (swapped_by old) access (page_of va) (va % 4096) width new wants held refl refl
      (λ holding is. record {
        generation = is.generation;
        live = is.live;
        registers = is.registers;
        zero_register = is.zero_register;
        reservation = is.reservation;
        written = holding;
      })) refl

  taking_by : (page : ℕ) (access : Access) (o : Option PageState) → hart.life ≡ Running → access_in hart ≡ Some access → page ≡ page_of access.va → data_in s.pages (page_of access.va) ≡ o → TakesData s hart access o → KeepsOutside deltas s (flat_after deltas s (Hart h) (Take page))
  taking_by page access None runs wants is found takes = absurd takes
  taking_by page access (Some p) runs wants is found takes =
      let both : (is_free p && is_reached s hart access p) ≡ true = first_true (is_free p && is_reached s hart access p) (takes_for (want_in hart) s hart access p) takes in
      outside_all deltas s (flat_after deltas s (Hart h) (Take page))
      (take_keeps deltas s h hart there sound access page p runs outside wants is (rw is found) (first_true (is_free p) (is_reached s hart access p) both) (reached_stays s hart access p (second_true (is_free p) (is_reached s hart access p) both))) refl

  taking : (page : ℕ) (o : Option Access) → hart.life ≡ Running → access_in hart ≡ o → MayTake s hart o page → KeepsOutside deltas s (flat_after deltas s (Hart h) (Take page))
  taking page None runs wants takes = absurd takes
  taking page (Some access) runs wants takes = taking_by page access (accessed_data s access) runs wants takes.0 refl takes.3

  ending : (pc : ℕ) → KeepsOutside deltas s (flat_after deltas s (Hart h) (End pc))
  ending pc = outside_others deltas s (flat_after deltas s (Hart h) (End pc)) h outside (try_ends deltas s h hart there sound) (ended_inside s h ∙ stays_inside s.inside (Hart h) outside)

  again_not : (page : ℕ) (o : Option Access) → access_in hart ≡ o → MayTryAgain s h hart o page → HoldsNot s h hart
  again_not page None wants may other wanted = absurd may
  again_not page (Some access) wants may other wanted = let k : access ≡ other = cc in subst (λ (a : Access). holds s h a ≡ false) k may.2

  kept_from : (o : Option PageState) → is_kept_from s h hart o ≡ true → holds_page h o ≡ false
  kept_from None e = refl
  kept_from (Some page) e =
      not_true (holder_is page.holder h)
      (second_true (is_some page.holder) (not (holder_is page.holder h)) (second_true (in_reach s hart page) (is_held_by_other h page) e))

  wait_not_page : (page : ℕ) (o : Option Access) → access_in hart ≡ o → MayWaitForPage s h hart o page → HoldsNot s h hart
  wait_not_page page None wants may other wanted = absurd may
  wait_not_page page (Some access) wants may other wanted =
      let k : access ≡ other = cc in
      let free : holds s h access ≡ false = rw (← may.0) (kept_from (data_in s.pages page) may.2) in
      subst (λ (a : Access). holds s h a ≡ false) k free

  wait_not : (on : WaitFor) → MayWait s h hart on → HoldsNot s h hart
  wait_not (waits.Page page) may = wait_not_page page (access_in hart) refl may
  wait_not (waits.Kernel other) may = asks_not s h hart may.1

-- an entry of a hart outside the kernel
pub outside_keeps : (deltas : List DeltaValue) (s : FlatState) (h : ℕ) (event : Event) → event ≢ Enter → IsSoundState deltas s → is_inside s.inside (Hart h) ≡ false → MayAct s (Hart h) event → KeepsOutside deltas s (flat_after deltas s (Hart h) event)
outside_keeps deltas s h (Fetch pc word) not_enter sound outside may =
    let w = some_and (slice_get s.harts h) _ may in fetching deltas s h w.0 w.1 sound outside word w.2.1.0
outside_keeps deltas s h (Look va width value) not_enter sound outside may =
    let w = some_and (slice_get s.harts h) _ may in looking deltas s h w.0 w.1 sound outside va width value
outside_keeps deltas s h (Take page) not_enter sound outside may =
    let w = some_and (slice_get s.harts h) _ may in taking deltas s h w.0 w.1 sound outside page (access_in w.0) w.2.0 refl w.2.1
outside_keeps deltas s h (Put va width value) not_enter sound outside may =
    let w = some_and (slice_get s.harts h) _ may in putting deltas s h w.0 w.1 sound outside (record { va = va; width = width; write = true }) va width value w.2.1.0 w.2.1.1
outside_keeps deltas s h (Swap va width old new) not_enter sound outside may =
    let w = some_and (slice_get s.harts h) _ may in swapping deltas s h w.0 w.1 sound outside (record { va = va; width = width; write = true }) va width old new w.2.1.0 w.2.1.1
outside_keeps deltas s h (Miss va) not_enter sound outside may =
    let w = some_and (slice_get s.harts h) _ may in missing deltas s h w.0 w.1 sound outside va
outside_keeps deltas s h (End pc) not_enter sound outside may =
    let w = some_and (slice_get s.harts h) _ may in ending deltas s h w.0 w.1 sound outside pc
outside_keeps deltas s h (Again page) not_enter sound outside may =
    let w = some_and (slice_get s.harts h) _ may in giving_up deltas s h w.0 w.1 sound outside (again_not deltas s h w.0 w.1 sound outside page (access_in w.0) refl w.2.1)
outside_keeps deltas s h (Wait on) not_enter sound outside may =
    let w = some_and (slice_get s.harts h) _ may in waiting deltas s h w.0 w.1 sound outside on (wait_not deltas s h w.0 w.1 sound outside on w.2.1)
outside_keeps deltas s h Enter not_enter sound outside may = absurd (not_enter refl)
outside_keeps deltas s h Idle not_enter sound outside may = record { state = sound; hand = λ call in_hand. in_hand; inside = refl }
outside_keeps deltas s h (Sync generation page) not_enter sound outside may = absurd may
outside_keeps deltas s h (Trap cause value) not_enter sound outside may = absurd may
outside_keeps deltas s h (Exit code) not_enter sound outside may = absurd may
outside_keeps deltas s h (Out byte) not_enter sound outside may = absurd may
outside_keeps deltas s h (Map page n write patch) not_enter sound outside may = absurd may
outside_keeps deltas s h (Going page n) not_enter sound outside may = absurd may
outside_keeps deltas s h (Ending page) not_enter sound outside may = absurd may
outside_keeps deltas s h (Gone page worn) not_enter sound outside may = absurd may
outside_keeps deltas s h (Born generation parent patch) not_enter sound outside may = absurd may
outside_keeps deltas s h (Move generation) not_enter sound outside may = absurd may
outside_keeps deltas s h (Dead generation) not_enter sound outside may = absurd may
outside_keeps deltas s h (Refused reason) not_enter sound outside may = absurd may
