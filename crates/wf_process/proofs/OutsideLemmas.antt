-- What a hart does outside the kernel alone: it takes the page of its access.
use Rattle.std.proofs.Common.{◌≡◌, ◌&&◌, ◌++◌, ◌∙◌, ℕ, List, [], ◌∷◌, Bool, true, false, not, Option, Some, None, is_some, map, refl, sym, subst}
use Rattle.std.specs.Prelude.{slice_get}
use Rattle.wf_outside.specs.Images.{DeltaValue}
use Rattle.wf_outside.specs.Pages.{page_of}
use Rattle.wf_flat.specs.declared.event.Actor.{Actor}
use Rattle.wf_flat.specs.declared.event.Actor.TheVariants.{Hart, Kernel}
use Rattle.wf_flat.specs.declared.event.Event.{Event}
use Rattle.wf_flat.specs.declared.event.Event.TheVariants.{End, Put, Swap, Take}
use Rattle.wf_flat.specs.declared.state.Life.TheVariants.{Running}
use Rattle.wf_flat.specs.Accesses.{Access, is_free}
use Rattle.wf_flat.specs.Changes.{noted, page_taken}
use Rattle.wf_flat.specs.Memory.{data_in}
use Rattle.wf_flat.specs.State.{FlatState, HartState, PageState}
use Rattle.wf_flat.specs.Steps.{MayPut, MaySwap, MayTake, OfHart, TakesData, access_in}
use Rattle.wf_flat.proofs.ListLemmas.{some_and}
use Rattle.wf_effects.specs.declared.ranges.PageRun.{PageRun}
use Rattle.wf_verdict.specs.declared.work.Todo.TheVariants.{Exactly, Leaves}
use Rattle.wf_verdict.specs.Work.{map_of}
use Rattle.wf_legal.specs.Calls.{Call, Doing, Settling}
use Rattle.wf_legal.specs.Legal.{Allows, Moment, after}
use Rattle.wf_sound.specs.Sound.{IsInHand, IsSound}
use Rattle.wf_sound.proofs.SoundLemmas.{entry_keeps}
use Rattle.wf_laws.proofs.CallLemmas.{IsLateCall, IsLateWork, acts_outside, is_late}
use Rattle.wf_homes.proofs.FoundLemmas.{at_some, some_more}
use Rattle.wf_access.proofs.HartLemmas.{other_harts}

late_leaves : (pages : List ℕ) (next : ℕ) → IsLateWork (map Leaves pages ++ Exactly (End next) ∷ [])
late_leaves [] next = (refl, tt)
late_leaves (page ∷ pages) next = late_leaves pages next

late_maps : (patch : ℕ) (runs : List PageRun) (last : Event) → is_late last ≡ true → IsLateWork (map (map_of patch) runs ++ Exactly last ∷ [])
late_maps patch [] last e = (e, tt)
late_maps patch (run ∷ runs) last e = (refl, late_maps patch runs last e)

-- what is in hand at a sound moment, but for what begins
call_late : (deltas : List DeltaValue) (s : FlatState) (inside : Option Actor) (call : Option Call) → IsInHand deltas s inside call → IsLateCall call
call_late deltas s None None h = tt
call_late deltas s None (Some call) h = absurd h
call_late deltas s (Some actor) None h = absurd h
call_late deltas s (Some Kernel) (Some (Settling owed last)) h = tt
call_late deltas s (Some (Hart k)) (Some (Settling owed last)) h = tt
call_late deltas s (Some Kernel) (Some (Doing todo)) h = subst IsLateWork (sym h.is) (late_maps h.patch h.runs _ refl)
call_late deltas s (Some (Hart k)) (Some (Doing todo)) h = let w = some_and (slice_get s.harts k) _ h in subst IsLateWork (sym w.2.1.1.is) (late_leaves w.2.1.1.pages w.2.1.1.next)

pub sound_late : (m : Moment) → IsSound m → IsLateCall m.call
sound_late m sound = call_late m.deltas m.flat m.flat.inside m.call sound.call

-- a hart that runs takes the page of its access for a write, which is free
pub record TakesPage (s : FlatState) (h va : ℕ) : Type 0 where
  pub hart : HartState
  pub is : slice_get s.harts h ≡ Some hart
  pub runs : hart.life ≡ Running
  pub access : Access
  pub acc : access_in hart ≡ Some access
  pub at : access.va ≡ va
  pub put : hart.put ≡ false
  pub page : PageState
  pub there : data_in s.pages (page_of va) ≡ Some page
  pub free : page.holder ≡ None

free_none : (o : Option ℕ) → not (is_some o) ≡ true → o ≡ None
free_none None e = refl
free_none (Some x) e = absurd cc

first_true : (a b c : Bool) → a && b && c ≡ true → a ≡ true
first_true true b c e = refl
first_true false b c e = absurd cc

abbrev access_at : ℕ → ℕ → Bool → Access
access_at va width write = record { va = va; width = width; write = write }

taken_from : (s : FlatState) (h va width : ℕ) (write : Bool) (hart : HartState) → slice_get s.harts h ≡ Some hart → hart.life ≡ Running → access_in hart ≡ Some (access_at va width write) → hart.put ≡ false
    → MayTake s hart (access_in hart) (page_of va) → TakesPage s h va
taken_from s h va width write hart is runs acc put may =
    let m : MayTake s hart (Some (access_at va width write)) (page_of va) = subst (λ (o : Option Access). MayTake s hart o (page_of va)) acc may in
    by_data (data_in s.pages (page_of va)) refl m.3
  where
    by_data : (o : Option PageState) → data_in s.pages (page_of va) ≡ o → TakesData s hart (access_at va width write) o → TakesPage s h va
    by_data None e t = absurd t
    by_data (Some page) e t = record { hart = hart; is = is; runs = runs; access = access_at va width write; acc = acc; at = refl; put = put; page = page; there = e; free = free_none page.holder (first_true (is_free page) _ _ t) }

-- the hart, once it has the page, has this access, and hasn't written
abbrev HasNotWritten : FlatState → ℕ → ℕ → ℕ → Bool → Type 0
HasNotWritten s h va width write = OfHart s h (λ hart. (access_in hart ≡ Some (access_at va width write)) × (hart.put ≡ false))

takes_so : (m : Moment) (h va width : ℕ) (write : Bool) → IsSound m → Allows m (Hart h) (Take (page_of va)) → HasNotWritten (page_taken m.flat h (page_of va)) h va width write → TakesPage m.flat h va
takes_so m h va width write sound may second =
    let a = acts_outside m h (Take (page_of va)) refl (sound_late m sound) may in
    let w = some_and (slice_get m.flat.harts h) _ a in
    let same : slice_get (page_taken m.flat h (page_of va)).harts h ≡ slice_get m.flat.harts h = other_harts (noted (page_of va)) m.flat.harts h in
    let then = at_some (slice_get (page_taken m.flat h (page_of va)).harts h) (λ (x : HartState). (access_in x ≡ Some (access_at va width write)) × (x.put ≡ false)) w.0 (same ∙ w.1) second in
    taken_from m.flat h va width write w.0 w.1 w.2.0 then.0 then.1 w.2.1

module _ (m : Moment) (h va width : ℕ) (sound : IsSound m) (may : Allows m (Hart h) (Take (page_of va))) where
  abbrev n : Moment
  n = after m (Hart h) (Take (page_of va))

  pub put_takes : (value : ℕ) → Allows n (Hart h) (Put va width value) → TakesPage m.flat h va
  put_takes value then =
      let a = acts_outside n h (Put va width value) refl (sound_late n (entry_keeps m (Hart h) (Take (page_of va)) sound may)) then in
      takes_so m h va width true sound may (some_more (slice_get n.flat.harts h) (λ (hart : HartState). (hart.life ≡ Running) × MayPut n.flat h hart va width value) (λ (hart : HartState). (access_in hart ≡ Some (access_at va width true)) × (hart.put ≡ false)) (λ x e t. (t.1.0, t.1.3)) a)

  pub swap_takes : (old new : ℕ) → Allows n (Hart h) (Swap va width old new) → TakesPage m.flat h va
  swap_takes old new then =
      let a = acts_outside n h (Swap va width old new) refl (sound_late n (entry_keeps m (Hart h) (Take (page_of va)) sound may)) then in
      takes_so m h va width true sound may (some_more (slice_get n.flat.harts h) (λ (hart : HartState). (hart.life ≡ Running) × MaySwap n.flat h hart va width old new) (λ (hart : HartState). (access_in hart ≡ Some (access_at va width true)) × (hart.put ≡ false)) (λ x e t. (t.1.0, t.1.3)) a)
