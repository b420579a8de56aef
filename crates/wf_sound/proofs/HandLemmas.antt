-- What is in hand is kept where another actor's try goes on.
use Rattle.std.proofs.Common.{◌≡◌, ◌&&◌, ◌++◌, ℕ, List, Bool, true, false, Option, Some, None, map, refl, sym, subst, ◌∙◌, arith}
use Rattle.std.specs.Prelude.{slice_get, IsSomeAnd, Contains}
use Rattle.wf_outside.specs.Images.{DeltaValue, text_numbers}
use Rattle.wf_flat.specs.declared.event.Actor.{Actor}
use Rattle.wf_flat.specs.declared.event.Actor.TheVariants.{Hart, Kernel}
use Rattle.wf_flat.specs.declared.state.Life.TheVariants.{Running}
use Rattle.wf_flat.specs.State.{FlatState, HartState, PageState}
use Rattle.wf_flat.specs.Memory.{data_in}
use Rattle.wf_flat.specs.Accesses.{is_ending, is_free, is_going}
use Rattle.rv_inst.specs.declared.want.Want.TheVariants as want
use Rattle.std.proofs.lemmas.Bool.Decides.{nat_tests}
use Rattle.wf_flat.specs.Steps.{OfRunning, is_inside, want_in}
use Rattle.wf_flat.proofs.ListLemmas.{and_some, some_and}
use Rattle.wf_verdict.specs.declared.work.Todo.{Todo}
use Rattle.wf_legal.specs.Calls.{Call, Doing, Settling, may_go}
use Rattle.wf_sound.specs.Sound.{HasNoneGoing, IsHartWork, IsInHand, IsKernelWork, IsOwed, IsSettling, IsUnused, run_numbers}
use Rattle.wf_sound.proofs.AllLemmas.{all_more}
use Rattle.wf_sound.proofs.FrameLemmas.{same_used, shape}
use Rattle.wf_sound.proofs.HartLemmas.{OtherNow, OwnNow, Stepped, stood_before}
use Rattle.wf_sound.proofs.StateLemmas.{IsPageAfter, Paired, found_after, found_pair, paired_all, paired_keys, same_there, tried_with}

pub both_true : (a b : Bool) → a ≡ true → b ≡ true → (a && b) ≡ true
both_true a b e f = rw (e, f) refl

pub first_true : (a b : Bool) → (a && b) ≡ true → a ≡ true
first_true true b e = refl
first_true false b e = absurd cc

pub second_true : (a b : Bool) → (a && b) ≡ true → b ≡ true
second_true true b e = e
second_true false b e = absurd cc

-- a hart that is there and runs does so after a step
pub running_after : (s t : FlatState) (a : ℕ) (g : HartState → HartState) (X Y : Type 0) → Stepped s.harts t.harts a g → ((hart : HartState) → slice_get s.harts a ≡ Some hart → hart.life ≡ Running → (g hart).life ≡ Running) → (X → Y) → (h : ℕ)
    → OfRunning s h (λ hart. X) → OfRunning t h (λ hart. Y)
running_after s t a g X Y step lives more h of =
    let w = some_and (slice_get s.harts h) (λ hart. (hart.life ≡ Running) × X) of in
    let runs : w.0.life ≡ Running = w.2.0 in
    let there : slice_get s.harts h ≡ Some w.0 = w.1 in
    elim (stood_before s.harts t.harts a g step h w.0 w.1) [
      | OwnNow same at ↦ and_some (slice_get t.harts h) (λ hart. (hart.life ≡ Running) × Y) (g w.0) at (lives w.0 (rw (← same) there) runs, more (w.2.1))
      | OtherNow new apart at is ↦ and_some (slice_get t.harts h) (λ hart. (hart.life ≡ Running) × Y) new at (rw is (runs), more (w.2.1))
    ]

-- a hart that runs is in a try of a call
abbrev pub CallsHart : FlatState → ℕ → Type 0
CallsHart s h = OfRunning s h (λ hart. want_in hart ≡ Some want.Call)

pub calls_with : (s : FlatState) (h : ℕ) (X : Type 0) → CallsHart s h → X → OfRunning s h (λ hart. (want_in hart ≡ Some want.Call) × X)
calls_with s h X calls x =
    let w = some_and (slice_get s.harts h) (λ hart. (hart.life ≡ Running) × (want_in hart ≡ Some want.Call)) calls in
    and_some (slice_get s.harts h) (λ hart. (hart.life ≡ Running) × ((want_in hart ≡ Some want.Call) × X)) w.0 w.1 (w.2.0, (w.2.1, x))

pub calls_only : (s : FlatState) (h : ℕ) (X : Type 0) → OfRunning s h (λ hart. (want_in hart ≡ Some want.Call) × X) → CallsHart s h × X
calls_only s h X of =
    let w = some_and (slice_get s.harts h) (λ hart. (hart.life ≡ Running) × ((want_in hart ≡ Some want.Call) × X)) of in
    (and_some (slice_get s.harts h) (λ hart. (hart.life ≡ Running) × (want_in hart ≡ Some want.Call)) w.0 w.1 (w.2.0, w.2.1.0), w.2.1.1)

-- it is so after a step
calls_after : (s t : FlatState) (a : ℕ) (g : HartState → HartState) → Stepped s.harts t.harts a g → ((hart : HartState) → slice_get s.harts a ≡ Some hart → hart.life ≡ Running → (g hart).life ≡ Running) → (h : ℕ)
    → (h ≡ a → (hart : HartState) → slice_get s.harts a ≡ Some hart → want_in hart ≡ Some want.Call → want_in (g hart) ≡ Some want.Call) → CallsHart s h → CallsHart t h
calls_after s t a g step lives h own of =
    let w = some_and (slice_get s.harts h) (λ hart. (hart.life ≡ Running) × (want_in hart ≡ Some want.Call)) of in
    elim (stood_before s.harts t.harts a g step h w.0 w.1) [
      | OwnNow same at ↦ (
          let there : slice_get s.harts a ≡ Some w.0 = subst (λ (k : ℕ). slice_get s.harts k ≡ Some w.0) same w.1 in
          and_some (slice_get t.harts h) (λ hart. (hart.life ≡ Running) × (want_in hart ≡ Some want.Call)) (g w.0) at (lives w.0 there w.2.0, own same w.0 there w.2.1))
      | OtherNow new apart at is ↦ and_some (slice_get t.harts h) (λ hart. (hart.life ≡ Running) × (want_in hart ≡ Some want.Call)) new at
          (subst (λ (x : HartState). (x.life ≡ Running) × (want_in x ≡ Some want.Call)) (sym is) (w.2.0, w.2.1))
    ]

module _ (s : FlatState) (pages : List PageState) (harts : List HartState) (inside : Option Actor) (a : ℕ) (g : HartState → HartState)
    (paired : Paired (IsPageAfter s (tried_with s pages harts inside) a) s.pages pages) where
  none_after : HasNoneGoing s → HasNoneGoing (tried_with s pages harts inside)
  none_after none = paired_all (IsPageAfter s (tried_with s pages harts inside) a) (λ page. is_going page.stage ≡ false) (λ page. is_going page.stage ≡ false) (λ x y p e. rw (p.stage) e) s.pages pages paired none

  going_after : (P : PageState → Type 0) (n : ℕ) → ((x y : PageState) → IsPageAfter s (tried_with s pages harts inside) a x y → P x → P y) → IsSomeAnd (data_in s.pages n) P → IsSomeAnd (data_in pages n) P
  going_after P n more of =
      let R = IsPageAfter s (tried_with s pages harts inside) a in
      let old = some_and (data_in s.pages n) P of in
      let new = found_after R (data_in s.pages n) (data_in pages n) old.0 (found_pair s pages harts inside a g paired n) old.1 in
      and_some (data_in pages n) P new.0 new.1 (more old.0 new.0 new.2 old.2)

  settling_after : (owed : List ℕ) (last : Option ℕ) → IsSettling s owed last → IsSettling (tried_with s pages harts inside) owed last
  settling_after owed last is = record {
    rising = is.rising;
    each = all_more (IsOwed s last) (IsOwed (tried_with s pages harts inside) last)
        (λ n owes. (
          owes.0,
          going_after (λ page. may_go page ≡ true) n
              (λ x y p e.
              let ends : is_ending x.stage ≡ true = first_true (is_ending x.stage) (is_free x) e in
              both_true (is_ending y.stage) (is_free y) (rw (p.stage) ends) (p.free ends (second_true (is_ending x.stage) (is_free x) e)))
              owes.1,
        )) owed is.each;
    none_going = none_after is.none_going;
  }

  hart_work_after : (todo : List Todo) → IsHartWork s todo → IsHartWork (tried_with s pages harts inside) todo
  hart_work_after todo work = record {
    pages = work.pages;
    next = work.next;
    is = work.is;
    rising = work.rising;
    going = all_more (λ n. IsSomeAnd (data_in s.pages n) (λ page. is_going page.stage ≡ true)) (λ n. IsSomeAnd (data_in pages n) (λ page. is_going page.stage ≡ true))
        (λ n of. going_after (λ page. is_going page.stage ≡ true) n (λ x y p e. rw (p.stage) e) of) work.pages work.going;
    only = paired_all (IsPageAfter s (tried_with s pages harts inside) a) (λ page. is_going page.stage ≡ true → Contains work.pages page.number) (λ page. is_going page.stage ≡ true → Contains work.pages page.number)
        (λ x y p has e. rw (p.number) (has (rw (← p.stage) e))) s.pages pages paired work.only;
  }

  kernel_work_after : (deltas : List DeltaValue) (todo : List Todo) → IsKernelWork deltas s todo → IsKernelWork deltas (tried_with s pages harts inside) todo
  kernel_work_after deltas todo work =
      let R = IsPageAfter s (tried_with s pages harts inside) a in
      let shapes : map shape pages ≡ map shape s.pages = paired_keys R shape (λ x y p. rw (p.number, p.stage) refl) s.pages pages paired in
      let used = same_used deltas s pages harts inside s.births work.delta work.runs work.parent (Some work.patch) shapes in
      let frames = work.frames in
      record {
        patch = work.patch;
        delta = work.delta;
        runs = work.runs;
        parent = work.parent;
        is = work.is;
        of_run = work.of_run;
        live = work.live;
        few = work.few;
        low = work.low;
        distinct = work.distinct;
        unused = all_more (IsUnused s) (IsUnused (tried_with s pages harts inside))
            (λ n none. (same_there R (data_in s.pages n) (data_in pages n) (found_pair s pages harts inside a g paired n) ∙ none.0, none.1))
            (text_numbers work.delta.private ++ run_numbers work.runs) work.unused;
        frames = omega arith;
        none_going = none_after work.none_going;
      }

  pub hand_after : (deltas : List DeltaValue) → Stepped s.harts harts a g
      → ((hart : HartState) → slice_get s.harts a ≡ Some hart → hart.life ≡ Running → (g hart).life ≡ Running)
      → (o : Option Actor) (call : Option Call) → (is_inside o (Hart a) ≡ true → (hart : HartState) → slice_get s.harts a ≡ Some hart → want_in hart ≡ Some want.Call → want_in (g hart) ≡ Some want.Call)
      → IsInHand deltas s o call → IsInHand deltas (tried_with s pages harts inside) o call
  hand_after deltas step lives None None own in_hand = none_after in_hand
  hand_after deltas step lives None (Some call) own in_hand = in_hand
  hand_after deltas step lives (Some (Hart h)) None own in_hand = in_hand
  hand_after deltas step lives (Some Kernel) None own in_hand = in_hand
  hand_after deltas step lives (Some (Hart h)) (Some (Settling owed last)) own in_hand =
      running_after s (tried_with s pages harts inside) a g (IsSettling s owed last) (IsSettling (tried_with s pages harts inside) owed last) step lives (settling_after owed last) h in_hand
  hand_after deltas step lives (Some Kernel) (Some (Settling owed last)) own in_hand = settling_after owed last in_hand
  hand_after deltas step lives (Some (Hart h)) (Some (Doing todo)) own in_hand =
      let w = calls_only s h (IsHartWork s todo) in_hand in
      calls_with (tried_with s pages harts inside) h (IsHartWork (tried_with s pages harts inside) todo)
      (calls_after s (tried_with s pages harts inside) a g step lives h (λ same. own (grind (arith, nat_tests))) w.0) (hart_work_after todo w.1)
  hand_after deltas step lives (Some Kernel) (Some (Doing todo)) own in_hand = kernel_work_after deltas todo in_hand
