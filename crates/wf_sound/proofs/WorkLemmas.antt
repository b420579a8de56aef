-- What is in hand of a call goes on by its entries: pages that go, and what a hart has still to do.
use Rattle.std.proofs.Common.{◌≡◌, ◌≢◌, ◌<◌, ◌≤◌, ◌==◌, ◌++◌, ℕ, zero, suc, List, [], ◌∷◌, Bool, true, false, Option, Some, None, length, map, refl, sym, subst, ◌∙◌, inl, inr, arith, get_or, if◌then◌else◌}
use Rattle.std.specs.Prelude.{slice_get, IsSomeAnd, MatchBool, Contains, not}
use Rattle.std.specs.List.{AllByRecursion, filter}
use Rattle.std.proofs.lemmas.Bool.Decides.{nat_tests}
use Rattle.wf_outside.specs.Images.{DeltaValue}
use Rattle.wf_outside.specs.Lists.{IsRising}
use Rattle.rv_inst.specs.declared.want.Want.TheVariants as want
use Rattle.wf_flat.specs.declared.event.Actor.{Actor}
use Rattle.wf_flat.specs.declared.event.Actor.TheVariants.{Hart, Kernel}
use Rattle.wf_flat.specs.declared.event.Event.{Event}
use Rattle.wf_flat.specs.declared.event.Event.TheVariants.{End, Ending, Gone}
use Rattle.wf_flat.specs.declared.state.Life.TheVariants.{Running}
use Rattle.wf_flat.specs.State.{FlatState, PageState}
use Rattle.wf_flat.specs.Memory.{data_in}
use Rattle.wf_flat.specs.Accesses.{is_ending, is_free, is_going}
use Rattle.wf_flat.specs.Steps.{OfRunning, is_inside, want_in}
use Rattle.wf_flat.specs.Changes.{without}
use Rattle.wf_flat.proofs.ListLemmas.{and_some, some_and}
use Rattle.wf_effects.specs.Effects.{ending, page_ending, page_gone, pages_noted}
use Rattle.wf_verdict.specs.declared.work.Todo.{Todo}
use Rattle.wf_verdict.specs.declared.work.Todo.TheVariants.{Exactly, Leaves}
use Rattle.wf_legal.specs.Calls.{Call, Doing, IsGone, IsLeaving, IsNext, Settling, call_behind, closes_call, may_go}
use Rattle.wf_legal.specs.Events.{flat_after}
use Rattle.wf_sound.specs.Sound.{HasNoneGoing, IsHartWork, IsInHand, IsOwed, IsSettling, IsSoundState}
use Rattle.wf_sound.proofs.AllLemmas.{all_both, all_filter, all_map, all_more, one_or_two, true_or_false}
use Rattle.wf_sound.proofs.EventLemmas.{ended_inside, try_ends}
use Rattle.wf_sound.proofs.HandLemmas.{CallsHart, calls_with, second_true}
use Rattle.wf_sound.proofs.KernelLemmas.{noting_keeps}
use Rattle.wf_sound.proofs.LeaveLemmas.{ending_past, ending_sound, gone_past, gone_sound, not_equal}
use Rattle.wf_sound.proofs.PageLemmas.{at_here, at_number, at_past}

-- a state that is sound, with what is in hand
pub record IsSoundWith (deltas : List DeltaValue) (s : FlatState) (call : Option Call) : Type 0 where
  pub state : IsSoundState deltas s
  pub hand : IsInHand deltas s s.inside call

-- what is in hand behind an event of the actor inside
abbrev pub next_call : List DeltaValue → FlatState → Actor → Option Call → Event → Option Call
next_call deltas s actor call event = if closes_call actor event then None else call_behind deltas s actor call event

pub with_inside : (deltas : List DeltaValue) (t : FlatState) (o : Option Actor) (call : Option Call) → IsSoundState deltas t → t.inside ≡ o → IsInHand deltas t o call → IsSoundWith deltas t call
with_inside deltas t o call sound e in_hand = record { state = sound; hand = subst (λ (p : Option Actor). IsInHand deltas t p call) (sym e) in_hand }

-- the actor is a hart that is there and runs, or the kernel's own
abbrev pub Runs : FlatState → Actor → Type 0
Runs s (Hart h) = OfRunning s h (λ hart. Unit {0})
Runs s Kernel = Unit {0}

-- what runs, and more
pub runs_with : (s : FlatState) (h : ℕ) (X : Type 0) → OfRunning s h (λ hart. Unit {0}) → X → OfRunning s h (λ hart. X)
runs_with s h X runs x =
    let w = some_and (slice_get s.harts h) (λ hart. (hart.life ≡ Running) × Unit {0}) runs in
    and_some (slice_get s.harts h) (λ hart. (hart.life ≡ Running) × X) w.0 w.1 (w.2.0, x)

pub runs_only : (s : FlatState) (h : ℕ) (X : Type 0) → OfRunning s h (λ hart. X) → OfRunning s h (λ hart. Unit {0}) × X
runs_only s h X of =
    let w = some_and (slice_get s.harts h) (λ hart. (hart.life ≡ Running) × X) of in
    (and_some (slice_get s.harts h) (λ hart. (hart.life ≡ Running) × Unit {0}) w.0 w.1 (w.2.0, tt), w.2.1)

-- what a call that settles has in hand
pub settling_of : (deltas : List DeltaValue) (s : FlatState) (actor : Actor) (owed : List ℕ) (last : Option ℕ) → IsInHand deltas s (Some actor) (Some (Settling owed last)) → Runs s actor × IsSettling s owed last
settling_of deltas s (Hart h) owed last in_hand = runs_only s h (IsSettling s owed last) in_hand
settling_of deltas s Kernel owed last in_hand = (tt, in_hand)

pub settling_with : (deltas : List DeltaValue) (s : FlatState) (actor : Actor) (owed : List ℕ) (last : Option ℕ) → Runs s actor → IsSettling s owed last → IsInHand deltas s (Some actor) (Some (Settling owed last))
settling_with deltas s (Hart h) owed last runs is = runs_with s h (IsSettling s owed last) runs is
settling_with deltas s Kernel owed last runs is = is

rising_filter : (keeps : ℕ → Bool) (ns : List ℕ) → IsRising ns → IsRising (filter keeps ns)
rising_filter keeps [] up = tt
rising_filter keeps (n ∷ ns) up = elim (true_or_false (keeps n)) [
  | inl e ↦ (rw e (all_filter keeps (λ m. n < m) (λ m. n < m) (λ m k lt. lt) ns up.0, rising_filter keeps ns up.1))
  | inr e ↦ (rw e (rising_filter keeps ns up.1))
]

gone_none : (s : FlatState) (n : ℕ) (worn : Bool) → HasNoneGoing s → HasNoneGoing (page_gone s n worn)
gone_none s n worn none = all_filter (λ (page : PageState). not (page.number == n)) (λ page. is_going page.stage ≡ false) (λ page. is_going page.stage ≡ false) (λ page k e. e) s.pages none

gone_settles : (s : FlatState) (n : ℕ) (worn : Bool) (owed : List ℕ) (last : Option ℕ) → AllByRecursion (λ other. n ≤ other) owed → IsSettling s owed last → IsSettling (page_gone s n worn) (filter (λ other. not (other == n)) owed) (Some n)
gone_settles s n worn owed last first is = record {
  rising = rising_filter (λ other. not (other == n)) owed is.rising;
  each = all_filter (λ other. not (other == n)) (λ other. (n ≤ other) × IsOwed s last other) (IsOwed (page_gone s n worn) (Some n))
      (λ other keeps both.
      let apart : other ≢ n = not_equal other n keeps in
      let le : n ≤ other = both.0 in
      let lt : n < other = omega arith in
      (grind (arith, nat_tests), subst (λ (o : Option PageState). IsSomeAnd o (λ page. may_go page ≡ true)) (sym (gone_past s n other apart)) both.1.1))
      owed (all_both (λ other. n ≤ other) (IsOwed s last) (λ other. (n ≤ other) × IsOwed s last other) (λ other a b. (a, b)) owed first is.each);
  none_going = gone_none s n worn is.none_going;
}

-- a page goes
going_away : (deltas : List DeltaValue) (s : FlatState) (actor : Actor) (n : ℕ) (worn : Bool) (call : Option Call) → IsSoundState deltas s → (page : PageState) → data_in s.pages n ≡ Some page → is_free page ≡ true
    → s.inside ≡ Some actor → IsInHand deltas (page_gone s n worn) (Some actor) call → IsSoundWith deltas (pages_noted (page_gone s n worn) actor (n ∷ [])) call
going_away deltas s actor n worn call sound page found free inside in_hand =
    let gone = gone_sound deltas s n worn page sound found free in
    let keeps = noting_keeps deltas (page_gone s n worn) actor (n ∷ []) gone in
    with_inside deltas (pages_noted (page_gone s n worn) actor (n ∷ [])) (Some actor) call keeps.state inside (keeps.hand (Some actor) call in_hand)

-- a call that settles lets a page go
pub settles_gone : (deltas : List DeltaValue) (s : FlatState) (actor : Actor) (owed : List ℕ) (last : Option ℕ) (n : ℕ) (worn : Bool) → IsSoundState deltas s → s.inside ≡ Some actor → IsInHand deltas s (Some actor) (Some (Settling owed last))
    → IsSomeAnd (data_in s.pages n) (λ page. may_go page ≡ true) → AllByRecursion (λ other. n ≤ other) owed → IsSoundWith deltas (pages_noted (page_gone s n worn) actor (n ∷ [])) (Some (Settling (filter (λ other. not (other == n)) owed) (Some n)))
settles_gone deltas s actor owed last n worn sound inside in_hand may first =
    let w = some_and (data_in s.pages n) (λ page. may_go page ≡ true) may in
    let is = settling_of deltas s actor owed last in_hand in
    going_away deltas s actor n worn (Some (Settling (filter (λ other. not (other == n)) owed) (Some n))) sound w.0 w.1 (second_true (is_ending w.0.stage) (is_free w.0) w.2) inside
    (settling_with deltas (page_gone s n worn) actor (filter (λ other. not (other == n)) owed) (Some n) (same_runs actor is.0) (gone_settles s n worn owed last first is.1))
  where
    same_runs : (actor : Actor) → Runs s actor → Runs (page_gone s n worn) actor
    same_runs (Hart h) runs = runs
    same_runs Kernel runs = runs

-- where nothing is to leave, nothing is Going
none_left : (s : FlatState) → AllByRecursion (λ page. is_going page.stage ≡ true → Contains {X = ℕ} [] page.number) s.pages → HasNoneGoing s
none_left s only = all_more (λ page. is_going page.stage ≡ true → Contains {X = ℕ} [] page.number) (λ page. is_going page.stage ≡ false)
    (λ page has. (elim (true_or_false (is_going page.stage)) [
      | inl e ↦ absurd (let w = has e in let k : w.0 < 0 = w.1 in omega arith)
      | inr e ↦ e
    ])) s.pages only

-- where nothing is Going, what is left is the end
pub end_left : (s : FlatState) (next : ℕ) → HasNoneGoing s → IsHartWork s (Exactly (End next) ∷ [])
end_left s next none = record {
  pages = [];
  next = next;
  is = refl;
  rising = tt;
  going = tt;
  only = all_more (λ page. is_going page.stage ≡ false) (λ page. is_going page.stage ≡ true → Contains {X = ℕ} [] page.number) (λ page e f. absurd cc) s.pages none;
}

behind_first : (n m : ℕ) (ns : List ℕ) → m ≢ n → Contains (n ∷ ns) m → Contains ns m
behind_first n m ns apart w = by_place w.0 w.1 w.2
  where
    by_place : (k : ℕ) → k < length (n ∷ ns) → get_or (n ∷ ns) k m ≡ m → Contains ns m
    by_place zero lt e = absurd (apart (sym e))
    by_place (suc k) lt e = (k, omega arith, e)

going_some : (s : FlatState) (pages : List PageState) (n : ℕ) (ns : List ℕ) → ((m : ℕ) → m ≢ n → data_in pages m ≡ data_in s.pages m) → AllByRecursion (λ m. n < m) ns
    → AllByRecursion (λ m. IsSomeAnd (data_in s.pages m) (λ page. is_going page.stage ≡ true)) ns → AllByRecursion (λ m. IsSomeAnd (data_in pages m) (λ page. is_going page.stage ≡ true)) ns
going_some s pages n ns past above going = all_both (λ m. n < m) (λ m. IsSomeAnd (data_in s.pages m) (λ page. is_going page.stage ≡ true)) (λ m. IsSomeAnd (data_in pages m) (λ page. is_going page.stage ≡ true))
    (λ m lt is. subst (λ (o : Option PageState). IsSomeAnd o (λ page. is_going page.stage ≡ true)) (sym (past m (λ same. omega arith))) is) ns above going

-- a page that is to leave is gone
gone_work : (s : FlatState) (n : ℕ) (worn : Bool) (ns : List ℕ) (next : ℕ) → IsRising (n ∷ ns) → AllByRecursion (λ m. IsSomeAnd (data_in s.pages m) (λ page. is_going page.stage ≡ true)) ns
    → AllByRecursion (λ page. is_going page.stage ≡ true → Contains (n ∷ ns) page.number) s.pages → IsHartWork (page_gone s n worn) (map Leaves ns ++ Exactly (End next) ∷ [])
gone_work s n worn ns next up going only = record {
  pages = ns;
  next = next;
  is = refl;
  rising = up.1;
  going = going_some s (page_gone s n worn).pages n ns (gone_past s n) up.0 going;
  only = all_filter (λ (page : PageState). not (page.number == n)) (λ page. is_going page.stage ≡ true → Contains (n ∷ ns) page.number) (λ page. is_going page.stage ≡ true → Contains ns page.number)
      (λ page keeps has e. behind_first n page.number ns (not_equal page.number n keeps) (has e)) s.pages only;
}

-- or it is Ending
ending_work : (s : FlatState) (n : ℕ) (ns : List ℕ) (next : ℕ) → IsRising (n ∷ ns) → AllByRecursion (λ m. IsSomeAnd (data_in s.pages m) (λ page. is_going page.stage ≡ true)) ns
    → AllByRecursion (λ page. is_going page.stage ≡ true → Contains (n ∷ ns) page.number) s.pages → IsHartWork (page_ending s n) (map Leaves ns ++ Exactly (End next) ∷ [])
ending_work s n ns next up going only = record {
  pages = ns;
  next = next;
  is = refl;
  rising = up.1;
  going = going_some s (page_ending s n).pages n ns (ending_past s n) up.0 going;
  only = all_map (λ page. is_going page.stage ≡ true → Contains (n ∷ ns) page.number) (λ page. is_going page.stage ≡ true → Contains ns page.number) (at_number n ending)
      (λ page has. (elim (one_or_two page.number n) [
        | inl same ↦ subst (λ (p : PageState). is_going p.stage ≡ true → Contains ns p.number) (sym (at_here n ending page same)) (λ e. absurd cc)
        | inr apart ↦ subst (λ (p : PageState). is_going p.stage ≡ true → Contains ns p.number) (sym (at_past n ending page apart)) (λ e. behind_first n page.number ns apart (has e))
      ])) s.pages only;
}

module _ (deltas : List DeltaValue) (s : FlatState) (h : ℕ) (sound : IsSoundState deltas s) (inside : s.inside ≡ Some (Hart h)) (calls : CallsHart s h) where
  -- a call ends
  pub call_ends : (pc : ℕ) → HasNoneGoing s → IsSoundWith deltas (flat_after deltas s (Hart h) (End pc)) None
  call_ends pc none =
      let w = some_and (slice_get s.harts h) (λ hart. (hart.life ≡ Running) × (want_in hart ≡ Some want.Call)) calls in
      let keeps = try_ends deltas s h w.0 w.1 sound in
      let left : without s.inside (Hart h) ≡ None = without_self s.inside inside in
      with_inside deltas (flat_after deltas s (Hart h) (End pc)) None None keeps.state (ended_inside s h ∙ left) (keeps.hand None None refl none)
    where
      without_self : (o : Option Actor) → o ≡ Some (Hart h) → without o (Hart h) ≡ None
      without_self o e = let k : is_inside (Some (Hart h)) (Hart h) ≡ true = grind (arith, nat_tests) in rw (e, k) refl

  leaving_page : (n : ℕ) (ns : List ℕ) (next : ℕ) (event : Event) (o : Option PageState) → data_in s.pages n ≡ o → IsRising (n ∷ ns) → AllByRecursion (λ m. IsSomeAnd (data_in s.pages m) (λ page. is_going page.stage ≡ true)) (n ∷ ns)
      → AllByRecursion (λ page. is_going page.stage ≡ true → Contains (n ∷ ns) page.number) s.pages → IsLeaving s n o event
      → IsSoundWith deltas (flat_after deltas s (Hart h) event) (next_call deltas s (Hart h) (Some (Doing (Leaves n ∷ map Leaves ns ++ Exactly (End next) ∷ []))) event)
  leaving_page n ns next event None found up going only leaves = absurd leaves
  leaving_page n ns next event (Some page) found up going only leaves = by_free (is_free page) refl leaves
    where
      away : (worn : Bool) → is_free page ≡ true → IsSoundWith deltas (flat_after deltas s (Hart h) (Gone n worn)) (Some (Doing (map Leaves ns ++ Exactly (End next) ∷ [])))
      away worn free = going_away deltas s (Hart h) n worn (Some (Doing (map Leaves ns ++ Exactly (End next) ∷ []))) sound page found free inside
          (calls_with (page_gone s n worn) h (IsHartWork (page_gone s n worn) (map Leaves ns ++ Exactly (End next) ∷ [])) calls (gone_work s n worn ns next up going.1 only))

      by_free : (b : Bool) → is_free page ≡ b → MatchBool b (IsGone s n event) (event ≡ Ending n)
          → IsSoundWith deltas (flat_after deltas s (Hart h) event) (next_call deltas s (Hart h) (Some (Doing (Leaves n ∷ map Leaves ns ++ Exactly (End next) ∷ []))) event)
      by_free true free is = elim is [
        | inl e ↦ rw e (away false free)
        | inr e ↦ rw (e.0) (away true free)
      ]
      by_free false free is =
          let keeps = noting_keeps deltas (page_ending s n) (Hart h) (n ∷ []) (ending_sound deltas s n sound) in
          rw is (with_inside deltas (pages_noted (page_ending s n) (Hart h) (n ∷ [])) (Some (Hart h)) (Some (Doing (map Leaves ns ++ Exactly (End next) ∷ []))) keeps.state inside
          (keeps.hand (Some (Hart h)) (Some (Doing (map Leaves ns ++ Exactly (End next) ∷ [])))
          (calls_with (page_ending s n) h (IsHartWork (page_ending s n) (map Leaves ns ++ Exactly (End next) ∷ [])) calls (ending_work s n ns next up going.1 only))))

  work_by : (pages : List ℕ) (next : ℕ) (event : Event) → IsRising pages → AllByRecursion (λ m. IsSomeAnd (data_in s.pages m) (λ page. is_going page.stage ≡ true)) pages
      → AllByRecursion (λ page. is_going page.stage ≡ true → Contains pages page.number) s.pages → IsNext s (map Leaves pages ++ Exactly (End next) ∷ []) event
      → IsSoundWith deltas (flat_after deltas s (Hart h) event) (next_call deltas s (Hart h) (Some (Doing (map Leaves pages ++ Exactly (End next) ∷ []))) event)
  work_by [] next event up going only is = rw is (call_ends next (none_left s only))
  work_by (n ∷ ns) next event up going only leaves = leaving_page n ns next event (data_in s.pages n) refl up going only leaves

  -- what a hart has still to do goes on
  pub hart_goes_on : (todo : List Todo) (event : Event) → IsHartWork s todo → IsNext s todo event → IsSoundWith deltas (flat_after deltas s (Hart h) event) (next_call deltas s (Hart h) (Some (Doing todo)) event)
  hart_goes_on todo event work is =
      subst (λ (todo : List Todo). IsSoundWith deltas (flat_after deltas s (Hart h) event) (next_call deltas s (Hart h) (Some (Doing todo)) event)) (sym work.is)
      (work_by work.pages work.next event work.rising work.going work.only (subst (λ (todo : List Todo). IsNext s todo event) work.is is))
