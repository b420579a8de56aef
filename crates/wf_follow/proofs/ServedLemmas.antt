-- A hart within a call: what the entries of the call keep.
use Rattle.std.proofs.Common.{◌≡◌, ℕ, List, [], ◌∷◌, Option, Some, None, Bool, true, false, refl, sym, subst, inl, inr}
use Rattle.std.specs.Prelude.{MatchBool, slice_get}
use Rattle.std.specs.List.{AllByRecursion, range_with_len}
use Rattle.wf_outside.specs.Images.{DeltaValue}
use Rattle.wf_flat.specs.declared.event.Actor.TheVariants.{Hart}
use Rattle.wf_flat.specs.declared.event.Event.{Event}
use Rattle.wf_flat.specs.declared.event.Event.TheVariants.{Born, Dead, End, Ending, Enter, Exit, Going, Map, Move, Out, Refused, Sync, Trap}
use Rattle.wf_flat.specs.State.{FlatState, HartState, PageState}
use Rattle.wf_flat.specs.Memory.{data_in}
use Rattle.wf_flat.specs.Accesses.{is_free}
use Rattle.wf_flat.specs.Refusals.{refused_answer}
use Rattle.wf_flat.specs.Steps.{MayAct, access_in}
use Rattle.wf_flat.specs.Changes.{answered, change_hart, entered, exited_with, leave_hart, page_met, trapped_with, try_ended}
use Rattle.wf_flat.specs.Follows.{ends_unit}
use Rattle.wf_flat.proofs.ListLemmas.{and_some, others_same, some_and}
use Rattle.wf_effects.specs.Effects.{all_noted, delta_of, generation_born, generation_dead, hart_moved, mapped, moved_to, page_gone, pages_going, pages_noted}
use Rattle.wf_verdict.specs.declared.work.Todo.{Todo}
use Rattle.wf_verdict.specs.declared.work.Todo.TheVariants.{Exactly, Leaves}
use Rattle.wf_legal.specs.Calls.{IsGone, IsLeaving, IsNext, closes_hart_call, later}
use Rattle.wf_legal.specs.Events.{flat_after}
use Rattle.wf_next.proofs.ActLemmas.{at_some}
use Rattle.wf_next.proofs.QuietLemmas.{found_all}
use Rattle.wf_follow.proofs.PageLemmas.{free_kept}
use Rattle.wf_follow.proofs.StayLemmas.{IsStaying, free_staying, going_staying, gone_staying, mapped_all, staying_free}
use Rattle.wf_follow.proofs.UnitLemmas.{AreOneTrying, IsMoving, IsRest, IsStill, IsTrying, asks_free, ends_at, leaves, one_changes, others_note_in, rests}
use Rattle.wf_follow.proofs.WorkLemmas.{AreToLeave, FitsBefore, IsHartWork}

-- A hart is inside, with a call that has this to do: it holds no page, and no other hart is in a try.
pub record IsServed (h : ℕ) (todo : List Todo) (s : FlatState) : Type 0 where
  pub harts : AreOneTrying h None s.harts
  pub pages : AllByRecursion (IsStaying todo) s.pages
  pub inside : s.inside ≡ Some (Hart h)

-- it enters where it asks
pub enters : (h : ℕ) (s : FlatState) → IsMoving h s → MayAct s (Hart h) Enter → IsServed h [] (entered s (Hart h))
enters h s k may =
    let w = some_and (slice_get s.harts h) (IsTrying k.held) k.harts.1 in
    let q = at_some (slice_get s.harts h) _ w.0 w.1 may in
    let free = asks_free h s w.0 k.held (access_in w.0) refl w.2 k.pages q.1.1 in
    record {
      harts = (k.harts.0, and_some (slice_get s.harts h) (IsTrying None) w.0 w.1 (record { still = w.2.still; runs = w.2.runs; keeps = inl refl }));
      pages = free_staying [] s.pages free;
      inside = refl;
    }

-- what it asks for begins
pub served_more : (h : ℕ) (todo : List Todo) (s : FlatState) → IsServed h [] s → IsServed h todo s
served_more h todo s k = record { harts = k.harts; pages = free_staying todo s.pages (staying_free s.pages k.pages); inside = k.inside }

-- it leaves the kernel, and its unit ends
stops : (h : ℕ) (s : FlatState) (g : HartState → HartState) → IsServed h [] s → ((hart : HartState) → (g hart).fetched ≡ None) → ((hart : HartState) → (g hart).moved ≡ hart.moved) → IsRest (leave_hart s h g)
stops h s g k none same = rests h None s g k.harts (staying_free s.pages k.pages) (inr k.inside) none same

ends : (h : ℕ) (s : FlatState) → IsServed h [] s → IsRest (try_ended s h)
ends h s k = ends_at h None s k.harts (free_kept h s.pages (staying_free s.pages k.pages)) (inr k.inside)

-- it leaves the kernel, and its unit goes on
meets : (h generation page : ℕ) (s : FlatState) → IsServed h [] s → IsMoving h (page_met s h generation page)
meets h generation page s k =
    record { held = None; harts = others_note_in h generation page None s.harts k.harts; pages = free_kept h s.pages (staying_free s.pages k.pages); outside = leaves h s.inside (inr k.inside) }

-- it changes, and stays inside
changes : (h : ℕ) (todo : List Todo) (s : FlatState) (f : HartState → HartState) → ((hart : HartState) → IsTrying None hart → IsTrying None (f hart)) → IsServed h todo s → IsServed h todo (change_hart s h f)
changes h todo s f keep k = record { harts = one_changes h None None s.harts f k.harts (λ hart is t. keep hart t); pages = k.pages; inside = k.inside }

answers : (h answer : ℕ) (todo : List Todo) (s : FlatState) → IsServed h todo s → IsServed h todo (change_hart s h (answered answer))
answers h answer todo s k = changes h todo s (answered answer) (λ hart t. record { still = t.still; runs = t.runs; keeps = inl refl }) k

moves : (h generation : ℕ) (todo : List Todo) (s : FlatState) → IsServed h todo s → IsServed h todo (hart_moved s h generation)
moves h generation todo s k = changes h todo s (moved_to generation) (λ hart t. record { still = t.still; runs = t.runs; keeps = inl refl }) k

-- still harts note no pages
pub still_all_noted : (pages : List ℕ) (hart : HartState) → IsStill hart → all_noted pages hart ≡ hart
still_all_noted pages hart still = let none = still.0 in rw none refl

notes : (h : ℕ) (todo : List Todo) (s : FlatState) (pages : List ℕ) → IsServed h todo s → IsServed h todo (pages_noted s (Hart h) pages)
notes h todo s pages k = record {
  harts = subst (AreOneTrying h None) (sym (others_same IsStill (all_noted pages) (still_all_noted pages) s.harts h k.harts.0)) k.harts;
  pages = k.pages;
  inside = k.inside;
}

-- pages are mapped, begin to leave, and are gone
maps : (h : ℕ) (todo : List Todo) (s : FlatState) (first n : ℕ) (write : Bool) (delta : Option DeltaValue) → IsServed h todo s → IsServed h todo (mapped s first n write delta)
maps h todo s first n write delta k = record {
  harts = k.harts;
  pages = mapped_all (IsStaying todo) (λ page free. (inl free.0, free.1)) delta write first s.births n s.pages k.pages;
  inside = k.inside;
}

goes : (h : ℕ) (todo : List Todo) (s : FlatState) (first n : ℕ) → AreToLeave first n todo → IsServed h todo s → IsServed h todo (pages_going s first n)
goes h todo s first n leave k = record { harts = k.harts; pages = going_staying first n todo s.pages leave k.pages; inside = k.inside }

lets_go : (h : ℕ) (todo : List Todo) (s : FlatState) (page : ℕ) (worn : Bool) → IsServed h (Leaves page ∷ todo) s → IsServed h todo (page_gone s page worn)
lets_go h todo s page worn k = record { harts = k.harts; pages = gone_staying page todo s.pages k.pages; inside = k.inside }

-- generations come and go
bears : (deltas : List DeltaValue) (h : ℕ) (todo : List Todo) (s : FlatState) (parent : ℕ) (patch : Option ℕ) → IsServed h todo s → IsServed h todo (generation_born deltas s parent patch)
bears deltas h todo s parent patch k = record { harts = k.harts; pages = k.pages; inside = k.inside }

buries : (h : ℕ) (todo : List Todo) (s : FlatState) (generation : ℕ) → IsServed h todo s → IsServed h todo (generation_dead s generation)
buries h todo s generation k = record { harts = k.harts; pages = k.pages; inside = k.inside }

-- behind an event of the call: the unit ended, or the hart is outside, or goes on with its call
abbrev pub IsBehindCall : ℕ → Event → List Todo → FlatState → Type 0
IsBehindCall h event todo s = MatchBool (ends_unit event) (IsRest s) (MatchBool (closes_hart_call event) (IsMoving h s) (IsServed h todo s))

at_last : (h : ℕ) (todo : List Todo) (s : FlatState) → todo ≡ [] → IsServed h todo s → IsServed h [] s
at_last h todo s e k = subst (λ (x : List Todo). IsServed h x s) e k

exactly : (deltas : List DeltaValue) (h : ℕ) (s : FlatState) (event : Event) (todo : List Todo) → FitsBefore event todo → IsServed h todo s → IsBehindCall h event todo (flat_after deltas s (Hart h) event)
exactly deltas h s (End pc) todo fits k = ends h s (at_last h todo s fits k)
exactly deltas h s (Sync generation page) todo fits k = meets h generation page s (at_last h todo s fits k)
exactly deltas h s (Trap cause value) todo fits k = stops h s (trapped_with cause value) (at_last h todo s fits k) (λ hart. refl) (λ hart. refl)
exactly deltas h s (Exit code) todo fits k = stops h s (exited_with code) (at_last h todo s fits k) (λ hart. refl) (λ hart. refl)
exactly deltas h s (Out byte) todo fits k = answers h 0 todo s k
exactly deltas h s (Map page n write patch) todo fits k =
    let t : FlatState = mapped s page n write (delta_of deltas patch) in
    answers h 0 todo (pages_noted t (Hart h) (range_with_len page n)) (notes h todo t (range_with_len page n) (maps h todo s page n write (delta_of deltas patch) k))
exactly deltas h s (Going page n) todo fits k =
    let t : FlatState = pages_going s page n in
    answers h 0 todo (pages_noted t (Hart h) (range_with_len page n)) (notes h todo t (range_with_len page n) (goes h todo s page n fits k))
exactly deltas h s (Born generation parent patch) todo fits k = answers h generation todo (generation_born deltas s parent patch) (bears deltas h todo s parent patch k)
exactly deltas h s (Move generation) todo fits k = moves h generation todo s k
exactly deltas h s (Dead generation) todo fits k = answers h 0 todo (generation_dead s generation) (buries h todo s generation k)
exactly deltas h s (Refused reason) todo fits k = answers h (refused_answer reason) todo s k
exactly deltas h s event todo fits k = absurd fits

-- a page that leaves is gone
gone : (deltas : List DeltaValue) (h : ℕ) (s : FlatState) (page : ℕ) (event : Event) (todo : List Todo) → IsGone s page event → IsServed h (Leaves page ∷ todo) s → IsBehindCall h event todo (flat_after deltas s (Hart h) event)
gone deltas h s page event todo is k = elim is [
  | inl e ↦ subst (λ (x : Event). IsBehindCall h x todo (flat_after deltas s (Hart h) x)) (sym e) (let t : FlatState = page_gone s page false in notes h todo t (page ∷ []) (lets_go h todo s page false k))
  | inr e ↦ subst (λ (x : Event). IsBehindCall h x todo (flat_after deltas s (Hart h) x)) (sym e.0) (let t : FlatState = page_gone s page true in notes h todo t (page ∷ []) (lets_go h todo s page true k))
]

pub leaves_gone : (h : ℕ) (todo : List Todo) (s : FlatState) (page : ℕ) (o : Option PageState) (event : Event) → data_in s.pages page ≡ o → IsServed h todo s → IsLeaving s page o event → IsGone s page event
leaves_gone h todo s page None event e k leaving = absurd leaving
leaves_gone h todo s page (Some found) event e k leaving =
    let holder : found.holder ≡ None = (found_all (IsStaying todo) s.pages page found k.pages e).1 in
    let free : is_free found ≡ true = rw holder refl in
    subst (λ (b : Bool). MatchBool b (IsGone s page event) (event ≡ Ending page)) free leaving

-- the next event of the call
pub serves : (deltas : List DeltaValue) (h : ℕ) (s : FlatState) (todo : List Todo) (event : Event) → IsHartWork todo → IsServed h todo s → IsNext s todo event → IsBehindCall h event (later todo) (flat_after deltas s (Hart h) event)
serves deltas h s [] event work k next = absurd next
serves deltas h s (Exactly first ∷ todo) event work k next =
    subst (λ (x : Event). IsBehindCall h x todo (flat_after deltas s (Hart h) x)) (sym next)
    (exactly deltas h s first todo work.0 (record { harts = k.harts; pages = k.pages; inside = k.inside }))
serves deltas h s (Leaves page ∷ todo) event work k next =
    gone deltas h s page event todo (leaves_gone h (Leaves page ∷ todo) s page (data_in s.pages page) event refl k next) k
