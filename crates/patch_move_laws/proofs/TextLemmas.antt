-- At each moment a hart that no call has in hand is on the text of its generation.
use Rattle.std.proofs.Common.{◌≡◌, ◌≢◌, ◌<◌, ◌+◌, ◌⊎◌, inl, inr, ℕ, zero, suc, List, [], ◌∷◌, ◌++◌, length, map, Option, Some, None, Bool, true, false, if◌then◌else◌, is_some, not, ◌&&◌, refl, sym, subst, ap, ◌∙◌, arith}
use Rattle.std.specs.Prelude.{IfSome, MatchBool, slice_get, unwrap_or}
use Rattle.std.specs.Option.{option_map}
use Rattle.std.proofs.lemmas.Bool.{cases_eq}
use Rattle.std.proofs.lemmas.Bool.Decides.{nat_tests}
use Rattle.rv_inst.specs.declared.want.Want.TheVariants as want
use Rattle.wf_outside.specs.Images.{DeltaValue}
use Rattle.wf_outside.specs.Pages.{PageValue}
use Rattle.wf_flat.specs.declared.event.Actor.{Actor}
use Rattle.wf_flat.specs.declared.event.Actor.TheVariants.{Hart, Kernel}
use Rattle.wf_flat.specs.declared.event.Event.{Event}
use Rattle.wf_flat.specs.declared.event.Event.TheVariants.{Fetch, End, Again, Wait, Enter, Trap, Exit, Idle, Ending, Gone, Move}
use Rattle.wf_flat.specs.State.{FlatState, GenState, HartState, PageState}
use Rattle.wf_flat.specs.Memory.{data_in, has_met, word_at}
use Rattle.wf_flat.specs.Accesses.{Access, accessed_data, accessed_text, generation_text, has_right, is_free, is_here, text_in}
use Rattle.wf_flat.specs.Steps.{Ask, Called, Stopped, Faulted, MayAct, OfHart, ask_of, is_done, is_inside, want_in}
use Rattle.wf_flat.proofs.ListLemmas.{and_some, some_and}
use Rattle.wf_verdict.specs.declared.work.Todo.{Todo}
use Rattle.wf_verdict.specs.declared.work.Todo.TheVariants.{Exactly, Leaves}
use Rattle.wf_legal.specs.Calls.{Call, Doing, Settling, GoesOn, IsGone, IsLeaving, IsNext, call_behind, todo_of, todo_of_page}
use Rattle.wf_legal.specs.Legal.{Allows, Moment, after, call_after}
use Rattle.wf_laws.proofs.BareLemmas.{bare, bare_at, bare_own, kernel_after, other_after, own_after, own_change}
use Rattle.wf_laws.proofs.CallLemmas.{IsLateCall, acts, acts_outside, call_kept, inner_comes, kernel_side}
use Rattle.wf_laws.proofs.CarryLemmas.{Keeps}
use Rattle.wf_laws.proofs.GenLemmas.{texts_stay}
use Rattle.wf_sound.specs.Making.{WantsNoTrap}
use Rattle.wf_sound.specs.Sound.{IsHartWork, IsInHand, IsSound}
use Rattle.wf_sound.proofs.BeginLemmas.{asks_calls}
use Rattle.wf_sound.proofs.EventLemmas.{outside_keeps}
use Rattle.wf_sound.proofs.RequestLemmas.{call_no_trap}
use Rattle.wf_sound.proofs.SoundLemmas.{entry_keeps, who_inside}
use Rattle.patch_move_laws.proofs.PlaceLemmas.{IsPlaced, ends_placed}

-- a word of a text stays there
word_below : (gens : List GenState) (g pc word : ℕ) → word_at (text_in (slice_get gens g)) pc ≡ Some word → g < length gens
word_below [] g pc word e = absurd (cc)
word_below (gen ∷ gens) zero pc word e = omega arith
word_below (gen ∷ gens) (suc g) pc word e = let below = word_below gens g pc word e in omega arith

word_stays : (m : Moment) (actor : Actor) (e : Event) (g pc word : ℕ) → Allows m actor e → word_at (generation_text m.flat g) pc ≡ Some word → word_at (generation_text (after m actor e).flat g) pc ≡ Some word
word_stays m actor e g pc word a is =
    ap (λ (text : List PageValue). word_at text pc) (texts_stay m (record { actor = actor; event = e } ∷ []) g (a, tt) (word_below m.flat.gens g pc word is)) ∙ is

-- a call of the hart is in hand
abbrev HasWork : Option Call → Type 0
HasWork (Some (Doing todo)) = Unit {0}
HasWork call = ⊥

pub record IsWorking (m : Moment) (h : ℕ) : Type 0 where
  pub inside : m.flat.inside ≡ Some (Hart h)
  pub work : HasWork m.call

abbrev IsFetched : Moment → HartState → Type 0
IsFetched m hart = IfSome hart.fetched (λ word. word_at (generation_text m.flat hart.generation) hart.arch.pc ≡ Some word)

pub record IsOn (m : Moment) (h : ℕ) (hart : HartState) : Type 0 where
  pub placed : IsPlaced hart.arch.pc
  pub text : IsWorking m h ⊎ IsFetched m hart

fetched_by : (m : Moment) (actor : Actor) (e : Event) (g pc : ℕ) → Allows m actor e → (o : Option ℕ) → IfSome o (λ word. word_at (generation_text m.flat g) pc ≡ Some word) → IfSome o (λ word. word_at (generation_text (after m actor e).flat g) pc ≡ Some word)
fetched_by m actor e g pc a None p = tt
fetched_by m actor e g pc a (Some word) p = word_stays m actor e g pc word a p

if_some : (o : Option HartState) (P Q : HartState → Type 0) → ((x : HartState) → P x → Q x) → IfSome o P → IfSome o Q
if_some None P Q k p = tt
if_some (Some x) P Q k p = k x p

-- another's entry leaves a hart's call in hand
other_in : (inside : Option Actor) (k h : ℕ) → h ≢ k → inside ≡ Some (Hart h) → is_inside inside (Hart k) ≡ false
other_in inside k h apart is = rw is (grind (arith, nat_tests))

call_stays : (m : Moment) (k : ℕ) (e : Event) → e ≢ Enter → is_inside m.flat.inside (Hart k) ≡ false → call_after m (Hart k) e ≡ m.call
call_stays m k Enter never outside = absurd (never refl)
call_stays m k e never outside = rw outside refl

enters_not : (m : Moment) (k h : ℕ) → is_inside m.flat.inside (Hart k) ≡ false → IsWorking m h → Allows m (Hart k) Enter → ⊥
enters_not m k h outside work a =
    let w = some_and (slice_get m.flat.harts k) _ (acts m k Enter outside a) in
    let none : m.flat.inside ≡ None = w.2.1.0 in
    let some = work.inside in cc

stays_by : (m : Moment) (k h : ℕ) (e : Event) → h ≢ k → e ≢ Enter → IsSound m → Allows m (Hart k) e → IsWorking m h → IsWorking (after m (Hart k) e) h
stays_by m k h e apart never sound a work =
    let outside = other_in m.flat.inside k h apart work.inside in
    let kept = outside_keeps m.deltas m.flat k e never sound.state outside (acts m k e outside a) in
    record { inside = kept.inside ∙ work.inside; work = subst HasWork (sym (call_stays m k e never outside)) work.work }

working_other : (m : Moment) (k h : ℕ) (e : Event) → h ≢ k → IsSound m → Allows m (Hart k) e → IsWorking m h → IsWorking (after m (Hart k) e) h
working_other m k h Enter apart sound a work = absurd (enters_not m k h (other_in m.flat.inside k h apart work.inside) work a)
working_other m k h e apart sound a work = stays_by m k h e apart (λ same. cc) sound a work

other_kept : (m : Moment) (k h : ℕ) (e : Event) (hart : HartState) → h ≢ k → IsSound m → Allows m (Hart k) e → IsOn m h hart → IsOn (after m (Hart k) e) h hart
other_kept m k h e hart apart sound a on = record {
  placed = on.placed;
  text = elim on.text [
    | inl work ↦ inl (working_other m k h e apart sound a work)
    | inr is ↦ inr (fetched_by m (Hart k) e hart.generation hart.arch.pc a hart.fetched is)
  ];
}

-- what a hart's call that is in hand still makes
abbrev is_left : Event → Bool
is_left (Gone page worn) = true
is_left (Ending page) = true
is_left (End pc) = true
is_left event = false

leaving_left : (s : FlatState) (n : ℕ) (e : Event) (o : Option PageState) → IsLeaving s n o e → is_left e ≡ true
leaving_left s n e None p = absurd p
leaving_left s n e (Some page) p = by_free (is_free page) p
  where
    by_gone : IsGone s n e → is_left e ≡ true
    by_gone (inl is) = ap is_left is
    by_gone (inr is) = ap is_left is.0

    by_free : (b : Bool) → MatchBool b (IsGone s n e) (e ≡ Ending n) → is_left e ≡ true
    by_free true p = by_gone p
    by_free false p = ap is_left p

next_left : (s : FlatState) (pages : List ℕ) (next : ℕ) (e : Event) → IsNext s (map Leaves pages ++ Exactly (End next) ∷ []) e → is_left e ≡ true
next_left s [] next e p = ap is_left p
next_left s (n ∷ ns) next e p = leaving_left s n e (data_in s.pages n) p

record InHand (s : FlatState) (h : ℕ) (call : Option Call) : Type 0 where
  hart : HartState
  there : slice_get s.harts h ≡ Some hart
  calls : want_in hart ≡ Some want.Call
  todo : List Todo
  is : call ≡ Some (Doing todo)
  work : IsHartWork s todo

in_hand_by : (deltas : List DeltaValue) (s : FlatState) (h : ℕ) (call : Option Call) → IsInHand deltas s (Some (Hart h)) call → HasWork call → InHand s h call
in_hand_by deltas s h None p w = absurd w
in_hand_by deltas s h (Some (Settling owed last)) p w = absurd w
in_hand_by deltas s h (Some (Doing todo)) p w =
    let x = some_and (slice_get s.harts h) _ p in
    record { hart = x.0; there = x.1; calls = x.2.1.0; todo = todo; is = refl; work = x.2.1.1 }

in_hand : (m : Moment) (h : ℕ) → IsSound m → IsWorking m h → InHand m.flat h m.call
in_hand m h sound work = in_hand_by m.deltas m.flat h m.call (subst (λ (o : Option Actor). IsInHand m.deltas m.flat o m.call) work.inside sound.call) work.work

inside_own : (m : Moment) (h : ℕ) → m.flat.inside ≡ Some (Hart h) → is_inside m.flat.inside (Hart h) ≡ true
inside_own m h is = rw is (grind (arith, nat_tests))

goes_on : (m : Moment) (h : ℕ) (e : Event) → is_inside m.flat.inside (Hart h) ≡ true → Allows m (Hart h) e → GoesOn m.deltas m.flat (Hart h) m.call e
goes_on m h e inside a = subst (λ (b : Bool). MatchBool b (GoesOn m.deltas m.flat (Hart h) m.call e) (MayAct m.flat (Hart h) e)) inside a

pub works_left : (m : Moment) (h : ℕ) (e : Event) → IsSound m → IsWorking m h → Allows m (Hart h) e → is_left e ≡ true
works_left m h e sound work a =
    let w = in_hand m h sound work in
    let next : IsNext m.flat w.todo e = subst (λ (call : Option Call). GoesOn m.deltas m.flat (Hart h) call e) w.is (goes_on m h e (inside_own m h work.inside) a) in
    next_left m.flat w.work.pages w.work.next e (subst (λ (todo : List Todo). IsNext m.flat todo e) w.work.is next)

-- and what is in hand behind it
behind_by : (b : Bool) (call behind : Option Call) → b ≡ true → HasWork behind → HasWork (if b then behind else call)
behind_by true call behind is p = p
behind_by false call behind is p = absurd (cc)

behind_doing : (deltas : List DeltaValue) (s : FlatState) (h : ℕ) (call : Option Call) (e : Event) → HasWork call → HasWork (call_behind deltas s (Hart h) call e)
behind_doing deltas s h None e p = absurd p
behind_doing deltas s h (Some (Settling owed last)) e p = absurd p
behind_doing deltas s h (Some (Doing todo)) e p = tt

behind_move : (deltas : List DeltaValue) (s : FlatState) (h generation : ℕ) (call : Option Call) → GoesOn deltas s (Hart h) call (Move generation) → HasWork (call_behind deltas s (Hart h) call (Move generation))
behind_move deltas s h generation None p = absurd p
behind_move deltas s h generation (Some (Settling owed last)) p = tt
behind_move deltas s h generation (Some (Doing todo)) p = tt

-- where an instruction or a call ends, no trap is wanted
choice_next : (s : FlatState) (b : Bool) (one other : List Todo) (e : Event) → (IsNext s one e → ⊥) → (IsNext s other e → ⊥) → IsNext s (if b then one else other) e → ⊥
choice_next s true one other e p q next = p next
choice_next s false one other e p q next = q next

page_ends_not : (s : FlatState) (hart : HartState) (access : Access) (o : Option PageState) (pc : ℕ) → IsNext s (todo_of_page s hart access o) (End pc) → ⊥
page_ends_not s hart access None pc p = cc
page_ends_not s hart access (Some page) pc p =
    choice_next s (not (is_here page.stage && has_right access page)) _ _ (End pc) (λ q. cc)
    (λ q. choice_next s (has_met s.met hart.generation page.number) _ _ (End pc) (λ q. cc) (λ q. cc) q) p

end_asked : (deltas : List DeltaValue) (s : FlatState) (h : ℕ) (hart : HartState) (pc : ℕ) (o : Option Ask) → ask_of s h hart ≡ o → IsNext s (unwrap_or (option_map (λ ask. todo_of deltas s hart ask) o) []) (End pc) → want_in hart ≡ Some want.Call
end_asked deltas s h hart pc None e p = absurd p
end_asked deltas s h hart pc (Some Called) e p = asks_calls s h hart e
end_asked deltas s h hart pc (Some (Stopped cause value)) e p = absurd (cc)
end_asked deltas s h hart pc (Some (Faulted access)) e p =
    absurd (choice_next s (is_some (accessed_text s hart access)) _ _ (End pc) (λ q. cc) (λ q. page_ends_not s hart access (accessed_data s access) pc q) p)

gone_not : (s : FlatState) (page pc : ℕ) → IsGone s page (End pc) → ⊥
gone_not s page pc (inl is) = cc
gone_not s page pc (inr is) = let same = is.0 in cc

call_ends : (deltas : List DeltaValue) (s : FlatState) (h pc : ℕ) (call : Option Call) → IsInHand deltas s (Some (Hart h)) call → GoesOn deltas s (Hart h) call (End pc) → OfHart s h (λ hart. want_in hart ≡ Some want.Call)
call_ends deltas s h pc None hand p = absurd p
call_ends deltas s h pc (Some (Doing todo)) hand p = let x = some_and (slice_get s.harts h) _ hand in and_some (slice_get s.harts h) (λ hart. want_in hart ≡ Some want.Call) x.0 x.1 x.2.1.0
call_ends deltas s h pc (Some (Settling owed last)) hand (inl settles) = absurd (gone_not s settles.page pc settles.is)
call_ends deltas s h pc (Some (Settling owed last)) hand (inr asked) =
    let x = some_and (slice_get s.harts h) _ asked.1 in and_some (slice_get s.harts h) (λ hart. want_in hart ≡ Some want.Call) x.0 x.1 (end_asked deltas s h x.0 pc (ask_of s h x.0) refl x.2)

done_traps_not : (hart : HartState) → is_done hart (want_in hart) ≡ true → WantsNoTrap hart
done_traps_not hart done cause value e = let k : is_done hart (want_in hart) ≡ false = ap (is_done hart) e in cc

ends_by : (b : Bool) (m : Moment) (h pc : ℕ) (hart : HartState) → slice_get m.flat.harts h ≡ Some hart → is_inside m.flat.inside (Hart h) ≡ b → IsSound m → Allows m (Hart h) (End pc) → WantsNoTrap hart
ends_by true m h pc hart is inside sound a =
    let hand : IsInHand m.deltas m.flat (Some (Hart h)) m.call = subst (λ (o : Option Actor). IsInHand m.deltas m.flat o m.call) (who_inside m.flat.inside (Hart h) inside) sound.call in
    let x = some_and (slice_get m.flat.harts h) _ (call_ends m.deltas m.flat h pc m.call hand (goes_on m h (End pc) inside a)) in
    let same : x.0 ≡ hart = let one = x.1 in cc in
    call_no_trap hart (subst (λ (hart : HartState). want_in hart ≡ Some want.Call) same x.2)
ends_by false m h pc hart is inside sound a =
    let x = some_and (slice_get m.flat.harts h) _ (acts m h (End pc) inside a) in
    let same : x.0 ≡ hart = let one = x.1 in cc in
    subst WantsNoTrap same (done_traps_not x.0 x.2.1.0)

-- a hart's own entry
fetched_own : (m : Moment) (h pc word : ℕ) (hart : HartState) → slice_get m.flat.harts h ≡ Some hart → IsLateCall m.call → Allows m (Hart h) (Fetch pc word) → word_at (generation_text m.flat hart.generation) hart.arch.pc ≡ Some word
fetched_own m h pc word hart is late a =
    let x = some_and (slice_get m.flat.harts h) _ (acts_outside m h (Fetch pc word) refl late a) in
    let same : x.0 ≡ hart = let one = x.1 in cc in
    let own : word_at (generation_text m.flat x.0.generation) x.0.arch.pc ≡ Some word = subst (λ (at : ℕ). word_at (generation_text m.flat x.0.generation) at ≡ Some word) x.2.1.1 x.2.1.2 in
    subst (λ (hart : HartState). word_at (generation_text m.flat hart.generation) hart.arch.pc ≡ Some word) same own

kept_text : (m : Moment) (h : ℕ) (e : Event) (hart : HartState) → is_left e ≡ false → IsSound m → Allows m (Hart h) e → IsOn m h hart → IsWorking (after m (Hart h) e) h ⊎ IsFetched (after m (Hart h) e) hart
kept_text m h e hart early sound a on = elim on.text [
  | inl work ↦ absurd (let left = works_left m h e sound work a in cc)
  | inr is ↦ inr (fetched_by m (Hart h) e hart.generation hart.arch.pc a hart.fetched is)
]

left_text : (m : Moment) (h : ℕ) (e : Event) (hart : HartState) → (IsWorking m h → IsWorking (after m (Hart h) e) h) → Allows m (Hart h) e → IsOn m h hart → IsWorking (after m (Hart h) e) h ⊎ IsFetched (after m (Hart h) e) hart
left_text m h e hart stays a on = elim on.text [
  | inl work ↦ inl (stays work)
  | inr is ↦ inr (fetched_by m (Hart h) e hart.generation hart.arch.pc a hart.fetched is)
]

own_kept : (m : Moment) (h : ℕ) (e : Event) (hart : HartState) → slice_get m.flat.harts h ≡ Some hart → IsSound m → IsLateCall m.call → Allows m (Hart h) e → IsOn m h (bare hart) → IsOn (after m (Hart h) e) h (bare (own_change m.flat e hart))
own_kept m h (Fetch pc word) hart is sound late a on = record { placed = on.placed; text = inr (word_stays m (Hart h) (Fetch pc word) hart.generation hart.arch.pc word a (fetched_own m h pc word hart is late a)) }
own_kept m h (End pc) hart is sound late a on = record { placed = ends_placed hart on.placed (ends_by (is_inside m.flat.inside (Hart h)) m h pc hart is refl sound a); text = inr tt }
own_kept m h (Again page) hart is sound late a on = record { placed = on.placed; text = inr tt }
own_kept m h (Wait other) hart is sound late a on = record { placed = on.placed; text = inr tt }
own_kept m h (Trap cause value) hart is sound late a on = record { placed = on.placed; text = inr tt }
own_kept m h (Exit code) hart is sound late a on = record { placed = on.placed; text = inr tt }
own_kept m h (Move generation) hart is sound late a on =
    let inside : is_inside m.flat.inside (Hart h) ≡ true = (inner_comes m (Hart h) (Move generation) refl late a).0 in
    record {
      placed = on.placed;
      text = inl (record {
        inside = who_inside m.flat.inside (Hart h) inside;
        work = behind_by (is_inside m.flat.inside (Hart h)) m.call _ inside (behind_move m.deltas m.flat h generation m.call (goes_on m h (Move generation) inside a));
      });
    }
own_kept m h (Gone page worn) hart is sound late a on = record {
  placed = on.placed;
  text = left_text m h (Gone page worn) (bare hart)
      (λ work. record { inside = work.inside; work = behind_by (is_inside m.flat.inside (Hart h)) m.call _ (inside_own m h work.inside) (behind_doing m.deltas m.flat h m.call (Gone page worn) work.work) }) a on;
}
own_kept m h (Ending page) hart is sound late a on = record {
  placed = on.placed;
  text = left_text m h (Ending page) (bare hart)
      (λ work. record { inside = work.inside; work = behind_by (is_inside m.flat.inside (Hart h)) m.call _ (inside_own m h work.inside) (behind_doing m.deltas m.flat h m.call (Ending page) work.work) }) a on;
}
own_kept m h Enter hart is sound late a on = record { placed = on.placed; text = kept_text m h Enter (bare hart) refl sound a on }
own_kept m h e hart is sound late a on = record { placed = on.placed; text = kept_text m h e (bare hart) refl sound a on }

-- an entry of the kernel's own actor
kernel_outside : (m : Moment) (h : ℕ) (e : Event) → is_inside m.flat.inside Kernel ≡ false → MayAct m.flat Kernel e → IsWorking m h → IsWorking (after m Kernel e) h
kernel_outside m h Enter outside may work = absurd (let some = work.inside in cc)
kernel_outside m h (Wait on) outside may work = record { inside = work.inside; work = subst HasWork (let same : call_after m Kernel (Wait on) ≡ m.call = rw outside refl in sym same) work.work }
kernel_outside m h Idle outside may work = record { inside = work.inside; work = work.work }
kernel_outside m h e outside may work = absurd may

kernel_working : (m : Moment) (h : ℕ) (e : Event) → IsLateCall m.call → Allows m Kernel e → IsWorking m h → IsWorking (after m Kernel e) h
kernel_working m h e late a work = elim (kernel_side m e late a) [
  | inl idle ↦ subst (λ (e : Event). IsWorking (after m Kernel e) h) (sym idle) (record { inside = work.inside; work = work.work })
  | inr side ↦ elim side [
    | inl inside ↦ absurd (let none : is_inside m.flat.inside Kernel ≡ false = rw work.inside refl in let some = inside.0 in cc)
    | inr outside ↦ kernel_outside m h e outside.0 outside.1 work
  ]
]

kernel_kept : (m : Moment) (h : ℕ) (e : Event) (hart : HartState) → IsLateCall m.call → Allows m Kernel e → IsOn m h hart → IsOn (after m Kernel e) h hart
kernel_kept m h e hart late a on = record {
  placed = on.placed;
  text = elim on.text [
    | inl work ↦ inl (kernel_working m h e late a work)
    | inr is ↦ inr (fetched_by m Kernel e hart.generation hart.arch.pc a hart.fetched is)
  ];
}

-- what each entry keeps
pub record Holds (m : Moment) (h : ℕ) : Type 0 where
  pub sound : IsSound m
  pub late : IsLateCall m.call
  pub on : IfSome (bare_at m.flat.harts h) (IsOn m h)

own_on : (m : Moment) (h : ℕ) (e : Event) → Holds m h → Allows m (Hart h) e → (o : Option HartState) → slice_get m.flat.harts h ≡ o → IfSome (bare_at (after m (Hart h) e).flat.harts h) (IsOn (after m (Hart h) e) h)
own_on m h e holds a None is = subst (λ (o : Option HartState). IfSome o (IsOn (after m (Hart h) e) h)) (sym (own_after m.deltas m.flat h e ∙ ap (option_map (λ (x : HartState). bare (own_change m.flat e x))) is)) tt
own_on m h e holds a (Some hart) is =
    let on : IsOn m h (bare hart) = subst (λ (o : Option HartState). IfSome o (IsOn m h)) (ap (option_map bare) is) holds.on in
    subst (λ (o : Option HartState). IfSome o (IsOn (after m (Hart h) e) h)) (sym (bare_own m.deltas m.flat h e hart is)) (own_kept m h e hart is holds.sound holds.late a on)

on_after : (m : Moment) (h : ℕ) (actor : Actor) (e : Event) → Holds m h → Allows m actor e → IfSome (bare_at (after m actor e).flat.harts h) (IsOn (after m actor e) h)
on_after m h (Hart k) e holds a = elim (cases_eq h k) [
  | inl same ↦ subst (λ (k : ℕ). Allows m (Hart k) e → IfSome (bare_at (after m (Hart k) e).flat.harts h) (IsOn (after m (Hart k) e) h)) same (λ a. own_on m h e holds a (slice_get m.flat.harts h) refl) a
  | inr apart ↦ subst (λ (o : Option HartState). IfSome o (IsOn (after m (Hart k) e) h)) (sym (other_after m.deltas m.flat k h e apart))
      (if_some (bare_at m.flat.harts h) (IsOn m h) (IsOn (after m (Hart k) e) h) (λ x on. other_kept m k h e x apart holds.sound a on) holds.on)
]
on_after m h Kernel e holds a =
    subst (λ (o : Option HartState). IfSome o (IsOn (after m Kernel e) h)) (sym (kernel_after m.deltas m.flat e h))
    (if_some (bare_at m.flat.harts h) (IsOn m h) (IsOn (after m Kernel e) h) (λ x on. kernel_kept m h e x holds.late a on) holds.on)

pub keeps : (h : ℕ) → Keeps (λ (m : Moment). Holds m h)
keeps h m actor e holds a = record { sound = entry_keeps m actor e holds.sound a; late = call_kept m actor e holds.late; on = on_after m h actor e holds a }
