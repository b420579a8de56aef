-- Units that are made: how a unit begins, goes on, and ends.
use Rattle.std.proofs.Common.{◌≡◌, ◌≢◌, ◌⊎◌, ◌++◌, ℕ, zero, suc, List, [], ◌∷◌, Option, Some, None, Bool, true, false, length, refl, sym, subst, ap, ◌∙◌, inl, inr, append_assoc, append-nil, arith}
use Rattle.std.specs.Prelude.{IsSomeAnd, MatchBool, slice_get, if◌then◌else◌, ◌==◌}
use Rattle.std.specs.List.{AllByRecursion}
use Rattle.std.proofs.lemmas.Bool.Decides.{nat_tests}
use Rattle.rv_inst.specs.Arch.{ArchState}
use Rattle.wf_flat.specs.declared.event.Actor.{Actor}
use Rattle.wf_flat.specs.declared.event.Actor.TheVariants.{Hart}
use Rattle.wf_flat.specs.declared.event.Event.{Event}
use Rattle.wf_flat.specs.declared.event.Event.TheVariants.{Fetch, End, Enter, Idle}
use Rattle.wf_flat.specs.declared.event.Entry.{Entry}
use Rattle.wf_flat.specs.State.{FlatState, HartState, PageState}
use Rattle.wf_flat.specs.Lists.{changed_at, changed_by}
use Rattle.wf_flat.specs.declared.state.Life.TheVariants.{Running}
use Rattle.wf_flat.specs.declared.state.Stage.TheVariants.{Here}
use Rattle.wf_outside.specs.Images.{DeltaValue}
use Rattle.wf_outside.specs.Pages.{page_of}
use Rattle.wf_flat.specs.Ordered.{IsOrdered}
use Rattle.wf_flat.specs.Serving.{AllBut, held_by}
use Rattle.wf_flat.specs.Accesses.{Access, holds}
use Rattle.wf_flat.specs.Steps.{OfHart, MayAct, access_in, arch_after, is_inside}
use Rattle.wf_legal.specs.Events.{flat_after}
use Rattle.wf_flat.specs.Changes.{change_page, leave_hart, note_page, without, fetched_with, ended, given_back, give_back, give_back_by, give_back_of}
use Rattle.wf_legal.specs.Calls.{GoesOn}
use Rattle.wf_legal.specs.Legal.{Moment, Allows, IsLegal, after, end_of, at_rest}
use Rattle.wf_flat.specs.Follows.{IsUnit, ends_unit}
use Rattle.wf_service.specs.Adding.{IsOpen}
use Rattle.wf_service.specs.Resting.{IsResting, IsSettled}
use Rattle.wf_driver.specs.Stepping.{IsActing, IsAt, IsDone, HasOpenUnit, Continues}
use Rattle.wf_legal.proofs.JournalLemmas.{legal-append, end_of-append, self_inside}
use Rattle.wf_flat.proofs.ListLemmas.{some_and, and_some, changed_next, length_changed}
use Rattle.wf_flat.proofs.ChangeLemmas.{note_alone, same_ordered}

abbrev pub entry : ℕ → Event → Entry
entry h event = record { actor = Hart h; event = event }

-- two things that hold of it, and what follows from one
pub both : {A : Type 0} (o : Option A) (P Q : A → Type 0) → IsSomeAnd o P → IsSomeAnd o Q → IsSomeAnd o (λ x. P x × Q x)
both None P Q p q = p
both (Some x) P Q p q = (p, q)

pub each : {A : Type 0} (o : Option A) (P Q : A → Type 0) → ((x : A) → o ≡ Some x → P x → Q x) → IsSomeAnd o P → IsSomeAnd o Q
each None P Q f h = absurd h
each (Some x) P Q f h = f x refl h

-- part of what holds of what is there
pub and_first : {A : Type 0} (o : Option A) (P Q : A → Type 0) → IsSomeAnd o (λ x. P x × Q x) → IsSomeAnd o P
and_first None P Q h = h
and_first (Some x) P Q h = h.0

-- a hart that may act outside is allowed to
pub allowed_outside : (m : Moment) (h : ℕ) (e : Event) → m.flat.inside ≡ None → MayAct m.flat (Hart h) e → Allows m (Hart h) e
allowed_outside m h e rest p =
    subst (λ (b : Bool). MatchBool b (GoesOn m.deltas m.flat (Hart h) m.call e) (MayAct m.flat (Hart h) e)) (sym (ap (λ (i : Option Actor). is_inside i (Hart h)) rest)) p

pub left : (h : ℕ) → without (Some (Hart h)) (Hart h) ≡ None
left h = rw (self_inside h) refl

-- what holds of all holds of all but one
all_but : {A : Type 0} (P : A → Type 0) (at : ℕ) (xs : List A) → AllByRecursion P xs → AllBut P at xs
all_but P at [] all = tt
all_but P zero (x ∷ xs) all = all.1
all_but P (suc at) (x ∷ xs) all = (all.0, all_but P at xs all.1)

-- a change of that one
pub but_changed : {A : Type 0} (P : A → Type 0) (f : A → A) (at : ℕ) (xs : List A) → AllBut P at xs → AllBut P at (changed_at xs at f)
but_changed P f at [] all = tt
but_changed P f zero (x ∷ xs) all = all
but_changed P f (suc at) (x ∷ xs) all = rw (changed_next x xs at f) (all.0, but_changed P f at xs all.1)

-- a change of it after which it holds of that one too
all_changed : {A : Type 0} (P : A → Type 0) (g : A → A) (at : ℕ) (xs : List A) → AllBut P at xs → ((x : A) → P (g x)) → AllByRecursion P (changed_at xs at g)
all_changed P g at [] all h = tt
all_changed P g zero (x ∷ xs) all h = (h x, all)
all_changed P g (suc at) (x ∷ xs) all h = rw (changed_next x xs at g) (all.0, all_changed P g at xs all.1 h)

-- a page that no hart but this one, if any, holds
abbrev pub IsOwned : Option ℕ → PageState → Type 0
IsOwned held page = (page.stage ≡ Here) × ((page.holder ≡ None) ⊎ (held ≡ Some page.number))

owned_free : (pages : List PageState) → AllByRecursion (IsOwned None) pages → AllByRecursion IsSettled pages
owned_free [] all = tt
owned_free (page ∷ pages) all = ((all.0.0, elim all.0.1 [ inl e ↦ e | inr e ↦ absurd (cc) ]), owned_free pages all.1)

pub free_owned : (pages : List PageState) → AllByRecursion IsSettled pages → AllByRecursion (IsOwned None) pages
free_owned [] all = tt
free_owned (page ∷ pages) all = ((all.0.0, inl all.0.1), free_owned pages all.1)

pub acts_free : (s : FlatState) (h : ℕ) → IsActing s h None → AllByRecursion IsSettled s.pages
acts_free s h t = owned_free s.pages t.pages

-- from rest, through a try, to rest
pub rest_acts : (s : FlatState) (h : ℕ) → IsResting s → IsActing s h None
rest_acts s h r = record { no_one = r.no_one; others = all_but (λ (hart : HartState). hart.fetched ≡ None) h s.harts r.no_try; ordered = r.ordered; pages = free_owned s.pages r.free }

pub acts_on : (s new : FlatState) (h : ℕ) (held : Option ℕ) (f : HartState → HartState) → IsActing s h held → new.inside ≡ None → new.harts ≡ changed_at s.harts h f → new.pages ≡ s.pages → new.met ≡ s.met → IsActing new h held
acts_on s new h held f t inside e p m =
    record {
      no_one = inside;
      others = rw e (but_changed (λ (hart : HartState). hart.fetched ≡ None) f h s.harts t.others);
      ordered = same_ordered s new p m t.ordered;
      pages = rw p t.pages;
    }

pub rests : (s new : FlatState) (h : ℕ) (g : HartState → HartState) → IsActing s h None → new.inside ≡ None → new.harts ≡ changed_at s.harts h g → new.pages ≡ s.pages → new.met ≡ s.met → ((hart : HartState) → (g hart).fetched ≡ None) → IsResting new
rests s new h g t inside e p m none =
    record {
      no_one = inside;
      no_try = rw e (all_changed (λ (hart : HartState). hart.fetched ≡ None) g h s.harts t.others none);
      ordered = same_ordered s new p m t.ordered;
      free = rw p (acts_free s h t);
    }

-- a hart of a machine at rest is in no try
pub no_try_of : (harts : List HartState) (h : ℕ) (hart : HartState) → AllByRecursion (λ hart. hart.fetched ≡ None) harts → slice_get harts h ≡ Some hart → hart.fetched ≡ None
no_try_of [] h hart all is = absurd (cc)
no_try_of (x ∷ xs) zero hart all is = let e : x ≡ hart = cc in subst (λ (y : HartState). y.fetched ≡ None) e all.0
no_try_of (x ∷ xs) (suc h) hart all is = no_try_of xs h hart all.1 is

-- a unit that has not begun
pub begins : (deltas : List DeltaValue) (s : FlatState) (before : List Entry) (h : ℕ) → HasOpenUnit (at_rest deltas s) before s before h
begins deltas s before h = record { made = []; appended = sym (append-nil before); legal = tt; reached = refl; fits = tt }

unit_join : (h : ℕ) (es fs : List Entry) → IsOpen h es → IsUnit h fs → IsUnit h (es ++ fs)
unit_join h [] fs o u = u
unit_join h (e ∷ es) fs o u = (o.0.0, subst (λ (b : Bool). MatchBool b (es ++ fs ≡ []) (IsUnit h (es ++ fs))) (sym o.0.1) (unit_join h es fs o.1 u))

open_join : (h : ℕ) (es fs : List Entry) → IsOpen h es → IsOpen h fs → IsOpen h (es ++ fs)
open_join h [] fs o u = u
open_join h (e ∷ es) fs o u = (o.0, open_join h es fs o.1 u)

-- it goes on, and it ends
pub goes_on : (start : Moment) (mid new : FlatState) (before now later : List Entry) (h : ℕ) (made : List Entry)
    → HasOpenUnit start before mid now h → IsLegal (at_rest start.deltas mid) made → at_rest start.deltas new ≡ end_of (at_rest start.deltas mid) made → IsOpen h made → later ≡ now ++ made → HasOpenUnit start before new later h
goes_on start mid new before now later h made b l r o e =
    record {
      made = b.made ++ made;
      appended = e ∙ ap (λ (xs : List Entry). xs ++ made) b.appended ∙ append_assoc before b.made made;
      legal = legal-append start b.made made b.legal (rw (← b.reached) l);
      reached = r ∙ ap (λ (m : Moment). end_of m made) b.reached ∙ sym (end_of-append start b.made made);
      fits = open_join h b.made made b.fits o;
    }

pub ends : (start : Moment) (mid new : FlatState) (before now later : List Entry) (h : ℕ) (made : List Entry)
    → HasOpenUnit start before mid now h → IsLegal (at_rest start.deltas mid) made → at_rest start.deltas new ≡ end_of (at_rest start.deltas mid) made → IsUnit h made → later ≡ now ++ made → Continues start before new later (IsUnit h)
ends start mid new before now later h made b l r u e =
    record {
      made = b.made ++ made;
      appended = e ∙ ap (λ (xs : List Entry). xs ++ made) b.appended ∙ append_assoc before b.made made;
      legal = legal-append start b.made made b.legal (rw (← b.reached) l);
      reached = r ∙ ap (λ (m : Moment). end_of m made) b.reached ∙ sym (end_of-append start b.made made);
      fits = unit_join h b.made made b.fits u;
    }

-- the moment after an entry outside, which leaves nobody inside
after_fetch : (deltas : List DeltaValue) (s : FlatState) (h pc word : ℕ) → s.inside ≡ None → after (at_rest deltas s) (Hart h) (Fetch pc word) ≡ at_rest deltas (flat_after deltas s (Hart h) (Fetch pc word))
after_fetch deltas s h pc word rest = rw rest refl

after_end : (deltas : List DeltaValue) (s : FlatState) (h pc : ℕ) → s.inside ≡ None → after (at_rest deltas s) (Hart h) (End pc) ≡ at_rest deltas (flat_after deltas s (Hart h) (End pc))
after_end deltas s h pc rest = rw rest refl

-- a fetch
pub fetch_made : (start : Moment) (mid new : FlatState) (before now later : List Entry) (h pc word : ℕ) → HasOpenUnit start before mid now h → mid.inside ≡ None → OfHart mid h (λ hart. IsAt mid hart pc word)
    → new ≡ flat_after [] mid (Hart h) (Fetch pc word) → later ≡ now ++ entry h (Fetch pc word) ∷ [] → HasOpenUnit start before new later h
fetch_made start mid new before now later h pc word b t ready n e =
    let w = some_and (slice_get mid.harts h) _ ready in
    let may : MayAct mid (Hart h) (Fetch pc word) = and_some (slice_get mid.harts h) _ w.0 w.1 (w.2.0, (w.2.1, w.2.2, w.2.3)) in
    goes_on start mid new before now later h (entry h (Fetch pc word) ∷ []) b (allowed_outside (at_rest start.deltas mid) h (Fetch pc word) t may, tt)
    (ap (at_rest start.deltas) n ∙ sym (after_fetch start.deltas mid h pc word t)) ((refl, refl), tt) e

-- an event outside that ends no unit
pub open_made : (start : Moment) (mid new : FlatState) (before now later : List Entry) (h : ℕ) (e : Event) → HasOpenUnit start before mid now h → mid.inside ≡ None → MayAct mid (Hart h) e → ends_unit e ≡ false
    → after (at_rest start.deltas mid) (Hart h) e ≡ at_rest start.deltas (flat_after start.deltas mid (Hart h) e) → new ≡ flat_after start.deltas mid (Hart h) e → later ≡ now ++ entry h e ∷ [] → HasOpenUnit start before new later h
open_made start mid new before now later h e b inside may unended step n appended =
    goes_on start mid new before now later h (entry h e ∷ []) b (allowed_outside (at_rest start.deltas mid) h e inside may, tt) (ap (at_rest start.deltas) n ∙ sym step) ((refl, unended), tt) appended

-- an end outside
pub end_made : (start : Moment) (mid new : FlatState) (before now later : List Entry) (h : ℕ) (held : Option ℕ) (next : ArchState) → HasOpenUnit start before mid now h → mid.inside ≡ None → IsDone mid h held next
    → new ≡ flat_after [] mid (Hart h) (End next.pc) → later ≡ now ++ entry h (End next.pc) ∷ [] → Continues start before new later (IsUnit h)
end_made start mid new before now later h held next b t ready n e =
    let w = some_and (slice_get mid.harts h) _ ready in
    let may : MayAct mid (Hart h) (End next.pc) = and_some (slice_get mid.harts h) _ w.0 w.1 (w.2.0, (w.2.1, ap (λ (a : ArchState). a.pc) w.2.3)) in
    ends start mid new before now later h (entry h (End next.pc) ∷ []) b (allowed_outside (at_rest start.deltas mid) h (End next.pc) t may, tt)
    (ap (at_rest start.deltas) n ∙ sym (after_end start.deltas mid h next.pc t)) (refl, refl) e

-- a hart that has stopped idles
pub idle_made : (deltas : List DeltaValue) (s : FlatState) (before now : List Entry) (h : ℕ) → s.inside ≡ None → OfHart s h (λ hart. hart.life ≢ Running) → now ≡ before ++ entry h Idle ∷ [] → Continues (at_rest deltas s) before s now (IsUnit h)
idle_made deltas s before now h rest may e =
    ends (at_rest deltas s) s s before before now h (entry h Idle ∷ []) (begins deltas s before h) (allowed_outside (at_rest deltas s) h Idle rest may, tt) (rw rest refl) (refl, refl) e

pub done_held : (s : FlatState) (h : ℕ) (held : Option ℕ) (next : ArchState) → IsDone s h held next → OfHart s h (λ hart. held ≡ held_by s h (access_in hart))
done_held s h held next ready = let w = some_and (slice_get s.harts h) _ ready in and_some (slice_get s.harts h) _ w.0 w.1 w.2.2

pub done_next : (s : FlatState) (h : ℕ) (held : Option ℕ) (next : ArchState) → IsDone s h held next → OfHart s h (λ hart. next ≡ arch_after hart)
done_next s h held next ready = let w = some_and (slice_get s.harts h) _ ready in and_some (slice_get s.harts h) _ w.0 w.1 w.2.3

-- in a try behind a fetch, and at rest behind what ends it
pub fetch_acts : (s new : FlatState) (h pc word : ℕ) → IsActing s h None → new ≡ flat_after [] s (Hart h) (Fetch pc word) → IsActing new h None
fetch_acts s new h pc word t n =
    acts_on s new h None (fetched_with word) t (ap (λ (f : FlatState). f.inside) n ∙ t.no_one) (ap (λ (f : FlatState). f.harts) n) (ap (λ (f : FlatState). f.pages) n) (ap (λ (f : FlatState). f.met) n)

-- the page that it holds
given_free : (held : ℕ) (last : ℕ) (put : Bool) (pages : List PageState) → AllByRecursion (IsOwned (Some held)) pages → AllByRecursion IsSettled (changed_by (λ page. page.number) pages held (given_back last put))
given_free held last put [] all = tt
given_free held last put (page ∷ pages) all = (by_test (page.number == held) refl, given_free held last put pages all.1)
  where
    apart : (a b : ℕ) → (a == b) ≡ false → a ≡ b → ⊥
    apart a b t e = grind (arith, nat_tests)

    by_test : (b : Bool) → (page.number == held) ≡ b → IsSettled (if b then given_back last put page else page)
    by_test true t = (all.0.0, refl)
    by_test false t = (
      all.0.0,
      elim all.0.1 [
        | inl e ↦ e
        | inr e ↦ absurd (let same : held ≡ page.number = cc in apart page.number held t (sym same))
      ],
    )

record GivesBack (s : FlatState) (h : ℕ) (given : FlatState) : Type 0 where
  inside : given.inside ≡ s.inside
  harts : given.harts ≡ s.harts
  free : AllByRecursion IsSettled given.pages

gives_of : (s : FlatState) (h : ℕ) (held : Option ℕ) (hart : HartState) (a : Option Access) → IsActing s h held → held ≡ held_by s h a → GivesBack s h (give_back_of s h hart a)
gives_of s h held hart None t e = record { inside = refl; harts = refl; free = owned_free s.pages (subst (λ (o : Option ℕ). AllByRecursion (IsOwned o) s.pages) e t.pages) }
gives_of s h held hart (Some access) t e = by_test (holds s h access) e
  where
    by_test : (b : Bool) → held ≡ (if b then Some (page_of access.va) else None)
        → GivesBack s h (if b then note_page (change_page s (page_of access.va) (given_back s.limits.last_writes hart.put)) h (page_of access.va) else s)
    by_test true e = record {
      inside = refl;
      harts = ap (λ (f : FlatState). f.harts) (sym (note_alone (change_page s (page_of access.va) (given_back s.limits.last_writes hart.put)) h (page_of access.va) t.others));
      free = given_free (page_of access.va) s.limits.last_writes hart.put s.pages (subst (λ (o : Option ℕ). AllByRecursion (IsOwned o) s.pages) e t.pages);
    }
    by_test false e = record { inside = refl; harts = refl; free = owned_free s.pages (subst (λ (o : Option ℕ). AllByRecursion (IsOwned o) s.pages) e t.pages) }

nobody_left : (inside : Option Actor) (h : ℕ) → inside ≡ None → without inside (Hart h) ≡ None
nobody_left inside h e = rw e refl

pub end_rests : (s new : FlatState) (h pc : ℕ) (held : Option ℕ) (next : ArchState) → IsActing s h held → IsDone s h held next → new ≡ flat_after [] s (Hart h) (End pc) → IsOrdered new → IsResting new
end_rests s new h pc held next t ready n ordered =
    let w = some_and (slice_get s.harts h) _ ready in
    let g : GivesBack s h (give_back s h) = subst (λ (o : Option HartState). GivesBack s h (give_back_by s h o)) (sym w.1) (gives_of s h held w.0 (access_in w.0) t w.2.2) in
    let harts : new.harts ≡ changed_at s.harts h ended = ap (λ (f : FlatState). f.harts) n ∙ ap (λ (xs : List HartState). changed_at xs h ended) g.harts in
    record {
      no_one = ap (λ (f : FlatState). f.inside) n ∙ nobody_left (give_back s h).inside h (g.inside ∙ t.no_one);
      no_try = rw harts (all_changed (λ (hart : HartState). hart.fetched ≡ None) ended h s.harts t.others (λ hart. refl));
      ordered = ordered;
      free = subst (AllByRecursion IsSettled) (sym (ap (λ (f : FlatState). f.pages) n)) g.free;
    }

pub end_harts : (s new : FlatState) (h pc : ℕ) (held : Option ℕ) (next : ArchState) → IsActing s h held → IsDone s h held next → new ≡ flat_after [] s (Hart h) (End pc) → length new.harts ≡ length s.harts
end_harts s new h pc held next t ready n =
    let w = some_and (slice_get s.harts h) _ ready in
    let g : GivesBack s h (give_back s h) = subst (λ (o : Option HartState). GivesBack s h (give_back_by s h o)) (sym w.1) (gives_of s h held w.0 (access_in w.0) t w.2.2) in
    ap (λ (f : FlatState). length f.harts) n ∙ length_changed ended (give_back s h).harts h ∙ ap length g.harts

pub call_rests : (s new : FlatState) (h : ℕ) (g : HartState → HartState) → IsActing s h None → new ≡ leave_hart (flat_after [] s (Hart h) Enter) h g → ((hart : HartState) → (g hart).fetched ≡ None) → IsResting new
call_rests s new h g t n none =
    rests s new h g t (ap (λ (f : FlatState). f.inside) n ∙ left h) (ap (λ (f : FlatState). f.harts) n) (ap (λ (f : FlatState). f.pages) n) (ap (λ (f : FlatState). f.met) n) none
