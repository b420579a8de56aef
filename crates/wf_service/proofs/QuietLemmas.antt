-- Harts and pages around a call: nobody else is in a try, and nobody holds a page.
use Rattle.std.proofs.Common.{◌≡◌, ◌≢◌, ◌++◌, ◌+◌, ◌==◌, ◌&&◌, ℕ, zero, suc, List, [], ◌∷◌, Option, Some, None, Bool, true, false, refl, sym, subst, ap, ◌∙◌, map, inl, inr, not, if◌then◌else◌}
use Rattle.std.specs.Prelude.{IfSome, IsSomeAnd, slice_get, nat_le, nat_lt}
use Rattle.std.specs.List.{AllByRecursion, range_with_len}
use Rattle.rv_inst.specs.declared.want.Want.TheVariants as want
use Rattle.wf_outside.specs.Images.{DeltaValue}
use Rattle.wf_flat.specs.declared.event.Actor.{Actor}
use Rattle.wf_flat.specs.declared.event.Actor.TheVariants.{Hart}
use Rattle.wf_flat.specs.declared.state.Stage.{Stage}
use Rattle.wf_flat.specs.declared.state.Stage.TheVariants.{Here, Going, Ending}
use Rattle.wf_flat.specs.State.{FlatState, HartState, PageState}
use Rattle.wf_flat.specs.Accesses.{Access, is_ending, is_going}
use Rattle.wf_outside.specs.Pages.{page_of}
use Rattle.wf_flat.specs.Changes.{change_hart, give_back, leave_hart, try_ended, ended}
use Rattle.wf_flat.specs.Lists.{changed_at, others_changed}
use Rattle.wf_flat.specs.Serving.{AllBut, IsAlone}
use Rattle.wf_flat.specs.Steps.{OfHart, access_in, want_in}
use Rattle.wf_flat.proofs.ListLemmas.{all_append, changed_next, others_same, some_and}
use Rattle.wf_flat.proofs.SortLemmas.{all_sorted}
use Rattle.wf_effects.specs.Effects.{all_noted, going_in, mapped, mapped_pages, page_gone, pages_going, pages_noted}
use Rattle.wf_legal.specs.Legal.{at_rest}
use Rattle.wf_sound.specs.Sound.{HasHolder, HasNoneGoing, IsHolder, IsInHand, IsSound}
use Rattle.wf_sound.proofs.AllLemmas.{all_both, all_filter, all_get, all_map, one_or_two}
use Rattle.wf_sound.proofs.HolderLemmas.{no_access}
use Rattle.wf_service.specs.Calling.{IsQuiet}
use Rattle.wf_service.specs.Resting.{IsResting, IsSettled}

abbrev pub IsFree : HartState → Type 0
IsFree hart = hart.fetched ≡ None

-- what holds of all holds of all but one
pub all_but : {A : Type 0} (P : A → Type 0) (at : ℕ) (xs : List A) → AllByRecursion P xs → AllBut P at xs
all_but P at [] all = tt
all_but P zero (x ∷ xs) all = all.1
all_but P (suc at) (x ∷ xs) all = (all.0, all_but P at xs all.1)

-- a change of that one
pub but_changed : {A : Type 0} (P : A → Type 0) (f : A → A) (at : ℕ) (xs : List A) → AllBut P at xs → AllBut P at (changed_at xs at f)
but_changed P f at [] all = tt
but_changed P f zero (x ∷ xs) all = all
but_changed P f (suc at) (x ∷ xs) all = rw (changed_next x xs at f) (all.0, but_changed P f at xs all.1)

-- a change of it after which it holds of that one too
pub all_changed : {A : Type 0} (P : A → Type 0) (g : A → A) (at : ℕ) (xs : List A) → AllBut P at xs → ((x : A) → P (g x)) → AllByRecursion P (changed_at xs at g)
all_changed P g at [] all h = tt
all_changed P g zero (x ∷ xs) all h = (h x, all)
all_changed P g (suc at) (x ∷ xs) all h = rw (changed_next x xs at g) (all.0, all_changed P g at xs all.1 h)

-- a change of the others that keeps it
pub but_others : {A : Type 0} (P : A → Type 0) (f : A → A) → ((x : A) → P x → P (f x)) → (at : ℕ) (xs : List A) → AllBut P at xs → AllBut P at (others_changed xs at f)
but_others P f keeps at [] all = tt
but_others P f keeps zero (x ∷ xs) all = all_map P P f keeps xs all
but_others P f keeps (suc at) (x ∷ xs) all = (keeps x all.0, but_others P f keeps at xs all.1)

-- a hart that is in no try notes nothing
noted_same : (pages : List ℕ) (hart : HartState) → IsFree hart → all_noted pages hart ≡ hart
noted_same pages hart free = rw free refl

-- where no other hart is in a try, nothing is noted
pub noted_alone : (s : FlatState) (h : ℕ) (pages : List ℕ) → IsAlone s h → pages_noted s (Hart h) pages ≡ s
noted_alone s h pages alone = ap (λ (harts : List HartState). record s { harts = harts }) (others_same IsFree (all_noted pages) (noted_same pages) s.harts h alone)

-- quiet after a change of the hart, after pages are noted, and after pages come, are Going, or go
pub quiet_hart : (s : FlatState) (h : ℕ) (f : HartState → HartState) → IsQuiet s h → IsQuiet (change_hart s h f) h
quiet_hart s h f q = record { alone = but_changed IsFree f h s.harts q.alone; stays = q.stays }

pub quiet_noted : (s : FlatState) (h : ℕ) (pages : List ℕ) → IsQuiet s h → IsQuiet (pages_noted s (Hart h) pages) h
quiet_noted s h pages q = record { alone = but_others IsFree (all_noted pages) (λ hart free. free) h s.harts q.alone; stays = q.stays }

new_stays : (delta : Option DeltaValue) (write : Bool) (page birth n : ℕ) → AllByRecursion (λ page. is_ending page.stage ≡ false) (mapped_pages delta write page birth n)
new_stays delta write page birth zero = tt
new_stays delta write page birth (suc n) = (refl, new_stays delta write (page + 1) (birth + 1) n)

pub stays_mapped : (s : FlatState) (first n : ℕ) (write : Bool) (delta : Option DeltaValue) → AllByRecursion (λ page. is_ending page.stage ≡ false) s.pages → AllByRecursion (λ page. is_ending page.stage ≡ false) (mapped s first n write delta).pages
stays_mapped s first n write delta stays =
    all_sorted (λ page. is_ending page.stage ≡ false) (λ page. page.number) (s.pages ++ mapped_pages delta write first s.births n)
    (all_append (λ page. is_ending page.stage ≡ false) s.pages (mapped_pages delta write first s.births n) stays (new_stays delta write first s.births n))

pub quiet_mapped : (s : FlatState) (h first n : ℕ) (write : Bool) (delta : Option DeltaValue) → IsQuiet s h → IsQuiet (mapped s first n write delta) h
quiet_mapped s h first n write delta q = record { alone = q.alone; stays = stays_mapped s first n write delta q.stays }

going_stays : (first n : ℕ) (page : PageState) → is_ending page.stage ≡ false → is_ending (going_in first n page).stage ≡ false
going_stays first n page stays = by_test (nat_le first page.number && nat_lt page.number (first + n))
  where
    by_test : (b : Bool) → is_ending (if b then record page { stage = Going } else page).stage ≡ false
    by_test true = refl
    by_test false = stays

pub quiet_going : (s : FlatState) (h first n : ℕ) → IsQuiet s h → IsQuiet (pages_going s first n) h
quiet_going s h first n q = record {
  alone = q.alone;
  stays = all_map (λ page. is_ending page.stage ≡ false) (λ page. is_ending page.stage ≡ false) (going_in first n) (going_stays first n) s.pages q.stays;
}

pub quiet_gone : (s : FlatState) (h page : ℕ) → IsQuiet s h → IsQuiet (page_gone s page false) h
quiet_gone s h page q = record {
  alone = q.alone;
  stays = all_filter (λ (other : PageState). not (other.number == page)) (λ page. is_ending page.stage ≡ false) (λ page. is_ending page.stage ≡ false) (λ other keeps stays. stays) s.pages q.stays;
}

-- a hart in a try of a call wants no access
pub call_access : (hart : HartState) → want_in hart ≡ Some want.Call → access_in hart ≡ None
call_access hart calls = rw calls refl

-- one of all but one, at another place
but_get : {A : Type 0} (P : A → Type 0) (at i : ℕ) (x : A) (xs : List A) → AllBut P at xs → slice_get xs i ≡ Some x → i ≢ at → P x
but_get P at i x [] all is apart = absurd (cc)
but_get P zero zero x (y ∷ xs) all is apart = absurd (apart refl)
but_get P zero (suc i) x (y ∷ xs) all is apart = all_get P xs i x all is
but_get P (suc at) zero x (y ∷ xs) all is apart = let e : y ≡ x = cc in subst P e all.0
but_get P (suc at) (suc i) x (y ∷ xs) all is apart = but_get P at i x xs all.1 is (λ e. apart (ap suc e))

-- nobody holds a page, where all but a hart in a try of a call are in no try
access_none : (hart : HartState) (page : ℕ) → access_in hart ≡ None → IsSomeAnd (access_in hart) (λ access. page ≡ page_of access.va) → ⊥
access_none hart page none is = subst (λ (o : Option Access). IsSomeAnd o (λ access. page ≡ page_of access.va)) none is

holder_none : (s : FlatState) (n : ℕ) (o : Option ℕ) → ((k : ℕ) (hart : HartState) → slice_get s.harts k ≡ Some hart → access_in hart ≡ None) → IfSome o (λ h. OfHart s h (IsHolder s h n)) → o ≡ None
holder_none s n None free of = refl
holder_none s n (Some k) free of =
    let w = some_and (slice_get s.harts k) (IsHolder s k n) of in
    absurd (access_none w.0 n (free k w.0 w.1) w.2.access)

pub free_in_call : (s : FlatState) (h : ℕ) → IsAlone s h → OfHart s h (λ hart. want_in hart ≡ Some want.Call) → (k : ℕ) (hart : HartState) → slice_get s.harts k ≡ Some hart → access_in hart ≡ None
free_in_call s h alone calls k hart is = elim (one_or_two k h) [
  | inl same ↦ (
      let w = some_and (slice_get s.harts h) (λ hart. want_in hart ≡ Some want.Call) calls in
      let there : slice_get s.harts h ≡ Some hart = subst (λ (k : ℕ). slice_get s.harts k ≡ Some hart) same is in
      let e : w.0 ≡ hart = cc in
      call_access hart (subst (λ (x : HartState). want_in x ≡ Some want.Call) e w.2))
  | inr apart ↦ no_access hart (but_get IsFree h k hart s.harts alone is apart)
]

pub holder_in_call : (s : FlatState) (h : ℕ) (page : PageState) → IsAlone s h → OfHart s h (λ hart. want_in hart ≡ Some want.Call) → HasHolder s page → page.holder ≡ None
holder_in_call s h page alone calls of = holder_none s page.number page.holder (free_in_call s h alone calls) of

-- at rest: nobody is inside or in a try, and no page is Ending
here_of : (stage : Stage) → is_going stage ≡ false → is_ending stage ≡ false → stage ≡ Here
here_of Here g e = refl
here_of Going g e = absurd (cc)
here_of Ending g e = absurd (cc)

pub rest_of : (deltas : List DeltaValue) (s : FlatState) → IsSound (at_rest deltas s) → s.inside ≡ None → AllByRecursion IsFree s.harts → AllByRecursion (λ page. is_ending page.stage ≡ false) s.pages → IsResting s
rest_of deltas s sound inside free stays =
    let none : HasNoneGoing s = subst (λ (o : Option Actor). IsInHand deltas s o None) inside sound.call in
    let held = all_both (HasHolder s) (λ page. is_going page.stage ≡ false) (λ page. (page.holder ≡ None) × (is_going page.stage ≡ false))
    (λ page of calm. (holder_none s page.number page.holder (λ k hart is. no_access hart (all_get IsFree s.harts k hart free is)) of, calm)) s.pages sound.state.held none in
    record {
      no_one = inside;
      no_try = free;
      ordered = sound.state.ordered;
      free = all_both (λ page. (page.holder ≡ None) × (is_going page.stage ≡ false)) (λ page. is_ending page.stage ≡ false) IsSettled (λ page h e. (here_of page.stage h.1 e, h.0)) s.pages held stays;
    }

-- the end of a call gives nothing back
pub call_end : (s : FlatState) (h : ℕ) → OfHart s h (λ hart. want_in hart ≡ Some want.Call) → try_ended s h ≡ leave_hart s h ended
call_end s h calls =
    let w = some_and (slice_get s.harts h) (λ hart. want_in hart ≡ Some want.Call) calls in
    let none = call_access w.0 w.2 in
    ap (λ (f : FlatState). leave_hart f h ended) (gives_nothing s h w.0 w.1 none)
  where
    gives_nothing : (s : FlatState) (h : ℕ) (hart : HartState) → slice_get s.harts h ≡ Some hart → access_in hart ≡ None → give_back s h ≡ s
    gives_nothing s h hart is none = rw is (rw none refl)
