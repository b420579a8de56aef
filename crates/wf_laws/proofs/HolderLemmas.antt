-- Which entries leave a page held, and who touches a page.
use Rattle.std.proofs.Common.{◌≡◌, ◌≢◌, ◌⊎◌, inl, inr, ℕ, List, Option, Some, None, Bool, true, false, ◌&&◌, ◌+◌, ◌==◌, ◌%◌, map, refl, sym, subst, ap, ◌∙◌, arith}
use Rattle.std.specs.Prelude.{IsSomeAnd, nat_le, nat_lt, slice_get, if◌then◌else◌}
use Rattle.std.specs.Option.{option_map}
use Rattle.std.proofs.lemmas.Bool.{and_parts, or_cases}
use Rattle.std.proofs.lemmas.Bool.Decides.{nat_tests}
use Rattle.wf_outside.specs.Pages.{PageValue, page_of}
use Rattle.wf_flat.specs.declared.event.Actor.{Actor}
use Rattle.wf_flat.specs.declared.event.Actor.TheVariants.{Hart}
use Rattle.wf_flat.specs.declared.event.Event.{Event}
use Rattle.wf_flat.specs.declared.event.Event.TheVariants.{Look, Take, Put, Swap, End, Map, Going, Ending, Gone}
use Rattle.wf_flat.specs.declared.event.Entry.{Entry}
use Rattle.wf_flat.specs.declared.state.Stage.TheVariants as stages
use Rattle.wf_flat.specs.State.{FlatState, HartState, PageState}
use Rattle.wf_flat.specs.Memory.{page_in, data_in}
use Rattle.wf_flat.specs.Accesses.{Access, generation_text, accessed_text, accessed_data, in_reach, is_free, is_reached, holder_is, holds, holds_page}
use Rattle.wf_flat.specs.Steps.{MayAct, access_in, Reads}
use Rattle.wf_flat.specs.Changes.{given_back, put_with, taken_by}
use Rattle.wf_flat.proofs.FoundLemmas.{data_number}
use Rattle.wf_flat.proofs.ListLemmas.{some_and}
use Rattle.wf_effects.specs.Effects.{delta_of, ending, going_in}
use Rattle.wf_legal.specs.Events.{flat_after}
use Rattle.wf_legal.specs.Legal.{Moment, Allows}
use Rattle.wf_next.proofs.ActLemmas.{at_some, free_unheld, reads_page, taking}
use Rattle.wf_laws.specs.Holders.{Touches}
use Rattle.wf_laws.proofs.CallLemmas.{IsLateCall, acts_outside, gone_free}
use Rattle.wf_laws.proofs.PageLemmas.{at_number, at_number_kept, data_after, data_there, given_by, given_of, mapped_at, or_else, page_after}

-- the hart holds the page of the number
abbrev pub IsHeld : FlatState → ℕ → ℕ → Type 0
IsHeld s h number = holds_page h (data_in s.pages number) ≡ true

-- a page has one holder
one_holder : (o : Option ℕ) (h other : ℕ) → holder_is o h ≡ true → holder_is o other ≡ true → other ≡ h
one_holder None h other p q = absurd (cc)
one_holder (Some holder) h other p q = grind (arith, nat_tests)

pub one_page : (o : Option PageState) (h other : ℕ) → holds_page h o ≡ true → holds_page other o ≡ true → other ≡ h
one_page None h other p q = absurd (cc)
one_page (Some page) h other p q = one_holder page.holder h other p q

-- a page that is held is there
pub held_there : (h : ℕ) (o : Option PageState) → holds_page h o ≡ true → (page : PageState) × (o ≡ Some page)
held_there h None e = absurd (cc)
held_there h (Some page) e = (page, refl)

pub holder_self : (h : ℕ) → holder_is (Some h) h ≡ true
holder_self h = grind (arith, nat_tests)

-- a free page is not held
pub free_page : (o : Option PageState) (h : ℕ) (page : PageState) → o ≡ Some page → is_free page ≡ true → holds_page h o ≡ true → ⊥
free_page o h page is free e =
    let held : holds_page h (Some page) ≡ true = subst (λ (p : Option PageState). holds_page h p ≡ true) is e in
    let unheld = free_unheld h page.holder free in
    cc

-- a take finds its page free
pub record Free (s : FlatState) (number : ℕ) : Type 0 where
  pub page : PageState
  pub is_page : data_in s.pages number ≡ Some page
  pub free : is_free page ≡ true

pub free_at : (s : FlatState) (h number : ℕ) → MayAct s (Hart h) (Take number) → Free s number
free_at s h number p =
    let w = some_and (slice_get s.harts h) _ p in
    let t = taking s w.0 number w.2.1 in
    record { page = t.page; is_page = ap (data_in s.pages) t.is_number ∙ t.is_page; free = t.takes.0 }

-- where its holder stays
kept_by : (h : ℕ) (f : PageState → PageState) (o : Option PageState) → ((p : PageState) → o ≡ Some p → holder_is p.holder h ≡ true → holder_is (f p).holder h ≡ true) → holds_page h o ≡ true → holds_page h (option_map f o) ≡ true
kept_by h f None k e = e
kept_by h f (Some p) k e = k p refl e

same_holder : (h : ℕ) (f : PageState → PageState) (o : Option PageState) → ((p : PageState) → (f p).holder ≡ p.holder) → holds_page h o ≡ true → holds_page h (option_map f o) ≡ true
same_holder h f o k e = kept_by h f o (λ p is held. subst (λ (holder : Option ℕ). holder_is holder h ≡ true) (sym (k p)) held) e

pub going_holder : (first n : ℕ) (p : PageState) → (going_in first n p).holder ≡ p.holder
going_holder first n p = by_test (nat_le first p.number && nat_lt p.number (first + n))
  where
    by_test : (b : Bool) → (if b then record p { stage = stages.Going } else p).holder ≡ p.holder
    by_test true = refl
    by_test false = refl

-- where another takes a page, or gives one back
taken_kept : (pages : List PageState) (h other number page : ℕ) (p free : PageState) → data_in pages number ≡ Some p → data_in pages page ≡ Some free → is_free free ≡ true → holder_is p.holder h ≡ true
    → holder_is (at_number page (taken_by other) p).holder h ≡ true
taken_kept pages h other number page p free is there at_free held = by_test (p.number == page) refl
  where
    by_test : (b : Bool) → (p.number == page) ≡ b → holder_is (if b then taken_by other p else p).holder h ≡ true
    by_test true t = absurd (
        let one : p.number ≡ number = data_number pages number p is in
        let same : number ≡ page = grind (arith, nat_tests) in
        let found : data_in pages page ≡ Some p = subst (λ (n : ℕ). data_in pages n ≡ Some p) same is in
        let both : free ≡ p = cc in
        let unheld : holder_is p.holder h ≡ false = free_unheld h p.holder (subst (λ (page : PageState). is_free page ≡ true) both at_free) in
        cc)
    by_test false t = held

given_number : (s : FlatState) (h other number n : ℕ) (f : PageState → PageState) (p : PageState) → other ≢ h → data_in s.pages number ≡ Some p → holds_page other (data_in s.pages n) ≡ true → holder_is p.holder h ≡ true
    → holder_is (at_number n f p).holder h ≡ true
given_number s h other number n f p apart is held holder = by_test (p.number == n) refl
  where
    by_test : (b : Bool) → (p.number == n) ≡ b → holder_is (if b then f p else p).holder h ≡ true
    by_test true t = absurd (
        let one : p.number ≡ number = data_number s.pages number p is in
        let same : number ≡ n = grind (arith, nat_tests) in
        let found : data_in s.pages n ≡ Some p = subst (λ (n : ℕ). data_in s.pages n ≡ Some p) same is in
        apart (one_page (data_in s.pages n) h other (subst (λ (o : Option PageState). holds_page h o ≡ true) (sym found) holder) held))
    by_test false t = holder

given_test : (b : Bool) (s : FlatState) (h other number n : ℕ) (f : PageState → PageState) (p : PageState) → other ≢ h → data_in s.pages number ≡ Some p → holds_page other (data_in s.pages n) ≡ b → holder_is p.holder h ≡ true
    → holder_is (if b then at_number n f p else p).holder h ≡ true
given_test true s h other number n f p apart is held holder = given_number s h other number n f p apart is held holder
given_test false s h other number n f p apart is held holder = holder

given_kept_of : (s : FlatState) (h other number : ℕ) (hart : HartState) (o : Option Access) (p : PageState) → other ≢ h → data_in s.pages number ≡ Some p → holder_is p.holder h ≡ true → holder_is (given_of s hart other o p).holder h ≡ true
given_kept_of s h other number hart None p apart is holder = holder
given_kept_of s h other number hart (Some access) p apart is holder = given_test (holds s other access) s h other number (page_of access.va) (given_back s.limits.last_writes hart.put) p apart is refl holder

given_kept : (s : FlatState) (h other number : ℕ) (o : Option HartState) (p : PageState) → other ≢ h → data_in s.pages number ≡ Some p → holder_is p.holder h ≡ true → holder_is (given_by s other o p).holder h ≡ true
given_kept s h other number None p apart is holder = holder
given_kept s h other number (Some hart) p apart is holder = given_kept_of s h other number hart (access_in hart) p apart is holder

-- where pages are mapped, and where one is gone
mapped_kept : (h : ℕ) (o other : Option PageState) → holds_page h o ≡ true → holds_page h (or_else o other) ≡ true
mapped_kept h None other e = absurd (cc)
mapped_kept h (Some page) other e = e

gone_kept : (s : FlatState) (h number page : ℕ) → IsSomeAnd (data_in s.pages page) (λ (found : PageState). is_free found ≡ true) → IsHeld s h number → holds_page h (if number == page then None else data_in s.pages number) ≡ true
gone_kept s h number page free e = by_test (number == page) refl
  where
    by_test : (b : Bool) → (number == page) ≡ b → holds_page h (if b then None else data_in s.pages number) ≡ true
    by_test true t = absurd (
        let same : number ≡ page = grind (arith, nat_tests) in
        let found = some_and (data_in s.pages page) _ free in
        free_page (data_in s.pages page) h found.0 found.1 found.2 (subst (λ (n : ℕ). IsHeld s h n) same e))
    by_test false t = e

abbrev pub entry_of : Actor → Event → Entry
entry_of actor event = record { actor = actor; event = event }

-- each entry but an End of its holder leaves a page held
held_page_after : (m : Moment) (h number : ℕ) (actor : Actor) (e : Event) → IsLateCall m.call → Allows m actor e → ((pc : ℕ) → entry_of actor e ≢ entry_of (Hart h) (End pc))
    → IsHeld m.flat h number → holds_page h (page_after m.deltas m.flat actor e number (data_in m.flat.pages number)) ≡ true
held_page_after m h number (Hart other) (Take page) late a unended e =
    let f = free_at m.flat other page (acts_outside m other (Take page) refl late a) in
    kept_by h (at_number page (taken_by other)) (data_in m.flat.pages number) (λ p is held. taken_kept m.flat.pages h other number page p f.page is f.is_page f.free held) e
held_page_after m h number (Hart other) (Put va width value) late a unended e =
    same_holder h (at_number (page_of va) (put_with (va % 4096) width value)) (data_in m.flat.pages number) (at_number_kept (λ (p : PageState). p.holder) (page_of va) (put_with (va % 4096) width value) (λ p. refl)) e
held_page_after m h number (Hart other) (Swap va width old new) late a unended e =
    same_holder h (at_number (page_of va) (put_with (va % 4096) width new)) (data_in m.flat.pages number) (at_number_kept (λ (p : PageState). p.holder) (page_of va) (put_with (va % 4096) width new) (λ p. refl)) e
held_page_after m h number (Hart other) (End pc) late a unended e =
    kept_by h (given_by m.flat other (slice_get m.flat.harts other)) (data_in m.flat.pages number)
    (λ p is held. given_kept m.flat h other number (slice_get m.flat.harts other) p (λ same. unended pc (ap (λ (x : ℕ). entry_of (Hart x) (End pc)) same)) is held) e
held_page_after m h number actor (Map first n write patch) late a unended e = mapped_kept h (data_in m.flat.pages number) (mapped_at (delta_of m.deltas patch) write first m.flat.births n number) e
held_page_after m h number actor (Going first n) late a unended e = same_holder h (going_in first n) (data_in m.flat.pages number) (going_holder first n) e
held_page_after m h number actor (Ending page) late a unended e =
    same_holder h (at_number page ending) (data_in m.flat.pages number) (at_number_kept (λ (p : PageState). p.holder) page ending (λ p. refl)) e
held_page_after m h number actor (Gone page worn) late a unended e = gone_kept m.flat h number page (gone_free m actor page worn late a) e
held_page_after m h number actor event late a unended e = e

pub held_after : (m : Moment) (h number : ℕ) (actor : Actor) (e : Event) → IsLateCall m.call → Allows m actor e → ((pc : ℕ) → entry_of actor e ≢ entry_of (Hart h) (End pc))
    → IsHeld m.flat h number → IsHeld (flat_after m.deltas m.flat actor e) h number
held_after m h number actor e late a unended held =
    subst (λ (o : Option PageState). holds_page h o ≡ true) (sym (data_after m.deltas m.flat actor e number)) (held_page_after m h number actor e late a unended held)

-- a take makes it held
pub held_taken : (m : Moment) (h number : ℕ) → MayAct m.flat (Hart h) (Take number) → IsHeld (flat_after m.deltas m.flat (Hart h) (Take number)) h number
held_taken m h number p =
    let f = free_at m.flat h number p in
    let found : data_in (map (at_number number (taken_by h)) m.flat.pages) number ≡ Some (taken_by h f.page)
    = data_there number (taken_by h) (λ p. refl) m.flat.pages f.page f.is_page in
    subst (λ (o : Option PageState). holds_page h o ≡ true) (sym found) (holder_self h)

-- who touches a page finds it there, and free and in reach, or holds it
pub record Touched (s : FlatState) (h number : ℕ) : Type 0 where
  pub page : PageState
  pub hart : HartState
  pub is_page : data_in s.pages number ≡ Some page
  pub either : ((is_free page ≡ true) × (in_reach s hart page ≡ true)) ⊎ (holder_is page.holder h ≡ true)

reads_touch : (s : FlatState) (h : ℕ) (hart : HartState) (access : Access) (value : ℕ) → Reads s h hart access None value → Touched s h (page_of access.va)
reads_touch s h hart access value p =
    let r = reads_page s h hart access value (accessed_data s access) p in
    record {
      page = r.0;
      hart = hart;
      is_page = r.1;
      either = elim (or_cases (is_free r.0 && is_reached s hart access r.0 && nat_lt r.0.writes s.limits.last_writes) (holder_is r.0.holder h) r.2) [
        | inl free ↦ (let w = and_parts (is_free r.0) (is_reached s hart access r.0) (and_parts _ _ free).0 in inl (w.0, (and_parts _ _ w.1).0))
        | inr holder ↦ inr holder
      ];
    }

holds_touch : (s : FlatState) (h number n : ℕ) (hart : HartState) → number ≡ n → holds_page h (data_in s.pages n) ≡ true → Touched s h number
holds_touch s h number n hart same held =
    let here : IsHeld s h number = subst (λ (k : ℕ). IsHeld s h k) (sym same) held in
    let page = held_there h (data_in s.pages number) here in
    record { page = page.0; hart = hart; is_page = page.1; either = inr (subst (λ (o : Option PageState). holds_page h o ≡ true) page.1 here) }

pub touched : (m : Moment) (h number : ℕ) (e : Event) → IsLateCall m.call → Allows m (Hart h) e → Touches m.flat h number e → Touched m.flat h number
touched m h number (Take page) late a touch =
    let w = some_and (slice_get m.flat.harts h) _ (acts_outside m h (Take page) refl late a) in
    let t = taking m.flat w.0 page w.2.1 in
    record { page = t.page; hart = w.0; is_page = ap (data_in m.flat.pages) (touch ∙ t.is_number) ∙ t.is_page; either = inl (t.takes.0, (and_parts _ _ t.takes.1).0) }
touched m h number (Look va width value) late a touch =
    let access : Access = record { va = va; width = width; write = false } in
    let w = some_and (slice_get m.flat.harts h) _ (acts_outside m h (Look va width value) refl late a) in
    let no_text : page_in (generation_text m.flat w.0.generation) number ≡ None = at_some (slice_get m.flat.harts h) _ w.0 w.1 touch.1 in
    let not_text : accessed_text m.flat w.0 access ≡ None = subst (λ (n : ℕ). page_in (generation_text m.flat w.0.generation) n ≡ None) touch.0 no_text in
    subst (λ (n : ℕ). Touched m.flat h n) (sym touch.0) (reads_touch m.flat h w.0 access value (subst (λ (o : Option PageValue). Reads m.flat h w.0 access o value) not_text w.2.1.2))
touched m h number (Put va width value) late a touch =
    let w = some_and (slice_get m.flat.harts h) _ (acts_outside m h (Put va width value) refl late a) in
    holds_touch m.flat h number (page_of va) w.0 touch w.2.1.1
touched m h number (Swap va width old new) late a touch =
    let w = some_and (slice_get m.flat.harts h) _ (acts_outside m h (Swap va width old new) refl late a) in
    holds_touch m.flat h number (page_of va) w.0 touch w.2.1.1
touched m h number event late a touch = absurd touch

-- who touches a page that is held holds it
pub touch_held : (m : Moment) (h other number : ℕ) (e : Event) → IsLateCall m.call → Allows m (Hart other) e → Touches m.flat other number e → IsHeld m.flat h number → other ≡ h
touch_held m h other number e late a touch held =
    let t = touched m other number e late a touch in
    elim t.either [
      | inl free ↦ absurd (free_page (data_in m.flat.pages number) h t.page t.is_page free.0 held)
      | inr holder ↦ one_page (data_in m.flat.pages number) h other held (subst (λ (o : Option PageState). holds_page other o ≡ true) (sym t.is_page) holder)
    ]
