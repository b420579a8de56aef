-- A hart that holds a page is in a try with an access to it, and is not inside the kernel.
use Rattle.std.proofs.Common.{◌≡◌, inl, inr, ℕ, List, Option, Some, None, Bool, true, false, not, is_some, ◌&&◌, ◌==◌, ◌%◌, map, refl, sym, subst, ap, ◌∙◌, arith}
use Rattle.std.specs.Prelude.{slice_get, if◌then◌else◌}
use Rattle.std.specs.Option.{option_map, IfSome}
use Rattle.std.proofs.lemmas.Bool.{and_parts, cases_eq}
use Rattle.std.proofs.lemmas.Bool.Decides.{nat_tests}
use Rattle.wf_outside.specs.Images.{DeltaValue}
use Rattle.wf_outside.specs.Pages.{page_of}
use Rattle.wf_flat.specs.declared.event.Actor.{Actor}
use Rattle.wf_flat.specs.declared.event.Actor.TheVariants.{Hart, Kernel}
use Rattle.wf_flat.specs.declared.event.Event.{Event}
use Rattle.wf_flat.specs.declared.event.Event.TheVariants.{Fetch, Look, Take, Put, Swap, Miss, End, Again, Wait, Enter, Idle, Map, Going, Ending, Gone}
use Rattle.wf_flat.specs.declared.event.WaitFor.{WaitFor}
use Rattle.wf_flat.specs.declared.event.WaitFor.TheVariants as waits
use Rattle.wf_flat.specs.State.{FlatState, HartState, PageState}
use Rattle.wf_flat.specs.Memory.{data_in}
use Rattle.wf_flat.specs.Accesses.{Access, in_reach, is_held_by_other, holder_is, holds, holds_page}
use Rattle.wf_flat.specs.Steps.{OfHart, MayAct, MayTryAgain, MayWait, MayWaitForPage, access_in, ask_of, is_inside, is_kept_from}
use Rattle.wf_flat.specs.Changes.{change_page, give_back, give_back_by, give_back_of, given_back, note_page, put_with, taken_by}
use Rattle.wf_flat.proofs.FoundLemmas.{data_number}
use Rattle.wf_flat.proofs.ListLemmas.{some_and}
use Rattle.wf_effects.specs.Effects.{delta_of, ending, going_in, mapped_page}
use Rattle.wf_legal.specs.Events.{flat_after}
use Rattle.wf_legal.specs.Legal.{Moment, Allows, after}
use Rattle.wf_next.proofs.ActLemmas.{taking}
use Rattle.wf_next.proofs.QuietLemmas.{fetch_access, found_all, held_quiet}
use Rattle.wf_laws.specs.Conditionals.{HoldsNone}
use Rattle.wf_laws.specs.Holders.{HoldersTry, IsTryingAt}
use Rattle.wf_laws.proofs.CallLemmas.{IsLateCall, acts, acts_outside, call_kept, is_outside}
use Rattle.wf_laws.proofs.PageLemmas.{at_number, at_number_kept, data_after, data_there, given_by, given_of, in_range, mapped_at, or_else, page_after}
use Rattle.wf_laws.proofs.BareLemmas.{bare, bare_at, bare_own, kernel_after, other_after, outside_kernel, outside_other, own_change, same_bare}
use Rattle.wf_laws.proofs.HolderLemmas.{IsHeld, going_holder, held_there}

-- who holds a page held it before, where its holder does not come
back_by : (h : ℕ) (f : PageState → PageState) (o : Option PageState) → ((p : PageState) → o ≡ Some p → holder_is (f p).holder h ≡ true → holder_is p.holder h ≡ true) → holds_page h (option_map f o) ≡ true → holds_page h o ≡ true
back_by h f None k e = e
back_by h f (Some p) k e = k p refl e

back_same : (h : ℕ) (f : PageState → PageState) (o : Option PageState) → ((p : PageState) → (f p).holder ≡ p.holder) → holds_page h (option_map f o) ≡ true → holds_page h o ≡ true
back_same h f o k e = back_by h f o (λ p is held. subst (λ (holder : Option ℕ). holder_is holder h ≡ true) (k p) held) e

taken_back : (pages : List PageState) (by h number page : ℕ) (p : PageState) → (Hart by ≡ Hart h → Take page ≡ Take number → ⊥) → data_in pages number ≡ Some p → holder_is (at_number page (taken_by by) p).holder h ≡ true → holder_is p.holder h ≡ true
taken_back pages by h number page p other is e = by_test (p.number == page) refl e
  where
    by_test : (b : Bool) → (p.number == page) ≡ b → holder_is (if b then taken_by by p else p).holder h ≡ true → holder_is p.holder h ≡ true
    by_test true t e = absurd (
        let one : p.number ≡ number = data_number pages number p is in
        let same : page ≡ number = grind (arith, nat_tests) in
        let holder : by ≡ h = grind (arith, nat_tests) in
        other (ap Hart holder) (ap Take same))
    by_test false t e = e

given_number_back : (h n last : ℕ) (put : Bool) (p : PageState) → holder_is (at_number n (given_back last put) p).holder h ≡ true → holder_is p.holder h ≡ true
given_number_back h n last put p e = by_test (p.number == n) e
  where
    by_test : (b : Bool) → holder_is (if b then given_back last put p else p).holder h ≡ true → holder_is p.holder h ≡ true
    by_test true e = absurd (cc)
    by_test false e = e

given_test_back : (b : Bool) (h n last : ℕ) (put : Bool) (p : PageState) → holder_is (if b then at_number n (given_back last put) p else p).holder h ≡ true → holder_is p.holder h ≡ true
given_test_back true h n last put p e = given_number_back h n last put p e
given_test_back false h n last put p e = e

given_of_back : (s : FlatState) (by h : ℕ) (hart : HartState) (o : Option Access) (p : PageState) → holder_is (given_of s hart by o p).holder h ≡ true → holder_is p.holder h ≡ true
given_of_back s by h hart None p e = e
given_of_back s by h hart (Some access) p e = given_test_back (holds s by access) h (page_of access.va) s.limits.last_writes hart.put p e

given_by_back : (s : FlatState) (by h : ℕ) (o : Option HartState) (p : PageState) → holder_is (given_by s by o p).holder h ≡ true → holder_is p.holder h ≡ true
given_by_back s by h None p e = e
given_by_back s by h (Some hart) p e = given_of_back s by h hart (access_in hart) p e

mapped_unheld : (b : Bool) (delta : Option DeltaValue) (write : Bool) (h k birth : ℕ) → holds_page h (if b then Some (mapped_page delta write k birth) else None) ≡ true → ⊥
mapped_unheld true delta write h k birth e = cc
mapped_unheld false delta write h k birth e = cc

mapped_back : (h : ℕ) (o other : Option PageState) → (holds_page h other ≡ true → ⊥) → holds_page h (or_else o other) ≡ true → holds_page h o ≡ true
mapped_back h None other unheld e = absurd (unheld e)
mapped_back h (Some page) other unheld e = e

gone_back : (b : Bool) (h : ℕ) (o : Option PageState) → holds_page h (if b then None else o) ≡ true → holds_page h o ≡ true
gone_back true h o e = absurd (cc)
gone_back false h o e = e

-- who holds a page has taken it with this entry, or held it before
held_page_before : (deltas : List DeltaValue) (s : FlatState) (actor : Actor) (e : Event) (h number : ℕ) → (actor ≡ Hart h → e ≡ Take number → ⊥) → holds_page h (page_after deltas s actor e number (data_in s.pages number)) ≡ true → IsHeld s h number
held_page_before deltas s (Hart by) (Take page) h number other e = back_by h (at_number page (taken_by by)) (data_in s.pages number) (λ p is held. taken_back s.pages by h number page p other is held) e
held_page_before deltas s (Hart by) (Put va width value) h number other e =
    back_same h (at_number (page_of va) (put_with (va % 4096) width value)) (data_in s.pages number) (at_number_kept (λ (p : PageState). p.holder) (page_of va) (put_with (va % 4096) width value) (λ p. refl)) e
held_page_before deltas s (Hart by) (Swap va width old new) h number other e =
    back_same h (at_number (page_of va) (put_with (va % 4096) width new)) (data_in s.pages number) (at_number_kept (λ (p : PageState). p.holder) (page_of va) (put_with (va % 4096) width new) (λ p. refl)) e
held_page_before deltas s (Hart by) (End pc) h number other e = back_by h (given_by s by (slice_get s.harts by)) (data_in s.pages number) (λ p is held. given_by_back s by h (slice_get s.harts by) p held) e
held_page_before deltas s actor (Map first n write patch) h number other e =
    mapped_back h (data_in s.pages number) (mapped_at (delta_of deltas patch) write first s.births n number) (mapped_unheld (in_range first n number) (delta_of deltas patch) write h number _) e
held_page_before deltas s actor (Going first n) h number other e = back_same h (going_in first n) (data_in s.pages number) (going_holder first n) e
held_page_before deltas s actor (Ending page) h number other e = back_same h (at_number page ending) (data_in s.pages number) (at_number_kept (λ (p : PageState). p.holder) page ending (λ p. refl)) e
held_page_before deltas s actor (Gone page worn) h number other e = gone_back (number == page) h (data_in s.pages number) e
held_page_before deltas s actor event h number other e = e

pub held_before : (deltas : List DeltaValue) (s : FlatState) (actor : Actor) (e : Event) (h number : ℕ) → (actor ≡ Hart h → e ≡ Take number → ⊥) → IsHeld (flat_after deltas s actor e) h number → IsHeld s h number
held_before deltas s actor e h number other held = held_page_before deltas s actor e h number other (subst (λ (o : Option PageState). holds_page h o ≡ true) (data_after deltas s actor e number) held)

-- the hart that holds a page
pub record Grip (s : FlatState) (h number : ℕ) : Type 0 where
  pub hart : HartState
  pub access : Access
  pub is_hart : bare_at s.harts h ≡ Some hart
  pub is_access : access_in hart ≡ Some access
  pub there : page_of access.va ≡ number
  pub outside : is_inside s.inside (Hart h) ≡ false

abbrev pub IsGripped : FlatState → Type 0
IsGripped s = (h number : ℕ) → IsHeld s h number → Grip s h number

pub grip_access : (s : FlatState) (h number : ℕ) (hart : HartState) (g : Grip s h number) → slice_get s.harts h ≡ Some hart → access_in hart ≡ Some g.access
grip_access s h number hart g is = subst (λ (x : HartState). access_in x ≡ Some g.access) (same_bare s.harts h hart g.hart is g.is_hart) g.is_access

pub grip_holds : (s : FlatState) (h number : ℕ) (g : Grip s h number) → IsHeld s h number → holds s h g.access ≡ true
grip_holds s h number g e = subst (λ (n : ℕ). IsHeld s h n) (sym g.there) e

-- it asks for nothing
pub grip_quiet : (s : FlatState) (h number : ℕ) (hart : HartState) → Grip s h number → IsHeld s h number → slice_get s.harts h ≡ Some hart → ask_of s h hart ≡ None
grip_quiet s h number hart g e is = held_quiet s h hart g.access (grip_access s h number hart g is) (grip_holds s h number g e)

-- at its End it gives the page back
pub end_pages : (s : FlatState) (h number : ℕ) (hart : HartState) → Grip s h number → IsHeld s h number → slice_get s.harts h ≡ Some hart
    → (give_back s h).pages ≡ map (at_number number (given_back s.limits.last_writes hart.put)) s.pages
end_pages s h number hart g e is =
    let f : PageState → PageState = given_back s.limits.last_writes hart.put in
    ap (λ (o : Option HartState). (give_back_by s h o).pages) is ∙ ap (λ (o : Option Access). (give_back_of s h hart o).pages) (grip_access s h number hart g is)
    ∙ ap (λ (b : Bool). (if b then note_page (change_page s (page_of g.access.va) f) h (page_of g.access.va) else s).pages) (grip_holds s h number g e)
    ∙ ap (λ (n : ℕ). map (at_number n f) s.pages) g.there

pub end_page : (s : FlatState) (h number : ℕ) (hart : HartState) (page : PageState) → Grip s h number → IsHeld s h number → slice_get s.harts h ≡ Some hart → data_in s.pages number ≡ Some page
    → data_in (give_back s h).pages number ≡ Some (given_back s.limits.last_writes hart.put page)
end_page s h number hart page g e is there =
    ap (λ (pages : List PageState). data_in pages number) (end_pages s h number hart g e is)
    ∙ data_there number (given_back s.limits.last_writes hart.put) (λ p. refl) s.pages page there

no_grip : (s : FlatState) (h number : ℕ) (hart : HartState) → Grip s h number → IsHeld s h number → slice_get s.harts h ≡ Some hart → IsHeld (give_back s h) h number → ⊥
no_grip s h number hart g e is behind =
    let page = held_there h (data_in s.pages number) e in
    let free : holds_page h (Some (given_back s.limits.last_writes hart.put page.0)) ≡ true = subst (λ (o : Option PageState). holds_page h o ≡ true) (end_page s h number hart page.0 g e is page.1) behind in
    cc

-- where its change leaves its access
grip_changed : (deltas : List DeltaValue) (s : FlatState) (h number : ℕ) (e : Event) (hart : HartState) (g : Grip s h number) → slice_get s.harts h ≡ Some hart
    → access_in (bare (own_change s e hart)) ≡ access_in hart → (flat_after deltas s (Hart h) e).inside ≡ s.inside → Grip (flat_after deltas s (Hart h) e) h number
grip_changed deltas s h number e hart g is same inside = record {
  hart = bare (own_change s e hart);
  access = g.access;
  is_hart = bare_own deltas s h e hart is;
  is_access = same ∙ grip_access s h number hart g is;
  there = g.there;
  outside = ap (λ (i : Option Actor). is_inside i (Hart h)) inside ∙ g.outside;
}

-- a hart that holds a page does not give its try up, and does not wait
pub grip_stays : (s : FlatState) (h number page : ℕ) (hart : HartState) (g : Grip s h number) → IsHeld s h number → slice_get s.harts h ≡ Some hart → MayTryAgain s h hart (access_in hart) page → ⊥
grip_stays s h number page hart g e is p =
    let q : MayTryAgain s h hart (Some g.access) page = subst (λ (o : Option Access). MayTryAgain s h hart o page) (grip_access s h number hart g is) p in
    let held = grip_holds s h number g e in
    let unheld = q.2 in
    cc

own_kept : (h : ℕ) (holder : Option ℕ) → holder_is holder h ≡ true → (is_some holder && not (holder_is holder h)) ≡ true → ⊥
own_kept h None p q = cc
own_kept h (Some by) p q = let false_now : not (holder_is (Some by) h) ≡ false = rw p refl in let other = (and_parts (is_some (Some by)) (not (holder_is (Some by) h)) q).1 in cc

kept_from_own : (s : FlatState) (h : ℕ) (hart : HartState) (o : Option PageState) → holds_page h o ≡ true → is_kept_from s h hart o ≡ true → ⊥
kept_from_own s h hart None p q = cc
kept_from_own s h hart (Some page) p q = own_kept h page.holder p (and_parts (in_reach s hart page) (is_held_by_other h page) q).1

pub grip_waits : (s : FlatState) (h number : ℕ) (on : WaitFor) (hart : HartState) (g : Grip s h number) → IsHeld s h number → slice_get s.harts h ≡ Some hart → MayWait s h hart on → ⊥
grip_waits s h number (waits.Page page) hart g e is p =
    let q : MayWaitForPage s h hart (Some g.access) page = subst (λ (o : Option Access). MayWaitForPage s h hart o page) (grip_access s h number hart g is) p in
    kept_from_own s h hart (data_in s.pages page) (subst (λ (n : ℕ). IsHeld s h n) (sym (q.0 ∙ g.there)) e) q.2
grip_waits s h number (waits.Kernel other) hart g e is p = p.1 (grip_quiet s h number hart g e is)

-- what its own entries leave
own_by : (deltas : List DeltaValue) (s : FlatState) (h number : ℕ) (e : Event) (g : Grip s h number) → IsHeld s h number → MayAct s (Hart h) e → IsHeld (flat_after deltas s (Hart h) e) h number → Grip (flat_after deltas s (Hart h) e) h number
own_by deltas s h number (Fetch pc word) g e p behind = let w = some_and (slice_get s.harts h) _ p in absurd (fetch_access w.0 g.access w.2.1.0 (grip_access s h number w.0 g w.1))
own_by deltas s h number (Look va width value) g e p behind = let w = some_and (slice_get s.harts h) _ p in grip_changed deltas s h number (Look va width value) w.0 g w.1 refl refl
own_by deltas s h number (Take page) g e p behind = let w = some_and (slice_get s.harts h) _ p in grip_changed deltas s h number (Take page) w.0 g w.1 refl refl
own_by deltas s h number (Put va width value) g e p behind = let w = some_and (slice_get s.harts h) _ p in grip_changed deltas s h number (Put va width value) w.0 g w.1 refl refl
own_by deltas s h number (Swap va width old new) g e p behind = let w = some_and (slice_get s.harts h) _ p in grip_changed deltas s h number (Swap va width old new) w.0 g w.1 refl refl
own_by deltas s h number (Miss va) g e p behind = let w = some_and (slice_get s.harts h) _ p in grip_changed deltas s h number (Miss va) w.0 g w.1 refl refl
own_by deltas s h number (End pc) g e p behind = let w = some_and (slice_get s.harts h) _ p in absurd (no_grip s h number w.0 g e w.1 behind)
own_by deltas s h number (Again page) g e p behind = let w = some_and (slice_get s.harts h) _ p in absurd (grip_stays s h number page w.0 g e w.1 w.2.1)
own_by deltas s h number (Wait on) g e p behind = let w = some_and (slice_get s.harts h) _ p in absurd (grip_waits s h number on w.0 g e w.1 w.2.1)
own_by deltas s h number Enter g e p behind = let w = some_and (slice_get s.harts h) _ p in absurd (w.2.1.1 (grip_quiet s h number w.0 g e w.1))
own_by deltas s h number Idle g e p behind = g
own_by deltas s h number event g e p behind = absurd p

own_held : (m : Moment) (h number : ℕ) (e : Event) → IsGripped m.flat → Allows m (Hart h) e → IsHeld m.flat h number → IsHeld (flat_after m.deltas m.flat (Hart h) e) h number → Grip (flat_after m.deltas m.flat (Hart h) e) h number
own_held m h number e gripped a before behind = let g = gripped h number before in own_by m.deltas m.flat h number e g before (acts m h e g.outside a) behind

own : (m : Moment) (h number : ℕ) (e : Event) → IsLateCall m.call → IsGripped m.flat → Allows m (Hart h) e → IsHeld (flat_after m.deltas m.flat (Hart h) e) h number → Grip (flat_after m.deltas m.flat (Hart h) e) h number
own m h number (Take page) late gripped a behind = elim (cases_eq page number) [
  | inl same ↦ (
      let w = some_and (slice_get m.flat.harts h) _ (acts_outside m h (Take page) refl late a) in
      let t = taking m.flat w.0 page w.2.1 in
      record {
        hart = bare w.0;
        access = t.access;
        is_hart = bare_own m.deltas m.flat h (Take page) w.0 w.1;
        is_access = t.is_access;
        there = sym t.is_number ∙ same;
        outside = is_outside m h (Take page) refl late a;
      })
  | inr apart ↦ own_held m h number (Take page) gripped a (held_before m.deltas m.flat (Hart h) (Take page) h number (λ _ taken. apart (cc)) behind) behind
]
own m h number e late gripped a behind = own_held m h number e gripped a (held_before m.deltas m.flat (Hart h) e h number (λ _ taken. cc) behind) behind

-- each entry keeps it
pub gripped_after : (m : Moment) (actor : Actor) (e : Event) → IsLateCall m.call → IsGripped m.flat → Allows m actor e → IsGripped (flat_after m.deltas m.flat actor e)
gripped_after m (Hart k) e late gripped a h number behind = elim (cases_eq h k) [
  | inl same ↦ subst (λ (x : ℕ). Grip (flat_after m.deltas m.flat (Hart k) e) x number) (sym same) (own m k number e late gripped a (subst (λ (x : ℕ). IsHeld (flat_after m.deltas m.flat (Hart k) e) x number) same behind))
  | inr apart ↦ (
      let g = gripped h number (held_before m.deltas m.flat (Hart k) e h number (λ is _. apart (cc)) behind) in
      record { hart = g.hart; access = g.access; is_hart = other_after m.deltas m.flat k h e apart ∙ g.is_hart; is_access = g.is_access; there = g.there; outside = outside_other m.deltas m.flat k h e apart g.outside })
]
gripped_after m Kernel e late gripped a h number behind =
    let g = gripped h number (held_before m.deltas m.flat Kernel e h number (λ is _. cc) behind) in
    record { hart = g.hart; access = g.access; is_hart = kernel_after m.deltas m.flat e h ∙ g.is_hart; is_access = g.is_access; there = g.there; outside = outside_kernel m.deltas m.flat h e g.outside }

-- at the start nobody holds a page
pub unheld : (s : FlatState) (h number : ℕ) → HoldsNone s → IsHeld s h number → ⊥
unheld s h number none e =
    let page = held_there h (data_in s.pages number) e in
    let free : page.0.holder ≡ None = found_all (λ (p : PageState). p.holder ≡ None) s.pages number page.0 none page.1 in
    let now : holds_page h (Some page.0) ≡ true = subst (λ (o : Option PageState). holds_page h o ≡ true) page.1 e in
    let held : holder_is page.0.holder h ≡ false = rw free refl in
    cc

pub gripped_none : (s : FlatState) → HoldsNone s → IsGripped s
gripped_none s none h number e = absurd (unheld s h number none e)

-- and else its holder tries
holder_some : (holder : Option ℕ) (h : ℕ) → holder_is holder h ≡ true → holder ≡ Some h
holder_some None h e = absurd (cc)
holder_some (Some by) h e = let same : by ≡ h = grind (arith, nat_tests) in ap Some same

pub gripped_start : (s : FlatState) → HoldersTry s → IsGripped s
gripped_start s try_all h number e =
    let page = held_there h (data_in s.pages number) e in
    let all : IfSome page.0.holder (λ (h : ℕ). OfHart s h (IsTryingAt s h page.0.number)) = found_all (λ (p : PageState). IfSome p.holder (λ (h : ℕ). OfHart s h (IsTryingAt s h p.number))) s.pages number page.0 try_all page.1 in
    let holds : holder_is page.0.holder h ≡ true = subst (λ (o : Option PageState). holds_page h o ≡ true) page.1 e in
    let it : OfHart s h (IsTryingAt s h page.0.number) = subst (λ (o : Option ℕ). IfSome o (λ (h : ℕ). OfHart s h (IsTryingAt s h page.0.number))) (holder_some page.0.holder h holds) all in
    let w = some_and (slice_get s.harts h) _ it in
    let access = some_and (access_in w.0) _ w.2.1 in
    record {
      hart = bare w.0;
      access = access.0;
      is_hart = ap (option_map bare) w.1;
      is_access = access.1;
      there = sym access.2 ∙ data_number s.pages number page.0 page.1;
      outside = w.2.0;
    }

-- both
abbrev pub IsSettled : Moment → Type 0
IsSettled m = IsLateCall m.call × IsGripped m.flat

pub settled_after : (m : Moment) (actor : Actor) (e : Event) → IsSettled m → Allows m actor e → IsSettled (after m actor e)
settled_after m actor e p a = (call_kept m actor e p.0, gripped_after m actor e p.0 p.1 a)
