-- The page that a hart holds for its access.
use Rattle.std.proofs.Common.{◌≡◌, ◌==◌, ℕ, Bool, true, false, List, [], ◌∷◌, Option, Some, None, refl, sym, ap, ◌∙◌, subst, arith, eqb}
use Rattle.std.specs.Option.{option_eq}
use Rattle.std.specs.Prelude.{if◌then◌else◌, IsSomeAnd, slice_get}
use Rattle.std.proofs.lemmas.Bool.Decides.{nat_tests}
use Rattle.wf_outside.specs.Pages.{page_of}
use Rattle.wf_flat.specs.declared.event.Actor.TheVariants.{Hart}
use Rattle.wf_flat.specs.Lists.{found_by}
use Rattle.wf_flat.specs.State.{FlatState, HartState, PageState}
use Rattle.wf_flat.specs.Accesses.{Access, accessed_data, holder_is, holds, holds_page}
use Rattle.wf_flat.specs.Changes.{change_page, give_back, give_back_by, give_back_of, given_back, note_page}
use Rattle.wf_flat.specs.Serving.{held_by}
use Rattle.wf_flat.specs.Steps.{OfHart, access_in}
use Rattle.wf_effects.specs.Effects.{pages_noted}
use Rattle.wf_change.proofs.NotedLemmas.{one_noted_others}

-- what is found by a number has that
found_key : {A : Type 0} (key : A → ℕ) (xs : List A) (n : ℕ) (x : A) → found_by key xs n ≡ Some x → key x ≡ n
found_key key [] n x e = absurd (cc)
found_key {A = A} key (y ∷ ys) n x e = by_test (key y == n) refl (found_key key ys n x) e
  where
    by_test : (b : Bool) → (key y == n) ≡ b → (found_by key ys n ≡ Some x → key x ≡ n) → (if b then Some y else found_by key ys n) ≡ Some x → key x ≡ n
    by_test true t rest e = let same : y ≡ x = cc in subst (λ (z : A). key z ≡ n) same (grind (arith, nat_tests))
    by_test false t rest e = rest e

-- the holder is this hart
pub same_holder : (holder : Option ℕ) (h : ℕ) → true ≡ option_eq eqb holder (Some h) → holder ≡ Some h
same_holder None h e = absurd (cc)
same_holder (Some k) h e = ap Some (grind (arith, nat_tests))

-- an own page
own : (h : ℕ) (holder : Option ℕ) → holder ≡ Some h → holder_is holder h ≡ true
own h holder e = subst (λ (o : Option ℕ). holder_is o h ≡ true) (sym e) (grind (arith, nat_tests))

held_of : (s : FlatState) (h : ℕ) (access : Access) (page : PageState) → accessed_data s access ≡ Some page → page.holder ≡ Some h → held_by s h (Some access) ≡ Some page.number
held_of s h access page found holder =
    let held : holds s h access ≡ true = ap (holds_page h) found ∙ own h page.holder holder in
    ap (λ (b : Bool). if b then Some (page_of access.va) else None) held ∙ ap Some (sym (found_key (λ (p : PageState). p.number) s.pages (page_of access.va) page found))

-- the hart holds the page that was found
pub held_here : (s : FlatState) (h : ℕ) (hart : HartState) (access : Access) (page : PageState) → Some access ≡ access_in hart → accessed_data s access ≡ Some page → page.holder ≡ Some h → Some page.number ≡ held_by s h (access_in hart)
held_here s h hart access page is found holder =
    sym (ap (held_by s h) (sym is) ∙ held_of s h access page found holder)

some_same : (a b : ℕ) → Some a ≡ Some b → a ≡ b
some_same a b e = cc

-- a page is given back after, or before, it is noted
given_page : (s : FlatState) (h page : ℕ) (put : Bool) → change_page (pages_noted s (Hart h) (page ∷ [])) page (given_back s.limits.last_writes put) ≡ note_page (change_page s page (given_back s.limits.last_writes put)) h page
given_page s h page put =
    ap (λ (harts : List HartState). (let t : FlatState = record (change_page s page (given_back s.limits.last_writes put)) { harts = harts } in t)) (one_noted_others s.harts h page)

-- the page is given back after it was noted
given_of : (s : FlatState) (h page : ℕ) (hart : HartState) (access : Option Access) → Some page ≡ held_by s h access → change_page (pages_noted s (Hart h) (page ∷ [])) page (given_back s.limits.last_writes hart.put) ≡ give_back_of s h hart access
given_of s h page hart None e = absurd (cc)
given_of s h page hart (Some access) e = by_hold (holds s h access) e
  where
    by_hold : (b : Bool) → Some page ≡ (if b then Some (page_of access.va) else None) → change_page (pages_noted s (Hart h) (page ∷ [])) page (given_back s.limits.last_writes hart.put)
        ≡ (if b then note_page (change_page s (page_of access.va) (given_back s.limits.last_writes hart.put)) h (page_of access.va) else s)
    by_hold true e =
        given_page s h page hart.put
        ∙ ap (λ (n : ℕ). note_page (change_page s n (given_back s.limits.last_writes hart.put)) h n) (some_same page (page_of access.va) e)
    by_hold false e = absurd (cc)

pub given_noted : (s : FlatState) (h page : ℕ) (put : Bool) → OfHart s h (λ hart. Some page ≡ held_by s h (access_in hart)) → OfHart s h (λ hart. put ≡ hart.put) → change_page (pages_noted s (Hart h) (page ∷ [])) page (given_back s.limits.last_writes put) ≡ give_back s h
given_noted s h page put held is = by_hart (slice_get s.harts h) held is
  where
    by_hart : (o : Option HartState) → IsSomeAnd o (λ hart. Some page ≡ held_by s h (access_in hart)) → IsSomeAnd o (λ hart. put ≡ hart.put) → change_page (pages_noted s (Hart h) (page ∷ [])) page (given_back s.limits.last_writes put) ≡ give_back_by s h o
    by_hart None held is = absurd held
    by_hart (Some hart) held is =
        ap (λ (b : Bool). change_page (pages_noted s (Hart h) (page ∷ [])) page (given_back s.limits.last_writes b)) is ∙ given_of s h page hart (access_in hart) held
