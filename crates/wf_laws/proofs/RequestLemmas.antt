-- What is requested where a call begins with an event, and that it is not refused.
use Rattle.std.proofs.Common.{◌==◌, ◌≡◌, ◌⊎◌, inl, inr, ℕ, zero, suc, List, [], ◌∷◌, ◌++◌, Option, Some, None, Bool, true, false, not, is_some, ◌&&◌, ◌+◌, refl, sym, subst, ap, ◌∙◌, arith, if◌then◌else◌, map}
use Rattle.std.specs.Prelude.{IsSomeAnd, nat_le, nat_lt, slice_get, unwrap_or}
use Rattle.std.specs.Option.{option_map}
use Rattle.std.specs.List.{find, range_with_len}
use Rattle.std.proofs.lemmas.Bool.Decides.{nat_tests}
use Rattle.rv_inst.specs.Meanings.{next_pc}
use Rattle.wf_outside.specs.declared.refusal.Refusal.{Refusal}
use Rattle.wf_outside.specs.Images.{DeltaValue}
use Rattle.wf_outside.specs.Pages.{page_of}
use Rattle.wf_outside.specs.Lists.{first_of}
use Rattle.wf_flat.specs.declared.event.Actor.{Actor}
use Rattle.wf_flat.specs.declared.event.Actor.TheVariants.{Hart, Kernel}
use Rattle.wf_flat.specs.declared.event.Event.{Event}
use Rattle.wf_flat.specs.declared.event.Event.TheVariants.{Exit, Out, Map, Going, Born, Move, Dead, Refused}
use Rattle.wf_flat.specs.State.{FlatState, HartState, PageState}
use Rattle.wf_flat.specs.Memory.{has_met}
use Rattle.wf_flat.specs.Accesses.{Access, accessed_data, accessed_text, has_right, is_here}
use Rattle.wf_flat.specs.Steps.{Ask, Called, Stopped, Faulted, ask_of}
use Rattle.wf_flat.proofs.ListLemmas.{some_and}
use Rattle.wf_effects.specs.declared.ranges.PageRun.{PageRun}
use Rattle.wf_effects.specs.Ranges.{first_leaving, is_page_ending, runs_of}
use Rattle.wf_verdict.specs.declared.requests.Request.{Request}
use Rattle.wf_verdict.specs.declared.requests.Request.TheVariants.{Exits, PutsByte, Maps, Unmaps, TellsGeneration, Migrates, Quiesces, Deletes, Clones, Patches, NoCall}
use Rattle.wf_verdict.specs.declared.work.Todo.{Todo}
use Rattle.wf_verdict.specs.declared.work.Todo.TheVariants.{Exactly, Leaves}
use Rattle.wf_verdict.specs.Requests.{requested_by}
use Rattle.wf_verdict.specs.Verdict.{absent, bad_range, delta_at, leaving, pages_from, refusal_of}
use Rattle.wf_verdict.specs.Work.{done_about, map_of, refused_or, work_of}
use Rattle.wf_legal.specs.Calls.{Begins, IsNext, ending_of, todo_of, todo_of_page}

-- only a request brings the event
abbrev pub is_requested : Event → Bool
is_requested (Exit code) = true
is_requested (Out byte) = true
is_requested (Map page n write patch) = true
is_requested (Going page n) = true
is_requested (Born generation parent patch) = true
is_requested (Move generation) = true
is_requested (Dead generation) = true
is_requested (Refused reason) = true
is_requested event = false

-- what is done about a request begins with the event; a hart asks for it with an ecall
abbrev pub IsAskedBy : FlatState → Actor → ℕ → Request → Type 0
IsAskedBy s (Hart h) next request =
    IsSomeAnd (slice_get s.harts h) (λ (hart : HartState). (ask_of s h hart ≡ Some Called) × (next ≡ next_pc hart.arch.pc) × (request ≡ requested_by hart))
IsAskedBy s Kernel next request = Unit {0}

pub record Requested (deltas : List DeltaValue) (s : FlatState) (actor : Actor) (e : Event) : Type 0 where
  pub next : ℕ
  pub request : Request
  pub asked : IsAskedBy s actor next request
  pub done : IsNext s (done_about deltas s next request) e

next_append : (s : FlatState) (one other : List Todo) (e : Event) → IsNext s (one ++ other) e → IsNext s one e ⊎ IsNext s other e
next_append s [] other e p = inr p
next_append s (Exactly event ∷ todo) other e p = inl p
next_append s (Leaves page ∷ todo) other e p = inl p

ending_next : (s : FlatState) (next : ℕ) (request : Request) (e : Event) → is_requested e ≡ true → IsNext s (ending_of next request) e → ⊥
ending_next s next (Exits code) e r p = p
ending_next s next (PutsByte byte) e r p = let never = ap is_requested p in cc
ending_next s next (Maps va pages right) e r p = let never = ap is_requested p in cc
ending_next s next (Unmaps va pages) e r p = let never = ap is_requested p in cc
ending_next s next TellsGeneration e r p = let never = ap is_requested p in cc
ending_next s next (Migrates generation) e r p = let never = ap is_requested p in cc
ending_next s next Quiesces e r p = let never = ap is_requested p in cc
ending_next s next (Deletes generation) e r p = let never = ap is_requested p in cc
ending_next s next (Clones generation) e r p = let never = ap is_requested p in cc
ending_next s next (Patches patch) e r p = let never = ap is_requested p in cc
ending_next s next (NoCall number) e r p = let never = ap is_requested p in cc

choice_next : (s : FlatState) (b : Bool) (one other : List Todo) (e : Event) → (IsNext s one e → ⊥) → (IsNext s other e → ⊥) → IsNext s (if b then one else other) e → ⊥
choice_next s true one other e p q next = p next
choice_next s false one other e p q next = q next

unrequested : (e event : Event) → is_requested event ≡ false → is_requested e ≡ true → e ≡ event → ⊥
unrequested e event u r p = let same = ap is_requested p in cc

page_next : (s : FlatState) (hart : HartState) (access : Access) (o : Option PageState) (e : Event) → is_requested e ≡ true → IsNext s (todo_of_page s hart access o) e → ⊥
page_next s hart access None e r p = unrequested e _ refl r p
page_next s hart access (Some page) e r p =
    choice_next s (not (is_here page.stage && has_right access page)) _ _ e (λ q. unrequested e _ refl r q)
    (λ q. choice_next s (has_met s.met hart.generation page.number) _ _ e (λ q. unrequested e _ refl r q) (λ q. unrequested e _ refl r q) q) p

ask_next : (deltas : List DeltaValue) (s : FlatState) (h : ℕ) (hart : HartState) (o : Option Ask) (e : Event) → ask_of s h hart ≡ o → slice_get s.harts h ≡ Some hart → is_requested e ≡ true
    → IsNext s (unwrap_or (option_map (λ ask. todo_of deltas s hart ask) o) []) e → Requested deltas s (Hart h) e
ask_next deltas s h hart None e asks is r p = absurd p
ask_next deltas s h hart (Some Called) e asks is r p =
    let next : ℕ = next_pc hart.arch.pc in
    let request : Request = requested_by hart in
    elim (next_append s (done_about deltas s next request) (ending_of next request) e p) [
      | inl done ↦ record { next = next; request = request; asked = subst (λ (o : Option HartState). IsSomeAnd o (λ (x : HartState). (ask_of s h x ≡ Some Called) × (next ≡ next_pc x.arch.pc) × (request ≡ requested_by x))) (sym is) (asks, refl, refl); done = done }
      | inr ending ↦ absurd (ending_next s next request e r ending)
    ]
ask_next deltas s h hart (Some (Stopped cause value)) e asks is r p = absurd (unrequested e _ refl r p)
ask_next deltas s h hart (Some (Faulted access)) e asks is r p =
    absurd (choice_next s (is_some (accessed_text s hart access)) _ _ e (λ q. unrequested e _ refl r q) (λ q. page_next s hart access (accessed_data s access) e r q) p)

pub requested : (deltas : List DeltaValue) (s : FlatState) (actor : Actor) (e : Event) → is_requested e ≡ true → Begins deltas s actor e → Requested deltas s actor e
requested deltas s (Hart h) e r p =
    let w = some_and (slice_get s.harts h) _ p in
    ask_next deltas s h w.0 (ask_of s h w.0) e refl w.1 r w.2
requested deltas s Kernel e r p = record { next = 0; request = p.request; asked = tt; done = p.next }

-- it is not refused, where the event is no Refused
abbrev pub is_refused : Event → Bool
is_refused (Refused reason) = true
is_refused event = false

unrefused_by : (s : FlatState) (o : Option Refusal) (work : List Todo) (e : Event) → is_refused e ≡ false → IsNext s (refused_or o work) e → (o ≡ None) × IsNext s work e
unrefused_by s None work e r p = (refl, p)
unrefused_by s (Some reason) work e r p = absurd (let same = ap is_refused p in cc)

pub unrefused : (deltas : List DeltaValue) (s : FlatState) (actor : Actor) (e : Event) (r : Requested deltas s actor e) → is_refused e ≡ false → (refusal_of deltas s r.next r.request ≡ None) × IsNext s (work_of deltas s r.request) e
unrefused deltas s actor e r u = unrefused_by s (refusal_of deltas s r.next r.request) (work_of deltas s r.request) e u r.done

-- and else its refusal is that of the table
patch_next : (s : FlatState) (patch : ℕ) (runs : List PageRun) (generation parent : ℕ) (by : Option ℕ) (e : Event) → IsNext s (map (map_of patch) runs ++ Exactly (Born generation parent by) ∷ []) e → is_refused e ≡ false
patch_next s patch [] generation parent by e p = ap is_refused p
patch_next s patch (run ∷ runs) generation parent by e p = ap is_refused p

work_unrefused : (deltas : List DeltaValue) (s : FlatState) (request : Request) (e : Event) → IsNext s (work_of deltas s request) e → is_refused e ≡ false
work_unrefused deltas s (Exits code) e p = ap is_refused p
work_unrefused deltas s (PutsByte byte) e p = ap is_refused p
work_unrefused deltas s (Maps va pages right) e p = ap is_refused p
work_unrefused deltas s (Unmaps va pages) e p = ap is_refused p
work_unrefused deltas s TellsGeneration e p = absurd p
work_unrefused deltas s (Migrates generation) e p = ap is_refused p
work_unrefused deltas s Quiesces e p = ap is_refused p
work_unrefused deltas s (Deletes generation) e p = ap is_refused p
work_unrefused deltas s (Clones generation) e p = ap is_refused p
work_unrefused deltas s (Patches patch) e p = patch_next s patch (runs_of (delta_at deltas patch).shared) _ _ _ e p
work_unrefused deltas s (NoCall number) e p = absurd p

refused_by : (deltas : List DeltaValue) (s : FlatState) (request : Request) (o : Option Refusal) (reason : Refusal) → IsNext s (refused_or o (work_of deltas s request)) (Refused reason) → o ≡ Some reason
refused_by deltas s request None reason p = absurd (let never = work_unrefused deltas s request (Refused reason) p in cc)
refused_by deltas s request (Some other) reason p = cc

pub refused : (deltas : List DeltaValue) (s : FlatState) (actor : Actor) (reason : Refusal) (r : Requested deltas s actor (Refused reason)) → refusal_of deltas s r.next r.request ≡ Some reason
refused deltas s actor reason r = refused_by deltas s r.request (refusal_of deltas s r.next r.request) reason r.done

-- which request an event tells
pub record IsUnmap (s : FlatState) (request : Request) (first n : ℕ) : Type 0 where
  pub va : ℕ
  pub is : request ≡ Unmaps va n
  pub from : first ≡ page_of va

abbrev pub is_going : Event → Bool
is_going (Going page n) = true
is_going event = false

ungoing : (event : Event) (first n : ℕ) → is_going event ≡ false → Going first n ≡ event → ⊥
ungoing event first n u p = let same = ap is_going p in cc

patch_ungoing : (s : FlatState) (patch : ℕ) (runs : List PageRun) (generation parent : ℕ) (by : Option ℕ) (first n : ℕ) → IsNext s (map (map_of patch) runs ++ Exactly (Born generation parent by) ∷ []) (Going first n) → ⊥
patch_ungoing s patch [] generation parent by first n p = ungoing _ first n refl p
patch_ungoing s patch (run ∷ runs) generation parent by first n p = ungoing _ first n refl p

pub going_work : (deltas : List DeltaValue) (s : FlatState) (request : Request) (first n : ℕ) → IsNext s (work_of deltas s request) (Going first n) → IsUnmap s request first n
going_work deltas s (Exits code) first n p = absurd (ungoing _ first n refl p)
going_work deltas s (PutsByte byte) first n p = absurd (ungoing _ first n refl p)
going_work deltas s (Maps va pages right) first n p = absurd (ungoing _ first n refl p)
going_work deltas s (Unmaps va pages) first n p =
    let firsts : first ≡ page_of va = cc in
    let counts : pages ≡ n = cc in
    record { va = va; is = ap (Unmaps va) counts; from = firsts }
going_work deltas s TellsGeneration first n p = absurd p
going_work deltas s (Migrates generation) first n p = absurd (ungoing _ first n refl p)
going_work deltas s Quiesces first n p = absurd (ungoing _ first n refl p)
going_work deltas s (Deletes generation) first n p = absurd (ungoing _ first n refl p)
going_work deltas s (Clones generation) first n p = absurd (ungoing _ first n refl p)
going_work deltas s (Patches patch) first n p = absurd (patch_ungoing s patch (runs_of (delta_at deltas patch).shared) _ _ _ first n p)
going_work deltas s (NoCall number) first n p = absurd p

-- none of three refusals
none_of : (one two three : Option Refusal) → first_of (one ∷ two ∷ three ∷ []) ≡ None → three ≡ None
none_of None None None e = refl
none_of None None (Some reason) e = absurd (cc)
none_of None (Some reason) three e = absurd (cc)
none_of (Some reason) two three e = absurd (cc)

find_map_none : (make : ℕ → Refusal) (o : Option ℕ) → option_map make o ≡ None → o ≡ None
find_map_none make None e = refl
find_map_none make (Some n) e = absurd (cc)

find_none : (test : ℕ → Bool) (first n k : ℕ) → find test (range_with_len first n) ≡ None → (nat_le first k && nat_lt k (first + n)) ≡ true → test k ≡ false
find_none test first zero k e t = absurd (grind (arith, nat_tests))
find_none test first (suc n) k e t = by_first (test first) refl (find_none test (first + 1) n k)
  where
    by_place : (b : Bool) → (first == k) ≡ b → test first ≡ false → ((nat_le (first + 1) k && nat_lt k (first + 1 + n)) ≡ true → test k ≡ false) → test k ≡ false
    by_place true same here rest = let k_is : first ≡ k = grind (arith, nat_tests) in subst (λ (k : ℕ). test k ≡ false) k_is here
    by_place false same here rest = rest (grind (arith, nat_tests))

    by_first : (b : Bool) → test first ≡ b → (find test (range_with_len (first + 1) n) ≡ None → (nat_le (first + 1) k && nat_lt k (first + 1 + n)) ≡ true → test k ≡ false) → test k ≡ false
    by_first true here rest = absurd (let found : find test (range_with_len first (suc n)) ≡ Some first = rw here refl in cc)
    by_first false here rest = by_place (first == k) refl here (rest (let next : find test (range_with_len first (suc n)) ≡ find test (range_with_len (first + 1) n) = rw here refl in sym next ∙ e))

-- where an unmap begins, none of its pages is Ending
pub going_stays : (deltas : List DeltaValue) (s : FlatState) (actor : Actor) (first n k : ℕ) → Begins deltas s actor (Going first n) → (nat_le first k && nat_lt k (first + n)) ≡ true → is_page_ending s k ≡ false
going_stays deltas s actor first n k begins inside =
    let r = requested deltas s actor (Going first n) refl begins in
    let u = unrefused deltas s actor (Going first n) r refl in
    let unmap = going_work deltas s r.request first n u.1 in
    let none : refusal_of deltas s r.next (Unmaps unmap.va n) ≡ None = subst (λ (request : Request). refusal_of deltas s r.next request ≡ None) unmap.is u.0 in
    let stays : first_leaving s (pages_from unmap.va n) ≡ None = find_map_none _ (first_leaving s (pages_from unmap.va n)) (none_of (bad_range unmap.va n) (absent s (pages_from unmap.va n)) (leaving s (pages_from unmap.va n)) none) in
    let here : find (λ page. is_page_ending s page) (range_with_len first n) ≡ None = subst (λ (first : ℕ). find (λ page. is_page_ending s page) (range_with_len first n) ≡ None) (sym unmap.from) stays in
    find_none (λ page. is_page_ending s page) first n k here inside
