-- What an event changes of pages, where no other hart is in a try.
use Rattle.std.proofs.Common.{◌≡◌, ◌<◌, ℕ, List, Bool, true, false, Option, Some, None, length, refl, sym, ap, slice_get, ◌==◌, if◌then◌else◌}
use Rattle.std.specs.Prelude.{IsSomeAnd}
use Rattle.std.specs.Option.{option_map}
use Rattle.std.proofs.lemmas.Option.{slice_get_within}
use Rattle.wf_flat.specs.declared.event.Actor.TheVariants.{Hart}
use Rattle.wf_flat.specs.State.{FlatState, HartState, PageState}
use Rattle.wf_outside.specs.Pages.{page_of}
use Rattle.wf_flat.specs.Memory.{data_in, with_met}
use Rattle.wf_flat.specs.Serving.{IsAlone, held_by}
use Rattle.wf_flat.specs.Accesses.{Access, holds}
use Rattle.wf_flat.specs.Ordered.{IsOrdered, page_numbers}
use Rattle.wf_flat.specs.Steps.{OfHart, access_in}
use Rattle.wf_flat.specs.Changes.{change_page, note_page, noted, noted_in, given_back, give_back, give_back_by, give_back_of, page_met, without}
use Rattle.wf_flat.proofs.ListLemmas.{others_same}
use Rattle.wf_flat.proofs.FoundLemmas.{keys_changed, found_changed}

abbrev pub paged : FlatState → List PageState → FlatState
paged s pages = record s { pages = pages }

-- a hart that is in no try notes nothing
not_noted : (page : ℕ) (hart : HartState) → hart.fetched ≡ None → noted page hart ≡ hart
not_noted page hart e = rw e refl

not_noted_in : (generation page : ℕ) (hart : HartState) → hart.fetched ≡ None → noted_in generation page hart ≡ hart
not_noted_in generation page hart e = by_test (hart.generation == generation)
  where
    by_test : (b : Bool) → (if b then noted page hart else hart) ≡ hart
    by_test true = not_noted page hart e
    by_test false = refl

-- where no other hart is in a try, none notes a page
pub note_alone : (s : FlatState) (h page : ℕ) → IsAlone s h → s ≡ note_page s h page
note_alone s h page alone =
    sym (ap (λ (harts : List HartState). record s { harts = harts }) (others_same (λ (hart : HartState). hart.fetched ≡ None) (noted page) (not_noted page) s.harts h alone))

pub sync_alone : (s : FlatState) (h generation page : ℕ) (met : List (ℕ × ℕ)) → IsAlone s h → met ≡ with_met s.met generation page
    → record s { met = met; inside = without s.inside (Hart h) } ≡ page_met s h generation page
sync_alone s h generation page met alone e =
    rw e (sym (ap (λ (harts : List HartState). record s { met = with_met s.met generation page; inside = without s.inside (Hart h); harts = harts }) (others_same (λ (hart : HartState). hart.fetched ≡ None) (noted_in generation page) (not_noted_in generation page) s.harts h alone)))

-- tables stay ordered where a page changes and keeps its number
pub change_numbers : (s : FlatState) (n : ℕ) (f : PageState → PageState) → ((page : PageState) → (f page).number ≡ page.number) → page_numbers (change_page s n f).pages ≡ page_numbers s.pages
change_numbers s n f keeps = keys_changed (λ (page : PageState). page.number) f s.pages n keeps

pub change_ordered : (s : FlatState) (n : ℕ) (f : PageState → PageState) → ((page : PageState) → (f page).number ≡ page.number) → IsOrdered s → IsOrdered (change_page s n f)
change_ordered s n f keeps up = record { pages = rw (change_numbers s n f keeps) (up.pages); met = up.met }

pub change_found : (s : FlatState) (n : ℕ) (f : PageState → PageState) → ((page : PageState) → (f page).number ≡ page.number) → data_in (change_page s n f).pages n ≡ option_map f (data_in s.pages n)
change_found s n f keeps = found_changed (λ (page : PageState). page.number) f s.pages n keeps

-- the page that is held is given back
given_of : (s : FlatState) (h page : ℕ) (hart : HartState) (access : Option Access) → IsAlone s h → Some page ≡ held_by s h access
    → change_page s page (given_back s.limits.last_writes hart.put) ≡ give_back_of s h hart access
given_of s h page hart None alone e = absurd cc
given_of s h page hart (Some access) alone e = by_test (holds s h access) e
  where
    gives : ℕ → FlatState
    gives n = change_page s n (given_back s.limits.last_writes hart.put)

    by_test : (b : Bool) → Some page ≡ (if b then Some (page_of access.va) else None)
        → change_page s page (given_back s.limits.last_writes hart.put) ≡ (if b then note_page (change_page s (page_of access.va) (given_back s.limits.last_writes hart.put)) h (page_of access.va) else s)
    by_test true e = let k : page ≡ page_of access.va = cc in rw k (note_alone (change_page s (page_of access.va) (given_back s.limits.last_writes hart.put)) h (page_of access.va) alone)
    by_test false e = absurd cc

given_by : (s : FlatState) (h page : ℕ) (put : Bool) (hart : Option HartState) → IsAlone s h → IsSomeAnd hart (λ hart. Some page ≡ held_by s h (access_in hart)) → IsSomeAnd hart (λ hart. put ≡ hart.put)
    → change_page s page (given_back s.limits.last_writes put) ≡ give_back_by s h hart
given_by s h page put None alone held is = absurd held
given_by s h page put (Some hart) alone held is = rw is (given_of s h page hart (access_in hart) alone held)

pub given_some : (s : FlatState) (h page : ℕ) (put : Bool) → IsAlone s h → OfHart s h (λ hart. Some page ≡ held_by s h (access_in hart)) → OfHart s h (λ hart. put ≡ hart.put)
    → change_page s page (given_back s.limits.last_writes put) ≡ give_back s h
given_some s h page put alone held is = given_by s h page put (slice_get s.harts h) alone held is

-- none is held
kept_of : (s : FlatState) (h : ℕ) (hart : HartState) (access : Option Access) → None ≡ held_by s h access → s ≡ give_back_of s h hart access
kept_of s h hart None e = refl
kept_of s h hart (Some access) e = by_test (holds s h access) e
  where
    by_test : (b : Bool) → None ≡ (if b then Some (page_of access.va) else None)
        → s ≡ (if b then note_page (change_page s (page_of access.va) (given_back s.limits.last_writes hart.put)) h (page_of access.va) else s)
    by_test true e = absurd cc
    by_test false e = refl

kept_by : (s : FlatState) (h : ℕ) (hart : Option HartState) → IsSomeAnd hart (λ hart. None ≡ held_by s h (access_in hart)) → s ≡ give_back_by s h hart
kept_by s h None held = absurd held
kept_by s h (Some hart) held = kept_of s h hart (access_in hart) held

pub given_none : (s : FlatState) (h : ℕ) → OfHart s h (λ hart. None ≡ held_by s h (access_in hart)) → s ≡ give_back s h
given_none s h held = kept_by s h (slice_get s.harts h) held

-- a hart of which something holds is there
pub hart_there : (s : FlatState) (h : ℕ) (P : HartState → Type 0) → OfHart s h P → h < length s.harts
hart_there s h P of = there (slice_get s.harts h) refl of
  where
    there : (o : Option HartState) → slice_get s.harts h ≡ o → IsSomeAnd o P → h < length s.harts
    there None e of = absurd of
    there (Some hart) e of = slice_get_within s.harts h hart e

-- tables stay ordered where they stay
pub same_ordered : (s t : FlatState) → t.pages ≡ s.pages → t.met ≡ s.met → IsOrdered s → IsOrdered t
same_ordered s t p m up = record { pages = rw p (up.pages); met = rw m (up.met) }
