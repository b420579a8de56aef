-- What a hart may do outside, in parts.
use Rattle.std.proofs.Common.{◌≡◌, inl, inr, ℕ, Option, Some, None, Bool, true, false, not, ◌&&◌, ◌||◌, refl, sym, subst, ap}
use Rattle.std.specs.Prelude.{is_some, nat_lt, IsSomeAnd}
use Rattle.std.proofs.lemmas.Bool.{and_parts, or_cases}
use Rattle.rv_inst.specs.declared.want.Want.{Want}
use Rattle.rv_inst.specs.declared.want.Want.TheVariants.{Nothing}
use Rattle.rv_inst.specs.declared.want.Want.TheVariants as want
use Rattle.wf_outside.specs.Pages.{page_of}
use Rattle.wf_flat.specs.declared.state.Reservation.{Reservation}
use Rattle.wf_flat.specs.State.{FlatState, HartState, PageState}
use Rattle.wf_flat.specs.Accesses.{Access, access_of, accessed_text, accessed_data, is_reached, is_free, holder_is, holds, holds_page, has_reserved, stands}
use Rattle.wf_flat.specs.Steps.{MayTake, MayMiss, want_in, access_in, is_lost, is_done, has_ended, may_read, ReadsData, takes_for, TakesData, is_conditional, misses, misses_page}

-- what holds of what is there, where that is known
pub at_some : {A : Type 0} (o : Option A) (P : A → Type 0) (x : A) → o ≡ Some x → IsSomeAnd o P → P x
at_some {A = A} o P x e p = subst (λ (q : Option A). IsSomeAnd q P) e p

-- the page of a read, and of a take
pub reads_page : (s : FlatState) (h : ℕ) (hart : HartState) (access : Access) (value : ℕ) (o : Option PageState) → ReadsData s h hart access o value → (page : PageState) × (o ≡ Some page) × (may_read s h hart access page ≡ true)
reads_page s h hart access value None p = absurd p
reads_page s h hart access value (Some page) p = (page, refl, p.0)

-- the page is free and in reach, and the access is one that takes
abbrev pub Takes : FlatState → HartState → Access → PageState → Type 0
Takes s hart access page = (is_free page ≡ true) × (is_reached s hart access page ≡ true) × (takes_for (want_in hart) s hart access page ≡ true)

takes_page : (s : FlatState) (hart : HartState) (access : Access) (o : Option PageState) → TakesData s hart access o → (page : PageState) × (o ≡ Some page) × Takes s hart access page
takes_page s hart access None p = absurd p
takes_page s hart access (Some page) p =
    let w = and_parts (is_free page && is_reached s hart access page) (takes_for (want_in hart) s hart access page) p in
    let v = and_parts (is_free page) (is_reached s hart access page) w.0 in
    (page, refl, (v.0, v.1, w.1))

-- the access of a take
pub record Taking (s : FlatState) (hart : HartState) (number : ℕ) : Type 0 where
  pub access : Access
  pub page : PageState
  pub is_access : access_in hart ≡ Some access
  pub is_number : number ≡ page_of access.va
  pub unlooked : hart.looked ≡ None
  pub not_text : accessed_text s hart access ≡ None
  pub is_page : accessed_data s access ≡ Some page
  pub takes : Takes s hart access page

pub taking : (s : FlatState) (hart : HartState) (number : ℕ) → MayTake s hart (access_in hart) number → Taking s hart number
taking s hart number p = by_access (access_in hart) refl p
  where
    by_access : (o : Option Access) → access_in hart ≡ o → MayTake s hart o number → Taking s hart number
    by_access None e p = absurd p
    by_access (Some access) e p =
        let w = takes_page s hart access (accessed_data s access) p.3 in
        record { access = access; page = w.0; is_access = e; is_number = p.0; unlooked = p.1; not_text = p.2; is_page = w.1; takes = w.2 }

-- the access of a miss
pub record Missing (s : FlatState) (h : ℕ) (hart : HartState) (va : ℕ) : Type 0 where
  pub access : Access
  pub is_access : access_in hart ≡ Some access
  pub is_va : va ≡ access.va
  pub conditional : is_conditional (want_in hart) ≡ true
  pub unlooked : hart.looked ≡ None
  pub unheld : holds s h access ≡ false
  pub misses : misses s hart access ≡ true

pub missing : (s : FlatState) (h : ℕ) (hart : HartState) (va : ℕ) → MayMiss s h hart (access_in hart) va → Missing s h hart va
missing s h hart va p = by_access (access_in hart) refl p
  where
    by_access : (o : Option Access) → access_in hart ≡ o → MayMiss s h hart o va → Missing s h hart va
    by_access None e p = absurd p
    by_access (Some access) e p = record { access = access; is_access = e; is_va = p.0; conditional = p.1; unlooked = p.2; unheld = p.3; misses = p.4 }

-- a page that is free is held by none
pub free_unheld : (h : ℕ) (holder : Option ℕ) → not (is_some holder) ≡ true → holder_is holder h ≡ false
free_unheld h None e = refl
free_unheld h (Some other) e = absurd (cc)

-- a page that a hart holds is there
pub held_page : (h : ℕ) (o : Option PageState) → holds_page h o ≡ true → (page : PageState) × (o ≡ Some page)
held_page h None e = absurd (cc)
held_page h (Some page) e = (page, refl)

-- the parts of an access
abbrev pub va_of : Option Access → ℕ
va_of None = 0
va_of (Some access) = access.va

abbrev pub width_of : Option Access → ℕ
width_of None = 0
width_of (Some access) = access.width

abbrev pub writes_of : Option Access → Bool
writes_of None = false
writes_of (Some access) = access.write

pub missed_page : (s : FlatState) (hart : HartState) (access : Access) (o : Option PageState) → misses_page s hart access o ≡ true
    → (page : PageState) × (o ≡ Some page) × (is_reached s hart access page ≡ true) × (not (stands hart.reservation access page) ≡ true)
missed_page s hart access None p = absurd (cc)
missed_page s hart access (Some page) p = let w = and_parts (is_reached s hart access page) _ p in (page, refl, w.0, w.1)

-- an access without an answer is not done
ended_looked : (hart : HartState) (o : Option Access) → has_ended hart o ≡ true → is_some hart.looked ≡ true
ended_looked hart None d = absurd (cc)
ended_looked hart (Some access) d = (and_parts (is_some hart.looked) _ d).0

done_looked : (hart : HartState) (o : Option Want) (access : Access) → access_of o ≡ Some access → is_done hart o ≡ true → is_some hart.looked ≡ true
done_looked hart (Some Nothing) access e d = absurd (cc)
done_looked hart o access e d = ended_looked hart (access_of o) d

no_end : (hart : HartState) (access : Access) → access_in hart ≡ Some access → hart.looked ≡ None → is_done hart (want_in hart) ≡ true → ⊥
no_end hart access e none d =
    let looked : is_some hart.looked ≡ true = done_looked hart (want_in hart) access e d in
    let unlooked : is_some hart.looked ≡ false = rw none refl in
    cc

-- what is not true is false
pub not_true : (b : Bool) → (b ≡ true → ⊥) → b ≡ false
not_true true never = absurd (never refl)
not_true false never = refl

pub undone : (hart : HartState) (access : Access) → access_in hart ≡ Some access → hart.looked ≡ None → is_done hart (want_in hart) ≡ false
undone hart access e none = not_true (is_done hart (want_in hart)) (no_end hart access e none)

-- a read below the last count of writes takes nothing
not_takes : (o : Option Want) (s : FlatState) (hart : HartState) (access : Access) (page : PageState) → access_of o ≡ Some access → access.write ≡ false → nat_lt page.writes s.limits.last_writes ≡ true → takes_for o s hart access page ≡ true → ⊥
not_takes (Some (want.PutIf va width value)) s hart access page e w l t = let write : true ≡ access.write = ap writes_of e in cc
not_takes o s hart access page e w l t = let no : (access.write || not (nat_lt page.writes s.limits.last_writes)) ≡ false = rw (w, l) refl in cc

read_take : (s : FlatState) (h : ℕ) (hart : HartState) (access : Access) (page : PageState) → access_in hart ≡ Some access → access.write ≡ false → Takes s hart access page → may_read s h hart access page ≡ true → ⊥
read_take s h hart access page e write takes may =
    elim (or_cases (is_free page && is_reached s hart access page && nat_lt page.writes s.limits.last_writes) (holder_is page.holder h) may) [
      | inl free ↦ not_takes (want_in hart) s hart access page e write (and_parts (is_free page && is_reached s hart access page) _ free).1 takes.2
      | inr holder ↦ absurd (let unheld = free_unheld h page.holder takes.0 in cc)
    ]

pub read_unread : (s : FlatState) (h : ℕ) (hart : HartState) (access : Access) (page : PageState) → access_in hart ≡ Some access → access.write ≡ false → Takes s hart access page → may_read s h hart access page ≡ false
read_unread s h hart access page e write takes = not_true (may_read s h hart access page) (read_take s h hart access page e write takes)

-- a store-conditional writes, takes where its reservation stands, and is then not lost
pub conditional_writes : (o : Option Want) (access : Access) → is_conditional o ≡ true → access_of o ≡ Some access → access.write ≡ true
conditional_writes (Some (want.PutIf va width value)) access c e = let write : true ≡ access.write = ap writes_of e in sym write
conditional_writes o access c e = absurd (cc)

pub conditional_stands : (o : Option Want) (s : FlatState) (hart : HartState) (access : Access) (page : PageState) → is_conditional o ≡ true → takes_for o s hart access page ≡ true → stands hart.reservation access page ≡ true
conditional_stands (Some (want.PutIf va width value)) s hart access page c t = t
conditional_stands o s hart access page c t = absurd (cc)

pub stands_reserved : (o : Option Reservation) (access : Access) (page : PageState) → stands o access page ≡ true → has_reserved o access.va access.width ≡ true
stands_reserved None access page e = absurd (cc)
stands_reserved (Some reservation) access page e = (and_parts (has_reserved (Some reservation) access.va access.width) _ (and_parts _ _ e).0).0

reserved_kept : (o : Option Want) (reservation : Option Reservation) (access : Access) → access_of o ≡ Some access → has_reserved reservation access.va access.width ≡ true → is_lost o reservation ≡ true → ⊥
reserved_kept (Some (want.PutIf va width value)) reservation access e r l =
    let vas : va ≡ access.va = ap va_of e in
    let widths : width ≡ access.width = ap width_of e in
    let there : has_reserved reservation va width ≡ true = subst (λ (a : ℕ). has_reserved reservation a width ≡ true) (sym vas) (subst (λ (n : ℕ). has_reserved reservation access.va n ≡ true) (sym widths) r) in
    let not_lost : not (has_reserved reservation va width) ≡ false = rw there refl in
    cc
reserved_kept o reservation access e r l = absurd (cc)

-- who takes does not miss
take_missed : (s : FlatState) (hart : HartState) (access : Access) (page : PageState) → access_in hart ≡ Some access → accessed_data s access ≡ Some page → Takes s hart access page → is_conditional (want_in hart) ≡ true → misses s hart access ≡ true → ⊥
take_missed s hart access page e is takes conditional miss =
    let stand : stands hart.reservation access page ≡ true = conditional_stands (want_in hart) s hart access page conditional takes.2 in
    elim (or_cases (is_lost (want_in hart) hart.reservation) (not (is_some (accessed_text s hart access)) && misses_page s hart access (accessed_data s access)) miss) [
      | inl is_lost ↦ reserved_kept (want_in hart) hart.reservation access e (stands_reserved hart.reservation access page stand) is_lost
      | inr other ↦ (
          let missed = missed_page s hart access (accessed_data s access) (and_parts (not (is_some (accessed_text s hart access))) _ other).1 in
          let same : missed.0 ≡ page = cc in
          let falls : not (stands hart.reservation access page) ≡ true = subst (λ (page : PageState). not (stands hart.reservation access page) ≡ true) same missed.3 in
          let no : not (stands hart.reservation access page) ≡ false = rw stand refl in
          absurd (cc))
    ]

pub take_unmissed : (s : FlatState) (hart : HartState) (access : Access) (page : PageState) → access_in hart ≡ Some access → accessed_data s access ≡ Some page → Takes s hart access page → (is_conditional (want_in hart) && misses s hart access) ≡ false
take_unmissed s hart access page e is takes =
    not_true (is_conditional (want_in hart) && misses s hart access) (λ both. let w = and_parts (is_conditional (want_in hart)) (misses s hart access) both in take_missed s hart access page e is takes w.0 w.1)
