-- The count of writes of a mapping rises, and rises where its page was written.
use Rattle.std.proofs.Common.{◌≡◌, ◌≢◌, ◌≤◌, ◌<◌, ◌⊎◌, inl, inr, ℕ, ◌+◌, ◌-◌, List, Option, Some, None, Bool, true, false, is_some, ◌&&◌, ◌==◌, ◌%◌, refl, sym, subst, ap, ◌∙◌, arith}
use Rattle.std.specs.Prelude.{nat_le, nat_lt, slice_get, if◌then◌else◌}
use Rattle.std.specs.Option.{IfSome}
use Rattle.std.proofs.lemmas.Bool.{cases_eq}
use Rattle.std.proofs.lemmas.Bool.Decides.{nat_tests}
use Rattle.wf_outside.specs.Images.{DeltaValue}
use Rattle.wf_outside.specs.Pages.{page_of}
use Rattle.wf_flat.specs.declared.event.Actor.{Actor}
use Rattle.wf_flat.specs.declared.event.Actor.TheVariants.{Hart, Kernel}
use Rattle.wf_flat.specs.declared.event.Event.{Event}
use Rattle.wf_flat.specs.declared.event.Event.TheVariants.{Fetch, Look, Take, Put, Swap, Miss, End, Again, Wait, Enter, Idle, Map, Going, Ending, Gone}
use Rattle.wf_flat.specs.declared.event.Entry.{Entry}
use Rattle.wf_flat.specs.declared.state.Stage.TheVariants as stages
use Rattle.wf_flat.specs.State.{FlatState, HartState, PageState}
use Rattle.wf_flat.specs.Memory.{data_in}
use Rattle.wf_flat.specs.Steps.{MayAct}
use Rattle.wf_flat.specs.Changes.{give_back, given_back, put_with, taken_by}
use Rattle.wf_flat.proofs.ListLemmas.{some_and}
use Rattle.wf_effects.specs.Effects.{delta_of, ending, going_in, mapped_page}
use Rattle.wf_legal.specs.Events.{flat_after}
use Rattle.wf_legal.specs.Legal.{Moment, Allows}
use Rattle.wf_next.proofs.ActLemmas.{missing, taking}
use Rattle.wf_next.proofs.QuietLemmas.{fetch_access, found_all}
use Rattle.wf_laws.specs.Conditionals.{HasOldBirths, Writes}
use Rattle.wf_laws.proofs.CallLemmas.{IsLateCall, acts, acts_outside, kernel_acts}
use Rattle.wf_laws.proofs.PageLemmas.{at_number, data_after, given_by, in_range, mapped_at, or_else, page_after}
use Rattle.wf_laws.proofs.BareLemmas.{bare, bare_at, bare_own, births_after, births_kept, kernel_after, other_after, own_change, same_bare}
use Rattle.wf_laws.proofs.HolderLemmas.{IsHeld, held_after, held_there}
use Rattle.wf_laws.proofs.GripLemmas.{Grip, IsSettled, end_page, grip_access, grip_quiet, grip_stays, grip_waits}
use Rattle.wf_laws.proofs.StayLemmas.{at_stays, given_stays, gone_stays, if_map}

-- what only the birth and the count of writes of a page have part in, and what more writes keep
record IsKeptByGrowth (P : PageState → Type 0) : Type 0 where
  same : (p q : PageState) → p.birth ≡ q.birth → p.writes ≤ q.writes → P p → P q

going_birth : (first n : ℕ) (p : PageState) → (p.birth ≡ (going_in first n p).birth) × (p.writes ≤ (going_in first n p).writes)
going_birth first n p = by_test (nat_le first p.number && nat_lt p.number (first + n))
  where
    by_test : (b : Bool) → (p.birth ≡ (if b then record p { stage = stages.Going } else p).birth) × (p.writes ≤ (if b then record p { stage = stages.Going } else p).writes)
    by_test true = (refl, omega arith)
    by_test false = (refl, omega arith)

given_more : (last : ℕ) (put : Bool) (p : PageState) → p.writes ≤ (given_back last put p).writes
given_more last put p = by_test (put && nat_lt p.writes last)
  where
    by_test : (b : Bool) → p.writes ≤ (if b then p.writes + 1 else p.writes)
    by_test true = omega arith
    by_test false = omega arith

mapped_rises : (P : PageState → Type 0) (deltas : List DeltaValue) (patch : Option ℕ) (write : Bool) (first births n k : ℕ) (o : Option PageState) → ((p : PageState) → births ≤ p.birth → p.birth < births + n → P p) → IfSome o P
    → IfSome (or_else o (mapped_at (delta_of deltas patch) write first births n k)) P
mapped_rises P deltas patch write first births n k (Some page) new p = p
mapped_rises P deltas patch write first births n k None new p = by_range (in_range first n k) refl
  where
    by_range : (b : Bool) → in_range first n k ≡ b → IfSome (if b then Some (mapped_page (delta_of deltas patch) write k (births + (k - first))) else None) P
    by_range true t =
        let from : first ≤ k = grind (arith, nat_tests) in
        let to : k < first + n = grind (arith, nat_tests) in
        new (mapped_page (delta_of deltas patch) write k (births + (k - first))) (omega arith) (omega arith)
    by_range false t = tt

-- each entry keeps it, if the pages that it maps have it
rises_page : (P : PageState → Type 0) → IsKeptByGrowth P → (deltas : List DeltaValue) (s : FlatState) (actor : Actor) (e : Event) (k : ℕ) (o : Option PageState)
    → ((p : PageState) → s.births ≤ p.birth → p.birth < births_after e s.births → P p) → IfSome o P → IfSome (page_after deltas s actor e k o) P
rises_page P r deltas s (Hart h) (Take page) k o new p = if_map P (at_number page (taken_by h)) o (λ found is e. at_stays P page (taken_by h) (λ p e. r.same p (taken_by h p) refl (omega arith) e) found e) p
rises_page P r deltas s (Hart h) (Put va width value) k o new p =
    if_map P (at_number (page_of va) (put_with (va % 4096) width value)) o (λ found is e. at_stays P (page_of va) (put_with (va % 4096) width value) (λ p e. r.same p (put_with (va % 4096) width value p) refl (omega arith) e) found e) p
rises_page P r deltas s (Hart h) (Swap va width old more) k o new p =
    if_map P (at_number (page_of va) (put_with (va % 4096) width more)) o (λ found is e. at_stays P (page_of va) (put_with (va % 4096) width more) (λ p e. r.same p (put_with (va % 4096) width more p) refl (omega arith) e) found e) p
rises_page P r deltas s (Hart h) (End pc) k o new p =
    if_map P (given_by s h (slice_get s.harts h)) o (λ found is e. given_stays P s h (slice_get s.harts h) (λ last put p e. r.same p (given_back last put p) refl (given_more last put p) e) found e) p
rises_page P r deltas s actor (Map first n write patch) k o new p = mapped_rises P deltas patch write first s.births n k o new p
rises_page P r deltas s actor (Going first n) k o new p = if_map P (going_in first n) o (λ found is e. let kept = going_birth first n found in r.same found (going_in first n found) kept.0 kept.1 e) p
rises_page P r deltas s actor (Ending page) k o new p = if_map P (at_number page ending) o (λ found is e. at_stays P page ending (λ p e. r.same p (ending p) refl (omega arith) e) found e) p
rises_page P r deltas s actor (Gone page worn) k o new p = gone_stays P (k == page) o p
rises_page P r deltas s actor e k o new p = p

rises : (P : PageState → Type 0) → IsKeptByGrowth P → (deltas : List DeltaValue) (s : FlatState) (actor : Actor) (e : Event) (k : ℕ) → ((p : PageState) → s.births ≤ p.birth → p.birth < births_after e s.births → P p)
    → IfSome (data_in s.pages k) P → IfSome (data_in (flat_after deltas s actor e).pages k) P
rises P r deltas s actor e k new p = subst (λ (o : Option PageState). IfSome o P) (sym (data_after deltas s actor e k)) (rises_page P r deltas s actor e k (data_in s.pages k) new p)

births_more : (e : Event) (births : ℕ) → births ≤ births_after e births
births_more (Map first n write patch) births = omega arith
births_more e births = omega arith

-- each page was born before the next birth
abbrev pub AreOld : FlatState → Type 0
AreOld s = (k : ℕ) → IfSome (data_in s.pages k) (λ (page : PageState). page.birth < s.births)

pub old_after : (deltas : List DeltaValue) (s : FlatState) (actor : Actor) (e : Event) → AreOld s → AreOld (flat_after deltas s actor e)
old_after deltas s actor e old k =
    let births : ℕ = births_after e s.births in
    let more : s.births ≤ births = births_more e s.births in
    let wider : IfSome (data_in s.pages k) (λ (page : PageState). page.birth < births) = by_page (data_in s.pages k) (old k) more in
    let r : IsKeptByGrowth (λ (page : PageState). page.birth < births) = record { same = λ p q same more e. subst (λ (b : ℕ). b < births) same e } in
    subst (λ (n : ℕ). IfSome (data_in (flat_after deltas s actor e).pages k) (λ (page : PageState). page.birth < n)) (sym (births_kept deltas s actor e))
    (rises (λ (page : PageState). page.birth < births) r deltas s actor e k (λ p from to. to) wider)
  where
    by_page : (o : Option PageState) → IfSome o (λ (page : PageState). page.birth < s.births) → s.births ≤ births_after e s.births → IfSome o (λ (page : PageState). page.birth < births_after e s.births)
    by_page None p more = tt
    by_page (Some page) p more = omega arith

pub old_start : (s : FlatState) → HasOldBirths s → AreOld s
old_start s old k = by_page (data_in s.pages k) refl
  where
    by_page : (o : Option PageState) → data_in s.pages k ≡ o → IfSome o (λ (page : PageState). page.birth < s.births)
    by_page None is = tt
    by_page (Some page) is = found_all (λ (page : PageState). page.birth < s.births) s.pages k page old is

-- the page of a number, if it is of this mapping, was written so often
abbrev HasWrites : ℕ → ℕ → PageState → Type 0
HasWrites birth writes page = page.birth ≡ birth → writes ≤ page.writes

pub record IsGrown (s : FlatState) (number birth writes : ℕ) : Type 0 where
  pub old : birth < s.births
  pub grown : IfSome (data_in s.pages number) (HasWrites birth writes)

pub grown_after : (deltas : List DeltaValue) (s : FlatState) (actor : Actor) (e : Event) (number birth writes : ℕ) → IsGrown s number birth writes → IsGrown (flat_after deltas s actor e) number birth writes
grown_after deltas s actor e number birth writes g =
    let old : birth < births_after e s.births = (let more = births_more e s.births in let before = g.old in omega arith) in
    let r : IsKeptByGrowth (HasWrites birth writes) = record { same = λ p q same more k is. (let low : writes ≤ p.writes = k (same ∙ is) in omega arith) } in
    record {
      old = subst (λ (n : ℕ). birth < n) (sym (births_kept deltas s actor e)) old;
      grown = rises (HasWrites birth writes) r deltas s actor e number (λ p from to is. absurd (let before = g.old in omega arith)) g.grown;
    }

-- a hart that holds the page has made its write
pub record Mark (s : FlatState) (number : ℕ) : Type 0 where
  pub by : ℕ
  pub held : IsHeld s by number
  pub hart : HartState
  pub is_hart : bare_at s.harts by ≡ Some hart
  pub put : hart.put ≡ true
  pub looked : is_some hart.looked ≡ true

-- the page was written more often, or is about to count one more write
abbrev pub IsDirty : FlatState → ℕ → ℕ → ℕ → Type 0
IsDirty s number birth writes = IsGrown s number birth (writes + 1) ⊎ Mark s number

-- at the End of such a hart
more_writes : (put : Bool) (last writes : ℕ) (p : PageState) → put ≡ true → writes ≤ p.writes → writes < last → writes + 1 ≤ (given_back last put p).writes
more_writes false last writes p e low below = absurd (cc)
more_writes true last writes p e low below = by_test (nat_lt p.writes last) refl
  where
    by_test : (b : Bool) → nat_lt p.writes last ≡ b → writes + 1 ≤ (if b then p.writes + 1 else p.writes)
    by_test true t = omega arith
    by_test false t = grind (arith, nat_tests)

end_counts : (deltas : List DeltaValue) (s : FlatState) (h number birth writes pc : ℕ) (hart : HartState) → Grip s h number → IsHeld s h number → slice_get s.harts h ≡ Some hart → hart.put ≡ true → IsGrown s number birth writes → writes < s.limits.last_writes
    → IsGrown (flat_after deltas s (Hart h) (End pc)) number birth (writes + 1)
end_counts deltas s h number birth writes pc hart g e is put there low =
    let page = held_there h (data_in s.pages number) e in
    let before : HasWrites birth writes page.0 = subst (λ (o : Option PageState). IfSome o (HasWrites birth writes)) page.1 there.grown in
    let now : data_in (give_back s h).pages number ≡ Some (given_back s.limits.last_writes hart.put page.0) = end_page s h number hart page.0 g e is page.1 in
    record {
      old = subst (λ (n : ℕ). birth < n) (sym (births_kept deltas s (Hart h) (End pc))) there.old;
      grown = subst (λ (o : Option PageState). IfSome o (HasWrites birth (writes + 1))) (sym now) (λ same. more_writes hart.put s.limits.last_writes writes page.0 put (before same) low);
    }

unlooked : (s : FlatState) (h : ℕ) (hart x : HartState) → slice_get s.harts h ≡ Some hart → bare_at s.harts h ≡ Some x → is_some x.looked ≡ true → hart.looked ≡ None → ⊥
unlooked s h hart x is bared looked none =
    let now : is_some hart.looked ≡ true = subst (λ (x : HartState). is_some x.looked ≡ true) (same_bare s.harts h hart x is bared) looked in
    let never : is_some hart.looked ≡ false = rw none refl in
    cc

mark_own : (deltas : List DeltaValue) (s : FlatState) (h number birth writes : ℕ) (x : HartState) (e : Event) → Grip s h number → IsHeld s h number → bare_at s.harts h ≡ Some x → x.put ≡ true → is_some x.looked ≡ true
    → IsGrown s number birth writes → writes < s.limits.last_writes → MayAct s (Hart h) e → IsDirty (flat_after deltas s (Hart h) e) number birth writes
mark_own deltas s h number birth writes x (Fetch pc word) g e is put looked there low p = let w = some_and (slice_get s.harts h) _ p in absurd (fetch_access w.0 g.access w.2.1.0 (grip_access s h number w.0 g w.1))
mark_own deltas s h number birth writes x (Look va width value) g e is put looked there low p = let w = some_and (slice_get s.harts h) _ p in absurd (unlooked s h w.0 x w.1 is looked w.2.1.1)
mark_own deltas s h number birth writes x (Take page) g e is put looked there low p = let w = some_and (slice_get s.harts h) _ p in absurd (unlooked s h w.0 x w.1 is looked (taking s w.0 page w.2.1).unlooked)
mark_own deltas s h number birth writes x (Put va width value) g e is put looked there low p = let w = some_and (slice_get s.harts h) _ p in absurd (unlooked s h w.0 x w.1 is looked w.2.1.2)
mark_own deltas s h number birth writes x (Swap va width old new) g e is put looked there low p = let w = some_and (slice_get s.harts h) _ p in absurd (unlooked s h w.0 x w.1 is looked w.2.1.2)
mark_own deltas s h number birth writes x (Miss va) g e is put looked there low p = let w = some_and (slice_get s.harts h) _ p in absurd (unlooked s h w.0 x w.1 is looked (missing s h w.0 va w.2.1).unlooked)
mark_own deltas s h number birth writes x (End pc) g e is put looked there low p =
    let w = some_and (slice_get s.harts h) _ p in
    let made : w.0.put ≡ true = subst (λ (x : HartState). x.put ≡ true) (same_bare s.harts h w.0 x w.1 is) put in
    inl (end_counts deltas s h number birth writes pc w.0 g e w.1 made there low)
mark_own deltas s h number birth writes x (Again page) g e is put looked there low p = let w = some_and (slice_get s.harts h) _ p in absurd (grip_stays s h number page w.0 g e w.1 w.2.1)
mark_own deltas s h number birth writes x (Wait on) g e is put looked there low p = let w = some_and (slice_get s.harts h) _ p in absurd (grip_waits s h number on w.0 g e w.1 w.2.1)
mark_own deltas s h number birth writes x Enter g e is put looked there low p = let w = some_and (slice_get s.harts h) _ p in absurd (w.2.1.1 (grip_quiet s h number w.0 g e w.1))
mark_own deltas s h number birth writes x Idle g e is put looked there low p = inr (record { by = h; held = e; hart = x; is_hart = is; put = put; looked = looked })
mark_own deltas s h number birth writes x event g e is put looked there low p = absurd p

mark_after : (m : Moment) (number birth writes : ℕ) (actor : Actor) (e : Event) → IsSettled m → Allows m actor e → IsGrown m.flat number birth writes → writes < m.flat.limits.last_writes
    → Mark m.flat number → IsDirty (flat_after m.deltas m.flat actor e) number birth writes
mark_after m number birth writes (Hart k) e settled a there low mark = elim (cases_eq mark.by k) [
  | inl same ↦ (
      let held : IsHeld m.flat k number = subst (λ (x : ℕ). IsHeld m.flat x number) same mark.held in
      let is : bare_at m.flat.harts k ≡ Some mark.hart = subst (λ (x : ℕ). bare_at m.flat.harts x ≡ Some mark.hart) same mark.is_hart in
      let g = settled.1 k number held in
      mark_own m.deltas m.flat k number birth writes mark.hart e g held is mark.put mark.looked there low (acts m k e g.outside a))
  | inr apart ↦ inr (record {
    by = mark.by;
    held = held_after m mark.by number (Hart k) e settled.0 a (λ pc is. apart (let same : Hart k ≡ Hart mark.by = ap (λ (entry : Entry). entry.actor) is in cc)) mark.held;
    hart = mark.hart;
    is_hart = other_after m.deltas m.flat k mark.by e apart ∙ mark.is_hart;
    put = mark.put;
    looked = mark.looked;
  })
]
mark_after m number birth writes Kernel e settled a there low mark = inr (record {
  by = mark.by;
  held = held_after m mark.by number Kernel e settled.0 a (λ pc is. let actors : Kernel ≡ Hart mark.by = ap (λ (entry : Entry). entry.actor) is in cc) mark.held;
  hart = mark.hart;
  is_hart = kernel_after m.deltas m.flat e mark.by ∙ mark.is_hart;
  put = mark.put;
  looked = mark.looked;
})

pub dirty_after : (m : Moment) (number birth writes : ℕ) (actor : Actor) (e : Event) → IsSettled m → Allows m actor e → IsGrown m.flat number birth writes → writes < m.flat.limits.last_writes
    → IsDirty m.flat number birth writes → IsDirty (flat_after m.deltas m.flat actor e) number birth writes
dirty_after m number birth writes actor e settled a there low (inl more) = inl (grown_after m.deltas m.flat actor e number birth (writes + 1) more)
dirty_after m number birth writes actor e settled a there low (inr mark) = mark_after m number birth writes actor e settled a there low mark

-- a write marks its page
marks : (m : Moment) (k number page : ℕ) (e : Event) (hart : HartState) → IsLateCall m.call → Allows m (Hart k) e → ((pc : ℕ) → e ≢ End pc) → number ≡ page → IsHeld m.flat k page
    → slice_get m.flat.harts k ≡ Some hart → (own_change m.flat e hart).put ≡ true → is_some (own_change m.flat e hart).looked ≡ true → Mark (flat_after m.deltas m.flat (Hart k) e) number
marks m k number page e hart late a unended same held is put looked = record {
  by = k;
  held = held_after m k number (Hart k) e late a (λ pc is. unended pc (ap (λ (entry : Entry). entry.event) is)) (subst (λ (n : ℕ). IsHeld m.flat k n) (sym same) held);
  hart = bare (own_change m.flat e hart);
  is_hart = bare_own m.deltas m.flat k e hart is;
  put = put;
  looked = looked;
}

no_kernel_act : (m : Moment) (e : Event) → (e ≡ Idle) ⊎ ⊥ → e ≢ Idle → ⊥
no_kernel_act m e (inl idle) apart = apart idle
no_kernel_act m e (inr never) apart = never

pub written : (m : Moment) (number : ℕ) (actor : Actor) (e : Event) → IsLateCall m.call → Allows m actor e → Writes number e → Mark (flat_after m.deltas m.flat actor e) number
written m number (Hart k) (Put va width value) late a writes =
    let w = some_and (slice_get m.flat.harts k) _ (acts_outside m k (Put va width value) refl late a) in
    marks m k number (page_of va) (Put va width value) w.0 late a (λ pc is. cc) writes w.2.1.1 w.1 refl refl
written m number (Hart k) (Swap va width old new) late a writes =
    let w = some_and (slice_get m.flat.harts k) _ (acts_outside m k (Swap va width old new) refl late a) in
    marks m k number (page_of va) (Swap va width old new) w.0 late a (λ pc is. cc) writes w.2.1.1 w.1 refl refl
written m number Kernel (Put va width value) late a writes = absurd (no_kernel_act m (Put va width value) (kernel_acts m (Put va width value) refl late a) (λ is. cc))
written m number Kernel (Swap va width old new) late a writes = absurd (no_kernel_act m (Swap va width old new) (kernel_acts m (Swap va width old new) refl late a) (λ is. cc))
written m number actor e late a writes = absurd writes
