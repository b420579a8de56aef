-- What each entry changes in a hart, but for the pages that moved, and who is inside behind it.
use Rattle.std.proofs.Common.{◌≡◌, ◌≢◌, ℕ, zero, suc, List, [], ◌∷◌, Option, Some, None, Bool, true, false, ◌==◌, is_some, map, refl, sym, subst, ap, ◌∙◌, arith}
use Rattle.std.specs.Prelude.{◌+◌, if◌then◌else◌, length, slice_get}
use Rattle.std.specs.List.{range_with_len}
use Rattle.std.specs.Option.{option_map, IfSome}
use Rattle.std.proofs.lemmas.Bool.Decides.{nat_tests}
use Rattle.rv_inst.specs.Arch.{ArchState}
use Rattle.rv_inst.specs.declared.inst.Inst.{Inst}
use Rattle.rv_inst.specs.declared.inst.Inst.TheVariants.{Ecall}
use Rattle.wf_outside.specs.Images.{DeltaValue}
use Rattle.wf_outside.specs.Pages.{page_of}
use Rattle.wf_flat.specs.declared.event.Actor.{Actor}
use Rattle.wf_flat.specs.declared.event.Actor.TheVariants.{Hart, Kernel}
use Rattle.wf_flat.specs.declared.event.Event.{Event}
use Rattle.wf_flat.specs.declared.event.Event.TheVariants.{Fetch, Look, Take, Put, Swap, Miss, End, Again, Wait, Enter, Sync, Trap, Exit, Out, Idle, Map, Going, Ending, Gone, Born, Move, Dead, Refused}
use Rattle.wf_flat.specs.State.{FlatState, HartState, PageState}
use Rattle.wf_flat.specs.Lists.{changed_at, others_changed, with_number}
use Rattle.wf_flat.specs.Accesses.{Access, holds}
use Rattle.wf_flat.specs.Refusals.{refused_answer}
use Rattle.wf_flat.specs.Steps.{access_in, arch_by, inst_in, is_inside}
use Rattle.wf_flat.specs.Changes.{answered, change_page, ended, exited_with, fetched_with, give_back, give_back_by, give_back_of, given_back, looked_with, missed, note_page, noted, noted_in, swapped_by, trapped_with, tried, without, written_by}
use Rattle.wf_flat.proofs.HartLemmas.{get-changed_at}
use Rattle.wf_flat.proofs.ListLemmas.{changed_next}
use Rattle.wf_effects.specs.Effects.{all_noted, moved_to}
use Rattle.wf_legal.specs.Events.{flat_after}

-- a hart without the pages that moved, which other harts change
abbrev pub bare : HartState → HartState
bare hart = record hart { moved = [] }

abbrev pub bare_at : List HartState → ℕ → Option HartState
bare_at harts h = option_map bare (slice_get harts h)

-- what an event of a hart changes in it, but for the pages that moved
abbrev pub own_change : FlatState → Event → HartState → HartState
own_change s (Fetch pc word) hart = fetched_with word hart
own_change s (Look va width value) hart = looked_with s va width value hart
own_change s (Take page) hart = hart
own_change s (Put va width value) hart = written_by hart
own_change s (Swap va width old new) hart = swapped_by old hart
own_change s (Miss va) hart = missed hart
own_change s (End pc) hart = ended hart
own_change s (Again page) hart = tried hart
own_change s (Wait on) hart = tried hart
own_change s Enter hart = hart
own_change s (Sync generation page) hart = hart
own_change s (Trap cause value) hart = trapped_with cause value hart
own_change s (Exit code) hart = exited_with code hart
own_change s (Out byte) hart = answered 0 hart
own_change s Idle hart = hart
own_change s (Map page n write patch) hart = answered 0 hart
own_change s (Going page n) hart = answered 0 hart
own_change s (Ending page) hart = hart
own_change s (Gone page worn) hart = hart
own_change s (Born generation parent patch) hart = answered generation hart
own_change s (Move generation) hart = moved_to generation hart
own_change s (Dead generation) hart = answered 0 hart
own_change s (Refused reason) hart = answered (refused_answer reason) hart

-- where the others change in the pages that moved alone
map_bare : (f : HartState → HartState) → ((x : HartState) → bare (f x) ≡ bare x) → (xs : List HartState) (i : ℕ) → bare_at (map f xs) i ≡ bare_at xs i
map_bare f k [] i = refl
map_bare f k (x ∷ xs) zero = ap Some (k x)
map_bare f k (x ∷ xs) (suc i) = map_bare f k xs i

others_bare : (f : HartState → HartState) → ((x : HartState) → bare (f x) ≡ bare x) → (xs : List HartState) (h i : ℕ) → bare_at (others_changed xs h f) i ≡ bare_at xs i
others_bare f k [] h i = refl
others_bare f k (x ∷ xs) zero zero = refl
others_bare f k (x ∷ xs) zero (suc i) = map_bare f k xs i
others_bare f k (x ∷ xs) (suc h) zero = ap Some (k x)
others_bare f k (x ∷ xs) (suc h) (suc i) = others_bare f k xs h i

-- where another changes
pub changed_other : {A : Type 0} (f : A → A) (xs : List A) (h i : ℕ) → i ≢ h → slice_get (changed_at xs h f) i ≡ slice_get xs i
changed_other f [] h i apart = refl
changed_other f (x ∷ xs) zero zero apart = absurd (apart refl)
changed_other f (x ∷ xs) zero (suc i) apart = refl
changed_other f (x ∷ xs) (suc h) zero apart = rw (changed_next x xs h f) refl
changed_other f (x ∷ xs) (suc h) (suc i) apart = rw (changed_next x xs h f) (changed_other f xs h i (λ e. apart (ap suc e)))

other_bare : (f : HartState → HartState) (xs : List HartState) (h i : ℕ) → i ≢ h → bare_at (changed_at xs h f) i ≡ bare_at xs i
other_bare f xs h i apart = ap (option_map bare) (changed_other f xs h i apart)

noted_bare : (page : ℕ) (hart : HartState) → bare (noted page hart) ≡ bare hart
noted_bare page hart = by_fetched (is_some hart.fetched)
  where
    by_fetched : (b : Bool) → bare (if b then record hart { moved = with_number page hart.moved } else hart) ≡ bare hart
    by_fetched true = refl
    by_fetched false = refl

noted_in_bare : (generation page : ℕ) (hart : HartState) → bare (noted_in generation page hart) ≡ bare hart
noted_in_bare generation page hart = by_generation (hart.generation == generation)
  where
    by_generation : (b : Bool) → bare (if b then noted page hart else hart) ≡ bare hart
    by_generation true = noted_bare page hart
    by_generation false = refl

note_bare : (harts : List HartState) (h page i : ℕ) → bare_at (others_changed harts h (noted page)) i ≡ bare_at harts i
note_bare harts h page i = others_bare (noted page) (noted_bare page) harts h i

met_bare : (harts : List HartState) (h generation page i : ℕ) → bare_at (others_changed harts h (noted_in generation page)) i ≡ bare_at harts i
met_bare harts h generation page i = others_bare (noted_in generation page) (noted_in_bare generation page) harts h i

all_bare : (harts : List HartState) (at : ℕ) (pages : List ℕ) (i : ℕ) → bare_at (others_changed harts at (all_noted pages)) i ≡ bare_at harts i
all_bare harts at pages i = others_bare (all_noted pages) (λ x. refl) harts at i

-- what a page that is given back keeps
pub record Given (s after : FlatState) : Type 0 where
  pub harts : (i : ℕ) → bare_at after.harts i ≡ bare_at s.harts i
  pub gens : after.gens ≡ s.gens
  pub inside : after.inside ≡ s.inside
  pub limits : after.limits ≡ s.limits
  pub births : after.births ≡ s.births

given_by : (b : Bool) (s : FlatState) (h page : ℕ) (f : PageState → PageState) → Given s (if b then note_page (change_page s page f) h page else s)
given_by true s h page f = record { harts = λ i. note_bare s.harts h page i; gens = refl; inside = refl; limits = refl; births = refl }
given_by false s h page f = record { harts = λ i. refl; gens = refl; inside = refl; limits = refl; births = refl }

given_of : (s : FlatState) (h : ℕ) (hart : HartState) (o : Option Access) → Given s (give_back_of s h hart o)
given_of s h hart None = record { harts = λ i. refl; gens = refl; inside = refl; limits = refl; births = refl }
given_of s h hart (Some access) = given_by (holds s h access) s h (page_of access.va) (given_back s.limits.last_writes hart.put)

given_at : (s : FlatState) (h : ℕ) (o : Option HartState) → Given s (give_back_by s h o)
given_at s h None = record { harts = λ i. refl; gens = refl; inside = refl; limits = refl; births = refl }
given_at s h (Some hart) = given_of s h hart (access_in hart)

pub given : (s : FlatState) (h : ℕ) → Given s (give_back s h)
given s h = given_at s h (slice_get s.harts h)

-- the hart that changes
changed_bare : (f : HartState → HartState) (harts : List HartState) (h : ℕ) → bare_at (changed_at harts h f) h ≡ option_map (λ (x : HartState). bare (f x)) (slice_get harts h)
changed_bare f harts h = ap (option_map bare) (get-changed_at harts h f) ∙ twice (slice_get harts h)
  where
    twice : (o : Option HartState) → option_map bare (option_map f o) ≡ option_map (λ (x : HartState). bare (f x)) o
    twice None = refl
    twice (Some x) = refl

-- a change that the pages that moved have no part in
through_bare : (f : HartState → HartState) → ((x : HartState) → bare (f (bare x)) ≡ bare (f x)) → (one other : Option HartState) → option_map bare one ≡ option_map bare other
    → option_map (λ (x : HartState). bare (f x)) one ≡ option_map (λ (x : HartState). bare (f x)) other
through_bare f k one other e = sym (outer one) ∙ ap (option_map (λ (x : HartState). bare (f x))) e ∙ outer other
  where
    outer : (o : Option HartState) → option_map (λ (x : HartState). bare (f x)) (option_map bare o) ≡ option_map (λ (x : HartState). bare (f x)) o
    outer None = refl
    outer (Some x) = ap Some (k x)

noted_own : (f : HartState → HartState) → ((x : HartState) → bare (f (bare x)) ≡ bare (f x)) → (harts : List HartState) (h : ℕ) (pages : List ℕ)
    → bare_at (changed_at (others_changed harts h (all_noted pages)) h f) h ≡ option_map (λ (x : HartState). bare (f x)) (slice_get harts h)
noted_own f k harts h pages =
    changed_bare f (others_changed harts h (all_noted pages)) h ∙ through_bare f k (slice_get (others_changed harts h (all_noted pages)) h) (slice_get harts h) (all_bare harts h pages h)

arch_bare : (o : Option Inst) (x : HartState) → arch_by o (bare x) ≡ arch_by o x
arch_bare None x = refl
arch_bare (Some Ecall) x = refl
arch_bare (Some inst) x = refl

end_bare : (x : HartState) → bare (ended (bare x)) ≡ bare (ended x)
end_bare x = ap (λ (arch : ArchState). record (bare x) { fetched = None; arch = arch }) (arch_bare (inst_in x) x)

-- what a hart's own entry leaves of it
pub own_after : (deltas : List DeltaValue) (s : FlatState) (h : ℕ) (e : Event) → bare_at (flat_after deltas s (Hart h) e).harts h ≡ option_map (λ (x : HartState). bare (own_change s e x)) (slice_get s.harts h)
own_after deltas s h (Fetch pc word) = changed_bare (fetched_with word) s.harts h
own_after deltas s h (Look va width value) = changed_bare (looked_with s va width value) s.harts h
own_after deltas s h (Take page) = note_bare s.harts h page h
own_after deltas s h (Put va width value) = changed_bare written_by s.harts h
own_after deltas s h (Swap va width old new) = changed_bare (swapped_by old) s.harts h
own_after deltas s h (Miss va) = changed_bare missed s.harts h
own_after deltas s h (End pc) = changed_bare ended (give_back s h).harts h ∙ through_bare ended end_bare (slice_get (give_back s h).harts h) (slice_get s.harts h) ((given s h).harts h)
own_after deltas s h (Again page) = changed_bare tried s.harts h
own_after deltas s h (Wait on) = changed_bare tried s.harts h
own_after deltas s h Enter = refl
own_after deltas s h (Sync generation page) = met_bare s.harts h generation page h
own_after deltas s h (Trap cause value) = changed_bare (trapped_with cause value) s.harts h
own_after deltas s h (Exit code) = changed_bare (exited_with code) s.harts h
own_after deltas s h (Out byte) = changed_bare (answered 0) s.harts h
own_after deltas s h Idle = refl
own_after deltas s h (Map page n write patch) = noted_own (answered 0) (λ x. refl) s.harts h (range_with_len page n)
own_after deltas s h (Going page n) = noted_own (answered 0) (λ x. refl) s.harts h (range_with_len page n)
own_after deltas s h (Ending page) = all_bare s.harts h (page ∷ []) h
own_after deltas s h (Gone page worn) = all_bare s.harts h (page ∷ []) h
own_after deltas s h (Born generation parent patch) = changed_bare (answered generation) s.harts h
own_after deltas s h (Move generation) = changed_bare (moved_to generation) s.harts h
own_after deltas s h (Dead generation) = changed_bare (answered 0) s.harts h
own_after deltas s h (Refused reason) = changed_bare (answered (refused_answer reason)) s.harts h

-- and of each other
pub other_after : (deltas : List DeltaValue) (s : FlatState) (k i : ℕ) (e : Event) → i ≢ k → bare_at (flat_after deltas s (Hart k) e).harts i ≡ bare_at s.harts i
other_after deltas s k i (Fetch pc word) apart = other_bare (fetched_with word) s.harts k i apart
other_after deltas s k i (Look va width value) apart = other_bare (looked_with s va width value) s.harts k i apart
other_after deltas s k i (Take page) apart = note_bare s.harts k page i
other_after deltas s k i (Put va width value) apart = other_bare written_by s.harts k i apart
other_after deltas s k i (Swap va width old new) apart = other_bare (swapped_by old) s.harts k i apart
other_after deltas s k i (Miss va) apart = other_bare missed s.harts k i apart
other_after deltas s k i (End pc) apart = other_bare ended (give_back s k).harts k i apart ∙ (given s k).harts i
other_after deltas s k i (Again page) apart = other_bare tried s.harts k i apart
other_after deltas s k i (Wait on) apart = other_bare tried s.harts k i apart
other_after deltas s k i Enter apart = refl
other_after deltas s k i (Sync generation page) apart = met_bare s.harts k generation page i
other_after deltas s k i (Trap cause value) apart = other_bare (trapped_with cause value) s.harts k i apart
other_after deltas s k i (Exit code) apart = other_bare (exited_with code) s.harts k i apart
other_after deltas s k i (Out byte) apart = other_bare (answered 0) s.harts k i apart
other_after deltas s k i Idle apart = refl
other_after deltas s k i (Map page n write patch) apart = other_bare (answered 0) (others_changed s.harts k (all_noted (range_with_len page n))) k i apart ∙ all_bare s.harts k (range_with_len page n) i
other_after deltas s k i (Going page n) apart = other_bare (answered 0) (others_changed s.harts k (all_noted (range_with_len page n))) k i apart ∙ all_bare s.harts k (range_with_len page n) i
other_after deltas s k i (Ending page) apart = all_bare s.harts k (page ∷ []) i
other_after deltas s k i (Gone page worn) apart = all_bare s.harts k (page ∷ []) i
other_after deltas s k i (Born generation parent patch) apart = other_bare (answered generation) s.harts k i apart
other_after deltas s k i (Move generation) apart = other_bare (moved_to generation) s.harts k i apart
other_after deltas s k i (Dead generation) apart = other_bare (answered 0) s.harts k i apart
other_after deltas s k i (Refused reason) apart = other_bare (answered (refused_answer reason)) s.harts k i apart

-- the kernel's own actor leaves all
pub kernel_after : (deltas : List DeltaValue) (s : FlatState) (e : Event) (i : ℕ) → bare_at (flat_after deltas s Kernel e).harts i ≡ bare_at s.harts i
kernel_after deltas s (Map page n write patch) i = all_bare s.harts (length s.harts) (range_with_len page n) i
kernel_after deltas s (Going page n) i = all_bare s.harts (length s.harts) (range_with_len page n) i
kernel_after deltas s (Ending page) i = all_bare s.harts (length s.harts) (page ∷ []) i
kernel_after deltas s (Gone page worn) i = all_bare s.harts (length s.harts) (page ∷ []) i
kernel_after deltas s e i = refl

-- the hart that is there
pub same_bare : (harts : List HartState) (h : ℕ) (hart x : HartState) → slice_get harts h ≡ Some hart → bare_at harts h ≡ Some x → x ≡ bare hart
same_bare harts h hart x is bared = let there : bare_at harts h ≡ Some (bare hart) = ap (option_map bare) is in cc

pub bare_own : (deltas : List DeltaValue) (s : FlatState) (h : ℕ) (e : Event) (hart : HartState) → slice_get s.harts h ≡ Some hart → bare_at (flat_after deltas s (Hart h) e).harts h ≡ Some (bare (own_change s e hart))
bare_own deltas s h e hart is = own_after deltas s h e ∙ ap (option_map (λ (x : HartState). bare (own_change s e x))) is

-- what a hart's own change leaves of what holds of it
pub if_own : (P Q : HartState → Type 0) (deltas : List DeltaValue) (s : FlatState) (h : ℕ) (e : Event) → ((x : HartState) → P (bare x) → Q (bare (own_change s e x)))
    → IfSome (bare_at s.harts h) P → IfSome (bare_at (flat_after deltas s (Hart h) e).harts h) Q
if_own P Q deltas s h e k p = subst (λ (o : Option HartState). IfSome o Q) (sym (own_after deltas s h e)) (by_hart (slice_get s.harts h) p)
  where
    by_hart : (o : Option HartState) → IfSome (option_map bare o) P → IfSome (option_map (λ (x : HartState). bare (own_change s e x)) o) Q
    by_hart None p = tt
    by_hart (Some x) p = k x p

-- who is outside the kernel stays outside where another acts
without_outside : (inside : Option Actor) (one other : Actor) → is_inside inside other ≡ false → is_inside (without inside one) other ≡ false
without_outside inside one other e = by_test (is_inside inside one)
  where
    by_test : (b : Bool) → is_inside (if b then None else inside) other ≡ false
    by_test true = refl
    by_test false = e

other_inside : (k h : ℕ) → h ≢ k → is_inside (Some (Hart k)) (Hart h) ≡ false
other_inside k h apart = grind (arith, nat_tests)

pub outside_other : (deltas : List DeltaValue) (s : FlatState) (k h : ℕ) (e : Event) → h ≢ k → is_inside s.inside (Hart h) ≡ false → is_inside (flat_after deltas s (Hart k) e).inside (Hart h) ≡ false
outside_other deltas s k h (End pc) apart e = without_outside (give_back s k).inside (Hart k) (Hart h) (ap (λ (i : Option Actor). is_inside i (Hart h)) (given s k).inside ∙ e)
outside_other deltas s k h Enter apart e = other_inside k h apart
outside_other deltas s k h (Sync generation page) apart e = without_outside s.inside (Hart k) (Hart h) e
outside_other deltas s k h (Exit code) apart e = without_outside s.inside (Hart k) (Hart h) e
outside_other deltas s k h (Trap cause value) apart e = without_outside s.inside (Hart k) (Hart h) e
outside_other deltas s k h (Again page) apart e = without_outside s.inside (Hart k) (Hart h) e
outside_other deltas s k h event apart e = e

pub outside_kernel : (deltas : List DeltaValue) (s : FlatState) (h : ℕ) (e : Event) → is_inside s.inside (Hart h) ≡ false → is_inside (flat_after deltas s Kernel e).inside (Hart h) ≡ false
outside_kernel deltas s h Enter e = refl
outside_kernel deltas s h (Born generation parent patch) e = without_outside s.inside Kernel (Hart h) e
outside_kernel deltas s h (Dead generation) e = without_outside s.inside Kernel (Hart h) e
outside_kernel deltas s h (Refused reason) e = without_outside s.inside Kernel (Hart h) e
outside_kernel deltas s h event e = e

-- limits stay
pub limits_kept : (deltas : List DeltaValue) (s : FlatState) (actor : Actor) (e : Event) → (flat_after deltas s actor e).limits ≡ s.limits
limits_kept deltas s (Hart k) (End pc) = (given s k).limits
limits_kept deltas s (Hart k) e = refl
limits_kept deltas s Kernel Enter = refl
limits_kept deltas s Kernel e = refl

-- births rise
abbrev pub births_after : Event → ℕ → ℕ
births_after (Map page n write patch) births = births + n
births_after e births = births

pub births_kept : (deltas : List DeltaValue) (s : FlatState) (actor : Actor) (e : Event) → (flat_after deltas s actor e).births ≡ births_after e s.births
births_kept deltas s (Hart k) (End pc) = (given s k).births
births_kept deltas s (Hart k) e = refl
births_kept deltas s Kernel Enter = refl
births_kept deltas s Kernel e = refl
