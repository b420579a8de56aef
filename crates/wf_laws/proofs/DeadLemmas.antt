-- At a Dead no running hart is in the generation, and none fetches its text later.
use Rattle.std.proofs.Common.{◌≡◌, ◌≢◌, ◌<◌, ◌⊎◌, inl, inr, ℕ, zero, suc, ◌+◌, ◌-◌, List, [], ◌∷◌, ◌++◌, length, Option, Some, None, Bool, true, false, ◌&&◌, ◌==◌, is_some, map, refl, sym, subst, ap, ◌∙◌, arith}
use Rattle.std.specs.Prelude.{nat_lt, slice_get, if◌then◌else◌, unwrap_or}
use Rattle.std.specs.Option.{option_map, IfSome}
use Rattle.std.specs.List.{AllByRecursion, position_or_len, range_with_len}
use Rattle.std.proofs.lemmas.Bool.{cases_eq}
use Rattle.std.proofs.lemmas.Bool.Decides.{nat_tests}
use Rattle.wf_outside.specs.declared.refusal.Refusal.TheVariants.{NotEmpty}
use Rattle.wf_outside.specs.Images.{DeltaValue}
use Rattle.wf_flat.specs.declared.event.Actor.{Actor}
use Rattle.wf_flat.specs.declared.event.Actor.TheVariants.{Hart, Kernel}
use Rattle.wf_flat.specs.declared.event.Event.{Event}
use Rattle.wf_flat.specs.declared.event.Event.TheVariants.{Fetch, Exit, Trap, Map, Born, Move, Dead}
use Rattle.wf_flat.specs.declared.event.Entry.{Entry}
use Rattle.wf_flat.specs.declared.state.Life.TheVariants.{Running}
use Rattle.wf_flat.specs.State.{FlatState, GenState, HartState}
use Rattle.wf_flat.proofs.HartLemmas.{get-changed_at}
use Rattle.wf_flat.proofs.ListLemmas.{and_some, some_and}
use Rattle.wf_effects.specs.Effects.{dead, newborn, reaching}
use Rattle.wf_effects.specs.Generations.{is_live, is_running, lowest_in, newest, newest_live}
use Rattle.wf_verdict.specs.declared.requests.Request.{Request}
use Rattle.wf_verdict.specs.declared.requests.Request.TheVariants.{Deletes}
use Rattle.wf_verdict.specs.Verdict.{no_view, not_empty, refusal_of}
use Rattle.wf_legal.specs.Events.{flat_after}
use Rattle.wf_legal.specs.Legal.{Moment, Allows, after, at_rest, end_of}
use Rattle.wf_laws.specs.Dead.{DeadAreEmpty, DeadAreNotFetched, StandsByNumber}
use Rattle.wf_laws.proofs.CallLemmas.{IsLateCall, acts_outside, call_kept, first_begins}
use Rattle.wf_laws.proofs.CarryLemmas.{at, at_two, behind, carried, late_end}
use Rattle.wf_laws.proofs.BareLemmas.{bare, changed_other, kernel_after, other_after, own_after, own_change}
use Rattle.wf_laws.proofs.FetchLemmas.{own_generation, own_is}
use Rattle.wf_laws.proofs.GenLemmas.{changed_field, count_are, count_more, gens_after, gens_are, get_front, map_field}
use Rattle.wf_laws.proofs.RequestLemmas.{requested, unrefused}
use Rattle.wf_laws.proofs.RefusalLemmas.{dead_work, first_none, last_of_two, moving, none_live}

-- where no place is found, no element passes
by_test : {A : Type 0} (test : A → Bool) (x : A) (xs : List A) (b : Bool) → test x ≡ b → (nat_lt (position_or_len test xs) (length xs) ≡ false → AllByRecursion (λ (x : A). test x ≡ false) xs)
    → nat_lt (position_or_len test (x ∷ xs)) (length (x ∷ xs)) ≡ false → AllByRecursion (λ (x : A). test x ≡ false) (x ∷ xs)
by_test test x xs true t rest e = absurd (let first : position_or_len test (x ∷ xs) ≡ 0 = rw t refl in let low : nat_lt 0 (length xs + 1) ≡ true = grind (arith, nat_tests) in let now : nat_lt 0 (suc (length xs)) ≡ false = subst (λ (n : ℕ). nat_lt n (suc (length xs)) ≡ false) first e in grind (arith, nat_tests))
by_test test x xs false t rest e =
    let next : position_or_len test (x ∷ xs) ≡ 1 + position_or_len test xs = rw t refl in
    let now : nat_lt (1 + position_or_len test xs) (suc (length xs)) ≡ false = subst (λ (n : ℕ). nat_lt n (suc (length xs)) ≡ false) next e in
    (t, rest (grind (arith, nat_tests)))

none_pass : {A : Type 0} (test : A → Bool) (xs : List A) → nat_lt (position_or_len test xs) (length xs) ≡ false → AllByRecursion (λ (x : A). test x ≡ false) xs
none_pass test [] e = tt
none_pass test (x ∷ xs) e = by_test test x xs (test x) refl (none_pass test xs) e

no_position : (b : Bool) (n : ℕ) → (if b then Some n else None) ≡ None → b ≡ false
no_position true n e = absurd (cc)
no_position false n e = refl

pub all_more : {A : Type 0} (P Q : A → Type 0) (xs : List A) → ((x : A) → P x → Q x) → AllByRecursion P xs → AllByRecursion Q xs
all_more P Q [] k p = tt
all_more P Q (x ∷ xs) k p = (k x p.0, all_more P Q xs k p.1)

pub all_at : {A : Type 0} (P : A → Type 0) (xs : List A) (i : ℕ) (x : A) → AllByRecursion P xs → slice_get xs i ≡ Some x → P x
all_at P [] i x p e = absurd (cc)
all_at P (y ∷ xs) zero x p e = (let same : y ≡ x = cc in subst P same p.0)
all_at P (y ∷ xs) (suc i) x p e = all_at P xs i x p.1 e

pub at_all : {A : Type 0} (P : A → Type 0) (xs : List A) → ((i : ℕ) (x : A) → slice_get xs i ≡ Some x → P x) → AllByRecursion P xs
at_all P [] k = tt
at_all P (x ∷ xs) k = (k 0 x refl, at_all P xs (λ i y e. k (suc i) y e))

-- no running hart is in it
apart_of : (hart : HartState) (g : ℕ) → (is_running hart.life && (hart.generation == g)) ≡ false → hart.life ≡ Running → hart.generation ≢ g
apart_of hart g e runs same =
    let running : is_running hart.life ≡ true = rw runs refl in
    let here : (hart.generation == g) ≡ true = grind (arith, nat_tests) in
    let both : (is_running hart.life && (hart.generation == g)) ≡ true = rw (running, here) refl in
    cc

map_none : (o : Option ℕ) → option_map NotEmpty o ≡ None → o ≡ None
map_none None e = refl
map_none (Some h) e = absurd (cc)

-- at a Dead
record Dying (s : FlatState) (g : ℕ) : Type 0 where
  live : is_live s g ≡ true
  empty : AllByRecursion (λ (hart : HartState). hart.life ≡ Running → hart.generation ≢ g) s.harts

dying : (m : Moment) (actor : Actor) (g : ℕ) → IsLateCall m.call → Allows m actor (Dead g) → Dying m.flat g
dying m actor g late a =
    let r = requested m.deltas m.flat actor (Dead g) refl (first_begins m actor (Dead g) refl refl (λ leave. leave) late a) in
    let u = unrefused m.deltas m.flat actor (Dead g) r refl in
    let table : refusal_of m.deltas m.flat r.next (Deletes g) ≡ None = subst (λ (request : Request). refusal_of m.deltas m.flat r.next request ≡ None) (dead_work m.deltas m.flat r.request g u.1) u.0 in
    let viewed : no_view m.flat g ≡ None = first_none (no_view m.flat g) (not_empty m.flat g) table in
    let empty : not_empty m.flat g ≡ None = last_of_two (no_view m.flat g) (not_empty m.flat g) None viewed table in
    let lowest : lowest_in m.flat g ≡ None = map_none (lowest_in m.flat g) empty in
    let none = none_pass (λ (hart : HartState). is_running hart.life && (hart.generation == g)) m.flat.harts (no_position (nat_lt (position_or_len (λ (hart : HartState). is_running hart.life && (hart.generation == g)) m.flat.harts) (length m.flat.harts)) _ lowest) in
    record {
      live = none_live m.flat g viewed;
      empty = all_more _ (λ (hart : HartState). hart.life ≡ Running → hart.generation ≢ g) m.flat.harts (λ hart e. apart_of hart g e) none;
    }

pub empty_at : DeadAreEmpty
empty_at deltas s front back actor g l =
    let start : Moment = at_rest deltas s in
    let w = at start front (record { actor = actor; event = Dead g }) back l in
    (dying (end_of start front) actor g (late_end start front tt w.legal) w.allowed).empty

-- which generations live behind an entry
abbrev live_in : Option GenState → Bool
live_in o = unwrap_or (option_map (λ (gen : GenState). gen.live) o) false

live_there : (gens : List GenState) (g : ℕ) → live_in (slice_get gens g) ≡ true → g < length gens
live_there [] g e = absurd (cc)
live_there (gen ∷ gens) zero e = omega arith
live_there (gen ∷ gens) (suc g) e = (let below = live_there gens g e in omega arith)

field_live : (one other : Option GenState) → option_map (λ (gen : GenState). gen.live) one ≡ option_map (λ (gen : GenState). gen.live) other → live_in one ≡ live_in other
field_live one other e = ap (λ (o : Option Bool). unwrap_or o false) e

lives_by : (deltas : List DeltaValue) (s : FlatState) (e : Event) (g : ℕ) → g < length s.gens → e ≢ Dead g → live_in (slice_get (gens_after deltas s e) g) ≡ live_in (slice_get s.gens g)
lives_by deltas s (Map first n write patch) g below apart = field_live (slice_get (map (reaching (range_with_len first n)) s.gens) g) (slice_get s.gens g) (map_field (λ (gen : GenState). gen.live) (reaching (range_with_len first n)) (λ gen. refl) s.gens g)
lives_by deltas s (Born generation parent patch) g below apart = ap live_in (get_front s.gens (newborn deltas s parent patch ∷ []) g below)
lives_by deltas s (Dead other) g below apart = ap live_in (changed_other dead s.gens other g (λ same. apart (ap Dead (sym same))))
lives_by deltas s e g below apart = refl

lives_after : (deltas : List DeltaValue) (s : FlatState) (actor : Actor) (e : Event) (g : ℕ) → g < length s.gens → e ≢ Dead g → is_live (flat_after deltas s actor e) g ≡ is_live s g
lives_after deltas s actor e g below apart = ap (λ (gens : List GenState). live_in (slice_get gens g)) (gens_are deltas s actor e) ∙ lives_by deltas s e g below apart

dead_live : (o : Option GenState) → live_in (option_map dead o) ≡ false
dead_live None = refl
dead_live (Some gen) = refl

dies : (deltas : List DeltaValue) (s : FlatState) (actor : Actor) (g : ℕ) → is_live (flat_after deltas s actor (Dead g)) g ≡ false
dies deltas s actor g = ap (λ (gens : List GenState). live_in (slice_get gens g)) (gens_are deltas s actor (Dead g)) ∙ ap live_in (get-changed_at s.gens g dead) ∙ dead_live (slice_get s.gens g)

-- a generation that is dead stays so
abbrev IsDead : ℕ → Moment → Type 0
IsDead g m = (g < length m.flat.gens) × (is_live m.flat g ≡ false)

dead_or_not : (e : Event) (g : ℕ) → (e ≡ Dead g) ⊎ (e ≢ Dead g)
dead_or_not (Dead other) g = elim (cases_eq other g) [
  | inl same ↦ inl (ap Dead same)
  | inr apart ↦ inr (λ is. apart (cc))
]
dead_or_not e g = inr (λ is. cc)

stays_dead : (g : ℕ) (m : Moment) (actor : Actor) (e : Event) → IsDead g m → IsDead g (after m actor e)
stays_dead g m actor e p =
    let below = p.0 in
    let count = count_are m.deltas m.flat actor e in
    let rise = count_more e (length m.flat.gens) in (
      omega arith,
      elim (dead_or_not e g) [
        | inl is ↦ subst (λ (e : Event). is_live (flat_after m.deltas m.flat actor e) g ≡ false) (sym is) (dies m.deltas m.flat actor g)
        | inr apart ↦ lives_after m.deltas m.flat actor e g p.0 apart ∙ p.1
      ],
    )

-- generations stand at the place of their number
abbrev IsNumbered : ℕ → Option GenState → Type 0
IsNumbered g o = IfSome (option_map (λ (gen : GenState). gen.number) o) (λ (n : ℕ). n ≡ g)

abbrev AreNumbered : List GenState → Type 0
AreNumbered gens = (g : ℕ) → IsNumbered g (slice_get gens g)

appended : (gens : List GenState) (gen : GenState) (g : ℕ) → (slice_get (gens ++ gen ∷ []) g ≡ slice_get gens g) ⊎ ((g ≡ length gens) × (slice_get (gens ++ gen ∷ []) g ≡ Some gen))
appended [] gen zero = inr (refl, refl)
appended [] gen (suc g) = inl refl
appended (first ∷ gens) gen zero = inl refl
appended (first ∷ gens) gen (suc g) = elim (appended gens gen g) [
  | inl same ↦ inl same
  | inr last ↦ inr (ap suc last.0, last.1)
]

numbers_by : (deltas : List DeltaValue) (s : FlatState) (e : Event) → AreNumbered s.gens → AreNumbered (gens_after deltas s e)
numbers_by deltas s (Map first n write patch) p g = subst (λ (o : Option ℕ). IfSome o (λ (n : ℕ). n ≡ g)) (sym (map_field (λ (gen : GenState). gen.number) (reaching (range_with_len first n)) (λ gen. refl) s.gens g)) (p g)
numbers_by deltas s (Born generation parent patch) p g = elim (appended s.gens (newborn deltas s parent patch) g) [
  | inl same ↦ subst (IsNumbered g) (sym same) (p g)
  | inr last ↦ subst (IsNumbered g) (sym last.1) (sym last.0)
]
numbers_by deltas s (Dead other) p g = subst (λ (o : Option ℕ). IfSome o (λ (n : ℕ). n ≡ g)) (sym (changed_field (λ (gen : GenState). gen.number) dead (λ gen. refl) s.gens other g)) (p g)
numbers_by deltas s e p g = p g

numbers_start : (s : FlatState) → StandsByNumber s → AreNumbered s.gens
numbers_start s p g = by_gen (slice_get s.gens g) refl
  where
    by_gen : (o : Option GenState) → slice_get s.gens g ≡ o → IsNumbered g o
    by_gen None is = tt
    by_gen (Some gen) is = p g gen is

-- the newest generation lives, where one does
some_newest : (gens : List GenState) (so_far : Option ℕ) → is_some so_far ≡ true → is_some (newest_live gens so_far) ≡ true
some_newest [] so_far e = e
some_newest (gen ∷ gens) so_far e = some_newest gens (if gen.live then Some gen.number else so_far) (by_live gen.live)
  where
    by_live : (b : Bool) → is_some (if b then Some gen.number else so_far) ≡ true
    by_live true = refl
    by_live false = e

there_newest : (gens : List GenState) (g : ℕ) (so_far : Option ℕ) → live_in (slice_get gens g) ≡ true → is_some (newest_live gens so_far) ≡ true
there_newest [] g so_far e = absurd (cc)
there_newest (gen ∷ gens) zero so_far e = some_newest gens (if gen.live then Some gen.number else so_far) (rw e refl)
there_newest (gen ∷ gens) (suc g) so_far e = there_newest gens g (if gen.live then Some gen.number else so_far) e

newest_of : (P : ℕ → Type 0) (gens : List GenState) (so_far : Option ℕ) → AllByRecursion (λ (gen : GenState). gen.live ≡ true → P gen.number) gens → IfSome so_far P → IfSome (newest_live gens so_far) P
newest_of P [] so_far all p = p
newest_of P (gen ∷ gens) so_far all p = newest_of P gens (if gen.live then Some gen.number else so_far) all.1 (by_live gen.live refl)
  where
    by_live : (b : Bool) → gen.live ≡ b → IfSome (if b then Some gen.number else so_far) P
    by_live true e = all.0 e
    by_live false e = p

newest_by : (P : ℕ → Type 0) (o : Option ℕ) (d : ℕ) → is_some o ≡ true → IfSome o P → P (unwrap_or o d)
newest_by P None d e p = absurd (cc)
newest_by P (Some n) d e p = p

newest_lives : (s : FlatState) (g : ℕ) → AreNumbered s.gens → is_live s g ≡ true → is_live s (newest s) ≡ true
newest_lives s g numbered live =
    let all : AllByRecursion (λ (gen : GenState). gen.live ≡ true → is_live s gen.number ≡ true) s.gens = at_all (λ (gen : GenState). gen.live ≡ true → is_live s gen.number ≡ true) s.gens (λ i gen is alive.
    let number : gen.number ≡ i = subst (IsNumbered i) is (numbered i) in
    subst (λ (n : ℕ). is_live s n ≡ true) (sym number) (ap live_in is ∙ alive)) in
    newest_by (λ (n : ℕ). is_live s n ≡ true) (newest_live s.gens None) (length s.gens - 1) (there_newest s.gens g None live) (newest_of (λ (n : ℕ). is_live s n ≡ true) s.gens None all tt)

-- what a hart was before an entry
record Came (s : FlatState) (actor : Actor) (e : Event) (i : ℕ) (now : HartState) : Type 0 where
  hart : HartState
  is_hart : slice_get s.harts i ≡ Some hart
  either : ((actor ≡ Hart i) × (bare now ≡ bare (own_change s e hart))) ⊎ (bare now ≡ bare hart)

came_other : (s : FlatState) (actor : Actor) (e : Event) (i : ℕ) (now : HartState) (o : Option HartState) → slice_get s.harts i ≡ o → option_map bare o ≡ Some (bare now) → Came s actor e i now
came_other s actor e i now None is same = absurd (cc)
came_other s actor e i now (Some hart) is same = record { hart = hart; is_hart = is; either = inr (cc) }

came_own : (s : FlatState) (e : Event) (i : ℕ) (now : HartState) (o : Option HartState) → slice_get s.harts i ≡ o → option_map (λ (x : HartState). bare (own_change s e x)) o ≡ Some (bare now) → Came s (Hart i) e i now
came_own s e i now None is same = absurd (cc)
came_own s e i now (Some hart) is same = record { hart = hart; is_hart = is; either = inl (refl, cc) }

came : (deltas : List DeltaValue) (s : FlatState) (actor : Actor) (e : Event) (i : ℕ) (now : HartState) → slice_get (flat_after deltas s actor e).harts i ≡ Some now → Came s actor e i now
came deltas s (Hart k) e i now is = elim (cases_eq i k) [
  | inl same ↦ (
      let here : slice_get (flat_after deltas s (Hart i) e).harts i ≡ Some now = subst (λ (k : ℕ). slice_get (flat_after deltas s (Hart k) e).harts i ≡ Some now) (sym same) is in
      subst (λ (k : ℕ). Came s (Hart k) e i now) same (came_own s e i now (slice_get s.harts i) refl (sym (own_after deltas s i e) ∙ ap (option_map bare) here)))
  | inr apart ↦ came_other s (Hart k) e i now (slice_get s.harts i) refl (sym (other_after deltas s k i e apart) ∙ ap (option_map bare) is)
]
came deltas s Kernel e i now is = came_other s Kernel e i now (slice_get s.harts i) refl (sym (kernel_after deltas s e i) ∙ ap (option_map bare) is)

own_runs : (s : FlatState) (e : Event) (hart : HartState) → (own_change s e hart).life ≡ Running → hart.life ≡ Running
own_runs s (Exit code) hart p = absurd (cc)
own_runs s (Trap cause value) hart p = absurd (cc)
own_runs s e hart p = p

-- each running hart's generation lives
abbrev RunsLive : FlatState → Type 0
RunsLive s = (i : ℕ) (hart : HartState) → slice_get s.harts i ≡ Some hart → hart.life ≡ Running → is_live s hart.generation ≡ true

stays_live : (m : Moment) (actor : Actor) (e : Event) (i : ℕ) (hart : HartState) → IsLateCall m.call → Allows m actor e → slice_get m.flat.harts i ≡ Some hart → hart.life ≡ Running → is_live m.flat hart.generation ≡ true
    → is_live (flat_after m.deltas m.flat actor e) hart.generation ≡ true
stays_live m actor e i hart late a is runs live = elim (dead_or_not e hart.generation) [
  | inl dead_now ↦ absurd (
      let d = dying m actor hart.generation late (subst (λ (e : Event). Allows m actor e) dead_now a) in
      all_at _ m.flat.harts i hart d.empty is runs refl)
  | inr apart ↦ lives_after m.deltas m.flat actor e hart.generation (live_there m.flat.gens hart.generation live) apart ∙ live
]

move_or_not : (e : Event) (g : ℕ) → ((to : ℕ) × (e ≡ Move to)) ⊎ (own_generation e g ≡ g)
move_or_not (Move to) g = inl (to, refl)
move_or_not e g = inr refl

own_live : (m : Moment) (i : ℕ) (e : Event) (hart : HartState) → IsLateCall m.call → AreNumbered m.flat.gens → Allows m (Hart i) e → slice_get m.flat.harts i ≡ Some hart → hart.life ≡ Running → is_live m.flat hart.generation ≡ true
    → is_live (flat_after m.deltas m.flat (Hart i) e) (own_generation e hart.generation) ≡ true
own_live m i e hart late numbered a is runs live = elim (move_or_not e hart.generation) [
  | inr same ↦ subst (λ (g : ℕ). is_live (flat_after m.deltas m.flat (Hart i) e) g ≡ true) (sym same) (stays_live m (Hart i) e i hart late a is runs live)
  | inl moves ↦ (
      let to : ℕ = moves.0 in
      let mover = moving m i to late (subst (λ (e : Event). Allows m (Hart i) e) moves.1 a) in
      let alive : is_live m.flat to ≡ true = elim mover.which [
        | inl it ↦ it
        | inr newest_it ↦ subst (λ (g : ℕ). is_live m.flat g ≡ true) (sym newest_it) (newest_lives m.flat hart.generation numbered live)
      ] in
      let now : is_live (flat_after m.deltas m.flat (Hart i) (Move to)) to ≡ true = ap (λ (gens : List GenState). live_in (slice_get gens to)) (gens_are m.deltas m.flat (Hart i) (Move to)) ∙ alive in
      subst (λ (e : Event). is_live (flat_after m.deltas m.flat (Hart i) e) (own_generation e hart.generation) ≡ true) (sym moves.1) now)
]

runs_live_after : (m : Moment) (actor : Actor) (e : Event) → IsLateCall m.call → AreNumbered m.flat.gens → Allows m actor e → RunsLive m.flat → RunsLive (flat_after m.deltas m.flat actor e)
runs_live_after m actor e late numbered a live i now is runs =
    let c = came m.deltas m.flat actor e i now is in
    elim c.either [
      | inl own ↦ (
          let before : c.hart.life ≡ Running = own_runs m.flat e c.hart (sym (ap (λ (x : HartState). x.life) own.1) ∙ runs) in
          let generation : own_generation e c.hart.generation ≡ now.generation = sym (own_is m.flat e c.hart) ∙ sym (ap (λ (x : HartState). x.generation) own.1) in
          let b : Allows m (Hart i) e = subst (λ (actor : Actor). Allows m actor e) own.0 a in
          let lives : is_live (flat_after m.deltas m.flat (Hart i) e) (own_generation e c.hart.generation) ≡ true = own_live m i e c.hart late numbered b c.is_hart before (live i c.hart c.is_hart before) in
          subst (λ (actor : Actor). is_live (flat_after m.deltas m.flat actor e) now.generation ≡ true) (sym own.0) (subst (λ (g : ℕ). is_live (flat_after m.deltas m.flat (Hart i) e) g ≡ true) generation lives))
      | inr same ↦ (
          let before : c.hart.life ≡ Running = sym (ap (λ (x : HartState). x.life) same) ∙ runs in
          let lives = stays_live m actor e i c.hart late a c.is_hart before (live i c.hart c.is_hart before) in
          subst (λ (g : ℕ). is_live (flat_after m.deltas m.flat actor e) g ≡ true) (sym (ap (λ (x : HartState). x.generation) same)) lives)
    ]

-- what each entry keeps
abbrev IsAlive : Moment → Type 0
IsAlive m = IsLateCall m.call × AreNumbered m.flat.gens × RunsLive m.flat

alive_after : (m : Moment) (actor : Actor) (e : Event) → IsAlive m → Allows m actor e → IsAlive (after m actor e)
alive_after m actor e p a = (
  call_kept m actor e p.0,
  subst AreNumbered (sym (gens_are m.deltas m.flat actor e)) (numbers_by m.deltas m.flat e p.1),
  runs_live_after m actor e p.0 p.1 a p.2,
)

abbrev IsOver : ℕ → Moment → Type 0
IsOver g m = IsAlive m × IsDead g m

over_after : (g : ℕ) (m : Moment) (actor : Actor) (e : Event) → IsOver g m → Allows m actor e → IsOver g (after m actor e)
over_after g m actor e p a = (alive_after m actor e p.0 a, stays_dead g m actor e p.1)

pub unfetched : DeadAreNotFetched
unfetched deltas s front middle back actor g h pc word numbered live l =
    let start : Moment = at_rest deltas s in
    let gone : Entry = record { actor = actor; event = Dead g } in
    let w = at_two start front gone middle (record { actor = Hart h; event = Fetch pc word }) back l in
    let runs : RunsLive s = λ i hart is. all_at (λ (hart : HartState). hart.life ≡ Running → is_live s hart.generation ≡ true) s.harts i hart live is in
    let alive : IsAlive (end_of start front) = carried IsAlive alive_after start front (tt, numbers_start s numbered, runs) w.first.legal in
    let d = dying (end_of start front) actor g alive.0 w.first.allowed in
    let next : Moment = after (end_of start front) actor (Dead g) in
    let there : g < length (end_of start front).flat.gens = live_there (end_of start front).flat.gens g d.live in
    let count = count_are (end_of start front).deltas (end_of start front).flat actor (Dead g) in
    let over : IsOver g next = (alive_after (end_of start front) actor (Dead g) alive w.first.allowed, (omega arith, dies (end_of start front).deltas (end_of start front).flat actor g)) in
    let last : IsOver g (end_of start (front ++ gone ∷ middle)) = behind (IsOver g) start front gone middle (carried (IsOver g) (over_after g) next middle over w.first.rest) in
    let before : Moment = end_of start (front ++ gone ∷ middle) in
    let hart = some_and (slice_get before.flat.harts h) _ (acts_outside before h (Fetch pc word) refl last.0.0 w.second) in
    let lives : is_live before.flat hart.0.generation ≡ true = last.0.2 h hart.0 hart.1 hart.2.0 in
    and_some (slice_get before.flat.harts h) _ hart.0 hart.1 (λ same. (let never : is_live before.flat hart.0.generation ≡ false = ap (is_live before.flat) same ∙ last.1.1 in cc))
