-- Each fetch of a legal journal gives bytes of the text of the generation of its hart's last Move.
use Rattle.std.proofs.Common.{◌≡◌, ◌≢◌, inl, inr, ℕ, List, [], ◌∷◌, Option, Some, None, true, false, ◌==◌, refl, sym, subst, ap, ◌∙◌, arith}
use Rattle.std.specs.Prelude.{slice_get}
use Rattle.std.specs.Option.{option_map}
use Rattle.std.proofs.lemmas.Bool.{cases_eq}
use Rattle.std.proofs.lemmas.Bool.Decides.{nat_tests}
use Rattle.wf_outside.specs.Images.{DeltaValue}
use Rattle.wf_flat.specs.declared.event.Actor.{Actor}
use Rattle.wf_flat.specs.declared.event.Actor.TheVariants.{Hart, Kernel}
use Rattle.wf_flat.specs.declared.event.Event.{Event}
use Rattle.wf_flat.specs.declared.event.Event.TheVariants.{Enter, Fetch, Move}
use Rattle.wf_flat.specs.declared.event.Entry.{Entry}
use Rattle.wf_flat.specs.State.{FlatState, HartState}
use Rattle.wf_flat.specs.Memory.{word_at}
use Rattle.wf_flat.specs.Steps.{OfHart, generation_text}
use Rattle.wf_flat.proofs.ListLemmas.{and_some, some_and}
use Rattle.wf_legal.specs.Events.{flat_after}
use Rattle.wf_legal.specs.Legal.{Moment, after, at_rest, end_of}
use Rattle.wf_laws.specs.Texts.{FetchesAreText, generation_after, last_move}
use Rattle.wf_laws.proofs.CallLemmas.{acts_outside}
use Rattle.wf_laws.proofs.CarryLemmas.{at, late_end}
use Rattle.wf_laws.proofs.BareLemmas.{bare, bare_at, kernel_after, other_after, own_after, own_change}

-- the generation of a hart
abbrev generation_at : List HartState → ℕ → Option ℕ
generation_at harts h = option_map (λ (hart : HartState). hart.generation) (bare_at harts h)

abbrev pub own_generation : Event → ℕ → ℕ
own_generation (Move to) generation = to
own_generation event generation = generation

pub own_is : (s : FlatState) (e : Event) (hart : HartState) → (own_change s e hart).generation ≡ own_generation e hart.generation
own_is s Enter hart = refl
own_is s (Move to) hart = refl
own_is s e hart = refl

own_map : (s : FlatState) (e : Event) (o : Option HartState) → option_map (λ (hart : HartState). hart.generation) (option_map (λ (x : HartState). bare (own_change s e x)) o) ≡ option_map (own_generation e) (option_map (λ (hart : HartState). hart.generation) (option_map bare o))
own_map s e None = refl
own_map s e (Some hart) = ap Some (own_is s e hart)

after_own : (h g : ℕ) (e : Event) → generation_after h g (Hart h) e ≡ own_generation e g
after_own h g (Move to) = let same : (h == h) ≡ true = grind (arith, nat_tests) in rw same refl
after_own h g e = refl

after_other : (h k g : ℕ) (e : Event) → h ≢ k → generation_after h g (Hart k) e ≡ g
after_other h k g (Move to) apart = let other : (k == h) ≡ false = grind (arith, nat_tests) in rw other refl
after_other h k g e apart = refl

after_kernel : (h g : ℕ) (e : Event) → generation_after h g Kernel e ≡ g
after_kernel h g Enter = refl
after_kernel h g e = refl

some_generation : (o : Option ℕ) (g next : ℕ) → o ≡ Some g → g ≡ next → o ≡ Some next
some_generation o g next e same = e ∙ ap Some same

moved : (deltas : List DeltaValue) (s : FlatState) (actor : Actor) (e : Event) (h g : ℕ) → generation_at s.harts h ≡ Some g → generation_at (flat_after deltas s actor e).harts h ≡ Some (generation_after h g actor e)
moved deltas s (Hart k) e h g is = elim (cases_eq h k) [
  | inl same ↦ (
      let own : generation_at (flat_after deltas s (Hart h) e).harts h ≡ Some (generation_after h g (Hart h) e) =
      ap (option_map (λ (hart : HartState). hart.generation)) (own_after deltas s h e) ∙ own_map s e (slice_get s.harts h) ∙ ap (option_map (own_generation e)) is ∙ ap Some (sym (after_own h g e)) in
      subst (λ (k : ℕ). generation_at (flat_after deltas s (Hart k) e).harts h ≡ Some (generation_after h g (Hart k) e)) same own)
  | inr apart ↦ some_generation _ g (generation_after h g (Hart k) e) (ap (option_map (λ (hart : HartState). hart.generation)) (other_after deltas s k h e apart) ∙ is) (sym (after_other h k g e apart))
]
moved deltas s Kernel e h g is = some_generation _ g (generation_after h g Kernel e) (ap (option_map (λ (hart : HartState). hart.generation)) (kernel_after deltas s e h) ∙ is) (sym (after_kernel h g e))

moved_end : (m : Moment) (entries : List Entry) (h g : ℕ) → generation_at m.flat.harts h ≡ Some g → generation_at (end_of m entries).flat.harts h ≡ Some (last_move h g entries)
moved_end m [] h g is = is
moved_end m (entry ∷ entries) h g is = moved_end (after m entry.actor entry.event) entries h (generation_after h g entry.actor entry.event) (moved m.deltas m.flat entry.actor entry.event h g is)

-- a hart that is there at the end was there at the start
was_there : (deltas : List DeltaValue) (s : FlatState) (actor : Actor) (e : Event) (h : ℕ) → bare_at s.harts h ≡ None → bare_at (flat_after deltas s actor e).harts h ≡ None
was_there deltas s (Hart k) e h none = elim (cases_eq h k) [
  | inl same ↦ subst (λ (k : ℕ). bare_at (flat_after deltas s (Hart k) e).harts h ≡ None) same (own_after deltas s h e ∙ by_hart (slice_get s.harts h) none)
  | inr apart ↦ other_after deltas s k h e apart ∙ none
]
  where
    by_hart : (o : Option HartState) → option_map bare o ≡ None → option_map (λ (x : HartState). bare (own_change s e x)) o ≡ None
    by_hart None none = refl
    by_hart (Some x) none = absurd (cc)
was_there deltas s Kernel e h none = kernel_after deltas s e h ∙ none

never_there : (m : Moment) (entries : List Entry) (h : ℕ) → bare_at m.flat.harts h ≡ None → bare_at (end_of m entries).flat.harts h ≡ None
never_there m [] h none = none
never_there m (entry ∷ entries) h none = never_there (after m entry.actor entry.event) entries h (was_there m.deltas m.flat entry.actor entry.event h none)

-- the hart of a fetch
at_fetch : (deltas : List DeltaValue) (s : FlatState) (front : List Entry) (h pc word : ℕ) (hart : HartState) → slice_get (end_of (at_rest deltas s) front).flat.harts h ≡ Some hart
    → word_at (generation_text (end_of (at_rest deltas s) front).flat hart.generation) pc ≡ Some word → (o : Option HartState) → slice_get s.harts h ≡ o
    → OfHart s h (λ hart. word_at (generation_text (end_of (at_rest deltas s) front).flat (last_move h hart.generation front)) pc ≡ Some word)
at_fetch deltas s front h pc word hart is p None there = absurd (
    let none : bare_at (end_of (at_rest deltas s) front).flat.harts h ≡ None = never_there (at_rest deltas s) front h (ap (option_map bare) there) in
    let some : bare_at (end_of (at_rest deltas s) front).flat.harts h ≡ Some (bare hart) = ap (option_map bare) is in
    cc)
at_fetch deltas s front h pc word hart is p (Some first) there =
    let last : generation_at (end_of (at_rest deltas s) front).flat.harts h ≡ Some (last_move h first.generation front) =
    moved_end (at_rest deltas s) front h first.generation (ap (λ (o : Option HartState). option_map (λ (hart : HartState). hart.generation) (option_map bare o)) there) in
    let now : generation_at (end_of (at_rest deltas s) front).flat.harts h ≡ Some hart.generation = ap (λ (o : Option HartState). option_map (λ (hart : HartState). hart.generation) (option_map bare o)) is in
    let same : hart.generation ≡ last_move h first.generation front = cc in
    and_some (slice_get s.harts h) _ first there (subst (λ (g : ℕ). word_at (generation_text (end_of (at_rest deltas s) front).flat g) pc ≡ Some word) same p)

pub fetches : FetchesAreText
fetches deltas s front back h pc word l =
    let start : Moment = at_rest deltas s in
    let w = at start front (record { actor = Hart h; event = Fetch pc word }) back l in
    let late = late_end start front tt w.legal in
    let hart = some_and (slice_get (end_of start front).flat.harts h) _ (acts_outside (end_of start front) h (Fetch pc word) refl late w.allowed) in
    at_fetch deltas s front h pc word hart.0 hart.1 hart.2.1.2 (slice_get s.harts h) refl
