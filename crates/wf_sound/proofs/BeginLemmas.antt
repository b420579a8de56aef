-- A hart's call begins: what it asks for keeps the invariant.
use Rattle.std.proofs.Common.{◌≡◌, ◌≢◌, ◌<◌, ◌+◌, ◌^◌, ◌==◌, ◌&&◌, ℕ, List, [], ◌∷◌, Bool, true, false, Option, Some, None, refl, sym, ap, subst, ◌∙◌, inl, inr, arith, is_some, if◌then◌else◌}
use Rattle.std.specs.Prelude.{slice_get, IfSome, not, option_and_then}
use Rattle.std.specs.Option.{option_map}
use Rattle.std.specs.List.{AllByRecursion}
use Rattle.std.proofs.lemmas.Bool.Decides.{nat_tests}
use Rattle.wf_outside.specs.Images.{DeltaValue}
use Rattle.wf_outside.specs.Pages.{page_of}
use Rattle.rv_inst.specs.declared.inst.Inst.{Inst}
use Rattle.rv_inst.specs.declared.want.Want.{Want}
use Rattle.rv_inst.specs.declared.want.Want.TheVariants as want
use Rattle.rv_inst.specs.Decoding.{inst_of}
use Rattle.rv_inst.specs.Meanings.{want_of}
use Rattle.wf_flat.specs.declared.event.Actor.{Actor}
use Rattle.wf_flat.specs.declared.event.Actor.TheVariants.{Hart}
use Rattle.wf_flat.specs.declared.event.Event.{Event}
use Rattle.wf_flat.specs.declared.event.Event.TheVariants.{Again, End, Enter, Exit, Gone, Sync, Trap}
use Rattle.wf_flat.specs.declared.state.Life.TheVariants.{Running}
use Rattle.wf_flat.specs.declared.state.Stage.{Stage}
use Rattle.wf_flat.specs.declared.state.Stage.TheVariants as stages
use Rattle.wf_flat.specs.State.{FlatState, HartState, PageState}
use Rattle.wf_flat.specs.Memory.{data_in, has_met, with_met, word_at}
use Rattle.wf_flat.specs.Accesses.{Access, access_of, accessed_data, accessed_text, generation_text, has_right, holder_is, holds_page, is_ending, is_here}
use Rattle.wf_flat.specs.Steps.{Called, Faulted, OfHart, OfRunning, ask_by, ask_of, ask_of_access, ask_of_fetch, ask_of_want, ask_of_word, asks_access, is_inside, want_in}
use Rattle.wf_flat.specs.Changes.{exited_with, noted_in, trapped_with, tried, without}
use Rattle.wf_flat.proofs.FoundLemmas.{key_of_found}
use Rattle.wf_flat.proofs.ListLemmas.{and_some, some_and}
use Rattle.wf_effects.specs.Effects.{pages_noted}
use Rattle.wf_verdict.specs.declared.work.Todo.{Todo}
use Rattle.wf_verdict.specs.declared.work.Todo.TheVariants.{Exactly}
use Rattle.wf_legal.specs.Calls.{Doing, IsNext, access_trap, closes_hart_call, later, settled_with, todo_of_access, todo_of_page, todo_with}
use Rattle.wf_legal.specs.Events.{call_answered, flat_after}
use Rattle.wf_sound.specs.Sound.{HasHolder, HasNoneGoing, IsHartWork, IsHolder, IsMet, IsSoundState}
use Rattle.wf_sound.specs.Making.{Suits}
use Rattle.wf_sound.proofs.AllLemmas.{all_found, true_or_false}
use Rattle.wf_sound.proofs.EventLemmas.{comes_without}
use Rattle.wf_sound.proofs.GenerationLemmas.{met_sound}
use Rattle.wf_sound.proofs.HandLemmas.{CallsHart, calls_with, first_true}
use Rattle.wf_sound.proofs.HartLemmas.{noted_in_is}
use Rattle.wf_sound.proofs.HolderLemmas.{HoldsNot}
use Rattle.wf_sound.proofs.KernelLemmas.{answer_keeps, noting_keeps, others_keep}
use Rattle.wf_sound.proofs.OwnLemmas.{exited_sound, trapped_sound, tried_sound}
use Rattle.wf_sound.proofs.TryLemmas.{sound_free}
use Rattle.wf_sound.proofs.WorkLemmas.{IsSoundWith, end_left, with_inside}

here_stays : (stage : Stage) → is_here stage ≡ true → is_ending stage ≡ false
here_stays stages.Here e = refl
here_stays stages.Going e = refl
here_stays stages.Ending e = absurd cc

-- what asks for a call wants one
access_calls_not : (s : FlatState) (h : ℕ) (hart : HartState) (o : Option Access) → ask_of_access s h hart o ≢ Some Called
access_calls_not s h hart None = λ e. cc
access_calls_not s h hart (Some access) = by_test (asks_access s h hart access)
  where
    by_test : (b : Bool) → (if b then Some (Faulted access) else None) ≢ Some Called
    by_test true e = cc
    by_test false e = cc

want_calls : (s : FlatState) (h : ℕ) (hart : HartState) (w : Want) → ask_of_want s h hart (Some w) ≡ Some Called → Some w ≡ Some want.Call
want_calls s h hart want.Nothing e = absurd (access_calls_not s h hart (access_of (Some want.Nothing)) e)
want_calls s h hart (want.Look va width) e = absurd (access_calls_not s h hart (access_of (Some (want.Look va width))) e)
want_calls s h hart (want.Put va width value) e = absurd (access_calls_not s h hart (access_of (Some (want.Put va width value))) e)
want_calls s h hart (want.Swap va width op value) e = absurd (access_calls_not s h hart (access_of (Some (want.Swap va width op value))) e)
want_calls s h hart (want.Reserve va width) e = absurd (access_calls_not s h hart (access_of (Some (want.Reserve va width))) e)
want_calls s h hart (want.PutIf va width value) e = absurd (access_calls_not s h hart (access_of (Some (want.PutIf va width value))) e)
want_calls s h hart want.Call e = refl
want_calls s h hart (want.Trap cause value) e = absurd cc

inst_calls : (s : FlatState) (h : ℕ) (hart : HartState) (word : ℕ) (o : Option Inst) → ask_of_word s h hart word o ≡ Some Called → option_map (λ (inst : Inst). want_of inst hart.arch) o ≡ Some want.Call
inst_calls s h hart word None e = absurd cc
inst_calls s h hart word (Some inst) e = want_calls s h hart (want_of inst hart.arch) e

fetched_calls : (s : FlatState) (h : ℕ) (hart : HartState) (o : Option ℕ) → ask_by s h hart o ≡ Some Called → option_map (λ (inst : Inst). want_of inst hart.arch) (option_and_then inst_of o) ≡ Some want.Call
fetched_calls s h hart None e = absurd (pc_calls_not (word_at (generation_text s hart.generation) hart.arch.pc) e)
  where
    pc_calls_not : (o : Option ℕ) → ask_of_fetch hart.arch.pc o ≢ Some Called
    pc_calls_not None e = cc
    pc_calls_not (Some word) e = cc
fetched_calls s h hart (Some word) e = inst_calls s h hart word (inst_of word) e

pub asks_calls : (s : FlatState) (h : ℕ) (hart : HartState) → ask_of s h hart ≡ Some Called → want_in hart ≡ Some want.Call
asks_calls s h hart e = fetched_calls s h hart hart.fetched e

-- an event is no Gone, and no Enter
abbrev pub IsNoGone : Event → Type 0
IsNoGone event = ((page : ℕ) (worn : Bool) → event ≢ Gone page worn) × (event ≢ Enter)

-- what is in hand behind one that is none
pub settled_is : (deltas : List DeltaValue) (s : FlatState) (actor : Actor) (owed : List ℕ) (event : Event) → IsNoGone event → settled_with deltas s actor owed event ≡ Doing (later (todo_with deltas s actor event))
settled_is deltas s actor owed (Gone page worn) no_gone = absurd (no_gone.0 page worn refl)
settled_is deltas s actor owed event no_gone = refl

-- who is inside holds nothing
held_inside : (s : FlatState) (h : ℕ) (page : PageState) → s.inside ≡ Some (Hart h) → (o : Option ℕ) → IfSome o (λ k. OfHart s k (IsHolder s k page.number)) → holder_is o h ≡ false
held_inside s h page inside None of = refl
held_inside s h page inside (Some k) of = elim (true_or_false (k == h)) [
  | inl e ↦ absurd (
      let w = some_and (slice_get s.harts k) (IsHolder s k page.number) of in
      let out : is_inside s.inside (Hart k) ≡ false = w.2.outside in
      let self : is_inside (Some (Hart h)) (Hart k) ≡ true = grind (arith, nat_tests) in
      let into : is_inside s.inside (Hart k) ≡ true = ap (λ (o : Option Actor). is_inside o (Hart k)) inside ∙ self in
      cc)
  | inr e ↦ e
]

pub inside_not : (s : FlatState) (h : ℕ) (hart : HartState) → s.inside ≡ Some (Hart h) → AllByRecursion (HasHolder s) s.pages → HoldsNot s h hart
inside_not s h hart inside held access wants = by_found (data_in s.pages (page_of access.va)) refl
  where
    by_found : (o : Option PageState) → data_in s.pages (page_of access.va) ≡ o → holds_page h o ≡ false
    by_found None e = refl
    by_found (Some page) e = held_inside s h page inside page.holder (all_found (λ (page : PageState). page.number) (HasHolder s) s.pages (page_of access.va) page held e)

pub without_self : (o : Option Actor) (h : ℕ) → o ≡ Some (Hart h) → without o (Hart h) ≡ None
without_self o h e = let k : is_inside (Some (Hart h)) (Hart h) ≡ true = grind (arith, nat_tests) in rw (e, k) refl

-- where there are births enough, the event of an actor suits the state
abbrev pub Fits : List DeltaValue → FlatState → Actor → Event → Type 0
Fits deltas s actor event = s.births + 65536 < 2 ^ 64 → Suits deltas s actor event

-- things to do with which a hart's call begins well
abbrev pub BeginsWell : List DeltaValue → FlatState → ℕ → List Todo → Type 0
BeginsWell deltas s h todo =
    (event : Event) → IsNext s todo event → IsNoGone event × IsSoundWith deltas (flat_after deltas s (Hart h) event) (if closes_hart_call event then None else Some (Doing (later todo))) × Fits deltas s (Hart h) event

module _ (deltas : List DeltaValue) (s : FlatState) (h : ℕ) (hart : HartState) (there : slice_get s.harts h ≡ Some hart) (runs : hart.life ≡ Running) (sound : IsSoundState deltas s) (inside : s.inside ≡ Some (Hart h)) (none : HasNoneGoing s) where
  -- exactly one event
  pub one_well : (event : Event) (rest : List Todo) → IsNoGone event → Fits deltas s (Hart h) event → IsSoundWith deltas (flat_after deltas s (Hart h) event) (if closes_hart_call event then None else Some (Doing rest)) → BeginsWell deltas s h (Exactly event ∷ rest)
  one_well event rest no_gone fits well other is =
      subst (λ (e : Event). IsNoGone e × IsSoundWith deltas (flat_after deltas s (Hart h) e) (if closes_hart_call e then None else Some (Doing rest)) × Fits deltas s (Hart h) e) (sym is) (no_gone, well, fits)

  holds_not : HoldsNot s h hart
  holds_not = inside_not s h hart inside sound.held

  pub of_calling : want_in hart ≡ Some want.Call → CallsHart s h
  of_calling calls = and_some (slice_get s.harts h) (λ hart. (hart.life ≡ Running) × (want_in hart ≡ Some want.Call)) hart there (runs, calls)

  pub trap_well : (cause value : ℕ) (rest : List Todo) → BeginsWell deltas s h (Exactly (Trap cause value) ∷ rest)
  trap_well cause value rest = one_well (Trap cause value) rest ((λ page worn e. cc), (λ e. cc)) (λ few. tt)
      (with_inside deltas (flat_after deltas s (Hart h) (Trap cause value)) None None
      (sound_free deltas s h hart there sound (without s.inside (Hart h)) (comes_without s.inside (Hart h)) (trapped_with cause value) (trapped_sound s h cause value hart) holds_not)
      (without_self s.inside h inside) none)

  pub exit_well : (code : ℕ) (rest : List Todo) → BeginsWell deltas s h (Exactly (Exit code) ∷ rest)
  exit_well code rest = one_well (Exit code) rest ((λ page worn e. cc), (λ e. cc)) (λ few. tt)
      (with_inside deltas (flat_after deltas s (Hart h) (Exit code)) None None
      (sound_free deltas s h hart there sound (without s.inside (Hart h)) (comes_without s.inside (Hart h)) (exited_with code) (exited_sound s h code hart) holds_not)
      (without_self s.inside h inside) none)

  again_well : (page : ℕ) (rest : List Todo) → BeginsWell deltas s h (Exactly (Again page) ∷ rest)
  again_well page rest = one_well (Again page) rest ((λ page worn e. cc), (λ e. cc)) (λ few. tt)
      (with_inside deltas (flat_after deltas s (Hart h) (Again page)) None None
      (sound_free deltas s h hart there sound (without s.inside (Hart h)) (comes_without s.inside (Hart h)) tried (tried_sound s h hart) holds_not)
      (without_self s.inside h inside) none)

  sync_well : (page : ℕ) (rest : List Todo) → has_met s.met hart.generation page ≡ false → IsMet s (hart.generation, page) → BeginsWell deltas s h (Exactly (Sync hart.generation page) ∷ rest)
  sync_well page rest unmet meets =
      let u : FlatState = record s { met = with_met s.met hart.generation page } in
      let met = met_sound deltas s hart.generation page unmet meets sound in
      let keeps = others_keep deltas u h (noted_in hart.generation page) (without s.inside (Hart h)) (noted_in_is hart.generation page) (comes_without s.inside (Hart h)) met in
      one_well (Sync hart.generation page) rest ((λ page worn e. cc), (λ e. cc)) (λ few. unmet)
      (with_inside deltas (flat_after deltas s (Hart h) (Sync hart.generation page)) None None keeps.state (without_self s.inside h inside) none)

  page_well : (access : Access) (o : Option PageState) → data_in s.pages (page_of access.va) ≡ o → BeginsWell deltas s h (todo_of_page s hart access o)
  page_well access None found = trap_well _ access.va []
  page_well access (Some page) found = by_right (is_here page.stage && has_right access page) refl
    where
      by_met : (b : Bool) → has_met s.met hart.generation page.number ≡ b → is_here page.stage ≡ true → BeginsWell deltas s h (if b then Exactly (Again page.number) ∷ [] else Exactly (Sync hart.generation page.number) ∷ [])
      by_met true e here = again_well page.number []
      by_met false e here = sync_well page.number [] e
          ((sound.harts h hart there).live runs, and_some (data_in s.pages page.number) (λ page. is_ending page.stage ≡ false) page (subst (λ (m : ℕ). data_in s.pages m ≡ Some page) (sym (key_of_found (λ (page : PageState). page.number) s.pages (page_of access.va) page found)) found) (here_stays page.stage here))

      by_right : (b : Bool) → (is_here page.stage && has_right access page) ≡ b
          → BeginsWell deltas s h (if not b then access_trap access else if has_met s.met hart.generation page.number then Exactly (Again page.number) ∷ [] else Exactly (Sync hart.generation page.number) ∷ [])
      by_right true e = by_met (has_met s.met hart.generation page.number) refl (first_true (is_here page.stage) (has_right access page) e)
      by_right false e = trap_well _ access.va []

  -- what an access asks for
  pub access_well : (access : Access) → BeginsWell deltas s h (todo_of_access s hart access)
  access_well access = by_text (is_some (accessed_text s hart access))
    where
      by_text : (b : Bool) → BeginsWell deltas s h (if b then access_trap access else todo_of_page s hart access (accessed_data s access))
      by_text true = trap_well _ access.va []
      by_text false = page_well access (accessed_data s access) refl

  -- a call is answered, and goes on with the rest
  pub answered_call : (u : FlatState) (answer : ℕ) (rest : List Todo) → IsSoundState deltas u → u.inside ≡ Some (Hart h) → OfRunning u h (λ hart. (want_in hart ≡ Some want.Call) × IsHartWork u rest) → IsSoundWith deltas (call_answered u (Hart h) answer) (Some (Doing rest))
  answered_call u answer rest is in_u work =
      let w = some_and (slice_get u.harts h) (λ hart. (hart.life ≡ Running) × ((want_in hart ≡ Some want.Call) × IsHartWork u rest)) work in
      let keeps = answer_keeps deltas u (Hart h) answer is (and_some (slice_get u.harts h) (λ hart. Unit {0}) w.0 w.1 tt) in
      with_inside deltas (call_answered u (Hart h) answer) (Some (Hart h)) (Some (Doing rest)) keeps.state in_u (keeps.hand (Some (Hart h)) (Some (Doing rest)) work)

  -- so is one of which pages are noted
  pub noted_call : (v : FlatState) (numbers : List ℕ) (answer : ℕ) (rest : List Todo) → IsSoundState deltas v → v.inside ≡ Some (Hart h) → OfRunning v h (λ hart. (want_in hart ≡ Some want.Call) × IsHartWork v rest)
      → IsSoundWith deltas (call_answered (pages_noted v (Hart h) numbers) (Hart h) answer) (Some (Doing rest))
  noted_call v numbers answer rest is in_v work =
      let keeps = noting_keeps deltas v (Hart h) numbers is in
      answered_call (pages_noted v (Hart h) numbers) answer rest keeps.state in_v (keeps.hand (Some (Hart h)) (Some (Doing rest)) work)

  -- what is left is the end of the call
  pub ends_next : (u : FlatState) (next : ℕ) → want_in hart ≡ Some want.Call → u.harts ≡ s.harts → HasNoneGoing u → OfRunning u h (λ hart. (want_in hart ≡ Some want.Call) × IsHartWork u (Exactly (End next) ∷ []))
  ends_next u next calls harts calm =
      calls_with u h (IsHartWork u (Exactly (End next) ∷ [])) (and_some (slice_get u.harts h) (λ hart. (hart.life ≡ Running) × (want_in hart ≡ Some want.Call)) hart (ap (λ (xs : List HartState). slice_get xs h) harts ∙ there) (runs, calls)) (end_left u next calm)
