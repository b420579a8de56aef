-- Entries of a whole unit come to a process, one after another.
use Rattle.std.proofs.Common.{◌≡◌, ◌≢◌, ◌++◌, ◌∙◌, ◌+◌, ◌≤◌, ℕ, List, [], ◌∷◌, Option, Some, None, refl, sym, ap, subst, arith}
use Rattle.std.specs.Prelude.{IsSomeAnd, slice_get}
use Rattle.std.proofs.lemmas.List.{append_assoc, append-nil}
use Rattle.rv_inst.specs.declared.causes.TheConstants.{ILLEGAL_INSTRUCTION, INSTRUCTION_PAGE_FAULT}
use Rattle.rv_inst.specs.declared.inst.Inst.{Inst}
use Rattle.rv_inst.specs.declared.want.Want.{Want}
use Rattle.rv_inst.specs.declared.want.Want.TheVariants.{Nothing}
use Rattle.rv_inst.specs.Arch.{ArchState}
use Rattle.rv_inst.specs.Decoding.{inst_of}
use Rattle.rv_inst.specs.Meanings.{meaning_of, want_of}
use Rattle.wf_flat.specs.declared.event.Actor.{Actor}
use Rattle.wf_flat.specs.declared.event.Actor.TheVariants.{Hart}
use Rattle.wf_flat.specs.declared.event.Entry.{Entry}
use Rattle.wf_flat.specs.declared.event.Event.TheVariants.{End, Enter, Fetch, Idle, Trap}
use Rattle.wf_flat.specs.declared.state.Life.TheVariants.{Running}
use Rattle.wf_flat.specs.Accesses.{access_of, generation_text}
use Rattle.wf_flat.specs.Changes.{fetched_with}
use Rattle.wf_flat.specs.Memory.{word_at}
use Rattle.wf_flat.specs.Serving.{held_by}
use Rattle.wf_flat.specs.Steps.{OfHart, access_in, arch_after}
use Rattle.wf_flat.proofs.ListLemmas.{and_some, some_and}
use Rattle.wf_service.proofs.BeginLemmas.{in_try}
use Rattle.wf_units.proofs.PlainLemmas.{arch_there, in_try_there, want_there}
use Rattle.wf_flat.specs.declared.event.Event.{Event}
use Rattle.wf_flat.specs.State.{FlatState, HartState}
use Rattle.wf_legal.specs.Calls.{Call}
use Rattle.wf_legal.specs.Legal.{IsLegal, Moment, at_rest, end_of}
use Rattle.wf_sound.specs.Sound.{IsSound}
use Rattle.wf_process.specs.Processes.{ProcessValue, with_entries, with_entry}
use Rattle.wf_units.specs.Instructions.{access_cause, FaultsAreUnits, FindsWord, IdlesAreUnits, IllegalWordsAreUnits, LostFetchesAreUnits, RunsAreUnits, TrapsAreUnits}
use Rattle.wf_units.specs.Units.{IsAtRest, IsLegalUnit, entries_by}
use Rattle.wf_stepping.specs.Stepping.{FindsAt, HasMadeUnit, HasUnit, IsFault, IsFaultOf, IsRun, IsTrapOf, Rests}

-- a moment at which no call is open
pub closed_is : (m : Moment) → m.call ≡ None → at_rest m.deltas m.flat ≡ m
closed_is m e = ap (λ (call : Option Call). record { deltas = m.deltas; flat = m.flat; call = call }) (sym e)

-- the moment behind entries
pub moment_with : (entries : List Entry) (p : ProcessValue) → (with_entries entries p).moment ≡ end_of p.moment entries
unfolding with_entry
moment_with [] p = refl
moment_with (entry ∷ entries) p = moment_with entries (with_entry entry.actor entry.event p)

-- the journal behind entries
pub journal_with : (entries : List Entry) (p : ProcessValue) → (with_entries entries p).entries ≡ p.entries ++ entries
unfolding with_entry
journal_with [] p = sym (append-nil p.entries)
journal_with (entry ∷ entries) p = journal_with entries (with_entry entry.actor entry.event p) ∙ append_assoc p.entries (entry ∷ []) entries

-- a hart is there, in a sound machine that rests
pub at_rest_there : (p : ProcessValue) (h : ℕ) (hart : HartState) → Rests p → IsSound p.moment → slice_get p.moment.flat.harts h ≡ Some hart → IsAtRest p.moment.deltas p.moment.flat h hart
at_rest_there p h hart rests sound e = record { sound = subst IsSound (sym (closed_is p.moment rests.closed)) sound; rests = rests.rests; there = e }

-- the entries of a unit are legal behind the moment of a process that rests
pub unit_legal : (p : ProcessValue) (h : ℕ) (events : List Event) (new : FlatState) → Rests p → IsLegalUnit p.moment.deltas p.moment.flat h events new → IsLegal p.moment (entries_by h events)
unit_legal p h events new rests unit = subst (λ (m : Moment). IsLegal m (entries_by h events)) (closed_is p.moment rests.closed) unit.legal

-- where they came to it, the hart has made the unit
pub unit_made : (p q : ProcessValue) (h : ℕ) (events : List Event) (new : FlatState) → Rests p → IsLegalUnit p.moment.deltas p.moment.flat h events new → q ≡ with_entries (entries_by h events) p → HasMadeUnit h p q
unit_made p q h events new rests unit is =
    let reached : q.moment ≡ at_rest p.moment.deltas new =
    ap (λ (r : ProcessValue). r.moment) is ∙ moment_with (entries_by h events) p
    ∙ ap (λ (m : Moment). end_of m (entries_by h events)) (sym (closed_is p.moment rests.closed)) ∙ sym unit.reached in
    let flat : q.moment.flat ≡ new = ap (λ (m : Moment). m.flat) reached in
    record {
      events = events;
      unit = subst (λ (s : FlatState). IsLegalUnit p.moment.deltas p.moment.flat h events s) (sym flat) unit;
      moment = reached ∙ ap (λ (s : FlatState). at_rest p.moment.deltas s) (sym flat);
      entries = ap (λ (r : ProcessValue). r.entries) is ∙ journal_with (entries_by h events) p;
    }

-- ---- the units of a hart that has stopped, or that a trap stops

pub idle_here : IdlesAreUnits → (p : ProcessValue) (h : ℕ) → Rests p → IsSound p.moment → OfHart p.moment.flat h (λ hart. hart.life ≢ Running) → HasUnit p h (Idle ∷ [])
idle_here law p h rests sound stopped =
    let hart = some_and (slice_get p.moment.flat.harts h) (λ (x : HartState). x.life ≢ Running) stopped in
    record { new = p.moment.flat; unit = law p.moment.deltas p.moment.flat h hart.0 (at_rest_there p h hart.0 rests sound hart.1) hart.2 }

pub lost_here : LostFetchesAreUnits → (p : ProcessValue) (h pc : ℕ) → Rests p → IsSound p.moment
    → FindsAt p h pc None
    → HasUnit p h (Enter ∷ Trap INSTRUCTION_PAGE_FAULT pc ∷ [])
lost_here law p h pc rests sound none =
    let s : FlatState = p.moment.flat in
    let hart = some_and (slice_get s.harts h) (λ (x : HartState). (x.life ≡ Running) × ((x.arch.pc ≡ pc) × (word_at (generation_text s x.generation) pc ≡ None))) none in
    subst (λ (n : ℕ). HasUnit p h (Enter ∷ Trap INSTRUCTION_PAGE_FAULT n ∷ [])) hart.2.1.0
    (record {
      new = _;
      unit = law p.moment.deltas s h hart.0 (record {
        rests = at_rest_there p h hart.0 rests sound hart.1;
        runs = hart.2.0;
        text = subst (λ (n : ℕ). word_at (generation_text s hart.0.generation) n ≡ None) (sym hart.2.1.0) hart.2.1.1;
      });
    })

-- a word at the pc of a hart, and what it is
module _ (p : ProcessValue) (h pc word : ℕ) (rests : Rests p) (sound : IsSound p.moment) (found : FindsAt p h pc (Some word)) where
  abbrev pub Is : HartState → Type 0
  Is x = (x.life ≡ Running) × ((x.arch.pc ≡ pc) × (word_at (generation_text p.moment.flat x.generation) pc ≡ Some word))

  -- the hart that is there finds the word, and is so
  pub finds : (hart : HartState) → slice_get p.moment.flat.harts h ≡ Some hart → Is hart → FindsWord p.moment.deltas p.moment.flat h hart (Some word)
  finds hart e is = record {
    rests = at_rest_there p h hart rests sound e;
    runs = is.0;
    text = subst (λ (n : ℕ). word_at (generation_text p.moment.flat hart.generation) n ≡ Some word) (sym is.1.0) is.1.1;
  }

  pub both : (P : HartState → Type 0) → OfHart p.moment.flat h P → OfHart p.moment.flat h (λ hart. Is hart × P hart)
  both P so = by_cases (slice_get p.moment.flat.harts h) found so
    where
      by_cases : (o : Option HartState) → IsSomeAnd o Is → IsSomeAnd o P → IsSomeAnd o (λ hart. Is hart × P hart)
      by_cases (Some hart) is so = (is, so)
      by_cases None is so = absurd is

  pub trap_here : IllegalWordsAreUnits → TrapsAreUnits → (cause value : ℕ) → OfHart p.moment.flat h (λ hart. IsTrapOf hart.arch word (inst_of word) cause value)
      → HasUnit p h (Fetch pc word ∷ Enter ∷ Trap cause value ∷ [])
  trap_here illegals traps cause value told =
      let P : HartState → Type 0 = λ hart. IsTrapOf hart.arch word (inst_of word) cause value in
      let hart = some_and (slice_get p.moment.flat.harts h) (λ (x : HartState). Is x × P x) (both P told) in
      subst (λ (n : ℕ). HasUnit p h (Fetch n word ∷ Enter ∷ Trap cause value ∷ [])) hart.2.0.1.0
      (by_inst hart.0 hart.1 hart.2.0 (inst_of word) refl hart.2.1)
    where
      by_inst : (hart : HartState) → slice_get p.moment.flat.harts h ≡ Some hart → Is hart → (o : Option Inst) → inst_of word ≡ o → IsTrapOf hart.arch word o cause value → HasUnit p h (Fetch hart.arch.pc word ∷ Enter ∷ Trap cause value ∷ [])
      by_inst hart e is None none told =
          subst (λ (k : ℕ). HasUnit p h (Fetch hart.arch.pc word ∷ Enter ∷ Trap k value ∷ [])) (sym told.0)
          (subst (λ (v : ℕ). HasUnit p h (Fetch hart.arch.pc word ∷ Enter ∷ Trap ILLEGAL_INSTRUCTION v ∷ [])) (sym told.1)
          (record { new = _; unit = illegals p.moment.deltas p.moment.flat h hart word (finds hart e is) none }))
      by_inst hart e is (Some inst) some told =
          record { new = _; unit = traps p.moment.deltas p.moment.flat h hart word inst cause value (record { finds = finds hart e is; is_inst = some; wants = told }) }

  pub fault_here : FaultsAreUnits → (cause va : ℕ) → OfHart p.moment.flat h (IsFault p.moment.flat word cause va)
      → HasUnit p h (Fetch pc word ∷ Enter ∷ Trap cause va ∷ [])
  fault_here faults cause va told =
      let hart = some_and (slice_get p.moment.flat.harts h) (λ (x : HartState). Is x × IsFault p.moment.flat word cause va x) (both (IsFault p.moment.flat word cause va) told) in
      let inst = some_and (inst_of word) (λ (i : Inst). IsFaultOf p.moment.flat hart.0 (want_of i hart.0.arch) cause va) hart.2.1 in
      let f = inst.2 in
      subst (λ (n : ℕ). HasUnit p h (Fetch n word ∷ Enter ∷ Trap cause va ∷ [])) hart.2.0.1.0
      (subst (λ (k : ℕ). HasUnit p h (Fetch hart.0.arch.pc word ∷ Enter ∷ Trap k va ∷ [])) (sym f.cause_is)
      (subst (λ (v : ℕ). HasUnit p h (Fetch hart.0.arch.pc word ∷ Enter ∷ Trap (access_cause f.access) v ∷ [])) (sym f.va_is)
      (record { new = _; unit = faults p.moment.deltas p.moment.flat h hart.0 word inst.0 (want_of inst.0 hart.0.arch) f.access (record { finds = finds hart.0 hart.1 hart.2.0; is_inst = inst.1; wants = refl }) f.of_want f.kept f.faulty })))

  pub run_here : RunsAreUnits → (next : ArchState) → OfHart p.moment.flat h (λ hart. IsRun hart.arch word next) → HasUnit p h (Fetch pc word ∷ End next.pc ∷ [])
  run_here runs next told =
      let P : HartState → Type 0 = λ hart. IsRun hart.arch word next in
      let hart = some_and (slice_get p.moment.flat.harts h) (λ (x : HartState). Is x × P x) (both P told) in
      let inst = some_and (inst_of word) (λ (i : Inst). (want_of i hart.0.arch ≡ Nothing) × (next ≡ meaning_of i hart.0.arch 0)) hart.2.1 in
      subst (λ (n : ℕ). HasUnit p h (Fetch n word ∷ End next.pc ∷ [])) hart.2.0.1.0
      (subst (λ (a : ArchState). HasUnit p h (Fetch hart.0.arch.pc word ∷ End a.pc ∷ [])) (sym inst.2.1)
      (record { new = _; unit = runs p.moment.deltas p.moment.flat h hart.0 word inst.0 (record { finds = finds hart.0 hart.1 hart.2.0; is_inst = inst.1; wants = inst.2.0 }) }))

  -- what holds of the hart behind its fetch, where such a word was fetched
  module _ (q : ProcessValue) (is : q ≡ with_entry (Hart h) (Fetch pc word) p) (next : ArchState) (told : OfHart p.moment.flat h (λ hart. IsRun hart.arch word next)) where
    abbrev behind : FlatState
    behind = in_try p.moment.flat h word

    at_behind : (P : FlatState → Type 0) → P behind → P q.moment.flat
    unfolding with_entry
    at_behind P so = subst (λ (r : ProcessValue). P r.moment.flat) (sym is) so

    pub leaves_next : OfHart q.moment.flat h (λ hart. next ≡ arch_after hart)
    leaves_next =
        let P : HartState → Type 0 = λ hart. IsRun hart.arch word next in
        let hart = some_and (slice_get p.moment.flat.harts h) (λ (x : HartState). Is x × P x) (both P told) in
        let inst = some_and (inst_of word) (λ (i : Inst). (want_of i hart.0.arch ≡ Nothing) × (next ≡ meaning_of i hart.0.arch 0)) hart.2.1 in
        let x : HartState = fetched_with word hart.0 in
        at_behind (λ s. OfHart s h (λ hart. next ≡ arch_after hart))
        (and_some (slice_get behind.harts h) _ x (in_try_there p.moment.flat h word hart.0 hart.1)
        (inst.2.1 ∙ sym (arch_there x word inst.0 Nothing refl inst.1 inst.2.0 (λ e. cc))))

    pub holds_none : OfHart q.moment.flat h (λ hart. held_by q.moment.flat h (access_in hart) ≡ None)
    holds_none =
        let P : HartState → Type 0 = λ hart. IsRun hart.arch word next in
        let hart = some_and (slice_get p.moment.flat.harts h) (λ (x : HartState). Is x × P x) (both P told) in
        let inst = some_and (inst_of word) (λ (i : Inst). (want_of i hart.0.arch ≡ Nothing) × (next ≡ meaning_of i hart.0.arch 0)) hart.2.1 in
        let x : HartState = fetched_with word hart.0 in
        at_behind (λ s. OfHart s h (λ hart. held_by s h (access_in hart) ≡ None))
        (and_some (slice_get behind.harts h) _ x (in_try_there p.moment.flat h word hart.0 hart.1)
        (ap (λ (o : Option Want). held_by behind h (access_of o)) (want_there x word inst.0 Nothing refl inst.1 inst.2.0)))

-- the entries of a unit are legal where it is, and each behind those before it
pub here_legal : (p : ProcessValue) (h : ℕ) (events : List Event) → Rests p → HasUnit p h events → IsLegal p.moment (entries_by h events)
here_legal p h events rests here = unit_legal p h events here.new rests here.unit

pub here_made : (p q : ProcessValue) (h : ℕ) (events : List Event) → Rests p → HasUnit p h events → q ≡ with_entries (entries_by h events) p → HasMadeUnit h p q
here_made p q h events rests here is = unit_made p q h events here.new rests here.unit is

module _ (p q : ProcessValue) (actor : Actor) (event : Event) (is : q ≡ with_entry actor event p) where
  pub legal_behind : (rest : List Entry) → IsLegal p.moment (record { actor = actor; event = event } ∷ rest) → IsLegal q.moment rest
  unfolding with_entry
  legal_behind rest legal = subst (λ (r : ProcessValue). IsLegal r.moment rest) (sym is) legal.1

  pub room_behind : (n : ℕ) → n + 1 ≤ p.room → n ≤ q.room
  unfolding with_entry
  room_behind n le = subst (λ (r : ProcessValue). n ≤ r.room) (sym is) (omega arith)
