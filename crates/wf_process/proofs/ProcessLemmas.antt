-- One more entry comes to a process.
use Rattle.std.proofs.Common.{◌≡◌, ◌++◌, ◌<◌, ◌-◌, ℕ, [], ◌∷◌, length, sym, subst, ap, ◌∙◌, List, Option, Some, None, inl, inr, arith, refl}
use Rattle.std.specs.Prelude.{IsSome, IsSomeAnd, slice_get}
use Rattle.std.proofs.lemmas.Option.{slice_get_cases}
use Rattle.wf_views.specs.Lists.{RoomyValue, pushed}
use Rattle.wf_flat.specs.declared.event.Actor.{Actor}
use Rattle.wf_flat.specs.declared.event.Actor.TheVariants.{Hart}
use Rattle.wf_flat.specs.declared.event.Entry.{Entry}
use Rattle.wf_flat.specs.declared.event.Event.{Event}
use Rattle.wf_legal.specs.Legal.{Allows, IsLegal, Moment, after, end_of}
use Rattle.wf_legal.proofs.JournalLemmas.{end_of-append, legal-append}
use Rattle.wf_views.specs.Views.{view_of}
use Rattle.wf_flat.specs.declared.state.Life.TheVariants.{Running}
use Rattle.wf_flat.specs.State.{FlatState, HartState}
use Rattle.wf_flat.specs.Steps.{MayAct, OfHart, OfRunning}
use Rattle.wf_flat.proofs.ChangeLemmas.{hart_there}
use Rattle.wf_flat.proofs.ListLemmas.{some_and}
use Rattle.rv_inst.specs.Arch.{ArchState}
use Rattle.wf_flat.specs.Accesses.{generation_text}
use Rattle.wf_flat.specs.Memory.{word_at}
use Rattle.wf_homes.proofs.FoundLemmas.{some_more}
use Rattle.wf_translation.specs.Readings.{FetchIsRight}
use Rattle.wf_translation.specs.Translations.{CanTranslate, IsMapped}
use Rattle.wf_homes.specs.Homes.{Homes}
use Rattle.wf_homes.specs.Stands.{StandsFor}
use Rattle.wf_process.specs.Finding.{IsApartFromText}
use Rattle.wf_process.proofs.ApartLemmas.{live_apart}
use Rattle.wf_process.proofs.MappedLemmas.{sound_mapped}
use Rattle.wf_process.proofs.ViewLemmas.{view_there}
use Rattle.wf_process.specs.declared.hart.KeptHart.{KeptHart}
use Rattle.wf_sound.specs.Sound.{IsSound}
use Rattle.wf_sound.proofs.SoundLemmas.{journal_keeps}
use Rattle.wf_process.specs.Bodies.{BodyValue, IsBodyOf, IsTold}
use Rattle.wf_process.proofs.EventLemmas.{allowed_so}
use Rattle.wf_process.specs.Processes.{IsProcess, ProcessValue, process_from, with_entry}

abbrev entry_of : Actor → Event → Entry
entry_of actor event = record { actor = actor; event = event }

-- the moment that a process stands at
pub moment_is : (start : Moment) (entries : RoomyValue Entry) (p : ProcessValue) → process_from start entries ≡ p → end_of start entries.items ≡ p.moment
moment_is start entries p e = ap (λ (q : ProcessValue). q.moment) e

-- a hart is so that may do something, where it is so outside, and where it runs
pub is_so : (P : FlatState → Type 0) (start : Moment) (entries : RoomyValue Entry) (p : ProcessValue) (b : BodyValue) (h : ℕ) (event : Event) → process_from start entries ≡ p → IsProcess start entries.items b
    → (OfRunning (end_of start entries.items).flat h (λ hart. Unit {0}) → P (end_of start entries.items).flat) → (MayAct (end_of start entries.items).flat (Hart h) event → P (end_of start entries.items).flat) → Allows p.moment (Hart h) event → P (end_of start entries.items).flat
is_so P start entries p b h event is kept inside outside may =
    let m : Moment = end_of start entries.items in
    let same : m ≡ p.moment = moment_is start entries p is in
    allowed_so (P m.flat) m h event (journal_keeps start entries.items kept.sound kept.legal) inside outside (subst (λ (n : Moment). Allows n (Hart h) event) (sym same) may)

-- a hart is there that may do something
pub is_there : (start : Moment) (entries : RoomyValue Entry) (p : ProcessValue) (b : BodyValue) (h : ℕ) (event : Event) → process_from start entries ≡ p → IsProcess start entries.items b
    → (MayAct (end_of start entries.items).flat (Hart h) event → h < length (end_of start entries.items).flat.harts) → Allows p.moment (Hart h) event → h < length b.harts
is_there start entries p b h event is kept outside may =
    let s : FlatState = (end_of start entries.items).flat in
    subst (λ (n : ℕ). h < n) (sym kept.stands.harts.count) (is_so (λ s. h < length s.harts) start entries p b h event is kept (λ runs. hart_there s h _ runs) outside may)

-- a hart runs that does something inside the kernel alone
pub is_running : (start : Moment) (entries : RoomyValue Entry) (p : ProcessValue) (b : BodyValue) (h : ℕ) (event : Event) → process_from start entries ≡ p → IsProcess start entries.items b
    → (MayAct (end_of start entries.items).flat (Hart h) event → ⊥) → Allows p.moment (Hart h) event → OfRunning (end_of start entries.items).flat h (λ hart. Unit {0})
is_running start entries p b h event is kept outside may = is_so (λ s. OfRunning s h (λ hart. Unit {0})) start entries p b h event is kept (λ runs. runs) (λ acts. absurd (outside acts)) may

-- the view is there of the generation of a hart that runs
pub has_view : (start : Moment) (entries : List Entry) (b : BodyValue) (h : ℕ) (k : KeptHart) → IsProcess start entries b → OfRunning (end_of start entries).flat h (λ hart. Unit {0}) → slice_get b.harts h ≡ Some k → IsSome (view_of b.records.views k.generation)
has_view start entries b h k kept runs at =
    let s : FlatState = (end_of start entries).flat in
    let hart = some_and (slice_get s.harts h) (λ (x : HartState). (x.life ≡ Running) × Unit {0}) runs in
    let g : k.generation ≡ hart.0.generation = (kept.stands.harts.each h hart.0 k hart.1 at).told.generation in
    let lives = ((journal_keeps start entries kept.sound kept.legal).state.harts h hart.0 hart.1).live hart.2.0 in
    subst (λ (n : ℕ). IsSome (view_of b.records.views n)) (sym g) (view_there b.words b.records kept.stands.homes s hart.0.generation kept.stands.stands lives)

module _ (start : Moment) (old new : RoomyValue Entry) (actor : Actor) (event : Event) (p : ProcessValue) (is : process_from start old ≡ p) (more : new ≡ pushed (entry_of actor event) old) where
  pub reached : end_of start new.items ≡ after (end_of start old.items) actor event
  reached = ap (λ (l : RoomyValue Entry). end_of start l.items) more ∙ end_of-append start old.items (entry_of actor event ∷ [])

  -- what it is then
  pub entry_comes : process_from start new ≡ with_entry actor event p
  unfolding with_entry
  entry_comes =
      ap (λ (m : Moment). record { moment = m; entries = new.items; room = new.room }) reached
      ∙ ap (λ (l : RoomyValue Entry). record { moment = after (end_of start old.items) actor event; entries = l.items; room = l.room }) more
      ∙ ap (λ (q : ProcessValue). record { moment = after q.moment actor event; entries = q.entries ++ entry_of actor event ∷ []; room = q.room - 1 }) is

  -- what it keeps
  pub entry_kept : (b c d : BodyValue) → IsProcess start old.items b → Allows p.moment actor event → c ≡ d → IsBodyOf (after (end_of start old.items) actor event).flat d → IsProcess start new.items c
  entry_kept b c d was may e body = record {
    sound = was.sound;
    births = was.births;
    legal = subst (λ (l : RoomyValue Entry). IsLegal start l.items) (sym more)
        (legal-append start old.items (entry_of actor event ∷ []) was.legal (subst (λ (m : Moment). Allows m actor event) (sym (moment_is start old p is)) may, tt));
    stands = subst (λ (x : BodyValue). IsBodyOf (end_of start new.items).flat x) (sym e) (subst (λ (m : Moment). IsBodyOf m.flat d) (sym reached) body);
  }

-- a hart of the state is told
pub hart_told : (start : Moment) (entries : RoomyValue Entry) (p : ProcessValue) (b : BodyValue) (h : ℕ) (k : KeptHart) → process_from start entries ≡ p → IsProcess start entries.items b → h < length p.moment.flat.harts → slice_get b.harts h ≡ Some k → OfHart p.moment.flat h (IsTold k)
hart_told start entries p b h k is kept there at =
    subst (λ (m : Moment). OfHart m.flat h (IsTold k)) (moment_is start entries p is)
    (by_hart (slice_get (end_of start entries.items).flat.harts h) refl (subst (λ (m : Moment). h < length m.flat.harts) (sym (moment_is start entries p is)) there))
  where
    by_hart : (o : Option HartState) → slice_get (end_of start entries.items).flat.harts h ≡ o → h < length (end_of start entries.items).flat.harts → IsSomeAnd o (IsTold k)
    by_hart (Some hart) e low = (kept.stands.harts.each h hart k e at).told
    by_hart None e low = absurd (elim (slice_get_cases (end_of start entries.items).flat.harts h).1 [
      | inl w ↦ (let x : Some w.0 ≡ None = sym w.2 ∙ e in cc)
      | inr w ↦ omega (arith, w.0, low)
    ])

-- the generation of a hart that runs can be walked, and the word at its pc is found there
pub can_walk : (start : Moment) (entries : RoomyValue Entry) (p : ProcessValue) (b : BodyValue) (h : ℕ) (k : KeptHart) → process_from start entries ≡ p → IsProcess start entries.items b → OfRunning p.moment.flat h (λ hart. Unit {0}) → slice_get b.harts h ≡ Some k → CanTranslate b.words b.records k.generation
can_walk start entries p b h k is kept runs at =
    record {
      homes = kept.stands.homes;
      state = (end_of start entries.items).flat;
      stands = kept.stands.stands;
      view = has_view start entries.items b h k kept (subst (λ (m : Moment). OfRunning m.flat h (λ hart. Unit {0})) (sym (moment_is start entries p is)) runs) at;
    }

pub word_found : (start : Moment) (entries : RoomyValue Entry) (p : ProcessValue) (b : BodyValue) (h : ℕ) (k : KeptHart) (word : Option ℕ) → process_from start entries ≡ p → IsProcess start entries.items b → OfRunning p.moment.flat h (λ hart. Unit {0}) → slice_get b.harts h ≡ Some k
    → FetchIsRight b.words b.records k.generation k.arch.pc word → OfHart p.moment.flat h (λ hart. word ≡ word_at (generation_text p.moment.flat hart.generation) hart.arch.pc)
word_found start entries p b h k word is kept runs at right =
    subst (λ (m : Moment). OfHart m.flat h (λ hart. word ≡ word_at (generation_text m.flat hart.generation) hart.arch.pc)) (moment_is start entries p is)
    (some_more (slice_get (end_of start entries.items).flat.harts h) (λ (hart : HartState). (hart.life ≡ Running) × Unit {0}) (λ (hart : HartState). word ≡ word_at (generation_text (end_of start entries.items).flat hart.generation) hart.arch.pc) found
    (subst (λ (m : Moment). OfRunning m.flat h (λ hart. Unit {0})) (sym (moment_is start entries p is)) runs))
  where
    found : (hart : HartState) → slice_get (end_of start entries.items).flat.harts h ≡ Some hart → ((hart.life ≡ Running) × Unit {0}) → word ≡ word_at (generation_text (end_of start entries.items).flat hart.generation) hart.arch.pc
    found hart e lives =
        let s : FlatState = (end_of start entries.items).flat in
        let told = (kept.stands.harts.each h hart k e at).told in
        let mapped : IsMapped s = sound_mapped _ s (journal_keeps start entries.items kept.sound kept.legal).state in
        right kept.stands.homes s kept.stands.stands mapped
        ∙ ap (λ (g : ℕ). word_at (generation_text s g) k.arch.pc) told.generation
        ∙ ap (λ (a : ArchState). word_at (generation_text s hart.generation) a.pc) told.arch

-- what the memory says of the generation of a hart that runs, the state does
pub read_at : (Q : FlatState → ℕ → Type 0) (start : Moment) (entries : RoomyValue Entry) (p : ProcessValue) (b : BodyValue) (h : ℕ) (k : KeptHart) → process_from start entries ≡ p → IsProcess start entries.items b → OfRunning p.moment.flat h (λ hart. Unit {0}) → slice_get b.harts h ≡ Some k
    → ((homes : Homes) (s : FlatState) → StandsFor b.words b.records homes s → IsMapped s → ((page : ℕ) → IsApartFromText s k.generation page) → Q s k.generation) → OfHart p.moment.flat h (λ hart. Q p.moment.flat hart.generation)
read_at Q start entries p b h k is kept runs at right =
    subst (λ (m : Moment). OfHart m.flat h (λ hart. Q m.flat hart.generation)) (moment_is start entries p is)
    (some_more (slice_get (end_of start entries.items).flat.harts h) (λ (hart : HartState). (hart.life ≡ Running) × Unit {0}) (λ (hart : HartState). Q (end_of start entries.items).flat hart.generation) found
    (subst (λ (m : Moment). OfRunning m.flat h (λ hart. Unit {0})) (sym (moment_is start entries p is)) runs))
  where
    found : (hart : HartState) → slice_get (end_of start entries.items).flat.harts h ≡ Some hart → ((hart.life ≡ Running) × Unit {0}) → Q (end_of start entries.items).flat hart.generation
    found hart e lives =
        let s : FlatState = (end_of start entries.items).flat in
        let g : k.generation ≡ hart.generation = (kept.stands.harts.each h hart k e at).told.generation in
        let sound = journal_keeps start entries.items kept.sound kept.legal in
        let live = (sound.state.harts h hart e).live lives.0 in
        let apart : (page : ℕ) → IsApartFromText s k.generation page = λ page. subst (λ (n : ℕ). IsApartFromText s n page) (sym g) (live_apart s page _ hart.generation sound.state live) in
        subst (λ (n : ℕ). Q s n) g (right kept.stands.homes s kept.stands.stands (sound_mapped _ s sound.state) apart)

-- the invariant holds where a process stands
pub stands_sound : (start : Moment) (entries : RoomyValue Entry) (p : ProcessValue) (b : BodyValue) → process_from start entries ≡ p → IsProcess start entries.items b → IsSound p.moment
stands_sound start entries p b is kept = subst IsSound (moment_is start entries p is) (journal_keeps start entries.items kept.sound kept.legal)

-- the moment after an entry
pub entry_moment : (actor : Actor) (event : Event) (p : ProcessValue) → (with_entry actor event p).moment ≡ after p.moment actor event
unfolding with_entry
entry_moment actor event p = refl
