-- The invariant is kept where the entries of calls change pages and generations, and no hart.
use Rattle.std.proofs.Common.{◌≡◌, ◌≤◌, ◌+◌, ℕ, List, true, Option, Some, length, map, refl, arith, nat_eq}
use Rattle.std.specs.Prelude.{slice_get, IsSomeAnd}
use Rattle.std.specs.List.{AllByRecursion, IsDistinct}
use Rattle.std.proofs.lemmas.Option.{slice_get_within}
use Rattle.wf_outside.specs.Images.{DeltaValue}
use Rattle.wf_flat.specs.declared.event.Actor.{Actor}
use Rattle.wf_flat.specs.declared.event.Actor.TheVariants.{Hart, Kernel}
use Rattle.wf_flat.specs.declared.state.Life.TheVariants.{Running}
use Rattle.wf_flat.specs.State.{FlatState, GenState, HartState, PageState}
use Rattle.wf_flat.specs.Counts.{used_of}
use Rattle.wf_flat.specs.Lists.{others_changed}
use Rattle.wf_flat.specs.Ordered.{IsOrdered}
use Rattle.wf_flat.specs.Accesses.{Access, holds}
use Rattle.wf_flat.proofs.ListLemmas.{some_and}
use Rattle.wf_effects.specs.Effects.{all_noted, pages_noted, place_among}
use Rattle.wf_effects.specs.Generations.{is_live}
use Rattle.wf_verdict.specs.declared.verdict.TheConstants.{MOST_GENERATIONS}
use Rattle.wf_legal.specs.Events.{call_answered}
use Rattle.wf_flat.specs.Changes.{answered, without}
use Rattle.wf_sound.specs.Sound.{HasHolder, IsInPlace, IsMet, IsSoundGen, IsSoundPage, IsSoundState}
use Rattle.wf_sound.proofs.AllLemmas.{all_more}
use Rattle.wf_sound.proofs.EventLemmas.{comes_without}
use Rattle.wf_sound.proofs.HandLemmas.{hand_after}
use Rattle.wf_sound.proofs.HartLemmas.{IsNoted, all_noted_is, stepped_others, stepped_same}
use Rattle.wf_sound.proofs.HolderLemmas.{holder_after}
use Rattle.wf_sound.proofs.OwnLemmas.{answered_sound}
use Rattle.wf_sound.proofs.StateLemmas.{IsPageAfter, harts_after, page_same, paired_same, state_after, tried_with}
use Rattle.wf_sound.proofs.TryLemmas.{ComesNone, Keeps, keeps_want}

-- a state with other pages and generations
abbrev pub changed_to : FlatState → List PageState → List GenState → List (ℕ × ℕ) → ℕ → ℕ → FlatState
changed_to s pages gens met births worn = record s { pages = pages; gens = gens; met = met; births = births; worn = worn }

-- what such a state keeps
pub record IsChange (deltas : List DeltaValue) (s t : FlatState) : Type 0 where
  pub ordered : IsOrdered t
  pub pages : AllByRecursion (IsSoundPage s.limits t.births) t.pages
  pub births : IsDistinct nat_eq (map (λ page. page.birth) t.pages)
  pub held : AllByRecursion (HasHolder s) t.pages
  pub more_gens : length s.gens ≤ length t.gens
  pub few_gens : length t.gens ≤ MOST_GENERATIONS
  pub placed : (g : ℕ) (gen : GenState) → slice_get t.gens g ≡ Some gen → IsInPlace g gen
  pub gens : AllByRecursion (IsSoundGen deltas t) t.gens
  pub live : (o : ℕ) (hart : HartState) → slice_get s.harts o ≡ Some hart → hart.life ≡ Running → is_live s hart.generation ≡ true → is_live t hart.generation ≡ true
  pub more_births : s.births ≤ t.births
  pub holds : (o : ℕ) (access : Access) → holds s o access ≡ true → holds t o access ≡ true
  pub met : AllByRecursion (IsMet t) t.met
  pub frames : used_of t + t.worn ≤ s.limits.frames

module _ (deltas : List DeltaValue) (s : FlatState) (pages : List PageState) (gens : List GenState) (met : List (ℕ × ℕ)) (births worn : ℕ) where
  same_held : (page : PageState) → HasHolder s page → HasHolder (changed_to s pages gens met births worn) page
  same_held page held = holder_after s (changed_to s pages gens met births worn) 0 (λ x. x) (stepped_same s.harts 0) (λ o e. e) page.number page.holder
      (λ hart known holds is. record { runs = is.runs; outside = is.outside; access = is.access }) held

  pub change_sound : IsSoundState deltas s → IsChange deltas s (changed_to s pages gens met births worn) → IsSoundState deltas (changed_to s pages gens met births worn)
  change_sound sound change =
      let t : FlatState = changed_to s pages gens met births worn in
      let some = sound.some_gens in
      let more = change.more_gens in
      record {
        ordered = change.ordered;
        pages = change.pages;
        births = change.births;
        held = all_more (HasHolder s) (HasHolder t) same_held pages change.held;
        some_gens = omega arith;
        few_gens = change.few_gens;
        placed = change.placed;
        gens = change.gens;
        few_harts = sound.few_harts;
        harts = harts_after s t (length s.harts) (λ x. x) (record {
          step = stepped_same s.harts (length s.harts);
          gens = change.more_gens;
          live = change.live;
          limits = refl;
          births = change.more_births;
          holds = λ o access apart e. change.holds o access e;
          own = λ hart known is. absurd (let k = slice_get_within s.harts (length s.harts) hart known in omega arith);
        }) sound.harts;
        met = change.met;
        limits = sound.limits;
        frames = change.frames;
      }

-- the others note something, and somebody may leave
pub others_keep : (deltas : List DeltaValue) (s : FlatState) (a : ℕ) (f : HartState → HartState) (inside : Option Actor) → ((hart : HartState) → IsNoted hart (f hart)) → ComesNone s.inside inside → IsSoundState deltas s
    → Keeps deltas s (tried_with s s.pages (others_changed s.harts a f) inside)
others_keep deltas s a f inside notes comes sound =
    let harts : List HartState = others_changed s.harts a f in
    let t : FlatState = tried_with s s.pages harts inside in
    let step = stepped_others f notes s.harts a in
    let paired = paired_same (IsPageAfter s t a) s.pages (all_more (HasHolder s) (λ page. IsPageAfter s t a page page)
    (λ page held. page_same s t a page (holder_after s t a (λ x. x) step comes page.number page.holder (λ hart known holds is. record { runs = is.runs; outside = comes a is.outside; access = is.access })))
    s.pages sound.held) in
    record {
      state = state_after s s.pages harts inside a (λ x. x) paired deltas step (λ x known is. record {
        generation = is.generation;
        live = is.live;
        registers = is.registers;
        zero_register = is.zero_register;
        reservation = is.reservation;
        written = is.written;
      }) sound;
      hand = λ o call in_hand. hand_after s s.pages harts inside a (λ x. x) paired deltas step (λ x known runs. runs) o call (λ e x known calls. calls) in_hand;
    }

-- an actor leaves the kernel
pub leaves_sound : (deltas : List DeltaValue) (s : FlatState) (actor : Actor) → IsSoundState deltas s → IsSoundState deltas (record s { inside = without s.inside actor })
leaves_sound deltas s actor sound =
    let inside : Option Actor = without s.inside actor in
    let t : FlatState = tried_with s s.pages s.harts inside in
    let a : ℕ = length s.harts in
    let step = stepped_same s.harts a in
    let comes = comes_without s.inside actor in
    let paired = paired_same (IsPageAfter s t a) s.pages (all_more (HasHolder s) (λ page. IsPageAfter s t a page page)
    (λ page held. page_same s t a page (holder_after s t a (λ x. x) step comes page.number page.holder (λ hart known holds is. record { runs = is.runs; outside = comes a is.outside; access = is.access })))
    s.pages sound.held) in
    state_after s s.pages s.harts inside a (λ x. x) paired deltas step (λ x known is. record {
      generation = is.generation;
      live = is.live;
      registers = is.registers;
      zero_register = is.zero_register;
      reservation = is.reservation;
      written = is.written;
    }) sound

-- pages that an actor moved are noted
pub noting_keeps : (deltas : List DeltaValue) (s : FlatState) (actor : Actor) (numbers : List ℕ) → IsSoundState deltas s → Keeps deltas s (pages_noted s actor numbers)
noting_keeps deltas s actor numbers sound = others_keep deltas s (place_among (length s.harts) actor) (all_noted numbers) s.inside (all_noted_is numbers) (λ o e. e) sound

-- the actor is a hart that is there, or the kernel's own
abbrev pub IsThere : FlatState → Actor → Type 0
IsThere s (Hart h) = IsSomeAnd (slice_get s.harts h) (λ hart. Unit {0})
IsThere s Kernel = Unit {0}

-- a call has its answer
pub answer_keeps : (deltas : List DeltaValue) (s : FlatState) (actor : Actor) (answer : ℕ) → IsSoundState deltas s → IsThere s actor → Keeps deltas s (call_answered s actor answer)
answer_keeps deltas s (Hart h) answer sound there =
    let w = some_and (slice_get s.harts h) (λ hart. Unit {0}) there in
    keeps_want deltas s h w.0 w.1 sound s.inside (λ o e. e) (answered answer) (answered_sound s h answer w.0) refl refl
answer_keeps deltas s Kernel answer sound there = record { state = sound; hand = λ o call in_hand. in_hand }
