-- The invariant is kept where a generation dies, is born, or meets a page.
use Rattle.std.proofs.Common.{◌≡◌, ◌≢◌, ◌<◌, ◌≤◌, ◌+◌, ◌==◌, ◌&&◌, ◌++◌, ℕ, zero, suc, List, [], ◌∷◌, true, false, Option, Some, None, length, sum_by, refl, sym, ap, subst, ◌∙◌, inl, inr, arith, length-append, unwrap_or}
use Rattle.std.specs.Prelude.{slice_get, not}
use Rattle.std.specs.Option.{option_map}
use Rattle.std.proofs.lemmas.Bool.Decides.{nat_tests}
use Rattle.std.proofs.lemmas.List.Sums.{sum_by-cons}
use Rattle.std.proofs.lemmas.Option.{slice_get_within}
use Rattle.wf_outside.specs.Images.{DeltaValue}
use Rattle.wf_flat.specs.declared.state.Life.TheVariants.{Running}
use Rattle.wf_flat.specs.State.{FlatState, GenState, HartState}
use Rattle.wf_flat.specs.Counts.{frames_of, used_of}
use Rattle.wf_flat.specs.Lists.{changed_at}
use Rattle.wf_flat.specs.Memory.{has_met, met_key, with_met}
use Rattle.wf_flat.proofs.FoundLemmas.{rising_met}
use Rattle.wf_flat.proofs.ListLemmas.{all_append, changed_next, length_changed}
use Rattle.wf_flat.proofs.HartLemmas.{get-changed_at}
use Rattle.wf_effects.specs.Effects.{dead, generation_born, generation_dead, newborn}
use Rattle.wf_effects.specs.Generations.{is_live, is_running, lowest_in}
use Rattle.wf_effects.proofs.OrderLemmas.{dead_ordered}
use Rattle.wf_sound.specs.Sound.{IsInPlace, IsMet, IsSoundGen, IsSoundState}
use Rattle.wf_sound.proofs.AllLemmas.{all_filter, all_get, all_inserted, all_more, one_or_two}
use Rattle.wf_sound.proofs.HartLemmas.{other_changed}
use Rattle.wf_sound.proofs.KernelLemmas.{change_sound}
use Rattle.wf_sound.proofs.LeaveLemmas.{not_equal}
use Rattle.wf_sound.proofs.SearchLemmas.{all_changed, got_front, got_last, none_placed}
use Rattle.wf_sound.proofs.StateLemmas.{gens_kept}

live_by : (o : Option GenState) → unwrap_or (option_map (λ (gen : GenState). gen.live) o) false ≡ true → (gen : GenState) × (o ≡ Some gen) × (gen.live ≡ true)
live_by None e = absurd cc
live_by (Some gen) e = (gen, refl, e)

-- a generation that lives is there
pub live_gen : (s : FlatState) (g : ℕ) → is_live s g ≡ true → (gen : GenState) × (slice_get s.gens g ≡ Some gen) × (gen.live ≡ true)
live_gen s g e = live_by (slice_get s.gens g) e

pub live_from : (s : FlatState) (g : ℕ) (gen : GenState) → slice_get s.gens g ≡ Some gen → gen.live ≡ true → is_live s g ≡ true
live_from s g gen e live = rw e live

dead_frames : (gens : List GenState) (g : ℕ) → sum_by frames_of (changed_at gens g dead) ≤ sum_by frames_of gens
dead_frames [] g = omega arith
dead_frames (gen ∷ gens) zero = omega (arith, sum_by-cons frames_of (dead gen) gens, sum_by-cons frames_of gen gens)
dead_frames (gen ∷ gens) (suc g) =
    rw (changed_next gen gens g dead) (let rest = dead_frames gens g in omega (arith, sum_by-cons frames_of gen (changed_at gens g dead), sum_by-cons frames_of gen gens))

-- no hart that runs is in it
none_runs : (hart : HartState) (g : ℕ) → (is_running hart.life && (hart.generation == g)) ≡ false → hart.life ≡ Running → hart.generation ≢ g
none_runs hart g e runs same =
    let k : (hart.generation == g) ≡ false = rw runs at e in
    grind (arith, nat_tests)

dead_placed : (gens : List GenState) (g k : ℕ) → ((gen : GenState) → slice_get gens k ≡ Some gen → IsInPlace k gen) → (gen : GenState) → slice_get (changed_at gens g dead) k ≡ Some gen → IsInPlace k gen
dead_placed gens g k placed gen e = elim (one_or_two k g) [
  | inl same ↦ at_dead (slice_get gens k) refl (sym (subst (λ (m : ℕ). slice_get (changed_at gens g dead) m ≡ option_map dead (slice_get gens m)) (sym same) (get-changed_at gens g dead)) ∙ e)
  | inr apart ↦ placed gen (sym (other_changed dead gens g k apart) ∙ e)
]
  where
    at_dead : (o : Option GenState) → slice_get gens k ≡ o → option_map dead o ≡ Some gen → IsInPlace k gen
    at_dead None at is = absurd cc
    at_dead (Some old) at is = let same : dead old ≡ gen = cc in subst (IsInPlace k) same (placed old at)

module _ (s : FlatState) (g : ℕ) where
  dead_live : (k : ℕ) → k ≢ g → is_live (generation_dead s g) k ≡ is_live s k
  dead_live k apart = ap (λ (o : Option GenState). unwrap_or (option_map (λ (gen : GenState). gen.live) o) false) (other_changed dead s.gens g k apart)

-- a generation dies in which no hart runs
pub dead_sound : (deltas : List DeltaValue) (s : FlatState) (g : ℕ) → lowest_in s g ≡ None → IsSoundState deltas s → IsSoundState deltas (generation_dead s g)
dead_sound deltas s g none sound =
    let t : FlatState = generation_dead s g in
    let empty = none_placed (λ (hart : HartState). is_running hart.life && (hart.generation == g)) s.harts none in
    let less = dead_frames s.gens g in
    let frames = sound.frames in
    let len = length_changed dead s.gens g in
    let few = sound.few_gens in
    change_sound deltas s t.pages t.gens t.met t.births t.worn sound (record {
      ordered = dead_ordered s g sound.ordered;
      pages = sound.pages;
      births = sound.births;
      held = sound.held;
      more_gens = omega arith;
      few_gens = omega arith;
      placed = λ k gen e. dead_placed s.gens g k (sound.placed k) gen e;
      gens = all_changed (IsSoundGen deltas t) dead (λ gen is. record { kept = is.kept; whole = is.whole; patches = is.patches; apart = λ live. absurd cc }) s.gens g (gens_kept deltas s t (λ m e. e) s.gens sound.gens);
      live = λ o hart known runs live. dead_live s g hart.generation (none_runs hart g (all_get (λ (hart : HartState). (is_running hart.life && (hart.generation == g)) ≡ false) s.harts o hart empty known) runs) ∙ live;
      more_births = omega arith;
      holds = λ o access e. e;
      met = all_filter (λ (pair : ℕ × ℕ). not (pair.0 == g)) (IsMet s) (IsMet t) (λ pair keeps is. (dead_live s g pair.0 (not_equal pair.0 g keeps) ∙ is.0, is.1)) s.met sound.met;
      frames = omega arith;
    })

-- a generation that lives meets a page that is not Ending
pub met_sound : (deltas : List DeltaValue) (s : FlatState) (g page : ℕ) → has_met s.met g page ≡ false → IsMet s (g, page) → IsSoundState deltas s → IsSoundState deltas (record s { met = with_met s.met g page })
met_sound deltas s g page unmet meets sound =
    let t : FlatState = record s { met = with_met s.met g page } in
    change_sound deltas s t.pages t.gens t.met t.births t.worn sound (record {
      ordered = record { pages = sound.ordered.pages; met = rising_met s.met g page sound.ordered.met unmet };
      pages = sound.pages;
      births = sound.births;
      held = sound.held;
      more_gens = omega arith;
      few_gens = sound.few_gens;
      placed = sound.placed;
      gens = gens_kept deltas s t (λ m e. e) s.gens sound.gens;
      live = λ o hart known runs live. live;
      more_births = omega arith;
      holds = λ o access e. e;
      met = all_inserted (IsMet t) met_key (g, page) s.met meets sound.met;
      frames = sound.frames;
    })

born_live : (deltas : List DeltaValue) (s : FlatState) (parent : ℕ) (patch : Option ℕ) (g : ℕ) → is_live s g ≡ true → is_live (generation_born deltas s parent patch) g ≡ true
born_live deltas s parent patch g live =
    let w = live_gen s g live in
    live_from (generation_born deltas s parent patch) g w.0 (got_front s.gens (newborn deltas s parent patch) g w.0 w.1) w.2

born_placed : (deltas : List DeltaValue) (s : FlatState) (parent : ℕ) (patch : Option ℕ) → parent < length s.gens → ((g : ℕ) (gen : GenState) → slice_get s.gens g ≡ Some gen → IsInPlace g gen)
    → (g : ℕ) (gen : GenState) → slice_get (s.gens ++ newborn deltas s parent patch ∷ []) g ≡ Some gen → IsInPlace g gen
born_placed deltas s parent patch below placed g gen e = elim (got_last s.gens (newborn deltas s parent patch) g gen e) [
  | inl is ↦ placed g gen is
  | inr is ↦ subst (IsInPlace g) (sym is.1) (sym is.0, (rw is.0 below))
]

-- a generation is born of one that lives
pub born_sound : (deltas : List DeltaValue) (s : FlatState) (parent : ℕ) (patch : Option ℕ) → IsSoundState deltas s → is_live s parent ≡ true → length s.gens < 1024
    → IsSoundGen deltas (generation_born deltas s parent patch) (newborn deltas s parent patch) → used_of (generation_born deltas s parent patch) + s.worn ≤ s.limits.frames → IsSoundState deltas (generation_born deltas s parent patch)
born_sound deltas s parent patch sound live few new frames =
    let t : FlatState = generation_born deltas s parent patch in
    let len = length-append s.gens (newborn deltas s parent patch ∷ []) in
    let w = live_gen s parent live in
    change_sound deltas s t.pages t.gens t.met t.births t.worn sound (record {
      ordered = record { pages = sound.ordered.pages; met = sound.ordered.met };
      pages = sound.pages;
      births = sound.births;
      held = sound.held;
      more_gens = omega arith;
      few_gens = omega arith;
      placed = born_placed deltas s parent patch (slice_get_within s.gens parent w.0 w.1) sound.placed;
      gens = all_append (IsSoundGen deltas t) s.gens (newborn deltas s parent patch ∷ []) (gens_kept deltas s t (λ m e. e) s.gens sound.gens) (new, tt);
      live = λ o hart known runs lives. born_live deltas s parent patch hart.generation lives;
      more_births = omega arith;
      holds = λ o access e. e;
      met = all_more (IsMet s) (IsMet t) (λ pair is. (born_live deltas s parent patch pair.0 is.0, is.1)) s.met sound.met;
      frames = frames;
    })
