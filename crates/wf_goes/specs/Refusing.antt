-- For which requests the kernel's own actor may be refused.
use Rattle.std.specs.Prelude.{ℕ, List, Option, Some, None, ◌≡◌, ◌<◌, length, slice_get}
use Rattle.std.specs.Option.{option_map}
use Rattle.wf_outside.specs.declared.refusal.Refusal.{Refusal}
use Rattle.wf_outside.specs.declared.refusal.Refusal.TheVariants.{NoView, NotEmpty}
use Rattle.wf_outside.specs.Images.{DeltaValue}
use Rattle.wf_flat.specs.State.{FlatState}
use Rattle.wf_verdict.specs.declared.requests.Request.TheVariants.{Clones, Deletes, Patches}
use Rattle.wf_verdict.specs.declared.verdict.TheConstants.{MOST_GENERATIONS}
use Rattle.wf_verdict.specs.Verdict.{refusal_of}

-- the generation whose delete may be refused for the reason: the one that is named, or that the
-- hart is in
abbrev pub to_delete : FlatState → Refusal → Option ℕ
to_delete s (NoView generation) = Some generation
to_delete s (NotEmpty h) = option_map (λ hart. hart.generation) (slice_get s.harts h)
to_delete s reason = None

-- a delete is refused for the reason
pub record RefusesDelete (deltas : List DeltaValue) (s : FlatState) (reason : Refusal)
    : Type 0 where
  pub generation : ℕ
  pub few : generation < MOST_GENERATIONS
  pub is : refusal_of deltas s 0 (Deletes generation) ≡ Some reason

-- a clone of a generation that was born is refused for the reason
pub record RefusesClone (deltas : List DeltaValue) (s : FlatState) (reason : Refusal)
    : Type 0 where
  pub generation : ℕ
  pub born : generation < length s.gens
  pub is : refusal_of deltas s 0 (Clones generation) ≡ Some reason

-- a patch of the run is refused for the reason
pub record RefusesPatch (deltas : List DeltaValue) (s : FlatState) (reason : Refusal)
    : Type 0 where
  pub patch : ℕ
  pub there : patch < length deltas
  pub is : refusal_of deltas s 0 (Patches patch) ≡ Some reason
