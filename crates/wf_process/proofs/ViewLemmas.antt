-- The view of a generation that lives.
use Rattle.std.proofs.Common.{◌≡◌, ℕ, Bool, true, false, Option, Some, None, refl, if◌then◌else◌}
use Rattle.std.specs.Prelude.{IsSome, IsSomeAnd, MatchOption, option_and_then, slice_get, unwrap_or}
use Rattle.std.specs.Option.{option_map}
use Rattle.wf_frames.specs.Layout.{WordsValue}
use Rattle.wf_views.specs.declared.records.Records.{Records}
use Rattle.wf_views.specs.Views.{view_of}
use Rattle.wf_flat.specs.State.{FlatState, GenState}
use Rattle.wf_effects.specs.Generations.{is_live}
use Rattle.wf_homes.specs.Homes.{Homes}
use Rattle.wf_homes.specs.Kept.{IsKeptView}
use Rattle.wf_homes.specs.Stands.{StandsFor, living}

some_is : {A : Type 0} (o : Option A) (P : A → Type 0) → IsSomeAnd o P → IsSome o
some_is None P is = absurd is
some_is (Some x) P is = refl

-- there is a view of a generation that lives
pub view_there : (words : WordsValue) (r : Records) (homes : Homes) (s : FlatState) (g : ℕ) → StandsFor words r homes s → is_live s g ≡ true → IsSome (view_of r.views g)
view_there words r homes s g st live = by_gen (slice_get s.gens g) live (st.views g)
  where
    by_gen : (o : Option GenState) → unwrap_or (option_map (λ gen. gen.live) o) false ≡ true → MatchOption (option_and_then living o) (view_of r.views g ≡ None) (λ gen. IsSomeAnd (view_of r.views g) (IsKeptView words homes s gen)) → IsSome (view_of r.views g)
    by_gen None l kept = absurd cc
    by_gen (Some gen) l kept = by_live gen.live l kept
      where
        by_live : (b : Bool) → b ≡ true → MatchOption (if b then Some gen else None) (view_of r.views g ≡ None) (λ gen. IsSomeAnd (view_of r.views g) (IsKeptView words homes s gen)) → IsSome (view_of r.views g)
        by_live true e is = some_is (view_of r.views g) (IsKeptView words homes s gen) is
        by_live false e is = absurd cc
