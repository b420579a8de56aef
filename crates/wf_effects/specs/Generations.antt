-- Which generations there are, and what is asked of them.
use Rattle.std.specs.Prelude.{ℕ, List, [], ◌∷◌, Bool, true, false, Option, Some, None, ◌-◌, ◌==◌, ◌&&◌, if◌then◌else◌, length, position, slice_get, unwrap_or}
use Rattle.std.specs.Option.{option_map}
use Rattle.wf_outside.specs.declared.image.Jump.{Jump}
use Rattle.wf_flat.specs.declared.state.Life.{Life}
use Rattle.wf_flat.specs.declared.state.Life.TheVariants.{Running, Exited, Trapped}
use Rattle.wf_flat.specs.State.{FlatState, GenState}

-- a generation of the number lives
abbrev pub is_live : FlatState → ℕ → Bool
is_live s generation = unwrap_or (option_map (λ gen. gen.live) (slice_get s.gens generation)) false

-- the greatest number of a generation that lives, and where none does, this
abbrev pub newest_live : List GenState → Option ℕ → Option ℕ
newest_live [] so_far = so_far
newest_live (gen ∷ gens) so_far = newest_live gens (if gen.live then Some gen.number else so_far)

-- the newest generation: of those that live the one with the greatest number; where none lives, the
-- last one born
abbrev pub newest : FlatState → ℕ
newest s = unwrap_or (newest_live s.gens None) (length s.gens - 1)

-- the jumps in a generation's text
abbrev pub jumps_in : FlatState → ℕ → List Jump
jumps_in s generation = unwrap_or (option_map (λ gen. gen.jumps) (slice_get s.gens generation)) []

-- how many of the run's patches a generation has
abbrev pub patches_in : FlatState → ℕ → ℕ
patches_in s generation =
    unwrap_or (option_map (λ gen. gen.patches) (slice_get s.gens generation)) 0

-- a hart of this life runs
abbrev pub is_running : Life → Bool
is_running Running = true
is_running (Exited code) = false
is_running (Trapped cause value) = false

-- the lowest running hart that is in a generation
abbrev pub lowest_in : FlatState → ℕ → Option ℕ
lowest_in s generation =
    position (λ hart. is_running hart.life && (hart.generation == generation)) s.harts
