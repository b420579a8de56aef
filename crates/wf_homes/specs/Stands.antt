-- What words and records stand for.
use Rattle.std.specs.Prelude.{ℕ, Option, Some, None, ◌≡◌, ◌<◌, ◌≤◌, ◌-◌, if◌then◌else◌, length, slice_get, slice_index, sum_by, option_and_then, IsSomeAnd, MatchOption}
use Rattle.std.specs.Option.{option_map}
use Rattle.std.specs.List.{AllByRecursion}
use Rattle.wf_outside.specs.Pages.{LimitsValue}
use Rattle.wf_frames.specs.Layout.{WordsValue, word_count}
use Rattle.wf_views.specs.declared.records.BornAt.{BornAt}
use Rattle.wf_views.specs.declared.records.Records.{Records}
use Rattle.wf_views.specs.Views.{view_of}
use Rattle.wf_flat.specs.State.{FlatState, GenState}
use Rattle.wf_homes.specs.Homes.{AreHomes, Homes, Tenant, home_frame}
use Rattle.wf_homes.specs.Kept.{IsKeptFrame, IsKeptPage, IsKeptView, recorded_frame}

-- words and records are of these sizes
pub record HaveSizes (words : WordsValue) (r : Records) (limits : LimitsValue) : Type 0 where
  pub of_records : r.limits ≡ limits
  pub of_words : words.frames ≡ limits.frames
  pub whole : length words.items ≡ word_count limits.frames
  pub of_frames : length r.frames.frames ≡ limits.frames
  pub last_birth : r.frames.last_birth ≡ limits.last_birth

-- a generation, if it lives
abbrev pub living : GenState → Option GenState
living gen = if gen.live then Some gen else None

-- the generation of a number, if it lives
abbrev pub living_at : FlatState → ℕ → Option GenState
living_at s generation = option_and_then living (slice_get s.gens generation)

-- the record of a generation that was born
abbrev pub born_of : GenState → BornAt
born_of gen = record { parent = gen.parent; patches = gen.patches }

-- What words and records stand for, with these homes: a flat state.
pub record StandsFor (words : WordsValue) (r : Records) (homes : Homes) (s : FlatState)
    : Type 0 where
  pub sizes : HaveSizes words r s.limits
  -- word 0 is always 0
  pub zero_word : slice_index words.items 0 ≡ 0
  pub housed : AreHomes homes s
  -- each page of text, page of data and node is kept in its home, and nothing else is kept
  pub at_home : (tenant : Tenant) → recorded_frame r tenant ≡ home_frame homes tenant
  pub pages : AllByRecursion (IsKeptPage words r homes) s.pages
  pub frames : (frame : ℕ) → frame < s.limits.frames
      → IsKeptFrame words r homes s.births frame
  -- there is a view of each generation that lives, and no other
  pub views : (generation : ℕ)
      → MatchOption (living_at s generation) (view_of r.views generation ≡ None)
      (λ gen. IsSomeAnd (view_of r.views generation) (IsKeptView words homes s gen))
  -- there is a record of each generation that was ever born, and no other
  pub born : (generation : ℕ)
      → slice_get r.born.items generation ≡ option_map born_of (slice_get s.gens generation)
  pub last : r.views.last ≡ Some (length s.gens - 1)
  pub births : r.births ≡ s.births
  -- each birth raised a frame's incarnation
  pub raised : s.births ≤ sum_by (λ f. f.incarnation) r.frames.frames
