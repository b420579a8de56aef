-- What each request is refused for: the refusals of the table of calls, and their order.
use Rattle.std.specs.Prelude.{IsSomeAnd, ℕ, List, [], ◌∷◌, Bool, Option, Some, None, ◌+◌, ◌-◌, ◌*◌, ◌%◌, ◌≤◌, ◌==◌, ◌&&◌, ◌||◌, ◌^◌, ◌++◌, if◌then◌else◌, length, nat_eq, nat_le, nat_lt, slice_get, unwrap_or}
use Rattle.std.specs.Option.{option_map}
use Rattle.std.specs.List.{IsDistinct, fold, list_any, range_with_len}
use Rattle.wf_outside.specs.declared.image.Jump.{Jump}
use Rattle.wf_outside.specs.declared.refusal.Refusal.{Refusal}
use Rattle.wf_outside.specs.declared.refusal.Refusal.TheVariants.{Argument, Overlap, Absent, Leaving, NoFrames, NoView, NotEmpty, Inside, Views, Number, Lacks}
use Rattle.wf_outside.specs.declared.sizes.TheConstants.{ADDRESS_PAGES, MOST_FRAMES, PAGE_SIZE}
use Rattle.wf_outside.specs.Images.{DeltaValue, data_numbers, text_numbers}
use Rattle.wf_outside.specs.Lists.{first_of}
use Rattle.wf_outside.specs.Pages.{page_of}
use Rattle.wf_flat.specs.Counts.{used_of}
use Rattle.wf_flat.specs.Ordered.{IsOrdered}
use Rattle.wf_flat.specs.State.{FlatState}
use Rattle.wf_effects.specs.Effects.{generation_born, mapped}
use Rattle.wf_effects.specs.Generations.{is_live, jumps_in, lowest_in, newest, patches_in}
use Rattle.wf_effects.specs.Ranges.{first_absent, first_leaving, first_overlap, runs_of}
use Rattle.wf_effects.specs.Texts.{pages_of}
use Rattle.wf_verdict.specs.declared.requests.Request.{Request}
use Rattle.wf_verdict.specs.declared.requests.Request.TheVariants.{Exits, PutsByte, Maps, Unmaps, TellsGeneration, Migrates, Quiesces, Deletes, Clones, Patches, NoCall}
use Rattle.wf_verdict.specs.declared.verdict.TheConstants.{MOST_PAGES, MOST_GENERATIONS}

-- so many pages from that of an address on
abbrev pub pages_from : ℕ → ℕ → List ℕ
pages_from va pages = range_with_len (page_of va) pages

-- the patch of the run of a number; one that the run has not brings nothing
abbrev pub delta_at : List DeltaValue → ℕ → DeltaValue
delta_at deltas patch =
    unwrap_or (slice_get deltas patch) (record { private = []; shared = []; jumps = [] })

-- the frames that are free: those that are not in use and not worn
abbrev pub free_of : FlatState → ℕ
free_of s = s.limits.frames - used_of s - s.worn

-- Argument: the address is no multiple of a page, there is no page or there are too many, or they
-- end above 2 ^ 38
abbrev pub bad_range : ℕ → ℕ → Option Refusal
bad_range va pages =
    if (va % PAGE_SIZE == 0) && nat_le 1 pages && nat_le pages MOST_PAGES
    && nat_le (va + PAGE_SIZE * pages) (2 ^ 38)
    then None else Some Argument

-- Argument: the right is neither 1, to read, nor 3, to read and write
abbrev pub bad_right : ℕ → Option Refusal
bad_right right = if (right == 1) || (right == 3) then None else Some Argument

-- Overlap: the lowest of the pages that is Here, or text of a generation that lives
abbrev pub overlap : FlatState → List ℕ → Option Refusal
overlap s pages = option_map Overlap (first_overlap s pages)

-- Absent: the lowest of the pages that is no page of data
abbrev pub absent : FlatState → List ℕ → Option Refusal
absent s pages = option_map Absent (first_absent s pages)

-- Leaving: the lowest of the pages that is Ending
abbrev pub leaving : FlatState → List ℕ → Option Refusal
leaving s pages = option_map Leaving (first_leaving s pages)

-- NoFrames: more frames are needed than are free
abbrev pub more_than_free : ℕ → ℕ → Option Refusal
more_than_free need free = if nat_lt free need then Some (NoFrames need free) else None

-- NoFrames: the state that is to come needs more frames than are free: those that it uses less
-- those in use now
unfoldable pub no_frames : FlatState → FlatState → Option Refusal
no_frames s to_come = more_than_free (used_of to_come - used_of s) (free_of s)

-- NoView: no generation of the number lives
abbrev pub no_view : FlatState → ℕ → Option Refusal
no_view s generation = if is_live s generation then None else Some (NoView generation)

-- NotEmpty: the lowest running hart that is in the generation
abbrev pub not_empty : FlatState → ℕ → Option Refusal
not_empty s generation = option_map NotEmpty (lowest_in s generation)

-- an address is behind the first byte, and before the end, of a jump, which has eight bytes
abbrev pub is_in_jump : ℕ → Jump → Bool
is_in_jump at jump = nat_lt jump.at at && nat_lt at (jump.at + 8)

-- Inside: the address is inside a jump of the generation's text
abbrev pub inside_jump : FlatState → ℕ → ℕ → Option Refusal
inside_jump s generation at =
    if list_any (is_in_jump at) (jumps_in s generation) then Some (Inside at) else None

-- Views: as many generations were born as may be
abbrev pub no_more_views : FlatState → Option Refusal
no_more_views s = if nat_lt (length s.gens) MOST_GENERATIONS then None else Some Views

-- Lacks: the generation has the first patches of the run alone, so many, and this one's number is
-- greater than that
abbrev pub lacks : FlatState → ℕ → ℕ → Option Refusal
lacks s generation patch =
    if nat_lt (patches_in s generation) patch then Some (Lacks (patches_in s generation)) else None

-- the runs of pages that a patch brings for all generations are mapped one after another
abbrev pub shared_mapped : FlatState → DeltaValue → FlatState
shared_mapped s delta =
    fold (λ s run. mapped s run.first run.count run.write (Some delta)) s (runs_of delta.shared)

-- the state with a patch: its shared pages are mapped, and a generation is born of the newest
abbrev pub patched : List DeltaValue → FlatState → ℕ → FlatState
patched deltas s patch =
    generation_born deltas (shared_mapped s (delta_at deltas patch)) (newest s) (Some patch)

-- the refusals of a call that maps pages, in their order
abbrev pub map_refusals : FlatState → ℕ → ℕ → ℕ → List (Option Refusal)
map_refusals s va pages right =
    bad_range va pages ∷ bad_right right ∷ overlap s (pages_from va pages)
    ∷ leaving s (pages_from va pages)
    ∷ no_frames s (mapped s (page_of va) pages (right == 3) None) ∷ []

-- the refusals of a call that unmaps pages, in their order
abbrev pub unmap_refusals : FlatState → ℕ → ℕ → List (Option Refusal)
unmap_refusals s va pages =
    bad_range va pages ∷ absent s (pages_from va pages) ∷ leaving s (pages_from va pages) ∷ []

-- the refusals of a call that moves a hart to a generation, in their order
abbrev pub migrate_refusals : FlatState → ℕ → ℕ → List (Option Refusal)
migrate_refusals s generation next = no_view s generation ∷ inside_jump s generation next ∷ []

-- the refusals of a call that moves a hart to the newest generation
abbrev pub quiesce_refusals : FlatState → ℕ → List (Option Refusal)
quiesce_refusals s next = inside_jump s (newest s) next ∷ []

-- the refusals of a call that deletes a generation, in their order
abbrev pub delete_refusals : FlatState → ℕ → List (Option Refusal)
delete_refusals s generation = no_view s generation ∷ not_empty s generation ∷ []

-- The refusals of a call that clones a generation, in their order. A program's own lives always.
abbrev pub clone_refusals : FlatState → ℕ → List (Option Refusal)
clone_refusals s generation =
    no_view s generation ∷ no_more_views s
    ∷ no_frames s (generation_born [] s generation None) ∷ []

-- the refusals of a patch of the run, in their order
abbrev pub patch_refusals : List DeltaValue → FlatState → ℕ → List (Option Refusal)
patch_refusals deltas s patch =
    no_view s (newest s) ∷ lacks s (newest s) patch ∷ no_more_views s
    ∷ overlap s (pages_of (delta_at deltas patch)) ∷ leaving s (pages_of (delta_at deltas patch))
    ∷ no_frames s (patched deltas s patch) ∷ []

-- The table: the refusals of a request, in their order. `next` is the address at which a program
-- goes on.
abbrev pub refusals_of : List DeltaValue → FlatState → ℕ → Request → List (Option Refusal)
refusals_of deltas s next (Exits code) = []
refusals_of deltas s next (PutsByte byte) = []
refusals_of deltas s next (Maps va pages right) = map_refusals s va pages right
refusals_of deltas s next (Unmaps va pages) = unmap_refusals s va pages
refusals_of deltas s next TellsGeneration = []
refusals_of deltas s next (Migrates generation) = migrate_refusals s generation next
refusals_of deltas s next Quiesces = quiesce_refusals s next
refusals_of deltas s next (Deletes generation) = delete_refusals s generation
refusals_of deltas s next (Clones generation) = clone_refusals s generation
refusals_of deltas s next (Patches patch) = patch_refusals deltas s patch
refusals_of deltas s next (NoCall number) = Some (Number number) ∷ []

-- what a request is refused for: the first of its refusals that applies, if one does
abbrev pub refusal_of : List DeltaValue → FlatState → ℕ → Request → Option Refusal
refusal_of deltas s next request = first_of (refusals_of deltas s next request)

-- What the state of a run keeps, so that its numbers fit: its tables stand in order, and no more
-- frames are used, generations born and harts there than may be.
pub record IsWithinLimits (s : FlatState) : Type 0 where
  pub ordered : IsOrdered s
  pub frames : used_of s ≤ MOST_FRAMES
  pub generations : length s.gens ≤ MOST_GENERATIONS
  pub harts : length s.harts ≤ 256

-- What a patch of the run keeps: no page is there twice, and there are no more pages than addresses
-- have.
pub record IsPatch (delta : DeltaValue) : Type 0 where
  pub distinct : IsDistinct nat_eq (text_numbers delta.private ++ data_numbers delta.shared)
  pub few_private : length delta.private ≤ ADDRESS_PAGES
  pub few_shared : length delta.shared ≤ ADDRESS_PAGES

-- a request to patch names a patch of the run, which keeps this
abbrev pub IsOfRun : List DeltaValue → Request → Type 0
IsOfRun deltas (Patches patch) = IsSomeAnd (slice_get deltas patch) IsPatch
IsOfRun deltas (Exits code) = Unit {0}
IsOfRun deltas (PutsByte byte) = Unit {0}
IsOfRun deltas (Maps va pages right) = Unit {0}
IsOfRun deltas (Unmaps va pages) = Unit {0}
IsOfRun deltas TellsGeneration = Unit {0}
IsOfRun deltas (Migrates generation) = Unit {0}
IsOfRun deltas Quiesces = Unit {0}
IsOfRun deltas (Deletes generation) = Unit {0}
IsOfRun deltas (Clones generation) = Unit {0}
IsOfRun deltas (NoCall number) = Unit {0}
