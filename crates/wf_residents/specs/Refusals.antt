-- Who is in which view, and what moves of harts and deletes of generations are refused for.
use Rattle.std.specs.Prelude.{ℕ, List, [], ◌∷◌, Bool, Option, Some, None, ◌≡◌, ◌<◌, if◌then◌else◌, is_some, option_and_then, slice_get, unwrap_or, IsSome}
use Rattle.std.specs.Option.{option_map}
use Rattle.std.specs.List.{AllByRecursion, find, list_any}
use Rattle.wf_outside.specs.declared.image.Jump.{Jump}
use Rattle.wf_outside.specs.declared.refusal.Refusal.{Refusal}
use Rattle.wf_outside.specs.declared.refusal.Refusal.TheVariants.{Inside, NotEmpty, NoView}
use Rattle.wf_outside.specs.Lists.{first_of}
use Rattle.wf_views.specs.declared.records.Records.{Records}
use Rattle.wf_views.specs.Lists.{has_number}
use Rattle.wf_views.specs.Views.{ViewValue, generation_number, view_of}
use Rattle.wf_verdict.specs.Verdict.{is_in_jump}
use Rattle.wf_space.specs.declared.fault.SpaceFault.{SpaceFault}
use Rattle.wf_space.specs.declared.fault.SpaceFault.TheVariants.{Memory, Refused}
use Rattle.wf_residents.specs.declared.migration.Migration.{Migration}

-- a hart is among the residents of a view
abbrev pub has_resident : ℕ → ViewValue → Bool
has_resident hart view = has_number view.residents.items hart

-- the generation in whose view a hart is, if it is in one
abbrev pub residence_of : Records → ℕ → Option ℕ
residence_of r hart = option_map generation_number (find (has_resident hart) r.views.views)

-- the lowest hart that is in a view, whose residents stand by rising number
abbrev pub lowest_resident : ViewValue → Option ℕ
lowest_resident view = slice_get view.residents.items 0

-- the jumps in the text of a generation, if it lives
abbrev pub jumps_at : Records → ℕ → List Jump
jumps_at r generation = unwrap_or (option_map (λ view. view.jumps) (view_of r.views generation)) []

-- NoView: no generation of the number lives
abbrev pub no_view_in : Records → ℕ → Option Refusal
no_view_in r generation =
    if is_some (view_of r.views generation) then None else Some (NoView generation)

-- Inside: the address is inside a jump of the generation's text
abbrev pub inside_in : Records → ℕ → ℕ → Option Refusal
inside_in r generation at =
    if list_any (is_in_jump at) (jumps_at r generation) then Some (Inside at) else None

-- NotEmpty: the lowest hart that is in the generation's view
abbrev pub not_empty_in : Records → ℕ → Option Refusal
not_empty_in r generation =
    option_map NotEmpty (option_and_then lowest_resident (view_of r.views generation))

-- what the move of a hart is refused for: the first that applies, if one does
abbrev pub migration_refusal : Records → Migration → Option Refusal
migration_refusal r m =
    first_of (no_view_in r m.generation ∷ inside_in r m.generation m.next ∷ [])

-- what the delete of a generation is refused for: the first that applies, if one does
abbrev pub deletion_refusal : Records → ℕ → Option Refusal
deletion_refusal r generation =
    first_of (no_view_in r generation ∷ not_empty_in r generation ∷ [])

-- why no plan was made: memory ran out, or there is a refusal, which is this
abbrev pub IsFaultOf : Option Refusal → SpaceFault → Type 0
IsFaultOf refusal Memory = Unit {0}
IsFaultOf refusal (Refused reason) = refusal ≡ Some reason

-- a hart may be moved: it is in a view
abbrev pub CanMigrate : Records → ℕ → Type 0
CanMigrate r hart = IsSome (residence_of r hart)

-- residents of a generation's view have numbers of harts
abbrev pub CanDelete : Records → ℕ → Type 0
CanDelete r generation =
    (view : ViewValue) → view_of r.views generation ≡ Some view
    → AllByRecursion (λ hart. hart < 256) view.residents.items
