-- What a birth is refused for, over records.
use Rattle.std.specs.Prelude.{ℕ, [], ◌∷◌, Option, Some, None, ◌≡◌, if◌then◌else◌, is_some, length, nat_lt}
use Rattle.wf_outside.specs.declared.refusal.Refusal.{Refusal}
use Rattle.wf_outside.specs.declared.refusal.Refusal.TheVariants.{NoView, Views}
use Rattle.wf_outside.specs.Lists.{first_of}
use Rattle.wf_views.specs.declared.records.Records.{Records}
use Rattle.wf_views.specs.Views.{view_of}
use Rattle.wf_verdict.specs.declared.verdict.TheConstants.{MOST_GENERATIONS}
use Rattle.wf_verdict.specs.Verdict.{more_than_free}
use Rattle.wf_space.specs.declared.fault.SpaceFault.{SpaceFault}
use Rattle.wf_space.specs.declared.fault.SpaceFault.TheVariants.{Memory, Refused}
use Rattle.wf_mapping.specs.Layout.{free_in}
use Rattle.wf_creating.specs.Layout.{need_at_birth}

-- NoView: there is no view of the generation
abbrev pub no_view_in : Records → ℕ → Option Refusal
no_view_in r generation =
    if is_some (view_of r.views generation) then None else Some (NoView generation)

-- Views: as many generations were born as may be
abbrev pub views_in : Records → Option Refusal
views_in r = if nat_lt (length r.born.items) MOST_GENERATIONS then None else Some Views

-- NoFrames: the birth needs more frames than are free
abbrev pub no_frames_at_birth : Records → ℕ → Option Refusal
no_frames_at_birth r parent = more_than_free (need_at_birth r parent) (length (free_in r))

-- what a birth is refused for: the first that applies, if one does
abbrev pub birth_refusal : Records → ℕ → Option Refusal
birth_refusal r parent =
    first_of (no_view_in r parent ∷ views_in r ∷ no_frames_at_birth r parent ∷ [])

-- why no plan of a birth was made: memory ran out, or this is what it is refused for
abbrev pub IsBirthFault : Records → ℕ → SpaceFault → Type 0
IsBirthFault r parent Memory = Unit {0}
IsBirthFault r parent (Refused reason) = birth_refusal r parent ≡ Some reason
