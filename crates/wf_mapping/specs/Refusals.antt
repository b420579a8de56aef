-- What a mapping is refused for, over records.
use Rattle.std.specs.Prelude.{ℕ, List, [], ◌∷◌, Bool, false, Option, Some, ◌≡◌, ◌&&◌, ◌||◌, is_some, length, not, unwrap_or}
use Rattle.std.specs.List.{find, list_any}
use Rattle.std.specs.Option.{option_map}
use Rattle.wf_outside.specs.declared.refusal.Refusal.{Refusal}
use Rattle.wf_outside.specs.declared.refusal.Refusal.TheVariants.{Overlap}
use Rattle.wf_outside.specs.Lists.{first_of}
use Rattle.wf_views.specs.declared.pages.PageAt.{PageAt}
use Rattle.wf_views.specs.declared.records.Records.{Records}
use Rattle.wf_views.specs.Pages.{page_at}
use Rattle.wf_verdict.specs.Verdict.{more_than_free}
use Rattle.wf_homes.specs.Kept.{text_frame}
use Rattle.wf_space.specs.Jobs.{leaving_in}
use Rattle.wf_space.specs.declared.fault.SpaceFault.{SpaceFault}
use Rattle.wf_space.specs.declared.fault.SpaceFault.TheVariants.{Memory, Refused}
use Rattle.wf_mapping.specs.declared.layout.Mapping.{Mapping}
use Rattle.wf_mapping.specs.Layout.{free_in, need_of, numbers_of}

-- no unmap of a page has begun
abbrev pub stays : PageAt → Bool
stays page = not page.going && not page.ending

-- the page of data of this number is here
abbrev pub is_here_at : Records → ℕ → Bool
is_here_at r page = unwrap_or (option_map stays (page_at r.pages page)) false

-- a page of this number is text of a generation that lives
abbrev pub is_text_at : Records → ℕ → Bool
is_text_at r page = list_any (λ view. is_some (text_frame view page)) r.views.views

-- Overlap: the lowest of the pages that is here, or text of a generation that lives
abbrev pub overlap_in : Records → List ℕ → Option Refusal
overlap_in r pages = option_map Overlap (find (λ page. is_here_at r page || is_text_at r page) pages)

-- NoFrames: the mapping needs more frames than are free
abbrev pub no_frames_in : Records → Mapping → Option Refusal
no_frames_in r mapping = more_than_free (need_of r mapping) (length (free_in r))

-- what a mapping is refused for: the first that applies, if one does
abbrev pub refusal_in : Records → Mapping → Option Refusal
refusal_in r mapping =
    first_of
    (overlap_in r (numbers_of mapping) ∷ leaving_in r (numbers_of mapping)
    ∷ no_frames_in r mapping ∷ [])

-- why no plan of a mapping was made: memory ran out, or this is what it is refused for
abbrev pub IsMapFault : Records → Mapping → SpaceFault → Type 0
IsMapFault r mapping Memory = Unit {0}
IsMapFault r mapping (Refused reason) = refusal_in r mapping ≡ Some reason
