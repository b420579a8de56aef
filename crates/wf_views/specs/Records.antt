-- What becomes of the records when a data page leaves.
use Rattle.std.specs.Prelude.{◌≡◌, ℕ, Bool, true, IsSomeAnd, if◌then◌else◌}
use Rattle.wf_frames.specs.declared.state.FrameState.TheVariants.{InUse}
use Rattle.wf_frames.specs.Frames.{HasState, with_frame, given}
use Rattle.wf_views.specs.declared.pages.PageAt.{PageAt}
use Rattle.wf_views.specs.declared.records.Records.{Records}
use Rattle.wf_views.specs.Views.{forgotten}
use Rattle.wf_views.specs.Pages.{page_at, page_changed, page_removed, made_ending}

-- the frame of a data page is in use
abbrev pub HasFrame : Records → PageAt → Type 0
HasFrame r p = HasState r.frames.frames p.frame InUse

-- a page is Going, since a call that unmaps it runs, and its frame is in use
abbrev pub IsGoing : Records → ℕ → Type 0
IsGoing r page = IsSomeAnd (page_at r.pages page) (λ p. (p.going ≡ true) × HasFrame r p)

-- a page is Ending, since it was unmapped while a hart held it, and its frame is in use
abbrev pub IsEnding : Records → ℕ → Type 0
IsEnding r page = IsSomeAnd (page_at r.pages page) (λ p. (p.ending ≡ true) × HasFrame r p)

-- a page is gone: it is no data page any more, and its frame is given back
abbrev pub gone : Records → PageAt → Records
gone r p = record r {
  frames = with_frame r.frames p.frame (given r.frames.last_birth);
  pages = page_removed p.page r.pages;
}

-- a page leaves: it is Ending where a hart holds it, else it is gone; and no view has met it
abbrev pub left : Bool → Records → PageAt → Records
left held r p = record r {
  frames = if held then r.frames else with_frame r.frames p.frame (given r.frames.last_birth);
  pages = if held then page_changed p.page made_ending r.pages else page_removed p.page r.pages;
  views = forgotten p.page r.views;
}
