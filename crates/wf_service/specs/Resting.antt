-- A machine at rest.
use Rattle.std.specs.Prelude.{◌≡◌, None}
use Rattle.std.specs.List.{AllByRecursion}
use Rattle.wf_flat.specs.declared.state.Stage.TheVariants.{Here}
use Rattle.wf_flat.specs.Ordered.{IsOrdered}
use Rattle.wf_flat.specs.State.{FlatState, PageState}

-- a page that is Here and that nobody holds
abbrev pub IsSettled : PageState → Type 0
IsSettled page = (page.stage ≡ Here) × (page.holder ≡ None)

-- nobody is inside, no hart is in a try, and no page is held or leaving
pub record IsResting (s : FlatState) : Type 0 where
  pub no_one : s.inside ≡ None
  pub no_try : AllByRecursion (λ hart. hart.fetched ≡ None) s.harts
  pub ordered : IsOrdered s
  pub free : AllByRecursion IsSettled s.pages
