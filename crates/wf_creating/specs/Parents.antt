-- What a generation that is born has of its parent, and of the pages of data that are there.
use Rattle.std.specs.Prelude.{ℕ, List, [], Option, Some, None, map}
use Rattle.std.specs.List.{filter}
use Rattle.wf_outside.specs.declared.image.Jump.{Jump}
use Rattle.wf_views.specs.declared.records.Records.{Records}
use Rattle.wf_views.specs.declared.view.TextAt.{TextAt}
use Rattle.wf_views.specs.Pages.{page_number}
use Rattle.wf_views.specs.Views.{ViewValue, view_of}
use Rattle.wf_flat.specs.Boot.{places_with}
use Rattle.wf_homes.specs.Kept.{text_page}
use Rattle.wf_mapping.specs.Refusals.{stays}

-- the pages of text of a view, if there is one
abbrev pub text_of_view : Option ViewValue → List TextAt
text_of_view None = []
text_of_view (Some view) = view.text

-- the jumps of a view, if there is one
abbrev pub jumps_of_view : Option ViewValue → List Jump
jumps_of_view None = []
jumps_of_view (Some view) = view.jumps

-- how many patches a view has, if there is one
abbrev pub patches_of_view : Option ViewValue → ℕ
patches_of_view None = 0
patches_of_view (Some view) = view.patches

-- the pages of text of a generation that lives, each with its frame
abbrev pub parent_text : Records → ℕ → List TextAt
parent_text r parent = text_of_view (view_of r.views parent)

-- the jumps in the text of a generation that lives
abbrev pub parent_jumps : Records → ℕ → List Jump
parent_jumps r parent = jumps_of_view (view_of r.views parent)

-- how many patches of the script a generation has that lives
abbrev pub parent_patches : Records → ℕ → ℕ
parent_patches r parent = patches_of_view (view_of r.views parent)

-- the numbers of the pages of text of a generation that lives
abbrev pub text_numbers_of : Records → ℕ → List ℕ
text_numbers_of r parent = map text_page (parent_text r parent)

-- the numbers of the pages of data that are here
abbrev pub numbers_here : Records → List ℕ
numbers_here r = map page_number (filter stays r.pages.items)

-- the places that a generation reaches that is born of this parent: those of its text, and of the
-- pages of data that are here
abbrev pub reach_at_birth : Records → ℕ → List ℕ
reach_at_birth r parent =
    places_with (places_with [] (text_numbers_of r parent)) (numbers_here r)
