-- What a patch makes of each page of a text.
use Rattle.std.specs.Prelude.{List, ◌≡◌, map}
use Rattle.wf_outside.specs.declared.image.Jump.{Jump}
use Rattle.wf_outside.specs.Images.{DeltaValue}
use Rattle.wf_outside.specs.Pages.{PageValue}
use Rattle.wf_effects.specs.Texts.{spliced, with_pages}
use Rattle.wf_space.specs.Pieces.{jumps_put}

-- a page of text, with the bytes of jumps put over its words
abbrev pub page_put : List Jump → PageValue → PageValue
page_put jumps page = record page { words = jumps_put page.number jumps page.words }

-- A text that is spliced with a patch has the pages of the text and the private pages of the patch,
-- by number, each as it is copied with the jumps of the patch.
abbrev pub PagesArePut : Type 0
PagesArePut =
    (text : List PageValue) (delta : DeltaValue)
    → spliced text delta ≡ map (page_put delta.jumps) (with_pages text delta.private)
