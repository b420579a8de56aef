-- What a generation that is born with a patch has of its parent, of the patch, and of the pages of
-- data that are here.
use Rattle.std.specs.Prelude.{ℕ, List, [], ◌++◌, nat_eq}
use Rattle.std.specs.List.{IsDistinct}
use Rattle.wf_outside.specs.declared.image.Jump.{Jump}
use Rattle.wf_outside.specs.Images.{DeltaValue, data_numbers, text_numbers}
use Rattle.wf_views.specs.declared.records.Records.{Records}
use Rattle.wf_flat.specs.Boot.{places_with}
use Rattle.wf_flat.specs.Lists.{sorted_by}
use Rattle.wf_effects.specs.Texts.{spliced_jumps}
use Rattle.wf_creating.specs.Parents.{numbers_here, parent_jumps, text_numbers_of}

-- the numbers of the pages of its text, rising: those of the text of its parent, and those of the
-- private pages of the patch
abbrev pub patched_numbers : Records → ℕ → DeltaValue → List ℕ
patched_numbers r parent delta =
    sorted_by (λ n. n) (text_numbers_of r parent ++ text_numbers delta.private)

-- the jumps in its text: those of its parent at other addresses, then those of the patch
abbrev pub patched_jumps : Records → ℕ → DeltaValue → List Jump
patched_jumps r parent delta = spliced_jumps (parent_jumps r parent) delta.jumps

-- the places that it reaches: those of its text, of the pages of data that are here, and of the
-- shared pages of the patch
abbrev pub patched_reach : Records → ℕ → DeltaValue → List ℕ
patched_reach r parent delta =
    places_with
    (places_with (places_with [] (patched_numbers r parent delta)) (numbers_here r))
    (data_numbers delta.shared)

-- no page of the text of a parent and of the private pages of a patch is there twice
abbrev pub HasDistinctText : Records → ℕ → DeltaValue → Type 0
HasDistinctText r parent delta =
    IsDistinct nat_eq (text_numbers_of r parent ++ text_numbers delta.private)
