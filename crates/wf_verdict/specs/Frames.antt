-- How many frames are used where generations reach more places, and where one is born. Only proofs
-- rest on this.
use Rattle.std.specs.Prelude.{ℕ, List, [], ◌∷◌, Option, ◌+◌, ◌-◌, length, sum_by}
use Rattle.wf_outside.specs.declared.refusal.Refusal.{Refusal}
use Rattle.wf_outside.specs.Images.{DeltaValue, data_numbers, text_numbers}
use Rattle.wf_outside.specs.Pages.{PageValue}
use Rattle.wf_flat.specs.Accesses.{generation_text}
use Rattle.wf_flat.specs.Boot.{places_with}
use Rattle.wf_flat.specs.Counts.{frames_of, nodes_of, used_of}
use Rattle.wf_flat.specs.State.{FlatState, GenState}
use Rattle.wf_effects.specs.Effects.{here_numbers, reaching}
use Rattle.wf_effects.specs.Generations.{newest}
use Rattle.wf_effects.specs.Texts.{pages_of}
use Rattle.wf_verdict.specs.Verdict.{free_of, lacks, leaving, more_than_free, no_more_views, no_view, overlap}

-- the frames of generations, where those that live reach the places of these pages too
unfoldable pub frames_reaching : List ℕ → List GenState → ℕ
frames_reaching pages gens = sum_by (λ gen. frames_of (reaching pages gen)) gens

-- the frames in use, where the generations that live reach the places of these pages too
unfoldable pub used_reaching : FlatState → List ℕ → ℕ
used_reaching s pages = length s.pages + frames_reaching pages s.gens

-- NoFrames, where these pages of data are mapped
unfoldable pub no_frames_mapping : FlatState → List ℕ → Option Refusal
no_frames_mapping s pages =
    more_than_free (used_reaching s pages + length pages - used_of s) (free_of s)

-- the frames of a generation that is born with this text
unfoldable pub born_frames : FlatState → List PageValue → ℕ
born_frames s text =
    length text + nodes_of (places_with (places_with [] (text_numbers text)) (here_numbers s))

-- the places of a generation that is born with this text and a patch
unfoldable pub patched_places : FlatState → List PageValue → DeltaValue → List ℕ
patched_places s text delta =
    places_with
    (places_with (places_with (places_with [] (text_numbers text)) (text_numbers delta.private))
    (here_numbers s))
    (data_numbers delta.shared)

-- the frames of a generation that is born with this text and a patch
unfoldable pub patched_frames : FlatState → List PageValue → DeltaValue → ℕ
patched_frames s text delta =
    length text + length delta.private + nodes_of (patched_places s text delta)

-- NoFrames, where this is the patch
unfoldable pub no_frames_patching : FlatState → DeltaValue → Option Refusal
no_frames_patching s delta =
    more_than_free
    (used_reaching s (data_numbers delta.shared) + length delta.shared
    + patched_frames s (generation_text s (newest s)) delta
    - used_of s)
    (free_of s)

-- the refusals of the patch of a number, which is this
unfoldable pub delta_refusals : FlatState → ℕ → DeltaValue → List (Option Refusal)
delta_refusals s patch delta =
    no_view s (newest s) ∷ lacks s (newest s) patch ∷ no_more_views s
    ∷ overlap s (pages_of delta) ∷ leaving s (pages_of delta)
    ∷ no_frames_patching s delta ∷ []
