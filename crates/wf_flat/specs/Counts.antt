-- How many frames a state takes: one for each page, and one for each node of each live view. A view
-- is a tree of three levels (RISC-V privileged ISA, "Sv39"): a node of the lowest level maps 512
-- pages.
use Rattle.std.specs.Prelude.{ℕ, ◌+◌, List, [], if◌then◌else◌, length, sum_by}
use Rattle.wf_flat.specs.State.{FlatState, GenState}
use Rattle.wf_flat.specs.Boot.{places_with}

-- the nodes of a view: the root, one for each 512 places, and one for each place
abbrev pub nodes_of : List ℕ → ℕ
nodes_of reach = 1 + length (places_with [] reach) + length reach

-- the frames of a generation, while it lives
abbrev pub frames_of : GenState → ℕ
frames_of gen = if gen.live then length gen.text + nodes_of gen.reach else 0

-- the frames in use
abbrev pub used_of : FlatState → ℕ
used_of s = length s.pages + sum_by frames_of s.gens
