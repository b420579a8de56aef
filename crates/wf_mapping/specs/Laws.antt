-- What words and records stand for stays where room is made; the frames that are free; and the homes
-- of what is mapped.
use Rattle.std.specs.Prelude.{ℕ, List, None, false, ◌≡◌, ◌+◌, ◌==◌, ◌++◌, map}
use Rattle.std.specs.List.{AllByRecursion}
use Rattle.wf_outside.specs.Images.{DeltaValue}
use Rattle.wf_outside.specs.Lists.{IsRising}
use Rattle.wf_outside.specs.Pages.{page_of}
use Rattle.wf_frames.specs.Layout.{WordsValue}
use Rattle.wf_views.specs.declared.pages.PageAt.{PageAt}
use Rattle.wf_views.specs.declared.records.Records.{Records}
use Rattle.wf_views.specs.Views.{generation_number}
use Rattle.wf_flat.specs.Accesses.{is_going}
use Rattle.wf_flat.specs.Counts.{used_of}
use Rattle.wf_flat.specs.Memory.{data_in}
use Rattle.wf_flat.specs.State.{FlatState}
use Rattle.wf_effects.specs.Effects.{mapped}
use Rattle.wf_homes.specs.Homes.{DataOf, Homes, NodeOf, Tenant, free_frames, homes_in}
use Rattle.wf_homes.specs.Laws.{IsTidy}
use Rattle.wf_verdict.specs.declared.requests.Request.TheVariants.{Maps}
use Rattle.wf_verdict.specs.Verdict.{bad_range, bad_right, refusal_of}
use Rattle.wf_homes.specs.Stands.{StandsFor}
use Rattle.wf_space.specs.Carried.{StandAlike}
use Rattle.wf_mapping.specs.declared.layout.Mapping.{Mapping}
use Rattle.wf_mapping.specs.declared.nodes.NewNode.{NewNode}
use Rattle.wf_mapping.specs.Layout.{free_in, need_of, new_nodes, new_pages, numbers_of}
use Rattle.wf_mapping.specs.Refusals.{refusal_in}
use Rattle.wf_mapping.specs.Room.{DifferInRoom}

-- Whatever words and records stand for, they do so still where the records have more room, or less,
-- for pages, nodes and places.
abbrev pub RoomStands : Type 0
RoomStands = (r q : Records) → DifferInRoom r q → StandAlike r q

-- The frames that are free by the records are those that are no home and not worn.
abbrev pub FreeFramesAgree : Type 0
FreeFramesAgree =
    (words : WordsValue) (r : Records) (homes : Homes) (s : FlatState)
    → StandsFor words r homes s → free_in r ≡ free_frames s.limits.frames homes

-- the home of a page of data, as its record has it
abbrev pub page_home : PageAt → Tenant × ℕ
page_home page = (DataOf page.page, page.frame)

-- the home of a new node
abbrev pub node_home : NewNode → Tenant × ℕ
node_home new = (NodeOf new.generation new.node.level new.node.prefix, new.node.frame)

-- homes with those of pages and nodes that are new
abbrev pub homes_with : Homes → List PageAt → List NewNode → Homes
homes_with homes pages nodes =
    record homes { homes = homes.homes ++ map page_home pages ++ map node_home nodes }

-- the state in which the pages of a mapping are mapped
abbrev pub mapped_by : FlatState → Mapping → FlatState
mapped_by s mapping = mapped s (page_of mapping.va) mapping.pages mapping.write None

-- Where no page of a mapping is a page of data, the homes in the state in which they are mapped are
-- those before it, and those of the pages and nodes of the mapping's layout.
abbrev pub HomesAreLaidOut : Type 0
HomesAreLaidOut =
    (words : WordsValue) (r : Records) (homes : Homes) (s : FlatState) (mapping : Mapping)
    → StandsFor words r homes s → IsTidy s → IsRising (map generation_number r.views.views)
    → AllByRecursion (λ page. data_in s.pages page ≡ None) (numbers_of mapping)
    → homes_in homes (mapped_by s mapping)
    ≡ homes_with homes (new_pages r mapping) (new_nodes r mapping)

-- Where no page of a mapping is a page of data, it needs as many frames as more are used in the
-- state in which its pages are mapped.
abbrev pub NeedIsCounted : Type 0
NeedIsCounted =
    (words : WordsValue) (r : Records) (homes : Homes) (s : FlatState) (mapping : Mapping)
    → StandsFor words r homes s → IsTidy s → IsRising (map generation_number r.views.views)
    → AllByRecursion (λ page. data_in s.pages page ≡ None) (numbers_of mapping)
    → used_of s + need_of r mapping ≡ used_of (mapped_by s mapping)

-- no unmap of a page is in hand
abbrev pub NoneGoing : FlatState → Type 0
NoneGoing s = AllByRecursion (λ page. is_going page.stage ≡ false) s.pages

-- Beside a bad range and a bad right, a mapping is refused by the records for what the table of
-- calls refuses it for in the state that words and records stand for, where no unmap is in hand.
abbrev pub MapRefusalsAgree : Type 0
MapRefusalsAgree =
    (words : WordsValue) (r : Records) (homes : Homes) (s : FlatState) (mapping : Mapping)
    (right : ℕ) (deltas : List DeltaValue) (next : ℕ)
    → StandsFor words r homes s → IsTidy s → IsRising (map generation_number r.views.views)
    → NoneGoing s → bad_range mapping.va mapping.pages ≡ None → bad_right right ≡ None
    → mapping.write ≡ (right == 3)
    → refusal_in r mapping ≡ refusal_of deltas s next (Maps mapping.va mapping.pages right)
