-- What words and records stand for where a mapping was carried out.
use Rattle.std.specs.Prelude.{ℕ, true, false, None, ◌≡◌, ◌<◌, ◌≤◌, ◌+◌, ◌^◌, length, map, IsSomeAnd}
use Rattle.std.specs.List.{AllByRecursion}
use Rattle.wf_outside.specs.declared.sizes.TheConstants.{ADDRESS_PAGES}
use Rattle.wf_outside.specs.Lists.{IsRising}
use Rattle.wf_frames.specs.Layout.{WordsValue, word_count}
use Rattle.wf_views.specs.declared.plan.Plan.{Plan}
use Rattle.wf_views.specs.declared.records.Records.{Records}
use Rattle.wf_views.specs.Views.{ViewValue, generation_number}
use Rattle.wf_flat.specs.Accesses.{is_ending}
use Rattle.wf_flat.specs.Counts.{used_of}
use Rattle.wf_flat.specs.Memory.{data_in, has_met}
use Rattle.wf_flat.specs.State.{FlatState}
use Rattle.wf_homes.specs.Homes.{Homes, homes_in}
use Rattle.wf_homes.specs.Laws.{IsTidy}
use Rattle.wf_homes.specs.Stands.{StandsFor}
use Rattle.wf_space.specs.Changes.{MayNote, with_changes}
use Rattle.wf_space.specs.Pieces.{ArePerformed, MayPerformAll}
use Rattle.wf_mapping.specs.declared.layout.Mapping.{Mapping}
use Rattle.wf_mapping.specs.Laws.{NoneGoing, mapped_by}
use Rattle.wf_mapping.specs.Layout.{numbers_of}
use Rattle.wf_mapping.specs.Nodes.{nodes_for}
use Rattle.wf_mapping.specs.Plans.{IsMapPlan, map_changes, map_pieces}
use Rattle.wf_mapping.specs.Refusals.{refusal_in}
use Rattle.wf_mapping.specs.Room.{CanMap, with_map_room}
use Rattle.wf_mapped.specs.Raising.{CanBeRaised}

-- In a state a mapping may be done: no page of it is a page of data, and no generation has met one;
-- no generation has met a page that is Ending; there are frames enough for it, and incarnations fit
-- a frame word.
pub record MayMap (s : FlatState) (mapping : Mapping) : Type 0 where
  pub absent : AllByRecursion (λ page. data_in s.pages page ≡ None) (numbers_of mapping)
  pub unmet : AllByRecursion
      (λ page. (generation : ℕ) → has_met s.met generation page ≡ false) (numbers_of mapping)
  pub met_stay : AllByRecursion (λ page. is_ending page.stage ≡ true
      → (generation : ℕ) → has_met s.met generation page.number ≡ false) s.pages
  pub frames : used_of (mapped_by s mapping) + s.worn ≤ s.limits.frames
  pub last_fits : s.limits.last_birth < 2 ^ 23

-- what generations have met are pages of data that are not Ending; and pages are those of addresses
pub record HaveMetPages (s : FlatState) : Type 0 where
  pub met : AllByRecursion
      (λ pair. IsSomeAnd (data_in s.pages pair.1) (λ page. is_ending page.stage ≡ false)) s.met
  pub low : AllByRecursion (λ page. page.number < ADDRESS_PAGES) s.pages

-- In a state maps can be asked for: its tables stand in order, no unmap is in hand, what was met
-- are pages that stay, and incarnations fit a frame word.
pub record TakesMaps (s : FlatState) : Type 0 where
  pub tidy : IsTidy s
  pub none_going : NoneGoing s
  pub met : HaveMetPages s
  pub last_fits : s.limits.last_birth < 2 ^ 23

-- A mapping that is refused for nothing by the records may be done in the state that words and
-- records stand for, if maps can be asked for in it.
abbrev pub MapsMayBeDone : Type 0
MapsMayBeDone =
    (words : WordsValue) (r : Records) (homes : Homes) (s : FlatState) (mapping : Mapping)
    → StandsFor words r homes s → IsRising (map generation_number r.views.views) → TakesMaps s
    → CanMap mapping → refusal_in r mapping ≡ None → MayMap s mapping

-- Where the pages of a mapping are mapped, maps can be asked for still.
abbrev pub MapsCanBeAskedAgain : Type 0
MapsCanBeAskedAgain =
    (s : FlatState) (mapping : Mapping) → TakesMaps s → CanMap mapping → MayMap s mapping
    → TakesMaps (mapped_by s mapping)

-- A mapping that may be done: where its changes are made and its pieces performed, and all words
-- are there, words and records stand for the state in which its pages are mapped.
abbrev pub MapStands : Type 0
MapStands =
    (words new : WordsValue) (r q : Records) (homes : Homes) (s : FlatState) (mapping : Mapping)
    → StandsFor words r homes s → IsTidy s → IsRising (map generation_number r.views.views)
    → MayMap s mapping → CanBeRaised r.frames
    → ArePerformed words (with_changes r (map_changes r mapping)) (map_pieces r mapping) new q
    → length new.items ≡ word_count new.frames
    → StandsFor new q (homes_in homes (mapped_by s mapping)) (mapped_by s mapping)

-- a view has room for so many more nodes, and for as many places
pub record ViewHasRoom (n : ℕ) (view : ViewValue) : Type 0 where
  pub nodes : n ≤ view.nodes.room
  pub reach : n ≤ view.reach.room

-- the records have the room that a mapping takes in them
pub record HaveMapRoom (r : Records) (mapping : Mapping) : Type 0 where
  pub pages : mapping.pages ≤ r.pages.room
  pub views : AllByRecursion (ViewHasRoom (length (nodes_for (numbers_of mapping)))) r.views.views

-- the room that is made for a mapping is what it takes
abbrev pub RoomIsMade : Type 0
RoomIsMade = (r : Records) (mapping : Mapping) → HaveMapRoom (with_map_room r mapping) mapping

-- a mapping can be carried out: its changes can be made, and its pieces performed after them
pub record CanCarryMap (words : WordsValue) (r : Records) (mapping : Mapping) : Type 0 where
  pub changes : MayNote r (map_changes r mapping)
  pub pieces : MayPerformAll words (with_changes r (map_changes r mapping)) (map_pieces r mapping)

-- A mapping that may be done can be carried out, where there is room for it in the records, and
-- there are numbers for its births.
abbrev pub MapsCanBeCarriedOut : Type 0
MapsCanBeCarriedOut =
    (words : WordsValue) (r : Records) (homes : Homes) (s : FlatState) (mapping : Mapping)
    → StandsFor words r homes s → IsTidy s → IsRising (map generation_number r.views.views)
    → MayMap s mapping → CanBeRaised r.frames → HaveMapRoom r mapping
    → s.births + mapping.pages < 2 ^ 64 → CanCarryMap words r mapping

-- a plan is that of a mapping that may be done now, in the state that words and records stand for,
-- and there is room for its changes, and there are numbers for its births
pub record IsCurrentMap (words : WordsValue) (r : Records) (plan : Plan) : Type 0 where
  pub mapping : Mapping
  pub homes : Homes
  pub state : FlatState
  pub stands : StandsFor words r homes state
  pub tidy : IsTidy state
  pub may : MayMap state mapping
  pub is_plan : IsMapPlan r mapping plan
  pub room : HaveMapRoom r mapping
  pub raised : CanBeRaised r.frames
  pub births : state.births + mapping.pages < 2 ^ 64

-- where a plan was carried out, words and records stand for the state in which the pages of the
-- mapping whose plan it is are mapped
abbrev pub IsMapCarriedOut : WordsValue → Records → Plan → WordsValue → Records → Type 0
IsMapCarriedOut old r plan new q =
    (mapping : Mapping) (homes : Homes) (s : FlatState) → StandsFor old r homes s → IsTidy s
    → MayMap s mapping → CanBeRaised r.frames → IsMapPlan r mapping plan
    → StandsFor new q (homes_in homes (mapped_by s mapping)) (mapped_by s mapping)

-- Words and records stand for a state in which maps can be asked for; and a mapping is one of pages
-- of addresses, and there are numbers for its births.
pub record CanAskForMap (words : WordsValue) (r : Records) (mapping : Mapping) : Type 0 where
  pub homes : Homes
  pub state : FlatState
  pub stands : StandsFor words r homes state
  pub takes : TakesMaps state
  pub raised : CanBeRaised r.frames
  pub births : state.births + mapping.pages < 2 ^ 64
  pub can : CanMap mapping

-- the pages of a mapping are mapped: whatever state words and records stood for, if maps can be
-- asked for in it, they stand for that in which the pages are mapped
abbrev pub PagesAreMapped : WordsValue → Records → Mapping → WordsValue → Records → Type 0
PagesAreMapped old r mapping new q =
    (homes : Homes) (s : FlatState) → StandsFor old r homes s → TakesMaps s
    → StandsFor new q (homes_in homes (mapped_by s mapping)) (mapped_by s mapping)
