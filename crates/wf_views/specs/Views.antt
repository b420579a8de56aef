-- View records: the page table of a live generation, as the kernel keeps it.
use Rattle.std.specs.Prelude.{◌<◌, ◌-◌, ◌++◌, ℕ, List, [], ◌∷◌, Option, Some, None, map}
use Rattle.std.specs.List.{AllByRecursion, last_or}
use Rattle.wf_outside.specs.declared.image.Jump.{Jump}
use Rattle.wf_views.specs.declared.view.NodeAt.{NodeAt}
use Rattle.wf_views.specs.declared.view.TextAt.{TextAt}
use Rattle.wf_views.specs.Lists.{RoomyValue, found_by, changed_by, without_by, number_added, number_removed, pushed, roomier}

-- a view as clauses see it: its generation and that which it was cloned from, the frame of its
-- root, the frames of its nodes and of its text pages, its jumps, how many patches it has, the
-- places that it reaches, the pages that it has met, and the harts that are in it
pub record ViewValue : Type 0 where
  pub generation : ℕ
  pub parent : Option ℕ
  pub root : ℕ
  pub nodes : RoomyValue NodeAt
  pub text : List TextAt
  pub jumps : List Jump
  pub patches : ℕ
  pub reach : RoomyValue ℕ
  pub met : RoomyValue ℕ
  pub residents : RoomyValue ℕ

-- the views as clauses see them: their list by rising generation, the greatest generation ever
-- added, and how many more come without memory
pub record ViewsValue : Type 0 where
  pub views : List ViewValue
  pub last : Option ℕ
  pub room : ℕ

-- the number of a view is its generation
abbrev pub generation_number : ViewValue → ℕ
generation_number v = v.generation

-- the view of a generation
abbrev pub view_of : ViewsValue → ℕ → Option ViewValue
view_of v generation = found_by generation_number v.views generation

-- the newest generation: that of the last view, or the greatest ever added where there is no view
abbrev pub newest_of : ViewsValue → Option ℕ
newest_of v = last_or v.last (map generation_number v.views)

-- a generation is above all that were added
abbrev pub IsAbove : Option ℕ → ℕ → Type 0
IsAbove None generation = Unit {0}
IsAbove (Some last) generation = last < generation

-- each view was added: a generation above all that were added is above that of each view
abbrev pub WereAdded : ViewsValue → Type 0
WereAdded v =
    (n : ℕ) → IsAbove v.last n → AllByRecursion (λ m. m < n) (map generation_number v.views)

-- one more view, of a generation above all that were added
abbrev pub with_added : ViewsValue → ViewValue → ViewsValue
with_added v view =
    record { views = v.views ++ view ∷ []; last = Some view.generation; room = v.room - 1 }

-- a view is taken out
abbrev pub with_removed : ViewsValue → ℕ → ViewsValue
with_removed v generation =
    record v { views = without_by generation_number v.views generation }

-- one view changes
abbrev pub with_view : ViewsValue → ℕ → (ViewValue → ViewValue) → ViewsValue
with_view v generation change =
    record v { views = changed_by generation_number v.views generation change }

-- a hart is among a view's residents, once
abbrev pub with_resident : ℕ → ViewValue → ViewValue
with_resident hart view = record view { residents = number_added hart view.residents }

-- a hart is not among a view's residents
abbrev pub without_resident : ℕ → ViewValue → ViewValue
without_resident hart view = record view { residents = number_removed hart view.residents }

-- a view has one more node, for which there is room
abbrev pub with_node : NodeAt → ViewValue → ViewValue
with_node node view = record view { nodes = pushed node view.nodes }

-- a view reaches one more place, the number of a page divided by 512
abbrev pub with_reach : ℕ → ViewValue → ViewValue
with_reach place view = record view { reach = number_added place view.reach }

-- a view has met one more page
abbrev pub with_page_met : ℕ → ViewValue → ViewValue
with_page_met page view = record view { met = number_added page view.met }

-- a view has room for so many more nodes
abbrev pub with_node_room : ℕ → ViewValue → ViewValue
with_node_room room view = record view { nodes = roomier room view.nodes }

-- a view has room for so many more places that it reaches
abbrev pub with_reach_room : ℕ → ViewValue → ViewValue
with_reach_room room view = record view { reach = roomier room view.reach }

-- a view has room for so many more pages that it meets
abbrev pub with_met_room : ℕ → ViewValue → ViewValue
with_met_room room view = record view { met = roomier room view.met }

-- a view has room for so many more residents
abbrev pub with_resident_room : ℕ → ViewValue → ViewValue
with_resident_room room view = record view { residents = roomier room view.residents }

-- a view has not met a page
abbrev pub forgets : ℕ → ViewValue → ViewValue
forgets page view = record view { met = number_removed page view.met }

-- no view has met a page
abbrev pub forgotten : ℕ → ViewsValue → ViewsValue
forgotten page v = record v { views = map (forgets page) v.views }
