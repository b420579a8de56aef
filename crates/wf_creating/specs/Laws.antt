-- What words and records stand for stays where room is made; what births are refused for; and the
-- homes of what is born.
use Rattle.std.specs.Prelude.{ℕ, List, [], None, true, ◌≡◌, ◌+◌, ◌++◌, map}
use Rattle.wf_outside.specs.Images.{DeltaValue}
use Rattle.wf_outside.specs.Lists.{IsRising}
use Rattle.wf_frames.specs.Layout.{WordsValue}
use Rattle.wf_views.specs.declared.records.Records.{Records}
use Rattle.wf_views.specs.declared.view.TextAt.{TextAt}
use Rattle.wf_views.specs.Pages.{page_number}
use Rattle.wf_views.specs.Views.{generation_number}
use Rattle.wf_flat.specs.Counts.{used_of}
use Rattle.wf_flat.specs.State.{FlatState}
use Rattle.wf_effects.specs.Effects.{generation_born}
use Rattle.wf_effects.specs.Generations.{is_live}
use Rattle.wf_homes.specs.Homes.{Homes, Tenant, TextOf, homes_in}
use Rattle.wf_homes.specs.Laws.{IsTidy}
use Rattle.wf_homes.specs.Stands.{StandsFor}
use Rattle.wf_verdict.specs.declared.requests.Request.TheVariants.{Clones}
use Rattle.wf_verdict.specs.Verdict.{refusal_of}
use Rattle.wf_space.specs.Carried.{StandAlike}
use Rattle.wf_mapping.specs.declared.nodes.NewNode.{NewNode}
use Rattle.wf_mapping.specs.Laws.{node_home}
use Rattle.wf_creating.specs.Layout.{need_at_birth, nodes_at_birth, number_at_birth, text_at_birth}
use Rattle.wf_creating.specs.Refusals.{birth_refusal}
use Rattle.wf_creating.specs.Room.{DifferInBirthRoom}

-- Whatever words and records stand for, they do so still where the records have more room, or less,
-- for views and their entries.
abbrev pub BirthRoomStands : Type 0
BirthRoomStands = (r q : Records) → DifferInBirthRoom r q → StandAlike r q

-- what the laws of births ask: words and records stand for a state; its tables stand in order, and
-- so do the views and the pages of data of the records
pub record StandsInOrder (words : WordsValue) (r : Records) (homes : Homes) (s : FlatState)
    : Type 0 where
  pub stands : StandsFor words r homes s
  pub tidy : IsTidy s
  pub views : IsRising (map generation_number r.views.views)
  pub pages : IsRising (map page_number r.pages.items)

-- the state in which a generation is born of this parent, without a patch
abbrev pub born_of_parent : FlatState → ℕ → FlatState
born_of_parent s parent = generation_born [] s parent None

-- the home of a page of a generation's text, as its view has it
abbrev pub text_home : ℕ → TextAt → Tenant × ℕ
text_home generation text = (TextOf generation text.page, text.frame)

-- homes with those of the text and of the nodes of a generation that is born
abbrev pub homes_with_birth : Homes → ℕ → List TextAt → List NewNode → Homes
homes_with_birth homes generation text nodes =
    record homes {
      homes = homes.homes ++ map (text_home generation) text ++ map node_home nodes;
    }

-- The homes in the state in which a generation is born of one that lives are those before it, and
-- those of its text and of its nodes.
abbrev pub ViewIsLaidOut : Type 0
ViewIsLaidOut =
    (words : WordsValue) (r : Records) (homes : Homes) (s : FlatState) (parent : ℕ)
    → StandsInOrder words r homes s → is_live s parent ≡ true
    → homes_in homes (born_of_parent s parent)
    ≡ homes_with_birth homes (number_at_birth r) (text_at_birth r parent)
    (nodes_at_birth r parent)

-- A birth from a generation that lives needs as many frames as more are used in the state in which
-- it is born.
abbrev pub BirthNeedIsCounted : Type 0
BirthNeedIsCounted =
    (words : WordsValue) (r : Records) (homes : Homes) (s : FlatState) (parent : ℕ)
    → StandsInOrder words r homes s → is_live s parent ≡ true
    → used_of s + need_at_birth r parent ≡ used_of (born_of_parent s parent)

-- A birth is refused by the records for what the table of calls refuses a clone of the parent for
-- in the state that words and records stand for.
abbrev pub CreateRefusalsAgree : Type 0
CreateRefusalsAgree =
    (words : WordsValue) (r : Records) (homes : Homes) (s : FlatState) (parent : ℕ)
    (deltas : List DeltaValue) (next : ℕ)
    → StandsInOrder words r homes s
    → birth_refusal r parent ≡ refusal_of deltas s next (Clones parent)
