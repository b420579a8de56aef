-- What words and records stand for where a birth was carried out, and that it can be.
use Rattle.std.specs.Prelude.{ℕ, None, true, ◌≡◌, ◌<◌, ◌≤◌, ◌+◌, length}
use Rattle.std.specs.List.{AllByRecursion}
use Rattle.wf_outside.specs.declared.sizes.TheConstants.{ADDRESS_PAGES}
use Rattle.wf_frames.specs.Layout.{WordsValue, word_count}
use Rattle.wf_views.specs.declared.plan.Plan.{Plan}
use Rattle.wf_views.specs.declared.records.Records.{Records}
use Rattle.wf_flat.specs.Counts.{used_of}
use Rattle.wf_flat.specs.State.{FlatState}
use Rattle.wf_effects.specs.Generations.{is_live}
use Rattle.wf_homes.specs.Homes.{Homes, homes_in}
use Rattle.wf_homes.specs.Kept.{IsResident}
use Rattle.wf_homes.specs.Laws.{IsTidy}
use Rattle.wf_homes.specs.Stands.{StandsFor}
use Rattle.wf_space.specs.Changes.{MayNote, with_changes}
use Rattle.wf_space.specs.Pieces.{ArePerformed, MayPerformAll}
use Rattle.wf_mapping.specs.Laws.{NoneGoing}
use Rattle.wf_creating.specs.Laws.{StandsInOrder, born_of_parent}
use Rattle.wf_creating.specs.Plans.{IsBirthPlan, birth_changes, birth_pieces}
use Rattle.wf_creating.specs.Refusals.{birth_refusal}
use Rattle.wf_creating.specs.Room.{with_birth_room}

-- In a state generations may be born, if frames suffice: no unmap is in hand; generations that were
-- born have met pages of addresses; and the harts that run are in such generations.
pub record IsOpenToBirths (s : FlatState) : Type 0 where
  pub none_going : NoneGoing s
  pub met : AllByRecursion (λ pair. (pair.0 < length s.gens) × (pair.1 < ADDRESS_PAGES)) s.met
  pub residents : (generation h : ℕ) → IsResident s generation h → generation < length s.gens

-- in a state a generation may be born of this parent, which lives, and there are frames enough
pub record MayBeBorn (s : FlatState) (parent : ℕ) : Type 0 where
  pub open_to : IsOpenToBirths s
  pub live : is_live s parent ≡ true
  pub frames : used_of (born_of_parent s parent) + s.worn ≤ s.limits.frames

-- A birth that is refused for nothing by the records may be, in the state that words and records
-- stand for.
abbrev pub BirthsMayBe : Type 0
BirthsMayBe =
    (words : WordsValue) (r : Records) (homes : Homes) (s : FlatState) (parent : ℕ)
    → StandsInOrder words r homes s → IsOpenToBirths s → birth_refusal r parent ≡ None
    → MayBeBorn s parent

-- A birth that may be: where its changes are made and its pieces performed, and all words are
-- there, words and records stand for the state in which the generation is born.
abbrev pub CreateStands : Type 0
CreateStands =
    (words new : WordsValue) (r q : Records) (homes : Homes) (s : FlatState) (parent : ℕ)
    → StandsInOrder words r homes s → MayBeBorn s parent
    → ArePerformed words (with_changes r (birth_changes r parent)) (birth_pieces r parent) new q
    → length new.items ≡ word_count new.frames
    → StandsFor new q (homes_in homes (born_of_parent s parent)) (born_of_parent s parent)

-- the records have the room that a birth takes in them
pub record HaveBirthRoom (r : Records) : Type 0 where
  pub views : 1 ≤ r.views.room
  pub born : 1 ≤ r.born.room

-- the room that is made for a birth is what it takes
abbrev pub BirthRoomIsMade : Type 0
BirthRoomIsMade = (r : Records) → HaveBirthRoom (with_birth_room r)

-- a birth can be carried out: its changes can be made, and its pieces performed after them
pub record CanCarryBirth (words : WordsValue) (r : Records) (parent : ℕ) : Type 0 where
  pub changes : MayNote r (birth_changes r parent)
  pub pieces : MayPerformAll words (with_changes r (birth_changes r parent))
      (birth_pieces r parent)

-- a birth that may be can be carried out, where there is room for it in the records
abbrev pub BirthsCanBeCarriedOut : Type 0
BirthsCanBeCarriedOut =
    (words : WordsValue) (r : Records) (homes : Homes) (s : FlatState) (parent : ℕ)
    → StandsInOrder words r homes s → MayBeBorn s parent → HaveBirthRoom r
    → CanCarryBirth words r parent

-- a plan is that of a birth that may be now, in the state that words and records stand for, and
-- there is room for its changes
pub record IsCurrentBirth (words : WordsValue) (r : Records) (plan : Plan) : Type 0 where
  pub parent : ℕ
  pub homes : Homes
  pub state : FlatState
  pub stands : StandsFor words r homes state
  pub tidy : IsTidy state
  pub may : MayBeBorn state parent
  pub is_plan : IsBirthPlan r parent plan
  pub room : HaveBirthRoom r

-- where a plan was carried out, words and records stand for the state in which the generation is
-- born whose plan it is
abbrev pub IsBirthCarriedOut : WordsValue → Records → Plan → WordsValue → Records → Type 0
IsBirthCarriedOut old r plan new q =
    (parent : ℕ) (homes : Homes) (s : FlatState) → StandsFor old r homes s → IsTidy s
    → MayBeBorn s parent → IsBirthPlan r parent plan
    → StandsFor new q (homes_in homes (born_of_parent s parent)) (born_of_parent s parent)
