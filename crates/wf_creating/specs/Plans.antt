-- The plan of a birth: its pieces and its changes.
use Rattle.std.specs.Prelude.{ℕ, List, [], ◌∷◌, ◌++◌, Bool, false, ◌≡◌, ◌/◌, ◌%◌, ◌==◌, ◌&&◌, if◌then◌else◌, map, slice_set}
use Rattle.std.specs.List.{fold}
use Rattle.wf_outside.specs.declared.image.Jump.{Jump}
use Rattle.wf_outside.specs.declared.sizes.TheConstants.{PAGE_WORDS}
use Rattle.wf_sv39.specs.declared.entry.Leaf.TheVariants.{Private}
use Rattle.wf_sv39.specs.Entries.{pte_leaf}
use Rattle.wf_views.specs.declared.plan.Change.{Change}
use Rattle.wf_views.specs.declared.plan.Change.TheVariants.{Born, Mark}
use Rattle.wf_views.specs.declared.plan.Piece.{Piece}
use Rattle.wf_views.specs.declared.plan.Piece.TheVariants.{Copy, Fill}
use Rattle.wf_views.specs.declared.plan.Plan.{Plan}
use Rattle.wf_views.specs.declared.records.Records.{Records}
use Rattle.wf_views.specs.declared.view.TextAt.{TextAt}
use Rattle.wf_mapping.specs.declared.nodes.NewNode.{NewNode}
use Rattle.wf_mapping.specs.Plans.{node_marked, words_of_node}
use Rattle.wf_creating.specs.Layout.{nodes_at_birth, text_at_birth, view_at_birth}
use Rattle.wf_creating.specs.Parents.{parent_text}

-- pages of text are copied into the frames of others, one after another, with these jumps put over
-- them
abbrev pub texts_copied : List Jump → List TextAt → List TextAt → List Piece
texts_copied jumps [] new = []
texts_copied jumps (text ∷ texts) [] = []
texts_copied jumps (text ∷ texts) (copy ∷ copies) =
    Copy text.frame copy.frame copy.page jumps ∷ texts_copied jumps texts copies

-- the leaf of a page of text is an entry of a node at level 0
abbrev pub has_leaf : NewNode → TextAt → Bool
has_leaf new text = (new.node.level == 0) && (text.page / PAGE_WORDS == new.node.prefix)

-- the words of a node, with the private leaf of a page of text, if that is an entry of the node
abbrev pub with_private_leaf : NewNode → List ℕ → TextAt → List ℕ
with_private_leaf new words text =
    if has_leaf new text
    then slice_set words (text.page % PAGE_WORDS) (pte_leaf text.frame Private) else words

-- the words of a node of a generation that is born: the pointers to the nodes below it, or the
-- private leaves of its pages of text, and else zeros
abbrev pub words_at_birth : List NewNode → List TextAt → NewNode → List ℕ
words_at_birth nodes text new = fold (with_private_leaf new) (words_of_node nodes new) text

-- the frame of a node of a generation that is born is filled with its words
abbrev pub table_filled : List NewNode → List TextAt → NewNode → Piece
table_filled nodes text new = Fill new.node.frame (words_at_birth nodes text new)

-- the pieces of a birth: the text of the parent is copied, and the nodes are filled
abbrev pub birth_pieces : Records → ℕ → List Piece
birth_pieces r parent =
    texts_copied [] (parent_text r parent) (text_at_birth r parent)
    ++ map (table_filled (nodes_at_birth r parent) (text_at_birth r parent))
    (nodes_at_birth r parent)

-- the frame of a page of text is taken
abbrev pub text_marked : TextAt → Change
text_marked text = Mark text.frame false

-- the changes of a birth: the frames of its text and of its nodes are taken, and there is one more
-- view
abbrev pub birth_changes : Records → ℕ → List Change
birth_changes r parent =
    map text_marked (text_at_birth r parent) ++ map node_marked (nodes_at_birth r parent)
    ++ Born (view_at_birth r parent) ∷ []

-- a plan is that of a birth
pub record IsBirthPlan (r : Records) (parent : ℕ) (plan : Plan) : Type 0 where
  pub pieces : plan.pieces.items ≡ birth_pieces r parent
  pub changes : plan.changes.items ≡ birth_changes r parent
