-- The words of a view's nodes: what each entry says.
use Rattle.std.specs.Prelude.{ℕ, zero, suc, Bool, Option, Some, None, ◌≡◌, ◌<◌, ◌+◌, ◌*◌, if◌then◌else◌}
use Rattle.wf_outside.specs.declared.sizes.TheConstants.{PAGE_WORDS}
use Rattle.wf_frames.specs.Layout.{WordsValue}
use Rattle.wf_sv39.specs.declared.entry.Leaf.{Leaf}
use Rattle.wf_sv39.specs.declared.entry.Leaf.TheVariants.{Private, Read, Write}
use Rattle.wf_sv39.specs.Entries.{pte_leaf, pte_node}
use Rattle.wf_sv39.specs.Tables.{entry_in}
use Rattle.wf_flat.specs.State.{FlatState, PageState}
use Rattle.wf_flat.specs.Memory.{data_in, has_met}
use Rattle.wf_homes.specs.Homes.{DataOf, Homes, NodeOf, TextOf, home_frame}

-- an entry that points to the node in a frame, if there is one, and else nothing
abbrev pub pointer_to : Option ℕ → ℕ
pointer_to None = 0
pointer_to (Some frame) = pte_node frame

-- a leaf for the page in a frame, if there is one, and else nothing
abbrev pub leaf_to : Option ℕ → Leaf → ℕ
leaf_to None leaf = 0
leaf_to (Some frame) leaf = pte_leaf frame leaf

-- the leaf that gives a page of data its right
abbrev pub right_leaf : Bool → Leaf
right_leaf write = if write then Write else Read

-- the leaf of a page of data, if it is there
abbrev pub data_leaf : Homes → Option PageState → ℕ
data_leaf homes None = 0
data_leaf homes (Some page) =
    leaf_to (home_frame homes (DataOf page.number)) (right_leaf page.write)

-- the leaf of the page of a number that a view shares with others: there is one where its
-- generation has met the page
abbrev pub shared_leaf : Homes → FlatState → ℕ → ℕ → ℕ
shared_leaf homes s generation page =
    if has_met s.met generation page then data_leaf homes (data_in s.pages page) else 0

-- the leaf for the page in this frame, if there is one, which is text, and else that word
abbrev pub private_or : Option ℕ → ℕ → ℕ
private_or None shared = shared
private_or (Some frame) shared = pte_leaf frame Private

-- The entry of a generation's page table for what has this prefix, in a node of a level: at level 0
-- the leaf of the page of that number, private where it is text of the generation; above it a
-- pointer to the node of the level below. It is 0 where there is no such page or node.
abbrev pub entry_for : Homes → FlatState → ℕ → ℕ → ℕ → ℕ
entry_for homes s generation zero page =
    private_or (home_frame homes (TextOf generation page)) (shared_leaf homes s generation page)
entry_for homes s generation (suc level) prefix =
    pointer_to (home_frame homes (NodeOf generation level prefix))

-- the node of a level and prefix lies in this frame: each of its 512 entries is the one for it
abbrev pub SpellsNode : WordsValue → Homes → FlatState → ℕ → ℕ → ℕ → ℕ → Type 0
SpellsNode words homes s generation level prefix frame =
    (i : ℕ) → i < PAGE_WORDS
    → entry_in words frame i ≡ entry_for homes s generation level (prefix * PAGE_WORDS + i)

-- the words spell the view of a generation: each of its nodes does in its home
abbrev pub SpellsView : WordsValue → Homes → FlatState → ℕ → Type 0
SpellsView words homes s generation =
    (level prefix frame : ℕ) → home_frame homes (NodeOf generation level prefix) ≡ Some frame
    → SpellsNode words homes s generation level prefix frame
