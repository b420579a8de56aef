-- Page tables: the entries of nodes, and what a table keeps.
use Rattle.std.specs.Prelude.{◌≡◌, ◌<◌, ◌⊎◌, ℕ, zero, suc, slice_index}
use Rattle.wf_outside.specs.declared.sizes.TheConstants.{PAGE_WORDS}
use Rattle.wf_frames.specs.Layout.{WordsValue, word_place}
use Rattle.wf_sv39.specs.declared.entry.Leaf.{Leaf}
use Rattle.wf_sv39.specs.Entries.{pte_node, pte_leaf}

-- entry i of the node in a frame
abbrev pub entry_in : WordsValue → ℕ → ℕ → ℕ
entry_in words node i = slice_index words.items (word_place words.frames node i)

-- an entry that points to the node in a frame that there is
pub record IsPointer (frames entry : ℕ) : Type 0 where
  pub frame : ℕ
  pub low : frame < frames
  pub is : entry ≡ pte_node frame

-- an entry that is a leaf for the page in a frame that there is
pub record IsLeaf (frames entry : ℕ) : Type 0 where
  pub frame : ℕ
  pub leaf : Leaf
  pub low : frame < frames
  pub is : entry ≡ pte_leaf frame leaf

-- the node in a frame, with all below it, is a table of this level: each entry of a node at level 0
-- is 0 or a leaf, and each entry of a node above is 0 or points to a table of the level below
abbrev pub IsTable : WordsValue → ℕ → ℕ → Type 0
IsTable words zero node =
    (i : ℕ) → i < PAGE_WORDS →
    (entry_in words node i ≡ 0) ⊎ IsLeaf words.frames (entry_in words node i)
IsTable words (suc level) node = (i : ℕ) → i < PAGE_WORDS
    → ((entry_in words node i ≡ 0) ⊎ IsPointer words.frames (entry_in words node i))
    × ((next : ℕ) → entry_in words node i ≡ pte_node next → IsTable words level next)
