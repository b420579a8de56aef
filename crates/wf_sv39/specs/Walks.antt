-- The walk of an address through a page table (RISC-V privileged ISA, "Sv39", and "Virtual Address
-- Translation Process").
use Rattle.std.specs.Prelude.{◌≡◌, ◌+◌, ◌-◌, ◌*◌, ◌/◌, ◌%◌, ◌^◌, ◌==◌, ℕ, zero, suc, List, [], ◌∷◌, Bool, true, false, not, ◌||◌}
use Rattle.wf_frames.specs.Layout.{WordsValue}
use Rattle.wf_sv39.specs.declared.tree.Walk.{Walk}
use Rattle.wf_sv39.specs.declared.tree.Walk.TheVariants.{Leaf, Missing, Far}
use Rattle.wf_sv39.specs.Entries.{pte_node}
use Rattle.wf_sv39.specs.Tables.{entry_in, IsLeaf}

-- whether bits 63 to 39 of an address differ from bit 38: bits 63 to 38 are not all 0, nor all 1
abbrev pub is_far : ℕ → Bool
is_far va = not ((va / 2 ^ 38 == 0) || (va / 2 ^ 38 == 2 ^ 26 - 1))

-- the index of an address in a node of a level: nine bits, above those of the levels below and the
-- page's twelve
abbrev pub index_at : ℕ → ℕ → ℕ
index_at level va = va / 2 ^ (12 + 9 * level) % 2 ^ 9

-- the entry for an address in a node of a level
abbrev pub entry_at : WordsValue → ℕ → ℕ → ℕ → ℕ
entry_at words node level va = entry_in words node (index_at level va)

-- the path of an address from the root to a leaf is three words: in the root at level 2 a pointer
-- to a node at level 1, there a pointer to a node at level 0, and there the leaf
pub record IsPath (words : WordsValue) (root va : ℕ) (path : List ℕ) (leaf : ℕ) : Type 0 where
  pub upper : ℕ
  pub lower : ℕ
  pub first : entry_at words root 2 va ≡ pte_node upper
  pub second : entry_at words upper 1 va ≡ pte_node lower
  pub third : entry_at words lower 0 va ≡ leaf
  pub is_leaf : IsLeaf words.frames leaf
  pub path_is : path ≡ pte_node upper ∷ pte_node lower ∷ leaf ∷ []

-- the node at level 0 on the path of an address
pub record IsLower (words : WordsValue) (root va node : ℕ) : Type 0 where
  pub upper : ℕ
  pub first : entry_at words root 2 va ≡ pte_node upper
  pub second : entry_at words upper 1 va ≡ pte_node node

-- the node at a level on the path of an address: at level 2 the root, below it what its entry
-- points to
abbrev pub IsNodeAt : WordsValue → ℕ → ℕ → ℕ → ℕ → Type 0
IsNodeAt words root va zero node = IsLower words root va node
IsNodeAt words root va (suc zero) node = entry_at words root 2 va ≡ pte_node node
IsNodeAt words root va (suc (suc zero)) node = node ≡ root
IsNodeAt words root va (suc (suc (suc level))) node = ⊥

-- the first entry that is 0 on the path of an address is that of the node at this level
pub record IsMissing (words : WordsValue) (root va level : ℕ) : Type 0 where
  pub node : ℕ
  pub is_node : IsNodeAt words root va level node
  pub is_zero : entry_at words node level va ≡ 0

-- how the walk of an address ends: it is far; or it has its path and leaf; or an entry is missing
abbrev pub IsWalk : WordsValue → ℕ → ℕ → Walk → Type 0
IsWalk words root va (Leaf pte path) = (is_far va ≡ false) × IsPath words root va path.items pte
IsWalk words root va (Missing level) = (is_far va ≡ false) × IsMissing words root va level
IsWalk words root va Far = is_far va ≡ true
