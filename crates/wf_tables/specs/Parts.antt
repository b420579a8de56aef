-- The parts of a listing of a page table.
use Rattle.std.specs.Prelude.{ℕ, suc, List, ◌++◌, ◌+◌, ◌*◌, codes, Option, Some, None}
use Rattle.std.specs.List.{flat_map, range_with_len}
use Rattle.std.specs.Fmt.{decimal}
use Rattle.wf_outside.specs.declared.sizes.TheConstants.{PAGE_WORDS}
use Rattle.wf_journal.specs.Headers.{line}
use Rattle.wf_flat.specs.State.{FlatState}
use Rattle.wf_homes.specs.Homes.{Homes, NodeOf, home_frame}
use Rattle.wf_homes.specs.Entries.{entry_for}
use Rattle.wf_tables.specs.Tables.{node_lines, node_listed, word_listed}

-- what is listed of so many words of a node of level 0
unfoldable pub leaves_listed : Homes → FlatState → ℕ → ℕ → ℕ → ℕ → List ℕ
leaves_listed homes s generation prefix frame count =
    flat_map
    (λ i. word_listed 0 frame i (entry_for homes s generation 0 (prefix * PAGE_WORDS + i)))
    (range_with_len 0 count)

-- what is listed of a word of an upper node, and of the node below it of this level and prefix
unfoldable pub below_listed : Homes → FlatState → ℕ → ℕ → ℕ → ℕ → ℕ → List ℕ
below_listed homes s generation level prefix frame i =
    word_listed (suc level) frame i (entry_for homes s generation (suc level) prefix)
    ++ node_listed (node_lines homes s generation level prefix)
    (home_frame homes (NodeOf generation level prefix))

-- what is listed of so many words of an upper node, above nodes of this level
unfoldable pub uppers_listed : Homes → FlatState → ℕ → ℕ → ℕ → ℕ → ℕ → List ℕ
uppers_listed homes s generation level prefix frame count =
    flat_map
    (λ i. below_listed homes s generation level (prefix * PAGE_WORDS + i) frame i)
    (range_with_len 0 count)

-- the first line of a listing, by the frame of the root
unfoldable pub view_line : ℕ → Option ℕ → List ℕ
view_line generation None = line (codes "| view " ++ decimal generation ++ codes " none")
view_line generation (Some root) =
    line (codes "| view " ++ decimal generation ++ codes " root " ++ decimal root)
