-- The listing of a generation's page table: each word that is not 0, a pointer before the node that
-- it points to. Each line of a listing begins with `| `.
use Rattle.std.specs.Prelude.{ℕ, zero, suc, List, [], ◌++◌, codes, Option, Some, None, ◌+◌, ◌*◌, ◌==◌, if◌then◌else◌}
use Rattle.std.specs.List.{flat_map, range_with_len}
use Rattle.std.specs.Fmt.{decimal}
use Rattle.wf_text.specs.Numbers.{hex}
use Rattle.wf_outside.specs.declared.sizes.TheConstants.{PAGE_WORDS}
use Rattle.wf_journal.specs.Headers.{line}
use Rattle.wf_flat.specs.State.{FlatState}
use Rattle.wf_homes.specs.Homes.{Homes, NodeOf, home_frame}
use Rattle.wf_homes.specs.Entries.{entry_for}

-- the line of a word: the level of its node, the node's frame, its index there, and the word, in
-- hexadecimal digits
unfoldable pub word_line : ℕ → ℕ → ℕ → ℕ → List ℕ
word_line level frame index word =
    line
    (codes "| " ++ decimal level ++ codes " " ++ decimal frame ++ codes " " ++ decimal index
    ++ codes " " ++ hex word)

-- what is listed of a word of a node: nothing where it is 0
abbrev pub word_listed : ℕ → ℕ → ℕ → ℕ → List ℕ
word_listed level frame index word =
    if word == 0 then [] else word_line level frame index word

-- what is listed of a node, by the frame that it lies in, if it is there
abbrev pub node_listed : (ℕ → List ℕ) → Option ℕ → List ℕ
node_listed lines None = []
node_listed lines (Some frame) = lines frame

-- The lines of a generation's node of a level and prefix, which lies in a frame: those of its words
-- by rising index, and behind each word of an upper node those of the node that it points to.
unfoldable pub node_lines : Homes → FlatState → ℕ → ℕ → ℕ → ℕ → List ℕ
node_lines homes s generation zero prefix frame =
    flat_map
    (λ i. word_listed 0 frame i (entry_for homes s generation 0 (prefix * PAGE_WORDS + i)))
    (range_with_len 0 PAGE_WORDS)
node_lines homes s generation (suc level) prefix frame =
    flat_map
    (λ i. word_listed (suc level) frame i
    (entry_for homes s generation (suc level) (prefix * PAGE_WORDS + i))
    ++ node_listed (node_lines homes s generation level (prefix * PAGE_WORDS + i))
    (home_frame homes (NodeOf generation level (prefix * PAGE_WORDS + i))))
    (range_with_len 0 PAGE_WORDS)

-- what is listed of a page table, by the frame of its root: `none` where there is no root, since
-- the generation does not live
unfoldable pub view_listed : (ℕ → List ℕ) → ℕ → Option ℕ → List ℕ
view_listed lines generation None =
    line (codes "| view " ++ decimal generation ++ codes " none")
view_listed lines generation (Some root) =
    line (codes "| view " ++ decimal generation ++ codes " root " ++ decimal root) ++ lines root

-- the listing of a generation's page table: `view`, its number and the frame of its root, and the
-- words of its nodes
unfoldable pub tables_lines : ℕ → Homes → FlatState → List ℕ
tables_lines generation homes s =
    view_listed (node_lines homes s generation 2 0) generation
    (home_frame homes (NodeOf generation 2 0))
