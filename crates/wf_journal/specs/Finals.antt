-- The final lines of a state: what each hart, each generation and each data page is.
use Rattle.std.specs.Prelude.{ℕ, List, [], ◌∷◌, ◌++◌, ◌+◌, ◌*◌, ◌==◌, Bool, true, false, codes, Option, Some, None, drop, map, if◌then◌else◌}
use Rattle.std.specs.List.{flat_map}
use Rattle.std.specs.Fmt.{decimal}
use Rattle.wf_text.specs.Numbers.{hex}
use Rattle.wf_flat.specs.declared.state.Stage.{Stage}
use Rattle.wf_flat.specs.declared.state.Stage.TheVariants.{Here, Going, Ending}
use Rattle.wf_flat.specs.declared.state.Life.{Life}
use Rattle.wf_flat.specs.declared.state.Life.TheVariants.{Running, Exited, Trapped}
use Rattle.wf_flat.specs.State.{FlatState, HartState, GenState, PageState}
use Rattle.wf_journal.specs.Entries.{spaced, right_text}

-- whether a hart runs, or how it stopped
unfoldable pub life_text : Life → List ℕ
life_text Running = codes "running"
life_text (Exited code) = codes "exit " ++ decimal code
life_text (Trapped cause value) = codes "trap " ++ decimal cause ++ spaced (hex value)

-- a hart: its generation, its pc, and whether it runs
unfoldable pub hart_line : ℕ → HartState → List ℕ
hart_line number hart =
    codes "= hart " ++ decimal number ++ codes " gen " ++ decimal hart.generation ++ codes " pc "
    ++ hex hart.arch.pc ++ spaced (life_text hart.life)

-- a space and the value of a register
abbrev pub register_text : ℕ → List ℕ
register_text value = spaced (hex value)

-- its registers x1 to x31
unfoldable pub registers_line : ℕ → HartState → List ℕ
registers_line number hart =
    codes "= regs " ++ decimal number ++ flat_map register_text (drop 1 hart.arch.x)

-- a hart and its registers
abbrev pub hart_lines : ℕ → HartState → List (List ℕ)
hart_lines number hart = hart_line number hart ∷ registers_line number hart ∷ []

-- the harts by their numbers
abbrev pub harts_from : ℕ → List HartState → List (List ℕ)
harts_from number [] = []
harts_from number (hart ∷ harts) = hart_lines number hart ++ harts_from (number + 1) harts

-- a number, or `-` for none
abbrev pub parent_text : Option ℕ → List ℕ
parent_text None = codes "-"
parent_text (Some parent) = decimal parent

-- whether a generation lives
abbrev pub live_text : Bool → List ℕ
live_text true = codes "live"
live_text false = codes "dead"

-- a generation: its parent, whether it lives, and how many patches it has
unfoldable pub gen_line : GenState → List ℕ
gen_line gen =
    codes "= gen " ++ decimal gen.number ++ codes " parent " ++ parent_text gen.parent
    ++ spaced (live_text gen.live) ++ codes " patches " ++ decimal gen.patches

-- a page that is leaving has a holder still, or none
abbrev pub holder_text : Option ℕ → List ℕ
holder_text None = codes "-"
holder_text (Some hart) = codes "h" ++ decimal hart

-- how far an unmap of a page has come
unfoldable pub stage_text : Stage → Option ℕ → List ℕ
stage_text Here holder = codes "here"
stage_text Going holder = codes "going"
stage_text Ending holder = codes "ending " ++ holder_text holder

-- a data page: its right, its stage, and how often it was written
unfoldable pub page_line : PageState → List ℕ
page_line page =
    codes "= page " ++ hex page.number ++ spaced (right_text page.write)
    ++ spaced (stage_text page.stage page.holder) ++ codes " writes " ++ decimal page.writes

-- the word at an address, where it is not 0
unfoldable pub word_line : ℕ → ℕ → List (List ℕ)
word_line va word = if word == 0 then [] else (codes "= word " ++ hex va ++ spaced (hex word)) ∷ []

-- the words from an address on
unfoldable pub word_lines : ℕ → List ℕ → List (List ℕ)
word_lines va [] = []
word_lines va (word ∷ words) = word_line va word ++ word_lines (va + 8) words

-- a page and, where it was written, its words
abbrev pub page_lines : PageState → List (List ℕ)
page_lines page =
    page_line page ∷ (if page.writes == 0 then [] else word_lines (page.number * 4096) page.words)

-- the final lines: harts, generations and data pages, each without its newline
abbrev pub final_lines : FlatState → List (List ℕ)
final_lines flat =
    harts_from 0 flat.harts ++ map gen_line flat.gens ++ flat_map page_lines flat.pages
