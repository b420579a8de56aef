-- The parts of a listing of a page table, a word at a time.
use Rattle.std.proofs.Common.{◌≡◌, ◌++◌, ◌+◌, ◌*◌, ◌∷◌, ℕ, zero, suc, [], List, Option, None, Some, refl, sym, ap, ◌∙◌, add-one, append_assoc, arith}
use Rattle.std.specs.List.{flat_map, range_with_len}
use Rattle.std.proofs.lemmas.List.{append-nil}
use Rattle.std.proofs.lemmas.Grind.{flat_map-append}
use Rattle.wf_outside.specs.declared.sizes.TheConstants.{PAGE_WORDS}
use Rattle.wf_flat.specs.State.{FlatState}
use Rattle.wf_homes.specs.Homes.{Homes, NodeOf, home_frame}
use Rattle.wf_homes.specs.Entries.{entry_for, pointer_to}
use Rattle.wf_tables.specs.Parts.{below_listed, leaves_listed, uppers_listed, view_line}
use Rattle.wf_tables.specs.Tables.{node_lines, node_listed, view_listed, word_listed}

range_more : (a n : ℕ) → range_with_len a (suc n) ≡ range_with_len a n ++ (a + n) ∷ []
range_more a zero = let e : a ≡ a + 0 = omega arith in ap (λ (k : ℕ). k ∷ []) e
range_more a (suc n) =
    let e : a + 1 + n ≡ a + suc n = omega arith in
    ap (λ (ns : List ℕ). a ∷ ns) (range_more (a + 1) n ∙ ap (λ (k : ℕ). range_with_len (a + 1) n ++ k ∷ []) e)

part_more : (f : ℕ → List ℕ) (count : ℕ) → flat_map f (range_with_len 0 (count + 1)) ≡ flat_map f (range_with_len 0 count) ++ f count
part_more f count =
    let e : 0 + count ≡ count = omega arith in
    ap (λ (k : ℕ). flat_map f (range_with_len 0 k)) (add-one count)
    ∙ ap (flat_map f) (range_more 0 count)
    ∙ ap (λ (k : ℕ). flat_map f (range_with_len 0 count ++ k ∷ [])) e
    ∙ flat_map-append f (range_with_len 0 count) (count ∷ [])
    ∙ ap (λ (ns : List ℕ). flat_map f (range_with_len 0 count) ++ ns) (append-nil (f count))

-- one word more
pub leaves_more : (homes : Homes) (s : FlatState) (generation prefix frame count : ℕ) (before middle after : List ℕ)
    → middle ≡ before ++ leaves_listed homes s generation prefix frame count
    → after ≡ middle ++ word_listed 0 frame count (entry_for homes s generation 0 (prefix * PAGE_WORDS + count))
    → after ≡ before ++ leaves_listed homes s generation prefix frame (count + 1)
unfolding leaves_listed
leaves_more homes s generation prefix frame count before middle after e is =
    let f : ℕ → List ℕ = λ i. word_listed 0 frame i (entry_for homes s generation 0 (prefix * PAGE_WORDS + i)) in
    is
    ∙ ap (λ (ns : List ℕ). ns ++ f count) e
    ∙ append_assoc before (flat_map f (range_with_len 0 count)) (f count)
    ∙ ap (λ (ns : List ℕ). before ++ ns) (sym (part_more f count))

pub uppers_more : (homes : Homes) (s : FlatState) (generation level prefix frame count : ℕ) (before middle after : List ℕ)
    → middle ≡ before ++ uppers_listed homes s generation level prefix frame count
    → after ≡ middle ++ below_listed homes s generation level (prefix * PAGE_WORDS + count) frame count
    → after ≡ before ++ uppers_listed homes s generation level prefix frame (count + 1)
unfolding uppers_listed
uppers_more homes s generation level prefix frame count before middle after e is =
    let f : ℕ → List ℕ = λ i. below_listed homes s generation level (prefix * PAGE_WORDS + i) frame i in
    is
    ∙ ap (λ (ns : List ℕ). ns ++ f count) e
    ∙ append_assoc before (flat_map f (range_with_len 0 count)) (f count)
    ∙ ap (λ (ns : List ℕ). before ++ ns) (sym (part_more f count))

-- no word yet
pub leaves_none : (homes : Homes) (s : FlatState) (generation prefix frame : ℕ) → leaves_listed homes s generation prefix frame 0 ≡ []
unfolding leaves_listed
leaves_none homes s generation prefix frame = refl

pub uppers_none : (homes : Homes) (s : FlatState) (generation level prefix frame : ℕ) → uppers_listed homes s generation level prefix frame 0 ≡ []
unfolding uppers_listed
uppers_none homes s generation level prefix frame = refl

-- all words
pub leaves_all : (homes : Homes) (s : FlatState) (generation prefix frame : ℕ) → leaves_listed homes s generation prefix frame PAGE_WORDS ≡ node_lines homes s generation 0 prefix frame
unfolding leaves_listed node_lines
leaves_all homes s generation prefix frame = refl

pub uppers_all : (homes : Homes) (s : FlatState) (generation level prefix frame : ℕ) → uppers_listed homes s generation level prefix frame PAGE_WORDS ≡ node_lines homes s generation (suc level) prefix frame
unfolding uppers_listed below_listed node_lines
uppers_all homes s generation level prefix frame = refl

-- a word, and the node that it points to
pub below_some : (homes : Homes) (s : FlatState) (generation level prefix frame i node : ℕ) (home : Option ℕ) (before middle after : List ℕ)
    → home ≡ home_frame homes (NodeOf generation level prefix) → home ≡ Some node
    → middle ≡ before ++ word_listed (suc level) frame i (pointer_to home) → after ≡ middle ++ node_lines homes s generation level prefix node
    → after ≡ before ++ below_listed homes s generation level prefix frame i
unfolding below_listed
below_some homes s generation level prefix frame i node home before middle after is some e f =
    let word : List ℕ = word_listed (suc level) frame i (pointer_to home) in
    f
    ∙ ap (λ (ns : List ℕ). ns ++ node_lines homes s generation level prefix node) e
    ∙ append_assoc before word (node_lines homes s generation level prefix node)
    ∙ ap (λ (o : Option ℕ). before ++ (word ++ node_listed (node_lines homes s generation level prefix) o)) (sym some)
    ∙ ap (λ (o : Option ℕ). before ++ (word_listed (suc level) frame i (pointer_to o) ++ node_listed (node_lines homes s generation level prefix) o)) is

pub below_none : (homes : Homes) (s : FlatState) (generation level prefix frame i : ℕ) (home : Option ℕ) (before after : List ℕ)
    → home ≡ home_frame homes (NodeOf generation level prefix) → home ≡ None
    → after ≡ before ++ word_listed (suc level) frame i (pointer_to home)
    → after ≡ before ++ below_listed homes s generation level prefix frame i
unfolding below_listed
below_none homes s generation level prefix frame i home before after is none e =
    let word : List ℕ = word_listed (suc level) frame i (pointer_to home) in
    e
    ∙ ap (λ (ns : List ℕ). before ++ ns) (sym (append-nil word))
    ∙ ap (λ (o : Option ℕ). before ++ (word ++ node_listed (node_lines homes s generation level prefix) o)) (sym none)
    ∙ ap (λ (o : Option ℕ). before ++ (word_listed (suc level) frame i (pointer_to o) ++ node_listed (node_lines homes s generation level prefix) o)) is

-- a listing is its first line, and that of its root
pub view_all : (lines : ℕ → List ℕ) (generation : ℕ) (home : Option ℕ) → view_listed lines generation home ≡ view_line generation home ++ node_listed lines home
unfolding view_listed view_line
view_all lines generation None = sym (append-nil (view_line generation None))
view_all lines generation (Some root) = refl
