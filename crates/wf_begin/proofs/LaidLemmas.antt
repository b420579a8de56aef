-- What is laid out at the start takes the frames that are counted.
use Rattle.std.proofs.Common.{◌≡◌, ◌≤◌, ◌+◌, ℕ, List, [], ◌∷◌, true, Some, length, map, refl, sym, ap, subst, ◌∙◌, arith}
use Rattle.std.specs.Prelude.{slice_get, sum_by}
use Rattle.std.specs.List.{AllByRecursion}
use Rattle.std.proofs.lemmas.List.Sums.{sum_by-cons}
use Rattle.wf_outside.specs.Images.{ImageValue, IsImage, text_numbers}
use Rattle.wf_outside.specs.Lists.{IsRising}
use Rattle.wf_outside.specs.Pages.{LimitsValue, PageValue}
use Rattle.wf_frames.specs.Layout.{WordsValue}
use Rattle.wf_views.specs.declared.records.Records.{Records}
use Rattle.wf_views.specs.Views.{ViewValue}
use Rattle.wf_flat.specs.Boot.{boot_gen, boot_of}
use Rattle.wf_flat.specs.Counts.{frames_of, nodes_of, used_of}
use Rattle.wf_flat.specs.Ordered.{IsGen}
use Rattle.wf_flat.specs.State.{FlatState, GenState, PageState}
use Rattle.wf_homes.specs.Homes.{homes_at_boot, tree_nodes}
use Rattle.wf_homes.specs.Kept.{text_page}
use Rattle.wf_homes.specs.Stands.{StandsFor}
use Rattle.wf_homes.proofs.CountLemmas.{tree_length}
use Rattle.wf_start.specs.Layout.{nodes_from, text_from}
use Rattle.wf_start.specs.Start.{AreFirstRecords, IsFirst, IsFirstView, nodes_first}
use Rattle.wf_start.proofs.ViewLemmas.{first_stand}
use Rattle.wf_laying.specs.Words.{WordsLaidOut}
use Rattle.wf_begin.proofs.RecordLemmas.{words_first}
use Rattle.wf_begin.proofs.StartLemmas.{start_first}

-- the numbers of pages of text of a view are those of its generation
same_pages : (frame : ℕ) (pages : List PageValue) → map text_page (text_from frame pages) ≡ text_numbers pages
same_pages frame [] = refl
same_pages frame (page ∷ pages) = ap (λ (ns : List ℕ). page.number ∷ ns) (same_pages (frame + 1) pages)

nodes_count : (frame : ℕ) (nodes : List (ℕ × ℕ)) → length (nodes_from frame nodes) ≡ length nodes
nodes_count frame [] = refl
nodes_count frame (node ∷ nodes) = (let k : length (nodes_from (frame + 1) nodes) ≡ length nodes = nodes_count (frame + 1) nodes in omega arith)

-- what a live generation takes
live_frames : (gen : GenState) → gen.live ≡ true → frames_of gen ≡ length gen.text + nodes_of gen.reach
live_frames gen live = rw live refl

module _ (s : FlatState) (gen : GenState) (harts : ℕ) (first : IsFirst s gen harts) where
  -- as many frames are used as pages and nodes are laid
  pub used_first : used_of s ≡ nodes_first s gen + length (tree_nodes gen.reach)
  used_first =
      let all : used_of s ≡ length s.pages + sum_by frames_of (gen ∷ []) = ap (λ (gens : List GenState). length s.pages + sum_by frames_of gens) first.only in
      let sums : sum_by frames_of (gen ∷ []) ≡ frames_of gen + 0 = sum_by-cons frames_of gen [] in
      let one : frames_of gen ≡ length gen.text + nodes_of gen.reach = live_frames gen first.live in
      let tree : length (tree_nodes gen.reach) ≡ nodes_of gen.reach = tree_length gen.reach in
      all ∙ ap (λ (n : ℕ). length s.pages + n) (sums ∙ ap (λ (n : ℕ). n + 0) (one ∙ ap (λ (n : ℕ). length gen.text + n) (sym tree))) ∙ omega arith

  is_gen : IsGen gen.text gen.reach
  is_gen = (let all : AllByRecursion (λ (g : GenState). IsGen g.text g.reach) (gen ∷ []) = subst (AllByRecursion (λ (g : GenState). IsGen g.text g.reach)) first.only first.tidy.gens in all.0)

  module _ (view : ViewValue) (fv : IsFirstView s gen harts view) where
    pub view_used : used_of s ≡ nodes_first s gen + length view.nodes.items
    view_used = used_first ∙ ap (λ (n : ℕ). nodes_first s gen + n) (sym (ap length fv.nodes ∙ nodes_count (nodes_first s gen) (tree_nodes gen.reach)))

    pub view_few : length gen.text + length s.pages + length view.nodes.items ≤ s.limits.frames
    view_few = (let fits : used_of s ≤ s.limits.frames = first.fits in omega (arith, view_used))

    pub view_rising : IsRising (map text_page view.text)
    view_rising = subst IsRising (sym (ap (map text_page) fv.text ∙ same_pages 0 gen.text)) is_gen.rising

    -- so all of it stands for the state
    pub laid_stand : (frames : ℕ) (text : List PageValue) (pages : List PageState) (words : WordsValue) (r : Records) → frames ≡ s.limits.frames → text ≡ gen.text → pages ≡ s.pages → WordsLaidOut words frames text pages view → AreFirstRecords s gen view r → 1 ≤ s.limits.last_birth
        → StandsFor words r (homes_at_boot s) s
    laid_stand frames text pages words r same_frames same_text same_pages laid records some =
        let one : WordsLaidOut words s.limits.frames text pages view = subst (λ (n : ℕ). WordsLaidOut words n text pages view) same_frames laid in
        let two : WordsLaidOut words s.limits.frames gen.text pages view = subst (λ (ts : List PageValue). WordsLaidOut words s.limits.frames ts pages view) same_text one in
        let all : WordsLaidOut words s.limits.frames gen.text s.pages view = subst (λ (ps : List PageState). WordsLaidOut words s.limits.frames gen.text ps view) same_pages two in
        first_stand s gen harts view r words first fv records (words_first s gen view words all) some

-- the state at the start of an image is a first one
pub booted : (image : ImageValue) (harts : ℕ) (limits : LimitsValue) (s : FlatState) (gen : GenState) → s ≡ boot_of image harts limits → slice_get s.gens 0 ≡ Some gen → IsImage image.text image.pages image.entry → used_of (boot_of image harts limits) ≤ limits.frames → IsFirst s gen harts
booted image harts limits s gen e at is fits =
    let k : Some (boot_gen image harts) ≡ Some gen = subst (λ (t : FlatState). slice_get t.gens 0 ≡ Some gen) e at in
    let g : boot_gen image harts ≡ gen = cc in
    subst (λ (t : FlatState). IsFirst t gen harts) (sym e) (subst (λ (h : GenState). IsFirst (boot_of image harts limits) h harts) g (start_first image harts limits is fits))
