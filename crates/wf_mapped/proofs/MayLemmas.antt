-- A mapping may be carried out.
use Rattle.std.proofs.Common.{◌≡◌, ◌≢◌, ◌<◌, ◌≤◌, ◌+◌, ◌/◌, ◌%◌, ◌^◌, ◌==◌, ◌++◌, ℕ, List, [], ◌∷◌, Bool, true, false, Option, Some, None, length, map, take, drop, refl, sym, ap, subst, ◌∙◌, arith, nat_eq}
use Rattle.std.specs.Prelude.{IsSome, slice_get}
use Rattle.std.specs.List.{AllByRecursion, IsDistinct, flat_map}
use Rattle.std.specs.Map.{values_of}
use Rattle.std.specs.Option.{option_map}
use Rattle.std.proofs.lemmas.Bool.Decides.{nat_tests}
use Rattle.std.proofs.lemmas.List.Sums.{fold-append}
use Rattle.wf_outside.specs.Lists.{IsRising}
use Rattle.wf_outside.specs.Pages.{LimitsValue, page_of}
use Rattle.wf_frames.specs.declared.state.Frame.{Frame}
use Rattle.wf_frames.specs.declared.state.FrameState.TheVariants.{Free}
use Rattle.wf_frames.specs.Frames.{HasState, with_frame}
use Rattle.wf_frames.specs.Layout.{WordsValue, word_count}
use Rattle.wf_views.specs.declared.pages.PageAt.{PageAt}
use Rattle.wf_views.specs.declared.plan.Change.{Change}
use Rattle.wf_views.specs.declared.plan.Change.TheVariants.{Birth, Page}
use Rattle.wf_views.specs.declared.plan.Piece.{Piece}
use Rattle.wf_views.specs.declared.plan.Piece.TheVariants.{Copy, Fill, Leave, Live, Pte}
use Rattle.wf_views.specs.declared.plan.Plan.{Plan}
use Rattle.wf_views.specs.declared.records.Records.{Records}
use Rattle.wf_views.specs.Pages.{page_added, page_at, page_number}
use Rattle.wf_views.specs.Views.{generation_number, view_of}
use Rattle.wf_flat.specs.State.{FlatState}
use Rattle.wf_homes.specs.Homes.{DataOf, Homes, NodeOf, Tenant, home_frame}
use Rattle.wf_homes.specs.Stands.{StandsFor}
use Rattle.wf_homes.proofs.FoundLemmas.{some_at}
use Rattle.wf_homes.proofs.ListLemmas.{all_any, all_both, all_lists, all_map, all_more}
use Rattle.wf_homes.proofs.PlaceLemmas.{home_low, place_low}
use Rattle.wf_space.proofs.GiveLemmas.{other_state}
use Rattle.wf_space.specs.Changes.{MayNote, marked, with_change, with_changes}
use Rattle.wf_space.specs.Pieces.{ArePerformed, HasIncarnation, MayPerform, MayPerformAll, Performs}
use Rattle.wf_mapping.specs.Blanks.{blank}
use Rattle.wf_mapping.specs.declared.layout.Mapping.{Mapping}
use Rattle.wf_mapping.specs.declared.nodes.NewNode.{NewNode}
use Rattle.wf_mapping.specs.Laws.{mapped_by}
use Rattle.wf_mapping.specs.Layout.{free_in, new_nodes, new_pages, pages_placed}
use Rattle.wf_mapping.specs.Plans.{map_changes, map_pieces, node_above, node_filled, node_marked, node_noted, page_filled, page_live, page_marked, pointer_in, pointer_stored}
use Rattle.wf_mapped.proofs.AnyLemmas.{all_and}
use Rattle.wf_mapped.proofs.ChangeLemmas.{all_changes, frames_taken, is_data, mark_of, marks_are, marks_made, pages_added, pages_made, recorded}
use Rattle.wf_mapped.proofs.HousedLemmas.{IsNewHome, IsNewNode, IsReady, all_new, all_placed, housed, news, news_apart, nodes_new, pages_new}
use Rattle.wf_mapped.proofs.PageLemmas.{inserted_at, placed_above}
use Rattle.wf_mapped.proofs.PieceLemmas.{KeepsPlace, fill_keeps, store_keeps}
use Rattle.wf_mapped.proofs.RaiseLemmas.{changed_raised, performed_raised}
use Rattle.wf_mapped.proofs.RaisedLemmas.{raised_frame}
use Rattle.wf_mapped.proofs.RoomLemmas.{nodes_may, room_there}
use Rattle.wf_mapped.proofs.StandLemmas.{map_standing}
use Rattle.wf_mapped.proofs.TakenLemmas.{apart_of}
use Rattle.wf_mapped.proofs.WordLemmas.{blank_length, node_length}
use Rattle.wf_mapped.specs.Mapped.{CanCarryMap, HaveMapRoom, IsCurrentMap, IsMapCarriedOut, MapsCanBeCarriedOut}
use Rattle.wf_mapped.specs.Raising.{CanBeRaised}

-- changes can be made in two parts
note_both : (xs ys : List Change) (r : Records) → MayNote r xs → MayNote (with_changes r xs) ys → MayNote r (xs ++ ys)
note_both [] ys r first second = second
note_both (x ∷ xs) ys r first second = (first.0, note_both xs ys (with_change r x) first.1 second)

-- frames can be taken
marks_may : (hs : List (Tenant × ℕ)) (r : Records) → IsDistinct nat_eq (values_of hs) → AllByRecursion (λ h. HasState r.frames.frames h.1 Free) hs → MayNote r (map mark_of hs)
unfolding IsDistinct
marks_may [] r d all = tt
marks_may (h ∷ hs) r d all = (
  all.0,
  marks_may hs (record r { frames = with_frame r.frames h.1 (marked r.frames.last_birth (is_data h.0)) }) d.1
      (all_more (λ k. (k.1 ≢ h.1) × HasState r.frames.frames k.1 Free) (λ k. HasState (with_frame r.frames h.1 (marked r.frames.last_birth (is_data h.0))).frames k.1 Free)
      (λ k both. other_state r.frames.frames h.1 k.1 (marked r.frames.last_birth (is_data h.0)) Free (λ e. both.0 (sym e)) both.1) hs
      (all_and (λ k. k.1 ≢ h.1) (λ k. HasState r.frames.frames k.1 Free) hs (apart_of h.1 hs d.0) all.1)),
)

-- pages can be recorded
pages_may : (write : Bool) (page : ℕ) (fs : List ℕ) (r : Records) → AllByRecursion (λ p. page_at r.pages p.page ≡ None) (pages_placed write page fs) → length (pages_placed write page fs) ≤ r.pages.room → MayNote r (map Page (pages_placed write page fs))
pages_may write page [] r all le = tt
pages_may write page (f ∷ fs) r all le = (
  (all.0, (omega arith)),
  pages_may write (page + 1) fs (record r { pages = page_added placed r.pages })
      (all_more (λ p. (page < p.page) × (page_at r.pages p.page ≡ None)) (λ p. page_at (page_added placed r.pages) p.page ≡ None) (λ p both. still p both.0 both.1) (pages_placed write (page + 1) fs)
      (all_and (λ p. page < p.page) (λ p. page_at r.pages p.page ≡ None) (pages_placed write (page + 1) fs) (placed_above write page (page + 1) fs (omega arith)) all.1))
      (omega arith),
)
  where
    placed : PageAt
    placed = record { page = page; write = write; frame = f; going = false; ending = false }

    still : (p : PageAt) → page < p.page → page_at r.pages p.page ≡ None → page_at (page_added placed r.pages) p.page ≡ None
    still p lt none = inserted_at page_number placed r.pages.items p.page ∙ (let t : (page == p.page) ≡ false = grind (arith, nat_tests) in rw t none)

-- a piece that can be performed wherever there are so many frames
abbrev Fits : ℕ → Records → Piece → Type 0
Fits frames r (Fill frame page) = (frame < frames) × (length page ≡ 512)
Fits frames r (Copy source frame page jumps) = ⊥
Fits frames r (Live frame) = (frame < frames) × HasIncarnation r frame
Fits frames r (Pte at value) = at < word_count frames
Fits frames r (Leave page) = ⊥

fits_may : (words : WordsValue) (r : Records) (frames : ℕ) (piece : Piece) → words.frames ≡ frames → Fits frames r piece → MayPerform words r piece
fits_may words r frames (Fill frame page) same fits = (subst (λ (n : ℕ). frame < n) (sym same) fits.0, fits.1)
fits_may words r frames (Copy source frame page jumps) same fits = absurd fits
fits_may words r frames (Live frame) same fits = (subst (λ (n : ℕ). frame < n) (sym same) fits.0, fits.1)
fits_may words r frames (Pte at value) same fits = subst (λ (n : ℕ). at < word_count n) (sym same) fits
fits_may words r frames (Leave page) same fits = absurd fits

fits_keeps : (words next : WordsValue) (r q : Records) (frames : ℕ) (piece : Piece) → Fits frames r piece → Performs words r piece next q → KeepsPlace words next r q
fits_keeps words next r q frames (Fill frame page) fits done = fill_keeps words next r q (Fill frame page) tt done
fits_keeps words next r q frames (Copy source frame page jumps) fits done = absurd fits
fits_keeps words next r q frames (Live frame) fits done = (store_keeps words next r q (Live frame) tt done).0
fits_keeps words next r q frames (Pte at value) fits done = (store_keeps words next r q (Pte at value) tt done).0
fits_keeps words next r q frames (Leave page) fits done = absurd fits

all_fit : (pieces : List Piece) (words : WordsValue) (r : Records) (frames : ℕ) → words.frames ≡ frames → AllByRecursion (Fits frames r) pieces → MayPerformAll words r pieces
all_fit [] words r frames same all = tt
all_fit (piece ∷ pieces) words r frames same all = (
  fits_may words r frames piece same all.0,
  λ next q done. (
      let keeps = fits_keeps words next r q frames piece all.0 done in
      all_fit pieces next q frames (keeps.frames ∙ same) (subst (λ (p : Records). AllByRecursion (Fits frames p) pieces) (sym keeps.records) all.1)
      ),
)

module _ (words : WordsValue) (r : Records) (homes : Homes) (s : FlatState) (mapping : Mapping) (ready : IsReady words r homes s mapping) where
  abbrev st : StandsFor words r homes s
  st = ready.stands

  abbrev after_s : FlatState
  after_s = mapped_by s mapping

  abbrev after_h : Homes
  after_h = housed r homes mapping

  abbrev pages : List PageAt
  pages = new_pages r mapping

  abbrev nodes : List NewNode
  nodes = new_nodes r mapping

  abbrev made : Records
  made = with_changes r (map_changes r mapping)

  not_recorded : (p : PageAt) → IsNewHome r homes after_h s (DataOf p.page) p.frame → page_at r.pages p.page ≡ None
  not_recorded p is = by_page (page_at r.pages p.page) refl
    where
      by_page : (o : Option PageAt) → page_at r.pages p.page ≡ o → o ≡ None
      by_page None e = refl
      by_page (Some x) e = absurd (let k : Some x.frame ≡ None = ap (option_map (λ (y : PageAt). y.frame)) (sym e) ∙ st.at_home (DataOf p.page) ∙ is.before in cc)

  pub changes_may : HaveMapRoom r mapping → s.births + mapping.pages < 2 ^ 64 → MayNote r (map_changes r mapping)
  changes_may room fits =
      note_both (map page_marked pages ++ map node_marked nodes ++ map Page pages ++ Birth mapping.pages ∷ []) (flat_map node_noted nodes) r
      (note_both (map page_marked pages ++ map node_marked nodes ++ map Page pages) (Birth mapping.pages ∷ []) r
      (note_both (map page_marked pages ++ map node_marked nodes) (map Page pages) r marks
      (subst (λ (x : Records). MayNote x (map Page pages)) (sym marked_is) pages_noted))
      (subst (λ (x : Records). MayNote x (Birth mapping.pages ∷ [])) (sym paged_is) (born, tt)))
      (subst (λ (x : Records). MayNote x (flat_map node_noted nodes)) (sym born_is) nodes_noted)
    where
      marks : MayNote r (map page_marked pages ++ map node_marked nodes)
      marks = subst (MayNote r) (sym (marks_are pages nodes)) (marks_may (news r mapping) r (news_apart words r homes s mapping ready) (all_more (λ (h : Tenant × ℕ). IsNewHome r homes after_h s h.0 h.1) (λ (h : Tenant × ℕ). HasState r.frames.frames h.1 Free) (λ h is. is.spare.state) (news r mapping) (all_new words r homes s mapping ready)))

      marked_is : with_changes r (map page_marked pages ++ map node_marked nodes) ≡ record r { frames = frames_taken (news r mapping) r.frames }
      marked_is = ap (with_changes r) (marks_are pages nodes) ∙ marks_made (news r mapping) r

      pages_noted : MayNote (record r { frames = frames_taken (news r mapping) r.frames }) (map Page pages)
      pages_noted = pages_may mapping.write (page_of mapping.va) (take mapping.pages (free_in r)) (record r { frames = frames_taken (news r mapping) r.frames })
          (all_more (λ (p : PageAt). IsNewHome r homes after_h s (DataOf p.page) p.frame) (λ (p : PageAt). page_at r.pages p.page ≡ None) not_recorded pages (pages_new words r homes s mapping ready))
          (let count : length pages ≡ mapping.pages = all_placed words r homes s mapping ready in let le : mapping.pages ≤ r.pages.room = room.pages in let k : length pages ≤ r.pages.room = omega arith in k)

      paged_is : with_changes r (map page_marked pages ++ map node_marked nodes ++ map Page pages) ≡ record r { frames = frames_taken (news r mapping) r.frames; pages = pages_added pages r.pages }
      paged_is = fold-append with_change r (map page_marked pages ++ map node_marked nodes) (map Page pages) ∙ ap (λ (x : Records). with_changes x (map Page pages)) marked_is ∙ pages_made pages (record r { frames = frames_taken (news r mapping) r.frames })

      born : r.births + mapping.pages < 2 ^ 64
      born = subst (λ (n : ℕ). n + mapping.pages < 2 ^ 64) (sym st.births) fits

      born_is : with_changes r (map page_marked pages ++ map node_marked nodes ++ map Page pages ++ Birth mapping.pages ∷ []) ≡ record r { frames = frames_taken (news r mapping) r.frames; pages = pages_added pages r.pages; births = r.births + mapping.pages }
      born_is = fold-append with_change r (map page_marked pages ++ map node_marked nodes ++ map Page pages) (Birth mapping.pages ∷ []) ∙ ap (λ (x : Records). with_changes x (Birth mapping.pages ∷ [])) paged_is

      nodes_noted : MayNote (record r { frames = frames_taken (news r mapping) r.frames; pages = pages_added pages r.pages; births = r.births + mapping.pages }) (flat_map node_noted nodes)
      nodes_noted = nodes_may nodes (record r { frames = frames_taken (news r mapping) r.frames; pages = pages_added pages r.pages; births = r.births + mapping.pages }) (room_there r mapping (drop mapping.pages (free_in r)) ready.up room)
          (all_more (IsNewNode r homes after_h s) (λ (n : NewNode). IsSome (view_of r.views n.generation)) (λ n is. is.view) nodes (nodes_new words r homes s mapping ready))

  abbrev frames : ℕ
  frames = words.frames

  low : (f : ℕ) → f < s.limits.frames → f < frames
  low f lt = (let same : words.frames ≡ s.limits.frames = st.sizes.of_words in omega arith)

  has_incarnation : (p : PageAt) → IsNewHome r homes after_h s (DataOf p.page) p.frame → HasIncarnation made p.frame
  has_incarnation p is =
      let raised = raised_frame words r homes s mapping ready p.page p.frame is in
      subst (λ (x : Records). HasIncarnation x p.frame) (sym (all_changes mapping.pages pages nodes r))
      (some_at (slice_get (recorded mapping.pages pages nodes r).frames.frames p.frame) (λ (f : Frame). f.incarnation < 2 ^ 23) (marked r.frames.last_birth true raised.before) raised.now (subst (λ (n : ℕ). n < 2 ^ 23) (sym raised.inc) raised.low))

  pointer_fits : (n : NewNode) (o : Option ℕ) → home_frame homes (NodeOf n.generation (n.node.level + 1) (n.node.prefix / 512)) ≡ o → AllByRecursion (Fits frames made) (pointer_in r.limits.frames n o)
  pointer_fits n None e = tt
  pointer_fits n (Some a) e =
      let same : r.limits.frames ≡ frames = ap (λ (l : LimitsValue). l.frames) st.sizes.of_records ∙ sym st.sizes.of_words in
      let lt : a < frames = low a (home_low homes s (NodeOf n.generation (n.node.level + 1) (n.node.prefix / 512)) a st.housed.separate e) in
      subst (λ (k : ℕ). AllByRecursion (Fits frames made) (pointer_in k n (Some a))) (sym same) (place_low frames a (n.node.prefix % 512) lt (omega arith), tt)

  pub pieces_may : MayPerformAll words made (map_pieces r mapping)
  pieces_may = all_fit (map_pieces r mapping) words made frames refl
      (all_both (Fits frames made) (map page_filled pages ++ map (node_filled nodes) nodes ++ map page_live pages) (flat_map (pointer_stored r) nodes)
      (all_both (Fits frames made) (map page_filled pages ++ map (node_filled nodes) nodes) (map page_live pages)
      (all_both (Fits frames made) (map page_filled pages) (map (node_filled nodes) nodes)
      (all_map (λ (p : PageAt). IsNewHome r homes after_h s (DataOf p.page) p.frame) (Fits frames made) page_filled (λ p is. (low p.frame is.spare.low, blank_length)) pages (pages_new words r homes s mapping ready))
      (all_map (IsNewNode r homes after_h s) (Fits frames made) (node_filled nodes) (λ n is. (low n.node.frame is.home.spare.low, node_length nodes n blank ∙ blank_length)) nodes (nodes_new words r homes s mapping ready)))
      (all_map (λ (p : PageAt). IsNewHome r homes after_h s (DataOf p.page) p.frame) (Fits frames made) page_live (λ p is. (low p.frame is.spare.low, has_incarnation p is)) pages (pages_new words r homes s mapping ready)))
      (all_lists (pointer_stored r) (Fits frames made) nodes (all_any (λ (n : NewNode). AllByRecursion (Fits frames made) (pointer_stored r n)) (λ n. pointer_fits n (node_above r n) (sym (st.at_home (NodeOf n.generation (n.node.level + 1) (n.node.prefix / 512))))) nodes)))

pub map_can : MapsCanBeCarriedOut
map_can words r homes s mapping st tidy up may raised room fits =
    let ready : IsReady words r homes s mapping = record { stands = st; tidy = tidy; up = up; may = may; raised = raised } in
    record { changes = changes_may words r homes s mapping ready room fits; pieces = pieces_may words r homes s mapping ready }

-- a plan that is current
can_now : (words : WordsValue) (r : Records) (plan : Plan) (c : IsCurrentMap words r plan) → IsRising (map generation_number r.views.views) → CanCarryMap words r c.mapping
can_now words r plan c up = map_can words r c.homes c.state c.mapping c.stands c.tidy up c.may c.raised c.room c.births

pub current_changes : (words : WordsValue) (r : Records) (plan : Plan) → IsCurrentMap words r plan → IsRising (map generation_number r.views.views) → MayNote r plan.changes.items
current_changes words r plan c up = subst (MayNote r) (sym c.is_plan.changes) (can_now words r plan c up).changes

pub current_pieces : (words : WordsValue) (r : Records) (plan : Plan) → IsCurrentMap words r plan → IsRising (map generation_number r.views.views) → MayPerformAll words (with_changes r plan.changes.items) plan.pieces.items
current_pieces words r plan c up =
    subst (λ (changes : List Change). MayPerformAll words (with_changes r changes) plan.pieces.items) (sym c.is_plan.changes)
    (subst (MayPerformAll words (with_changes r (map_changes r c.mapping))) (sym c.is_plan.pieces) (can_now words r plan c up).pieces)

pub map_carried : (words new : WordsValue) (r q : Records) (plan : Plan) → IsRising (map generation_number r.views.views) → ArePerformed words (with_changes r plan.changes.items) plan.pieces.items new q → length new.items ≡ word_count new.frames → IsMapCarriedOut words r plan new q
map_carried words new r q plan up performed whole mapping homes s st tidy may raised is =
    let one : ArePerformed words (with_changes r plan.changes.items) (map_pieces r mapping) new q = subst (λ (pieces : List Piece). ArePerformed words (with_changes r plan.changes.items) pieces new q) is.pieces performed in
    let two : ArePerformed words (with_changes r (map_changes r mapping)) (map_pieces r mapping) new q = subst (λ (changes : List Change). ArePerformed words (with_changes r changes) (map_pieces r mapping) new q) is.changes one in
    map_standing words new r q homes s mapping st tidy up may raised two whole

-- frames can be in one more incarnation still
pub carried_raised : (words new : WordsValue) (r q : Records) (plan : Plan) → IsCurrentMap words r plan → ArePerformed words (with_changes r plan.changes.items) plan.pieces.items new q → CanBeRaised q.frames
carried_raised words new r q plan c performed = performed_raised words new (with_changes r plan.changes.items) q plan.pieces.items (changed_raised r plan.changes.items c.raised) performed
