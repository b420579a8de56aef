-- The words after the pieces of a birth.
use Rattle.std.proofs.Common.{◌≡◌, ◌≢◌, ◌<◌, ◌≤◌, ◌++◌, ℕ, List, [], ◌∷◌, Some, length, map, refl, sym, ap, subst, ◌∙◌, arith, nat_eq}
use Rattle.std.specs.Prelude.{slice_index}
use Rattle.std.specs.List.{AllByRecursion, IsDistinct}
use Rattle.std.proofs.lemmas.List.{length-map}
use Rattle.wf_outside.specs.Lists.{IsRising}
use Rattle.wf_frames.specs.FrameWords.{fields_of}
use Rattle.wf_frames.specs.Layout.{WordsValue, frame_word_place, word_place}
use Rattle.wf_views.specs.declared.plan.Piece.{Piece}
use Rattle.wf_views.specs.declared.records.Records.{Records}
use Rattle.wf_views.specs.declared.view.TextAt.{TextAt}
use Rattle.wf_views.specs.Lists.{found_by}
use Rattle.wf_flat.specs.Ordered.{IsGen}
use Rattle.wf_flat.specs.State.{FlatState}
use Rattle.wf_homes.specs.Homes.{Homes, Tenant, TextOf, home_frame}
use Rattle.wf_homes.specs.Kept.{fields_at, text_page, word_of_frame}
use Rattle.wf_homes.specs.Stands.{StandsFor}
use Rattle.wf_homes.proofs.ListLemmas.{all_both, all_more}
use Rattle.wf_homes.proofs.PlaceLemmas.{home_low, place_low, place_past}
use Rattle.wf_space.specs.Changes.{with_changes}
use Rattle.wf_space.specs.Pieces.{ArePerformed, IsOutside}
use Rattle.wf_mapping.specs.declared.nodes.NewNode.{NewNode}
use Rattle.wf_mapping.specs.Layout.{free_in}
use Rattle.wf_creating.specs.Laws.{StandsInOrder}
use Rattle.wf_creating.specs.Layout.{nodes_at_birth, text_at_birth, view_at_birth}
use Rattle.wf_creating.specs.Parents.{parent_text, text_numbers_of}
use Rattle.wf_creating.specs.Plans.{birth_changes, birth_pieces, table_filled, texts_copied, words_at_birth}
use Rattle.wf_creating.proofs.ParentLemmas.{IsParent, found_own, parent_of}
use Rattle.wf_creating.proofs.TextLemmas.{placed_few}
use Rattle.wf_created.specs.Created.{MayBeBorn}
use Rattle.wf_created.proofs.HousedLemmas.{IsSpareFrame, after_r, all_get, frames_apart, frames_spare, none_lies}
use Rattle.wf_created.proofs.TakenLemmas.{all_changed, frames_born}
use Rattle.wf_created.proofs.WriteLemmas.{AllWrite, AreWritten, HasTarget, IsNoSource, NoSources, Target, all_written, frames_of_targets, outside_frame}

-- what is written into the frames of text
abbrev pub text_targets : WordsValue → List TextAt → List TextAt → List Target
text_targets words [] copies = []
text_targets words (t ∷ ts) [] = []
text_targets words (t ∷ ts) (c ∷ cs) = (c.frame, λ i. word_of_frame words t.frame i) ∷ text_targets words ts cs

-- what is written into the frame of a node
abbrev pub node_target : List NewNode → List TextAt → NewNode → Target
node_target nodes text n = (n.node.frame, λ i. slice_index (words_at_birth nodes text n) i)

both_write : (words : WordsValue) (ps qs : List Piece) (ts us : List Target) → AllWrite words ps ts → AllWrite words qs us → AllWrite words (ps ++ qs) (ts ++ us)
both_write words [] qs [] us w x = x
both_write words [] qs (t ∷ ts) us w x = absurd w
both_write words (p ∷ ps) qs [] us w x = absurd w
both_write words (p ∷ ps) qs (t ∷ ts) us w x = (w.0, both_write words ps qs ts us w.1 x)

texts_write : (words : WordsValue) (ts cs : List TextAt) → AllByRecursion (λ (t : TextAt). t.frame < words.frames) ts → AllWrite words (texts_copied [] ts cs) (text_targets words ts cs)
texts_write words [] cs low = tt
texts_write words (t ∷ ts) [] low = tt
texts_write words (t ∷ ts) (c ∷ cs) low = ((refl, refl, low.0, λ i lt. refl), texts_write words ts cs low.1)

nodes_write : (words : WordsValue) (nodes : List NewNode) (text : List TextAt) (ns : List NewNode) → AllWrite words (map (table_filled nodes text) ns) (map (node_target nodes text) ns)
nodes_write words nodes text [] = tt
nodes_write words nodes text (n ∷ ns) = ((refl, λ i lt. refl), nodes_write words nodes text ns)

targets_are : (words : WordsValue) (ts cs : List TextAt) (nodes : List NewNode) (text : List TextAt) (ns : List NewNode) → length cs ≤ length ts → frames_of_targets (text_targets words ts cs ++ map (node_target nodes text) ns) ≡ frames_born cs ns
targets_are words [] [] nodes text ns le = of_nodes ns
  where
    of_nodes : (ns : List NewNode) → frames_of_targets (map (node_target nodes text) ns) ≡ map (λ (n : NewNode). n.node.frame) ns
    of_nodes [] = refl
    of_nodes (n ∷ ns) = ap (λ (fs : List ℕ). n.node.frame ∷ fs) (of_nodes ns)
targets_are words [] (c ∷ cs) nodes text ns le = absurd (omega arith)
targets_are words (t ∷ ts) [] nodes text ns le = of_nodes ns
  where
    of_nodes : (ns : List NewNode) → frames_of_targets (map (node_target nodes text) ns) ≡ map (λ (n : NewNode). n.node.frame) ns
    of_nodes [] = refl
    of_nodes (n ∷ ns) = ap (λ (fs : List ℕ). n.node.frame ∷ fs) (of_nodes ns)
targets_are words (t ∷ ts) (c ∷ cs) nodes text ns le = ap (λ (fs : List ℕ). c.frame ∷ fs) (targets_are words ts cs nodes text ns (omega arith))

pub of_targets : (P : ℕ → Type 0) (ts : List Target) → AllByRecursion P (frames_of_targets ts) → AllByRecursion (λ (t : Target). P t.0) ts
of_targets P [] all = tt
of_targets P (t ∷ ts) all = (all.0, of_targets P ts all.1)

no_text_source : (f : ℕ) (ts cs : List TextAt) → AllByRecursion (λ (t : TextAt). t.frame ≢ f) ts → AllByRecursion (IsNoSource f) (texts_copied [] ts cs)
no_text_source f [] cs all = tt
no_text_source f (t ∷ ts) [] all = tt
no_text_source f (t ∷ ts) (c ∷ cs) all = (all.0, no_text_source f ts cs all.1)

no_node_source : (f : ℕ) (nodes : List NewNode) (text : List TextAt) (ns : List NewNode) → AllByRecursion (IsNoSource f) (map (table_filled nodes text) ns)
no_node_source f nodes text [] = tt
no_node_source f nodes text (n ∷ ns) = (tt, no_node_source f nodes text ns)

front_each : (P : Target → Type 0) (ts us : List Target) → AllByRecursion P (ts ++ us) → AllByRecursion P ts
front_each P [] us all = tt
front_each P (t ∷ ts) us all = (all.0, front_each P ts us all.1)

back_each : (P : Target → Type 0) (ts us : List Target) → AllByRecursion P (ts ++ us) → AllByRecursion P us
back_each P [] us all = all
back_each P (t ∷ ts) us all = back_each P ts us all.1

nodes_each : (words : WordsValue) (nodes : List NewNode) (text : List TextAt) (ns : List NewNode) → AllByRecursion (HasTarget words) (map (node_target nodes text) ns) → AllByRecursion (λ (n : NewNode). HasTarget words (node_target nodes text n)) ns
nodes_each words nodes text [] all = tt
nodes_each words nodes text (n ∷ ns) all = (all.0, nodes_each words nodes text ns all.1)

-- the text of the parent lies in its homes
pub olds_homes : (words : WordsValue) (r : Records) (homes : Homes) (s : FlatState) (parent : ℕ) → StandsInOrder words r homes s → MayBeBorn s parent → AllByRecursion (λ (t : TextAt). home_frame homes (TextOf parent t.page) ≡ Some t.frame) (parent_text r parent)
olds_homes words r homes s parent o may =
    let p : IsParent words r homes s parent = parent_of words r homes s o parent may.live in
    let is : IsGen p.gen.text p.gen.reach = all_get (λ gen. IsGen gen.text gen.reach) s.gens parent p.gen p.at o.tidy.gens in
    let up : IsRising (map text_page p.view.text) = subst IsRising (sym p.kept.pages) is.rising in
    let own : AllByRecursion (λ (t : TextAt). found_by text_page p.view.text t.page ≡ Some t) p.view.text = found_own text_page p.view.text up in
    rw p.there (all_more (λ (t : TextAt). found_by text_page p.view.text t.page ≡ Some t) (λ (t : TextAt). home_frame homes (TextOf parent t.page) ≡ Some t.frame)
    (λ t e. (sym (o.stands.at_home (TextOf parent t.page)) ∙ rw (p.there, e) refl)) p.view.text own)

module _ (words new : WordsValue) (r q : Records) (homes : Homes) (s : FlatState) (parent : ℕ) (o : StandsInOrder words r homes s) (may : MayBeBorn s parent)
    (done : ArePerformed words (with_changes r (birth_changes r parent)) (birth_pieces r parent) new q) where
  abbrev st : StandsFor words r homes s
  st = o.stands

  abbrev texts : List TextAt
  texts = text_at_birth r parent

  abbrev nodes : List NewNode
  nodes = nodes_at_birth r parent

  abbrev olds : List TextAt
  olds = parent_text r parent

  abbrev made : Records
  made = after_r words r homes s parent o may

  abbrev targets : List Target
  targets = text_targets words olds texts ++ map (node_target nodes texts) nodes

  pub olds_home : AllByRecursion (λ (t : TextAt). home_frame homes (TextOf parent t.page) ≡ Some t.frame) olds
  olds_home = olds_homes words r homes s parent o may

  same_frames : words.frames ≡ s.limits.frames
  same_frames = st.sizes.of_words

  olds_low : AllByRecursion (λ (t : TextAt). t.frame < words.frames) olds
  olds_low = all_more (λ (t : TextAt). home_frame homes (TextOf parent t.page) ≡ Some t.frame) (λ (t : TextAt). t.frame < words.frames) (λ t e. (let lt : t.frame < s.limits.frames = home_low homes s (TextOf parent t.page) t.frame st.housed.separate e in omega arith)) olds olds_home

  few : length texts ≤ length olds
  few =
      let le : length texts ≤ length (text_numbers_of r parent) = placed_few (text_numbers_of r parent) (free_in r) in
      let n : length (text_numbers_of r parent) ≡ length olds = length-map olds text_page in
      omega arith

  frames_are : frames_of_targets targets ≡ frames_born texts nodes
  frames_are = targets_are words olds texts nodes texts nodes few

  pub targets_spare : AllByRecursion (λ (t : Target). IsSpareFrame homes s t.0) targets
  targets_spare = of_targets (IsSpareFrame homes s) targets (subst (AllByRecursion (IsSpareFrame homes s)) (sym frames_are) (frames_spare words r homes s parent o may))

  no_sources : NoSources (birth_pieces r parent) targets
  no_sources = all_more (λ (t : Target). IsSpareFrame homes s t.0) (λ (t : Target). AllByRecursion (IsNoSource t.0) (birth_pieces r parent)) (λ t spare.
      all_both (IsNoSource t.0) (texts_copied [] olds texts) (map (table_filled nodes texts) nodes)
      (no_text_source t.0 olds texts (all_more (λ (x : TextAt). home_frame homes (TextOf parent x.page) ≡ Some x.frame) (λ (x : TextAt). x.frame ≢ t.0) (λ x e same. none_lies homes s t.0 spare (TextOf parent x.page) (e ∙ ap (λ (k : ℕ). Some k) same)) olds olds_home))
      (no_node_source t.0 nodes texts nodes)) targets targets_spare

  pub written : AreWritten words new made q targets
  written = all_written (birth_pieces r parent) targets words new made q
      (both_write words (texts_copied [] olds texts) (map (table_filled nodes texts) nodes) (text_targets words olds texts) (map (node_target nodes texts) nodes) (texts_write words olds texts olds_low) (nodes_write words nodes texts nodes))
      (subst (IsDistinct nat_eq) (sym frames_are) (frames_apart words r homes s parent o may))
      (all_more (λ (t : Target). IsSpareFrame homes s t.0) (λ (t : Target). t.0 < words.frames) (λ t spare. (let lt : t.0 < s.limits.frames = spare.low in omega arith)) targets targets_spare)
      no_sources
      (subst (λ (m : Records). ArePerformed words m (birth_pieces r parent) new q) (all_changed texts nodes (view_at_birth r parent) r) done)

  -- what is not in the frames of what is born stays
  pub home_stays : (t : Tenant) (f i : ℕ) → home_frame homes t ≡ Some f → i < 512 → word_of_frame new f i ≡ word_of_frame words f i
  home_stays t f i e lt =
      let low : f < s.limits.frames = home_low homes s t f st.housed.separate e in
      ap (λ (n : ℕ). slice_index new.items (word_place n f i)) written.frames
      ∙ written.others (word_place words.frames f i) (place_low words.frames f i (omega arith) lt)
      (all_more (λ (u : Target). IsSpareFrame homes s u.0) (λ (u : Target). IsOutside words.frames u.0 (word_place words.frames f i)) (λ u spare. outside_frame words.frames u.0 f i lt (λ same. none_lies homes s u.0 spare t (e ∙ ap (λ (k : ℕ). Some k) same))) targets targets_spare)

  pub fields_stay : (f : ℕ) → f < s.limits.frames → fields_at new f ≡ fields_at words f
  fields_stay f lt =
      let low : f < words.frames = omega arith in
      ap (λ (w : ℕ). fields_of w)
      (written.others (frame_word_place f) (omega arith) (all_more (λ (u : Target). IsSpareFrame homes s u.0) (λ (u : Target). IsOutside words.frames u.0 (frame_word_place f)) (λ u spare i li e. place_past words.frames f u.0 i low e) targets targets_spare))

  pub zero_stays : slice_index new.items 0 ≡ slice_index words.items 0
  zero_stays = written.others 0 (omega arith) (all_more (λ (u : Target). IsSpareFrame homes s u.0) (λ (u : Target). IsOutside words.frames u.0 0) (λ u spare i li e. absurd (omega arith)) targets targets_spare)

  pub texts_have : AllByRecursion (HasTarget new) (text_targets words olds texts)
  texts_have = front_each (HasTarget new) (text_targets words olds texts) (map (node_target nodes texts) nodes) written.each

  pub nodes_have : AllByRecursion (λ (n : NewNode). HasTarget new (node_target nodes texts n)) nodes
  nodes_have = nodes_each new nodes texts nodes (back_each (HasTarget new) (text_targets words olds texts) (map (node_target nodes texts) nodes) written.each)
