-- A birth that may be can be carried out.
use Rattle.std.proofs.Common.{◌≡◌, ◌≢◌, ◌<◌, ◌≤◌, ◌+◌, ◌-◌, ◌++◌, ℕ, List, [], ◌∷◌, Bool, true, false, Option, Some, None, length, map, refl, sym, ap, subst, ◌∙◌, inl, inr, arith, nat_eq, is_some, length-set, if◌then◌else◌}
use Rattle.std.specs.Prelude.{IsSomeAnd, max, nat_lt, slice_get}
use Rattle.std.specs.Option.{option_map}
use Rattle.std.specs.List.{AllByRecursion, IsDistinct, fold}
use Rattle.std.proofs.lemmas.Bool.Decides.{nat_tests}
use Rattle.std.proofs.lemmas.Option.{slice_get_within}
use Rattle.wf_outside.specs.declared.refusal.Refusal.{Refusal}
use Rattle.wf_outside.specs.declared.refusal.Refusal.TheVariants.{NoFrames, NoView}
use Rattle.wf_outside.specs.Lists.{IsRising, first_of}
use Rattle.wf_frames.specs.declared.state.Frame.{Frame}
use Rattle.wf_frames.specs.declared.state.FrameState.TheVariants.{Free}
use Rattle.wf_frames.specs.Frames.{HasState, changed_at, taken}
use Rattle.wf_frames.specs.Layout.{WordsValue, word_count}
use Rattle.wf_views.specs.declared.plan.Change.{Change}
use Rattle.wf_views.specs.declared.plan.Change.TheVariants.{Born, Mark}
use Rattle.wf_views.specs.declared.plan.Piece.{Piece}
use Rattle.wf_views.specs.declared.plan.Piece.TheVariants.{Fill, Copy, Live, Pte, Leave}
use Rattle.wf_views.specs.declared.plan.Plan.{Plan}
use Rattle.wf_views.specs.declared.records.Records.{Records}
use Rattle.wf_views.specs.declared.view.TextAt.{TextAt}
use Rattle.wf_views.specs.Pages.{page_number}
use Rattle.wf_views.specs.Views.{IsAbove, generation_number, view_of}
use Rattle.wf_flat.specs.Counts.{used_of}
use Rattle.wf_flat.specs.State.{FlatState}
use Rattle.wf_effects.specs.Generations.{is_live}
use Rattle.wf_homes.specs.Homes.{Homes, TextOf, free_frames, home_frame}
use Rattle.wf_homes.specs.Kept.{state_of, word_of_frame}
use Rattle.wf_homes.specs.Laws.{AreCounted}
use Rattle.wf_homes.specs.Stands.{StandsFor}
use Rattle.wf_homes.proofs.CountLemmas.{tenants_counted}
use Rattle.wf_homes.proofs.HomeLemmas.{free_counted}
use Rattle.wf_homes.proofs.ListLemmas.{all_both, all_map, all_more, true_or_false}
use Rattle.wf_homes.proofs.PlaceLemmas.{home_low}
use Rattle.wf_space.specs.Changes.{MayNote, with_change, with_changes}
use Rattle.wf_space.specs.Pieces.{ArePerformed, MayPerformAll, Performs}
use Rattle.wf_mapping.specs.declared.nodes.NewNode.{NewNode}
use Rattle.wf_mapping.specs.Layout.{free_in}
use Rattle.wf_mapping.specs.Plans.{node_marked, words_of_node}
use Rattle.wf_mapping.proofs.FreeLemmas.{free_agree}
use Rattle.wf_creating.specs.Laws.{StandsInOrder, born_of_parent}
use Rattle.wf_creating.specs.Layout.{need_at_birth, nodes_at_birth, number_at_birth, text_at_birth, view_at_birth}
use Rattle.wf_creating.specs.Parents.{parent_text}
use Rattle.wf_creating.specs.Plans.{birth_changes, birth_pieces, has_leaf, table_filled, text_marked, texts_copied, with_private_leaf, words_at_birth}
use Rattle.wf_creating.specs.Refusals.{no_frames_at_birth, no_view_in, views_in}
use Rattle.wf_creating.proofs.LaidLemmas.{need_born}
use Rattle.wf_creating.proofs.ParentLemmas.{IsParent, parent_of, view_there}
use Rattle.wf_creating.proofs.TableLemmas.{node_whole}
use Rattle.wf_created.specs.Created.{BirthRoomIsMade, BirthsCanBeCarriedOut, BirthsMayBe, HaveBirthRoom, IsBirthCarriedOut, IsCurrentBirth, MayBeBorn}
use Rattle.wf_created.proofs.HousedLemmas.{IsSpareFrame, frames_apart, frames_spare, nodes_spare, none_lies, number_is, texts_spare}
use Rattle.wf_created.proofs.PieceLemmas.{olds_homes}
use Rattle.wf_created.proofs.StandLemmas.{create_standing}
use Rattle.wf_created.proofs.TakenLemmas.{changed_get, frames_born, frames_used, taken_if}
use Rattle.wf_created.proofs.WriteLemmas.{IsWritten, one_written}

-- changes
abbrev mark : ℕ → Change
mark f = Mark f false

marks_are : (ts : List TextAt) (ns : List NewNode) (cs : List Change) → map text_marked ts ++ map node_marked ns ++ cs ≡ map mark (frames_born ts ns) ++ cs
marks_are [] ns cs = of_nodes ns
  where
    of_nodes : (ns : List NewNode) → map node_marked ns ++ cs ≡ map mark (map (λ (n : NewNode). n.node.frame) ns) ++ cs
    of_nodes [] = refl
    of_nodes (n ∷ ns) = ap (λ (xs : List Change). node_marked n ∷ xs) (of_nodes ns)
marks_are (t ∷ ts) ns cs = ap (λ (xs : List Change). text_marked t ∷ xs) (marks_are ts ns cs)

free_still : (f : ℕ) (frames : List Frame) (fs : List ℕ) → AllByRecursion (λ m. nat_eq f m ≡ false) fs → AllByRecursion (λ k. HasState frames k Free) fs → AllByRecursion (λ k. HasState (changed_at frames f taken) k Free) fs
free_still f frames [] apart all = tt
free_still f frames (k ∷ ks) apart all =
    let e : nat_eq k f ≡ false = (let a : nat_eq f k ≡ false = apart.0 in grind (arith, nat_tests)) in
    (subst (λ (o : Option Frame). IsSomeAnd o (λ x. x.state ≡ Free)) (sym (changed_get frames f k ∙ ap (λ (b : Bool). option_map (taken_if b) (slice_get frames k)) e)) (same (slice_get frames k) all.0), free_still f frames ks apart.1 all.1)
  where
    same : (o : Option Frame) → IsSomeAnd o (λ x. x.state ≡ Free) → IsSomeAnd (option_map (taken_if false) o) (λ x. x.state ≡ Free)
    same None h = h
    same (Some x) h = h

marks_may : (fs : List ℕ) (cs : List Change) (r : Records) → IsDistinct nat_eq fs → AllByRecursion (λ f. HasState r.frames.frames f Free) fs → MayNote (frames_used fs r) cs → MayNote r (map mark fs ++ cs)
unfolding IsDistinct
marks_may [] cs r d all may = may
marks_may (f ∷ fs) cs r d all may = (all.0, marks_may fs cs (with_change r (mark f)) d.1 (free_still f r.frames.frames fs d.0 all.1) may)

-- pieces
abbrev IsWriting : ℕ → Piece → Type 0
IsWriting frames (Fill frame page) = (frame < frames) × (length page ≡ 512)
IsWriting frames (Copy source frame page jumps) = (source < frames) × (frame < frames) × (source ≢ frame) × (jumps ≡ [])
IsWriting frames (Live frame) = ⊥
IsWriting frames (Pte at value) = ⊥
IsWriting frames (Leave page) = ⊥

writing_frames : (words next : WordsValue) (r q : Records) (piece : Piece) → IsWriting words.frames piece → Performs words r piece next q → next.frames ≡ words.frames
writing_frames words next r q (Fill frame page) is done = done.0.frames
writing_frames words next r q (Copy source frame page jumps) is done =
    let w : IsWritten words next r q (frame, λ i. word_of_frame words source i) = one_written words next r q (Copy source frame page jumps) (frame, λ i. word_of_frame words source i) (is.3, refl, is.0, λ i lt. refl) done in
    w.frames
writing_frames words next r q (Live frame) is done = absurd is
writing_frames words next r q (Pte at value) is done = absurd is
writing_frames words next r q (Leave page) is done = absurd is

writing_may : (pieces : List Piece) (words : WordsValue) (r : Records) → AllByRecursion (IsWriting words.frames) pieces → MayPerformAll words r pieces
writing_may [] words r all = tt
writing_may (Fill frame page ∷ pieces) words r all =
    ((all.0.0, all.0.1), λ next q done. writing_may pieces next q (subst (λ (n : ℕ). AllByRecursion (IsWriting n) pieces) (sym (writing_frames words next r q (Fill frame page) all.0 done)) all.1))
writing_may (Copy source frame page jumps ∷ pieces) words r all =
    ((all.0.0, all.0.1, all.0.2, rw all.0.3 tt), λ next q done. writing_may pieces next q (subst (λ (n : ℕ). AllByRecursion (IsWriting n) pieces) (sym (writing_frames words next r q (Copy source frame page jumps) all.0 done)) all.1))
writing_may (Live frame ∷ pieces) words r all = absurd all.0
writing_may (Pte at value ∷ pieces) words r all = absurd all.0
writing_may (Leave page ∷ pieces) words r all = absurd all.0

leaf_long : (n : NewNode) (t : TextAt) (ws : List ℕ) → length (with_private_leaf n ws t) ≡ length ws
leaf_long n t ws = elim (true_or_false (has_leaf n t)) [
  | inl u ↦ (rw u (length-set ws _ _))
  | inr u ↦ (rw u refl)
]

leaves_long : (n : NewNode) (ts : List TextAt) (ws : List ℕ) → length (fold (with_private_leaf n) ws ts) ≡ length ws
leaves_long n [] ws = refl
leaves_long n (t ∷ ts) ws = leaves_long n ts (with_private_leaf n ws t) ∙ leaf_long n t ws

words_long : (nodes : List NewNode) (text : List TextAt) (n : NewNode) → length (words_at_birth nodes text n) ≡ 512
words_long nodes text n = leaves_long n text (words_of_node nodes n) ∙ node_whole nodes n

copies_write : (frames : ℕ) (ts cs : List TextAt) → AllByRecursion (λ (t : TextAt). t.frame < frames) ts → AllByRecursion (λ (c : TextAt). (c.frame < frames) × AllByRecursion (λ (t : TextAt). t.frame ≢ c.frame) ts) cs → AllByRecursion (IsWriting frames) (texts_copied [] ts cs)
copies_write frames [] cs low all = tt
copies_write frames (t ∷ ts) [] low all = tt
copies_write frames (t ∷ ts) (c ∷ cs) low all = ((low.0, all.0.0, all.0.1.0, refl), copies_write frames ts cs low.1 (all_more (λ (c : TextAt). (c.frame < frames) × AllByRecursion (λ (t : TextAt). t.frame ≢ c.frame) (t ∷ ts)) (λ (c : TextAt). (c.frame < frames) × AllByRecursion (λ (t : TextAt). t.frame ≢ c.frame) ts) (λ c h. (h.0, h.1.1)) cs all.1))

module _ (words : WordsValue) (r : Records) (homes : Homes) (s : FlatState) (parent : ℕ) (o : StandsInOrder words r homes s) (may : MayBeBorn s parent) where
  abbrev st : StandsFor words r homes s
  st = o.stands

  abbrev texts : List TextAt
  texts = text_at_birth r parent

  abbrev nodes : List NewNode
  nodes = nodes_at_birth r parent

  abbrev olds : List TextAt
  olds = parent_text r parent

  frames_free : AllByRecursion (λ f. HasState r.frames.frames f Free) (frames_born texts nodes)
  frames_free = all_more (IsSpareFrame homes s) (λ f. HasState r.frames.frames f Free) (λ f spare. (
      let is : state_of homes f ≡ Free = rw (spare.home, spare.worn) refl in
      subst (HasState r.frames.frames f) is (st.frames f spare.low).state)) (frames_born texts nodes) (frames_spare words r homes s parent o may)

  some_born : 1 ≤ length s.gens
  some_born = (let p : IsParent words r homes s parent = parent_of words r homes s o parent may.live in let lt : parent < length s.gens = slice_get_within s.gens parent p.gen p.at in omega arith)

  above : IsAbove r.views.last (number_at_birth r)
  above =
      let n : number_at_birth r ≡ length s.gens = number_is words r homes s parent o may in
      let some : 1 ≤ length s.gens = some_born in
      let lt : length s.gens - 1 < number_at_birth r = omega arith in
      subst (λ (k : Option ℕ). IsAbove k (number_at_birth r)) (sym st.last) lt

  pub changes_may : HaveBirthRoom r → MayNote r (birth_changes r parent)
  changes_may room =
      let a : 1 ≤ r.views.room = room.views in
      let b : 1 ≤ r.born.room = room.born in
      subst (MayNote r) (sym (marks_are texts nodes (Born (view_at_birth r parent) ∷ [])))
      (marks_may (frames_born texts nodes) (Born (view_at_birth r parent) ∷ []) r (frames_apart words r homes s parent o may) frames_free ((above, omega arith, omega arith), tt))

  pub pieces_may : (m : Records) → MayPerformAll words m (birth_pieces r parent)
  pieces_may m =
      let same : words.frames ≡ s.limits.frames = st.sizes.of_words in
      let home : AllByRecursion (λ (t : TextAt). home_frame homes (TextOf parent t.page) ≡ Some t.frame) olds = olds_homes words r homes s parent o may in
      writing_may (birth_pieces r parent) words m (all_both (IsWriting words.frames) (texts_copied [] olds texts) (map (table_filled nodes texts) nodes)
      (copies_write words.frames olds texts
      (all_more (λ (t : TextAt). home_frame homes (TextOf parent t.page) ≡ Some t.frame) (λ (t : TextAt). t.frame < words.frames) (λ t e. (let lt : t.frame < s.limits.frames = home_low homes s (TextOf parent t.page) t.frame st.housed.separate e in omega arith)) olds home)
      (all_more (λ (c : TextAt). IsSpareFrame homes s c.frame) (λ (c : TextAt). (c.frame < words.frames) × AllByRecursion (λ (t : TextAt). t.frame ≢ c.frame) olds) (λ c spare. (
        (let lt : c.frame < s.limits.frames = spare.low in omega arith),
        all_more (λ (t : TextAt). home_frame homes (TextOf parent t.page) ≡ Some t.frame) (λ (t : TextAt). t.frame ≢ c.frame) (λ t e same. none_lies homes s c.frame spare (TextOf parent t.page) (e ∙ ap (λ (k : ℕ). Some k) same)) olds home,
      )) texts (texts_spare words r homes s parent o may)))
      (all_map (λ (n : NewNode). IsSpareFrame homes s n.node.frame) (IsWriting words.frames) (table_filled nodes texts) (λ n spare. ((let lt : n.node.frame < s.limits.frames = spare.low in omega arith), words_long nodes texts n)) nodes (nodes_spare words r homes s parent o may)))

pub can_carry : BirthsCanBeCarriedOut
can_carry words r homes s parent o may room = record { changes = changes_may words r homes s parent o may room; pieces = pieces_may words r homes s parent o may (with_changes r (birth_changes r parent)) }

pub room_made : BirthRoomIsMade
room_made r = record { views = right r.views.room; born = right r.born.room }
  where
    right : (a : ℕ) → 1 ≤ max a 1
    right a = grind (arith, nat_tests)

-- a birth that is refused for nothing
pub births_may : BirthsMayBe
births_may words r homes s parent o clear none =
    let a : no_view_in r parent ≡ None = first_none (no_view_in r parent) (views_in r) (no_frames_at_birth r parent) none in
    let live : is_live s parent ≡ true = sym (view_there words r homes s o parent) ∙ there (is_some (view_of r.views parent)) a in
    let b : no_frames_at_birth r parent ≡ None = last_none (no_view_in r parent) (views_in r) (no_frames_at_birth r parent) none in
    let le : need_at_birth r parent ≤ length (free_in r) = enough (need_at_birth r parent) (length (free_in r)) b in
    let counted : AreCounted s = tenants_counted s o.tidy in
    let c : length (free_frames s.limits.frames homes) + used_of s + s.worn ≡ s.limits.frames = free_counted homes s o.stands.housed counted in
    let d : used_of s + need_at_birth r parent ≡ used_of (born_of_parent s parent) = need_born words r homes s parent o live in
    let e : length (free_in r) ≡ length (free_frames s.limits.frames homes) = ap length (free_agree words r homes s o.stands) in
    record { open_to = clear; live = live; frames = omega arith }
  where
    first_none : (x y z : Option Refusal) → first_of (x ∷ y ∷ z ∷ []) ≡ None → x ≡ None
    first_none None y z e = refl
    first_none (Some k) y z e = absurd cc

    last_none : (x y z : Option Refusal) → first_of (x ∷ y ∷ z ∷ []) ≡ None → z ≡ None
    last_none None None None e = refl
    last_none None None (Some k) e = absurd cc
    last_none None (Some k) z e = absurd cc
    last_none (Some k) y z e = absurd cc

    there : (b : Bool) → (let k : Option Refusal = if b then None else Some (NoView parent) in k) ≡ None → b ≡ true
    there true e = refl
    there false e = absurd cc

    enough : (need free : ℕ) → (let k : Option Refusal = if nat_lt free need then Some (NoFrames need free) else None in k) ≡ None → need ≤ free
    enough need free e = elim (true_or_false (nat_lt free need)) [
      | inl t ↦ absurd (let k : Some (NoFrames need free) ≡ None = rw t at e in cc)
      | inr t ↦ (grind (arith, nat_tests))
    ]

-- the plan that is carried out
pub current_changes : (words : WordsValue) (r : Records) (plan : Plan) → IsCurrentBirth words r plan → IsRising (map generation_number r.views.views) → IsRising (map page_number r.pages.items) → MayNote r plan.changes.items
current_changes words r plan is up pages =
    let o : StandsInOrder words r is.homes is.state = record { stands = is.stands; tidy = is.tidy; views = up; pages = pages } in
    subst (MayNote r) (sym is.is_plan.changes) (changes_may words r is.homes is.state is.parent o is.may is.room)

pub current_pieces : (words : WordsValue) (r : Records) (plan : Plan) → IsCurrentBirth words r plan → IsRising (map generation_number r.views.views) → IsRising (map page_number r.pages.items) → MayPerformAll words (with_changes r plan.changes.items) plan.pieces.items
current_pieces words r plan is up pages =
    let o : StandsInOrder words r is.homes is.state = record { stands = is.stands; tidy = is.tidy; views = up; pages = pages } in
    subst (MayPerformAll words (with_changes r plan.changes.items)) (sym is.is_plan.pieces) (pieces_may words r is.homes is.state is.parent o is.may (with_changes r plan.changes.items))

pub birth_carried : (words new : WordsValue) (r q : Records) (plan : Plan) → IsRising (map generation_number r.views.views) → IsRising (map page_number r.pages.items) → ArePerformed words (with_changes r plan.changes.items) plan.pieces.items new q → length new.items ≡ word_count new.frames → IsBirthCarriedOut words r plan new q
birth_carried words new r q plan up pages done whole parent homes s st tidy may is =
    create_standing words new r q homes s parent (record { stands = st; tidy = tidy; views = up; pages = pages }) may
    (subst (λ (ps : List Piece). ArePerformed words (with_changes r (birth_changes r parent)) ps new q) is.pieces (subst (λ (cs : List Change). ArePerformed words (with_changes r cs) plan.pieces.items new q) is.changes done)) whole
