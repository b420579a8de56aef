-- The words after the pieces of a mapping.
use Rattle.std.proofs.Common.{◌≡◌, ◌≢◌, ◌⊎◌, ◌<◌, ◌+◌, ◌/◌, ◌%◌, ◌++◌, ℕ, zero, suc, List, [], ◌∷◌, true, false, Option, Some, None, length, map, refl, sym, ap, subst, ◌∙◌, inl, inr, arith, append_assoc, length-set}
use Rattle.std.specs.Prelude.{IsSomeAnd, replicate, slice_get, slice_index, slice_set}
use Rattle.std.specs.List.{AllByRecursion, flat_map, fold}
use Rattle.wf_frames.specs.Layout.{WordsValue, frame_word_place, word_count, word_place}
use Rattle.wf_sv39.specs.Entries.{pte_node}
use Rattle.wf_views.specs.declared.pages.PageAt.{PageAt}
use Rattle.wf_views.specs.declared.plan.Piece.{Piece}
use Rattle.wf_views.specs.declared.plan.Piece.TheVariants.{Fill}
use Rattle.wf_views.specs.declared.records.Records.{Records}
use Rattle.wf_outside.specs.Pages.{LimitsValue}
use Rattle.wf_flat.specs.State.{FlatState}
use Rattle.wf_homes.specs.Homes.{Homes, NodeOf, Tenant, home_frame}
use Rattle.wf_homes.specs.Kept.{word_of_frame}
use Rattle.wf_homes.specs.Stands.{StandsFor}
use Rattle.wf_homes.proofs.ListLemmas.{all_any, all_both, all_lists, all_map, all_more, one_or_two, true_or_false}
use Rattle.wf_homes.proofs.PlaceLemmas.{place_low, place_past, place_tells, stored_other, stored_same}
use Rattle.wf_space.specs.Changes.{with_changes}
use Rattle.wf_space.specs.Pieces.{ArePerformed, IsOutside}
use Rattle.wf_mapping.specs.Blanks.{blank, zeros}
use Rattle.wf_mapping.specs.declared.layout.Mapping.{Mapping}
use Rattle.wf_mapping.specs.declared.nodes.NewNode.{NewNode}
use Rattle.wf_mapping.specs.Layout.{new_nodes, new_pages}
use Rattle.wf_mapping.specs.Plans.{is_below, map_changes, map_pieces, node_above, node_filled, page_filled, page_live, pointer_in, pointer_stored, with_pointer, words_of_node}
use Rattle.wf_mapped.proofs.AnyLemmas.{AnyIs, any_left, any_lists, any_right}
use Rattle.wf_mapped.proofs.PieceLemmas.{Agrees, IsFill, IsStore, KeepsPlace, Puts, live_word, pieces_at, pieces_keep}

-- a page of zeros
pub copies_at : (n k : ℕ) → slice_index (replicate n 0) k ≡ 0
copies_at zero k = refl
copies_at (suc n) zero = refl
copies_at (suc n) (suc k) = copies_at n k

pub zero_at : (n k : ℕ) → slice_index (zeros n) k ≡ 0
unfolding zeros
zero_at n k = copies_at n k

pub blank_length : length blank ≡ 512
unfolding zeros
blank_length = refl

-- the words of a new node
pointer_length : (above n : NewNode) (ws : List ℕ) → length (with_pointer above ws n) ≡ length ws
pointer_length above n ws = elim (true_or_false (is_below above n)) [
  | inl t ↦ (rw t (length-set ws (n.node.prefix % 512) (pte_node n.node.frame)))
  | inr t ↦ (rw t refl)
]

pub node_length : (ns : List NewNode) (above : NewNode) (ws : List ℕ) → length (fold (with_pointer above) ws ns) ≡ length ws
node_length [] above ws = refl
node_length (n ∷ ns) above ws = node_length ns above (with_pointer above ws n) ∙ pointer_length above n ws

-- a node that is below, and has its pointer at this place
pub record IsPointedAt (above : NewNode) (i : ℕ) (n : NewNode) : Type 0 where
  pub below : is_below above n ≡ true
  pub place : n.node.prefix % 512 ≡ i

pointer_at : (above n : NewNode) (ws : List ℕ) (i v : ℕ) → i < length ws → (IsPointedAt above i n → pte_node n.node.frame ≡ v) → (slice_index ws i ≡ v) ⊎ IsPointedAt above i n → slice_index (with_pointer above ws n) i ≡ v
pointer_at above n ws i v lt each now = elim (true_or_false (is_below above n)) [
  | inl t ↦ (elim (one_or_two i (n.node.prefix % 512)) [
    | inl same ↦ (
        let value : pte_node n.node.frame ≡ v = each (record { below = t; place = sym same }) in
        rw t (subst (λ (k : ℕ). slice_index (slice_set ws k (pte_node n.node.frame)) i ≡ v) same (stored_same ws i (pte_node n.node.frame) lt ∙ value))
        )
    | inr apart ↦ (rw t (stored_other ws (n.node.prefix % 512) i (pte_node n.node.frame) apart ∙ (elim now [
      | inl is ↦ is
      | inr is ↦ absurd (apart (sym is.place))
    ])))
  ])
  | inr t ↦ (rw t (elim now [
    | inl is ↦ is
    | inr is ↦ absurd (let k : true ≡ false = sym is.below ∙ t in cc)
  ]))
]

pub node_at : (ns : List NewNode) (above : NewNode) (ws : List ℕ) (i v : ℕ) → i < length ws → AllByRecursion (λ n. IsPointedAt above i n → pte_node n.node.frame ≡ v) ns → (slice_index ws i ≡ v) ⊎ AnyIs (IsPointedAt above i) ns
    → slice_index (fold (with_pointer above) ws ns) i ≡ v
node_at [] above ws i v lt all (inl is) = is
node_at [] above ws i v lt all (inr any) = absurd any
node_at (n ∷ ns) above ws i v lt all now =
    let len : length (with_pointer above ws n) ≡ length ws = pointer_length above n ws in
    node_at ns above (with_pointer above ws n) i v (omega arith) all.1 (next now)
  where
    next : (slice_index ws i ≡ v) ⊎ (IsPointedAt above i n ⊎ AnyIs (IsPointedAt above i) ns) → (slice_index (with_pointer above ws n) i ≡ v) ⊎ AnyIs (IsPointedAt above i) ns
    next (inl is) = inl (pointer_at above n ws i v lt all.0 (inl is))
    next (inr (inl is)) = inl (pointer_at above n ws i v lt all.0 (inr is))
    next (inr (inr any)) = inr any

-- the node above another
abbrev pub above_of : NewNode → Tenant
above_of n = NodeOf n.generation (n.node.level + 1) (n.node.prefix / 512)

-- the node above another lies in a frame, and the pointer stands at this place
pub record IsPointerIn (homes : Homes) (fr i : ℕ) (n : NewNode) : Type 0 where
  pub above : home_frame homes (above_of n) ≡ Some fr
  pub place : n.node.prefix % 512 ≡ i

-- the words of a frame are none of the frame words, nor of other frames
outside_word : (frames fr f : ℕ) → fr < frames → IsOutside frames f (frame_word_place fr)
outside_word frames fr f lt i li e = place_past frames fr f i lt e

outside_other : (frames fr f i : ℕ) → i < 512 → f ≢ fr → IsOutside frames f (word_place frames fr i)
outside_other frames fr f i li apart k lk e = apart (sym (place_tells frames fr f i k li lk e).0)

module _ (words new : WordsValue) (r q : Records) (homes : Homes) (s : FlatState) (mapping : Mapping) (st : StandsFor words r homes s) (done : ArePerformed words (with_changes r (map_changes r mapping)) (map_pieces r mapping) new q)
    (whole : length new.items ≡ word_count new.frames) where
  abbrev pages : List PageAt
  pages = new_pages r mapping

  abbrev nodes : List NewNode
  nodes = new_nodes r mapping

  abbrev made : Records
  made = with_changes r (map_changes r mapping)

  abbrev fills : List Piece
  fills = map page_filled pages ++ map (node_filled nodes) nodes

  abbrev stores : List Piece
  stores = map page_live pages ++ flat_map (pointer_stored r) nodes

  parts_done : ArePerformed words made (fills ++ stores) new q
  parts_done = subst (λ (pieces : List Piece). ArePerformed words made pieces new q) (append_assoc fills (map page_live pages) (flat_map (pointer_stored r) nodes)) done

  are_fills : AllByRecursion IsFill fills
  are_fills = all_both IsFill (map page_filled pages) (map (node_filled nodes) nodes)
      (all_map (λ (p : PageAt). Unit {0}) IsFill page_filled (λ p h. tt) pages (all_any (λ (p : PageAt). Unit {0}) (λ p. tt) pages))
      (all_map (λ (n : NewNode). Unit {0}) IsFill (node_filled nodes) (λ n h. tt) nodes (all_any (λ (n : NewNode). Unit {0}) (λ n. tt) nodes))

  pointer_stores : (n : NewNode) (o : Option ℕ) → AllByRecursion IsStore (pointer_in r.limits.frames n o)
  pointer_stores n None = tt
  pointer_stores n (Some a) = (tt, tt)

  are_stores : AllByRecursion IsStore stores
  are_stores = all_both IsStore (map page_live pages) (flat_map (pointer_stored r) nodes)
      (all_map (λ (p : PageAt). Unit {0}) IsStore page_live (λ p h. tt) pages (all_any (λ (p : PageAt). Unit {0}) (λ p. tt) pages))
      (all_lists (pointer_stored r) IsStore nodes (all_any (λ (n : NewNode). AllByRecursion IsStore (pointer_stored r n)) (λ n. pointer_stores n (node_above r n)) nodes))

  pub keeps : KeepsPlace words new made q
  keeps = pieces_keep fills stores words new made q are_fills are_stores parts_done

  abbrev frames : ℕ
  frames = words.frames

  same_frames : r.limits.frames ≡ frames
  same_frames = ap (λ (l : LimitsValue). l.frames) st.sizes.of_records ∙ sym st.sizes.of_words

  whole_old : length new.items ≡ word_count frames
  whole_old = whole ∙ ap word_count keeps.frames

  -- pointers
  pointers_agree : (at v : ℕ) (n : NewNode) → ((a : ℕ) → home_frame homes (above_of n) ≡ Some a → (at ≢ word_place frames a (n.node.prefix % 512)) ⊎ ((at ≡ word_place frames a (n.node.prefix % 512)) × (pte_node n.node.frame ≡ v)))
      → AllByRecursion (Agrees made frames at v) (pointer_stored r n)
  pointers_agree at v n each = by_above (node_above r n) (sym (st.at_home (above_of n)))
    where
      by_above : (o : Option ℕ) → home_frame homes (above_of n) ≡ o → AllByRecursion (Agrees made frames at v) (pointer_in r.limits.frames n o)
      by_above None e = tt
      by_above (Some a) e = subst (λ (k : ℕ). AllByRecursion (Agrees made frames at v) (pointer_in k n (Some a))) (sym same_frames) (each a e, tt)

  pointer_puts : (fr i v : ℕ) (n : NewNode) → IsPointerIn homes fr i n → pte_node n.node.frame ≡ v → AnyIs (Puts made frames (word_place frames fr i) v) (pointer_stored r n)
  pointer_puts fr i v n is value = by_above (node_above r n) (st.at_home (above_of n) ∙ is.above)
    where
      by_above : (o : Option ℕ) → o ≡ Some fr → AnyIs (Puts made frames (word_place frames fr i) v) (pointer_in r.limits.frames n o)
      by_above None e = absurd cc
      by_above (Some a) e =
          let same : a ≡ fr = cc in
          subst (λ (k : ℕ). AnyIs (Puts made frames (word_place frames fr i) v) (pointer_in k n (Some a))) (sym same_frames)
          (inl (ap (λ (k : ℕ). word_place frames fr k) (sym is.place) ∙ ap (λ (k : ℕ). word_place frames k (n.node.prefix % 512)) (sym same), value))

  -- a frame word
  abbrev IsLiveAs : ℕ → ℕ → Type 0
  IsLiveAs fr v = IsSomeAnd (slice_get made.frames.frames fr) (λ f. live_word f.incarnation ≡ v)

  pub frame_word_at : (fr v : ℕ) → fr < frames → AllByRecursion (λ (p : PageAt). p.frame ≡ fr → IsLiveAs fr v) pages → (slice_index words.items (frame_word_place fr) ≡ v) ⊎ AnyIs (λ (p : PageAt). p.frame ≡ fr) pages
      → slice_index new.items (frame_word_place fr) ≡ v
  frame_word_at fr v lt each now =
      pieces_at fills stores words new made q (frame_word_place fr) v are_fills are_stores parts_done whole_old (omega arith)
      (all_both (Agrees made frames (frame_word_place fr) v) (map page_filled pages) (map (node_filled nodes) nodes)
      (all_map (λ (p : PageAt). Unit {0}) (Agrees made frames (frame_word_place fr) v) page_filled (λ p h. inl (outside_word frames fr p.frame lt)) pages (all_any (λ (p : PageAt). Unit {0}) (λ p. tt) pages))
      (all_map (λ (n : NewNode). Unit {0}) (Agrees made frames (frame_word_place fr) v) (node_filled nodes) (λ n h. inl (outside_word frames fr n.node.frame lt)) nodes (all_any (λ (n : NewNode). Unit {0}) (λ n. tt) nodes)))
      (all_both (Agrees made frames (frame_word_place fr) v) (map page_live pages) (flat_map (pointer_stored r) nodes)
      (all_map (λ (p : PageAt). p.frame ≡ fr → IsLiveAs fr v) (Agrees made frames (frame_word_place fr) v) page_live live pages each)
      (all_lists (pointer_stored r) (Agrees made frames (frame_word_place fr) v) nodes (all_any (λ (n : NewNode). AllByRecursion (Agrees made frames (frame_word_place fr) v) (pointer_stored r n)) (λ n. pointers_agree (frame_word_place fr) v n (λ a e. inl (place_past frames fr a (n.node.prefix % 512) lt))) nodes)))
      (puts now)
    where
      live : (p : PageAt) → (p.frame ≡ fr → IsLiveAs fr v) → Agrees made frames (frame_word_place fr) v (page_live p)
      live p h = elim (one_or_two p.frame fr) [
        | inl same ↦ inr (ap frame_word_place (sym same), subst (λ (k : ℕ). IsLiveAs k v) (sym same) (h same))
        | inr apart ↦ inl (λ e. apart (omega arith))
      ]

      all_live : (ps : List PageAt) → AllByRecursion (λ (p : PageAt). p.frame ≡ fr → IsLiveAs fr v) ps → AnyIs (λ (p : PageAt). p.frame ≡ fr) ps → AnyIs (Puts made frames (frame_word_place fr) v) (map page_live ps)
      all_live [] all any = absurd any
      all_live (p ∷ ps) all (inl same) = inl (ap frame_word_place (sym same), subst (λ (k : ℕ). IsLiveAs k v) (sym same) (all.0 same))
      all_live (p ∷ ps) all (inr any) = inr (all_live ps all.1 any)

      puts : (slice_index words.items (frame_word_place fr) ≡ v) ⊎ AnyIs (λ (p : PageAt). p.frame ≡ fr) pages
          → (slice_index words.items (frame_word_place fr) ≡ v) ⊎ (AnyIs (Puts made frames (frame_word_place fr) v) fills ⊎ AnyIs (Puts made frames (frame_word_place fr) v) stores)
      puts (inl is) = inl is
      puts (inr any) = inr (inr (any_left (Puts made frames (frame_word_place fr) v) (map page_live pages) (flat_map (pointer_stored r) nodes) (all_live pages each any)))

  -- word 0
  pub zero_stays : slice_index new.items 0 ≡ slice_index words.items 0
  zero_stays =
      pieces_at fills stores words new made q 0 (slice_index words.items 0) are_fills are_stores parts_done whole_old (omega arith)
      (all_both (Agrees made frames 0 (slice_index words.items 0)) (map page_filled pages) (map (node_filled nodes) nodes)
      (all_map (λ (p : PageAt). Unit {0}) (Agrees made frames 0 (slice_index words.items 0)) page_filled (λ p h. inl (λ i li e. absurd (omega arith))) pages (all_any (λ (p : PageAt). Unit {0}) (λ p. tt) pages))
      (all_map (λ (n : NewNode). Unit {0}) (Agrees made frames 0 (slice_index words.items 0)) (node_filled nodes) (λ n h. inl (λ i li e. absurd (omega arith))) nodes (all_any (λ (n : NewNode). Unit {0}) (λ n. tt) nodes)))
      (all_both (Agrees made frames 0 (slice_index words.items 0)) (map page_live pages) (flat_map (pointer_stored r) nodes)
      (all_map (λ (p : PageAt). Unit {0}) (Agrees made frames 0 (slice_index words.items 0)) page_live (λ p h. inl (λ e. absurd (omega arith))) pages (all_any (λ (p : PageAt). Unit {0}) (λ p. tt) pages))
      (all_lists (pointer_stored r) (Agrees made frames 0 (slice_index words.items 0)) nodes (all_any (λ (n : NewNode). AllByRecursion (Agrees made frames 0 (slice_index words.items 0)) (pointer_stored r n)) (λ n. pointers_agree 0 (slice_index words.items 0) n (λ a e. inl (λ k. absurd (omega arith)))) nodes)))
      (inl refl)

  -- a word of a frame
  pub word_at : (fr i v : ℕ) → fr < frames → i < 512 → AllByRecursion (λ (p : PageAt). p.frame < frames) pages → AllByRecursion (λ (p : PageAt). p.frame ≡ fr → 0 ≡ v) pages → AllByRecursion (λ (n : NewNode). n.node.frame ≡ fr → slice_index (words_of_node nodes n) i ≡ v) nodes
      → AllByRecursion (λ (n : NewNode). IsPointerIn homes fr i n → pte_node n.node.frame ≡ v) nodes
      → (word_of_frame words fr i ≡ v) ⊎ (AnyIs (λ (p : PageAt). p.frame ≡ fr) pages ⊎ (AnyIs (λ (n : NewNode). n.node.frame ≡ fr) nodes ⊎ AnyIs (IsPointerIn homes fr i) nodes))
      → word_of_frame new fr i ≡ v
  word_at fr i v lt li low of_pages of_nodes of_pointers now =
      ap (λ (k : ℕ). slice_index new.items (word_place k fr i)) keeps.frames
      ∙ pieces_at fills stores words new made q (word_place frames fr i) v are_fills are_stores parts_done whole_old (place_low frames fr i lt li)
      (all_both (Agrees made frames (word_place frames fr i) v) (map page_filled pages) (map (node_filled nodes) nodes)
      (all_map (λ (p : PageAt). p.frame ≡ fr → 0 ≡ v) (Agrees made frames (word_place frames fr i) v) page_filled (λ p h. fill p.frame blank (λ same. zero_at 512 i ∙ h same)) pages of_pages)
      (all_map (λ (n : NewNode). n.node.frame ≡ fr → slice_index (words_of_node nodes n) i ≡ v) (Agrees made frames (word_place frames fr i) v) (node_filled nodes) (λ n h. fill n.node.frame (words_of_node nodes n) h) nodes of_nodes))
      (all_both (Agrees made frames (word_place frames fr i) v) (map page_live pages) (flat_map (pointer_stored r) nodes)
      (all_map (λ (p : PageAt). p.frame < frames) (Agrees made frames (word_place frames fr i) v) page_live (λ p h. inl (λ e. place_past frames p.frame fr i h (sym e))) pages low)
      (all_lists (pointer_stored r) (Agrees made frames (word_place frames fr i) v) nodes (all_more (λ (n : NewNode). IsPointerIn homes fr i n → pte_node n.node.frame ≡ v) (λ (n : NewNode). AllByRecursion (Agrees made frames (word_place frames fr i) v) (pointer_stored r n)) (λ n h. pointers_agree (word_place frames fr i) v n (pointer n h)) nodes of_pointers)))
      (puts now)
    where
      fill : (f : ℕ) (page : List ℕ) → (f ≡ fr → slice_index page i ≡ v) → Agrees made frames (word_place frames fr i) v (Fill f page)
      fill f page h = elim (one_or_two f fr) [
        | inl same ↦ inr (record { i = i; low = li; place = ap (λ (k : ℕ). word_place frames k i) (sym same); value = h same })
        | inr apart ↦ inl (outside_other frames fr f i li apart)
      ]

      pointer : (n : NewNode) → (IsPointerIn homes fr i n → pte_node n.node.frame ≡ v) → (a : ℕ) → home_frame homes (above_of n) ≡ Some a
          → (word_place frames fr i ≢ word_place frames a (n.node.prefix % 512)) ⊎ ((word_place frames fr i ≡ word_place frames a (n.node.prefix % 512)) × (pte_node n.node.frame ≡ v))
      pointer n h a e = elim (one_or_two (word_place frames fr i) (word_place frames a (n.node.prefix % 512))) [
        | inl same ↦ (
            let lk : n.node.prefix % 512 < 512 = omega arith in
            let two = place_tells frames fr a i (n.node.prefix % 512) li lk same in
            inr (same, h (record { above = e ∙ ap (λ (k : ℕ). Some k) (sym two.0); place = sym two.1 }))
            )
        | inr apart ↦ inl apart
      ]

      page_puts : (ps : List PageAt) → AllByRecursion (λ (p : PageAt). p.frame ≡ fr → 0 ≡ v) ps → AnyIs (λ (p : PageAt). p.frame ≡ fr) ps → AnyIs (Puts made frames (word_place frames fr i) v) (map page_filled ps)
      page_puts [] all any = absurd any
      page_puts (p ∷ ps) all (inl same) = inl (record { i = i; low = li; place = ap (λ (k : ℕ). word_place frames k i) (sym same); value = zero_at 512 i ∙ all.0 same })
      page_puts (p ∷ ps) all (inr any) = inr (page_puts ps all.1 any)

      node_puts : (ns : List NewNode) → AllByRecursion (λ (n : NewNode). n.node.frame ≡ fr → slice_index (words_of_node nodes n) i ≡ v) ns → AnyIs (λ (n : NewNode). n.node.frame ≡ fr) ns → AnyIs (Puts made frames (word_place frames fr i) v) (map (node_filled nodes) ns)
      node_puts [] all any = absurd any
      node_puts (n ∷ ns) all (inl same) = inl (record { i = i; low = li; place = ap (λ (k : ℕ). word_place frames k i) (sym same); value = all.0 same })
      node_puts (n ∷ ns) all (inr any) = inr (node_puts ns all.1 any)

      all_pointers : (ns : List NewNode) → AllByRecursion (λ (n : NewNode). IsPointerIn homes fr i n → pte_node n.node.frame ≡ v) ns → AnyIs (IsPointerIn homes fr i) ns → AnyIs (λ (n : NewNode). AnyIs (Puts made frames (word_place frames fr i) v) (pointer_stored r n)) ns
      all_pointers [] all any = absurd any
      all_pointers (n ∷ ns) all (inl is) = inl (pointer_puts fr i v n is (all.0 is))
      all_pointers (n ∷ ns) all (inr any) = inr (all_pointers ns all.1 any)

      puts : (word_of_frame words fr i ≡ v) ⊎ (AnyIs (λ (p : PageAt). p.frame ≡ fr) pages ⊎ (AnyIs (λ (n : NewNode). n.node.frame ≡ fr) nodes ⊎ AnyIs (IsPointerIn homes fr i) nodes))
          → (word_of_frame words fr i ≡ v) ⊎ (AnyIs (Puts made frames (word_place frames fr i) v) fills ⊎ AnyIs (Puts made frames (word_place frames fr i) v) stores)
      puts (inl is) = inl is
      puts (inr (inl any)) = inr (inl (any_left (Puts made frames (word_place frames fr i) v) (map page_filled pages) (map (node_filled nodes) nodes) (page_puts pages of_pages any)))
      puts (inr (inr (inl any))) = inr (inl (any_right (Puts made frames (word_place frames fr i) v) (map page_filled pages) (map (node_filled nodes) nodes) (node_puts nodes of_nodes any)))
      puts (inr (inr (inr any))) = inr (inr (any_right (Puts made frames (word_place frames fr i) v) (map page_live pages) (flat_map (pointer_stored r) nodes) (any_lists (Puts made frames (word_place frames fr i) v) (pointer_stored r) nodes (all_pointers nodes of_pointers any))))
