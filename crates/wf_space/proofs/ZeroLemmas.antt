-- Entries that are cleared one after another.
use Rattle.std.proofs.Common.{◌≡◌, ◌<◌, ◌%◌, ◌==◌, ◌++◌, ℕ, List, [], ◌∷◌, true, false, Option, Some, None, length, map, refl, sym, ap, subst, ◌∙◌, inl, inr, arith, append_assoc, length-set}
use Rattle.std.specs.Prelude.{slice_index, slice_set}
use Rattle.std.specs.List.{AllByRecursion, flat_map}
use Rattle.std.proofs.lemmas.Bool.Decides.{nat_tests}
use Rattle.wf_outside.specs.Lists.{IsRising}
use Rattle.wf_frames.specs.Layout.{WordsValue, frame_word_place, word_count, word_place}
use Rattle.wf_views.specs.declared.plan.Piece.{Piece}
use Rattle.wf_views.specs.declared.plan.Piece.TheVariants.{Pte}
use Rattle.wf_views.specs.declared.records.Records.{Records}
use Rattle.wf_views.specs.Lists.{found_by, has_number}
use Rattle.wf_views.specs.Views.{ViewValue, generation_number}
use Rattle.wf_homes.specs.Kept.{with_word}
use Rattle.wf_homes.proofs.ListLemmas.{all_more, map_all, one_or_two, true_or_false}
use Rattle.wf_homes.proofs.PlaceLemmas.{place_low, place_past, stored_other, stored_same}
use Rattle.wf_space.specs.Leaves.{leaf_place, node_for}
use Rattle.wf_space.specs.Leaving.{AreCleared, HasLeaf}
use Rattle.wf_space.specs.Pieces.{ArePerformed, MayPerformAll}
use Rattle.wf_space.specs.Unmapping.{leaf_cleared, leaves_cleared}

module _ {A : Type 0} (key : A → ℕ) where
  -- what holds of each holds of what is found
  pub found_in : (P : A → Type 0) (xs : List A) (n : ℕ) (x : A) → AllByRecursion P xs → found_by key xs n ≡ Some x → P x
  found_in P [] n x all e = absurd cc
  found_in P (y ∷ ys) n x all e = elim (true_or_false (key y == n)) [
    | inl t ↦ (let k : Some y ≡ Some x = (rw t at e) in let same : y ≡ x = cc in subst P same all.0)
    | inr t ↦ found_in P ys n x all.1 (rw t at e)
  ]

  -- where numbers rise, each element is found by its number
  pub each_found : (xs : List A) → IsRising (map key xs) → AllByRecursion (λ x. found_by key xs (key x) ≡ Some x) xs
  each_found [] up = tt
  each_found (x ∷ xs) up =
      let t : (key x == key x) ≡ true = grind (arith, nat_tests) in
      let later : AllByRecursion (λ y. key x < key y) xs = map_all (λ y. key x < key y) (λ m. key x < m) key (λ y lt. lt) xs up.0 in
      (rw t refl, both xs xs later (each_found xs up.1))
    where
      both : (all ys : List A) → AllByRecursion (λ y. key x < key y) ys → AllByRecursion (λ y. found_by key all (key y) ≡ Some y) ys → AllByRecursion (λ y. found_by key (x ∷ all) (key y) ≡ Some y) ys
      both all [] a b = tt
      both all (y ∷ ys) a b =
          let lt : key x < key y = a.0 in
          let f : (key x == key y) ≡ false = grind (arith, nat_tests) in
          (rw f b.0, both all ys a.1 b.1)

-- a view has a leaf for a page at a place
abbrev pub HasLeafAt : ℕ → ℕ → ℕ → ViewValue → Type 0
HasLeafAt frames page at v = (node : ℕ) × (has_number v.met.items page ≡ true) × (node_for v page ≡ Some node) × (at ≡ leaf_place frames node page)

-- the leaves of a page in these views are cleared
pub record AreZeroed (old new : WordsValue) (page : ℕ) (vs : List ViewValue) : Type 0 where
  pub frames : new.frames ≡ old.frames
  pub size : length new.items ≡ length old.items
  pub zeros : AllByRecursion (λ v. (at : ℕ) → HasLeafAt old.frames page at v → at < length old.items → slice_index new.items at ≡ 0) vs
  pub stays : (at : ℕ) → at < length old.items → slice_index old.items at ≡ 0 → slice_index new.items at ≡ 0
  pub others : (at : ℕ) → AllByRecursion (λ v. HasLeafAt old.frames page at v → ⊥) vs → slice_index new.items at ≡ slice_index old.items at

zero_stays : (items : List ℕ) (k at : ℕ) → at < length items → slice_index items at ≡ 0 → slice_index (slice_set items k 0) at ≡ 0
zero_stays items k at lt e = elim (one_or_two at k) [
  | inl same ↦ (rw same (stored_same items k 0 (rw same at lt)))
  | inr apart ↦ (stored_other items k at 0 apart ∙ e)
]

-- they are, and the rest is performed behind that
pub record Zeroed (w : WordsValue) (r : Records) (page : ℕ) (vs : List ViewValue) (more : List Piece) (new : WordsValue) (q : Records) : Type 0 where
  pub mid : WordsValue
  pub are : AreZeroed w mid page vs
  pub rest : ArePerformed mid r more new q

-- the leaf of one view is cleared before those of others
zero_more : (page : ℕ) (v : ViewValue) (vs : List ViewValue) (w mid : WordsValue) (node : ℕ) → has_number v.met.items page ≡ true → node_for v page ≡ Some node → AreZeroed (with_word w (leaf_place w.frames node page) 0) mid page vs
    → AreZeroed w mid page (v ∷ vs)
zero_more page v vs w mid node t n are =
    let k : ℕ = leaf_place w.frames node page in
    let w1 : WordsValue = with_word w k 0 in
    let l : length w1.items ≡ length w.items = length-set w.items k 0 in
    record {
      frames = are.frames;
      size = are.size ∙ l;
      zeros = (
        λ at has lt. (
            let m : Some node ≡ Some has.0 = sym n ∙ has.2 in
            let same : node ≡ has.0 = cc in
            let here : at ≡ k = has.3 ∙ ap (λ (x : ℕ). leaf_place w.frames x page) (sym same) in
            are.stays at (rw l lt) (rw here (stored_same w.items k 0 (rw here at lt)))
            ),
        all_more (λ u. (at : ℕ) → HasLeafAt w.frames page at u → at < length w1.items → slice_index mid.items at ≡ 0) (λ u. (at : ℕ) → HasLeafAt w.frames page at u → at < length w.items → slice_index mid.items at ≡ 0)
            (λ u h at has lt. h at has (rw l lt)) vs are.zeros,
      );
      stays = λ at lt e. are.stays at (rw l lt) (zero_stays w.items k at lt e);
      others = λ at all. are.others at all.1 ∙ stored_other w.items k at 0 (λ same. all.0 (node, t, n, same));
    }

-- a view that has no leaf is passed
zero_past : (page : ℕ) (v : ViewValue) (vs : List ViewValue) (w mid : WordsValue) → ((at : ℕ) → HasLeafAt w.frames page at v → ⊥) → AreZeroed w mid page vs → AreZeroed w mid page (v ∷ vs)
zero_past page v vs w mid none are = record {
  frames = are.frames;
  size = are.size;
  zeros = (λ at has lt. absurd (none at has), are.zeros);
  stays = are.stays;
  others = λ at all. are.others at all.1;
}

zero_none : (page : ℕ) (w : WordsValue) → AreZeroed w w page []
zero_none page w = record { frames = refl; size = refl; zeros = tt; stays = λ at lt e. e; others = λ at all. refl }

-- one view more
zero_one : (page : ℕ) (v : ViewValue) (vs : List ViewValue) (w : WordsValue) (r : Records) (more : List Piece) (new : WordsValue) (q : Records)
    → ((x : WordsValue) → ArePerformed x r (flat_map (leaf_cleared x.frames page) vs ++ more) new q → Zeroed x r page vs more new q)
    → ArePerformed w r (flat_map (leaf_cleared w.frames page) (v ∷ vs) ++ more) new q → Zeroed w r page (v ∷ vs) more new q
zero_one page v vs w r more new q next done = elim (true_or_false (has_number v.met.items page)) [
  | inl t ↦ by_node t (node_for v page) refl
  | inr t ↦ passed (rw t refl) (λ at has. absurd (let k : true ≡ false = sym has.1 ∙ t in cc))
]
  where
    passed : flat_map (leaf_cleared w.frames page) (v ∷ vs) ++ more ≡ flat_map (leaf_cleared w.frames page) vs ++ more → ((at : ℕ) → HasLeafAt w.frames page at v → ⊥) → Zeroed w r page (v ∷ vs) more new q
    passed e none =
        let z = next w (subst (λ (pieces : List Piece). ArePerformed w r pieces new q) e done) in
        record { mid = z.mid; are = zero_past page v vs w z.mid none z.are; rest = z.rest }

    stored : (node : ℕ) → has_number v.met.items page ≡ true → node_for v page ≡ Some node → flat_map (leaf_cleared w.frames page) (v ∷ vs) ++ more ≡ Pte (leaf_place w.frames node page) 0 ∷ (flat_map (leaf_cleared w.frames page) vs ++ more) → Zeroed w r page (v ∷ vs) more new q
    stored node t n e =
        let k : ℕ = leaf_place w.frames node page in
        let w1 : WordsValue = with_word w k 0 in
        let one : ArePerformed w r (Pte k 0 ∷ (flat_map (leaf_cleared w.frames page) vs ++ more)) new q = subst (λ (pieces : List Piece). ArePerformed w r pieces new q) e done in
        let a : ArePerformed w1 one.records (flat_map (leaf_cleared w.frames page) vs ++ more) new q = subst (λ (x : WordsValue). ArePerformed x one.records (flat_map (leaf_cleared w.frames page) vs ++ more) new q) one.done.0 one.rest in
        let b : ArePerformed w1 r (flat_map (leaf_cleared w.frames page) vs ++ more) new q = subst (λ (p : Records). ArePerformed w1 p (flat_map (leaf_cleared w.frames page) vs ++ more) new q) one.done.1 a in
        let z = next w1 b in
        record { mid = z.mid; are = zero_more page v vs w z.mid node t n z.are; rest = z.rest }

    by_node : has_number v.met.items page ≡ true → (o : Option ℕ) → node_for v page ≡ o → Zeroed w r page (v ∷ vs) more new q
    by_node t None n = passed (rw (t, n) refl) (λ at has. absurd (let k : Some has.0 ≡ None = sym has.2 ∙ n in cc))
    by_node t (Some node) n = stored node t n (rw (t, n) refl)

pub zeroed : (page : ℕ) (vs : List ViewValue) (w : WordsValue) (r : Records) (more : List Piece) (new : WordsValue) (q : Records) → ArePerformed w r (flat_map (leaf_cleared w.frames page) vs ++ more) new q → Zeroed w r page vs more new q
zeroed page [] w r more new q done = record { mid = w; are = zero_none page w; rest = done }
zeroed page (v ∷ vs) w r more new q done = zero_one page v vs w r more new q (λ x performed. zeroed page vs x r more new q performed) done

pub to_cleared : (w mid : WordsValue) (r : Records) (page : ℕ) → IsRising (map generation_number r.views.views) → ((node : ℕ) → HasLeaf r page node → leaf_place w.frames node page < length w.items) → AreZeroed w mid page r.views.views → AreCleared w mid r page
to_cleared w mid r page up low are = record {
  frames = are.frames;
  size = are.size;
  cleared = λ node has.
      (found_in generation_number (λ v. (at : ℕ) → HasLeafAt w.frames page at v → at < length w.items → slice_index mid.items at ≡ 0) r.views.views has.generation has.view are.zeros has.there
      (leaf_place w.frames node page) (node, has.met, has.node_at, refl) (low node has));
  others = λ at apart. are.others at (all_more (λ v. found_by generation_number r.views.views (generation_number v) ≡ Some v) (λ v. HasLeafAt w.frames page at v → ⊥)
      (λ v there has. apart has.0 (record { generation = v.generation; view = v; there = there; met = has.1; node_at = has.2 }) has.3) r.views.views (each_found generation_number r.views.views up));
}

-- the leaves of pages are cleared, page by page
abbrev pub Steps : WordsValue → WordsValue → Records → List ℕ → Type 0
Steps w n r [] = n ≡ w
Steps w n r (p ∷ ps) = (mid : WordsValue) × AreCleared w mid r p × Steps mid n r ps

pub record Stepped (w : WordsValue) (r : Records) (ps : List ℕ) (more : List Piece) (new : WordsValue) (q : Records) : Type 0 where
  pub mid : WordsValue
  pub steps : Steps w mid r ps
  pub rest : ArePerformed mid r more new q

pub stepped : (ps : List ℕ) (w : WordsValue) (r : Records) (more : List Piece) (new : WordsValue) (q : Records) (frames : ℕ) → w.frames ≡ frames → length w.items ≡ word_count frames → IsRising (map generation_number r.views.views)
    → ((p node : ℕ) → HasLeaf r p node → node < frames) → ArePerformed w r (flat_map (leaves_cleared frames r.views.views) ps ++ more) new q → Stepped w r ps more new q
stepped [] w r more new q frames f whole up low done = record { mid = w; steps = refl; rest = done }
stepped (p ∷ ps) w r more new q frames f whole up low done =
    let behind : List Piece = flat_map (leaves_cleared frames r.views.views) ps ++ more in
    let one : ArePerformed w r (leaves_cleared frames r.views.views p ++ behind) new q =
    subst (λ (pieces : List Piece). ArePerformed w r pieces new q) (append_assoc (leaves_cleared frames r.views.views p) (flat_map (leaves_cleared frames r.views.views) ps) more) done in
    let z = zeroed p r.views.views w r behind new q (subst (λ (n : ℕ). ArePerformed w r (leaves_cleared n r.views.views p ++ behind) new q) (sym f) one) in
    let are : AreCleared w z.mid r p = to_cleared w z.mid r p up (λ node has. (
    let lt : node < frames = low p node has in
    let a : word_place w.frames node (p % 512) < word_count w.frames = place_low w.frames node (p % 512) (rw f lt) (omega arith) in
    let b : length w.items ≡ word_count w.frames = whole ∙ ap word_count (sym f) in
    rw b a
    )) z.are in
    let next = stepped ps z.mid r more new q frames (z.are.frames ∙ f) (z.are.size ∙ whole) up low z.rest in
    record { mid = next.mid; steps = (z.mid, are, next.steps); rest = next.rest }

-- frame words stay
pub steps_word : (ps : List ℕ) (w n : WordsValue) (r : Records) (fr : ℕ) → fr < w.frames → Steps w n r ps → (n.frames ≡ w.frames) × (slice_index n.items (frame_word_place fr) ≡ slice_index w.items (frame_word_place fr))
steps_word [] w n r fr lt e = (ap (λ (x : WordsValue). x.frames) e, ap (λ (x : WordsValue). slice_index x.items (frame_word_place fr)) e)
steps_word (p ∷ ps) w n r fr lt steps =
    let f : steps.0.frames ≡ w.frames = steps.1.frames in
    let rest = steps_word ps steps.0 n r fr (rw f lt) steps.2 in
    (rest.0 ∙ f, rest.1 ∙ steps.1.others (frame_word_place fr) (λ node has e. place_past w.frames fr node (p % 512) lt e))

-- Entries may be cleared one after another, and then whatever may come behind that.
may_one : (page : ℕ) (v : ViewValue) (vs : List ViewValue) (w : WordsValue) (r : Records) (more : List Piece) → ((at : ℕ) → HasLeafAt w.frames page at v → at < word_count w.frames)
    → ((x : WordsValue) → x.frames ≡ w.frames → ((mid : WordsValue) → AreZeroed x mid page vs → MayPerformAll mid r more) → MayPerformAll x r (flat_map (leaf_cleared w.frames page) vs ++ more))
    → ((mid : WordsValue) → AreZeroed w mid page (v ∷ vs) → MayPerformAll mid r more) → MayPerformAll w r (flat_map (leaf_cleared w.frames page) (v ∷ vs) ++ more)
may_one page v vs w r more low next behind = elim (true_or_false (has_number v.met.items page)) [
  | inl t ↦ by_node t (node_for v page) refl
  | inr t ↦ passed (rw t refl) (λ at has. absurd (let k : true ≡ false = sym has.1 ∙ t in cc))
]
  where
    passed : flat_map (leaf_cleared w.frames page) (v ∷ vs) ++ more ≡ flat_map (leaf_cleared w.frames page) vs ++ more → ((at : ℕ) → HasLeafAt w.frames page at v → ⊥) → MayPerformAll w r (flat_map (leaf_cleared w.frames page) (v ∷ vs) ++ more)
    passed e none = subst (MayPerformAll w r) (sym e) (next w refl (λ mid are. behind mid (zero_past page v vs w mid none are)))

    stored : (node : ℕ) → has_number v.met.items page ≡ true → node_for v page ≡ Some node → flat_map (leaf_cleared w.frames page) (v ∷ vs) ++ more ≡ Pte (leaf_place w.frames node page) 0 ∷ (flat_map (leaf_cleared w.frames page) vs ++ more) → MayPerformAll w r (flat_map (leaf_cleared w.frames page) (v ∷ vs) ++ more)
    stored node t n e =
        let k : ℕ = leaf_place w.frames node page in
        let rest : MayPerformAll (with_word w k 0) r (flat_map (leaf_cleared w.frames page) vs ++ more) = next (with_word w k 0) refl (λ mid are. behind mid (zero_more page v vs w mid node t n are)) in
        subst (MayPerformAll w r) (sym e) (
          low k (node, t, n, refl),
          λ x q done. subst (λ (y : WordsValue). MayPerformAll y q (flat_map (leaf_cleared w.frames page) vs ++ more)) (sym done.0) (subst (λ (p : Records). MayPerformAll (with_word w k 0) p (flat_map (leaf_cleared w.frames page) vs ++ more)) (sym done.1) rest),
        )

    by_node : has_number v.met.items page ≡ true → (o : Option ℕ) → node_for v page ≡ o → MayPerformAll w r (flat_map (leaf_cleared w.frames page) (v ∷ vs) ++ more)
    by_node t None n = passed (rw (t, n) refl) (λ at has. absurd (let k : Some has.0 ≡ None = sym has.2 ∙ n in cc))
    by_node t (Some node) n = stored node t n (rw (t, n) refl)

pub zero_may : (page : ℕ) (vs : List ViewValue) (w : WordsValue) (r : Records) (more : List Piece) (frames : ℕ) → w.frames ≡ frames → AllByRecursion (λ v. (at : ℕ) → HasLeafAt frames page at v → at < word_count frames) vs
    → ((mid : WordsValue) → AreZeroed w mid page vs → MayPerformAll mid r more) → MayPerformAll w r (flat_map (leaf_cleared frames page) vs ++ more)
zero_may page [] w r more frames f low behind = behind w (zero_none page w)
zero_may page (v ∷ vs) w r more frames f low behind =
    subst (λ (n : ℕ). MayPerformAll w r (flat_map (leaf_cleared n page) (v ∷ vs) ++ more)) f
    (may_one page v vs w r more (subst (λ (n : ℕ). (at : ℕ) → HasLeafAt n page at v → at < word_count n) (sym f) low.0)
    (λ x g after. subst (λ (n : ℕ). MayPerformAll x r (flat_map (leaf_cleared n page) vs ++ more)) (sym f) (zero_may page vs x r more frames (g ∙ f) low.1 after)) behind)

pub steps_may : (ps : List ℕ) (w : WordsValue) (r : Records) (more : List Piece) (frames : ℕ) → w.frames ≡ frames → length w.items ≡ word_count frames → IsRising (map generation_number r.views.views)
    → ((p node : ℕ) → HasLeaf r p node → node < frames) → ((mid : WordsValue) → Steps w mid r ps → MayPerformAll mid r more) → MayPerformAll w r (flat_map (leaves_cleared frames r.views.views) ps ++ more)
steps_may [] w r more frames f whole up low behind = behind w refl
steps_may (p ∷ ps) w r more frames f whole up low behind =
    let rest : List Piece = flat_map (leaves_cleared frames r.views.views) ps ++ more in
    let places : AllByRecursion (λ v. (at : ℕ) → HasLeafAt frames p at v → at < word_count frames) r.views.views =
    all_more (λ v. found_by generation_number r.views.views (generation_number v) ≡ Some v) (λ v. (at : ℕ) → HasLeafAt frames p at v → at < word_count frames) (λ v there at has. (
    let lt : has.0 < frames = low p has.0 (record { generation = v.generation; view = v; there = there; met = has.1; node_at = has.2 }) in
    let a : word_place frames has.0 (p % 512) < word_count frames = place_low frames has.0 (p % 512) lt (omega arith) in
    subst (λ (n : ℕ). n < word_count frames) (sym has.3) a
    )) r.views.views (each_found generation_number r.views.views up) in
    let one : MayPerformAll w r (leaves_cleared frames r.views.views p ++ rest) = zero_may p r.views.views w r rest frames f places (λ mid are. (
    let cleared : AreCleared w mid r p = to_cleared w mid r p up (λ node has. (
    let lt : node < frames = low p node has in
    let a : word_place w.frames node (p % 512) < word_count w.frames = place_low w.frames node (p % 512) (rw f lt) (omega arith) in
    let b : length w.items ≡ word_count w.frames = whole ∙ ap word_count (sym f) in
    rw b a
    )) are in
    steps_may ps mid r more frames (are.frames ∙ f) (are.size ∙ whole) up low (λ x steps. behind x (mid, cleared, steps))
    )) in
    subst (MayPerformAll w r) (sym (append_assoc (leaves_cleared frames r.views.views p) (flat_map (leaves_cleared frames r.views.views) ps) more)) one
