-- Frames and pages of data after a mapping.
use Rattle.std.proofs.Common.{◌≡◌, ◌≢◌, ◌<◌, ◌≤◌, ◌+◌, ◌^◌, ◌++◌, ◌||◌, ℕ, List, [], ◌∷◌, Bool, true, false, Option, Some, None, length, map, take, refl, sym, ap, subst, ◌∙◌, inl, inr, arith, nat_eq}
use Rattle.std.specs.Prelude.{IsSomeAnd, slice_get, slice_index}
use Rattle.std.specs.List.{AllByRecursion}
use Rattle.std.specs.Map.{values_of}
use Rattle.std.specs.Option.{option_map}
use Rattle.std.specs.Set.{is_member}
use Rattle.std.proofs.lemmas.Bool.Decides.{nat_tests}
use Rattle.wf_outside.specs.Pages.{page_of}
use Rattle.wf_frames.specs.declared.state.Frame.{Frame}
use Rattle.wf_frames.specs.declared.state.FrameState.TheVariants.{Free, InUse}
use Rattle.wf_frames.specs.FrameWords.{fields_of}
use Rattle.wf_frames.specs.Frames.{HasState}
use Rattle.wf_frames.specs.Layout.{WordsValue, frame_word_place, word_count}
use Rattle.wf_views.specs.declared.pages.PageAt.{PageAt}
use Rattle.wf_views.specs.declared.records.Records.{Records}
use Rattle.wf_views.specs.Lists as views
use Rattle.wf_views.specs.Pages.{page_number}
use Rattle.wf_flat.specs.State.{FlatState, PageState}
use Rattle.wf_effects.specs.Effects.{mapped_page, mapped_pages}
use Rattle.wf_homes.specs.Homes.{DataOf, Homes, NodeOf, Tenant, TextOf, home_frame, is_home}
use Rattle.wf_homes.specs.Kept.{HasNoData, IsKeptFrame, IsKeptPage, LiesIn, fields_at, state_of}
use Rattle.wf_homes.specs.Stands.{StandsFor}
use Rattle.wf_homes.proofs.FoundLemmas.{at_some, found_number, some_at}
use Rattle.wf_homes.proofs.ListLemmas.{all_both, all_front, all_more, map_all, one_or_two}
use Rattle.wf_homes.proofs.PlaceLemmas.{home_low}
use Rattle.wf_space.proofs.MeetLemmas.{some_of}
use Rattle.wf_space.proofs.ZeroLemmas.{found_in}
use Rattle.wf_space.specs.Changes.{marked, with_changes}
use Rattle.wf_space.specs.Pieces.{ArePerformed}
use Rattle.wf_mapping.specs.declared.layout.Mapping.{Mapping}
use Rattle.wf_mapping.specs.declared.nodes.NewNode.{NewNode}
use Rattle.wf_mapping.specs.Laws.{mapped_by, node_home, page_home}
use Rattle.wf_mapping.specs.Layout.{free_in, new_nodes, new_pages, page_placed}
use Rattle.wf_mapping.specs.Plans.{map_changes, map_pieces}
use Rattle.wf_mapped.proofs.AnyLemmas.{AnyIs, all_and, any_or_none}
use Rattle.wf_mapped.proofs.ChangeLemmas.{all_changes, is_data, recorded}
use Rattle.wf_mapped.proofs.EntryLemmas.{no_page, old, page_zeros, words_stay}
use Rattle.wf_mapped.proofs.HousedLemmas.{IsNewHome, IsReady, all_new, all_placed, housed, news, news_apart, pages_fit, pages_new}
use Rattle.wf_mapped.proofs.LookLemmas.{one_tenant}
use Rattle.wf_mapped.proofs.PageLemmas.{added_here, added_other, all_mapped, each_any, number_of, placed_found, sorted_all}
use Rattle.wf_mapped.proofs.PieceLemmas.{live_word}
use Rattle.wf_mapped.proofs.RaisedLemmas.{IsRaisedFrame, page_any, raised_frame}
use Rattle.wf_mapped.proofs.TakenLemmas.{IsTakenAs, taken_as, taken_other}
use Rattle.wf_mapped.proofs.WordLemmas.{copies_at, frame_word_at}
use Rattle.std.proofs.lemmas.List.{length-take-le}

-- the fields of the word of a frame that is live, and not written
fields_live : (i : ℕ) → i < 2 ^ 23 → ((fields_of (live_word i)).taken ≡ false) × ((fields_of (live_word i)).writes ≡ 0) × ((fields_of (live_word i)).inc ≡ i) × ((fields_of (live_word i)).live ≡ true)
fields_live i lt = (grind (arith, nat_tests), omega arith, omega arith, grind (arith, nat_tests))

-- a frame is a home where it was, or is one that comes
home_stays : (xs ys : List (Tenant × ℕ)) (f : ℕ) → AllByRecursion (λ h. h.1 ≢ f) ys → is_member nat_eq (values_of (xs ++ ys)) f ≡ is_member nat_eq (values_of xs) f
home_stays [] [] f all = refl
home_stays [] (y ∷ ys) f all = (let t : nat_eq f y.1 ≡ false = (let apart : y.1 ≢ f = all.0 in grind (arith, nat_tests)) in rw t (home_stays [] ys f all.1))
home_stays (x ∷ xs) ys f all = ap (λ (b : Bool). nat_eq f x.1 || b) (home_stays xs ys f all)

home_comes : (xs ys : List (Tenant × ℕ)) (f : ℕ) → AnyIs (λ h. h.1 ≡ f) ys → is_member nat_eq (values_of (xs ++ ys)) f ≡ true
home_comes [] [] f any = absurd any
home_comes [] (y ∷ ys) f (inl same) = (let t : nat_eq f y.1 ≡ true = (let e : y.1 ≡ f = same in grind (arith, nat_tests)) in rw t refl)
home_comes [] (y ∷ ys) f (inr any) = or_last (nat_eq f y.1) (is_member nat_eq (values_of ys) f) (home_comes [] ys f any)
  where
    or_last : (a b : Bool) → b ≡ true → (a || b) ≡ true
    or_last true b e = refl
    or_last false b e = e
home_comes (x ∷ xs) ys f any = or_last (nat_eq f x.1) (is_member nat_eq (values_of (xs ++ ys)) f) (home_comes xs ys f any)
  where
    or_last : (a b : Bool) → b ≡ true → (a || b) ≡ true
    or_last true b e = refl
    or_last false b e = e

any_some : (ps : List PageAt) (f : ℕ) → AnyIs (λ (p : PageAt). p.frame ≡ f) ps → 1 ≤ length ps
any_some [] f any = absurd any
any_some (p ∷ ps) f any = omega arith

module _ (words new : WordsValue) (r q : Records) (homes : Homes) (s : FlatState) (mapping : Mapping) (ready : IsReady words r homes s mapping) (done : ArePerformed words (with_changes r (map_changes r mapping)) (map_pieces r mapping) new q)
    (whole : length new.items ≡ word_count new.frames) where
  abbrev st : StandsFor words r homes s
  st = ready.stands

  abbrev after_s : FlatState
  after_s = mapped_by s mapping

  abbrev after_h : Homes
  after_h = housed r homes mapping

  abbrev pages : List PageAt
  pages = new_pages r mapping

  abbrev nodes : List NewNode
  nodes = new_nodes r mapping

  abbrev after_r : Records
  after_r = recorded mapping.pages pages nodes r

  abbrev last : ℕ
  last = r.frames.last_birth

  -- a page that comes lies in a frame that is live, in its next incarnation
  record IsLiveFrame (fr : ℕ) : Type 0 where
    raised : IsRaisedFrame r mapping fr
    word : slice_index new.items (frame_word_place fr) ≡ live_word (raised.before.incarnation + 1)

  low_frame : (fr : ℕ) → fr < s.limits.frames → fr < words.frames
  low_frame fr lt = (let same : words.frames ≡ s.limits.frames = st.sizes.of_words in omega arith)

  -- the frame word of any other frame stays
  word_stays : (fr : ℕ) → fr < s.limits.frames → AllByRecursion (λ (p : PageAt). p.frame ≢ fr) pages → slice_index new.items (frame_word_place fr) ≡ slice_index words.items (frame_word_place fr)
  word_stays fr lt none = frame_word_at words new r q homes s mapping st done whole fr (slice_index words.items (frame_word_place fr)) (low_frame fr lt)
      (all_more (λ (p : PageAt). p.frame ≢ fr) (λ (p : PageAt). p.frame ≡ fr → IsSomeAnd (slice_get (with_changes r (map_changes r mapping)).frames.frames fr) (λ f. live_word f.incarnation ≡ slice_index words.items (frame_word_place fr))) (λ p apart same. absurd (apart same)) pages none)
      (inl refl)

  live_frame : (n fr : ℕ) → IsNewHome r homes after_h s (DataOf n) fr → IsLiveFrame fr
  live_frame n fr is =
      let raised = raised_frame words r homes s mapping ready n fr is in
      let inc : ℕ = raised.before.incarnation + 1 in
      let live : IsSomeAnd (slice_get (with_changes r (map_changes r mapping)).frames.frames fr) (λ f. live_word f.incarnation ≡ live_word inc) =
      subst (λ (z : Records). IsSomeAnd (slice_get z.frames.frames fr) (λ f. live_word f.incarnation ≡ live_word inc)) (sym (all_changes mapping.pages pages nodes r))
      (some_at (slice_get after_r.frames.frames fr) (λ (f : Frame). live_word f.incarnation ≡ live_word inc) (marked last true raised.before) raised.now (ap live_word raised.inc)) in
      record {
        raised = raised;
        word = frame_word_at words new r q homes s mapping st done whole fr (live_word inc) (low_frame fr is.spare.low)
            (all_more (λ (p : PageAt). IsNewHome r homes after_h s (DataOf p.page) p.frame) (λ (p : PageAt). p.frame ≡ fr → IsSomeAnd (slice_get (with_changes r (map_changes r mapping)).frames.frames fr) (λ f. live_word f.incarnation ≡ live_word inc)) (λ p h same. live) pages (pages_new words r homes s mapping ready))
            (inr (page_any words r homes s mapping ready n fr is));
      }

  -- a frame that is none of those that come
  frame_stays : (fr : ℕ) → fr < s.limits.frames → AllByRecursion (λ (h : Tenant × ℕ). h.1 ≢ fr) (news r mapping) → IsKeptFrame new after_r after_h (s.births + mapping.pages) fr
  frame_stays fr lt none =
      let kept = st.frames fr lt in
      let frame : slice_get after_r.frames.frames fr ≡ slice_get r.frames.frames fr = taken_other (news r mapping) r.frames fr none in
      let no_pages : AllByRecursion (λ (p : PageAt). p.frame ≢ fr) pages = map_all (λ (p : PageAt). p.frame ≢ fr) (λ (h : Tenant × ℕ). h.1 ≢ fr) page_home (λ p h. h) pages (all_front (λ (h : Tenant × ℕ). h.1 ≢ fr) (map page_home pages) (map node_home nodes) none) in
      let w : slice_index new.items (frame_word_place fr) ≡ slice_index words.items (frame_word_place fr) = word_stays fr lt no_pages in
      let home : is_home after_h fr ≡ is_home homes fr = home_stays homes.homes (news r mapping) fr none in
      let state : state_of after_h fr ≡ state_of homes fr = rw home refl in
      let few : (fields_at words fr).inc ≤ s.births = kept.few in
      let before : HasNoData after_h fr → HasNoData homes fr = (λ no n e. no n (old words new r q homes s mapping ready done whole (DataOf n) fr e)) in
      record {
        state = subst (HasState after_r.frames.frames fr) (sym state) (rw frame kept.state);
        incarnation = rw (frame, w) kept.incarnation;
        few = rw w (let k : (fields_at words fr).inc ≤ s.births + mapping.pages = omega arith in k);
        not_live = λ no. rw w (kept.not_live (before no));
        not_taken = λ no. rw w (kept.not_taken (before no));
      }

  used_now : (fr : ℕ) → AnyIs (λ (h : Tenant × ℕ). h.1 ≡ fr) (news r mapping) → state_of after_h fr ≡ InUse
  used_now fr any = (let home : is_home after_h fr ≡ true = home_comes homes.homes (news r mapping) fr any in rw home refl)

  marked_used : (b : Bool) (x : Frame) → (marked last b x).state ≡ InUse
  marked_used true x = refl
  marked_used false x = refl

  -- a frame that is taken
  frame_taken : (fr : ℕ) → AnyIs (λ (h : Tenant × ℕ). h.1 ≡ fr) (news r mapping) → IsTakenAs (news r mapping) r.frames (λ t f. IsNewHome r homes after_h s t f) fr → IsKeptFrame new after_r after_h (s.births + mapping.pages) fr
  frame_taken fr any took = by_data (is_data took.tenant) refl
    where
      x : (f : Frame) × (slice_get r.frames.frames fr ≡ Some f) × (f.state ≡ Free)
      x = some_of (slice_get r.frames.frames fr) (λ (f : Frame). f.state ≡ Free) took.is.spare.state

      now : slice_get after_r.frames.frames fr ≡ Some (marked last (is_data took.tenant) x.0)
      now = took.frame ∙ ap (option_map (marked last (is_data took.tenant))) x.1

      state : HasState after_r.frames.frames fr (state_of after_h fr)
      state = some_at (slice_get after_r.frames.frames fr) (λ (f : Frame). f.state ≡ state_of after_h fr) (marked last (is_data took.tenant) x.0) now (marked_used (is_data took.tenant) x.0 ∙ sym (used_now fr any))

      kept : IsKeptFrame words r homes s.births fr
      kept = st.frames fr took.is.spare.low

      inc_is : x.0.incarnation ≡ (fields_at words fr).inc
      inc_is = at_some (slice_get r.frames.frames fr) (λ (f : Frame). f.incarnation ≡ (fields_at words fr).inc) x.0 x.1 kept.incarnation

      data_of : (t : Tenant) → is_data t ≡ true → (n : ℕ) × (t ≡ DataOf n)
      data_of (TextOf g n) e = absurd cc
      data_of (DataOf n) e = (n, refl)
      data_of (NodeOf g l n) e = absurd cc

      not_data : is_data took.tenant ≡ false → AllByRecursion (λ (p : PageAt). p.frame ≢ fr) pages
      not_data e = all_more (λ (p : PageAt). IsNewHome r homes after_h s (DataOf p.page) p.frame) (λ (p : PageAt). p.frame ≢ fr) (λ p is same. (
          let one : took.tenant ≡ DataOf p.page = one_tenant words r homes s mapping ready took.tenant (DataOf p.page) fr took.is.now (is.now ∙ ap (λ (k : ℕ). Some k) same) in
          let k : true ≡ false = sym (ap is_data one) ∙ e in cc
          )) pages (pages_new words r homes s mapping ready)

      by_data : (b : Bool) → is_data took.tenant ≡ b → IsKeptFrame new after_r after_h (s.births + mapping.pages) fr
      by_data true e =
          let n = data_of took.tenant e in
          let is : IsNewHome r homes after_h s (DataOf n.0) fr = subst (λ (t : Tenant). IsNewHome r homes after_h s t fr) n.1 took.is in
          let live = live_frame n.0 fr is in
          let fields = fields_live (live.raised.before.incarnation + 1) live.raised.low in
          let inc : (fields_at new fr).inc ≡ live.raised.before.incarnation + 1 = ap (λ (w : ℕ). (fields_of w).inc) live.word ∙ fields.2 in
          let was : live.raised.before.incarnation ≡ (fields_at words fr).inc = at_some (slice_get r.frames.frames fr) (λ (f : Frame). f.incarnation ≡ (fields_at words fr).inc) live.raised.before live.raised.there kept.incarnation in
          let few : (fields_at words fr).inc ≤ s.births = kept.few in
          let some : 1 ≤ length pages = any_some pages fr (page_any words r homes s mapping ready n.0 fr is) in
          let count : length pages ≡ mapping.pages = all_placed words r homes s mapping ready in
          record {
            state = state;
            incarnation = some_at (slice_get after_r.frames.frames fr) (λ (f : Frame). f.incarnation ≡ (fields_at new fr).inc) (marked last true live.raised.before) live.raised.now (live.raised.inc ∙ sym inc);
            few = omega arith;
            not_live = λ no. absurd (no n.0 is.now);
            not_taken = λ no. absurd (no n.0 is.now);
          }
      by_data false e =
          let w : slice_index new.items (frame_word_place fr) ≡ slice_index words.items (frame_word_place fr) = word_stays fr took.is.spare.low (not_data e) in
          let few : (fields_at words fr).inc ≤ s.births = kept.few in
          let before : HasNoData after_h fr → HasNoData homes fr = (λ no n a. no n (old words new r q homes s mapping ready done whole (DataOf n) fr a)) in
          let here : slice_get after_r.frames.frames fr ≡ Some (marked last false x.0) = now ∙ ap (λ (b : Bool). Some (marked last b x.0)) e in
          record {
            state = state;
            incarnation = some_at (slice_get after_r.frames.frames fr) (λ (f : Frame). f.incarnation ≡ (fields_at new fr).inc) (marked last false x.0) here (inc_is ∙ sym (ap (λ (k : ℕ). (fields_of k).inc) w));
            few = rw w (let k : (fields_at words fr).inc ≤ s.births + mapping.pages = omega arith in k);
            not_live = λ no. rw w (kept.not_live (before no));
            not_taken = λ no. rw w (kept.not_taken (before no));
          }

  pub frame_kept : (fr : ℕ) → fr < s.limits.frames → IsKeptFrame new after_r after_h (s.births + mapping.pages) fr
  frame_kept fr lt = elim (any_or_none (λ (h : Tenant × ℕ). h.1 ≡ fr) (λ h. one_or_two h.1 fr) (news r mapping)) [
    | inl any ↦ frame_taken fr any (taken_as (news r mapping) r.frames (λ t f. IsNewHome r homes after_h s t f) fr (news_apart words r homes s mapping ready) (all_new words r homes s mapping ready) any)
    | inr none ↦ frame_stays fr lt none
  ]

  -- pages that were there
  pub not_placed : (n f : ℕ) → home_frame homes (DataOf n) ≡ Some f → views.found_by page_number pages n ≡ None
  not_placed n f e = by_found (views.found_by page_number pages n) refl
    where
      by_found : (o : Option PageAt) → views.found_by page_number pages n ≡ o → o ≡ None
      by_found None a = refl
      by_found (Some p) a =
          let is : IsNewHome r homes after_h s (DataOf p.page) p.frame = found_in page_number (λ (p : PageAt). IsNewHome r homes after_h s (DataOf p.page) p.frame) pages n p (pages_new words r homes s mapping ready) a in
          let same : p.page ≡ n = found_number page_number pages n p a in
          absurd (let k : Some f ≡ None = sym e ∙ ap (λ (m : ℕ). home_frame homes (DataOf m)) (sym same) ∙ is.before in cc)

  old_page : (p : PageState) → IsKeptPage words r homes p → IsKeptPage new after_r after_h p
  old_page p kept =
      let h = some_of (home_frame homes (DataOf p.number)) (LiesIn words r p) kept in
      let f : ℕ = h.0 in
      let lies : LiesIn words r p f = h.2 in
      let lt : f < s.limits.frames = home_low homes s (DataOf p.number) f st.housed.separate h.1 in
      let w : slice_index new.items (frame_word_place f) ≡ slice_index words.items (frame_word_place f) = word_stays f lt (no_page words new r q homes s mapping ready done whole (DataOf p.number) f h.1) in
      some_at (home_frame after_h (DataOf p.number)) (LiesIn new after_r p) f (old words new r q homes s mapping ready done whole (DataOf p.number) f h.1) (record {
        recorded = added_other pages r.pages p.number (not_placed p.number f h.1) ∙ lies.recorded;
        same_words = λ i li. words_stay words new r q homes s mapping ready done whole (DataOf p.number) f i h.1 (λ n same. absurd cc) li ∙ lies.same_words i li;
        writes = rw w lies.writes;
        taken = rw w lies.taken;
        live = rw w lies.live;
      })

  -- pages that come
  abbrev Comes : PageAt → Type 0
  Comes p = (views.found_by page_number pages p.page ≡ Some p) × IsNewHome r homes after_h s (DataOf p.page) p.frame × AnyIs (λ (x : PageAt). x.frame ≡ p.frame) pages

  new_page : (number frame b : ℕ) → Comes (page_placed mapping.write number frame) → IsKeptPage new after_r after_h (mapped_page None mapping.write number b)
  new_page number frame b comes =
      let live = live_frame number frame comes.1 in
      let fields = fields_live (live.raised.before.incarnation + 1) live.raised.low in
      some_at (home_frame after_h (DataOf number)) (LiesIn new after_r (mapped_page None mapping.write number b)) frame comes.1.now (record {
        recorded = added_here mapping.write (page_of mapping.va) number (take mapping.pages (free_in r)) r.pages (page_placed mapping.write number frame) comes.0;
        same_words = λ i li. page_zeros words new r q homes s mapping ready done whole number frame i comes.1.now comes.2 li ∙ sym (copies_at 512 i);
        writes = ap (λ (w : ℕ). (fields_of w).writes) live.word ∙ fields.1;
        taken = ap (λ (w : ℕ). (fields_of w).taken) live.word ∙ fields.0;
        live = ap (λ (w : ℕ). (fields_of w).live) live.word ∙ fields.3;
      })

  all_come : AllByRecursion Comes pages
  all_come = all_more (λ p. ((views.found_by page_number pages p.page ≡ Some p) × IsNewHome r homes after_h s (DataOf p.page) p.frame) × AnyIs (λ (x : PageAt). x.frame ≡ p.frame) pages) Comes (λ p all. (all.0.0, all.0.1, all.1)) pages
      (all_and (λ p. (views.found_by page_number pages p.page ≡ Some p) × IsNewHome r homes after_h s (DataOf p.page) p.frame) (λ p. AnyIs (λ (x : PageAt). x.frame ≡ p.frame) pages) pages
      (all_and (λ p. views.found_by page_number pages p.page ≡ Some p) (λ (p : PageAt). IsNewHome r homes after_h s (DataOf p.page) p.frame) pages (placed_found mapping.write (page_of mapping.va) (take mapping.pages (free_in r))) (pages_new words r homes s mapping ready))
      (each_any (λ (x p : PageAt). x.frame ≡ p.frame) (λ x. refl) pages))

  pub pages_kept : AllByRecursion (IsKeptPage new after_r after_h) after_s.pages
  pages_kept =
      sorted_all number_of (IsKeptPage new after_r after_h) (s.pages ++ mapped_pages None mapping.write (page_of mapping.va) s.births mapping.pages)
      (all_both (IsKeptPage new after_r after_h) s.pages (mapped_pages None mapping.write (page_of mapping.va) s.births mapping.pages)
      (all_more (IsKeptPage words r homes) (IsKeptPage new after_r after_h) old_page s.pages st.pages)
      (all_mapped Comes (IsKeptPage new after_r after_h) mapping.write (page_of mapping.va) s.births mapping.pages (take mapping.pages (free_in r)) count new_page all_come))
    where
      count : length (take mapping.pages (free_in r)) ≡ mapping.pages
      count = length-take-le mapping.pages (free_in r) (pages_fit words r homes s mapping ready)
