-- What words and records stand for where a mapping was carried out.
use Rattle.std.proofs.Common.{◌≡◌, ◌<◌, ◌≤◌, ◌+◌, ◌-◌, ◌++◌, ℕ, suc, List, [], ◌∷◌, Bool, true, false, Option, Some, None, length, map, take, refl, sym, ap, subst, ◌∙◌, arith, is_some, if◌then◌else◌}
use Rattle.std.specs.Prelude.{IsSome, IsSomeAnd, MatchOption, option_and_then, slice_get, sum_by}
use Rattle.std.specs.List.{AllByRecursion}
use Rattle.std.specs.Option.{option_map}
use Rattle.std.proofs.lemmas.List.{length-map}
use Rattle.wf_frames.specs.declared.state.Frame.{Frame}
use Rattle.wf_frames.specs.declared.state.FrameState.TheVariants.{Free}
use Rattle.wf_frames.specs.Layout.{WordsValue, word_count}
use Rattle.wf_views.specs.declared.pages.PageAt.{PageAt}
use Rattle.wf_views.specs.declared.records.Records.{Records}
use Rattle.wf_views.specs.Lists as views
use Rattle.wf_views.specs.Pages.{page_at, page_number}
use Rattle.wf_views.specs.Views.{ViewValue, view_of}
use Rattle.wf_flat.specs.State.{FlatState, GenState}
use Rattle.wf_effects.specs.Effects.{reaching}
use Rattle.wf_homes.specs.Homes.{DataOf, Homes, NodeOf, Tenant, TextOf, home_frame, homes_in}
use Rattle.wf_homes.specs.Kept.{IsKeptView, node_frame, recorded_frame, text_frame}
use Rattle.wf_homes.specs.Stands.{StandsFor, born_of, living, living_at}
use Rattle.wf_homes.proofs.FoundLemmas.{found_number}
use Rattle.wf_homes.proofs.ListLemmas.{all_more}
use Rattle.wf_space.proofs.MeetLemmas.{some_of}
use Rattle.wf_space.proofs.ZeroLemmas.{found_in}
use Rattle.wf_space.specs.Changes.{with_changes}
use Rattle.wf_space.specs.Pieces.{ArePerformed}
use Rattle.wf_mapping.specs.declared.layout.Mapping.{Mapping}
use Rattle.wf_mapping.specs.declared.nodes.NewNode.{NewNode}
use Rattle.wf_mapping.specs.Laws.{mapped_by, node_home, page_home}
use Rattle.wf_mapping.specs.Layout.{free_in, new_nodes, new_pages, numbers_of}
use Rattle.wf_mapping.specs.Plans.{map_changes, map_pieces}
use Rattle.wf_outside.specs.Pages.{page_of}
use Rattle.wf_mapped.proofs.AnyLemmas.{any_with}
use Rattle.wf_mapped.proofs.ChangeLemmas.{all_changes, last_noted, noted, recorded, view_noted}
use Rattle.wf_mapped.proofs.EntryLemmas.{node_parts, old, text_same}
use Rattle.wf_mapped.proofs.HousedLemmas.{IsNewHome, IsNewNode, IsReady, IsSpareFrame, all_new, all_placed, are, housed, laid, new_home, news, news_apart, nodes_new, pages_new}
use Rattle.wf_mapped.proofs.KeptLemmas.{frame_kept, pages_kept}
use Rattle.wf_mapped.proofs.LookLemmas.{IsNodeIn, IsViewOf, data_looked, node_comes, view_there}
use Rattle.wf_mapped.proofs.PageLemmas.{added_here, added_other}
use Rattle.wf_mapped.proofs.TakenLemmas.{CanRise, data_count, frame_at, taken_last, taken_length, taken_sum}
use Rattle.wf_mapped.proofs.ViewLemmas.{got_reaching, node_kept, view_kept}
use Rattle.wf_mapped.proofs.WordLemmas.{keeps, zero_stays}
use Rattle.wf_mapped.specs.Mapped.{MapStands}

-- each page is one of data, and no node is
data_pages : (ps : List PageAt) (ns : List NewNode) → data_count (map page_home ps ++ map node_home ns) ≡ length ps
data_pages [] ns = of_nodes ns
  where
    of_nodes : (ns : List NewNode) → data_count (map node_home ns) ≡ 0
    of_nodes [] = refl
    of_nodes (n ∷ ns) = of_nodes ns
data_pages (p ∷ ps) ns = ap suc (data_pages ps ns)

got_born : (o : Option GenState) (pages : List ℕ) → option_map born_of (option_map (reaching pages) o) ≡ option_map born_of o
got_born None pages = refl
got_born (Some gen) pages = refl

module _ (words new : WordsValue) (r q : Records) (homes : Homes) (s : FlatState) (mapping : Mapping) (ready : IsReady words r homes s mapping) (done : ArePerformed words (with_changes r (map_changes r mapping)) (map_pieces r mapping) new q)
    (whole : length new.items ≡ word_count new.frames) where
  abbrev st : StandsFor words r homes s
  st = ready.stands

  abbrev after_s : FlatState
  after_s = mapped_by s mapping

  abbrev after_h : Homes
  after_h = housed r homes mapping

  abbrev pages : List PageAt
  pages = new_pages r mapping

  abbrev nodes : List NewNode
  nodes = new_nodes r mapping

  abbrev after_r : Records
  after_r = recorded mapping.pages pages nodes r

  -- the views
  view_after : (g : ℕ) → view_of after_r.views g ≡ option_map (noted nodes) (view_of r.views g)
  view_after g = view_noted nodes r.views g

  living_after : (g : ℕ) → living_at after_s g ≡ option_and_then living (option_map (reaching (numbers_of mapping)) (slice_get s.gens g))
  living_after g = ap (option_and_then living) (got_reaching (numbers_of mapping) s.gens g)

  views_kept : (g : ℕ) → MatchOption (living_at after_s g) (view_of after_r.views g ≡ None) (λ gen. IsSomeAnd (view_of after_r.views g) (IsKeptView new after_h after_s gen))
  views_kept g = by_view (view_of r.views g) refl
    where
      dead : (o : Option GenState) → slice_get s.gens g ≡ o → view_of r.views g ≡ None → option_and_then living (option_map (reaching (numbers_of mapping)) o) ≡ None
      dead None at none = refl
      dead (Some gen) at none = by_live gen.live refl
        where
          by_live : (b : Bool) → gen.live ≡ b → (if gen.live then Some (reaching (numbers_of mapping) gen) else None) ≡ None
          by_live false e = ap (λ (b : Bool). if b then Some (reaching (numbers_of mapping) gen) else None) e
          by_live true e =
              let now : living_at s g ≡ Some gen = rw (at, e) refl in
              let some : IsSomeAnd (view_of r.views g) (IsKeptView words homes s gen) = subst (λ (o : Option GenState). MatchOption o (view_of r.views g ≡ None) (λ gen. IsSomeAnd (view_of r.views g) (IsKeptView words homes s gen))) now (st.views g) in
              let x = some_of (view_of r.views g) (IsKeptView words homes s gen) some in
              absurd (let k : Some x.0 ≡ None = sym x.1 ∙ none in cc)

      alive : (is : IsViewOf words r homes s g) → option_and_then living (option_map (reaching (numbers_of mapping)) (slice_get s.gens g)) ≡ Some (reaching (numbers_of mapping) is.gen)
      alive is = ap (λ (o : Option GenState). option_and_then living (option_map (reaching (numbers_of mapping)) o)) is.at ∙ ap (λ (b : Bool). if b then Some (reaching (numbers_of mapping) is.gen) else None) is.live

      by_view : (o : Option ViewValue) → view_of r.views g ≡ o → MatchOption (living_at after_s g) (view_of after_r.views g ≡ None) (λ gen. IsSomeAnd (view_of after_r.views g) (IsKeptView new after_h after_s gen))
      by_view None e =
          subst (λ (o : Option GenState). MatchOption o (view_of after_r.views g ≡ None) (λ gen. IsSomeAnd (view_of after_r.views g) (IsKeptView new after_h after_s gen)))
          (sym (living_after g ∙ dead (slice_get s.gens g) refl e)) (view_after g ∙ ap (option_map (noted nodes)) e)
      by_view (Some v) e =
          let is = view_there words r homes s mapping ready g (ap is_some e) in
          subst (λ (o : Option GenState). MatchOption o (view_of after_r.views g ≡ None) (λ gen. IsSomeAnd (view_of after_r.views g) (IsKeptView new after_h after_s gen)))
          (sym (living_after g ∙ alive is))
          (subst (λ (o : Option ViewValue). IsSomeAnd o (IsKeptView new after_h after_s (reaching (numbers_of mapping) is.gen))) (sym (view_after g ∙ ap (option_map (noted nodes)) is.there)) (view_kept words new r q homes s mapping ready done whole g is))

  -- where the records have tenants
  home_kept : (t : Tenant) → recorded_frame after_r t ≡ home_frame after_h t
  home_kept (TextOf g n) = ap (λ (o : Option ViewValue). option_and_then (λ (v : ViewValue). text_frame v n) o) (view_after g) ∙ by_view (view_of r.views g) ∙ st.at_home (TextOf g n) ∙ sym (text_same words new r q homes s mapping ready done whole g n)
    where
      by_view : (o : Option ViewValue) → option_and_then (λ (v : ViewValue). text_frame v n) (option_map (noted nodes) o) ≡ option_and_then (λ (v : ViewValue). text_frame v n) o
      by_view None = refl
      by_view (Some v) = refl
  home_kept (NodeOf g level prefix) = ap (λ (o : Option ViewValue). option_and_then (λ (v : ViewValue). node_frame v level prefix) o) (view_after g) ∙ by_view (view_of r.views g) refl
    where
      none_comes : view_of r.views g ≡ None → (o : Option ℕ) → home_frame after_h (NodeOf g level prefix) ≡ o → home_frame homes (NodeOf g level prefix) ≡ None → None ≡ o
      none_comes none None e before = refl
      none_comes none (Some f) e before =
          let x = any_with (IsNodeIn (NodeOf g level prefix) f) (IsNewNode r homes after_h s) nodes (node_comes words r homes s mapping ready g level prefix f before e) (nodes_new words r homes s mapping ready) in
          let two = node_parts x.0.generation g x.0.node.level level x.0.node.prefix prefix x.1.tenant in
          let there : IsSome (view_of r.views g) = subst (λ (h : ℕ). IsSome (view_of r.views h)) two.0 x.2.view in
          absurd (let k : true ≡ false = sym there ∙ ap is_some none in cc)

      by_view : (o : Option ViewValue) → view_of r.views g ≡ o → option_and_then (λ (v : ViewValue). node_frame v level prefix) (option_map (noted nodes) o) ≡ home_frame after_h (NodeOf g level prefix)
      by_view None e =
          let before : home_frame homes (NodeOf g level prefix) ≡ None = sym (st.at_home (NodeOf g level prefix)) ∙ ap (λ (o : Option ViewValue). option_and_then (λ (v : ViewValue). node_frame v level prefix) o) e in
          none_comes e (home_frame after_h (NodeOf g level prefix)) refl before
      by_view (Some v) e =
          let is = view_there words r homes s mapping ready g (ap is_some e) in
          let same : Some v ≡ Some is.view = sym e ∙ is.there in
          ap (λ (o : Option ViewValue). option_and_then (λ (v : ViewValue). node_frame v level prefix) (option_map (noted nodes) o)) same ∙ node_kept words new r q homes s mapping ready done whole g is level prefix
  home_kept (DataOf n) = by_found (views.found_by page_number pages n) refl
    where
      by_home : (o : Option ℕ) → home_frame homes (DataOf n) ≡ o → views.found_by page_number pages n ≡ None → o ≡ home_frame after_h (DataOf n)
      by_home (Some f) e none = sym (old words new r q homes s mapping ready done whole (DataOf n) f e)
      by_home None e none = sym (new_home words r homes s mapping ready (DataOf n) e ∙ data_looked n pages nodes ∙ ap (option_map (λ (p : PageAt). p.frame)) none)

      by_found : (o : Option PageAt) → views.found_by page_number pages n ≡ o → option_map (λ (p : PageAt). p.frame) (page_at after_r.pages n) ≡ home_frame after_h (DataOf n)
      by_found None e = ap (option_map (λ (p : PageAt). p.frame)) (added_other pages r.pages n e) ∙ st.at_home (DataOf n) ∙ by_home (home_frame homes (DataOf n)) refl e
      by_found (Some p) e =
          let is : IsNewHome r homes after_h s (DataOf p.page) p.frame = found_in page_number (λ (p : PageAt). IsNewHome r homes after_h s (DataOf p.page) p.frame) pages n p (pages_new words r homes s mapping ready) e in
          let same : p.page ≡ n = found_number page_number pages n p e in
          ap (option_map (λ (p : PageAt). p.frame)) (added_here mapping.write (page_of mapping.va) n (take mapping.pages (free_in r)) r.pages p e) ∙ sym (ap (λ (m : ℕ). home_frame after_h (DataOf m)) (sym same) ∙ is.now)

  -- births
  raised_kept : s.births + mapping.pages ≤ sum_by (λ f. f.incarnation) after_r.frames.frames
  raised_kept =
      let can : AllByRecursion (λ (h : Tenant × ℕ). CanRise r.frames h.1) (news r mapping) = all_more (λ (h : Tenant × ℕ). IsNewHome r homes after_h s h.0 h.1) (λ (h : Tenant × ℕ). CanRise r.frames h.1) (λ h is. rises h.1 is.spare) (news r mapping) (all_new words r homes s mapping ready) in
      let sum : sum_by (λ f. f.incarnation) after_r.frames.frames ≡ sum_by (λ f. f.incarnation) r.frames.frames + data_count (news r mapping) = taken_sum (news r mapping) r.frames (news_apart words r homes s mapping ready) can in
      let count : data_count (news r mapping) ≡ mapping.pages = data_pages pages nodes ∙ all_placed words r homes s mapping ready in
      let before : s.births ≤ sum_by (λ f. f.incarnation) r.frames.frames = st.raised in
      omega arith
    where
      rises : (f : ℕ) → IsSpareFrame r homes s f → CanRise r.frames f
      rises f spare =
          let x = some_of (slice_get r.frames.frames f) (λ (y : Frame). y.state ≡ Free) spare.state in
          subst (λ (o : Option Frame). IsSomeAnd o (λ y. y.incarnation < r.frames.last_birth)) (sym x.1) (frame_at (λ (y : Frame). y.state ≡ Free → y.incarnation < r.frames.last_birth) r.frames.frames f x.0 ready.raised x.1 x.2)

  pub stands_recorded : StandsFor new after_r after_h after_s
  stands_recorded = record {
    sizes = record {
      of_records = st.sizes.of_records;
      of_words = (keeps words new r q homes s mapping st done whole).frames ∙ st.sizes.of_words;
      whole = whole ∙ ap word_count ((keeps words new r q homes s mapping st done whole).frames ∙ st.sizes.of_words);
      of_frames = taken_length (news r mapping) r.frames ∙ st.sizes.of_frames;
      last_birth = taken_last (news r mapping) r.frames ∙ st.sizes.last_birth;
    };
    zero_word = zero_stays words new r q homes s mapping st done whole ∙ st.zero_word;
    housed = are words r homes s mapping ready;
    at_home = home_kept;
    pages = pages_kept words new r q homes s mapping ready done whole;
    frames = frame_kept words new r q homes s mapping ready done whole;
    views = views_kept;
    born = λ g. st.born g ∙ sym (ap (option_map born_of) (got_reaching (numbers_of mapping) s.gens g) ∙ got_born (slice_get s.gens g) (numbers_of mapping));
    last = last_noted nodes r.views ∙ st.last ∙ ap (λ (k : ℕ). Some (k - 1)) (sym (length-map s.gens (reaching (numbers_of mapping))));
    births = ap (λ (k : ℕ). k + mapping.pages) st.births;
    raised = raised_kept;
  }

  pub stands_after : StandsFor new q (homes_in homes after_s) after_s
  stands_after =
      let records : q ≡ after_r = (keeps words new r q homes s mapping st done whole).records ∙ all_changes mapping.pages pages nodes r in
      subst (λ (h : Homes). StandsFor new q h after_s) (sym (laid words r homes s mapping ready)) (subst (λ (x : Records). StandsFor new x after_h after_s) (sym records) stands_recorded)

pub map_standing : MapStands
map_standing words new r q homes s mapping st tidy up may raised done whole = stands_after words new r q homes s mapping (record { stands = st; tidy = tidy; up = up; may = may; raised = raised }) done whole
