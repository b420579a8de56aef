-- Each page, frame and view of a state at the start is kept.
use Rattle.std.proofs.Common.{◌≡◌, ◌<◌, ◌≤◌, ◌+◌, ◌-◌, ◌==◌, ◌++◌, ℕ, zero, suc, List, [], ◌∷◌, true, false, not, Some, length, refl, sym, ap, subst, ◌∙◌, arith, is_some, length-append}
use Rattle.std.specs.Prelude.{nat_le, nat_lt, slice_get, slice_index}
use Rattle.std.specs.List.{AllByRecursion, IsDistinct}
use Rattle.std.proofs.lemmas.Bool.Decides.{nat_tests}
use Rattle.std.proofs.lemmas.List.{length-map}
use Rattle.wf_outside.specs.Images.{text_numbers}
use Rattle.wf_outside.specs.Lists.{IsRising}
use Rattle.wf_outside.specs.Pages.{PageValue}
use Rattle.wf_frames.specs.Layout.{WordsValue, frame_word_place}
use Rattle.wf_views.specs.declared.pages.PageAt.{PageAt}
use Rattle.wf_views.specs.declared.records.Records.{Records}
use Rattle.wf_views.specs.Lists.{found_by}
use Rattle.wf_views.specs.Pages.{page_number}
use Rattle.wf_views.specs.Views.{ViewValue}
use Rattle.wf_flat.specs.declared.state.Stage.{Stage}
use Rattle.wf_flat.specs.Accesses.{is_ending}
use Rattle.wf_flat.specs.Counts.{used_of}
use Rattle.wf_flat.specs.Ordered.{page_numbers}
use Rattle.wf_flat.specs.State.{FlatState, GenState, PageState}
use Rattle.wf_homes.specs.Homes.{AreHomes, AreSeparate, DataOf, Homes, NodeOf, Tenant, TextOf, home_frame, same_tenant, tenants_of, tree_nodes}
use Rattle.wf_homes.specs.Kept.{IsKeptPage, LiesIn, record_of}
use Rattle.wf_homes.proofs.CountLemmas.{tenants_counted, tenants_length}
use Rattle.wf_homes.proofs.FoundLemmas.{some_at}
use Rattle.wf_homes.proofs.HomeLemmas.{homes_made}
use Rattle.wf_start.specs.Layout.{pages_from}
use Rattle.wf_start.specs.Start.{AreFirstRecords, AreFirstWords, IsFirst, IsFirstView, IsFreshPage, data_first, nodes_first}
use Rattle.wf_start.proofs.PairLemmas.{all_places, at_place, place_back, place_front, place_mapped, there_in}
use Rattle.wf_start.proofs.StandLemmas.{datas, datas_length, homes_are, made, nodes, tenants_are, texts, texts_length}

-- the record of a page at a place
found_from : (a : ℕ) (ps : List PageState) (j : ℕ) (p : PageState) → IsRising (page_numbers ps) → slice_get ps j ≡ Some p → found_by page_number (pages_from a ps) p.number ≡ Some (record_of p (a + j))
found_from a [] j p up e = absurd cc
found_from a (q ∷ ps) zero p up e =
    let k : Some q ≡ Some p = e in
    let same : p ≡ q = cc in
    let z : a ≡ a + 0 = omega arith in
    let t : (q.number == q.number) ≡ true = grind (arith, nat_tests) in
    rw same (rw t (ap (λ (n : ℕ). Some (record_of q n)) z))
found_from a (q ∷ ps) (suc j) p up e =
    let lt : q.number < p.number = at_place (λ n. q.number < n) (page_numbers ps) j p.number up.0 (place_mapped (λ (r : PageState). r.number) ps j p e) in
    let apart : (q.number == p.number) ≡ false = grind (arith, nat_tests) in
    let z : a + 1 + j ≡ a + suc j = omega arith in
    rw apart (found_from (a + 1) ps j p up.1 e ∙ ap (λ (n : ℕ). Some (record_of p n)) z)

module _ (s : FlatState) (gen : GenState) (harts : ℕ) (view : ViewValue) (r : Records) (words : WordsValue) (first : IsFirst s gen harts) (fv : IsFirstView s gen harts view) (fr : AreFirstRecords s gen view r) (fw : AreFirstWords s gen view words) where
  abbrev pub homes : Homes
  homes = made s gen harts view r first fv fr

  pub housed : AreHomes homes s
  unfolding IsDistinct
  housed =
      let none : Homes = record { homes = []; worn = [] } in
      let apart : AreSeparate none s = record { once = tt; apart = tt; low = tt; counted = sym first.unworn } in
      let few : used_of s + s.worn ≤ s.limits.frames = (let w : s.worn ≡ 0 = first.unworn in let u : used_of s ≤ s.limits.frames = first.fits in omega arith) in
      subst (λ (h : Homes). AreHomes h s) (homes_are s gen harts view r first fv fr) (homes_made none s apart (tenants_counted s first.tidy) few)

  once : IsDistinct same_tenant (tenants_of s)
  once = (tenants_counted s first.tidy).once

  -- each tenant has the frame of its place
  place_is : (k : ℕ) (t : Tenant) → slice_get ((texts s gen harts view r first fv fr ++ datas s gen harts view r first fv fr) ++ nodes s gen harts view r first fv fr) k ≡ Some t → home_frame homes t ≡ Some k
  place_is k t e = there_in t 0 (tenants_of s) k once (ap (λ (ts : List Tenant). slice_get ts k) (tenants_are s gen harts view r first fv fr) ∙ e) ∙ (let z : 0 + k ≡ k = omega arith in ap Some z)

  pub text_at : (j : ℕ) (p : PageValue) → slice_get gen.text j ≡ Some p → home_frame homes (TextOf 0 p.number) ≡ Some j
  text_at j p e =
      let a : slice_get (texts s gen harts view r first fv fr) j ≡ Some (TextOf 0 p.number) = place_mapped (TextOf 0) (text_numbers gen.text) j p.number (place_mapped (λ (q : PageValue). q.number) gen.text j p e) in
      let both : List Tenant = texts s gen harts view r first fv fr ++ datas s gen harts view r first fv fr in
      place_is j (TextOf 0 p.number) (place_front both (nodes s gen harts view r first fv fr) j (TextOf 0 p.number) (place_front (texts s gen harts view r first fv fr) (datas s gen harts view r first fv fr) j (TextOf 0 p.number) a))

  pub data_at : (j : ℕ) (p : PageState) → slice_get s.pages j ≡ Some p → home_frame homes (DataOf p.number) ≡ Some (data_first gen + j)
  data_at j p e =
      let a : slice_get (datas s gen harts view r first fv fr) j ≡ Some (DataOf p.number) = place_mapped (λ (q : PageState). DataOf q.number) s.pages j p e in
      let both : List Tenant = texts s gen harts view r first fv fr ++ datas s gen harts view r first fv fr in
      let at : length (texts s gen harts view r first fv fr) + j ≡ data_first gen + j = ap (λ (n : ℕ). n + j) (texts_length s gen harts view r first fv fr) in
      let b : slice_get both (length (texts s gen harts view r first fv fr) + j) ≡ Some (DataOf p.number) = place_back (texts s gen harts view r first fv fr) (datas s gen harts view r first fv fr) j ∙ a in
      place_is (data_first gen + j) (DataOf p.number) (ap (slice_get (both ++ nodes s gen harts view r first fv fr)) (sym at) ∙ place_front both (nodes s gen harts view r first fv fr) (length (texts s gen harts view r first fv fr) + j) (DataOf p.number) b)

  pub node_at : (j : ℕ) (n : ℕ × ℕ) → slice_get (tree_nodes gen.reach) j ≡ Some n → home_frame homes (NodeOf 0 n.0 n.1) ≡ Some (nodes_first s gen + j)
  node_at j n e =
      let a : slice_get (nodes s gen harts view r first fv fr) j ≡ Some (NodeOf 0 n.0 n.1) = place_mapped (λ (m : ℕ × ℕ). NodeOf 0 m.0 m.1) (tree_nodes gen.reach) j n e in
      let both : List Tenant = texts s gen harts view r first fv fr ++ datas s gen harts view r first fv fr in
      let two : length both ≡ length (texts s gen harts view r first fv fr) + length (datas s gen harts view r first fv fr) = length-append (texts s gen harts view r first fv fr) (datas s gen harts view r first fv fr) in
      let at : length both + j ≡ nodes_first s gen + j = omega (arith, texts_length s gen harts view r first fv fr, datas_length s gen harts view r first fv fr) in
      place_is (nodes_first s gen + j) (NodeOf 0 n.0 n.1) (ap (slice_get (both ++ nodes s gen harts view r first fv fr)) (sym at) ∙ place_back both (nodes s gen harts view r first fv fr) j ∙ a)

  -- as many are in use as there are pages and nodes
  pub used_is : used_of s ≡ nodes_first s gen + length (tree_nodes gen.reach)
  used_is =
      let both : List Tenant = texts s gen harts view r first fv fr ++ datas s gen harts view r first fv fr in
      let a : length (tenants_of s) ≡ used_of s = tenants_length s in
      let b : length (tenants_of s) ≡ length (both ++ nodes s gen harts view r first fv fr) = ap length (tenants_are s gen harts view r first fv fr) in
      let c : length (both ++ nodes s gen harts view r first fv fr) ≡ length both + length (nodes s gen harts view r first fv fr) = length-append both (nodes s gen harts view r first fv fr) in
      let d : length both ≡ length (texts s gen harts view r first fv fr) + length (datas s gen harts view r first fv fr) = length-append (texts s gen harts view r first fv fr) (datas s gen harts view r first fv fr) in
      let e : length (nodes s gen harts view r first fv fr) ≡ length (tree_nodes gen.reach) = length-map (tree_nodes gen.reach) (λ (m : ℕ × ℕ). NodeOf 0 m.0 m.1) in
      omega (arith, texts_length s gen harts view r first fv fr, datas_length s gen harts view r first fv fr)

  -- the frame word of a frame of data, and of another
  data_low : (j : ℕ) → j < length s.pages → data_first gen + j < s.limits.frames
  data_low j lt = (let u : used_of s ≤ s.limits.frames = first.fits in omega (arith, used_is))

  data_word : (j : ℕ) → j < length s.pages → slice_index words.items (frame_word_place (data_first gen + j)) ≡ 0x8000010000000000
  data_word j lt =
      let a : nat_le (data_first gen) (data_first gen + j) ≡ true = grind (arith, nat_tests) in
      let b : nat_lt (data_first gen + j) (nodes_first s gen) ≡ true = grind (arith, nat_tests) in
      fw.frame_words (data_first gen + j) (data_low j lt) ∙ rw (a, b) refl

  -- pages of data
  page_low : (j : ℕ) (p : PageState) → slice_get s.pages j ≡ Some p → j < length s.pages
  page_low j p e = place_low s.pages j e
    where
      place_low : (ps : List PageState) (k : ℕ) → slice_get ps k ≡ Some p → k < length ps
      place_low [] k e = absurd cc
      place_low (q ∷ ps) zero e = omega arith
      place_low (q ∷ ps) (suc k) e = (let lt : k < length ps = place_low ps k e in omega arith)

  page_lies : (j : ℕ) (p : PageState) → slice_get s.pages j ≡ Some p → LiesIn words r p (data_first gen + j)
  page_lies j p e =
      let fresh : IsFreshPage p = at_place IsFreshPage s.pages j p first.fresh e in
      let w : slice_index words.items (frame_word_place (data_first gen + j)) ≡ 0x8000010000000000 = data_word j (page_low j p e) in
      record {
        recorded = ap (λ (ps : List PageAt). found_by page_number ps p.number) fr.pages ∙ found_from (data_first gen) s.pages j p first.tidy.ordered.pages e;
        same_words = fw.data_pages j p e;
        writes = rw w (sym fresh.unwritten);
        taken = rw w (sym (ap is_some fresh.free));
        live = rw w (sym (ap (λ (stage : Stage). not (is_ending stage)) fresh.here));
      }

  pub pages_kept : AllByRecursion (IsKeptPage words r homes) s.pages
  pages_kept = all_places (IsKeptPage words r homes) s.pages (λ j p e. some_at (home_frame homes (DataOf p.number)) (LiesIn words r p) (data_first gen + j) (data_at j p e) (page_lies j p e))
