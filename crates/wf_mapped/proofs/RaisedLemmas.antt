-- The frames of pages that come are in their next incarnation.
use Rattle.std.proofs.Common.{◌≡◌, ◌<◌, ◌+◌, ◌^◌, ◌==◌, ℕ, List, [], ◌∷◌, true, Some, map, sym, ap, ◌∙◌, inl, inr, arith}
use Rattle.std.specs.Prelude.{nat_lt, slice_get}
use Rattle.std.specs.Option.{option_map}
use Rattle.std.proofs.lemmas.Bool.Decides.{nat_tests}
use Rattle.wf_frames.specs.declared.state.Frame.{Frame}
use Rattle.wf_frames.specs.declared.state.FrameState.TheVariants.{Free}
use Rattle.wf_frames.specs.Layout.{WordsValue}
use Rattle.wf_views.specs.declared.pages.PageAt.{PageAt}
use Rattle.wf_views.specs.declared.records.Records.{Records}
use Rattle.wf_views.specs.Lists as views
use Rattle.wf_views.specs.Pages.{page_number}
use Rattle.wf_flat.specs.State.{FlatState}
use Rattle.wf_homes.specs.Homes.{DataOf, Homes, Tenant}
use Rattle.wf_homes.proofs.ListLemmas.{true_or_false}
use Rattle.wf_space.proofs.MeetLemmas.{some_of}
use Rattle.wf_space.specs.Changes.{marked}
use Rattle.wf_mapping.specs.declared.layout.Mapping.{Mapping}
use Rattle.wf_mapping.specs.declared.nodes.NewNode.{NewNode}
use Rattle.wf_mapping.specs.Laws.{node_home, page_home}
use Rattle.wf_mapping.specs.Layout.{new_nodes, new_pages}
use Rattle.wf_mapped.proofs.AnyLemmas.{AnyIs, any_left, any_mapped}
use Rattle.wf_mapped.proofs.ChangeLemmas.{frames_taken, is_data, recorded}
use Rattle.wf_mapped.proofs.HousedLemmas.{IsNewHome, IsReady, all_new, housed, new_home, news, news_apart}
use Rattle.wf_mapped.proofs.LookLemmas.{data_looked, one_tenant}
use Rattle.wf_mapped.proofs.TakenLemmas.{IsTakenAs, frame_at, taken_as}

-- a page that is found lies in its frame
found_any : (ps : List PageAt) (n f : ℕ) → option_map (λ (p : PageAt). p.frame) (views.found_by page_number ps n) ≡ Some f → AnyIs (λ (p : PageAt). p.frame ≡ f) ps
found_any [] n f e = absurd cc
found_any (p ∷ ps) n f e = elim (true_or_false (p.page == n)) [
  | inl t ↦ (let k : Some p.frame ≡ Some f = rw t at e in let same : p.frame ≡ f = cc in inl same)
  | inr t ↦ inr (found_any ps n f (rw t at e))
]

-- the frame of a page that comes, before it is taken and after
pub record IsRaisedFrame (r : Records) (mapping : Mapping) (fr : ℕ) : Type 0 where
  pub before : Frame
  pub there : slice_get r.frames.frames fr ≡ Some before
  pub now : slice_get (recorded mapping.pages (new_pages r mapping) (new_nodes r mapping) r).frames.frames fr ≡ Some (marked r.frames.last_birth true before)
  pub inc : (marked r.frames.last_birth true before).incarnation ≡ before.incarnation + 1
  pub low : before.incarnation + 1 < 2 ^ 23

module _ (words : WordsValue) (r : Records) (homes : Homes) (s : FlatState) (mapping : Mapping) (ready : IsReady words r homes s mapping) where
  abbrev after_h : Homes
  after_h = housed r homes mapping

  abbrev pages : List PageAt
  pages = new_pages r mapping

  abbrev nodes : List NewNode
  nodes = new_nodes r mapping

  abbrev last : ℕ
  last = r.frames.last_birth

  pub page_any : (n fr : ℕ) → IsNewHome r homes after_h s (DataOf n) fr → AnyIs (λ (p : PageAt). p.frame ≡ fr) pages
  page_any n fr is = found_any pages n fr (sym (data_looked n pages nodes) ∙ sym (new_home words r homes s mapping ready (DataOf n) is.before) ∙ is.now)

  pub raised_frame : (n fr : ℕ) → IsNewHome r homes after_h s (DataOf n) fr → IsRaisedFrame r mapping fr
  raised_frame n fr is =
      let any : AnyIs (λ (h : Tenant × ℕ). h.1 ≡ fr) (news r mapping) = any_left (λ (h : Tenant × ℕ). h.1 ≡ fr) (map page_home pages) (map node_home nodes) (any_mapped (λ (h : Tenant × ℕ). h.1 ≡ fr) page_home pages (page_any n fr is)) in
      let x = some_of (slice_get r.frames.frames fr) (λ (f : Frame). f.state ≡ Free) is.spare.state in
      let lt : x.0.incarnation < last = frame_at (λ (f : Frame). f.state ≡ Free → f.incarnation < last) r.frames.frames fr x.0 ready.raised x.1 x.2 in
      let t : nat_lt x.0.incarnation last ≡ true = grind (arith, nat_tests) in
      let inc : (marked last true x.0).incarnation ≡ x.0.incarnation + 1 = rw t (omega arith) in
      let same_last : last ≡ s.limits.last_birth = ready.stands.sizes.last_birth in
      let fits : s.limits.last_birth < 2 ^ 23 = ready.may.last_fits in
      record {
        before = x.0;
        there = x.1;
        now = taken_now (taken_as (news r mapping) r.frames (λ t f. IsNewHome r homes after_h s t f) fr (news_apart words r homes s mapping ready) (all_new words r homes s mapping ready) any) x.0 x.1;
        inc = inc;
        low = omega arith;
      }
    where
      taken_now : IsTakenAs (news r mapping) r.frames (λ t f. IsNewHome r homes after_h s t f) fr → (x : Frame) → slice_get r.frames.frames fr ≡ Some x → slice_get (frames_taken (news r mapping) r.frames).frames fr ≡ Some (marked last true x)
      taken_now took x e =
          let one : took.tenant ≡ DataOf n = one_tenant words r homes s mapping ready took.tenant (DataOf n) fr took.is.now is.now in
          took.frame ∙ ap (λ (t : Tenant). option_map (marked last (is_data t)) (slice_get r.frames.frames fr)) one ∙ ap (option_map (marked last true)) e
