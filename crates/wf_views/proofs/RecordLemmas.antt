-- A data page leaves the records.
use Rattle.std.proofs.Common.{◌≡◌, ◌<◌, ◌∙◌, ℕ, Bool, true, false, Option, Some, None, length, refl, sym, ap, subst, arith}
use Rattle.std.specs.Prelude.{IsSomeAnd}
use Rattle.wf_frames.specs.declared.state.FrameState.TheVariants.{InUse}
use Rattle.wf_frames.specs.Frames.{FramesValue, with_frame, given}
use Rattle.wf_frames.proofs.FrameLemmas.{has_lt, length_changed}
use Rattle.wf_views.specs.declared.pages.PageAt.{PageAt}
use Rattle.wf_views.specs.declared.records.Records.{Records}
use Rattle.wf_views.specs.Lists.{RoomyValue}
use Rattle.wf_views.specs.Views.{ViewsValue, forgotten}
use Rattle.wf_views.specs.Pages.{page_at, page_number, page_changed, page_removed, made_ending}
use Rattle.wf_views.specs.Records.{gone, left, HasFrame}
use Rattle.wf_views.proofs.KeyLemmas.{key_of_found}

-- one fact of what is there leads to another
pub some_map : (o : Option PageAt) (P Q : PageAt → Type 0) → IsSomeAnd o P → ((p : PageAt) → o ≡ Some p → P p → Q p) → IsSomeAnd o Q
some_map None P Q h f = absurd h
some_map (Some p) P Q h f = f p refl h

-- the frame of a page is one of the frames, also when it was given back
pub still_there : (r : Records) (fs : FramesValue) (page : ℕ) (p : PageAt) (f : ℕ) → Some p ≡ page_at r.pages page → IsSomeAnd (page_at r.pages page) (λ q. HasFrame r q) → fs ≡ with_frame r.frames p.frame (given f) → p.frame < length fs.frames
still_there r fs page p f e h same =
    let kept = subst (λ o. IsSomeAnd o (λ q. HasFrame r q)) (sym e) h in
    let lt = has_lt r.frames.frames p.frame InUse kept in
    let len = ap (λ (v : FramesValue). length v.frames) same ∙ length_changed r.frames.frames p.frame (given f) in
    omega arith

-- a page is gone
pub is_gone : (r : Records) (fs : FramesValue) (ps : RoomyValue PageAt) (page : ℕ) (p : PageAt) → Some p ≡ page_at r.pages page → fs ≡ with_frame r.frames p.frame (given r.frames.last_birth) → ps ≡ page_removed page r.pages
    → IsSomeAnd (page_at r.pages page) (λ q. record r { frames = fs; pages = ps } ≡ gone r q)
is_gone r fs ps page p e f g =
    let key = key_of_found page_number r.pages.items page p (sym e) in
    let pages = g ∙ ap (λ n. page_removed n r.pages) (sym key) in
    let is : record r { frames = fs; pages = ps } ≡ gone r p = λ i. record r { frames = f i; pages = pages i } in
    subst (λ o. IsSomeAnd o (λ q. record r { frames = fs; pages = ps } ≡ gone r q)) e is

-- a page that a hart holds leaves
pub left_held : (r : Records) (vs : ViewsValue) (ps : RoomyValue PageAt) (page : ℕ) (held : Bool) (P : PageAt → Type 0) → IsSomeAnd (page_at r.pages page) P → held ≡ true → vs ≡ forgotten page r.views → ps ≡ page_changed page made_ending r.pages
    → IsSomeAnd (page_at r.pages page) (λ q. record r { views = vs; pages = ps } ≡ left held r q)
left_held r vs ps page held P h t f g = some_map (page_at r.pages page) P _ h (λ p e _.
    let key = key_of_found page_number r.pages.items page p e in
    let views = f ∙ ap (λ n. forgotten n r.views) (sym key) in
    let pages = g ∙ ap (λ n. page_changed n made_ending r.pages) (sym key) in
    let is : record r { views = vs; pages = ps } ≡ left true r p = λ i. record r { views = views i; pages = pages i } in
    subst (λ b. record r { views = vs; pages = ps } ≡ left b r p) (sym t) is)

-- a page that no hart holds leaves
pub left_free : (r s : Records) (vs : ViewsValue) (page : ℕ) (held : Bool) → held ≡ false → vs ≡ forgotten page r.views → IsSomeAnd (page_at r.pages page) (λ p. s ≡ gone (record r { views = vs }) p) → IsSomeAnd (page_at r.pages page) (λ q. s ≡ left held r q)
left_free r s vs page held t f h = some_map (page_at r.pages page) (λ p. s ≡ gone (record r { views = vs }) p) _ h (λ p e g.
    let key = key_of_found page_number r.pages.items page p e in
    let views = f ∙ ap (λ n. forgotten n r.views) (sym key) in
    let is : s ≡ left false r p = g ∙ ap (λ (v : ViewsValue). gone (record r { views = v }) p) views in
    subst (λ b. s ≡ left b r p) (sym t) is)
