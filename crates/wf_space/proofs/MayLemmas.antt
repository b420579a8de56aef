-- An unmap of pages may be carried out.
use Rattle.std.proofs.Common.{◌≡◌, ◌<◌, ◌==◌, ◌||◌, ◌++◌, ℕ, List, [], ◌∷◌, Bool, true, false, Option, Some, None, length, map, refl, sym, ap, subst, ◌∙◌, inl, inr, arith, is_some, nat_eq}
use Rattle.std.specs.Prelude.{IsSomeAnd}
use Rattle.std.specs.Option.{option_map}
use Rattle.std.specs.List.{AllByRecursion, flat_map}
use Rattle.std.specs.Map.{lookup, values_of}
use Rattle.std.specs.Set.{is_member}
use Rattle.std.proofs.lemmas.Bool.Decides.{nat_tests}
use Rattle.wf_outside.specs.Lists.{IsRising}
use Rattle.wf_outside.specs.Pages.{LimitsValue}
use Rattle.wf_frames.specs.declared.state.FrameState.TheVariants.{InUse}
use Rattle.wf_frames.specs.Frames.{FramesValue, HasState}
use Rattle.wf_frames.specs.Layout.{WordsValue, word_count}
use Rattle.wf_views.specs.declared.pages.PageAt.{PageAt}
use Rattle.wf_views.specs.declared.plan.Change.TheVariants as change
use Rattle.wf_views.specs.declared.plan.Piece.TheVariants.{Leave}
use Rattle.wf_views.specs.declared.records.Records.{Records}
use Rattle.wf_views.specs.Lists.{RoomyValue}
use Rattle.wf_views.specs.Pages.{page_at}
use Rattle.wf_views.specs.Views.{ViewsValue, generation_number}
use Rattle.wf_flat.specs.Accesses.{is_going}
use Rattle.wf_flat.specs.Memory.{data_in}
use Rattle.wf_flat.specs.State.{FlatState, PageState}
use Rattle.wf_flat.proofs.FoundLemmas.{key_of_found}
use Rattle.wf_effects.specs.Effects.{page_gone}
use Rattle.wf_homes.specs.Homes.{DataOf, Homes, Tenant, home_frame, is_home, same_tenant, without_page}
use Rattle.wf_homes.specs.Kept.{IsKeptPage, LiesIn, record_of, state_of}
use Rattle.wf_homes.specs.Stands.{StandsFor}
use Rattle.wf_homes.proofs.FoundLemmas.{some_at}
use Rattle.wf_homes.proofs.ListLemmas.{all_more, true_or_false}
use Rattle.wf_homes.proofs.PlaceLemmas.{home_low}
use Rattle.wf_space.proofs.ForgetLemmas.{forget_in, forgot, frames_of_records, pages_of_records, pages_of_state}
use Rattle.wf_space.proofs.GoingLemmas.{going_standing, gone_if}
use Rattle.wf_space.proofs.MeetLemmas.{found_each, some_of}
use Rattle.wf_space.proofs.UnmapLemmas.{AreUnheld, IsGone, all_forgotten, all_going, data_going, going_unheld, leaf_frame, may_forget, one_gone, same_incs, still_there, unheld_after}
use Rattle.wf_space.proofs.ZeroLemmas.{Steps, steps_may}
use Rattle.wf_space.specs.Changes.{MayNote, with_change, with_changes}
use Rattle.wf_space.specs.Leaving.{HasLeaf}
use Rattle.wf_space.specs.Pieces.{MayPerform, MayPerformAll}
use Rattle.wf_space.specs.Unmapping.{CanUnmap, IsUnheld, MayUnmap, each_done, leaves_cleared, page_going, unmap_changes, wears}

-- pages can be going
pub going_may : (ps : List ℕ) (words : WordsValue) (r : Records) (homes : Homes) (s : FlatState) → StandsFor words r homes s → AreUnheld s ps → MayNote r (unmap_changes ps)
going_may [] words r homes s st are = tt
going_may (p ∷ ps) words r homes s st are =
    let x = some_of (data_in s.pages p) IsUnheld are.there.0 in
    let number : x.0.number ≡ p = key_of_found (λ (y : PageState). y.number) s.pages p x.0 x.1 in
    let h = some_of (home_frame homes (DataOf x.0.number)) (LiesIn words r x.0) (found_each (IsKeptPage words r homes) s.pages p x.0 st.pages x.1) in
    let there : page_at r.pages p ≡ Some (record_of x.0 h.0) = ap (λ (k : ℕ). page_at r.pages k) (sym number) ∙ h.2.recorded in
    let next : StandsFor words (with_change r (change.Going p)) homes (page_going p s) = going_standing words r homes s p x.0 st x.1 x.2.lasts in
    (ap is_some there, going_may ps words (with_change r (change.Going p)) homes (page_going p s) next (going_unheld p s ps (record { there = are.there.1; low = are.low; met_low = are.met_low })))

-- a home is in use
home_used : (t : Tenant) (homes : List (Tenant × ℕ)) (f : ℕ) → lookup (same_tenant t) homes ≡ Some f → is_member nat_eq (values_of homes) f ≡ true
home_used t [] f e = absurd cc
home_used t (home ∷ homes) f e = elim (true_or_false (same_tenant t home.0)) [
  | inl u ↦ (
      let k : Some home.1 ≡ Some f = (rw u at e) in
      let same : home.1 ≡ f = cc in
      let w : nat_eq f home.1 ≡ true = grind (arith, nat_tests) in
      rw w refl
      )
  | inr u ↦ or_right (nat_eq f home.1) (is_member nat_eq (values_of homes) f) (home_used t homes f (rw u at e))
]
  where
    or_right : (a b : Bool) → b ≡ true → (a || b) ≡ true
    or_right true b e = refl
    or_right false b e = e

abbrev Goes : PageState → Type 0
Goes p = is_going p.stage ≡ true

-- a page that is going can leave
leave_may : (page : ℕ) (ps ps0 : List ℕ) (words0 words : WordsValue) (r : Records) (homes : Homes) (s : FlatState) → IsGone words0 words r homes s ps0 (page ∷ ps) → IsSomeAnd (data_in s.pages page) Goes → MayPerform words r (Leave page)
leave_may page ps ps0 words0 words r homes s now going =
    let st = now.stands in
    let rv : Records = each_done forgot ps0 r in
    let sv : FlatState = each_done forget_in ps0 s in
    let x = some_of (data_in s.pages page) Goes going in
    let there : data_in sv.pages page ≡ Some x.0 = ap (λ (pages : List PageState). data_in pages page) (pages_of_state ps0 s) ∙ x.1 in
    let number : x.0.number ≡ page = key_of_found (λ (y : PageState). y.number) s.pages page x.0 x.1 in
    let h = some_of (home_frame homes (DataOf x.0.number)) (LiesIn words rv x.0) (found_each (IsKeptPage words rv homes) sv.pages page x.0 st.pages there) in
    let f : ℕ = h.0 in
    let kept : PageAt = record_of x.0 f in
    let recorded : page_at r.pages page ≡ Some kept =
    ap (λ (pages : RoomyValue PageAt). page_at pages page) (sym (pages_of_records ps0 r)) ∙ ap (λ (k : ℕ). page_at rv.pages k) (sym number) ∙ h.2.recorded in
    let f_low : f < sv.limits.frames = home_low homes sv (DataOf x.0.number) f st.housed.separate h.1 in
    let used : is_home homes f ≡ true = home_used (DataOf x.0.number) homes.homes f h.1 in
    let in_use : state_of homes f ≡ InUse = rw used refl in
    let state : HasState rv.frames.frames f InUse = subst (HasState rv.frames.frames f) in_use (st.frames f f_low).state in
    let state_now : HasState r.frames.frames f InUse = subst (λ (v : FramesValue). HasState v.frames f InUse) (frames_of_records ps0 r) state in
    let low : f < words.frames = subst (λ (n : ℕ). f < n) (sym st.sizes.of_words) f_low in (
      some_at (page_at r.pages page) (λ (y : PageAt). (y.going ≡ true) × HasState r.frames.frames y.frame InUse) kept recorded (x.2, state_now),
      some_at (page_at r.pages page) (λ (y : PageAt). y.frame < words.frames) kept recorded low,
    )

pub leaves_may : (ps ps0 : List ℕ) (words0 words : WordsValue) (r : Records) (homes : Homes) (s : FlatState) → IsGone words0 words r homes s ps0 ps → AllByRecursion (λ p. IsSomeAnd (data_in s.pages p) Goes) ps → IsRising ps → MayPerformAll words r (map Leave ps)
leaves_may [] ps0 words0 words r homes s now going up = tt
leaves_may (p ∷ ps) ps0 words0 words r homes s now going up =
    let worn : Bool = wears words0 s.limits.last_birth homes p in (
      leave_may p ps ps0 words0 words r homes s now going.0,
      λ next q done. leaves_may ps ps0 words0 next q (without_page homes p worn) (page_gone s p worn) (one_gone p ps ps0 words0 words next r q homes s now up.0 done).next (still_there Goes s p ps up.0 going.1) up.1,
    )

-- all pages of an unmap are Going
keeps_going : (page : ℕ) (s : FlatState) (qs : List ℕ) → AllByRecursion (λ q. IsSomeAnd (data_in s.pages q) Goes) qs → AllByRecursion (λ q. IsSomeAnd (data_in (page_going page s).pages q) Goes) qs
keeps_going page s qs all = all_more (λ q. IsSomeAnd (data_in s.pages q) Goes) (λ q. IsSomeAnd (data_in (page_going page s).pages q) Goes) (λ q h. rw (data_going page s.pages q) (mapped (data_in s.pages q) h)) qs all
  where
    mapped : (o : Option PageState) → IsSomeAnd o Goes → IsSomeAnd (option_map (gone_if page) o) Goes
    mapped None h = h
    mapped (Some p) h = elim (true_or_false (p.number == page)) [
      | inl t ↦ (rw t refl)
      | inr t ↦ (rw t h)
    ]

still_going : (ps : List ℕ) (s : FlatState) (q : ℕ) → IsSomeAnd (data_in s.pages q) Goes → IsSomeAnd (data_in (each_done page_going ps s).pages q) Goes
still_going [] s q h = h
still_going (p ∷ ps) s q h = still_going ps (page_going p s) q (keeps_going p s (q ∷ []) (h, tt)).0

are_going : (ps : List ℕ) (s : FlatState) → AllByRecursion (λ q. IsSomeAnd (data_in s.pages q) IsUnheld) ps → AreUnheld s ps → AllByRecursion (λ q. IsSomeAnd (data_in (each_done page_going ps s).pages q) Goes) ps
are_going [] s there are = tt
are_going (p ∷ ps) s there are =
    let next : AreUnheld (page_going p s) ps = going_unheld p s ps (record { there = are.there.1; low = are.low; met_low = are.met_low }) in
    let x = some_of (data_in s.pages p) IsUnheld there.0 in
    let number : x.0.number ≡ p = key_of_found (λ (y : PageState). y.number) s.pages p x.0 x.1 in
    let t : (x.0.number == p) ≡ true = grind (arith, nat_tests) in
    let first : data_in (page_going p s).pages p ≡ Some (gone_if p x.0) = data_going p s.pages p ∙ ap (option_map (gone_if p)) x.1 in
    let goes : Goes (gone_if p x.0) = rw t refl in
    (still_going ps (page_going p s) p (some_at (data_in (page_going p s).pages p) Goes (gone_if p x.0) first goes), are_going ps (page_going p s) next.there next)

pub unmap_may : (words : WordsValue) (r : Records) (homes : Homes) (s : FlatState) (pages : List ℕ) → StandsFor words r homes s → MayUnmap s pages → IsRising pages → IsRising (map generation_number r.views.views)
    → CanUnmap words r pages
unmap_may words r homes s pages st may up views_up =
    let are : AreUnheld s pages = record { there = may.there; low = may.pages_low; met_low = may.met_low } in
    let going = all_going pages words r homes s st are in
    let r1 : Records = with_changes r (unmap_changes pages) in
    let s1 : FlatState = each_done page_going pages s in
    let after : AreUnheld s1 pages = unheld_after pages pages s are in
    let frames : words.frames ≡ r.limits.frames = st.sizes.of_words ∙ sym (ap (λ (l : LimitsValue). l.frames) st.sizes.of_records) in
    let whole : length words.items ≡ word_count r.limits.frames = st.sizes.whole ∙ ap (λ (l : LimitsValue). word_count l.frames) (sym st.sizes.of_records) in
    let views_up1 : IsRising (map generation_number r1.views.views) = subst (λ (v : ViewsValue). IsRising (map generation_number v.views)) (sym going.views) views_up in
    let low : (p node : ℕ) → HasLeaf r1 p node → node < r.limits.frames = (λ p node has.
    subst (λ (l : LimitsValue). node < l.frames) (going.limits ∙ sym st.sizes.of_records) (leaf_frame words r1 homes s1 going.stands p node has)) in
    let behind : (mid : WordsValue) → Steps words mid r1 pages → MayPerformAll mid r1 (map Leave pages) = (λ mid steps. (
    let forgotten = all_forgotten pages words mid r1 homes s1 going.stands (may_forget words r homes s pages st may s1 after) up steps in
    leaves_may pages pages words mid r1 homes s1 (record { stands = forgotten.stands; incs = same_incs words mid r1 homes s1 pages going.stands steps; are = after; unmet = forgotten.unmet }) (are_going pages s may.there are) up
    )) in
    let pieces : MayPerformAll words r1 (flat_map (leaves_cleared r.limits.frames r1.views.views) pages ++ map Leave pages) = steps_may pages words r1 (map Leave pages) r.limits.frames frames whole views_up1 low behind in
    record { changes = going_may pages words r homes s st are; pieces = subst (λ (v : ViewsValue). MayPerformAll words r1 (flat_map (leaves_cleared r.limits.frames v.views) pages ++ map Leave pages)) going.views pieces }
