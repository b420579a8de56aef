-- An unmap of pages: they are Going, their leaves are cleared, and they are gone.
use Rattle.std.proofs.Common.{◌≡◌, ◌≢◌, ◌<◌, ◌+◌, ◌*◌, ◌/◌, ◌==◌, ◌++◌, ℕ, List, [], ◌∷◌, Bool, false, not, Option, Some, None, length, map, refl, sym, ap, subst, ◌∙◌, inl, inr, arith, is_some}
use Rattle.std.specs.Prelude.{IsSomeAnd, nat_lt, slice_get, unwrap_or}
use Rattle.std.specs.Option.{option_map}
use Rattle.std.specs.List.{AllByRecursion, filter, flat_map}
use Rattle.wf_outside.specs.Lists.{IsRising}
use Rattle.wf_frames.specs.declared.state.Frame.{Frame}
use Rattle.wf_frames.specs.FrameWords.{fields_of}
use Rattle.wf_frames.specs.Layout.{WordsValue, word_count}
use Rattle.wf_views.specs.declared.pages.PageAt.{PageAt}
use Rattle.wf_views.specs.declared.plan.Change.TheVariants as change
use Rattle.wf_views.specs.declared.plan.Piece.TheVariants.{Leave}
use Rattle.wf_views.specs.declared.records.Records.{Records}
use Rattle.wf_views.specs.Lists.{RoomyValue, found_by, has_number, itself}
use Rattle.wf_views.specs.Pages.{page_at}
use Rattle.wf_views.specs.Records.{left}
use Rattle.wf_views.specs.Views.{ViewValue, ViewsValue, forgets, generation_number, view_of}
use Rattle.wf_outside.specs.Pages.{LimitsValue}
use Rattle.wf_flat.specs.Memory.{data_in, has_met}
use Rattle.wf_flat.specs.State.{FlatState, PageState}
use Rattle.wf_flat.proofs.FoundLemmas.{key_of_found}
use Rattle.wf_effects.specs.Effects.{page_gone}
use Rattle.wf_homes.specs.Homes.{DataOf, Homes, NodeOf, TextOf, has_tenant, home_frame, without_page}
use Rattle.wf_homes.specs.Kept.{IsKeptPage, LiesIn, fields_at, record_of, recorded_frame}
use Rattle.wf_homes.specs.Stands.{StandsFor}
use Rattle.wf_homes.proofs.FoundLemmas.{at_some, some_more}
use Rattle.wf_homes.proofs.ListLemmas.{all_kept, all_map, all_more, true_or_false}
use Rattle.wf_homes.proofs.PlaceLemmas.{home_low}
use Rattle.wf_space.proofs.ClearLemmas.{clear_standing, met_gone}
use Rattle.wf_space.proofs.ForgetLemmas.{each_past, each_same, forget_in, forgot, gone_forgot, gone_keeps, gone_twice, left_forgot, left_keeps, left_twice, limits_of_state, pages_of_records, pages_of_state}
use Rattle.wf_space.proofs.GoingLemmas.{going_standing, gone_if}
use Rattle.wf_space.proofs.LeaveLemmas.{data_without, found_mapped, found_without, inc_left, leave_standing, met_none}
use Rattle.wf_space.proofs.MeetLemmas.{found_each, some_of}
use Rattle.wf_space.proofs.ZeroLemmas.{Steps, stepped, steps_word}
use Rattle.wf_space.specs.Changes.{with_change, with_changes}
use Rattle.wf_space.specs.Leaves.{node_for}
use Rattle.wf_space.specs.Leaving.{AreCleared, HasLeaf, IsInLast, MayForget, MayGo}
use Rattle.wf_space.specs.Pieces.{ArePerformed, Leaves, Performs, without_live}
use Rattle.wf_space.specs.Unmapping.{IsUnheld, MayUnmap, UnmapStands, each_done, homes_left, leaves_cleared, page_going, state_left, unmap_changes, wears}

-- Pages are Going.
pub data_going : (page : ℕ) (ps : List PageState) (q : ℕ) → data_in (map (gone_if page) ps) q ≡ option_map (gone_if page) (data_in ps q)
data_going page [] q = refl
data_going page (p ∷ ps) q = elim (true_or_false (p.number == page)) [
  | inl t ↦ (elim (true_or_false (p.number == q)) [
    | inl u ↦ (rw (t, u, t) refl)
    | inr u ↦ (rw (t, u) (data_going page ps q))
  ])
  | inr t ↦ (elim (true_or_false (p.number == q)) [
    | inl u ↦ (rw (t, u, t) refl)
    | inr u ↦ (rw (t, u) (data_going page ps q))
  ])
]

unheld_going : (page : ℕ) (p : PageState) → IsUnheld p → IsUnheld (gone_if page p)
unheld_going page p h = elim (true_or_false (p.number == page)) [
  | inl t ↦ (rw t (record { lasts = refl; free = h.free }))
  | inr t ↦ (rw t h)
]

low_going : (page : ℕ) (p : PageState) → p.number < 0x4000000 → (gone_if page p).number < 0x4000000
low_going page p h = elim (true_or_false (p.number == page)) [
  | inl t ↦ (rw t h)
  | inr t ↦ (rw t h)
]

-- what is kept of the pages of an unmap
pub record AreUnheld (s : FlatState) (ps : List ℕ) : Type 0 where
  pub there : AllByRecursion (λ page. IsSomeAnd (data_in s.pages page) IsUnheld) ps
  pub low : AllByRecursion (λ page. page.number < 0x4000000) s.pages
  pub met_low : AllByRecursion (λ pair. pair.1 < 0x4000000) s.met

pub going_unheld : (page : ℕ) (s : FlatState) (ps : List ℕ) → AreUnheld s ps → AreUnheld (page_going page s) ps
going_unheld page s ps are = record {
  there = all_more (λ q. IsSomeAnd (data_in s.pages q) IsUnheld) (λ q. IsSomeAnd (data_in (page_going page s).pages q) IsUnheld) (λ q h. rw (data_going page s.pages q) (mapped (data_in s.pages q) h)) ps are.there;
  low = all_map (λ p. p.number < 0x4000000) (λ p. p.number < 0x4000000) (gone_if page) (low_going page) s.pages are.low;
  met_low = are.met_low;
}
  where
    mapped : (o : Option PageState) → IsSomeAnd o IsUnheld → IsSomeAnd (option_map (gone_if page) o) IsUnheld
    mapped None h = h
    mapped (Some p) h = unheld_going page p h

pub record AreGoing (words : WordsValue) (r : Records) (homes : Homes) (s : FlatState) (ps : List ℕ) : Type 0 where
  pub stands : StandsFor words (with_changes r (unmap_changes ps)) homes (each_done page_going ps s)
  pub views : (with_changes r (unmap_changes ps)).views ≡ r.views
  pub records_limits : (with_changes r (unmap_changes ps)).limits ≡ r.limits
  pub limits : (each_done page_going ps s).limits ≡ s.limits

pub all_going : (ps : List ℕ) (words : WordsValue) (r : Records) (homes : Homes) (s : FlatState) → StandsFor words r homes s → AreUnheld s ps → AreGoing words r homes s ps
all_going [] words r homes s st are = record { stands = st; views = refl; records_limits = refl; limits = refl }
all_going (p ∷ ps) words r homes s st are =
    let x = some_of (data_in s.pages p) IsUnheld are.there.0 in
    let next : StandsFor words (with_change r (change.Going p)) homes (page_going p s) = going_standing words r homes s p x.0 st x.1 x.2.lasts in
    let kept : AreUnheld (page_going p s) ps = going_unheld p s ps (record { there = are.there.1; low = are.low; met_low = are.met_low }) in
    let rest = all_going ps words (with_change r (change.Going p)) homes (page_going p s) next kept in
    record { stands = rest.stands; views = rest.views; records_limits = rest.records_limits; limits = rest.limits }

pub unheld_after : (ps qs : List ℕ) (s : FlatState) → AreUnheld s qs → AreUnheld (each_done page_going ps s) qs
unheld_after [] qs s are = are
unheld_after (p ∷ ps) qs s are = unheld_after ps qs (page_going p s) (going_unheld p s qs are)

-- Leaves are cleared.
mapped_back : (d : ℕ) (o : Option ViewValue) (w : ViewValue) → option_map (forgets d) o ≡ Some w → (v : ViewValue) × (o ≡ Some v) × (forgets d v ≡ w)
mapped_back d None w e = absurd cc
mapped_back d (Some v) w e = (v, refl, cc)

leaf_back : (d p node : ℕ) (r : Records) → p ≢ d → HasLeaf (forgot d r) p node → HasLeaf r p node
leaf_back d p node r apart has =
    let v = mapped_back d (view_of r.views has.generation) has.view (sym (found_mapped generation_number (forgets d) (λ x. refl) r.views.views has.generation) ∙ has.there) in
    let stays : found_by itself (forgets d v.0).met.items p ≡ found_by itself v.0.met.items p = found_without itself v.0.met.items d p apart in
    record {
      generation = has.generation;
      view = v.0;
      there = v.1;
      met = sym (ap is_some stays) ∙ ap (λ (w : ViewValue). has_number w.met.items p) v.2 ∙ has.met;
      node_at = ap (λ (w : ViewValue). node_for w p) v.2 ∙ has.node_at;
    }

leaf_still : (d p node : ℕ) (r : Records) → p ≢ d → HasLeaf r p node → HasLeaf (forgot d r) p node
leaf_still d p node r apart has =
    let stays : found_by itself (forgets d has.view).met.items p ≡ found_by itself has.view.met.items p = found_without itself has.view.met.items d p apart in
    record {
      generation = has.generation;
      view = forgets d has.view;
      there = found_mapped generation_number (forgets d) (λ x. refl) r.views.views has.generation ∙ ap (option_map (forgets d)) has.there;
      met = ap is_some stays ∙ has.met;
      node_at = has.node_at;
    }

cleared_forgot : (d p : ℕ) (w n : WordsValue) (r : Records) → p ≢ d → AreCleared w n r p → AreCleared w n (forgot d r) p
cleared_forgot d p w n r apart are = record {
  frames = are.frames;
  size = are.size;
  cleared = λ node has. are.cleared node (leaf_back d p node r apart has);
  others = λ at far. are.others at (λ node has. far node (leaf_still d p node r apart has));
}

steps_forgot : (ps : List ℕ) (d : ℕ) (w n : WordsValue) (r : Records) → AllByRecursion (λ p. d < p) ps → Steps w n r ps → Steps w n (forgot d r) ps
steps_forgot [] d w n r all steps = steps
steps_forgot (p ∷ ps) d w n r all steps = (steps.0, cleared_forgot d p w steps.0 r (λ e. (let lt : d < p = all.0 in absurd (omega arith))) steps.1, steps_forgot ps d steps.0 n r all.1 steps.2)

pub record MayForgetAll (homes : Homes) (s : FlatState) (ps : List ℕ) : Type 0 where
  pub each : AllByRecursion (λ p. (p < 0x4000000) × ((g : ℕ) → home_frame homes (TextOf g p) ≡ None)) ps
  pub low : AllByRecursion (λ page. page.number < 0x4000000) s.pages
  pub met_low : AllByRecursion (λ pair. pair.1 < 0x4000000) s.met

pub record AreForgotten (n : WordsValue) (r : Records) (homes : Homes) (s : FlatState) (ps : List ℕ) : Type 0 where
  pub stands : StandsFor n (each_done forgot ps r) homes (each_done forget_in ps s)
  pub unmet : AllByRecursion (λ p. (g : ℕ) → has_met (each_done forget_in ps s).met g p ≡ false) ps

stays_unmet : (ps : List ℕ) (s : FlatState) (g p : ℕ) → has_met s.met g p ≡ false → has_met (each_done forget_in ps s).met g p ≡ false
stays_unmet [] s g p e = e
stays_unmet (q ∷ ps) s g p e = stays_unmet ps (forget_in q s) g p (met_none s.met q (g * 0x4000000 + p) e)

pub all_forgotten : (ps : List ℕ) (w n : WordsValue) (r : Records) (homes : Homes) (s : FlatState) → StandsFor w r homes s → MayForgetAll homes s ps → IsRising ps → Steps w n r ps → AreForgotten n r homes s ps
all_forgotten [] w n r homes s st may up e = record { stands = subst (λ (x : WordsValue). StandsFor x r homes s) (sym e) st; unmet = tt }
all_forgotten (p ∷ ps) w n r homes s st may up steps =
    let forget : MayForget homes s p = record { low = may.each.0.0; no_text = may.each.0.1; pages_low = may.low; met_low = may.met_low } in
    let next : StandsFor steps.0 (forgot p r) homes (forget_in p s) = clear_standing w steps.0 r homes s p st forget steps.1 in
    let kept : MayForgetAll homes (forget_in p s) ps = record {
      each = may.each.1;
      low = may.low;
      met_low = all_kept (λ pair. not (pair.1 == p)) (λ pair. pair.1 < 0x4000000) (λ pair. pair.1 < 0x4000000) (λ pair k lt. lt) s.met may.met_low;
    } in
    let rest = all_forgotten ps steps.0 n (forgot p r) homes (forget_in p s) next kept up.1 (steps_forgot ps p steps.0 n r up.0 steps.2) in
    record { stands = rest.stands; unmet = (λ g. stays_unmet ps (forget_in p s) g p (met_gone s.met p g may.met_low may.each.0.0), rest.unmet) }

-- Pages are gone.
pub record AreGone (words0 new : WordsValue) (r q : Records) (homes : Homes) (s : FlatState) (ps0 ps : List ℕ) : Type 0 where
  pub stands : StandsFor new (each_done forgot ps0 q) (homes_left words0 s.limits.last_birth homes ps) (each_done forget_in ps0 (state_left words0 homes s ps))
  pub records : AllByRecursion (λ p. forgot p q ≡ q) ps
  pub states : AllByRecursion (λ p. forget_in p (state_left words0 homes s ps) ≡ state_left words0 homes s ps) ps
  pub records_kept : (a : ℕ) → forgot a r ≡ r → forgot a q ≡ q
  pub states_kept : (a : ℕ) → forget_in a s ≡ s → forget_in a (state_left words0 homes s ps) ≡ state_left words0 homes s ps

pub still_there : (P : PageState → Type 0) (s : FlatState) (p : ℕ) (qs : List ℕ) → AllByRecursion (λ m. p < m) qs → AllByRecursion (λ q. IsSomeAnd (data_in s.pages q) P) qs
    → AllByRecursion (λ q. IsSomeAnd (data_in (filter (λ x. not (x.number == p)) s.pages) q) P) qs
still_there P s p [] up there = tt
still_there P s p (q ∷ qs) up there =
    let lt : p < q = up.0 in
    let e : data_in (filter (λ x. not (x.number == p)) s.pages) q ≡ data_in s.pages q = data_without s.pages p q (λ same. absurd (omega arith)) in
    (rw e there.0, still_there P s p qs up.1 there.1)

-- one page is gone
pub record IsGone (words0 w : WordsValue) (r : Records) (homes : Homes) (s : FlatState) (ps0 ps : List ℕ) : Type 0 where
  pub stands : StandsFor w (each_done forgot ps0 r) homes (each_done forget_in ps0 s)
  pub incs : (fr : ℕ) → fr < s.limits.frames → (fields_at w fr).inc ≡ (fields_at words0 fr).inc
  pub are : AreUnheld s ps
  pub unmet : AllByRecursion (λ m. (g : ℕ) → has_met (each_done forget_in ps0 s).met g m ≡ false) ps

-- and how it goes
pub record Goes (words0 words w : WordsValue) (r p : Records) (homes : Homes) (s : FlatState) (ps0 ps : List ℕ) (page : ℕ) : Type 0 where
  pub kept : PageAt
  pub number : kept.page ≡ page
  pub taken : Bool
  pub left_is : p ≡ left taken r kept
  pub next : IsGone words0 w p (without_page homes page (wears words0 s.limits.last_birth homes page)) (page_gone s page (wears words0 s.limits.last_birth homes page)) ps0 ps

pub one_gone : (page : ℕ) (ps ps0 : List ℕ) (words0 words w : WordsValue) (r q : Records) (homes : Homes) (s : FlatState) → IsGone words0 words r homes s ps0 (page ∷ ps) → AllByRecursion (λ m. page < m) ps
    → Performs words r (Leave page) w q → Goes words0 words w r q homes s ps0 ps page
one_gone page ps ps0 words0 words w r q homes s now up done =
    let st = now.stands in
    let are = now.are in
    let rv : Records = each_done forgot ps0 r in
    let sv : FlatState = each_done forget_in ps0 s in
    let x = some_of (data_in s.pages page) IsUnheld are.there.0 in
    let there : data_in sv.pages page ≡ Some x.0 = ap (λ (pages : List PageState). data_in pages page) (pages_of_state ps0 s) ∙ x.1 in
    let number : x.0.number ≡ page = key_of_found (λ (y : PageState). y.number) s.pages page x.0 x.1 in
    let h = some_of (home_frame homes (DataOf x.0.number)) (LiesIn words rv x.0) (found_each (IsKeptPage words rv homes) sv.pages page x.0 st.pages there) in
    let f : ℕ = h.0 in
    let home : home_frame homes (DataOf page) ≡ Some f = ap (λ (k : ℕ). home_frame homes (DataOf k)) (sym number) ∙ h.1 in
    let kept : PageAt = record_of x.0 f in
    let recorded : page_at r.pages page ≡ Some kept =
    ap (λ (pages : RoomyValue PageAt). page_at pages page) (sym (pages_of_records ps0 r)) ∙ ap (λ (k : ℕ). page_at rv.pages k) (sym number) ∙ h.2.recorded in
    let leaves : Leaves words w r q kept = at_some (page_at r.pages page) (Leaves words w r q) kept recorded done in
    let last : ℕ = s.limits.last_birth in
    let worn : Bool = wears words0 last homes page in
    let limits : sv.limits ≡ s.limits = limits_of_state ps0 s in
    let may : MayGo homes sv page f x.0 = record {
      there = there;
      home = home;
      free = x.2.free;
      unmet = now.unmet.0;
      low = subst (λ (pages : List PageState). AllByRecursion (λ other. other.number < 0x4000000) pages) (sym (pages_of_state ps0 s)) are.low;
    } in
    let f_low : f < sv.limits.frames = home_low homes sv (DataOf page) f st.housed.separate home in
    let inc_is : (fields_at words f).inc ≡ (fields_at words0 f).inc = now.incs f (subst (λ (l : LimitsValue). f < l.frames) limits f_low) in
    let worn_is : worn ≡ not (nat_lt (fields_at words0 f).inc last) = ap (λ (o : Option ℕ). unwrap_or (option_map (λ frame. not (nat_lt (fields_at words0 frame).inc last)) o) false) home in
    let last_is : last ≡ rv.frames.last_birth = sym (st.sizes.last_birth ∙ ap (λ (l : LimitsValue). l.last_birth) limits) in
    let in_last : IsInLast rv f worn = some_more (slice_get rv.frames.frames f) (λ (y : Frame). y.incarnation ≡ (fields_at words f).inc) (λ (y : Frame). worn ≡ not (nat_lt y.incarnation rv.frames.last_birth)) (λ y e inc.
    worn_is ∙ ap (λ (k : ℕ). not (nat_lt k last)) (sym (inc ∙ inc_is)) ∙ ap (λ (k : ℕ). not (nat_lt y.incarnation k)) last_is) (st.frames f f_low).incarnation in
    let taken : Bool = (fields_at words f).taken in
    let next_w : WordsValue = without_live words f in
    let next_r : Records = left taken r kept in
    let next_s : FlatState = page_gone s page worn in
    let next_h : Homes = without_page homes page worn in
    let r_is : left taken rv kept ≡ each_done forgot ps0 next_r = each_past forgot (λ (y : Records). left taken y kept) (λ a y. left_forgot taken kept a y) ps0 r in
    let s_is : page_gone sv page worn ≡ each_done forget_in ps0 next_s = each_past forget_in (λ (t : FlatState). page_gone t page worn) (λ a t. gone_forgot page worn a t) ps0 s in
    let stands : StandsFor next_w (left taken rv kept) next_h (page_gone sv page worn) = leave_standing words rv homes sv page f x.0 worn st may in_last in
    let next : StandsFor next_w (each_done forgot ps0 next_r) next_h (each_done forget_in ps0 next_s) =
    subst (λ (t : FlatState). StandsFor next_w (each_done forgot ps0 next_r) next_h t) s_is (subst (λ (y : Records). StandsFor next_w y next_h (page_gone sv page worn)) r_is stands) in
    record {
      kept = kept;
      number = number;
      taken = taken;
      left_is = leaves.records;
      next = record {
        stands = subst (λ (y : Records). StandsFor w (each_done forgot ps0 y) next_h (each_done forget_in ps0 next_s)) (sym leaves.records)
            (subst (λ (y : WordsValue). StandsFor y (each_done forgot ps0 next_r) next_h (each_done forget_in ps0 next_s)) (sym leaves.words) next);
        incs = λ fr lt. ap (λ (y : WordsValue). (fields_at y fr).inc) leaves.words ∙ inc_left words rv homes sv page f x.0 worn st may in_last fr ∙ now.incs fr lt;
        are = record {
          there = still_there IsUnheld s page ps up are.there.1;
          low = all_kept (λ o. not (o.number == page)) (λ o. o.number < 0x4000000) (λ o. o.number < 0x4000000) (λ o k lt. lt) s.pages are.low;
          met_low = all_kept (λ pair. not (pair.1 == page)) (λ pair. pair.1 < 0x4000000) (λ pair. pair.1 < 0x4000000) (λ pair k lt. lt) s.met are.met_low;
        };
        unmet = all_more (λ m. (g : ℕ) → has_met sv.met g m ≡ false) (λ m. (g : ℕ) → has_met (each_done forget_in ps0 next_s).met g m ≡ false)
            (λ m no g. ap (λ (t : FlatState). has_met t.met g m) (sym s_is) ∙ met_none sv.met page (g * 0x4000000 + m) (no g)) ps now.unmet.1;
      };
    }

pub all_gone : (ps ps0 : List ℕ) (words0 words new : WordsValue) (r q : Records) (homes : Homes) (s : FlatState) → IsGone words0 words r homes s ps0 ps → IsRising ps
    → ArePerformed words r (map Leave ps) new q → AreGone words0 new r q homes s ps0 ps
all_gone [] ps0 words0 words new r q homes s now up performed = record {
  stands = subst (λ (w : WordsValue). StandsFor w (each_done forgot ps0 q) homes (each_done forget_in ps0 s)) (sym performed.0)
      (subst (λ (p : Records). StandsFor words (each_done forgot ps0 p) homes (each_done forget_in ps0 s)) (sym performed.1) now.stands);
  records = tt;
  states = tt;
  records_kept = λ a e. subst (λ (p : Records). forgot a p ≡ p) (sym performed.1) e;
  states_kept = λ a e. e;
}
all_gone (p ∷ ps) ps0 words0 words new r q homes s now up performed =
    let worn : Bool = wears words0 s.limits.last_birth homes p in
    let goes = one_gone p ps ps0 words0 words performed.words r performed.records homes s now up.0 performed.done in
    let rest = all_gone ps ps0 words0 performed.words new performed.records q (without_page homes p worn) (page_gone s p worn) goes.next up.1 performed.rest in
    let gone : forgot p performed.records ≡ performed.records =
    subst (λ (y : Records). forgot p y ≡ y) (sym goes.left_is) (subst (λ (k : ℕ). forgot k (left goes.taken r goes.kept) ≡ left goes.taken r goes.kept) goes.number (left_twice goes.taken goes.kept r)) in
    record {
      stands = rest.stands;
      records = (rest.records_kept p gone, rest.records);
      states = (rest.states_kept p (gone_twice p worn s), rest.states);
      records_kept = λ a e. rest.records_kept a (subst (λ (y : Records). forgot a y ≡ y) (sym goes.left_is) (left_keeps goes.taken goes.kept a r e));
      states_kept = λ a e. rest.states_kept a (gone_keeps p worn a s e);
    }

-- The whole.
pub leaf_frame : (words : WordsValue) (r : Records) (homes : Homes) (s : FlatState) → StandsFor words r homes s → (p node : ℕ) → HasLeaf r p node → node < s.limits.frames
leaf_frame words r homes s st p node has =
    let there : recorded_frame r (NodeOf has.generation 0 (p / 512)) ≡ Some node = rw has.there has.node_at in
    home_low homes s (NodeOf has.generation 0 (p / 512)) node st.housed.separate (sym (st.at_home (NodeOf has.generation 0 (p / 512))) ∙ there)

no_homes : (words : WordsValue) (r : Records) (homes : Homes) (s : FlatState) → StandsFor words r homes s → AllByRecursion (λ page. page.number < 0x4000000) s.pages → (qs : List ℕ) → AllByRecursion (λ q. IsSomeAnd (data_in s.pages q) IsUnheld) qs
    → AllByRecursion (λ q. (g : ℕ) → has_tenant s (TextOf g q) ≡ false) qs → AllByRecursion (λ q. (q < 0x4000000) × ((g : ℕ) → home_frame homes (TextOf g q) ≡ None)) qs
no_homes words r homes s st low [] there none = tt
no_homes words r homes s st low (q ∷ qs) there none =
    let x = some_of (data_in s.pages q) IsUnheld there.0 in
    let number : x.0.number ≡ q = key_of_found (λ (y : PageState). y.number) s.pages q x.0 x.1 in
    let lt : x.0.number < 0x4000000 = found_each (λ (y : PageState). y.number < 0x4000000) s.pages q x.0 low x.1 in
    ((subst (λ (n : ℕ). n < 0x4000000) number lt, λ g. none_is (home_frame homes (TextOf g q)) (st.housed.each (TextOf g q) ∙ none.0 g)), no_homes words r homes s st low qs there.1 none.1)
  where
    none_is : (o : Option ℕ) → is_some o ≡ false → o ≡ None
    none_is None e = refl
    none_is (Some y) e = absurd cc

pub may_forget : (words : WordsValue) (r : Records) (homes : Homes) (s : FlatState) (pages : List ℕ) → StandsFor words r homes s → MayUnmap s pages → (s1 : FlatState) → AreUnheld s1 pages → MayForgetAll homes s1 pages
may_forget words r homes s pages st may s1 after = record { each = no_homes words r homes s st may.pages_low pages may.there may.no_text; low = after.low; met_low = after.met_low }

pub same_incs : (words mid : WordsValue) (r1 : Records) (homes : Homes) (s1 : FlatState) (pages : List ℕ) → StandsFor words r1 homes s1 → Steps words mid r1 pages → (fr : ℕ) → fr < s1.limits.frames → (fields_at mid fr).inc ≡ (fields_at words fr).inc
same_incs words mid r1 homes s1 pages st steps fr lt = ap (λ (w : ℕ). (fields_of w).inc) (steps_word pages words mid r1 fr (subst (λ (n : ℕ). fr < n) (sym st.sizes.of_words) lt) steps).1

pub unmap_standing : UnmapStands
unmap_standing words new r q homes s pages st may up views_up performed =
    let are : AreUnheld s pages = record { there = may.there; low = may.pages_low; met_low = may.met_low } in
    let going = all_going pages words r homes s st are in
    let r1 : Records = with_changes r (unmap_changes pages) in
    let s1 : FlatState = each_done page_going pages s in
    let after : AreUnheld s1 pages = unheld_after pages pages s are in
    let frames : words.frames ≡ r.limits.frames = st.sizes.of_words ∙ sym (ap (λ (l : LimitsValue). l.frames) st.sizes.of_records) in
    let whole : length words.items ≡ word_count r.limits.frames = st.sizes.whole ∙ ap (λ (l : LimitsValue). word_count l.frames) (sym st.sizes.of_records) in
    let views_up1 : IsRising (map generation_number r1.views.views) = subst (λ (v : ViewsValue). IsRising (map generation_number v.views)) (sym going.views) views_up in
    let low : (p node : ℕ) → HasLeaf r1 p node → node < r.limits.frames = (λ p node has.
    subst (λ (l : LimitsValue). node < l.frames) (going.limits ∙ sym st.sizes.of_records) (leaf_frame words r1 homes s1 going.stands p node has)) in
    let same_views : ArePerformed words r1 (flat_map (leaves_cleared r.limits.frames r1.views.views) pages ++ map Leave pages) new q =
    subst (λ (v : ViewsValue). ArePerformed words r1 (flat_map (leaves_cleared r.limits.frames v.views) pages ++ map Leave pages) new q) (sym going.views) performed in
    let z = stepped pages words r1 (map Leave pages) new q r.limits.frames frames whole views_up1 low same_views in
    let may_all : MayForgetAll homes s1 pages = may_forget words r homes s pages st may s1 after in
    let forgotten = all_forgotten pages words z.mid r1 homes s1 going.stands may_all up z.steps in
    let incs : (fr : ℕ) → fr < s1.limits.frames → (fields_at z.mid fr).inc ≡ (fields_at words fr).inc = same_incs words z.mid r1 homes s1 pages going.stands z.steps in
    let gone = all_gone pages pages words z.mid new r1 q homes s1 (record { stands = forgotten.stands; incs = incs; are = after; unmet = forgotten.unmet }) up z.rest in
    let records : each_done forgot pages q ≡ q = each_same forgot pages q gone.records in
    let states : each_done forget_in pages (state_left words homes s1 pages) ≡ state_left words homes s1 pages = each_same forget_in pages (state_left words homes s1 pages) gone.states in
    subst (λ (l : LimitsValue). StandsFor new q (homes_left words l.last_birth homes pages) (state_left words homes s1 pages)) going.limits
    (subst (λ (t : FlatState). StandsFor new q (homes_left words s1.limits.last_birth homes pages) t) states
    (subst (λ (y : Records). StandsFor new y (homes_left words s1.limits.last_birth homes pages) (each_done forget_in pages (state_left words homes s1 pages))) records gone.stands))
