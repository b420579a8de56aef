-- A generation meets a page.
use Rattle.std.proofs.Common.{◌≡◌, ◌==◌, ◌<◌, ◌%◌, ℕ, zero, suc, List, [], ◌∷◌, Option, Some, None, Bool, true, false, is_some, length, map, refl, sym, subst, ap, ◌∙◌, if◌then◌else◌}
use Rattle.std.specs.Prelude.{◌↔◌, slice_get}
use Rattle.wf_outside.specs.Lists.{IsRising}
use Rattle.wf_outside.specs.Pages.{LimitsValue}
use Rattle.wf_frames.specs.declared.fields.FrameWord.{FrameWord}
use Rattle.wf_frames.specs.FrameWords.{fields_of}
use Rattle.wf_frames.specs.Layout.{WordsValue, frame_word_place}
use Rattle.wf_views.specs.declared.pages.PageAt.{PageAt}
use Rattle.wf_views.specs.declared.plan.Piece.{Piece}
use Rattle.wf_views.specs.declared.plan.Plan.{Plan}
use Rattle.wf_views.specs.declared.records.Records.{Records}
use Rattle.wf_views.specs.Pages.{page_at}
use Rattle.wf_views.specs.Views.{generation_number}
use Rattle.wf_flat.specs.declared.event.Actor.{Actor}
use Rattle.wf_flat.specs.declared.event.Actor.TheVariants.{Hart}
use Rattle.wf_flat.specs.declared.state.Reservation.{Reservation}
use Rattle.wf_flat.specs.Changes.{noted, noted_in, page_met, without}
use Rattle.wf_flat.specs.Lists.{others_changed, with_number}
use Rattle.wf_flat.specs.State.{FlatState, HartState, PageState}
use Rattle.wf_homes.specs.declared.reservation.CoreReservation.{CoreReservation}
use Rattle.wf_homes.specs.Homes.{Homes}
use Rattle.wf_homes.specs.Kept.{IsMapping, KeepsReservation, fields_at}
use Rattle.wf_homes.specs.Stands.{StandsFor}
use Rattle.wf_homes.proofs.ListLemmas.{all_more}
use Rattle.wf_homes.proofs.PlaceLemmas.{place_past, stored_other}
use Rattle.wf_space.specs.declared.job.Job.TheVariants.{Sync}
use Rattle.wf_space.specs.Carried.{MaySync, StandAlike}
use Rattle.wf_space.specs.Changes.{with_changes}
use Rattle.wf_space.specs.Jobs.{CanSync, IsPlanOf, RecordsHaveRoom, node_in}
use Rattle.wf_space.specs.Leaves.{leaf_for, leaf_place, leaf_stored}
use Rattle.wf_space.specs.Pieces.{ArePerformed, MayPerformAll}
use Rattle.wf_space.proofs.JobLemmas.{carried_out, current_pieces}
use Rattle.wf_space.proofs.MeetLemmas.{can_sync}
use Rattle.wf_flat.specs.declared.event.Event.TheVariants.{Enter, Fetch, Sync as SyncEvent}
use Rattle.wf_legal.specs.Legal.{Moment, after}
use Rattle.wf_process.specs.declared.hart.KeptHart.{KeptHart}
use Rattle.wf_process.specs.Bodies.{AreKeptHarts, BodyValue, IsBodyOf, IsKeptHart, IsTold, with_left}
use Rattle.wf_process.specs.Meeting.{CanMeetPage, HasMetPage}

-- where a leaf is stored, no frame's word changes
leaf_fields : (words new : WordsValue) (r q : Records) (n : ℕ) (page : Option PageAt) (node : Option ℕ) → ArePerformed words r (leaf_stored n page node) new q → (f : ℕ) → f < n → fields_at new f ≡ fields_at words f
leaf_fields words new r q n (Some page) (Some node) done f low =
    ap (λ (w : WordsValue). fields_at w f) (done.rest.0 ∙ done.done.0)
    ∙ ap fields_of (stored_other words.items (leaf_place n node page.page) (frame_word_place f) (leaf_for page) (place_past n f node (page.page % 512) low))
leaf_fields words new r q n (Some page) None done f low = ap (λ (w : WordsValue). fields_at w f) done.0
leaf_fields words new r q n None (Some node) done f low = ap (λ (w : WordsValue). fields_at w f) done.0
leaf_fields words new r q n None None done f low = ap (λ (w : WordsValue). fields_at w f) done.0

module _ (b : BodyValue) (g p : ℕ) (can : CanMeetPage b g p) where
  pub can_plan_meeting : CanSync b.records g p
  can_plan_meeting = can_sync b.words b.records can.homes can.state g p can.stands can.may

  module _ (r : Records) (plan : Plan) (alike : StandAlike b.records r) (is_plan : IsPlanOf r (Sync g p) plan) (up : IsRising (map generation_number r.views.views)) where
    pub pieces_can : RecordsHaveRoom r (Sync g p) → MayPerformAll b.words (with_changes r plan.changes.items) plan.pieces.items
    pieces_can room = current_pieces b.words r plan (record { job = Sync g p; homes = can.homes; state = can.state; stands = alike b.words can.homes can.state can.stands; may = can.may; is_plan = is_plan; room = room }) up

    module _ (words : WordsValue) (q : Records) (done : ArePerformed b.words (with_changes r plan.changes.items) plan.pieces.items words q) where
      same_fields : (frame : ℕ) → frame < b.words.frames → fields_at words frame ≡ fields_at b.words frame
      same_fields frame low =
          let st : StandsFor b.words r can.homes can.state = alike b.words can.homes can.state can.stands in
          let frames : b.words.frames ≡ r.limits.frames = st.sizes.of_words ∙ sym (ap (λ (l : LimitsValue). l.frames) st.sizes.of_records) in
          leaf_fields b.words words (with_changes r plan.changes.items) q r.limits.frames (page_at r.pages p) (node_in r g p)
          (subst (λ (pieces : List Piece). ArePerformed b.words (with_changes r plan.changes.items) pieces words q) is_plan.pieces done) frame (subst (λ (n : ℕ). frame < n) frames low)

      met_here : (h : ℕ) → HasMetPage b (with_left (record b { words = words; records = q }) (Hart h)) h g p
      met_here h = record {
        stands = λ homes s st may. carried_out b.words words r q plan up done (Sync g p) homes s (alike b.words homes s st) may is_plan h;
        fields = same_fields;
        harts = refl;
        inside = refl;
      }

      pub met_then : (h : ℕ) (old new : BodyValue) → b ≡ old → new ≡ with_left (record b { words = words; records = q }) (Hart h) → HasMetPage old new h g p
      met_then h old new e d = subst (λ (x : BodyValue). HasMetPage x new h g p) e (subst (λ (x : BodyValue). HasMetPage b x h g p) (sym d) (met_here h))

-- what an element was that stands where the others changed
pub record WasOther {A : Type 0} (xs : List A) (f : A → A) (i : ℕ) (y : A) : Type 0 where
  pub before : A
  pub there : slice_get xs i ≡ Some before
  pub changes : Bool
  pub is : y ≡ (if changes then f before else before)

from_some : {A : Type 0} (x y : A) → Some x ≡ Some y → x ≡ y
from_some x y e = cc

was_mapped : {A : Type 0} (xs : List A) (f : A → A) (i : ℕ) (y : A) → slice_get (map f xs) i ≡ Some y → WasOther xs f i y
was_mapped [] f i y e = absurd cc
was_mapped (x ∷ xs) f zero y e = record { before = x; there = refl; changes = true; is = sym (from_some (f x) y e) }
was_mapped (x ∷ xs) f (suc i) y e = let w = was_mapped xs f i y e in record { before = w.before; there = w.there; changes = w.changes; is = w.is }

pub was_other : {A : Type 0} (xs : List A) (at : ℕ) (f : A → A) (i : ℕ) (y : A) → slice_get (others_changed xs at f) i ≡ Some y → WasOther xs f i y
was_other [] at f i y e = absurd cc
was_other (x ∷ xs) zero f zero y e = record { before = x; there = refl; changes = false; is = sym (from_some x y e) }
was_other (x ∷ xs) zero f (suc i) y e = let w = was_mapped xs f i y e in record { before = w.before; there = w.there; changes = w.changes; is = w.is }
was_other (x ∷ xs) (suc at) f zero y e = record { before = x; there = refl; changes = true; is = sym (from_some (f x) y e) }
was_other (x ∷ xs) (suc at) f (suc i) y e = let w = was_other xs at f i y e in record { before = w.before; there = w.there; changes = w.changes; is = w.is }

length_map : {A : Type 0} (f : A → A) (xs : List A) → length (map f xs) ≡ length xs
length_map f [] = refl
length_map f (x ∷ xs) = ap suc (length_map f xs)

pub length_others : {A : Type 0} (xs : List A) (at : ℕ) (f : A → A) → length (others_changed xs at f) ≡ length xs
length_others [] at f = refl
length_others (x ∷ xs) zero f = ap suc (length_map f xs)
length_others (x ∷ xs) (suc at) f = ap suc (length_others xs at f)

-- a hart that notes a page is told as it was
pub record IsSame (k : KeptHart) (x y : HartState) : Type 0 where
  pub told : IsTold k x → IsTold k y
  pub reservation : y.reservation ≡ x.reservation

pub same_noted : (k : KeptHart) (page : ℕ) (x : HartState) → IsSame k x (noted page x)
same_noted k page x = by_try (is_some x.fetched)
  where
    by_try : (b : Bool) → IsSame k x (if b then record x { moved = with_number page x.moved } else x)
    by_try true = record { told = λ t. record { generation = t.generation; arch = t.arch; fetched = t.fetched; looked = t.looked; put = t.put; life = t.life }; reservation = refl }
    by_try false = record { told = λ t. t; reservation = refl }

same_in : (k : KeptHart) (g page : ℕ) (x : HartState) → IsSame k x (noted_in g page x)
same_in k g page x = by_generation (x.generation == g)
  where
    by_generation : (b : Bool) → IsSame k x (if b then noted page x else x)
    by_generation true = same_noted k page x
    by_generation false = record { told = λ t. t; reservation = refl }

module _ (words new : WordsValue) (homes : Homes) (s : FlatState) (h g page : ℕ) (frames : s.limits.frames ≡ words.frames) (fields : (frame : ℕ) → frame < words.frames → fields_at new frame ≡ fields_at words frame) where
  -- reservations stay kept
  keeps_met : (o : Option Reservation) (c : Option CoreReservation) → KeepsReservation words homes s o c → KeepsReservation new homes (page_met s h g page) o c
  keeps_met None None kept = tt
  keeps_met None (Some c) kept = absurd kept
  keeps_met (Some o) None kept = absurd kept
  keeps_met (Some o) (Some c) kept =
      let low : c.frame < words.frames = subst (λ (n : ℕ). c.frame < n) frames kept.frame in
      let same : (fields_at new c.frame).inc ≡ (fields_at words c.frame).inc = ap (λ (f : FrameWord). f.inc) (fields c.frame low) in
      record {
        va = kept.va;
        width = kept.width;
        writes = kept.writes;
        pages = all_more (λ (q : PageState). IsMapping words homes q c.frame c.inc ↔ (o.birth ≡ q.birth)) (λ (q : PageState). IsMapping new homes q c.frame c.inc ↔ (o.birth ≡ q.birth))
            (λ q is. (λ t. is.0 (record { home = t.home; incarnation = sym same ∙ t.incarnation }), λ t. (let u = is.1 t in record { home = u.home; incarnation = same ∙ u.incarnation }))) s.pages kept.pages;
        frame = kept.frame;
        inc = rw same kept.inc;
      }

  kept_by : (k : KeptHart) (x y : HartState) → IsSame k x y → IsKeptHart words homes s x k → IsKeptHart new homes (page_met s h g page) y k
  kept_by k x y same kept = record {
    told = same.told kept.told;
    reservation = subst (λ (o : Option Reservation). KeepsReservation new homes (page_met s h g page) o k.reservation) (sym same.reservation) (keeps_met x.reservation k.reservation kept.reservation);
  }

  -- harts stay kept
  harts_met : (harts : List KeptHart) → AreKeptHarts words homes s harts → AreKeptHarts new homes (page_met s h g page) harts
  harts_met harts kept = record {
    count = kept.count ∙ sym (length_others s.harts h (noted_in g page));
    each = λ i y k e d. one i y k d (was_other s.harts h (noted_in g page) i y e);
  }
    where
      one : (i : ℕ) (y : HartState) (k : KeptHart) → slice_get harts i ≡ Some k → WasOther s.harts (noted_in g page) i y → IsKeptHart new homes (page_met s h g page) y k
      one i y k d w = by_change w.changes w.is
        where
          by_change : (b : Bool) → y ≡ (if b then noted_in g page w.before else w.before) → IsKeptHart new homes (page_met s h g page) y k
          by_change true is = subst (λ (z : HartState). IsKeptHart new homes (page_met s h g page) z k) (sym is) (kept_by k w.before (noted_in g page w.before) (same_in k g page w.before) (kept.each i w.before k w.there d))
          by_change false is = subst (λ (z : HartState). IsKeptHart new homes (page_met s h g page) z k) (sym is) (kept_by k w.before w.before (record { told = λ t. t; reservation = refl }) (kept.each i w.before k w.there d))

-- a body stands for the state in which the generation has met the page
pub meets : (m : Moment) (old new : BodyValue) → IsBodyOf m.flat old → (h g page : ℕ) → MaySync m.flat g page → HasMetPage old new h g page → IsBodyOf (after m (Hart h) (SyncEvent g page)).flat new
meets m old new is h g page may met = record {
  homes = is.homes;
  stands = met.stands is.homes m.flat is.stands may;
  harts = subst (AreKeptHarts new.words is.homes (page_met m.flat h g page)) (sym met.harts) (harts_met old.words new.words is.homes m.flat h g page (sym is.stands.sizes.of_words) met.fields old.harts is.harts);
  inside = met.inside ∙ ap (λ (o : Option Actor). without o (Hart h)) is.inside;
}

-- a generation that may meet a page in the state can meet it
pub can_meet : (s : FlatState) (b : BodyValue) (g page : ℕ) → IsBodyOf s b → MaySync s g page → CanMeetPage b g page
can_meet s b g page is may = record { homes = is.homes; state = s; stands = is.stands; may = may }

-- where a generation may meet a page, it may still when a hart has fetched and entered
pub still_may : (m : Moment) (h pc word g page : ℕ) → MaySync m.flat g page → MaySync (after (after m (Hart h) (Fetch pc word)) (Hart h) Enter).flat g page
still_may m h pc word g page may = record { here = may.here; no_text = may.no_text; live = may.live; new = may.new; low = may.low }
