-- Loads that reserve, of a body.
use Rattle.std.proofs.Common.{◌≡◌, ◌<◌, ◌∙◌, ℕ, Bool, true, Option, Some, None, refl, sym, subst, ap, if◌then◌else◌}
use Rattle.std.specs.Prelude.{slice_get}
use Rattle.wf_outside.specs.Pages.{LimitsValue, page_of}
use Rattle.wf_frames.specs.Layout.{WordsValue}
use Rattle.wf_views.specs.declared.records.Records.{Records}
use Rattle.wf_flat.specs.declared.event.Actor.TheVariants.{Hart}
use Rattle.wf_flat.specs.declared.event.Entry.{Entry}
use Rattle.wf_flat.specs.declared.event.Event.TheVariants.{Look}
use Rattle.wf_flat.specs.declared.state.Life.TheVariants.{Running}
use Rattle.wf_flat.specs.Changes.{looked_with, reservation_of, reserves}
use Rattle.wf_flat.specs.Lists.{changed_at}
use Rattle.wf_flat.specs.Memory.{data_in}
use Rattle.wf_flat.specs.State.{FlatState, HartState, PageState}
use Rattle.wf_flat.specs.Steps.{MayLook, OfHart, OfRunning, want_in}
use Rattle.wf_flat.proofs.ListLemmas.{some_and}
use Rattle.wf_homes.specs.declared.reservation.CoreReservation.{CoreReservation}
use Rattle.wf_homes.specs.Homes.{DataOf}
use Rattle.wf_homes.specs.Kept.{KeepsReservation, LiesIn, fields_at}
use Rattle.wf_homes.proofs.FoundLemmas.{at_some, some_more}
use Rattle.wf_homes.proofs.PlaceLemmas.{home_low}
use Rattle.wf_access.specs.Reserved.{core_reservation_of}
use Rattle.wf_access.proofs.ReservationLemmas.{reserves_are_kept_for}
use Rattle.wf_access.proofs.WholeLemmas.{home_of}
use Rattle.wf_legal.specs.Legal.{Allows, Moment, after, end_of}
use Rattle.wf_laws.proofs.CallLemmas.{acts_outside}
use Rattle.wf_sound.specs.Sound.{IsSound}
use Rattle.wf_sound.proofs.SoundLemmas.{journal_keeps}
use Rattle.wf_space.proofs.AlikeLemmas.{harts_differ}
use Rattle.wf_views.specs.Lists.{RoomyValue}
use Rattle.wf_process.specs.declared.finding.Found.{Found}
use Rattle.wf_process.specs.declared.hart.KeptHart.{KeptHart}
use Rattle.wf_process.specs.Bodies.{BodyValue, IsBodyOf, with_kept}
use Rattle.wf_process.specs.Finding.{FoundIsRight, IsApartFromText}
use Rattle.wf_process.specs.Harts.{kept_reserved}
use Rattle.wf_process.specs.Processes.{IsProcess, ProcessValue, process_from}
use Rattle.wf_process.specs.Reserving.{CanFindAt, LeavesReservation}
use Rattle.wf_process.proofs.ApartLemmas.{live_apart}
use Rattle.wf_process.proofs.BirthLemmas.{one_birth}
use Rattle.wf_process.proofs.BodyLemmas.{harts_change, same_residents}
use Rattle.wf_process.proofs.MappedLemmas.{sound_mapped}
use Rattle.wf_process.proofs.OutsideLemmas.{sound_late}
use Rattle.wf_process.proofs.ProcessLemmas.{has_view, moment_is}

module _ (words : WordsValue) (r : Records) (generation va width : ℕ) where
  -- the frame that is found is there
  pub found_low : (found : Found) → CanFindAt words r generation va → FoundIsRight words r generation va (Some found) → found.frame < words.frames
  found_low found can right =
      let lies = (right can.homes can.state can.stands can.mapped can.apart).1 in
      let p = some_and (data_in can.state.pages (page_of va)) (λ (page : PageState). LiesIn words r page found.frame) lies in
      let low : found.frame < can.state.limits.frames = home_low can.homes can.state (DataOf p.0.number) found.frame can.stands.housed.separate (home_of words r can.homes can.state p.0 found.frame can.stands p.2) in
      subst (λ (n : ℕ). found.frame < n) (sym can.stands.sizes.of_words) low

  -- what is left where a page is found
  pub left_found : (found : Found) (last : ℕ) → last ≡ r.limits.last_writes → FoundIsRight words r generation va (Some found) → LeavesReservation words r generation va width (core_reservation_of (fields_at words found.frame) found.frame va width last)
  left_found found last e right homes s stands mapped apart one =
      let lies = (right homes s stands mapped apart).1 in
      let p = some_and (data_in s.pages (page_of va)) (λ (page : PageState). LiesIn words r page found.frame) lies in
      let same : s.limits.last_writes ≡ last = sym (e ∙ ap (λ (l : LimitsValue). l.last_writes) stands.sizes.of_records) in
      subst (λ (n : ℕ). KeepsReservation words homes s (reservation_of s va width (data_in s.pages (page_of va))) (core_reservation_of (fields_at words found.frame) found.frame va width n)) same
      (reserves_are_kept_for words r homes s va width found.frame p.0 stands p.1 p.2 (one p.0 p.1))

  -- and where none is
  pub left_none : FoundIsRight words r generation va None → LeavesReservation words r generation va width None
  left_none right homes s stands mapped apart one =
      let none : data_in s.pages (page_of va) ≡ None = (right homes s stands mapped apart).0 in
      subst (λ (o : Option PageState). KeepsReservation words homes s (reservation_of s va width o) None) (sym none) tt

-- a process, a hart of which looks
module _ (start : Moment) (entries : RoomyValue Entry) (p : ProcessValue) (b : BodyValue) (h va width value : ℕ) (k : KeptHart) (is : process_from start entries ≡ p) (kept : IsProcess start entries.items b) (may : Allows p.moment (Hart h) (Look va width value)) (at : slice_get b.harts h ≡ Some k) where
  abbrev m : Moment
  m = end_of start entries.items

  abbrev s : FlatState
  s = m.flat

  sound : IsSound m
  sound = journal_keeps start entries.items kept.sound kept.legal

  looks_outside : OfRunning s h (λ hart. MayLook s h hart va width value)
  looks_outside = acts_outside m h (Look va width value) refl (sound_late m sound) (subst (λ (n : Moment). Allows n (Hart h) (Look va width value)) (sym (moment_is start entries p is)) may)

  hart : (x : HartState) × (slice_get s.harts h ≡ Some x) × ((x.life ≡ Running) × MayLook s h x va width value)
  hart = some_and (slice_get s.harts h) (λ (x : HartState). (x.life ≡ Running) × MayLook s h x va width value) looks_outside

  generation : k.generation ≡ hart.0.generation
  generation = (kept.stands.harts.each h hart.0 k hart.1 at).told.generation

  apart : IsApartFromText s k.generation (page_of va)
  apart = subst (λ (n : ℕ). IsApartFromText s n (page_of va)) (sym generation) (live_apart s (page_of va) _ hart.0.generation sound.state ((sound.state.harts h hart.0 hart.1).live hart.2.0))

  pub can_find : CanFindAt b.words b.records k.generation va
  can_find = record {
    homes = kept.stands.homes;
    state = s;
    stands = kept.stands.stands;
    mapped = sound_mapped _ s sound.state;
    apart = apart;
    view = has_view start entries.items b h k kept (some_more (slice_get s.harts h) (λ (x : HartState). (x.life ≡ Running) × MayLook s h x va width value) (λ (x : HartState). (x.life ≡ Running) × Unit {0}) (λ x e t. (t.0, tt)) looks_outside) at;
  }

  -- the body then
  pub looks_reserved : (c : Option CoreReservation) → LeavesReservation b.words b.records k.generation va width c → OfHart p.moment.flat h (λ hart. reserves (want_in hart) ≡ true)
      → IsBodyOf (after m (Hart h) (Look va width value)).flat (with_kept b h (kept_reserved value c))
  looks_reserved c left want =
      let f : HartState → HartState = looked_with s va width value in
      let homes = kept.stands.homes in
      let keeps : KeepsReservation b.words homes s (reservation_of s va width (data_in s.pages (page_of va))) c = left homes s kept.stands.stands (sound_mapped _ s sound.state) apart (λ page there. one_birth _ s (page_of va) page sound.state there) in
      let wants : OfHart s h (λ hart. reserves (want_in hart) ≡ true) = subst (λ (n : Moment). OfHart n.flat h (λ hart. reserves (want_in hart) ≡ true)) (sym (moment_is start entries p is)) want in
      record {
        homes = homes;
        stands = harts_differ b.words b.records homes s (changed_at s.harts h f) s.inside kept.stands.stands (same_residents s h f s.inside (record { generation = λ x. refl; life = λ x. refl }));
        harts = harts_change s h f s.inside b.words homes b.harts (kept_reserved value c) kept.stands.harts (λ x y e is_kept. record {
          told = record { generation = is_kept.told.generation; arch = is_kept.told.arch; fetched = is_kept.told.fetched; looked = refl; put = is_kept.told.put; life = is_kept.told.life };
          reservation = subst (λ (t : Bool). KeepsReservation b.words homes s (if t then reservation_of s va width (data_in s.pages (page_of va)) else x.reservation) c) (sym (at_some (slice_get s.harts h) (λ (z : HartState). reserves (want_in z) ≡ true) x e wants)) keeps;
        });
        inside = kept.stands.inside;
      }
