-- Whole stores and atomic operations of a body.
use Rattle.std.proofs.Common.{◌≡◌, ◌<◌, ◌%◌, ℕ, List, Bool, true, false, Option, Some, None, length, refl, sym, subst, ap, arith, if◌then◌else◌}
use Rattle.std.specs.Prelude.{slice_get}
use Rattle.rv_inst.specs.Arch.{ArchState}
use Rattle.wf_outside.specs.Images.{DeltaValue}
use Rattle.wf_outside.specs.Pages.{LimitsValue, page_of}
use Rattle.wf_frames.specs.Layout.{WordsValue}
use Rattle.wf_flat.specs.declared.event.Entry.{Entry}
use Rattle.wf_flat.specs.declared.state.Life.TheVariants.{Running}
use Rattle.wf_flat.specs.declared.state.Reservation.{Reservation}
use Rattle.wf_flat.specs.Changes.{put_with, swapped_by, written_by}
use Rattle.wf_flat.specs.State.{FlatState, HartState, PageState}
use Rattle.wf_flat.specs.Steps.{OfHart, OfRunning, access_in, arch_after, is_conditional, want_in}
use Rattle.wf_flat.proofs.ChangeLemmas.{hart_there}
use Rattle.wf_flat.proofs.ListLemmas.{and_some}
use Rattle.wf_homes.specs.Homes.{DataOf, Homes}
use Rattle.wf_homes.specs.Kept.{KeepsReservation, LiesIn}
use Rattle.wf_homes.proofs.FoundLemmas.{at_some}
use Rattle.wf_access.specs.Laws.{PagesAreWhole, MayTakeFor, bytes_at}
use Rattle.wf_access.specs.Stores.{AreInFrame, with_store}
use Rattle.wf_access.specs.Wholes.{whole_put, whole_swap}
use Rattle.wf_access.proofs.MappingLemmas.{stores_keep_mappings}
use Rattle.wf_access.proofs.ReservationLemmas.{reservations_stay_for}
use Rattle.wf_access.proofs.WholeLemmas.{after_is, home_of, puts_stand_for, swaps_stand_for}
use Rattle.wf_homes.proofs.ListLemmas.{all_more}
use Rattle.wf_homes.proofs.PlaceLemmas.{home_low}
use Rattle.wf_flat.specs.Serving.{IsPlace}
use Rattle.wf_flat.proofs.WordLemmas.{place_in_page}
use Rattle.wf_views.specs.Lists.{RoomyValue}
use Rattle.wf_views.specs.declared.records.Records.{Records}
use Rattle.wf_legal.specs.Legal.{IsLegal, Moment, end_of}
use Rattle.wf_sound.specs.Sound.{IsSoundPage, IsSoundState}
use Rattle.wf_sound.proofs.SoundLemmas.{journal_keeps}
use Rattle.wf_space.proofs.MeetLemmas.{found_each}
use Rattle.wf_process.specs.declared.hart.KeptHart.{KeptHart}
use Rattle.wf_process.specs.declared.write.Write.{Write}
use Rattle.wf_process.specs.Bodies.{BodyValue, IsBodyOf, with_left_kept}
use Rattle.wf_process.specs.Finding.{IsApartFromText}
use Rattle.wf_process.specs.Harts.{kept_written}
use Rattle.wf_process.specs.Processes.{IsProcess, ProcessValue, process_from}
use Rattle.wf_process.specs.Writing.{DataLiesAt, HasDataAt, store_entries, swap_entries, with_bytes}
use Rattle.wf_process.proofs.ApartLemmas.{live_apart}
use Rattle.wf_process.proofs.MappedLemmas.{number_is, sound_mapped}
use Rattle.wf_process.proofs.OutsideLemmas.{TakesPage, put_takes, swap_takes}
use Rattle.wf_process.proofs.ProcessLemmas.{has_view, moment_is, stands_sound}
use Rattle.wf_process.proofs.WholeLemmas.{whole_body}

module _ (deltas : List DeltaValue) (s : FlatState) (b : BodyValue) (is : IsBodyOf s b) (sound : IsSoundState deltas s) (h : ℕ) (write : Write) (frame : ℕ) (t : TakesPage s h write.va) (lies : LiesIn b.words b.records t.page frame) where
  may : MayTakeFor b.words b.records s h write.va frame t.page
  may = record {
    tries = and_some (slice_get s.harts h) _ t.hart t.is (and_some (access_in t.hart) _ t.access t.acc t.at, t.put);
    there = t.there;
    lies = lies;
    free = t.free;
  }

  whole : PagesAreWhole s
  whole = record { whole = all_more (IsSoundPage s.limits s.births) (λ (page : PageState). length page.words ≡ 512) (λ page of. of.is_page.whole) s.pages sound.pages; counts = sound.limits.all_writes }

  abbrev words_with : ℕ → WordsValue
  words_with last = with_store b.words (bytes_at frame write.va write.width) write.value last

  abbrev body_with : ℕ → (KeptHart → KeptHart) → BodyValue
  body_with last c = with_left_kept (record b { words = words_with last }) h c

  same_last : s.limits.last_writes ≡ b.records.limits.last_writes
  same_last = sym (ap (λ (l : LimitsValue). l.last_writes) is.stands.sizes.of_records)

  kept_if : (words : WordsValue) (homes : Homes) (u : FlatState) (o : Option Reservation) (k : KeptHart) (conditional : Bool) → KeepsReservation words homes u o k.reservation → KeepsReservation words homes u (if conditional then None else o) (if conditional then None else k.reservation)
  kept_if words homes u o k true kept = tt
  kept_if words homes u o k false kept = kept

  -- a store, or a store-conditional that doesn't miss
  pub puts : (conditional : Bool) (next : ArchState) → OfHart s h (λ hart. is_conditional (want_in hart) ≡ conditional) → OfHart s h (λ hart. next ≡ arch_after (written_by hart))
      → IsBodyOf (whole_put s h write.va write.width write.value) (with_left_kept (with_bytes b frame write) h (kept_written 0 conditional next))
  puts conditional next which after_it =
      let c : KeptHart → KeptHart = kept_written 0 conditional next in
      let u : FlatState = whole_put s h write.va write.width write.value in
      let is_after = after_is s h write.va t.page written_by (put_with (write.va % 4096) write.width write.value) (record { number = λ p. refl; write = λ p. refl; stage = λ p. refl }) (λ p. refl) (λ x. refl) t.hart t.access t.is t.acc t.at t.there in
      let same = (stores_keep_mappings b.words b.records is.homes s h write.va write.width write.value frame t.page is.stands whole may).0 in
      subst (λ (last : ℕ). IsBodyOf u (body_with last c)) same_last
      (whole_body s u b (body_with s.limits.last_writes c) h (page_of write.va) written_by c is (ap (λ (x : FlatState). x.harts) is_after) same
      (λ hart k e kept. record {
        told = record { generation = kept.told.generation; arch = at_some (slice_get s.harts h) (λ (x : HartState). next ≡ arch_after (written_by x)) hart e after_it; fetched = refl; looked = refl; put = refl; life = kept.told.life };
        reservation = subst (λ (x : Bool). KeepsReservation (words_with s.limits.last_writes) is.homes u (if is_conditional (want_in hart) then None else hart.reservation) (if x then None else k.reservation))
            (at_some (slice_get s.harts h) (λ (x : HartState). is_conditional (want_in x) ≡ conditional) hart e which)
            (kept_if (words_with s.limits.last_writes) is.homes u hart.reservation k (is_conditional (want_in hart)) (reservations_stay_for b.words (words_with s.limits.last_writes) is.homes s u hart.reservation k.reservation same kept.reservation));
      })
      (puts_stand_for b.words b.records is.homes s h write.va write.width write.value frame t.page is.stands whole may) (ap (λ (x : FlatState). x.inside) is_after) refl refl)

  -- an atomic operation
  pub swaps : (got : ℕ) (next : ArchState) → OfHart s h (λ hart. next ≡ arch_after (swapped_by got hart))
      → IsBodyOf (whole_swap s h write.va write.width got write.value) (with_left_kept (with_bytes b frame write) h (kept_written got false next))
  swaps got next after_it =
      let c : KeptHart → KeptHart = kept_written got false next in
      let u : FlatState = whole_swap s h write.va write.width got write.value in
      let is_after = after_is s h write.va t.page (swapped_by got) (put_with (write.va % 4096) write.width write.value) (record { number = λ p. refl; write = λ p. refl; stage = λ p. refl }) (λ p. refl) (λ x. refl) t.hart t.access t.is t.acc t.at t.there in
      let same = (stores_keep_mappings b.words b.records is.homes s h write.va write.width write.value frame t.page is.stands whole may).1 got in
      subst (λ (last : ℕ). IsBodyOf u (body_with last c)) same_last
      (whole_body s u b (body_with s.limits.last_writes c) h (page_of write.va) (swapped_by got) c is (ap (λ (x : FlatState). x.harts) is_after) same
      (λ hart k e kept. record {
        told = record { generation = kept.told.generation; arch = at_some (slice_get s.harts h) (λ (x : HartState). next ≡ arch_after (swapped_by got x)) hart e after_it; fetched = refl; looked = refl; put = refl; life = kept.told.life };
        reservation = reservations_stay_for b.words (words_with s.limits.last_writes) is.homes s u hart.reservation k.reservation same kept.reservation;
      })
      (swaps_stand_for b.words b.records is.homes s h write.va write.width got write.value frame t.page is.stands whole may) (ap (λ (x : FlatState). x.inside) is_after) refl refl)

-- what is there of a process, a hart of which takes a page
module _ (start : Moment) (entries : List Entry) (b : BodyValue) (h va : ℕ) (kept : IsProcess start entries b) (t : TakesPage (end_of start entries).flat h va) where
  abbrev s : FlatState
  s = (end_of start entries).flat

  runs : OfRunning s h (λ hart. Unit {0})
  runs = and_some (slice_get s.harts h) (λ (x : HartState). (x.life ≡ Running) × Unit {0}) t.hart t.is (t.runs, tt)

  pub taker_there : h < length b.harts
  taker_there = subst (λ (n : ℕ). h < n) (sym kept.stands.harts.count) (hart_there s h _ runs)

  pub page_low : page_of va < 0x4000000
  page_low =
      let sound = journal_keeps start entries kept.sound kept.legal in
      subst (λ (n : ℕ). n < 0x4000000) (number_is s.pages (page_of va) t.page t.there) (found_each (λ (p : PageState). p.number < 0x4000000) s.pages (page_of va) t.page (sound_mapped _ s sound.state).data_low t.there)

  module _ (k : KeptHart) (at : slice_get b.harts h ≡ Some k) where
    generation : k.generation ≡ t.hart.generation
    generation = (kept.stands.harts.each h t.hart k t.is at).told.generation

    pub apart : IsApartFromText s k.generation (page_of va)
    apart =
        let sound = journal_keeps start entries kept.sound kept.legal in
        subst (λ (n : ℕ). IsApartFromText s n (page_of va)) (sym generation) (live_apart s (page_of va) _ t.hart.generation sound.state ((sound.state.harts h t.hart t.is).live t.runs))

    pub has_data : HasDataAt b.words b.records k.generation va
    has_data = record {
      homes = kept.stands.homes;
      state = s;
      stands = kept.stands.stands;
      mapped = sound_mapped _ s (journal_keeps start entries kept.sound kept.legal).state;
      apart = apart;
      page = t.page;
      there = t.there;
      view = has_view start entries b h k kept runs at;
    }

    -- it lies in the frame that was found
    pub lies_so : (frame : ℕ) → DataLiesAt b.words b.records k.generation va frame → LiesIn b.words b.records t.page frame
    lies_so frame lies = lies kept.stands.homes s kept.stands.stands (sound_mapped _ s (journal_keeps start entries kept.sound kept.legal).state) apart t.page t.there

-- bytes of a page of data are at a place of a frame that there is
pub in_frame : (words : WordsValue) (r : Records) (generation va width frame : ℕ) → HasDataAt words r generation va → DataLiesAt words r generation va frame → IsPlace va width → AreInFrame words (bytes_at frame va width)
in_frame words r generation va width frame has lies place =
    let home = home_of words r has.homes has.state has.page frame has.stands (lies has.homes has.state has.stands has.mapped has.apart has.page has.there) in
    let low : frame < has.state.limits.frames = home_low has.homes has.state (DataOf has.page.number) frame has.stands.housed.separate home in
    record {
      low = subst (λ (n : ℕ). frame < n) (sym has.stands.sizes.of_words) low;
      within = omega arith;
      place = place_in_page va width place;
    }

-- the hart of a store takes its page where the process stands, and so does that of an atomic operation
module _ (start : Moment) (entries : RoomyValue Entry) (p : ProcessValue) (b : BodyValue) (h : ℕ) (write : Write) (pc : ℕ) (is : process_from start entries ≡ p) (kept : IsProcess start entries.items b) where
  pub store_takes : IsLegal p.moment (store_entries h write pc) → TakesPage (end_of start entries.items).flat h write.va
  store_takes may =
      subst (λ (n : Moment). TakesPage n.flat h write.va) (sym (moment_is start entries p is))
      (put_takes p.moment h write.va write.width (stands_sound start entries p b is kept) may.0 write.value may.1.0)

  pub atomic_takes : (got : ℕ) → IsLegal p.moment (swap_entries h write got pc) → TakesPage (end_of start entries.items).flat h write.va
  atomic_takes got may =
      subst (λ (n : Moment). TakesPage n.flat h write.va) (sym (moment_is start entries p is))
      (swap_takes p.moment h write.va write.width (stands_sound start entries p b is kept) may.0 got write.value may.1.0)
