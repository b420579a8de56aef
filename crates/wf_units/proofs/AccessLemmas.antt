-- Whole loads, stores and atomic accesses.
use Rattle.std.proofs.Common.{◌≡◌, ◌≢◌, ◌&&◌, ◌||◌, ◌==◌, ◌++◌, ◌%◌, ℕ, List, [], ◌∷◌, Option, Some, None, Bool, true, false, refl, sym, subst, ap, ◌∙◌, not, if◌then◌else◌, is_some, unwrap_or, arith}
use Rattle.std.specs.Prelude.{nat_lt, slice_get}
use Rattle.std.specs.Option.{option_map}
use Rattle.std.specs.List.{AllByRecursion}
use Rattle.std.proofs.lemmas.Bool.Decides.{nat_tests}
use Rattle.rv_inst.specs.declared.inst.Inst.{Inst}
use Rattle.rv_inst.specs.declared.want.Want.{Want}
use Rattle.rv_inst.specs.declared.want.Want.TheVariants as want
use Rattle.rv_inst.specs.Arch.{ArchState}
use Rattle.rv_inst.specs.Meanings.{meaning_of}
use Rattle.wf_outside.specs.declared.sizes.TheConstants.{PAGE_SIZE}
use Rattle.wf_outside.specs.Images.{DeltaValue, text_numbers}
use Rattle.wf_outside.specs.Pages.{PageValue, page_of}
use Rattle.wf_flat.specs.declared.event.Event.{Event}
use Rattle.wf_flat.specs.declared.event.Event.TheVariants.{Fetch, Look, Take}
use Rattle.wf_flat.specs.declared.state.Reservation.{Reservation}
use Rattle.wf_flat.specs.State.{FlatState, GenState, HartState, PageState}
use Rattle.wf_flat.specs.Accesses.{Access, access_of, accessed_data, accessed_text, has_right, holder_is, is_ending, is_free, is_reached, text_in}
use Rattle.wf_flat.specs.Changes.{change_hart, fetched_with, looked_with, reservation_of, reserves, taken_by}
use Rattle.wf_flat.specs.Lists.{changed_by}
use Rattle.wf_flat.specs.Memory.{data_in, has_met, number_in, page_in}
use Rattle.wf_flat.specs.Steps.{MayLook, Reads, ReadsData, access_in, arch_after, has_ended, is_done, is_lost, may_read, takes_for, want_in}
use Rattle.wf_flat.proofs.ListLemmas.{and_some}
use Rattle.wf_flat.proofs.FoundLemmas.{data_number}
use Rattle.wf_effects.specs.Generations.{is_live}
use Rattle.wf_effects.specs.Ranges.{is_data}
use Rattle.wf_legal.specs.Legal.{at_rest}
use Rattle.wf_sound.specs.Laws.{JournalsKeepSound}
use Rattle.wf_sound.specs.Sound.{IsSoundGen}
use Rattle.wf_sound.proofs.AllLemmas.{all_get}
use Rattle.wf_service.specs.Resting.{IsSettled}
use Rattle.wf_service.proofs.QuietLemmas.{IsFree}
use Rattle.wf_units.specs.Accessing.{FindsData, FindsText, access_events, look_events, taking_events}
use Rattle.wf_units.specs.Ends.{hart_read, hart_reserved, now_met, page_written, try_passed}
use Rattle.wf_units.specs.Instructions.{FindsInst}
use Rattle.wf_units.specs.Units.{IsLegalUnit}
use Rattle.wf_units.proofs.AskLemmas.{has_met_behind, meet_first, met_as, met_behind, now_met_is, same_number, settled_page, trying}
use Rattle.wf_units.proofs.PlainLemmas.{arch_there, fetch_first, in_try_there, none_tries, settled_stays, want_there}
use Rattle.wf_units.proofs.RestLemmas.{Leaves, Makes, answered_rest, found_taken, reached, take_first, taken, taken_rest}
use Rattle.wf_units.proofs.TryLemmas.{UnitFrom, unit_rests}

-- pages stay Here where one is written
pub written_stays : (last at width value n : ℕ) (pages : List PageState) → AllByRecursion IsSettled pages → AllByRecursion (λ page. is_ending page.stage ≡ false) (changed_by (λ page. page.number) pages n (page_written last at width value))
written_stays last at width value n [] all = tt
written_stays last at width value n (page ∷ pages) all = (by_test (page.number == n), written_stays last at width value n pages all.1)
  where
    by_test : (b : Bool) → is_ending (if b then page_written last at width value page else page).stage ≡ false
    by_test true = let here = all.0.0 in rw here refl
    by_test false = let here = all.0.0 in rw here refl

-- a try of an instruction that wants this
pub record Tries (word : ℕ) (inst : Inst) (w : Want) (access : Access) (x : HartState) : Type 0 where
  pub wants : want_in x ≡ Some w
  pub accesses : access_in x ≡ Some access

module _ (deltas : List DeltaValue) (s : FlatState) (h : ℕ) (hart : HartState) (word : ℕ) (inst : Inst) (w : Want) (access : Access) (f : FindsInst deltas s h hart word inst w) (e : access_of (Some w) ≡ Some access) where
  pub tries : Tries word inst w access (fetched_with word hart)
  tries =
      let wants : want_in (fetched_with word hart) ≡ Some w = want_there (fetched_with word hart) word inst w refl f.is_inst f.wants in
      record { wants = wants; accesses = ap access_of wants ∙ e }

  -- the whole unit of an access of data
  pub data_unit : (journals : JournalsKeepSound) (page : PageState) → FindsData s hart access.va page → has_right access page ≡ true → is_lost (Some w) hart.reservation ≡ false → (events : List Event) (base : FlatState → FlatState) (g : HartState → HartState)
      → (base (met_as s (met_behind s hart (page_of access.va)))).inside ≡ None → (base (met_as s (met_behind s hart (page_of access.va)))).harts ≡ s.harts → AllByRecursion (λ page. is_ending page.stage ≡ false) (base (met_as s (met_behind s hart (page_of access.va)))).pages
      → ((hart : HartState) → (g hart).fetched ≡ None) → UnitFrom deltas (at_rest deltas (trying s h word (met_behind s hart (page_of access.va)))) h events (change_hart (base (met_as s (met_behind s hart (page_of access.va)))) h g)
      → IsLegalUnit deltas s h (access_events s hart word access.va events) (change_hart (base (now_met s h hart (page_of access.va))) h g)
  data_unit journals page d right kept events base g inside harts stays over rest =
      let n : ℕ = page_of access.va in
      let met : List (ℕ × ℕ) = met_behind s hart n in
      let r = f.finds.rests.rests in
      let new : FlatState = change_hart (base (met_as s met)) h g in
      let is : now_met s h hart n ≡ met_as s met = now_met_is s h hart n r.no_one r.no_try in
      let u = fetch_first deltas s h hart word _ new f.finds (meet_first deltas s h hart word inst w access page f e kept d right events new rest) in
      let free : AllByRecursion IsFree (base (met_as s met)).harts = subst (AllByRecursion IsFree) (sym harts) r.no_try in
      subst (λ (b : FlatState). IsLegalUnit deltas s h (access_events s hart word access.va events) (change_hart (base b) h g)) (sym is)
      (unit_rests journals deltas s h (access_events s hart word access.va events) new f.finds.rests.sound u inside (none_tries (base (met_as s met)).harts h g free over) stays)

-- a load, or a load-reserved
abbrev pub read_end : Want → Inst → ℕ → Option Reservation → HartState → HartState
read_end w inst got left hart = record (hart_read inst got hart) { reservation = if reserves (Some w) then left else hart.reservation }

pub or_self : (a b : Bool) → b ≡ true → (a || b) ≡ true
or_self true b e = refl
or_self false b e = e

pub or_first : (a b : Bool) → a ≡ true → (a || b) ≡ true
or_first true b e = refl
or_first false b e = absurd (cc)

pub all_three : (a b c : Bool) → a ≡ true → b ≡ true → c ≡ true → (a && b && c) ≡ true
all_three a b c p q r = rw (p, q, r) refl

abbrev pub read_at : ℕ → ℕ → Access
read_at va width = record { va = va; width = width; write = false }

module _ (deltas : List DeltaValue) (s : FlatState) (h : ℕ) (hart : HartState) (word : ℕ) (inst : Inst) (w : Want) (va width : ℕ) (f : FindsInst deltas s h hart word inst w) (e : access_of (Some w) ≡ Some (read_at va width)) (ends : (x : HartState) → is_done x (Some w) ≡ has_ended x (Some (read_at va width))) (other : w ≢ want.Call) where
  -- a look leaves this
  pub look_leaves : (u : FlatState) (got : ℕ) (left : Option Reservation) → reservation_of u va width (data_in u.pages (page_of va)) ≡ left → Leaves word inst (read_at va width) (fetched_with word hart) (looked_with u va width got) (read_end w inst got left) hart got
  look_leaves u got left is =
      let x : HartState = fetched_with word hart in
      let y : HartState = looked_with u va width got x in
      let wants : want_in x ≡ Some w = want_there x word inst w refl f.is_inst f.wants in
      let now : want_in y ≡ Some w = want_there y word inst w refl f.is_inst f.wants in
      let arch : arch_after y ≡ meaning_of inst hart.arch got = arch_there y word inst w refl f.is_inst f.wants other in
      let make : Option Want → Option Reservation → ArchState → HartState = λ o l a. record (try_passed hart) { looked = Some got; reservation = if reserves o then l else hart.reservation; arch = a } in
      record {
        runs = f.finds.runs;
        accesses = ap access_of now ∙ e;
        done = ap (is_done y) now ∙ ends y;
        arch = arch;
        ends = ap (λ (o : Option Want). make o (reservation_of u va width (data_in u.pages (page_of va))) (arch_after y)) wants
            ∙ ap (λ (l : Option Reservation). make (Some w) l (arch_after y)) is ∙ ap (make (Some w) left) arch;
      }

  look_makes : (u : FlatState) (value : ℕ) → slice_get u.harts h ≡ Some (fetched_with word hart) → Reads u h (fetched_with word hart) (read_at va width) (accessed_text u (fetched_with word hart) (read_at va width)) value
      → Makes deltas u h (Look va width value) (change_hart u h (looked_with u va width value))
  look_makes u value there reads =
      let x : HartState = fetched_with word hart in
      let t = tries deltas s h hart word inst w (read_at va width) f e in
      let may : MayLook u h x va width value = (t.accesses, refl, reads) in
      record { may = and_some (slice_get u.harts h) _ x there (f.finds.runs, may); unended = refl; stays = λ deltas s h inside. rw inside refl; changed = refl }

  -- from text
  pub text_read : (journals : JournalsKeepSound) (page : PageValue) (left : Option Reservation) → FindsText s hart va page → reservation_of s va width (data_in s.pages (page_of va)) ≡ left
      → IsLegalUnit deltas s h (Fetch hart.arch.pc word ∷ look_events hart inst va width (number_in page.words (va % PAGE_SIZE) width)) (change_hart s h (read_end w inst (number_in page.words (va % PAGE_SIZE) width) left))
  text_read journals page left text is =
      let r = f.finds.rests.rests in
      let got : ℕ = number_in page.words (va % PAGE_SIZE) width in
      let t : FlatState = trying s h word s.met in
      let x : HartState = fetched_with word hart in
      let reads : Reads t h x (read_at va width) (accessed_text t x (read_at va width)) got = subst (λ (o : Option PageValue). Reads t h x (read_at va width) o got) (sym text) refl in
      let new : FlatState = change_hart s h (read_end w inst got left) in
      let rest = answered_rest deltas s h hart word inst w (read_at va width) s.met f (Look va width got) (looked_with t va width got) (read_end w inst got left) got (look_makes t got (in_try_there s h word hart f.finds.rests.there) reads) (look_leaves t got left is) in
      unit_rests journals deltas s h (Fetch hart.arch.pc word ∷ look_events hart inst va width got) new f.finds.rests.sound (fetch_first deltas s h hart word (look_events hart inst va width got) new f.finds rest)
      r.no_one (none_tries s.harts h (read_end w inst got left) r.no_try (λ hart. refl)) (settled_stays s.pages r.free)

  -- from data, below the last count of writes
  free_look : (page : PageState) → FindsData s hart va page → nat_lt page.writes s.limits.last_writes ≡ true
      → UnitFrom deltas (at_rest deltas (trying s h word (met_behind s hart (page_of va)))) h (look_events hart inst va width (number_in page.words (va % PAGE_SIZE) width))
      (change_hart (met_as s (met_behind s hart (page_of va))) h (read_end w inst (number_in page.words (va % PAGE_SIZE) width) (reservation_of s va width (Some page))))
  free_look page d below =
      let r = f.finds.rests.rests in
      let n : ℕ = page_of va in
      let got : ℕ = number_in page.words (va % PAGE_SIZE) width in
      let left : Option Reservation = reservation_of s va width (Some page) in
      let met : List (ℕ × ℕ) = met_behind s hart n in
      let t : FlatState = trying s h word met in
      let x : HartState = fetched_with word hart in
      let access : Access = read_at va width in
      let settled = settled_page s.pages n page r.free d.there in
      let empty = settled.1 in
      let known : has_met met hart.generation page.number ≡ true = ap (has_met met hart.generation) (data_number s.pages n page d.there) ∙ has_met_behind s hart n in
      let may : may_read t h x access page ≡ true = or_first (is_free page && is_reached t x access page && nat_lt page.writes s.limits.last_writes) (holder_is page.holder h) (all_three (is_free page) (is_reached t x access page) (nat_lt page.writes s.limits.last_writes) (rw empty refl) (reached t x access page settled known refl) below) in
      let from_data : ReadsData t h x access (accessed_data t access) got = subst (λ (o : Option PageState). ReadsData t h x access o got) (sym d.there) (may, refl) in
      let reads : Reads t h x access (accessed_text t x access) got = subst (λ (o : Option PageValue). Reads t h x access o got) (sym d.no_text) from_data in
      answered_rest deltas s h hart word inst w access met f (Look va width got) (looked_with t va width got) (read_end w inst got left) got (look_makes t got (in_try_there s h word hart f.finds.rests.there) reads)
      (look_leaves t got left (ap (reservation_of t va width) d.there))

  -- and at that
  last_look : (page : PageState) (d : FindsData s hart va page) → ((u : FlatState) (y : HartState) (p : PageState) → takes_for (Some w) u y (read_at va width) p ≡ not (nat_lt p.writes u.limits.last_writes)) → nat_lt page.writes s.limits.last_writes ≡ false
      → UnitFrom deltas (at_rest deltas (trying s h word (met_behind s hart (page_of va)))) h (Take (page_of va) ∷ look_events hart inst va width (number_in page.words (va % PAGE_SIZE) width))
      (change_hart (met_as s (met_behind s hart (page_of va))) h (read_end w inst (number_in page.words (va % PAGE_SIZE) width) (reservation_of s va width (Some page))))
  last_look page d takes last =
      let r = f.finds.rests.rests in
      let n : ℕ = page_of va in
      let got : ℕ = number_in page.words (va % PAGE_SIZE) width in
      let left : Option Reservation = reservation_of s va width (Some page) in
      let met : List (ℕ × ℕ) = met_behind s hart n in
      let t : FlatState = trying s h word met in
      let x : HartState = fetched_with word hart in
      let access : Access = read_at va width in
      let u : FlatState = taken deltas s h hart word inst w access met f in
      let g : HartState → HartState = read_end w inst got left in
      let found : data_in u.pages n ≡ Some (taken_by h page) = found_taken deltas s h hart word inst w access met f page d in
      let self = same_number h in
      let may : may_read u h x access (taken_by h page) ≡ true = or_self (is_free (taken_by h page) && is_reached u x access (taken_by h page) && nat_lt page.writes s.limits.last_writes) (h == h) self in
      let from_data : ReadsData u h x access (accessed_data u access) got = subst (λ (o : Option PageState). ReadsData u h x access o got) (sym found) (may, refl) in
      let reads : Reads u h x access (accessed_text u x access) got = subst (λ (o : Option PageValue). Reads u h x access o got) (sym d.no_text) from_data in
      let takes_it : takes_for (Some w) t x access page ≡ true = takes t x page ∙ ap not last in
      take_first deltas s h hart word inst w access met f page d (look_events hart inst va width got) (change_hart (met_as s met) h g) e refl (has_met_behind s hart n) takes_it
      (taken_rest deltas s h hart word inst w access met f page d (Look va width got) (looked_with u va width got) g got (look_makes u got (in_try_there s h word hart f.finds.rests.there) reads) (look_leaves u got left (ap (reservation_of u va width) found)) refl)

  pub data_read : (journals : JournalsKeepSound) (page : PageState) → FindsData s hart va page → is_lost (Some w) hart.reservation ≡ false
      → ((u : FlatState) (y : HartState) (p : PageState) → takes_for (Some w) u y (read_at va width) p ≡ not (nat_lt p.writes u.limits.last_writes))
      → IsLegalUnit deltas s h (access_events s hart word va (taking_events s va page ++ look_events hart inst va width (number_in page.words (va % PAGE_SIZE) width)))
      (change_hart (now_met s h hart (page_of va)) h (read_end w inst (number_in page.words (va % PAGE_SIZE) width) (reservation_of s va width (Some page))))
  data_read journals page d kept takes =
      let r = f.finds.rests.rests in
      let got : ℕ = number_in page.words (va % PAGE_SIZE) width in
      data_unit deltas s h hart word inst w (read_at va width) f e journals page d refl kept (taking_events s va page ++ look_events hart inst va width got) (λ s. s) (read_end w inst got (reservation_of s va width (Some page))) r.no_one refl (settled_stays s.pages r.free) (λ hart. refl)
      (by_last (nat_lt page.writes s.limits.last_writes) refl)
    where
      by_last : (b : Bool) → nat_lt page.writes s.limits.last_writes ≡ b
          → UnitFrom deltas (at_rest deltas (trying s h word (met_behind s hart (page_of va)))) h ((if b then [] else Take (page_of va) ∷ []) ++ look_events hart inst va width (number_in page.words (va % PAGE_SIZE) width))
          (change_hart (met_as s (met_behind s hart (page_of va))) h (read_end w inst (number_in page.words (va % PAGE_SIZE) width) (reservation_of s va width (Some page))))
      by_last true is = free_look page d is
      by_last false is = last_look page d takes is

-- text is apart from data while its generation lives
text_numbered : (P : ℕ → Type 0) (text : List PageValue) (n : ℕ) (page : PageValue) → AllByRecursion P (text_numbers text) → page_in text n ≡ Some page → P n
text_numbered P [] n page all is = absurd (cc)
text_numbered P (x ∷ text) n page all is = by_test (x.number == n) refl (text_numbered P text n page all.1) is
  where
    same : (a b : ℕ) → (a == b) ≡ true → a ≡ b
    same a b e = grind (arith, nat_tests)

    by_test : (b : Bool) → (x.number == n) ≡ b → (page_in text n ≡ Some page → P n) → (if b then Some x else page_in text n) ≡ Some page → P n
    by_test true t rest is = subst P (same x.number n t) all.0
    by_test false t rest is = rest is

no_data : (o : Option PageState) → is_some o ≡ false → o ≡ None
no_data None e = refl
no_data (Some page) e = absurd (cc)

pub text_apart : (deltas : List DeltaValue) (s : FlatState) (h : ℕ) (hart : HartState) (word : ℕ) (inst : Inst) (w : Want) (va : ℕ) (page : PageValue) → FindsInst deltas s h hart word inst w → FindsText s hart va page → data_in s.pages (page_of va) ≡ None
text_apart deltas s h hart word inst w va page f text =
    by_gen (slice_get s.gens hart.generation) refl live text
  where
    live : is_live s hart.generation ≡ true
    live = (f.finds.rests.sound.state.harts h hart f.finds.rests.there).live f.finds.runs

    by_gen : (o : Option GenState) → slice_get s.gens hart.generation ≡ o → unwrap_or (option_map (λ (gen : GenState). gen.live) o) false ≡ true → page_in (text_in o) (page_of va) ≡ Some page → data_in s.pages (page_of va) ≡ None
    by_gen None is live text = absurd (cc)
    by_gen (Some gen) is live text =
        let sound : IsSoundGen deltas s gen = all_get (IsSoundGen deltas s) s.gens hart.generation gen f.finds.rests.sound.state.gens is in
        no_data (data_in s.pages (page_of va)) (text_numbered (λ n. is_data s n ≡ false) gen.text (page_of va) page (sound.apart live) text)

-- loads
pub load_unit : (journals : JournalsKeepSound) (deltas : List DeltaValue) (s : FlatState) (h : ℕ) (hart : HartState) (word : ℕ) (inst : Inst) (va width : ℕ) (page : PageState) → FindsInst deltas s h hart word inst (want.Look va width) → FindsData s hart va page
    → IsLegalUnit deltas s h (access_events s hart word va (taking_events s va page ++ look_events hart inst va width (number_in page.words (va % PAGE_SIZE) width)))
    (change_hart (now_met s h hart (page_of va)) h (hart_read inst (number_in page.words (va % PAGE_SIZE) width)))
load_unit journals deltas s h hart word inst va width page f d = data_read deltas s h hart word inst (want.Look va width) va width f refl (λ x. refl) (λ e. cc) journals page d refl (λ u y p. refl)

pub reserve_unit : (journals : JournalsKeepSound) (deltas : List DeltaValue) (s : FlatState) (h : ℕ) (hart : HartState) (word : ℕ) (inst : Inst) (va width : ℕ) (page : PageState) → FindsInst deltas s h hart word inst (want.Reserve va width) → FindsData s hart va page
    → IsLegalUnit deltas s h (access_events s hart word va (taking_events s va page ++ look_events hart inst va width (number_in page.words (va % PAGE_SIZE) width)))
    (change_hart (now_met s h hart (page_of va)) h (hart_reserved inst (number_in page.words (va % PAGE_SIZE) width) (reservation_of s va width (Some page))))
reserve_unit journals deltas s h hart word inst va width page f d = data_read deltas s h hart word inst (want.Reserve va width) va width f refl (λ x. refl) (λ e. cc) journals page d refl (λ u y p. refl)

pub text_load_unit : (journals : JournalsKeepSound) (deltas : List DeltaValue) (s : FlatState) (h : ℕ) (hart : HartState) (word : ℕ) (inst : Inst) (va width : ℕ) (page : PageValue) → FindsInst deltas s h hart word inst (want.Look va width) → FindsText s hart va page
    → IsLegalUnit deltas s h (Fetch hart.arch.pc word ∷ look_events hart inst va width (number_in page.words (va % PAGE_SIZE) width)) (change_hart s h (hart_read inst (number_in page.words (va % PAGE_SIZE) width)))
text_load_unit journals deltas s h hart word inst va width page f text = text_read deltas s h hart word inst (want.Look va width) va width f refl (λ x. refl) (λ e. cc) journals page (reservation_of s va width (data_in s.pages (page_of va))) text refl

pub text_reserve_unit : (journals : JournalsKeepSound) (deltas : List DeltaValue) (s : FlatState) (h : ℕ) (hart : HartState) (word : ℕ) (inst : Inst) (va width : ℕ) (page : PageValue) → FindsInst deltas s h hart word inst (want.Reserve va width) → FindsText s hart va page
    → IsLegalUnit deltas s h (Fetch hart.arch.pc word ∷ look_events hart inst va width (number_in page.words (va % PAGE_SIZE) width)) (change_hart s h (hart_reserved inst (number_in page.words (va % PAGE_SIZE) width) None))
text_reserve_unit journals deltas s h hart word inst va width page f text =
    text_read deltas s h hart word inst (want.Reserve va width) va width f refl (λ x. refl) (λ e. cc) journals page None text (ap (reservation_of s va width) (text_apart deltas s h hart word inst (want.Reserve va width) va page f text))
