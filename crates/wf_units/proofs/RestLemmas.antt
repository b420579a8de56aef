-- What comes behind the meeting of an access: the page is taken, an answer or a write is made, and the instruction ends.
use Rattle.std.proofs.Common.{◌≡◌, ◌&&◌, ◌==◌, ◌%◌, ℕ, List, [], ◌∷◌, Option, Some, None, Bool, true, false, refl, sym, subst, ap, ◌∙◌, if◌then◌else◌}
use Rattle.std.specs.Prelude.{slice_get}
use Rattle.std.specs.Option.{option_map}
use Rattle.std.specs.List.{AllByRecursion}
use Rattle.rv_inst.specs.declared.inst.Inst.{Inst}
use Rattle.rv_inst.specs.declared.want.Want.{Want}
use Rattle.rv_inst.specs.Meanings.{meaning_of}
use Rattle.wf_outside.specs.declared.sizes.TheConstants.{PAGE_SIZE}
use Rattle.wf_outside.specs.Images.{DeltaValue}
use Rattle.wf_outside.specs.Pages.{page_of}
use Rattle.wf_flat.specs.declared.event.Actor.TheVariants.{Hart}
use Rattle.wf_flat.specs.declared.event.Event.{Event}
use Rattle.wf_flat.specs.declared.event.Event.TheVariants.{End, Take}
use Rattle.wf_flat.specs.declared.state.Life.TheVariants.{Running}
use Rattle.wf_flat.specs.State.{FlatState, HartState, PageState}
use Rattle.wf_flat.specs.Accesses.{Access, access_of, accessed_data, has_right, holds, holds_page, is_free, is_reached}
use Rattle.wf_flat.specs.Changes.{change_hart, change_page, ended, fetched_with, give_back, given_back, leave_hart, page_taken, put_with, taken_by, try_ended}
use Rattle.wf_flat.specs.Follows.{ends_unit}
use Rattle.wf_flat.specs.Lists.{changed_at, changed_by}
use Rattle.wf_flat.specs.Memory.{data_in, has_met}
use Rattle.wf_flat.specs.Serving.{IsAlone, held_by}
use Rattle.wf_flat.specs.Steps.{MayAct, MayTake, TakesData, access_in, arch_after, is_done, takes_for, want_in}
use Rattle.wf_flat.proofs.ChangeLemmas.{change_found, given_some, note_alone}
use Rattle.wf_flat.proofs.FoundLemmas.{data_number}
use Rattle.wf_flat.proofs.HartLemmas.{changed_get}
use Rattle.wf_flat.proofs.ListLemmas.{and_some}
use Rattle.wf_legal.specs.Events.{flat_after}
use Rattle.wf_legal.specs.Legal.{at_rest}
use Rattle.wf_service.specs.Resting.{IsSettled}
use Rattle.wf_service.proofs.QuietLemmas.{IsFree, all_but, but_changed}
use Rattle.wf_units.specs.Accessing.{FindsData}
use Rattle.wf_units.specs.Ends.{bytes_written, page_written}
use Rattle.wf_units.specs.Instructions.{FindsInst}
use Rattle.wf_units.proofs.AskLemmas.{met_as, not_held, same_number, settled_page, trying}
use Rattle.wf_units.proofs.EndLemmas.{changed_alike, changed_twice}
use Rattle.wf_units.proofs.PlainLemmas.{end_unit, ended_free, in_try_there, leave_nobody, want_there}
use Rattle.wf_units.proofs.TryLemmas.{StaysOutside, UnitFrom, unit_outside}

abbrev number_of : PageState → ℕ
number_of page = page.number

-- a page changes twice, and not at all
page_twice : (pages : List PageState) (n : ℕ) (f g : PageState → PageState) → ((page : PageState) → (f page).number ≡ page.number) → changed_by number_of (changed_by number_of pages n f) n g ≡ changed_by number_of pages n (λ page. g (f page))
page_twice [] n f g same = refl
page_twice (page ∷ pages) n f g same =
    ap (λ (x : PageState). x ∷ changed_by number_of (changed_by number_of pages n f) n g) (by_test (page.number == n) refl)
    ∙ ap (λ (xs : List PageState). (if page.number == n then g (f page) else page) ∷ xs) (page_twice pages n f g same)
  where
    by_test : (b : Bool) → (page.number == n) ≡ b → (if (if b then f page else page).number == n then g (if b then f page else page) else (if b then f page else page)) ≡ (if b then g (f page) else page)
    by_test true is = let still : ((f page).number == n) ≡ true = ap (λ (k : ℕ). k == n) (same page) ∙ is in rw still refl
    by_test false is = rw is refl

page_same : (pages : List PageState) (n : ℕ) (f : PageState → PageState) → ((page : PageState) → IsSettled page → f page ≡ page) → AllByRecursion IsSettled pages → changed_by number_of pages n f ≡ pages
page_same [] n f same all = refl
page_same (page ∷ pages) n f same all =
    ap (λ (x : PageState). x ∷ changed_by number_of pages n f) (by_test (page.number == n)) ∙ ap (λ (xs : List PageState). page ∷ xs) (page_same pages n f same all.1)
  where
    by_test : (b : Bool) → (if b then f page else page) ≡ page
    by_test true = same page all.0
    by_test false = refl

all_three : (a b c : Bool) → a ≡ true → b ≡ true → c ≡ true → (a && b && c) ≡ true
all_three a b c p q r = rw (p, q, r) refl

-- in reach with the right
pub reached : (s : FlatState) (hart : HartState) (access : Access) (page : PageState) → IsSettled page → has_met s.met hart.generation page.number ≡ true → has_right access page ≡ true → is_reached s hart access page ≡ true
reached s hart access page settled met right = let here = settled.0 in rw (here, met, right) refl

-- what a hart's event of an access leaves: it has its answer, and what is to be its end
pub record Leaves (word : ℕ) (inst : Inst) (access : Access) (x : HartState) (k g : HartState → HartState) (hart : HartState) (got : ℕ) : Type 0 where
  pub runs : (k x).life ≡ Running
  pub accesses : access_in (k x) ≡ Some access
  pub done : is_done (k x) (want_in (k x)) ≡ true
  pub arch : arch_after (k x) ≡ meaning_of inst hart.arch got
  pub ends : ended (k x) ≡ g hart

-- an event of a hart in a try, which goes on
pub record Makes (deltas : List DeltaValue) (s : FlatState) (h : ℕ) (e : Event) (mid : FlatState) : Type 0 where
  pub may : MayAct s (Hart h) e
  pub unended : ends_unit e ≡ false
  pub stays : StaysOutside e
  pub changed : flat_after deltas s (Hart h) e ≡ mid

module _ (deltas : List DeltaValue) (s : FlatState) (h : ℕ) (hart : HartState) (word : ℕ) (inst : Inst) (w : Want) (access : Access) (met : List (ℕ × ℕ)) (f : FindsInst deltas s h hart word inst w) where
  abbrev n : ℕ
  n = page_of access.va

  abbrev t : FlatState
  t = trying s h word met

  abbrev x : HartState
  x = fetched_with word hart

  abbrev pub taken : FlatState
  taken = change_page t n (taken_by h)

  there : slice_get t.harts h ≡ Some x
  there = in_try_there s h word hart f.finds.rests.there

  alone : IsAlone t h
  alone = but_changed IsFree (fetched_with word) h s.harts (all_but IsFree h s.harts f.finds.rests.rests.no_try)

  -- the hart's end
  harts_end : (k g : HartState → HartState) → ended (k x) ≡ g hart → changed_at (changed_at (changed_at s.harts h (fetched_with word)) h k) h ended ≡ changed_at s.harts h g
  harts_end k g ends =
      changed_twice (changed_at s.harts h (fetched_with word)) h k ended ∙ changed_twice s.harts h (fetched_with word) (λ y. ended (k y))
      ∙ changed_alike s.harts h (λ y. ended (k (fetched_with word y))) g hart f.finds.rests.there ends

  -- an answer, for which no page is taken
  pub answered_ends : (k g : HartState → HartState) → access_in (k x) ≡ Some access → ended (k x) ≡ g hart → try_ended (change_hart t h k) h ≡ change_hart (met_as s met) h g
  answered_ends k g accesses ends =
      let u : FlatState = change_hart t h k in
      let r = f.finds.rests.rests in
      let at : slice_get u.harts h ≡ Some (k x) = changed_get t.harts h k x there in
      let free : holds u h access ≡ false = not_held u h access r.free in
      let none : None ≡ held_by u h (access_in (k x)) = ap (λ (b : Bool). if b then Some n else None) (sym free) ∙ ap (held_by u h) (sym accesses) in
      ended_free u h r.no_one (and_some (slice_get u.harts h) _ (k x) at none)
      ∙ ap (λ (harts : List HartState). (let v : FlatState = record (met_as s met) { harts = harts } in v)) (harts_end k g ends)

  pub answered_rest : (e : Event) (k g : HartState → HartState) (got : ℕ) → Makes deltas t h e (change_hart t h k) → Leaves word inst access x k g hart got → UnitFrom deltas (at_rest deltas t) h (e ∷ End (meaning_of inst hart.arch got).pc ∷ []) (change_hart (met_as s met) h g)
  answered_rest e k g got m l =
      let u : FlatState = change_hart t h k in
      let new : FlatState = change_hart (met_as s met) h g in
      let r = f.finds.rests.rests in
      let at : slice_get u.harts h ≡ Some (k x) = changed_get t.harts h k x there in
      unit_outside deltas t u h e (End (meaning_of inst hart.arch got).pc ∷ []) new r.no_one m.may m.unended m.stays m.changed
      (end_unit deltas u new h (k x) (meaning_of inst hart.arch got) r.no_one at l.runs l.done l.arch (answered_ends k g l.accesses l.ends))

  -- the page is taken, which no other hart notes
  pub taken_is : page_taken t h n ≡ taken
  taken_is = let lone : IsAlone taken h = alone in sym (note_alone taken h n lone)

  module _ (page : PageState) (d : FindsData s hart access.va page) where
    settled : IsSettled page
    settled = settled_page s.pages n page f.finds.rests.rests.free d.there

    -- the page is taken
    pub take_first : (events : List Event) (new : FlatState) → access_of (Some w) ≡ Some access → has_right access page ≡ true → has_met met hart.generation n ≡ true → takes_for (Some w) t x access page ≡ true
        → UnitFrom deltas (at_rest deltas taken) h events new → UnitFrom deltas (at_rest deltas t) h (Take n ∷ events) new
    take_first events new e right known takes rest =
        let r = f.finds.rests.rests in
        let wants : want_in x ≡ Some w = want_there x word inst w refl f.is_inst f.wants in
        let accesses : access_in x ≡ Some access = ap access_of wants ∙ e in
        let number : page.number ≡ n = data_number s.pages n page d.there in
        let has : has_met met hart.generation page.number ≡ true = ap (has_met met hart.generation) number ∙ known in
        let for_want : takes_for (want_in x) t x access page ≡ true = ap (λ (o : Option Want). takes_for o t x access page) wants ∙ takes in
        let empty = settled.1 in
        let taking : TakesData t x access (accessed_data t access) = subst (TakesData t x access) (sym d.there) (all_three (is_free page) (is_reached t x access page) (takes_for (want_in x) t x access page) (rw empty refl) (reached t x access page settled has right) for_want) in
        let own : MayTake t x (Some access) n = (refl, refl, d.no_text, taking) in
        let may : MayAct t (Hart h) (Take n) = and_some (slice_get t.harts h) _ x there (f.finds.runs, subst (λ (o : Option Access). MayTake t x o n) (sym accesses) own) in
        let alone_then : IsAlone taken h = alone in
        unit_outside deltas t taken h (Take n) events new r.no_one may refl (λ deltas s h inside. rw inside refl) (sym (note_alone taken h n alone_then)) rest

    pub found_taken : data_in taken.pages n ≡ Some (taken_by h page)
    found_taken = change_found t n (taken_by h) (λ page. refl) ∙ ap (option_map (taken_by h)) d.there

    held_self : (u : FlatState) (p : PageState) → data_in u.pages n ≡ Some p → p.holder ≡ Some h → Some n ≡ held_by u h (Some access)
    held_self u p is holder =
        let self = same_number h in
        let holds_it : holds_page h (Some p) ≡ true = rw holder self in
        let holding : holds u h access ≡ true = ap (holds_page h) is ∙ holds_it in
        ap (λ (b : Bool). if b then Some n else None) (sym holding)

    -- what is held is given back
    gives : (u : FlatState) (p : PageState) (k : HartState → HartState) (put : Bool) → u.inside ≡ None → u.harts ≡ changed_at t.harts h k → data_in u.pages n ≡ Some p → p.holder ≡ Some h → access_in (k x) ≡ Some access → (k x).put ≡ put
        → try_ended u h ≡ change_hart (change_page u n (given_back u.limits.last_writes put)) h ended
    gives u p k put inside harts is holder accesses puts =
        let at : slice_get u.harts h ≡ Some (k x) = ap (λ (l : List HartState). slice_get l h) harts ∙ changed_get t.harts h k x there in
        let holding : Some n ≡ held_by u h (access_in (k x)) = held_self u p is holder ∙ ap (held_by u h) (sym accesses) in
        let lone : IsAlone u h = rw harts (but_changed IsFree k h t.harts alone) in
        let given : change_page u n (given_back u.limits.last_writes put) ≡ give_back u h = given_some u h n put lone (and_some (slice_get u.harts h) _ (k x) at holding) (and_some (slice_get u.harts h) (λ y. put ≡ y.put) (k x) at (sym puts)) in
        ap (λ (v : FlatState). leave_hart v h ended) (sym given) ∙ leave_nobody (change_page u n (given_back u.limits.last_writes put)) h ended inside

    -- an answer, for which the page was taken
    pub taken_ends : (k g : HartState → HartState) → access_in (k x) ≡ Some access → ended (k x) ≡ g hart → (k x).put ≡ false → try_ended (change_hart taken h k) h ≡ change_hart (met_as s met) h g
    taken_ends k g accesses ends unput =
        let u : FlatState = change_hart taken h k in
        let r = f.finds.rests.rests in
        let last : ℕ = s.limits.last_writes in
        let back : (page : PageState) → IsSettled page → given_back last false (taken_by h page) ≡ page = λ page settled. ap (λ (o : Option ℕ). (let p : PageState = record page { holder = o } in p)) (sym settled.1) in
        let pages : changed_by number_of (changed_by number_of s.pages n (taken_by h)) n (given_back last false) ≡ s.pages = page_twice s.pages n (taken_by h) (given_back last false) (λ page. refl) ∙ page_same s.pages n (λ page. given_back last false (taken_by h page)) back r.free in
        gives u (taken_by h page) k false r.no_one refl found_taken refl accesses unput
        ∙ ap (λ (ps : List PageState). (let v : FlatState = record (met_as s met) { pages = ps; harts = changed_at (changed_at (changed_at s.harts h (fetched_with word)) h k) h ended } in v)) pages
        ∙ ap (λ (harts : List HartState). (let v : FlatState = record (met_as s met) { harts = harts } in v)) (harts_end k g ends)

    pub taken_rest : (e : Event) (k g : HartState → HartState) (got : ℕ) → Makes deltas taken h e (change_hart taken h k) → Leaves word inst access x k g hart got → (k x).put ≡ false → UnitFrom deltas (at_rest deltas taken) h (e ∷ End (meaning_of inst hart.arch got).pc ∷ []) (change_hart (met_as s met) h g)
    taken_rest e k g got m l unput =
        let u : FlatState = change_hart taken h k in
        let new : FlatState = change_hart (met_as s met) h g in
        let r = f.finds.rests.rests in
        let at : slice_get u.harts h ≡ Some (k x) = changed_get t.harts h k x there in
        unit_outside deltas taken u h e (End (meaning_of inst hart.arch got).pc ∷ []) new r.no_one m.may m.unended m.stays m.changed
        (end_unit deltas u new h (k x) (meaning_of inst hart.arch got) r.no_one at l.runs l.done l.arch (taken_ends k g l.accesses l.ends unput))

    -- a write
    pub written_ends : (k g : HartState → HartState) (value : ℕ) → access_in (k x) ≡ Some access → ended (k x) ≡ g hart → (k x).put ≡ true
        → try_ended (change_hart (change_page taken n (put_with (access.va % PAGE_SIZE) access.width value)) h k) h ≡ change_hart (bytes_written (met_as s met) access.va access.width value) h g
    written_ends k g value accesses ends puts =
        let put : PageState → PageState = put_with (access.va % PAGE_SIZE) access.width value in
        let u : FlatState = change_hart (change_page taken n put) h k in
        let r = f.finds.rests.rests in
        let last : ℕ = s.limits.last_writes in
        let found : data_in u.pages n ≡ Some (put (taken_by h page)) = change_found taken n put (λ page. refl) ∙ ap (option_map put) found_taken in
        let pages : changed_by number_of (changed_by number_of (changed_by number_of s.pages n (taken_by h)) n put) n (given_back last true) ≡ changed_by number_of s.pages n (page_written last (access.va % PAGE_SIZE) access.width value)
        = page_twice (changed_by number_of s.pages n (taken_by h)) n put (given_back last true) (λ page. refl) ∙ page_twice s.pages n (taken_by h) (λ page. given_back last true (put page)) (λ page. refl) in
        gives u (put (taken_by h page)) k true r.no_one refl found refl accesses puts
        ∙ ap (λ (ps : List PageState). (let v : FlatState = record (met_as s met) { pages = ps; harts = changed_at (changed_at (changed_at s.harts h (fetched_with word)) h k) h ended } in v)) pages
        ∙ ap (λ (harts : List HartState). (let v : FlatState = record (bytes_written (met_as s met) access.va access.width value) { harts = harts } in v)) (harts_end k g ends)

    pub written_rest : (e : Event) (k g : HartState → HartState) (got value : ℕ) → Makes deltas taken h e (change_hart (change_page taken n (put_with (access.va % PAGE_SIZE) access.width value)) h k) → Leaves word inst access x k g hart got → (k x).put ≡ true
        → UnitFrom deltas (at_rest deltas taken) h (e ∷ End (meaning_of inst hart.arch got).pc ∷ []) (change_hart (bytes_written (met_as s met) access.va access.width value) h g)
    written_rest e k g got value m l puts =
        let put : PageState → PageState = put_with (access.va % PAGE_SIZE) access.width value in
        let u : FlatState = change_hart (change_page taken n put) h k in
        let new : FlatState = change_hart (bytes_written (met_as s met) access.va access.width value) h g in
        let r = f.finds.rests.rests in
        let at : slice_get u.harts h ≡ Some (k x) = changed_get t.harts h k x there in
        unit_outside deltas taken u h e (End (meaning_of inst hart.arch got).pc ∷ []) new r.no_one m.may m.unended m.stays m.changed
        (end_unit deltas u new h (k x) (meaning_of inst hart.arch got) r.no_one at l.runs l.done l.arch (written_ends k g value l.accesses l.ends puts))
