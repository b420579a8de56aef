-- What the entries of accesses make, where no other hart is in a try.
use Rattle.std.proofs.Common.{◌≡◌, ◌≢◌, ◌++◌, ℕ, List, [], ◌∷◌, Option, Some, None, Bool, true, false, length, refl, sym, subst, ap, ◌∙◌, inl, inr, arith}
use Rattle.std.specs.Prelude.{slice_get, option_and_then, unwrap_or, if◌then◌else◌, ◌==◌, ◌||◌, not, is_some, nat_lt}
use Rattle.std.specs.Option.{option_map}
use Rattle.std.specs.List.{AllByRecursion}
use Rattle.std.proofs.lemmas.Bool.Decides.{nat_tests}
use Rattle.rv_inst.specs.declared.inst.Inst.{Inst}
use Rattle.rv_inst.specs.declared.inst.Inst.TheVariants.{Ecall}
use Rattle.rv_inst.specs.declared.want.Want.{Want}
use Rattle.rv_inst.specs.declared.want.Want.TheVariants as want
use Rattle.rv_inst.specs.Arch.{ArchState}
use Rattle.rv_inst.specs.Decoding.{inst_of}
use Rattle.rv_inst.specs.Meanings.{want_of, meaning_of}
use Rattle.wf_flat.specs.declared.event.Actor.TheVariants.{Hart}
use Rattle.wf_flat.specs.declared.event.Event.TheVariants.{Look, Take, Put, Swap, Miss, Enter, Sync}
use Rattle.wf_flat.specs.declared.event.Entry.{Entry}
use Rattle.wf_flat.specs.declared.state.Life.TheVariants.{Running}
use Rattle.wf_flat.specs.State.{FlatState, HartState, PageState}
use Rattle.wf_flat.specs.Lists.{changed_at, changed_by, found_by, inserted_by}
use Rattle.wf_outside.specs.Pages.{page_of}
use Rattle.wf_flat.specs.Memory.{data_in, has_met, with_met, met_key}
use Rattle.wf_flat.specs.Ordered.{IsOrdered}
use Rattle.wf_flat.specs.Serving.{held_by}
use Rattle.wf_flat.specs.Accesses.{Access, access_of, holds, holds_page}
use Rattle.wf_flat.specs.Steps.{OfHart, MayLook, MayTake, MayPut, MaySwap, MayMiss, want_in, access_in, inst_in, is_conditional, has_written, has_ended, is_done, arch_by, arch_after}
use Rattle.wf_legal.specs.Events.{flat_after}
use Rattle.wf_legal.specs.Legal.{Moment}
use Rattle.wf_flat.specs.Changes.{looked_with, written_by, swapped_by, missed, taken_by, put_with, change_hart, change_page}
use Rattle.wf_flat.proofs.HartLemmas.{changed_get}
use Rattle.wf_driver.specs.Stepping.{IsActing, IsSame, IsDone, IsTrying, EndsUnit, HasOpenUnit, StaysOpen}
use Rattle.wf_flat.proofs.ListLemmas.{some_and, and_some, length_changed}
use Rattle.wf_driver.proofs.StepLemmas.{entry, left, but_changed, IsOwned, acts_on, open_made}
use Rattle.wf_driver.proofs.AccessLemmas.{wanted}

-- a look, a take, a put, a swap and a miss are made
pub look_made : (start : Moment) (mid new : FlatState) (before now later : List Entry) (h va width value : ℕ) → HasOpenUnit start before mid now h → mid.inside ≡ None
    → OfHart mid h (λ hart. (hart.life ≡ Running) × MayLook mid h hart va width value) → new ≡ flat_after [] mid (Hart h) (Look va width value) → later ≡ now ++ entry h (Look va width value) ∷ [] → HasOpenUnit start before new later h
look_made start mid new before now later h va width value b inside may n appended = open_made start mid new before now later h (Look va width value) b inside may refl (rw inside refl) n appended

pub take_made : (start : Moment) (mid new : FlatState) (before now later : List Entry) (h page : ℕ) → HasOpenUnit start before mid now h → mid.inside ≡ None
    → OfHart mid h (λ hart. (hart.life ≡ Running) × MayTake mid hart (access_in hart) page) → new ≡ flat_after [] mid (Hart h) (Take page) → later ≡ now ++ entry h (Take page) ∷ [] → HasOpenUnit start before new later h
take_made start mid new before now later h page b inside may n appended = open_made start mid new before now later h (Take page) b inside may refl (rw inside refl) n appended

pub put_made : (start : Moment) (mid new : FlatState) (before now later : List Entry) (h va width value : ℕ) → HasOpenUnit start before mid now h → mid.inside ≡ None
    → OfHart mid h (λ hart. (hart.life ≡ Running) × MayPut mid h hart va width value) → new ≡ flat_after [] mid (Hart h) (Put va width value) → later ≡ now ++ entry h (Put va width value) ∷ [] → HasOpenUnit start before new later h
put_made start mid new before now later h va width value b inside may n appended = open_made start mid new before now later h (Put va width value) b inside may refl (rw inside refl) n appended

pub swap_made : (start : Moment) (mid new : FlatState) (before now later : List Entry) (h va width old value : ℕ) → HasOpenUnit start before mid now h → mid.inside ≡ None
    → OfHart mid h (λ hart. (hart.life ≡ Running) × MaySwap mid h hart va width old value) → new ≡ flat_after [] mid (Hart h) (Swap va width old value) → later ≡ now ++ entry h (Swap va width old value) ∷ [] → HasOpenUnit start before new later h
swap_made start mid new before now later h va width old value b inside may n appended = open_made start mid new before now later h (Swap va width old value) b inside may refl (rw inside refl) n appended

pub miss_made : (start : Moment) (mid new : FlatState) (before now later : List Entry) (h va : ℕ) → HasOpenUnit start before mid now h → mid.inside ≡ None
    → OfHart mid h (λ hart. (hart.life ≡ Running) × MayMiss mid h hart (access_in hart) va) → new ≡ flat_after [] mid (Hart h) (Miss va) → later ≡ now ++ entry h (Miss va) ∷ [] → HasOpenUnit start before new later h
miss_made start mid new before now later h va b inside may n appended = open_made start mid new before now later h (Miss va) b inside may refl (rw inside refl) n appended

-- the hart goes on in its try
pub look_acts : (s new : FlatState) (h va width value : ℕ) (held : Option ℕ) → IsActing s h held → new ≡ flat_after [] s (Hart h) (Look va width value) → IsActing new h held
look_acts s new h va width value held t n =
    acts_on s new h held (looked_with s va width value) t (ap (λ (f : FlatState). f.inside) n ∙ t.no_one) (ap (λ (f : FlatState). f.harts) n) (ap (λ (f : FlatState). f.pages) n) (ap (λ (f : FlatState). f.met) n)

owned_taken : (h number : ℕ) (pages : List PageState) → AllByRecursion (IsOwned None) pages → AllByRecursion (IsOwned (Some number)) (changed_by (λ page. page.number) pages number (taken_by h))
owned_taken h number [] all = tt
owned_taken h number (page ∷ pages) all = (by_test (page.number == number) refl, owned_taken h number pages all.1)
  where
    same : (a b : ℕ) → (a == b) ≡ true → b ≡ a
    same a b e = grind (arith, nat_tests)

    by_test : (b : Bool) → (page.number == number) ≡ b → IsOwned (Some number) (if b then taken_by h page else page)
    by_test true t = (all.0.0, inr (ap Some (same page.number number t)))
    by_test false t = (all.0.0, elim all.0.1 [ inl e ↦ inl e | inr e ↦ absurd (cc) ])

pub take_acts : (s new : FlatState) (h page : ℕ) → IsActing s h None → new ≡ flat_after [] s (Hart h) (Take page) → new.harts ≡ s.harts → IsOrdered new → IsActing new h (Some page)
take_acts s new h page t n harts ordered =
    record {
      no_one = ap (λ (f : FlatState). f.inside) n ∙ t.no_one;
      others = rw harts t.others;
      ordered = ordered;
      pages = subst (AllByRecursion (IsOwned (Some page))) (sym (ap (λ (f : FlatState). f.pages) n)) (owned_taken h page s.pages t.pages);
    }

owned_put : (held : Option ℕ) (number at width value : ℕ) (pages : List PageState) → AllByRecursion (IsOwned held) pages → AllByRecursion (IsOwned held) (changed_by (λ page. page.number) pages number (put_with at width value))
owned_put held number at width value [] all = tt
owned_put held number at width value (page ∷ pages) all = (by_test (page.number == number), owned_put held number at width value pages all.1)
  where
    by_test : (b : Bool) → IsOwned held (if b then put_with at width value page else page)
    by_test true = all.0
    by_test false = all.0

pub wrote_acts : (s new : FlatState) (h number at width value : ℕ) (f : HartState → HartState) (held : Option ℕ) → IsActing s h held → new ≡ change_hart (change_page s number (put_with at width value)) h f → IsOrdered new → IsActing new h held
wrote_acts s new h number at width value f held t n ordered =
    let harts = ap (λ (f : FlatState). f.harts) n in
    record {
      no_one = ap (λ (f : FlatState). f.inside) n ∙ t.no_one;
      others = rw harts (but_changed (λ (hart : HartState). hart.fetched ≡ None) f h s.harts t.others);
      ordered = ordered;
      pages = subst (AllByRecursion (IsOwned held)) (sym (ap (λ (f : FlatState). f.pages) n)) (owned_put held number at width value s.pages t.pages);
    }

pub miss_acts : (s new : FlatState) (h va : ℕ) (held : Option ℕ) → IsActing s h held → new ≡ flat_after [] s (Hart h) (Miss va) → IsActing new h held
miss_acts s new h va held t n =
    acts_on s new h held missed t (ap (λ (f : FlatState). f.inside) n ∙ t.no_one) (ap (λ (f : FlatState). f.harts) n) (ap (λ (f : FlatState). f.pages) n) (ap (λ (f : FlatState). f.met) n)

pub sync_acts : (s new : FlatState) (h generation page : ℕ) → IsActing s h None → new ≡ flat_after [] (flat_after [] s (Hart h) Enter) (Hart h) (Sync generation page) → new.harts ≡ s.harts → IsOrdered new → IsActing new h None
sync_acts s new h generation page t n harts ordered =
    record {
      no_one = ap (λ (f : FlatState). f.inside) n ∙ left h;
      others = rw harts t.others;
      ordered = ordered;
      pages = subst (AllByRecursion (IsOwned None)) (sym (ap (λ (f : FlatState). f.pages) n)) t.pages;
    }

pub sync_same : (s new : FlatState) (h generation page : ℕ) → new ≡ flat_after [] (flat_after [] s (Hart h) Enter) (Hart h) (Sync generation page) → new.harts ≡ s.harts → IsSame s new
sync_same s new h generation page n harts = record { pages = ap (λ (f : FlatState). f.pages) n; gens = ap (λ (f : FlatState). f.gens) n; limits = ap (λ (f : FlatState). f.limits) n; harts = harts }

-- a page that is met now has been met
met_in : (met : List (ℕ × ℕ)) (pair : ℕ × ℕ) → is_some (found_by met_key (inserted_by met_key pair met) (met_key pair)) ≡ true
met_in [] pair = let self : (met_key pair == met_key pair) ≡ true = self_equal (met_key pair) in rw self refl
  where
    self_equal : (n : ℕ) → (n == n) ≡ true
    self_equal n = grind (arith, nat_tests)
met_in (other ∷ met) pair = by_order (met_in met pair) (nat_lt (met_key other) (met_key pair))
  where
    self_equal : (n : ℕ) → (n == n) ≡ true
    self_equal n = grind (arith, nat_tests)

    by_test : (b : Bool) (o : Option (ℕ × ℕ)) → is_some o ≡ true → is_some (if b then Some other else o) ≡ true
    by_test true o e = refl
    by_test false o e = e

    by_order : is_some (found_by met_key (inserted_by met_key pair met) (met_key pair)) ≡ true → (b : Bool) → is_some (found_by met_key (if b then other ∷ inserted_by met_key pair met else pair ∷ other ∷ met) (met_key pair)) ≡ true
    by_order rest true = by_test (met_key other == met_key pair) (found_by met_key (inserted_by met_key pair met) (met_key pair)) rest
    by_order rest false = let self : (met_key pair == met_key pair) ≡ true = self_equal (met_key pair) in rw self refl

pub met_now : (met : List (ℕ × ℕ)) (generation page : ℕ) → has_met (with_met met generation page) generation page ≡ true
met_now met generation page = met_in met (generation, page)

-- an instruction that does not call leaves what it means
own_meaning : (inst : Inst) (hart : HartState) → want_of inst hart.arch ≢ want.Call → arch_by (Some inst) hart ≡ meaning_of inst hart.arch (unwrap_or hart.looked 0)
own_meaning Ecall hart n = absurd (n refl)
own_meaning inst hart n = refl

-- an access is done where it has its answer and has written
access_done : (hart : HartState) (w : Want) (access : Access) → access_of (Some w) ≡ Some access → is_done hart (Some w) ≡ has_ended hart (Some access)
access_done hart want.Nothing access e = absurd (cc)
access_done hart w access e = ap (has_ended hart) e

no_call : (w : Want) (access : Access) → access_of (Some w) ≡ Some access → w ≢ want.Call
no_call w access e c = let none : access_of (Some w) ≡ None = ap (λ (x : Want). access_of (Some x)) c in cc

-- an event of an access leaves its hart in the try, with this answer
pub record Answers (f : HartState → HartState) (arch : ArchState) (inst : Inst) (access : Access) (answer : ℕ) : Type 0 where
  pub fetched : (hart : HartState) → (f hart).fetched ≡ hart.fetched
  pub same_arch : (hart : HartState) → (f hart).arch ≡ hart.arch
  pub life : (hart : HartState) → (f hart).life ≡ hart.life
  pub looked : (hart : HartState) → (f hart).looked ≡ Some answer
  pub wrote : (hart : HartState) → IsTrying arch inst hart → has_written (f hart) access ≡ true

pub done : (s new : FlatState) (h answer : ℕ) (held : Option ℕ) (arch next : ArchState) (inst : Inst) (access : Access) (f : HartState → HartState) → OfHart s h (IsTrying arch inst) → new.harts ≡ changed_at s.harts h f
    → access_of (Some (want_of inst arch)) ≡ Some access → Answers f arch inst access answer → held ≡ held_by new h (Some access) → next ≡ meaning_of inst arch answer → IsDone new h held next
done s new h answer held arch next inst access f ready harts e a is_held is_next =
    let w = some_and (slice_get s.harts h) _ ready in
    let hart : HartState = f w.0 in
    let is : slice_get new.harts h ≡ Some hart = ap (λ (xs : List HartState). slice_get xs h) harts ∙ changed_get s.harts h f w.0 w.1 in
    let inst_is : inst_in hart ≡ Some inst = ap (option_and_then inst_of) (a.fetched w.0) ∙ w.2.1 in
    let arch_is : hart.arch ≡ arch = a.same_arch w.0 ∙ w.2.2 in
    let want_is : want_in hart ≡ Some (want_of inst arch) = wanted arch inst hart inst_is arch_is in
    let access_is : access_in hart ≡ Some access = ap access_of want_is ∙ e in
    let ended : has_ended hart (Some access) ≡ true = rw (a.looked w.0, a.wrote w.0 w.2) refl in
    let is_done : is_done hart (want_in hart) ≡ true = ap (is_done hart) want_is ∙ access_done hart (want_of inst arch) access e ∙ ended in
    let calls : want_of inst hart.arch ≢ want.Call = λ c. no_call (want_of inst arch) access e (sym (ap (want_of inst) arch_is) ∙ c) in
    let meant : arch_after hart ≡ meaning_of inst hart.arch (unwrap_or hart.looked 0) = ap (λ (o : Option Inst). arch_by o hart) inst_is ∙ own_meaning inst hart calls in
    let answer_is : unwrap_or hart.looked 0 ≡ answer = ap (λ (o : Option ℕ). unwrap_or o 0) (a.looked w.0) in
    let after : arch_after hart ≡ meaning_of inst arch answer = meant ∙ ap (meaning_of inst hart.arch) answer_is ∙ ap (λ (x : ArchState). meaning_of inst x answer) arch_is in
    and_some (slice_get new.harts h) _ hart is (a.life w.0 ∙ w.2.0, is_done, is_held ∙ ap (held_by new h) (sym access_is), is_next ∙ sym after)

-- the events of accesses
pub look_answers : (s : FlatState) (va width value : ℕ) (arch : ArchState) (inst : Inst) (access : Access) → access.write ≡ false → Answers (looked_with s va width value) arch inst access value
look_answers s va width value arch inst access reads = record { fetched = λ hart. refl; same_arch = λ hart. refl; life = λ hart. refl; looked = λ hart. refl; wrote = λ hart t. rw reads refl }

or_put : (b c : Bool) → (not b || true || c) ≡ true
or_put true true = refl
or_put true false = refl
or_put false c = refl

pub put_answers : (arch : ArchState) (inst : Inst) (access : Access) → Answers written_by arch inst access 0
put_answers arch inst access =
    record { fetched = λ hart. refl; same_arch = λ hart. refl; life = λ hart. refl; looked = λ hart. refl; wrote = λ hart t. or_put access.write (is_conditional (want_in (written_by hart))) }

pub swap_answers : (old : ℕ) (arch : ArchState) (inst : Inst) (access : Access) → Answers (swapped_by old) arch inst access old
swap_answers old arch inst access =
    record { fetched = λ hart. refl; same_arch = λ hart. refl; life = λ hart. refl; looked = λ hart. refl; wrote = λ hart t. or_put access.write (is_conditional (want_in (swapped_by old hart))) }

pub miss_answers : (arch : ArchState) (inst : Inst) (access : Access) → is_conditional (Some (want_of inst arch)) ≡ true → Answers missed arch inst access 1
miss_answers arch inst access conditional =
    record {
      fetched = λ hart. refl;
      same_arch = λ hart. refl;
      life = λ hart. refl;
      looked = λ hart. refl;
      wrote = λ hart t. or_missed (not access.write) hart.put (is_conditional (want_in hart)) (ap is_conditional (wanted arch inst hart t.1 t.2) ∙ conditional);
    }
  where
    or_missed : (a b c : Bool) → c ≡ true → (a || b || c) ≡ true
    or_missed true b c e = refl
    or_missed false true c e = refl
    or_missed false false c e = e

-- who holds the page of an access, where pages stay, and where a hart holds it
pub held_same : (s new : FlatState) (h : ℕ) (access : Access) (held : Option ℕ) → new.pages ≡ s.pages → held ≡ held_by s h (Some access) → held ≡ held_by new h (Some access)
held_same s new h access held p e = rw p e

pub held_page : (s : FlatState) (h : ℕ) (access : Access) (page : PageState) → data_in s.pages (page_of access.va) ≡ Some page → page.holder ≡ Some h → Some (page_of access.va) ≡ held_by s h (Some access)
held_page s h access page is held =
    let holding : holds s h access ≡ true = rw is (rw held (self_equal h)) in
    rw holding refl
  where
    self_equal : (n : ℕ) → (n == n) ≡ true
    self_equal n = grind (arith, nat_tests)

-- who holds it has it, also behind a write
pub holds_by : (s : FlatState) (h page : ℕ) (access : Access) → Some page ≡ held_by s h (Some access) → holds s h access ≡ true
holds_by s h page access e = by_test (holds s h access) e
  where
    by_test : (b : Bool) → Some page ≡ (if b then Some (page_of access.va) else None) → b ≡ true
    by_test true e = refl
    by_test false e = absurd (cc)

still_held : (h at width value : ℕ) (o : Option PageState) → holds_page h (option_map (put_with at width value) o) ≡ holds_page h o
still_held h at width value None = refl
still_held h at width value (Some page) = refl

pub wrote_held : (s new : FlatState) (h page at width value : ℕ) (access : Access) → Some page ≡ held_by s h (Some access)
    → data_in new.pages (page_of access.va) ≡ option_map (put_with at width value) (data_in s.pages (page_of access.va)) → Some page ≡ held_by new h (Some access)
wrote_held s new h page at width value access e changed =
    let same : holds new h access ≡ holds s h access = ap (holds_page h) changed ∙ still_held h at width value (data_in s.pages (page_of access.va)) in
    e ∙ ap (λ (b : Bool). if b then Some (page_of access.va) else None) (sym same)

-- a hart in its access is in it where harts stay
pub still_in : (s new : FlatState) (h : ℕ) (arch : ArchState) (inst : Inst) → new.harts ≡ s.harts → OfHart s h (IsTrying arch inst) → OfHart new h (IsTrying arch inst)
still_in s new h arch inst e ready = rw e ready

-- a unit that stays open where harts are the same, or one of them changes, and ends from there
pub ends_behind : (s mid new : FlatState) (h : ℕ) (before now later : List Entry) → StaysOpen h s before mid now → mid.harts ≡ s.harts → EndsUnit h mid now new later → EndsUnit h s before new later
ends_behind s mid new h before now later stays same ends =
    record { made = λ m first b. ends.made m first (stays m first b); rests = ends.rests; harts = ends.harts ∙ ap length same }

pub ends_changed : (s mid new : FlatState) (h : ℕ) (f : HartState → HartState) (before now later : List Entry) → StaysOpen h s before mid now → mid.harts ≡ changed_at s.harts h f → EndsUnit h mid now new later → EndsUnit h s before new later
ends_changed s mid new h f before now later stays changed ends =
    record { made = λ m first b. ends.made m first (stays m first b); rests = ends.rests; harts = ends.harts ∙ ap length changed ∙ length_changed f s.harts h }
