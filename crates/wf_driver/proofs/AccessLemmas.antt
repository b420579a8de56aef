-- What the access of a hart may do, where nobody else holds a page and none is leaving.
use Rattle.std.proofs.Common.{◌≡◌, ◌≢◌, ◌%◌, ℕ, List, [], ◌∷◌, Option, Some, None, Bool, true, false, refl, sym, subst, ap, ◌∙◌, arith}
use Rattle.std.specs.Prelude.{IfSome, option_and_then, if◌then◌else◌, ◌==◌, ◌&&◌, ◌||◌, is_some, nat_lt}
use Rattle.std.specs.Option.{option_map, option_map_or}
use Rattle.std.specs.List.{AllByRecursion}
use Rattle.std.proofs.lemmas.Bool.Decides.{nat_tests}
use Rattle.rv_inst.specs.declared.inst.Inst.{Inst}
use Rattle.rv_inst.specs.declared.want.Want.{Want}
use Rattle.rv_inst.specs.declared.want.Want.TheVariants as want
use Rattle.rv_inst.specs.Decoding.{inst_of}
use Rattle.rv_inst.specs.Meanings.{want_of}
use Rattle.rv_inst.specs.Arch.{ArchState}
use Rattle.wf_outside.specs.Images.{DeltaValue}
use Rattle.wf_outside.specs.Pages.{PageValue, page_of}
use Rattle.wf_flat.specs.declared.state.Stage.TheVariants.{Here}
use Rattle.wf_flat.specs.State.{FlatState, HartState, PageState}
use Rattle.wf_flat.specs.Memory.{data_in, number_in, has_met}
use Rattle.wf_flat.specs.Accesses.{Access, access_of, accessed_text, accessed_data, has_right, is_reached, holds, holds_page, is_barred, is_open, is_free, has_moved}
use Rattle.wf_flat.specs.Steps.{Ask, Called, Faulted, inst_in, want_in, access_in, ask_by, ask_of, ask_of_want, ask_of_word, ask_of_access, is_lost, may_read, Reads, TakesData, MayTake, takes_for}
use Rattle.wf_legal.specs.Calls.{todo_by, todo_of_access, todo_of_page, access_trap}
use Rattle.wf_service.specs.Resting.{IsSettled}
use Rattle.wf_driver.specs.Stepping.{IsTrying}

-- what a hart in a try wants, and its access
pub wanted : (arch : ArchState) (inst : Inst) (hart : HartState) → inst_in hart ≡ Some inst → hart.arch ≡ arch → want_in hart ≡ Some (want_of inst arch)
wanted arch inst hart i a = ap (option_map (λ (x : Inst). want_of x hart.arch)) i ∙ ap (λ (x : ArchState). Some (want_of inst x)) a

pub accessed : (arch : ArchState) (inst : Inst) (hart : HartState) (access : Access) → IsTrying arch inst hart → access_of (Some (want_of inst arch)) ≡ Some access → access_in hart ≡ Some access
accessed arch inst hart access t e = ap access_of (wanted arch inst hart t.1 t.2) ∙ e

-- the asks of a hart, by what its instruction wants
by_fetched : (s : FlatState) (h : ℕ) (hart : HartState) (inst : Inst) (f : Option ℕ) → option_and_then inst_of f ≡ Some inst
    → ask_by s h hart f ≡ ask_of_want s h hart (option_map (λ (i : Inst). want_of i hart.arch) (option_and_then inst_of f))
by_fetched s h hart inst None e = absurd (cc)
by_fetched s h hart inst (Some word) e = by_inst (inst_of word) e
  where
    by_inst : (o : Option Inst) → o ≡ Some inst → ask_of_word s h hart word o ≡ ask_of_want s h hart (option_map (λ (i : Inst). want_of i hart.arch) o)
    by_inst None e = absurd (cc)
    by_inst (Some i) e = refl

want_asks : (s : FlatState) (h : ℕ) (hart : HartState) (w : Want) (access : Access) → access_of (Some w) ≡ Some access → ask_of_want s h hart (Some w) ≡ ask_of_access s h hart (Some access)
want_asks s h hart want.Nothing access e = absurd (cc)
want_asks s h hart want.Call access e = absurd (cc)
want_asks s h hart (want.Trap cause value) access e = absurd (cc)
want_asks s h hart (want.Look va width) access e = ap (ask_of_access s h hart) e
want_asks s h hart (want.Reserve va width) access e = ap (ask_of_access s h hart) e
want_asks s h hart (want.Put va width value) access e = ap (ask_of_access s h hart) e
want_asks s h hart (want.PutIf va width value) access e = ap (ask_of_access s h hart) e
want_asks s h hart (want.Swap va width op value) access e = ap (ask_of_access s h hart) e

-- a page of data is Here and free
pub found_free : (pages : List PageState) (n : ℕ) (page : PageState) → AllByRecursion IsSettled pages → data_in pages n ≡ Some page → IsSettled page
found_free [] n page all e = absurd (cc)
found_free (x ∷ pages) n page all e = by_test (x.number == n) (λ f. found_free pages n page all.1 f) e
  where
    by_test : (b : Bool) → (data_in pages n ≡ Some page → IsSettled page) → (if b then Some x else data_in pages n) ≡ Some page → IsSettled page
    by_test true rest e = let same : x ≡ page = cc in subst IsSettled same all.0
    by_test false rest e = rest e

-- nobody holds the page of an access
none_holds : (o : Option PageState) (h : ℕ) → ((page : PageState) → o ≡ Some page → IsSettled page) → holds_page h o ≡ false
none_holds None h f = refl
none_holds (Some page) h f = let e : page.holder ≡ None = (f page refl).1 in rw e refl

pub not_held : (s : FlatState) (h : ℕ) (access : Access) → AllByRecursion IsSettled s.pages → holds s h access ≡ false
not_held s h access all = none_holds (accessed_data s access) h (λ page e. found_free s.pages (page_of access.va) page all e)

-- an access that is barred, of a hart that has done nothing in its try, is a fault
barred_access : (s : FlatState) (h : ℕ) (hart : HartState) (access : Access) → hart.looked ≡ None → holds s h access ≡ false → is_lost (want_in hart) hart.reservation ≡ false → is_barred s hart access ≡ true
    → ask_of_access s h hart (Some access) ≡ Some (Faulted access)
barred_access s h hart access looked held lost barred = rw (looked, held, lost, barred) refl

pub fault_asked : (s : FlatState) (h : ℕ) (hart : HartState) (arch : ArchState) (inst : Inst) (access : Access) → AllByRecursion IsSettled s.pages → IsTrying arch inst hart → is_lost (want_in hart) hart.reservation ≡ false
    → access_of (Some (want_of inst arch)) ≡ Some access → is_barred s hart access ≡ true → ask_of s h hart ≡ Some (Faulted access)
fault_asked s h hart arch inst access free t kept e barred =
    by_fetched s h hart inst hart.fetched t.1 ∙ ap (ask_of_want s h hart) (wanted arch inst hart t.1 t.2) ∙ want_asks s h hart (want_of inst arch) access e
    ∙ barred_access s h hart access t.3 (not_held s h access free) kept barred

-- so it asks not by a call, and what is done about it is this
pub no_call : (s : FlatState) (h : ℕ) (hart : HartState) (ask : Ask) → ask ≢ Called → ask_of s h hart ≡ Some ask → ask_of s h hart ≢ Some Called
no_call s h hart ask other is calls = other (let same : Some ask ≡ Some Called = sym is ∙ calls in cc)

pub fault_calls : (s : FlatState) (h : ℕ) (hart : HartState) (access : Access) → ask_of s h hart ≡ Some (Faulted access) → ask_of s h hart ≢ Some Called
fault_calls s h hart access is = no_call s h hart (Faulted access) (λ e. cc) is

pub faults : (s : FlatState) (h : ℕ) (hart : HartState) (access : Access) → ask_of s h hart ≡ Some (Faulted access) → (deltas : List DeltaValue) → todo_by deltas s h hart ≡ todo_of_access s hart access
faults s h hart access ask = λ deltas. rw ask refl

-- barred, where there is no text; and where there is
pub barred_by : (s : FlatState) (hart : HartState) (access : Access) → accessed_text s hart access ≡ None → is_open s hart access (accessed_data s access) ≡ false → is_barred s hart access ≡ true
barred_by s hart access none closed = rw (none, closed) (or_true (has_moved hart (page_of access.va)))
  where
    or_true : (b : Bool) → (b || true) ≡ true
    or_true true = refl
    or_true false = refl

is_there : (o : Option PageValue) → o ≢ None → is_some o ≡ true
is_there None n = absurd (n refl)
is_there (Some page) n = refl

pub text_bars : (s : FlatState) (hart : HartState) (access : Access) → accessed_text s hart access ≢ None → access.write ≡ true → is_barred s hart access ≡ true
text_bars s hart access text writes = let some = is_there (accessed_text s hart access) text in rw (some, writes) refl

-- what is done about it
pub todo_in_text : (s : FlatState) (hart : HartState) (access : Access) → accessed_text s hart access ≢ None → todo_of_access s hart access ≡ access_trap access
todo_in_text s hart access text = let some = is_there (accessed_text s hart access) text in rw some refl

pub todo_without_text : (s : FlatState) (hart : HartState) (access : Access) → accessed_text s hart access ≡ None → todo_of_access s hart access ≡ todo_of_page s hart access (accessed_data s access)
todo_without_text s hart access none = rw none refl

-- in reach: Here, met, and with the right
pub reach : (s : FlatState) (hart : HartState) (access : Access) (page : PageState) → page.stage ≡ Here → has_met s.met hart.generation page.number ≡ true → has_right access page ≡ true → is_reached s hart access page ≡ true
reach s hart access page here met right = rw (here, met, right) refl

-- a page that is free and in reach is read, below the last count of writes; and so is one that the hart holds
pub free_reads : (s : FlatState) (h : ℕ) (hart : HartState) (access : Access) (page : PageState) → AllByRecursion IsSettled s.pages → accessed_text s hart access ≡ None → accessed_data s access ≡ Some page
    → has_met s.met hart.generation page.number ≡ true → has_right access page ≡ true → nat_lt page.writes s.limits.last_writes ≡ true → Reads s h hart access (accessed_text s hart access) (number_in page.words (access.va % 4096) access.width)
free_reads s h hart access page free none is met right below =
    let here = found_free s.pages (page_of access.va) page free is in
    let reached : is_reached s hart access page ≡ true = reach s hart access page here.0 met right in
    let may : may_read s h hart access page ≡ true = rw (here.1, reached, below) refl in
    rw (none, is) (may, refl)

holder_self : (n : ℕ) → (n == n) ≡ true
holder_self n = grind (arith, nat_tests)

or_self : (a b : Bool) → b ≡ true → (a || b) ≡ true
or_self true b e = refl
or_self false b e = e

pub held_reads : (s : FlatState) (h : ℕ) (hart : HartState) (access : Access) (page : PageState) → accessed_text s hart access ≡ None → accessed_data s access ≡ Some page → page.holder ≡ Some h
    → Reads s h hart access (accessed_text s hart access) (number_in page.words (access.va % 4096) access.width)
held_reads s h hart access page none is held =
    let may : may_read s h hart access page ≡ true = rw held (holder_self h) in
    rw (none, is) (may, refl)

-- a page that is free and in reach is taken for what takes it
all_three : (a b c : Bool) → a ≡ true → b ≡ true → c ≡ true → (a && b && c) ≡ true
all_three a b c p q r = rw (p, q, r) refl

pub free_taken : (s : FlatState) (hart : HartState) (arch : ArchState) (inst : Inst) (access : Access) (page : PageState) → AllByRecursion IsSettled s.pages → IsTrying arch inst hart
    → access_of (Some (want_of inst arch)) ≡ Some access → accessed_text s hart access ≡ None → accessed_data s access ≡ Some page → has_met s.met hart.generation page.number ≡ true → has_right access page ≡ true
    → takes_for (Some (want_of inst arch)) s hart access page ≡ true → MayTake s hart (access_in hart) (page_of access.va)
free_taken s hart arch inst access page free t e none is met right takes =
    let here = found_free s.pages (page_of access.va) page free is in
    let reached : is_reached s hart access page ≡ true = reach s hart access page here.0 met right in
    let for_want : takes_for (want_in hart) s hart access page ≡ true = ap (λ (w : Option Want). takes_for w s hart access page) (wanted arch inst hart t.1 t.2) ∙ takes in
    let taking : TakesData s hart access (accessed_data s access) = rw is (all_three (is_free page) (is_reached s hart access page) (takes_for (want_in hart) s hart access page) (rw here.1 refl) reached for_want) in
    let may : MayTake s hart (Some access) (page_of access.va) = (refl, t.3, none, taking) in
    subst (λ (o : Option Access). MayTake s hart o (page_of access.va)) (sym (accessed arch inst hart access t e)) may

-- a value of the page that is there, or 0, is that of the page where there is one
pub value_there : (f : PageState → ℕ) (page : Option PageState) (n : ℕ) → n ≡ option_map_or f page 0 → IfSome page (λ page. n ≡ f page)
value_there f None n e = tt
value_there f (Some page) n e = e
