-- Segments by rising address.
use Rattle.std.proofs.Common.{◌≡◌, ℕ, cond, true≢false, get_or, take, take_all, append-nil, ◌<◌, ◌≤◌, ◌+◌, List, [], ◌∷◌, ◌++◌, Bool, true, false, not, ◌&&◌, ◌||◌, refl, sym, subst, ap, ◌∙◌, arith, length}
use Rattle.std.specs.Prelude.{nat_le, nat_lt, Option, None, Some, slice_get}
use Rattle.std.specs.Bool.{beq, then_some}
use Rattle.std.specs.Option.{option_map, option_map_or, option_or}
use Rattle.std.specs.Ordering.{nat_cmp, match_ordering}
use Rattle.std.specs.declared.cmp.Ordering.{Ordering}
use Rattle.std.specs.declared.cmp.Ordering.TheVariants.{Less, Equal, Greater}
use Rattle.std.specs.BTreeMap.{insert_entry}
use Rattle.std.specs.declared.ops.Bound.TheVariants.{Included, Excluded, Unbounded}
use Rattle.std.specs.Map.{values_of}
use Rattle.std.specs.Map.Iter.{TakesFirst, TakesLast}
use Rattle.std.specs.BTreeMap.Range.{entries_between, range_contains}
use Rattle.std.proofs.lemmas.List.Elements.{filter_agree, filter_more, recursion_from_All}
use Rattle.std.specs.List.{All, AllByRecursion, list_any, filter, last_or}
use Rattle.std.proofs.lemmas.Bool.Decides.{nat_tests}
use Rattle.elf_read.specs.declared.records.Segment.{Segment}
use Rattle.elf_read.specs.Elf.{FitsFile, IsInFile}
use Rattle.wf_outside.specs.declared.rules.LoadRule.{LoadRule}
use Rattle.wf_outside.specs.declared.rules.LoadRule.TheVariants.{HighAddress}
use Rattle.wf_outside.specs.declared.sizes.TheConstants.{DATA_END}
use Rattle.elf_load.specs.Rules.{fault_among, high_address}
use Rattle.elf_load.specs.Segments.{is_load, loads_of, is_executable, segment_end, first_page, page_after, share_byte, clash}
use Rattle.elf_load.specs.Placing.{goes_before, AreInOrder, is_placeable, HasSame, IsKeyed, ArePlaced}

-- with addresses and pages as plain numbers
plain_goes : (a b c d p q r u : ℕ) (x y : Bool) → a ≤ c → a < b → c < d → p ≤ r → p < q → r < u
    → (nat_le b c && (nat_le q r || beq x y)) ≡ not ((nat_lt a d && nat_lt c b) || ((nat_lt p u && nat_lt r q) && not (beq x y)))
plain_goes a b c d p q r u x y h1 h2 h3 h4 h5 h6 = grind (arith, nat_tests)

-- a segment that is loaded has memory
pub load_size : (s : Segment) → is_load s ≡ true → 0 < s.p_memsz
load_size s h = grind (arith, nat_tests)

-- and meets a page
pub load_pages : (s : Segment) → is_load s ≡ true → first_page s < page_after s
load_pages s h = let k : 0 < s.p_memsz = load_size s h in omega arith

-- of two segments the lower goes before the other exactly where they don't clash
pub goes_or_clashes : (s t : Segment) → is_load s ≡ true → is_load t ≡ true → s.p_vaddr ≤ t.p_vaddr → goes_before s t ≡ not (clash s t)
goes_or_clashes s t h k le =
    let m : 0 < s.p_memsz = load_size s h in
    let n : 0 < t.p_memsz = load_size t k in
    plain_goes s.p_vaddr (segment_end s) t.p_vaddr (segment_end t) (first_page s) (page_after s) (first_page t) (page_after t) (is_executable s) (is_executable t)
    le (omega arith) (omega arith) (omega arith) (load_pages s h) (load_pages t k)

plain_chain : (b c d e q r u v : ℕ) (x y z : Bool) → c < d → r < u → (b ≤ c → q ≤ r + 1) → (d ≤ e → u ≤ v + 1)
    → (nat_le b c && (nat_le q r || beq x y)) ≡ true → (nat_le d e && (nat_le u v || beq y z)) ≡ true → (nat_le b e && (nat_le q v || beq x z)) ≡ true
plain_chain b c d e q r u v x y z h1 h2 h3 h4 h5 h6 = grind (arith, nat_tests)

-- what ends at an address meets no page behind that address
pub next_page : (s t : Segment) → segment_end s ≤ t.p_vaddr → page_after s ≤ first_page t + 1
next_page s t h = omega arith

-- before what goes before
pub goes_on : (s t u : Segment) → is_load t ≡ true → goes_before s t ≡ true → goes_before t u ≡ true → goes_before s u ≡ true
goes_on s t u h first second =
    let m : 0 < t.p_memsz = load_size t h in
    plain_chain (segment_end s) t.p_vaddr (segment_end t) u.p_vaddr (page_after s) (first_page t) (page_after t) (first_page u) (is_executable s) (is_executable t) (is_executable u)
    (omega arith) (load_pages t h) (next_page s t) (next_page t u) first second

-- what goes before ends before
pub goes_ends : (s t : Segment) → goes_before s t ≡ true → segment_end s ≤ t.p_vaddr
goes_ends s t before = ends (segment_end s) t.p_vaddr _ before
  where
    ends : (a b : ℕ) (c : Bool) → (nat_le a b && c) ≡ true → a ≤ b
    ends a b c e = grind (arith, nat_tests)

pub pages_rise : (s t : Segment) → is_load s ≡ true → goes_before s t ≡ true → first_page s ≤ first_page t
pages_rise s t h before =
    let m : 0 < s.p_memsz = load_size s h in
    let le : segment_end s ≤ t.p_vaddr = goes_ends s t before in
    omega arith

-- it doesn't matter which comes first
pub clash_both : (s t : Segment) → clash s t ≡ clash t s
clash_both s t = grind (arith, nat_tests)

-- ---- the neighbours of an address

-- entries that a test of the keys keeps
values-filter : (test : ℕ → Bool) (es : List (ℕ × Segment)) → AllByRecursion (λ e. e.0 ≡ e.1.p_vaddr) es
    → values_of (filter (λ e. test e.0) es) ≡ filter (λ s. test s.p_vaddr) (values_of es)
values-filter test [] keys = refl
values-filter test (e ∷ es) keys = by_test (test e.0) (test e.1.p_vaddr) (ap test keys.0) (values-filter test es keys.1)
  where
    by_test : (b c : Bool) → b ≡ c → values_of (filter (λ f. test f.0) es) ≡ filter (λ s. test s.p_vaddr) (values_of es)
        → values_of (cond b (e ∷ filter (λ f. test f.0) es) (filter (λ f. test f.0) es))
        ≡ cond c (e.1 ∷ filter (λ s. test s.p_vaddr) (values_of es)) (filter (λ s. test s.p_vaddr) (values_of es))
    by_test true true h ih = ap (λ ss. e.1 ∷ ss) ih
    by_test true false h ih = cc
    by_test false true h ih = cc
    by_test false false h ih = ih

last_or-append : {A : Type 0} (o : Option A) (xs : List A) (x : A) → last_or o (xs ++ x ∷ []) ≡ Some x
last_or-append o [] x = refl
last_or-append o (y ∷ ys) x = last_or-append (Some y) ys x

values-append : (es fs : List (ℕ × Segment)) → values_of (es ++ fs) ≡ values_of es ++ values_of fs
values-append [] fs = refl
values-append (e ∷ es) fs = ap (λ ss. e.1 ∷ ss) (values-append es fs)

-- the last below an address, of which an iterator over the entries tells
pub last_told : {A : Type 0} (shows : A → ℕ × Segment) (es r t : List (ℕ × Segment)) (at : ℕ) (o : Option A) (result : Option Segment)
    → AllByRecursion (λ e. e.0 ≡ e.1.p_vaddr) es → r ≡ entries_between nat_cmp Unbounded (Excluded at) es → TakesLast shows r o t
    → result ≡ option_map (λ x. (shows x).1) o → result ≡ last_or None (filter (λ s. nat_lt s.p_vaddr at) (values_of es))
last_told {A = A} shows es r t at o result keys range taken told =
    told ∙ by_item o taken ∙ ap (last_or None) (ap values_of range ∙ values-filter (range_contains nat_cmp Unbounded (Excluded at)) es keys ∙ filter_agree _ _ below (values_of es))
  where
    by_item : (o : Option A) → TakesLast shows r o t → option_map (λ x. (shows x).1) o ≡ last_or None (values_of r)
    by_item None h = ap (λ es. last_or None (values_of es)) (sym h.0)
    by_item (Some x) h = sym (ap (λ es. last_or None (values_of es)) h ∙ ap (last_or None) (values-append t (shows x ∷ [])) ∙ last_or-append None (values_of t) (shows x).1)

    below : (s : Segment) → range_contains nat_cmp Unbounded (Excluded at) s.p_vaddr ≡ nat_lt s.p_vaddr at
    below s = grind (arith, nat_tests)

-- the first from an address on
pub first_told : {A : Type 0} (shows : A → ℕ × Segment) (es r t : List (ℕ × Segment)) (at : ℕ) (o : Option A) (result : Option Segment)
    → AllByRecursion (λ e. e.0 ≡ e.1.p_vaddr) es → r ≡ entries_between nat_cmp (Included at) Unbounded es → TakesFirst shows r o t
    → result ≡ option_map (λ x. (shows x).1) o → result ≡ slice_get (filter (λ s. nat_le at s.p_vaddr) (values_of es)) 0
first_told {A = A} shows es r t at o result keys range taken told =
    told ∙ by_item o taken ∙ ap (λ ss. slice_get ss 0) (ap values_of range ∙ values-filter (range_contains nat_cmp (Included at) Unbounded) es keys ∙ filter_agree _ _ above (values_of es))
  where
    by_item : (o : Option A) → TakesFirst shows r o t → option_map (λ x. (shows x).1) o ≡ slice_get (values_of r) 0
    by_item None h = ap (λ es. slice_get (values_of es) 0) (sym h.0)
    by_item (Some x) h = sym (ap (λ es. slice_get (values_of es) 0) h)

    above : (s : Segment) → range_contains nat_cmp (Included at) Unbounded s.p_vaddr ≡ nat_le at s.p_vaddr
    above s = grind (arith, nat_tests)

-- ---- whether a segment clashes with one of a rising list, told by its neighbours

abbrev is_below : Segment → Segment → Bool
is_below s t = nat_lt t.p_vaddr s.p_vaddr

abbrev is_from : Segment → Segment → Bool
is_from s t = nat_le s.p_vaddr t.p_vaddr

abbrev AreLoads : List Segment → Type 0
AreLoads ss = AllByRecursion (λ t. is_load t ≡ true) ss

-- nothing that u goes before is below s, where u isn't
none_below : (s u : Segment) (ss : List Segment) → is_load u ≡ true → s.p_vaddr ≤ u.p_vaddr → AllByRecursion (λ t. goes_before u t ≡ true) ss → filter (is_below s) ss ≡ []
none_below s u [] load le all = refl
none_below s u (t ∷ ss) load le all =
    let m : 0 < u.p_memsz = load_size u load in
    let e : is_below s t ≡ false = grind (arith, nat_tests, all.0) in
    rw e (none_below s u ss load le all.1)

-- nothing that u goes before clashes with s, where s goes before u
none_clash : (s u : Segment) (ss : List Segment) → is_load s ≡ true → is_load u ≡ true → AreLoads ss → goes_before s u ≡ true → AllByRecursion (λ t. goes_before u t ≡ true) ss
    → list_any (λ t. clash t s) ss ≡ false
none_clash s u [] h k loads first all = refl
none_clash s u (t ∷ ss) h k loads first all =
    let on : goes_before s t ≡ true = goes_on s u t k first all.0 in
    let m : 0 < s.p_memsz = load_size s h in
    let le : s.p_vaddr ≤ t.p_vaddr = grind (arith, nat_tests) in
    let e : clash t s ≡ false = clash_both t s ∙ negated (clash s t) (sym (goes_or_clashes s t h loads.0 le) ∙ on) in
    rw e (none_clash s u ss h k loads.1 first all.1)
  where
    negated : (b : Bool) → not b ≡ true → b ≡ false
    negated true e = sym e
    negated false e = refl

-- u is the first that is not below s
first_tells : (s u : Segment) (ss : List Segment) → is_load s ≡ true → is_load u ≡ true → AreLoads ss → s.p_vaddr ≤ u.p_vaddr → AllByRecursion (λ t. goes_before u t ≡ true) ss
    → goes_before s u ≡ not (clash u s || list_any (λ t. clash t s) ss)
first_tells s u ss h k loads le all =
    by_answer (goes_before s u) (clash u s) (list_any (λ t. clash t s) ss) (goes_or_clashes s u h k le ∙ ap not (clash_both s u)) (λ first. none_clash s u ss h k loads first all)
  where
    by_answer : (g c a : Bool) → g ≡ not c → (g ≡ true → a ≡ false) → g ≡ not (c || a)
    by_answer true true a e f = e
    by_answer true false a e f = sym (ap not (f refl))
    by_answer false true a e f = refl
    by_answer false false a e f = cc

-- what u clashes not with, and t goes before u, t clashes not with
clash_on : (s t u : Segment) → is_load s ≡ true → is_load t ≡ true → is_load u ≡ true → u.p_vaddr < s.p_vaddr → goes_before t u ≡ true → clash u s ≡ false → clash t s ≡ false
clash_on s t u h k l lt before none =
    let first : goes_before u s ≡ true = goes_or_clashes u s l h (omega arith) ∙ ap not none in
    let on : goes_before t s ≡ true = goes_on t u s l before first in
    let m : 0 < t.p_memsz = load_size t k in
    let le : t.p_vaddr ≤ s.p_vaddr = grind (arith, nat_tests) in
    negated (clash t s) (sym (goes_or_clashes t s k h le) ∙ on)
  where
    negated : (b : Bool) → not b ≡ true → b ≡ false
    negated true e = sym e
    negated false e = refl

-- the tests that the neighbours below and behind pass
abbrev lower_goes : Segment → Option Segment → Bool
lower_goes s o = option_map_or (λ u. goes_before u s) o true

abbrev upper_follows : Segment → List Segment → Bool
upper_follows s ss = option_map_or (λ u. goes_before s u) (slice_get (filter (is_from s) ss) 0) true

-- t is the last that is below s so far
last_tells : (s t : Segment) (ss : List Segment) → is_load s ≡ true → is_load t ≡ true → AreLoads ss → t.p_vaddr < s.p_vaddr
    → AllByRecursion (λ u. goes_before t u ≡ true) ss → AreInOrder ss
    → (lower_goes s (last_or (Some t) (filter (is_below s) ss)) && upper_follows s ss) ≡ not (clash t s || list_any (λ u. clash u s) ss)
last_tells s t [] h k loads lt all rising = by_answer (goes_before t s) (clash t s) (goes_or_clashes t s k h (omega arith))
  where
    by_answer : (g c : Bool) → g ≡ not c → (g && true) ≡ not (c || false)
    by_answer true true e = e
    by_answer true false e = refl
    by_answer false true e = refl
    by_answer false false e = e
last_tells s t (u ∷ ss) h k loads lt all rising =
    by_place (is_below s u) refl (λ under. last_tells s u ss h loads.0 loads.1 under rising.0 rising.1)
  where
    with_lower : (g c d a : Bool) → g ≡ not (d || a) → (d ≡ false → c ≡ false) → g ≡ not (c || (d || a))
    with_lower g true true a e f = e
    with_lower g true false a e f = absurd (true≢false (f refl))
    with_lower g false d a e f = e

    with_upper : (g c f d a : Bool) → g ≡ not c → f ≡ not (d || a) → (g && f) ≡ not (c || (d || a))
    with_upper true true f d a e i = absurd (true≢false e)
    with_upper true false f d a e i = i
    with_upper false true f d a e i = refl
    with_upper false false f d a e i = absurd (true≢false (sym e))

    by_place : (b : Bool) → is_below s u ≡ b
        → (u.p_vaddr < s.p_vaddr → (lower_goes s (last_or (Some u) (filter (is_below s) ss)) && upper_follows s ss) ≡ not (clash u s || list_any (λ u. clash u s) ss))
        → (lower_goes s (last_or (Some t) (filter (is_below s) (u ∷ ss))) && upper_follows s (u ∷ ss)) ≡ not (clash t s || list_any (λ x. clash x s) (u ∷ ss))
    by_place true b ih =
        let under : u.p_vaddr < s.p_vaddr = grind (arith, nat_tests) in
        let f : is_from s u ≡ false = grind (arith, nat_tests) in
        rw (b, f) (with_lower _ (clash t s) (clash u s) (list_any (λ x. clash x s) ss) (ih under) (clash_on s t u h k loads.0 under all.0))
    by_place false b ih =
        let over : s.p_vaddr ≤ u.p_vaddr = grind (arith, nat_tests) in
        let f : is_from s u ≡ true = grind (arith, nat_tests) in
        rw (b, none_below s u ss loads.0 over rising.0, f)
        (with_upper (goes_before t s) (clash t s) (goes_before s u) (clash u s) (list_any (λ x. clash x s) ss) (goes_or_clashes t s k h (omega arith)) (first_tells s u ss h loads.0 loads.1 over rising.0))

-- the last below a segment and the first behind tell whether it clashes with one
pub neighbours_tell : (s : Segment) (ss : List Segment) → is_load s ≡ true → AreLoads ss → AreInOrder ss
    → (lower_goes s (last_or None (filter (is_below s) ss)) && upper_follows s ss) ≡ not (list_any (λ u. clash u s) ss)
neighbours_tell s [] h loads rising = refl
neighbours_tell s (t ∷ ss) h loads rising = by_place (is_below s t) refl
  where
    by_place : (b : Bool) → is_below s t ≡ b
        → (lower_goes s (last_or None (filter (is_below s) (t ∷ ss))) && upper_follows s (t ∷ ss)) ≡ not (list_any (λ x. clash x s) (t ∷ ss))
    by_place true b =
        let under : t.p_vaddr < s.p_vaddr = grind (arith, nat_tests) in
        let f : is_from s t ≡ false = grind (arith, nat_tests) in
        rw (b, f) (last_tells s t ss h loads.0 loads.1 under rising.0 rising.1)
    by_place false b =
        let over : s.p_vaddr ≤ t.p_vaddr = grind (arith, nat_tests) in
        let f : is_from s t ≡ true = grind (arith, nat_tests) in
        rw (b, none_below s t ss loads.0 over rising.0, f) (first_tells s t ss h loads.0 loads.1 over rising.0)

-- x and y are what the neighbours tell
fit_told : (s : Segment) (ss : List Segment) (lower upper : Option Segment) (x y : Bool) → is_load s ≡ true → AreLoads ss → AreInOrder ss
    → lower ≡ last_or None (filter (is_below s) ss) → upper ≡ slice_get (filter (is_from s) ss) 0 → x ≡ lower_goes s lower → y ≡ option_map_or (λ u. goes_before s u) upper true
    → (x && y) ≡ not (list_any (λ u. clash u s) ss)
fit_told s ss lower upper x y h loads rising l u e f = simp (e, f, l, u) (neighbours_tell s ss h loads rising)

pub fits_then : (s : Segment) (ss : List Segment) (lower upper : Option Segment) (x y : Bool) → is_load s ≡ true → AreLoads ss → AreInOrder ss
    → lower ≡ last_or None (filter (is_below s) ss) → upper ≡ slice_get (filter (is_from s) ss) 0 → x ≡ lower_goes s lower → y ≡ option_map_or (λ u. goes_before s u) upper true
    → x ≡ true → y ≡ not (list_any (λ u. clash u s) ss)
fits_then s ss lower upper x y h loads rising l u e f is = rw is at (fit_told s ss lower upper x y h loads rising l u e f)

pub fits_else : (s : Segment) (ss : List Segment) (lower : Option Segment) (x : Bool) → is_load s ≡ true → AreLoads ss → AreInOrder ss
    → lower ≡ last_or None (filter (is_below s) ss) → x ≡ lower_goes s lower → x ≡ false → x ≡ not (list_any (λ u. clash u s) ss)
fits_else s ss lower x h loads rising l e is = is ∙ rw is at (fit_told s ss lower _ x _ h loads rising l refl e refl)

-- ---- one more is placed

abbrev AreKeyed : List (ℕ × Segment) → Type 0
AreKeyed es = AllByRecursion (λ e. e.0 ≡ e.1.p_vaddr) es

abbrev NoneAt : ℕ → List (ℕ × Segment) → Type 0
NoneAt k es = AllByRecursion (λ e. nat_cmp k e.0 ≡ Equal → ⊥) es

abbrev ClashesNot : Segment → List Segment → Type 0
ClashesNot s ss = list_any (λ t. clash t s) ss ≡ false

or_left : (b c : Bool) → (b || c) ≡ false → b ≡ false
or_left true c e = e
or_left false c e = refl

or_right : (b c : Bool) → (b || c) ≡ false → c ≡ false
or_right true c e = absurd (true≢false e)
or_right false c e = e

-- segments that begin at one address clash
apart_starts : (s t : Segment) → is_load s ≡ true → is_load t ≡ true → clash t s ≡ false → s.p_vaddr ≡ t.p_vaddr → ⊥
apart_starts s t h k none e =
    let m : 0 < s.p_memsz = load_size s h in
    let n : 0 < t.p_memsz = load_size t k in
    let c : share_byte t s ≡ true = grind (arith, nat_tests) in
    true≢false (sym c ∙ or_left (share_byte t s) _ none)

none_at : (s : Segment) (es : List (ℕ × Segment)) → is_load s ≡ true → AreKeyed es → AreLoads (values_of es) → ClashesNot s (values_of es) → NoneAt s.p_vaddr es
none_at s [] h keys loads none = tt
none_at s (e ∷ es) h keys loads none =
    ((λ is. apart_starts s e.1 h loads.0 (or_left _ _ none) (same_key is ∙ keys.0)), none_at s es h keys.1 loads.1 (or_right _ _ none))
  where
    same_key : nat_cmp s.p_vaddr e.0 ≡ Equal → s.p_vaddr ≡ e.0
    same_key is = grind (arith, nat_tests)

keys-insert : (s : Segment) (es : List (ℕ × Segment)) → NoneAt s.p_vaddr es → AreKeyed es → AreKeyed (insert_entry nat_cmp es s.p_vaddr s)
keys-insert s [] none keys = (refl, tt)
keys-insert s (e ∷ es) none keys = by_order (nat_cmp s.p_vaddr e.0) refl (keys-insert s es none.1 keys.1)
  where
    by_order : (o : Ordering) → nat_cmp s.p_vaddr e.0 ≡ o → AreKeyed (insert_entry nat_cmp es s.p_vaddr s)
        → AreKeyed (match_ordering o ((s.p_vaddr, s) ∷ e ∷ es) ((e.0, s) ∷ es) (e ∷ insert_entry nat_cmp es s.p_vaddr s))
    by_order Less is rest = (refl, keys)
    by_order Equal is rest = absurd (none.0 is)
    by_order Greater is rest = (keys.0, rest)

all-insert : (P : Segment → Type 0) (k : ℕ) (s : Segment) (es : List (ℕ × Segment)) → P s → AllByRecursion P (values_of es) → AllByRecursion P (values_of (insert_entry nat_cmp es k s))
all-insert P k s [] here all = (here, tt)
all-insert P k s (e ∷ es) here all = by_order (nat_cmp k e.0) (all-insert P k s es here all.1)
  where
    by_order : (o : Ordering) → AllByRecursion P (values_of (insert_entry nat_cmp es k s))
        → AllByRecursion P (values_of (match_ordering o ((k, s) ∷ e ∷ es) ((e.0, s) ∷ es) (e ∷ insert_entry nat_cmp es k s)))
    by_order Less rest = (here, all)
    by_order Equal rest = (here, all.1)
    by_order Greater rest = (all.0, rest)

-- what goes before the first goes before all
all_behind : (s t : Segment) (ss : List Segment) → is_load t ≡ true → goes_before s t ≡ true → AllByRecursion (λ u. goes_before t u ≡ true) ss → AllByRecursion (λ u. goes_before s u ≡ true) ss
all_behind s t [] h first all = tt
all_behind s t (u ∷ ss) h first all = (goes_on s t u h first all.0, all_behind s t ss h first all.1)

rising-insert : (s : Segment) (es : List (ℕ × Segment)) → is_load s ≡ true → AreKeyed es → AreLoads (values_of es) → ClashesNot s (values_of es) → NoneAt s.p_vaddr es → AreInOrder (values_of es)
    → AreInOrder (values_of (insert_entry nat_cmp es s.p_vaddr s))
rising-insert s [] h keys loads apart none rising = (tt, tt)
rising-insert s (e ∷ es) h keys loads apart none rising = by_order (nat_cmp s.p_vaddr e.0) refl (rising-insert s es h keys.1 loads.1 (or_right _ _ apart) none.1 rising.1)
  where
    mine : clash e.1 s ≡ false
    mine = or_left _ _ apart

    before : nat_cmp s.p_vaddr e.0 ≡ Less → goes_before s e.1 ≡ true
    before is =
        let at : e.0 ≡ e.1.p_vaddr = keys.0 in
        let le : s.p_vaddr ≤ e.1.p_vaddr = grind (arith, nat_tests) in
        goes_or_clashes s e.1 h loads.0 le ∙ ap not (clash_both s e.1 ∙ mine)

    behind : nat_cmp s.p_vaddr e.0 ≡ Greater → goes_before e.1 s ≡ true
    behind is =
        let at : e.0 ≡ e.1.p_vaddr = keys.0 in
        let le : e.1.p_vaddr ≤ s.p_vaddr = grind (arith, nat_tests) in
        goes_or_clashes e.1 s loads.0 h le ∙ ap not mine

    by_order : (o : Ordering) → nat_cmp s.p_vaddr e.0 ≡ o → AreInOrder (values_of (insert_entry nat_cmp es s.p_vaddr s))
        → AreInOrder (values_of (match_ordering o ((s.p_vaddr, s) ∷ e ∷ es) ((e.0, s) ∷ es) (e ∷ insert_entry nat_cmp es s.p_vaddr s)))
    by_order Less is rest = ((before is, all_behind s e.1 (values_of es) loads.0 (before is) rising.0), rising)
    by_order Equal is rest = absurd (none.0 is)
    by_order Greater is rest = (all-insert (λ u. goes_before e.1 u ≡ true) s.p_vaddr s es (behind is) rising.0, rest)

any-insert : (test : Segment → Bool) (k : ℕ) (s : Segment) (es : List (ℕ × Segment)) → NoneAt k es
    → list_any test (values_of (insert_entry nat_cmp es k s)) ≡ (test s || list_any test (values_of es))
any-insert test k s [] none = refl
any-insert test k s (e ∷ es) none = by_order (nat_cmp k e.0) refl (any-insert test k s es none.1)
  where
    swapped : (b c d : Bool) → (b || (c || d)) ≡ (c || (b || d))
    swapped b c d = grind arith

    by_order : (o : Ordering) → nat_cmp k e.0 ≡ o → list_any test (values_of (insert_entry nat_cmp es k s)) ≡ (test s || list_any test (values_of es))
        → list_any test (values_of (match_ordering o ((k, s) ∷ e ∷ es) ((e.0, s) ∷ es) (e ∷ insert_entry nat_cmp es k s))) ≡ (test s || (test e.1 || list_any test (values_of es)))
    by_order Less is rest = refl
    by_order Equal is rest = absurd (none.0 is)
    by_order Greater is rest = ap (λ b. test e.1 || b) rest ∙ swapped (test e.1) (test s) (list_any test (values_of es))

any-push : (test : Segment → Bool) (ss : List Segment) (s : Segment) → list_any test (ss ++ s ∷ []) ≡ (test s || list_any test ss)
any-push test [] s = refl
any-push test (t ∷ ss) s = ap (λ b. test t || b) (any-push test ss s) ∙ swapped (test t) (test s) (list_any test ss)
  where
    swapped : (b c d : Bool) → (b || (c || d)) ≡ (c || (b || d))
    swapped b c d = grind arith

-- the map with one more
pub keyed-insert : (s : Segment) (es : List (ℕ × Segment)) → is_load s ≡ true → ClashesNot s (values_of es) → IsKeyed es → IsKeyed (insert_entry nat_cmp es s.p_vaddr s)
keyed-insert s es h apart keyed =
    let none = none_at s es h keyed.keys keyed.loads apart in
    record {
      keys = keys-insert s es none keyed.keys;
      loads = all-insert (λ t. is_load t ≡ true) s.p_vaddr s es h keyed.loads;
      rising = rising-insert s es h keyed.keys keyed.loads apart none keyed.rising;
    }

pub same-insert : (s : Segment) (es : List (ℕ × Segment)) → is_load s ≡ true → ClashesNot s (values_of es) → IsKeyed es → HasSame (values_of (insert_entry nat_cmp es s.p_vaddr s)) (values_of es ++ s ∷ [])
same-insert s es h apart keyed =
    λ test. any-insert test s.p_vaddr s es (none_at s es h keyed.keys keyed.loads apart) ∙ sym (any-push test (values_of es) s)

-- ---- the headers one after another

abbrev pub no_segment : Segment
no_segment = record { p_type = 0; p_flags = 0; p_offset = 0; p_vaddr = 0; p_paddr = 0; p_filesz = 0; p_memsz = 0; p_align = 0 }

same_more : (placed next segments : List Segment) (i : ℕ) (d : Segment) → i < length segments → is_load (get_or segments i d) ≡ true
    → HasSame placed (loads_of (take i segments)) → HasSame next (placed ++ get_or segments i d ∷ []) → HasSame next (loads_of (take (i + 1) segments))
same_more placed next segments i d lt load same more = λ test.
    more test ∙ any-push test placed (get_or segments i d) ∙ ap (λ b. test (get_or segments i d) || b) (same test)
    ∙ sym (ap (list_any test) (filter_more is_load segments i d lt ∙ ap (λ b. loads_of (take i segments) ++ cond b (get_or segments i d ∷ []) []) load) ∙ any-push test (loads_of (take i segments)) (get_or segments i d))

same_on : (placed segments : List Segment) (i : ℕ) (d : Segment) → i < length segments → is_load (get_or segments i d) ≡ false
    → HasSame placed (loads_of (take i segments)) → HasSame placed (loads_of (take (i + 1) segments))
same_on placed segments i d lt load same = λ test.
    same test ∙ sym (ap (list_any test) (filter_more is_load segments i d lt ∙ ap (λ b. loads_of (take i segments) ++ cond b (get_or segments i d ∷ []) []) load ∙ append-nil (loads_of (take i segments))))

-- the same where the code has another name for the headers
pub same_with : (placed next items segments : List Segment) (i : ℕ) (d : Segment) → items ≡ segments → i < length items → is_load (get_or items i d) ≡ true
    → HasSame placed (loads_of (take i segments)) → HasSame next (placed ++ get_or items i d ∷ []) → HasSame next (loads_of (take (i + 1) segments))
same_with placed next items segments i d e lt load same more =
    subst (λ (ss : List Segment). HasSame next (loads_of (take (i + 1) ss))) e
    (same_more placed next items i d lt load (subst (λ (ss : List Segment). HasSame placed (loads_of (take i ss))) (sym e) same) more)

pub same_without : (placed items segments : List Segment) (i : ℕ) (d : Segment) → items ≡ segments → i < length items → is_load (get_or items i d) ≡ false
    → HasSame placed (loads_of (take i segments)) → HasSame placed (loads_of (take (i + 1) segments))
same_without placed items segments i d e lt load same =
    subst (λ (ss : List Segment). HasSame placed (loads_of (take (i + 1) ss))) e
    (same_on placed items i d lt load (subst (λ (ss : List Segment). HasSame placed (loads_of (take i ss))) (sym e) same))

-- where nothing was found, neither here nor behind
pub none_here : {A : Type 0} (f : LoadRule → A) (b : Bool) (rule : LoadRule) (o : Option A) → option_or (option_map f (then_some b rule)) o ≡ None → b ≡ false
none_here f true rule o e = cc
none_here f false rule o e = refl

pub none_behind : {A : Type 0} (f : LoadRule → A) (b : Bool) (rule : LoadRule) (o : Option A) → option_or (option_map f (then_some b rule)) o ≡ None → o ≡ None
none_behind f true rule o e = cc
none_behind f false rule o e = e

-- each that is loaded ends low
none_high : (bytes : List ℕ) (before ss : List Segment) → fault_among high_address bytes before ss ≡ None → AllByRecursion (λ s. is_load s ≡ true → segment_end s ≤ DATA_END) ss
none_high bytes before [] none = tt
none_high bytes before (s ∷ ss) none = (low, none_high bytes (before ++ s ∷ []) ss (none_behind _ (is_load s && nat_lt DATA_END (segment_end s)) HighAddress _ none))
  where
    low : is_load s ≡ true → segment_end s ≤ DATA_END
    low load = not_high (is_load s) load (none_here _ (is_load s && nat_lt DATA_END (segment_end s)) HighAddress _ none)
      where
        not_high : (b : Bool) → b ≡ true → (b && nat_lt DATA_END (segment_end s)) ≡ false → segment_end s ≤ DATA_END
        not_high b e f = grind (arith, nat_tests)

load_type : (s : Segment) → is_load s ≡ true → s.p_type ≡ 1
load_type s load = grind (arith, nat_tests)

placeable : (size : ℕ) (s : Segment) → is_load s ≡ true → segment_end s ≤ DATA_END → IsInFile size s → is_placeable size s ≡ true
placeable size s load low fit =
    let in_file : s.p_offset + s.p_filesz ≤ size = fit.in_file in
    let in_memory : s.p_filesz ≤ s.p_memsz = fit.in_memory in
    rw load (grind (arith, nat_tests))

all_placeable : (size : ℕ) (ss : List Segment) → AllByRecursion (λ s. is_load s ≡ true → segment_end s ≤ DATA_END) ss → AllByRecursion (FitsFile size) ss → AllByRecursion (λ s. is_placeable size s ≡ true) (loads_of ss)
all_placeable size [] low fit = tt
all_placeable size (s ∷ ss) low fit = by_test (is_load s) refl (all_placeable size ss low.1 fit.1)
  where
    by_test : (b : Bool) → is_load s ≡ b → AllByRecursion (λ s. is_placeable size s ≡ true) (loads_of ss) → AllByRecursion (λ s. is_placeable size s ≡ true) (cond b (s ∷ loads_of ss) (loads_of ss))
    by_test true load rest = (placeable size s load (low.0 load) (fit.0 (load_type s load)), rest)
    by_test false load rest = rest

-- what the same segments have in common
all_same : (test : Segment → Bool) (ss ts : List Segment) → HasSame ss ts → AllByRecursion (λ s. test s ≡ true) ts → AllByRecursion (λ s. test s ≡ true) ss
all_same test ss ts same all = none_fail ss (same (λ s. not (test s)) ∙ fail_none ts all)
  where
    fail_none : (ts : List Segment) → AllByRecursion (λ s. test s ≡ true) ts → list_any (λ s. not (test s)) ts ≡ false
    fail_none [] all = refl
    fail_none (t ∷ ts) all = rw all.0 (fail_none ts all.1)

    passes : (b : Bool) → not b ≡ false → b ≡ true
    passes true e = refl
    passes false e = sym e

    none_fail : (ss : List Segment) → list_any (λ s. not (test s)) ss ≡ false → AllByRecursion (λ s. test s ≡ true) ss
    none_fail [] e = tt
    none_fail (s ∷ ss) e = (passes (test s) (or_left _ _ e), none_fail ss (or_right _ _ e))

-- all headers are placed
pub all_placed : (bytes : List ℕ) (items segments placed : List Segment) (i : ℕ) → items ≡ segments → length items ≤ i → fault_among high_address bytes [] segments ≡ None
    → All (FitsFile (length bytes)) segments → HasSame placed (loads_of (take i segments)) → AreInOrder placed → ArePlaced (length bytes) (loads_of segments) placed
all_placed bytes items segments placed i e done low fit same rising =
    let all : HasSame placed (loads_of segments) = subst (λ (ss : List Segment). HasSame placed (loads_of ss)) (take_all i segments (omega (arith, ap length e))) same in
    record {
      same = all;
      rising = rising;
      each = all_same (is_placeable (length bytes)) placed (loads_of segments) all
          (all_placeable (length bytes) segments (none_high bytes [] segments low) (recursion_from_All (FitsFile (length bytes)) segments fit));
    }
