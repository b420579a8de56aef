-- Where no rule is broken, no address is held by two segments.
use Rattle.std.proofs.Common.{◌≡◌, ℕ, cond, ◌<◌, ◌≤◌, ◌+◌, ◌⊎◌, inl, inr, List, [], ◌∷◌, ◌++◌, Bool, true, false, true≢false, ◌||◌, ◌&&◌, refl, sym, subst, ap, ◌∙◌, length, append-nil, append_assoc, get_or, arith}
use Rattle.std.specs.Prelude.{Option, None, Some}
use Rattle.std.specs.List.{All, AllByRecursion, Contains, find, list_any}
use Rattle.std.specs.Option.{option_map_or, option_or}
use Rattle.std.proofs.lemmas.List.Elements.{Contains-push_cases, All-contains, All-from_recursion, filter-append, recursion_from_All}
use Rattle.std.proofs.lemmas.Bool.Decides.{nat_tests}
use Rattle.elf_read.specs.declared.records.Segment.{Segment}
use Rattle.elf_read.specs.Elf.{ElfValue, FitsFile}
use Rattle.wf_outside.specs.declared.rules.LoadRule.TheVariants.{SharedPage}
use Rattle.elf_load.specs.Segments.{is_load, loads_of, share_byte, clash}
use Rattle.wf_outside.specs.Lists.{first_of}
use Rattle.elf_load.specs.Rules.{fault_among, header_fault, shared_page, linked, write_and_run, high_address, too_large, entry_fault, fault_of}
use Rattle.elf_load.specs.Loaded.{covers, given, byte_at}
use Rattle.elf_load.proofs.PlacingLemmas.{none_here, none_behind}
use Rattle.elf_load.proofs.FillingLemmas.{find_none, find-push}

-- each that is loaded has memory for its part of the file
abbrev Fit : List Segment → Type 0
Fit ss = AllByRecursion (λ s. s.p_filesz ≤ s.p_memsz) ss

-- each segment of the list gives the bytes that it holds
abbrev Gives : List ℕ → List Segment → Type 0
Gives file ss = (s : Segment) (a : ℕ) → Contains ss s → covers s a ≡ true → byte_at file ss a ≡ given file s a

-- two that hold one address share a byte
holders_clash : (s t : Segment) (a : ℕ) → s.p_filesz ≤ s.p_memsz → t.p_filesz ≤ t.p_memsz → covers s a ≡ true → covers t a ≡ true → clash s t ≡ true
holders_clash s t a fs ft hs ht = let both : share_byte s t ≡ true = grind (arith, nat_tests) in or_true (share_byte s t) _ both
  where
    or_true : (b c : Bool) → b ≡ true → (b || c) ≡ true
    or_true b c e = grind arith

none_hold : (t : Segment) (ss : List Segment) (a : ℕ) → Fit ss → t.p_filesz ≤ t.p_memsz → covers t a ≡ true → list_any (λ s. clash s t) ss ≡ false → AllByRecursion (λ s. covers s a ≡ false) ss
none_hold t [] a fit ft held none = tt
none_hold t (s ∷ ss) a fit ft held none = (by_answer (covers s a) refl, none_hold t ss a fit.1 ft held (or_right (clash s t) _ none))
  where
    or_left : (b c : Bool) → (b || c) ≡ false → b ≡ false
    or_left b c e = grind arith

    or_right : (b c : Bool) → (b || c) ≡ false → c ≡ false
    or_right b c e = grind arith

    by_answer : (b : Bool) → covers s a ≡ b → covers s a ≡ false
    by_answer true e = absurd (true≢false (sym (holders_clash s t a fit.0 ft e held) ∙ or_left (clash s t) _ none))
    by_answer false e = e

-- where nothing is found, none passes
found_none : (p : Segment → Bool) (ss : List Segment) (s : Segment) → Contains ss s → find p ss ≡ None → p s ≡ false
found_none p ss s has e = All-contains (λ t. p t ≡ false) ss s (All-from_recursion (λ t. p t ≡ false) ss (all_fail ss e)) has
  where
    fails : (b : Bool) (t : Segment) (o : Option Segment) → cond b (Some t) o ≡ None → b ≡ false
    fails true t o e = cc
    fails false t o e = refl

    others : (b : Bool) (t : Segment) (o : Option Segment) → cond b (Some t) o ≡ None → o ≡ None
    others true t o e = cc
    others false t o e = e

    all_fail : (ts : List Segment) → find p ts ≡ None → AllByRecursion (λ t. p t ≡ false) ts
    all_fail [] e = tt
    all_fail (t ∷ ts) e = (fails (p t) t _ e, all_fail ts (others (p t) t _ e))

-- one more that clashes with none
gives-push : (file : List ℕ) (ss : List Segment) (t : Segment) → Fit ss → t.p_filesz ≤ t.p_memsz → list_any (λ s. clash s t) ss ≡ false → Gives file ss → Gives file (ss ++ t ∷ [])
gives-push file ss t fit ft none gives = λ s a has held. by_place s a held (Contains-push_cases ss t s has)
  where
    byte : (a : ℕ) (o : Option Segment) → find (λ s. covers s a) ss ≡ o → byte_at file (ss ++ t ∷ []) a ≡ option_map_or (λ s. given file s a) (option_or o (cond (covers t a) (Some t) None)) 0
    byte a o e = ap (λ p. option_map_or (λ s. given file s a) p 0) (find-push (λ s. covers s a) ss t ∙ ap (λ p. option_or p (cond (covers t a) (Some t) None)) e)

    last : (a : ℕ) → covers t a ≡ true → byte_at file (ss ++ t ∷ []) a ≡ given file t a
    last a h = byte a None (find_none (λ s. covers s a) ss (none_hold t ss a fit ft h none)) ∙ ap (λ b. option_map_or (λ s. given file s a) (cond b (Some t) None) 0) h

    by_place : (s : Segment) (a : ℕ) → covers s a ≡ true → (Contains ss s ⊎ (t ≡ s)) → byte_at file (ss ++ t ∷ []) a ≡ given file s a
    by_place s a held (inl has) = by_found (find (λ s. covers s a) ss) refl
      where
        by_found : (o : Option Segment) → find (λ s. covers s a) ss ≡ o → byte_at file (ss ++ t ∷ []) a ≡ given file s a
        by_found None e = absurd (true≢false (sym held ∙ found_none (λ s. covers s a) ss s has e))
        by_found (Some u) e = byte a (Some u) e ∙ sym (ap (λ o. option_map_or (λ s. given file s a) o 0) e) ∙ gives s a has held
    by_place s a held (inr same) = last a (ap (λ u. covers u a) same ∙ held) ∙ ap (λ u. given file u a) same

load_fits : (size : ℕ) (s : Segment) → FitsFile size s → is_load s ≡ true → s.p_filesz ≤ s.p_memsz
load_fits size s fit load = let kind : s.p_type ≡ 1 = grind (arith, nat_tests) in (fit kind).in_memory

loads_fit : (size : ℕ) (ss : List Segment) → AllByRecursion (FitsFile size) ss → Fit (loads_of ss)
loads_fit size [] fit = tt
loads_fit size (s ∷ ss) fit = by_test (is_load s) refl (loads_fit size ss fit.1)
  where
    by_test : (b : Bool) → is_load s ≡ b → Fit (loads_of ss) → Fit (cond b (s ∷ loads_of ss) (loads_of ss))
    by_test true e rest = (load_fits size s fit.0 e, rest)
    by_test false e rest = rest

all-push : {A : Type 0} (P : A → Type 0) (xs : List A) (x : A) → AllByRecursion P xs → P x → AllByRecursion P (xs ++ x ∷ [])
all-push P [] x all here = (here, tt)
all-push P (y ∷ xs) x all here = (all.0, all-push P xs x all.1 here)

-- one header after another
give_on : (bytes : List ℕ) (size : ℕ) (before ss : List Segment) → AllByRecursion (FitsFile size) before → AllByRecursion (FitsFile size) ss
    → fault_among shared_page bytes before ss ≡ None → Gives bytes (loads_of before) → Gives bytes (loads_of (before ++ ss))
give_on bytes size before [] fb fs none gives = subst (λ (ts : List Segment). Gives bytes (loads_of ts)) (sym (append-nil before)) gives
give_on bytes size before (s ∷ ss) fb fs none gives =
    subst (λ (ts : List Segment). Gives bytes (loads_of ts)) (append_assoc before (s ∷ []) ss)
    (give_on bytes size (before ++ s ∷ []) ss (all-push (FitsFile size) before s fb fs.0) fs.1 (none_behind _ (is_load s && list_any (λ t. clash t s) (loads_of before)) SharedPage _ none)
    (by_test (is_load s) refl))
  where
    apart : (b : Bool) → is_load s ≡ b → (b && list_any (λ t. clash t s) (loads_of before)) ≡ false
    apart b e = ap (λ c. c && list_any (λ t. clash t s) (loads_of before)) (sym e) ∙ none_here _ (is_load s && list_any (λ t. clash t s) (loads_of before)) SharedPage _ none

    with_one : (b : Bool) → is_load s ≡ b → loads_of (before ++ s ∷ []) ≡ loads_of before ++ cond b (s ∷ []) []
    with_one b e = filter-append is_load before (s ∷ []) ∙ ap (λ c. loads_of before ++ cond c (s ∷ []) []) e

    by_test : (b : Bool) → is_load s ≡ b → Gives bytes (loads_of (before ++ s ∷ []))
    by_test true e = subst (Gives bytes) (sym (with_one true e)) (gives-push bytes (loads_of before) s (loads_fit size before fb) (load_fits size s fs.0 e) (apart true e) gives)
    by_test false e = subst (Gives bytes) (sym (with_one false e ∙ append-nil (loads_of before))) gives

-- the rule on shared pages is among the rules
not_shared : (elf : ElfValue) → fault_of elf ≡ None → header_fault elf shared_page ≡ None
unfolding fault_of
not_shared elf none =
    fifth (header_fault elf linked) (header_fault elf write_and_run) (header_fault elf high_address) (header_fault elf too_large) (header_fault elf shared_page) (entry_fault elf) none
  where
    fifth : {A : Type 0} (a b c d e f : Option A) → first_of (a ∷ b ∷ c ∷ d ∷ e ∷ f ∷ []) ≡ None → e ≡ None
    fifth None None None None None f h = refl
    fifth None None None None (Some e) f h = h
    fifth None None None (Some d) e f h = cc
    fifth None None (Some c) d e f h = cc
    fifth None (Some b) c d e f h = cc
    fifth (Some a) b c d e f h = cc

pub parts_stand : (elf : ElfValue) (s : Segment) (k : ℕ) → All (FitsFile (length elf.bytes)) elf.segments → fault_of elf ≡ None → Contains (loads_of elf.segments) s → k < s.p_filesz
    → byte_at elf.bytes (loads_of elf.segments) (s.p_vaddr + k) ≡ get_or elf.bytes (s.p_offset + k) 0
parts_stand elf s k fit none has lt =
    give_on elf.bytes (length elf.bytes) [] elf.segments tt (recursion_from_All (FitsFile (length elf.bytes)) elf.segments fit) (not_shared elf none) nothing s (s.p_vaddr + k) has held
    ∙ ap (λ n. get_or elf.bytes n 0) (omega arith)
  where
    nothing : Gives elf.bytes []
    nothing s a has held = absurd (omega (arith, has.1))

    held : covers s (s.p_vaddr + k) ≡ true
    held = grind (arith, nat_tests)
