-- Lists whose elements stand in three groups, one behind the other.
use Rattle.std.proofs.Common.{◌≡◌, ◌≤◌, ◌-◌, ◌++◌, ◌&&◌, ◌==◌, ◌+◌, ℕ, List, [], ◌∷◌, Bool, true, false, not, cond, length, take, drop, refl, subst, sym, ap, ◌∙◌, arith}
use Rattle.std.proofs.lemmas.Bool.{false≢true}
use Rattle.std.proofs.lemmas.Bool.Decides.{nat_tests}
use Rattle.std.proofs.lemmas.List.{append_assoc, append-nil, drop_at, length-append, take_at, take-append-drop}
use Rattle.std.proofs.lemmas.List.Elements.{filter-append}
use Rattle.std.specs.Bool.{Decides}
use Rattle.std.specs.List.{filter, list_all}
use Rattle.elf_write.specs.declared.module.ModRela.{ModRela}
use Rattle.elf_write.specs.declared.module.ModSymbol.{ModSymbol}
use Rattle.elf_write.specs.Parts.{AreBySection, AreInOrder, globals, locals, relas_for, undefined}

-- what passes the one test fails the other
abbrev pub Excludes : {X : Type 0} → (X → Bool) → (X → Bool) → Type 0
Excludes {X} p q = (x : X) → p x ≡ true → q x ≡ false

-- no element passes two of three tests
pub record AreApart {X : Type 0} (p q r : X → Bool) : Type 0 where
  pub p_q : Excludes p q
  pub p_r : Excludes p r
  pub q_p : Excludes q p
  pub q_r : Excludes q r
  pub r_p : Excludes r p
  pub r_q : Excludes r q

-- the elements pass three tests, one behind the other
abbrev pub InThree : {X : Type 0} → (X → Bool) → (X → Bool) → (X → Bool) → List X → Type 0
InThree p q r xs = xs ≡ filter p xs ++ filter q xs ++ filter r xs

-- so many pass the first test, so many behind them the second, and the others the third
abbrev pub in_three : {X : Type 0} → (X → Bool) → (X → Bool) → (X → Bool) → ℕ → ℕ → List X → Bool
in_three p q r n m xs =
    list_all p (take n xs) && (list_all q (take m (drop n xs)) && list_all r (drop m (drop n xs)))

filter_all : {X : Type 0} (p : X → Bool) (xs : List X) → list_all p xs ≡ true → filter p xs ≡ xs
filter_all p [] h = refl
filter_all {X} p (x ∷ xs) h = by_test (p x) refl (filter_all p xs) h
  where
    by_test : (b : Bool) → p x ≡ b → (list_all p xs ≡ true → filter p xs ≡ xs) → (b && list_all p xs) ≡ true → cond b (x ∷ filter p xs) (filter p xs) ≡ x ∷ xs
    by_test true is rest h = ap (λ (l : List X). x ∷ l) (rest h)
    by_test false is rest h = cc

filter_none : {X : Type 0} (p q : X → Bool) (xs : List X) → Excludes q p → list_all q xs ≡ true → filter p xs ≡ []
filter_none p q [] apart h = refl
filter_none p q (x ∷ xs) apart h = by_test (q x) refl (filter_none p q xs apart) h
  where
    by_test : (b : Bool) → q x ≡ b → (list_all q xs ≡ true → filter p xs ≡ []) → (b && list_all q xs) ≡ true → cond (p x) (x ∷ filter p xs) (filter p xs) ≡ []
    by_test true is rest h = rw (apart x is) (rest h)
    by_test false is rest h = cc

pub filter_passing : {X : Type 0} (p : X → Bool) (xs : List X) → list_all p (filter p xs) ≡ true
filter_passing p [] = refl
filter_passing p (x ∷ xs) = by_test (p x) refl (filter_passing p xs)
  where
    by_test : (b : Bool) → p x ≡ b → list_all p (filter p xs) ≡ true → list_all p (cond b (x ∷ filter p xs) (filter p xs)) ≡ true
    by_test true is rest = rw (is, rest) refl
    by_test false is rest = rest

-- the groups of three lists
pub groups_of : {X : Type 0} (p q r : X → Bool) (a b c : List X) → AreApart p q r → list_all p a ≡ true → list_all q b ≡ true → list_all r c ≡ true → InThree p q r (a ++ b ++ c)
groups_of {X} p q r a b c apart hp hq hr =
    let of_p : filter p (a ++ b ++ c) ≡ a =
    filter-append p (a ++ b) c ∙ rw (filter-append p a b, filter_all p a hp, filter_none p q b apart.q_p hq, filter_none p r c apart.r_p hr) (append-nil (a ++ []) ∙ append-nil a) in
    let of_q : filter q (a ++ b ++ c) ≡ b =
    filter-append q (a ++ b) c ∙ rw (filter-append q a b, filter_none q p a apart.p_q hp, filter_all q b hq, filter_none q r c apart.r_q hr) (append-nil b) in
    let of_r : filter r (a ++ b ++ c) ≡ c =
    filter-append r (a ++ b) c ∙ rw (filter-append r a b, filter_none r p a apart.p_r hp, filter_none r q b apart.q_r hq, filter_all r c hr) refl in
    sym (ap (λ (l : List X). l ++ filter q (a ++ b ++ c) ++ filter r (a ++ b ++ c)) of_p ∙ ap (λ (l : List X). a ++ l ++ filter r (a ++ b ++ c)) of_q ∙ ap (λ (l : List X). a ++ b ++ l) of_r)

both : (a b c : Bool) → (a && (b && c)) ≡ true → (a ≡ true) × ((b ≡ true) × (c ≡ true))
both true true true e = (refl, (refl, refl))
both true true false e = cc
both true false c e = cc
both false b c e = cc

-- where the tests pass, the elements stand in three groups
in_groups : {X : Type 0} (p q r : X → Bool) (n m : ℕ) (xs : List X) → AreApart p q r → in_three p q r n m xs ≡ true → InThree p q r xs
in_groups {X} p q r n m xs apart h =
    let tests = both (list_all p (take n xs)) (list_all q (take m (drop n xs))) (list_all r (drop m (drop n xs))) h in
    let whole : take n xs ++ take m (drop n xs) ++ drop m (drop n xs) ≡ xs =
    append_assoc (take n xs) (take m (drop n xs)) (drop m (drop n xs)) ∙ ap (λ (l : List X). take n xs ++ l) (take-append-drop m (drop n xs)) ∙ take-append-drop n xs in
    subst (InThree p q r) whole (groups_of p q r (take n xs) (take m (drop n xs)) (drop m (drop n xs)) apart tests.0 tests.1.0 tests.1.1)

-- what is left behind the first group
behind_first : {X : Type 0} (p q r : X → Bool) (n : ℕ) (xs : List X) → n ≡ length (filter p xs) → InThree p q r xs → drop n xs ≡ filter q xs ++ filter r xs
behind_first {X} p q r n xs e h =
    ap (drop n) (h ∙ append_assoc (filter p xs) (filter q xs) (filter r xs)) ∙ drop_at (filter p xs) (filter q xs ++ filter r xs) n (sym e)

-- where they stand so, the tests pass
groups_pass : {X : Type 0} (p q r : X → Bool) (n m : ℕ) (xs : List X) → n ≡ length (filter p xs) → m ≡ length (filter q xs) → InThree p q r xs → in_three p q r n m xs ≡ true
groups_pass {X} p q r n m xs e f h =
    let first : take n xs ≡ filter p xs = ap (take n) (h ∙ append_assoc (filter p xs) (filter q xs) (filter r xs)) ∙ take_at (filter p xs) (filter q xs ++ filter r xs) n (sym e) in
    let rest = behind_first p q r n xs e h in
    let middle : take m (drop n xs) ≡ filter q xs = ap (take m) rest ∙ take_at (filter q xs) (filter r xs) m (sym f) in
    let last : drop m (drop n xs) ≡ filter r xs = ap (drop m) rest ∙ drop_at (filter q xs) (filter r xs) m (sym f) in
    rw (first, middle, last, filter_passing p xs, filter_passing q xs, filter_passing r xs) refl

-- the second group, counted behind the first
count_middle : {X : Type 0} (p q r : X → Bool) (n : ℕ) (xs : List X) → AreApart p q r → n ≡ length (filter p xs) → InThree p q r xs → filter q (drop n xs) ≡ filter q xs
count_middle {X} p q r n xs apart e h =
    ap (filter q) (behind_first p q r n xs e h)
    ∙ filter-append q (filter q xs) (filter r xs)
    ∙ rw (filter_all q (filter q xs) (filter_passing q xs), filter_none q r (filter r xs) apart.r_q (filter_passing r xs)) (append-nil (filter q xs))

-- the third group, counted behind the first
count_last : {X : Type 0} (p q r : X → Bool) (n : ℕ) (xs : List X) → AreApart p q r → n ≡ length (filter p xs) → InThree p q r xs → filter r (drop n xs) ≡ filter r xs
count_last {X} p q r n xs apart e h =
    ap (filter r) (behind_first p q r n xs e h)
    ∙ filter-append r (filter q xs) (filter r xs)
    ∙ rw (filter_all r (filter r xs) (filter_passing r xs), filter_none r q (filter q xs) apart.q_r (filter_passing q xs)) refl

-- the relocations of three sections
abbrev pub of_section : ℕ → ModRela → Bool
of_section n r = r.section == n

sections_apart : (a b : ℕ) → (a == b) ≡ false → Excludes (of_section a) (of_section b)
sections_apart a b differ r h = grind (arith, nat_tests)

pub by_section_apart : AreApart (of_section 1) (of_section 2) (of_section 3)
by_section_apart = record {
  p_q = sections_apart 1 2 refl;
  p_r = sections_apart 1 3 refl;
  q_p = sections_apart 2 1 refl;
  q_r = sections_apart 2 3 refl;
  r_p = sections_apart 3 1 refl;
  r_q = sections_apart 3 2 refl;
}

pub by_section : (n m : ℕ) (relas : List ModRela) → n ≡ length (relas_for 1 relas) → m ≡ length (relas_for 2 (drop n relas))
    → Decides (in_three (of_section 1) (of_section 2) (of_section 3) n m relas) (AreBySection relas)
by_section n m relas e f =
    (λ h. in_groups (of_section 1) (of_section 2) (of_section 3) n m relas by_section_apart h, λ h. groups_pass (of_section 1) (of_section 2) (of_section 3) n m relas e (f ∙ ap length (count_middle (of_section 1) (of_section 2) (of_section 3) n relas by_section_apart e h)) h)

-- local symbols, global ones, and those that are not defined
abbrev pub is_local : ModSymbol → Bool
is_local s = not s.global

abbrev pub is_global : ModSymbol → Bool
is_global s = s.global && not (s.section == 0)

abbrev pub is_undefined : ModSymbol → Bool
is_undefined s = s.global && s.section == 0

bool_apart : (a b : Bool) → (not a ≡ true → (a && b) ≡ false) × (((a && b) ≡ true → not a ≡ false) × (((a && not b) ≡ true → (a && b) ≡ false) × ((a && b) ≡ true → (a && not b) ≡ false)))
bool_apart true true = (λ h. cc, (λ h. refl, (λ h. cc, λ h. refl)))
bool_apart true false = (λ h. cc, (λ h. refl, (λ h. refl, λ h. cc)))
bool_apart false b = (λ h. refl, (λ h. cc, (λ h. refl, λ h. refl)))

pub symbols_apart : AreApart is_local is_global is_undefined
symbols_apart = record {
  p_q = λ s. (bool_apart s.global (not (s.section == 0))).0;
  p_r = λ s. (bool_apart s.global (s.section == 0)).0;
  q_p = λ s. (bool_apart s.global (not (s.section == 0))).1.0;
  q_r = λ s. (bool_apart s.global (s.section == 0)).1.1.0;
  r_p = λ s. (bool_apart s.global (s.section == 0)).1.0;
  r_q = λ s. (bool_apart s.global (s.section == 0)).1.1.1;
}

pub in_order : (n m : ℕ) (symbols : List ModSymbol) → n ≡ length (locals symbols) → m + length (undefined (drop n symbols)) ≡ length (drop n symbols)
    → Decides (in_three is_local is_global is_undefined n m symbols) (AreInOrder symbols)
in_order n m symbols e f =
    (λ h. in_groups is_local is_global is_undefined n m symbols symbols_apart h, λ h. groups_pass is_local is_global is_undefined n m symbols e (middle h) h)
  where
    middle : AreInOrder symbols → m ≡ length (globals symbols)
    middle h =
        let rest = ap length (behind_first is_local is_global is_undefined n symbols e h) in
        let both_long = length-append (globals symbols) (undefined symbols) in
        let last = ap length (count_last is_local is_global is_undefined n symbols symbols_apart e h) in
        omega (arith, f, rest, both_long, last)

-- by the slices of a list
pub by_section_in : (n m : ℕ) (relas first rest middle last : List ModRela) → first ≡ take n relas → rest ≡ drop n relas → middle ≡ take m rest → last ≡ drop m rest → n ≡ length (relas_for 1 relas) → m ≡ length (relas_for 2 rest)
    → Decides (list_all (of_section 1) first && (list_all (of_section 2) middle && list_all (of_section 3) last)) (AreBySection relas)
by_section_in n m relas first rest middle last a b c d e f =
    rw (a, c, d, b) (by_section n m relas e (f ∙ ap (λ (l : List ModRela). length (relas_for 2 l)) b))

pub in_order_in : (n m : ℕ) (symbols first rest middle last : List ModSymbol) → first ≡ take n symbols → rest ≡ drop n symbols → middle ≡ take m rest → last ≡ drop m rest → n ≡ length (locals symbols) → m + length (undefined rest) ≡ length rest
    → Decides (list_all is_local first && (list_all is_global middle && list_all is_undefined last)) (AreInOrder symbols)
in_order_in n m symbols first rest middle last a b c d e f =
    rw (a, c, d, b) (in_order n m symbols e (subst (λ (l : List ModSymbol). m + length (undefined l) ≡ length l) b f))

-- where two tests passed, the third decides
pub last_decides : {P : Type 0} (a b c r : Bool) → Decides (a && (b && c)) P → a ≡ true → b ≡ true → r ≡ c → Decides r P
last_decides true true c r d h k e = (λ t. d.0 (sym e ∙ t), λ p. e ∙ d.1 p)
last_decides true false c r d h k e = cc
last_decides false b c r d h k e = cc

-- where one of two failed, none decides
pub none_decides : {P : Type 0} (a b c r : Bool) → Decides (a && (b && c)) P → (a && b) ≡ false → r ≡ false → Decides r P
none_decides true true c r d h e = cc
none_decides true false c r d h e = (λ t. cc, λ p. absurd (false≢true (d.1 p)))
none_decides false b c r d h e = (λ t. cc, λ p. absurd (false≢true (d.1 p)))

-- what is left of a length
pub counted : (n l len u : ℕ) → n ≡ u → l ≡ len → n ≤ len → (l - n) + u ≡ len
counted n l len u a b few = omega (arith, a, b, few)
