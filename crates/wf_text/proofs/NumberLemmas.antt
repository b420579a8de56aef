-- What is read as a number is its digits, and the digits of a number are read as it.
use Rattle.std.proofs.Common.{◌≡◌, ◌≢◌, ◌<◌, ◌≤◌, ◌+◌, ◌*◌, ◌/◌, ◌%◌, ◌^◌, ◌++◌, ◌∷◌, [], ℕ, zero, suc, List, Bool, true, false, cond, eqb, length, Option, Some, None, refl, sym, ap, ◌∙◌, arith, append_assoc, append-nil, inl, inr, ◌⊎◌, drop, get_or, add-one, drop-cons}
use Rattle.std.specs.Prelude.{◌&&◌, nat_lt, nat_le, IfSome}
use Rattle.std.proofs.lemmas.List.{drop_all}
use Rattle.std.proofs.lemmas.Bool.{cases_lt, cases_eq}
use Rattle.std.proofs.lemmas.Bool.Decides.{nat_tests}
use Rattle.std.proofs.lemmas.Option.{none-some}
use Rattle.std.proofs.lemmas.Fmt.{decimal_digit, decimal_step, hex_one_digit}
use Rattle.std.specs.Fmt.{digits, digit_glyph}
use Rattle.wf_text.specs.Numbers.{last_hex, glyph_value, number_from, number_of}
use Rattle.wf_text.proofs.HexLemmas.{hex_step}

-- which way a choice went
pub chosen : {A : Type 0} (b : Bool) (x y z : A) → cond b x y ≡ z → ((b ≡ true) × (x ≡ z)) ⊎ ((b ≡ false) × (y ≡ z))
chosen true x y z e = inl (refl, e)
chosen false x y z e = inr (refl, e)

pub glyph_back : (d : ℕ) → d < 16 → glyph_value (digit_glyph false d) ≡ d
glyph_back d h = grind (arith, nat_tests)

pub glyph_again : (c : ℕ) → glyph_value c < 16 → digit_glyph false (glyph_value c) ≡ c
glyph_again c h = grind (arith, nat_tests)

pub glyph_zero : (c : ℕ) → glyph_value c ≡ 0 → c ≡ 48
glyph_zero c h = grind (arith, nat_tests)

-- what is used of a base
pub record IsBase (base : ℕ) : Type 0 where
  pub low : 2 ≤ base
  pub high : base ≤ 16
  pub one : (d : ℕ) → d < base → digits base false d ≡ digit_glyph false d ∷ []
  pub step : (m d : ℕ) → 0 < m → d < base → m * base + d < 2 ^ 64 → digits base false (m * base + d) ≡ digits base false m ++ digit_glyph false d ∷ []
  pub less : (m d : ℕ) → 0 < m → m < m * base + d
  pub parts : (n : ℕ) → base ≤ n → (m : ℕ) × (d : ℕ) × (0 < m) × (d < base) × (n ≡ m * base + d)

ten_step : (m d : ℕ) → 0 < m → d < 10 → m * 10 + d < 2 ^ 64 → digits 10 false (m * 10 + d) ≡ digits 10 false m ++ digit_glyph false d ∷ []
ten_step m d some small fits =
    let q : (m * 10 + d) / 10 ≡ m = omega arith in
    let r : 48 + (m * 10 + d) % 10 ≡ digit_glyph false d = grind (arith, nat_tests) in
    decimal_step (m * 10 + d) (omega arith) fits ∙ ap (λ (k : ℕ). digits 10 false k ++ (48 + (m * 10 + d) % 10) ∷ []) q ∙ ap (λ (k : ℕ). digits 10 false m ++ k ∷ []) r

ten_one : (d : ℕ) → d < 10 → digits 10 false d ≡ digit_glyph false d ∷ []
ten_one d h = let e : 48 + d ≡ digit_glyph false d = grind (arith, nat_tests) in decimal_digit d h ∙ ap (λ (k : ℕ). k ∷ []) e

pub ten : IsBase 10
ten = record {
  low = omega arith;
  high = omega arith;
  one = ten_one;
  step = ten_step;
  less = λ m d some. omega arith;
  parts = λ n big. (n / 10, n % 10, omega arith, omega arith, omega arith);
}

sixteen_step : (m d : ℕ) → 0 < m → d < 16 → m * 16 + d < 2 ^ 64 → digits 16 false (m * 16 + d) ≡ digits 16 false m ++ digit_glyph false d ∷ []
sixteen_step m d some small fits =
    let q : (m * 16 + d) / 16 ≡ m = omega arith in
    let r : (m * 16 + d) % 16 ≡ d = omega arith in
    hex_step (m * 16 + d) (omega arith) fits ∙ ap (λ (k : ℕ). digits 16 false k ++ digit_glyph false ((m * 16 + d) % 16) ∷ []) q ∙ ap (λ (k : ℕ). digits 16 false m ++ digit_glyph false k ∷ []) r

pub sixteen : IsBase 16
sixteen = record {
  low = omega arith;
  high = omega arith;
  one = hex_one_digit false;
  step = sixteen_step;
  less = λ m d some. omega arith;
  parts = λ n big. (n / 16, n % 16, omega arith, omega arith, omega arith);
}

pub from_cell : (value : ℕ → ℕ) (base most n c : ℕ) (cs : List ℕ) → number_from value base most n (c ∷ cs) ≡ cond (nat_lt (value c) base && nat_le (n * base + value c) most) (number_from value base most (n * base + value c) cs) None
unfolding number_from
from_cell value base most n c cs = refl

pub from_end : (value : ℕ → ℕ) (base most n : ℕ) → number_from value base most n [] ≡ Some n
unfolding number_from
from_end value base most n = refl

-- one digit more
from_digit : (base most n d : ℕ) (cs : List ℕ) → base ≤ 16 → d < base → n * base + d ≤ most → number_from glyph_value base most n (digit_glyph false d ∷ cs) ≡ number_from glyph_value base most (n * base + d) cs
from_digit base most n d cs high small fits =
    let v : glyph_value (digit_glyph false d) ≡ d = glyph_back d (omega arith) in
    let a : nat_lt d base ≡ true = grind (arith, nat_tests) in
    let b : nat_le (n * base + d) most ≡ true = grind (arith, nat_tests) in
    from_cell glyph_value base most n (digit_glyph false d) cs
    ∙ ap (λ (k : ℕ). cond (nat_lt k base && nat_le (n * base + k) most) (number_from glyph_value base most (n * base + k) cs) None) v
    ∙ ap (λ (t : Bool). cond (t && nat_le (n * base + d) most) (number_from glyph_value base most (n * base + d) cs) None) a
    ∙ ap (λ (t : Bool). cond t (number_from glyph_value base most (n * base + d) cs) None) b

-- the digits of a number are read
read_by : (base : ℕ) → IsBase base → (k n most : ℕ) → n ≤ k → n ≤ most → most < 2 ^ 64 → (tail : List ℕ) → number_from glyph_value base most 0 (digits base false n ++ tail) ≡ number_from glyph_value base most n tail
read_by base is zero n most le few fits tail =
    let z : n ≡ 0 = omega arith in
    let low : 0 < base = omega (arith, is.low) in
    let same : 0 * base + 0 ≡ n = omega arith in
    ap (λ (x : ℕ). number_from glyph_value base most 0 (digits base false x ++ tail)) z ∙ ap (λ (xs : List ℕ). number_from glyph_value base most 0 (xs ++ tail)) (is.one 0 low)
    ∙ from_digit base most 0 0 tail is.high low (omega arith) ∙ ap (λ (x : ℕ). number_from glyph_value base most x tail) same
read_by base is (suc k) n most le few fits tail =
    elim (cases_lt n base) [
      | inl lt ↦
          let e : 0 * base + n ≡ n = omega arith in
          ap (λ (xs : List ℕ). number_from glyph_value base most 0 (xs ++ tail)) (is.one n lt)
          ∙ from_digit base most 0 n tail is.high lt (omega arith) ∙ ap (λ (x : ℕ). number_from glyph_value base most x tail) e
      | inr big ↦
          let p = is.parts n big in
          let m = p.0 in
          let d = p.1 in
          let some : 0 < m = p.2 in
          let small : d < base = p.3 in
          let whole : n ≡ m * base + d = p.4 in
          let less : m < m * base + d = is.less m d some in
          ap (λ (x : ℕ). number_from glyph_value base most 0 (digits base false x ++ tail)) whole
          ∙ ap (λ (xs : List ℕ). number_from glyph_value base most 0 (xs ++ tail)) (is.step m d some small (omega arith))
          ∙ ap (number_from glyph_value base most 0) (append_assoc (digits base false m) (digit_glyph false d ∷ []) tail)
          ∙ read_by base is k m most (omega arith) (omega arith) fits (digit_glyph false d ∷ tail)
          ∙ from_digit base most m d tail is.high small (omega arith) ∙ ap (λ (x : ℕ). number_from glyph_value base most x tail) (sym whole)
    ]

-- what a number's digits begin with
record IsHeaded (base n : ℕ) : Type 0 where
  head : ℕ
  others : List ℕ
  are : digits base false n ≡ head ∷ others
  first : 0 < n → head ≢ 48
  alone : n ≡ 0 → others ≡ []

headed_by : (base : ℕ) → IsBase base → (k n : ℕ) → n ≤ k → n < 2 ^ 64 → IsHeaded base n
headed_by base is zero n le fits =
    let z : n ≡ 0 = omega arith in
    let low : 0 < base = omega (arith, is.low) in
    record { head = 48; others = []; are = ap (digits base false) z ∙ is.one 0 low; first = λ h. absurd (omega arith); alone = λ _. refl }
headed_by base is (suc k) n le fits =
    elim (cases_lt n base) [
      | inl lt ↦
          let high = is.high in
          let some : 0 < n → digit_glyph false n ≢ 48 = λ h e. (let v : glyph_value (digit_glyph false n) ≡ n = glyph_back n (omega arith) in let w : n ≡ 0 = sym v ∙ ap glyph_value e in omega arith) in
          record { head = digit_glyph false n; others = []; are = is.one n lt; first = some; alone = λ _. refl }
      | inr big ↦
          let p = is.parts n big in
          let less : p.0 < p.0 * base + p.1 = is.less p.0 p.1 p.2 in
          let whole : n ≡ p.0 * base + p.1 = p.4 in
          let some : 0 < p.0 = p.2 in
          let before = headed_by base is k p.0 (omega arith) (omega arith) in
          record {
            head = before.head;
            others = before.others ++ digit_glyph false p.1 ∷ [];
            are = ap (digits base false) whole ∙ is.step p.0 p.1 some p.3 (omega arith) ∙ ap (λ (xs : List ℕ). xs ++ digit_glyph false p.1 ∷ []) before.are;
            first = λ _. before.first some;
            alone = λ e. absurd (omega arith);
          }
    ]

pub of_many : (base most c d : ℕ) (cs : List ℕ) → number_of base most (c ∷ d ∷ cs) ≡ cond (eqb c 48) None (number_from glyph_value base most 0 (c ∷ d ∷ cs))
unfolding number_of
of_many base most c d cs = refl

pub of_one : (base most c : ℕ) → number_of base most (c ∷ []) ≡ number_from glyph_value base most 0 (c ∷ [])
unfolding number_of
of_one base most c = refl

pub of_none : (base most : ℕ) → number_of base most [] ≡ None
unfolding number_of
of_none base most = refl

pub of_zero : (base most c d : ℕ) (cs : List ℕ) → c ≡ 48 → number_of base most (c ∷ d ∷ cs) ≡ None
of_zero base most c d cs e = grind (arith, nat_tests, of_many base most c d cs)

pub of_other : (base most c : ℕ) (cs : List ℕ) → c ≢ 48 → number_of base most (c ∷ cs) ≡ number_from glyph_value base most 0 (c ∷ cs)
of_other base most c [] h = of_one base most c
of_other base most c (d ∷ cs) h = grind (arith, nat_tests, of_many base most c d cs)

-- the digits of a number are read as it
pub number_complete : (base : ℕ) → IsBase base → (most n : ℕ) → most < 2 ^ 64 → n ≤ most → number_of base most (digits base false n) ≡ Some n
number_complete base is most n fits few =
    let h = headed_by base is n n (omega arith) (omega arith) in
    let read : number_from glyph_value base most 0 (digits base false n ++ []) ≡ number_from glyph_value base most n [] = read_by base is n n most (omega arith) few fits [] in
    let all : number_from glyph_value base most 0 (h.head ∷ h.others) ≡ Some n = ap (number_from glyph_value base most 0) (sym h.are ∙ sym (append-nil (digits base false n))) ∙ read ∙ from_end glyph_value base most n in
    ap (number_of base most) h.are ∙ elim (cases_eq n 0) [
      | inl z ↦ ap (λ (xs : List ℕ). number_of base most (h.head ∷ xs)) (h.alone z) ∙ of_one base most h.head ∙ ap (λ (xs : List ℕ). number_from glyph_value base most 0 (h.head ∷ xs)) (sym (h.alone z)) ∙ all
      | inr some ↦ of_other base most h.head h.others (h.first (omega arith)) ∙ all
    ]

-- a number that is read stands there
pub record IsRead (base most n : ℕ) (bytes : List ℕ) : Type 0 where
  pub spelled : bytes ≡ digits base false n
  pub few : n ≤ most

some_same : (m n : ℕ) → Some m ≡ Some n → m ≡ n
some_same m n e = cc

-- one byte that was read
data ByteRead (base most n c : ℕ) (cs : List ℕ) (x : ℕ) : Type 0 where
  goes : glyph_value c < base → n * base + glyph_value c ≤ most → number_from glyph_value base most (n * base + glyph_value c) cs ≡ Some x → ByteRead base most n c cs x

both_true : (a b : Bool) → (a && b) ≡ true → (a ≡ true) × (b ≡ true)
both_true true true e = (refl, refl)
both_true true false e = cc
both_true false b e = cc

is_below : (m n : ℕ) → nat_lt m n ≡ true → m < n
is_below m n e = grind (arith, nat_tests)

is_within : (m n : ℕ) → nat_le m n ≡ true → m ≤ n
is_within m n e = grind (arith, nat_tests)

byte_read : (base most n c : ℕ) (cs : List ℕ) (x : ℕ) → number_from glyph_value base most n (c ∷ cs) ≡ Some x → ByteRead base most n c cs x
byte_read base most n c cs x e =
    elim (chosen (nat_lt (glyph_value c) base && nat_le (n * base + glyph_value c) most) (number_from glyph_value base most (n * base + glyph_value c) cs) None (Some x) (sym (from_cell glyph_value base most n c cs) ∙ e)) [
      | inl p ↦ let t = both_true (nat_lt (glyph_value c) base) (nat_le (n * base + glyph_value c) most) p.0 in goes (is_below (glyph_value c) base t.0) (is_within (n * base + glyph_value c) most t.1) p.1
      | inr p ↦ absurd (none-some x p.1)
    ]

sound_from : (base : ℕ) → IsBase base → (most n : ℕ) (bytes : List ℕ) (x : ℕ) → most < 2 ^ 64 → n ≤ most → 0 < n → number_from glyph_value base most n bytes ≡ Some x
    → (digits base false n ++ bytes ≡ digits base false x) × (x ≤ most)
sound_from base is most n [] x fits few some e =
    let same : n ≡ x = some_same n x (sym (from_end glyph_value base most n) ∙ e) in
    (append-nil (digits base false n) ∙ ap (digits base false) same, omega arith)
sound_from base is most n (c ∷ cs) x fits few some e = elim (byte_read base most n c cs x e) [
  | goes small within again ↦
      let less : n < n * base + glyph_value c = is.less n (glyph_value c) some in
      let next = sound_from base is most (n * base + glyph_value c) cs x fits within (omega arith) again in
      let high = is.high in
      let glyph : digit_glyph false (glyph_value c) ≡ c = glyph_again c (omega arith) in (
        ap (λ (k : ℕ). digits base false n ++ k ∷ cs) (sym glyph) ∙ sym (append_assoc (digits base false n) (digit_glyph false (glyph_value c) ∷ []) cs)
            ∙ ap (λ (xs : List ℕ). xs ++ cs) (sym (is.step n (glyph_value c) some small (omega arith))) ∙ next.0,
        next.1,
      )
]

sound_first : (base : ℕ) → IsBase base → (most c : ℕ) (cs : List ℕ) (x : ℕ) → most < 2 ^ 64 → c ≢ 48 → number_from glyph_value base most 0 (c ∷ cs) ≡ Some x → IsRead base most x (c ∷ cs)
sound_first base is most c cs x fits other e = elim (byte_read base most 0 c cs x e) [
  | goes small within again ↦
      let same : 0 * base + glyph_value c ≡ glyph_value c = omega arith in
      let some : 0 < glyph_value c = above (cases_eq (glyph_value c) 0) in
      let next = sound_from base is most (glyph_value c) cs x fits (omega arith) some (ap (λ (k : ℕ). number_from glyph_value base most k cs) (sym same) ∙ again) in
      let high = is.high in
      let glyph : digit_glyph false (glyph_value c) ≡ c = glyph_again c (omega arith) in
      record { spelled = ap (λ (k : ℕ). k ∷ cs) (sym glyph) ∙ ap (λ (xs : List ℕ). xs ++ cs) (sym (is.one (glyph_value c) small)) ∙ next.0; few = next.1 }
]
  where
    above : (glyph_value c ≡ 0) ⊎ (glyph_value c ≡ 0 → ⊥) → 0 < glyph_value c
    above (inl z) = absurd (other (glyph_zero c z))
    above (inr n) = omega arith

-- a zero alone
sound_zero : (base : ℕ) → IsBase base → (most c x : ℕ) → c ≡ 48 → number_from glyph_value base most 0 (c ∷ []) ≡ Some x → IsRead base most x (c ∷ [])
sound_zero base is most c x z e = elim (byte_read base most 0 c [] x e) [
  | goes small within again ↦
      let none : glyph_value c ≡ 0 = ap glyph_value z in
      let nothing : 0 * base + glyph_value c ≡ 0 = omega arith in
      let same : 0 * base + glyph_value c ≡ x = some_same (0 * base + glyph_value c) x (sym (from_end glyph_value base most (0 * base + glyph_value c)) ∙ again) in
      let low : 0 < base = omega (arith, is.low) in
      record { spelled = ap (λ (k : ℕ). k ∷ []) z ∙ sym (is.one 0 low) ∙ ap (digits base false) (sym nothing ∙ same); few = omega arith }
]

-- what is read as a number is its digits
pub number_sound : (base : ℕ) → IsBase base → (most : ℕ) (bytes : List ℕ) (x : ℕ) → most < 2 ^ 64 → number_of base most bytes ≡ Some x → IsRead base most x bytes
number_sound base is most [] x fits e = absurd (none-some x (sym (of_none base most) ∙ e))
number_sound base is most (c ∷ []) x fits e =
    elim (cases_eq c 48) [
      | inl z ↦ sound_zero base is most c x z (sym (of_one base most c) ∙ e)
      | inr other ↦ sound_first base is most c [] x fits other (sym (of_one base most c) ∙ e)
    ]
number_sound base is most (c ∷ d ∷ cs) x fits e =
    elim (cases_eq c 48) [
      | inl z ↦ absurd (none-some x (sym (of_zero base most c d cs z) ∙ e))
      | inr other ↦ sound_first base is most c (d ∷ cs) x fits other (sym (of_other base most c (d ∷ cs) other) ∙ e)
    ]

-- ---- so many digits

pub last_cell : (k n : ℕ) → last_hex (suc k) n ≡ last_hex k (n / 16) ++ digit_glyph false (n % 16) ∷ []
unfolding last_hex
last_cell k n = refl

pub last_none : (n : ℕ) → last_hex 0 n ≡ []
unfolding last_hex
last_none n = refl

-- so many digits of a number that has no more are read as it
last_read_by : (k n most : ℕ) → n < 16 ^ k → n ≤ most → (tail : List ℕ) → number_from glyph_value 16 most 0 (last_hex k n ++ tail) ≡ number_from glyph_value 16 most n tail
last_read_by zero n most small few tail =
    let z : 0 ≡ n = omega arith in
    ap (λ (xs : List ℕ). number_from glyph_value 16 most 0 (xs ++ tail)) (last_none n) ∙ ap (λ (k : ℕ). number_from glyph_value 16 most k tail) z
last_read_by (suc k) n most small few tail =
    let whole : n / 16 * 16 + n % 16 ≡ n = omega arith in
    ap (λ (xs : List ℕ). number_from glyph_value 16 most 0 (xs ++ tail)) (last_cell k n)
    ∙ ap (number_from glyph_value 16 most 0) (append_assoc (last_hex k (n / 16)) (digit_glyph false (n % 16) ∷ []) tail)
    ∙ last_read_by k (n / 16) most (omega arith) (omega arith) (digit_glyph false (n % 16) ∷ tail)
    ∙ from_digit 16 most (n / 16) (n % 16) tail (omega arith) (omega arith) (omega arith) ∙ ap (λ (x : ℕ). number_from glyph_value 16 most x tail) whole

pub last_complete : (k n most : ℕ) → n < 16 ^ k → n ≤ most → number_from glyph_value 16 most 0 (last_hex k n) ≡ Some n
last_complete k n most small few = ap (number_from glyph_value 16 most 0) (sym (append-nil (last_hex k n))) ∙ last_read_by k n most small few [] ∙ from_end glyph_value 16 most n

last_sound_by : (j n most : ℕ) (bytes : List ℕ) (x : ℕ) → n ≤ most → number_from glyph_value 16 most n bytes ≡ Some x → (last_hex j n ++ bytes ≡ last_hex (j + length bytes) x) × (x ≤ most)
last_sound_by j n most [] x few e =
    let same : n ≡ x = some_same n x (sym (from_end glyph_value 16 most n) ∙ e) in
    let long : j ≡ j + 0 = omega arith in
    (append-nil (last_hex j n) ∙ ap (last_hex j) same ∙ ap (λ (k : ℕ). last_hex k x) long, omega arith)
last_sound_by j n most (c ∷ cs) x few e = elim (byte_read 16 most n c cs x e) [
  | goes small within again ↦
      let next = last_sound_by (suc j) (n * 16 + glyph_value c) most cs x within again in
      let q : (n * 16 + glyph_value c) / 16 ≡ n = omega arith in
      let r : (n * 16 + glyph_value c) % 16 ≡ glyph_value c = omega arith in
      let cell : last_hex (suc j) (n * 16 + glyph_value c) ≡ last_hex j n ++ c ∷ [] =
      last_cell j (n * 16 + glyph_value c) ∙ ap (λ (k : ℕ). last_hex j k ++ digit_glyph false ((n * 16 + glyph_value c) % 16) ∷ []) q
      ∙ ap (λ (k : ℕ). last_hex j n ++ digit_glyph false k ∷ []) r ∙ ap (λ (k : ℕ). last_hex j n ++ k ∷ []) (glyph_again c small) in
      let long : suc j + length cs ≡ j + suc (length cs) = omega arith in
      (sym (append_assoc (last_hex j n) (c ∷ []) cs) ∙ ap (λ (xs : List ℕ). xs ++ cs) (sym cell) ∙ next.0 ∙ ap (λ (k : ℕ). last_hex k x) long, next.1)
]

pub last_sound : (most : ℕ) (bytes : List ℕ) (x : ℕ) → number_from glyph_value 16 most 0 bytes ≡ Some x → (bytes ≡ last_hex (length bytes) x) × (x ≤ most)
last_sound most bytes x e =
    let all = last_sound_by 0 0 most bytes x (omega arith) e in
    let long : 0 + length bytes ≡ length bytes = omega arith in
    (ap (λ (xs : List ℕ). xs ++ bytes) (sym (last_none 0)) ∙ all.0 ∙ ap (λ (k : ℕ). last_hex k x) long, all.1)

-- ---- how a loop reads

at_place : (value : ℕ → ℕ) (base most number : ℕ) (bytes : List ℕ) (i : ℕ) → i < length bytes
    → number_from value base most number (drop i bytes) ≡ cond (nat_lt (value (get_or bytes i 0)) base && nat_le (number * base + value (get_or bytes i 0)) most) (number_from value base most (number * base + value (get_or bytes i 0)) (drop (i + 1) bytes)) None
at_place value base most number bytes i h = ap (number_from value base most number) (rw add-one (drop-cons bytes i 0 h)) ∙ from_cell value base most number (get_or bytes i 0) (drop (i + 1) bytes)

pub loop_none : (value : ℕ → ℕ) (base most number : ℕ) (bytes : List ℕ) (i : ℕ) → i < length bytes → base ≤ value (get_or bytes i 0) → number_from value base most number (drop i bytes) ≡ None
loop_none value base most number bytes i h big = at_place value base most number bytes i h ∙ grind (arith, nat_tests)

pub loop_over : (value : ℕ → ℕ) (base most number : ℕ) (bytes : List ℕ) (i : ℕ) → i < length bytes → most < number * base + value (get_or bytes i 0) → number_from value base most number (drop i bytes) ≡ None
loop_over value base most number bytes i h big = at_place value base most number bytes i h ∙ grind (arith, nat_tests)

pub loop_goes : (value : ℕ → ℕ) (base most number : ℕ) (bytes : List ℕ) (i : ℕ) → i < length bytes → value (get_or bytes i 0) < base → number * base + value (get_or bytes i 0) ≤ most
    → number_from value base most number (drop i bytes) ≡ number_from value base most (number * base + value (get_or bytes i 0)) (drop (i + 1) bytes)
loop_goes value base most number bytes i h small few = at_place value base most number bytes i h ∙ grind (arith, nat_tests)

pub loop_ends : (value : ℕ → ℕ) (base most number : ℕ) (bytes : List ℕ) (i : ℕ) → length bytes ≤ i → number_from value base most number (drop i bytes) ≡ Some number
loop_ends value base most number bytes i h = ap (number_from value base most number) (drop_all i bytes h) ∙ from_end value base most number

pub ruleset loop_steps = (loop_none, loop_over, loop_goes, loop_ends)

pub empty_none : (base most : ℕ) (bytes : List ℕ) → length bytes ≡ 0 → number_of base most bytes ≡ None
empty_none base most [] h = of_none base most
empty_none base most (c ∷ cs) h = absurd (omega arith)

pub leading_none : (base most : ℕ) (bytes : List ℕ) → 1 < length bytes → get_or bytes 0 0 ≡ 48 → number_of base most bytes ≡ None
leading_none base most [] h e = absurd (omega arith)
leading_none base most (c ∷ []) h e = absurd (omega arith)
leading_none base most (c ∷ d ∷ cs) h e = of_zero base most c d cs e

pub alone_read : (base most : ℕ) (bytes : List ℕ) → length bytes ≡ 1 → number_of base most bytes ≡ number_from glyph_value base most 0 bytes
alone_read base most [] h = absurd (omega arith)
alone_read base most (c ∷ []) h = of_one base most c
alone_read base most (c ∷ d ∷ cs) h = absurd (omega arith)

pub other_read : (base most : ℕ) (bytes : List ℕ) → 0 < length bytes → get_or bytes 0 0 ≢ 48 → number_of base most bytes ≡ number_from glyph_value base most 0 bytes
other_read base most [] h e = absurd (omega arith)
other_read base most (c ∷ cs) h e = of_other base most c cs e

pub ruleset of_steps = (empty_none, leading_none, alone_read, other_read)

-- what a reader answers
pub read_if : (base : ℕ) → IsBase base → (most : ℕ) (bytes : List ℕ) (r : Option ℕ) → most < 2 ^ 64 → r ≡ number_of base most bytes → IfSome r (λ n. (n ≤ most) × (bytes ≡ digits base false n))
read_if base is most bytes None fits e = tt
read_if base is most bytes (Some n) fits e = let read = number_sound base is most bytes n fits (sym e) in (read.few, read.spelled)

pub last_if : (most : ℕ) (bytes : List ℕ) (r : Option ℕ) → r ≡ number_from glyph_value 16 most 0 bytes → IfSome r (λ n. (n ≤ most) × (bytes ≡ last_hex (length bytes) n))
last_if most bytes None e = tt
last_if most bytes (Some n) e = let read = last_sound most bytes n (sym e) in (read.1, read.0)

-- what is read is at most the most
pub from_few : (value : ℕ → ℕ) (base most n : ℕ) (bytes : List ℕ) (x : ℕ) → n ≤ most → number_from value base most n bytes ≡ Some x → x ≤ most
from_few value base most n [] x few e = let same : n ≡ x = some_same n x (sym (from_end value base most n) ∙ e) in omega arith
from_few value base most n (c ∷ cs) x few e =
    elim (chosen (nat_lt (value c) base && nat_le (n * base + value c) most) (number_from value base most (n * base + value c) cs) None (Some x) (sym (from_cell value base most n c cs) ∙ e)) [
      | inl p ↦
          let t = both_true (nat_lt (value c) base) (nat_le (n * base + value c) most) p.0 in
          from_few value base most (n * base + value c) cs x (is_within (n * base + value c) most t.1) p.1
      | inr p ↦ absurd (none-some x p.1)
    ]
