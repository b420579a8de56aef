-- What is written of a field is read back.
use Rattle.std.proofs.Common.{◌≡◌, ◌≢◌, ◌<◌, ◌≤◌, ◌+◌, ◌-◌, ◌*◌, ◌/◌, ◌%◌, ◌^◌, ◌++◌, ◌∷◌, [], ℕ, zero, suc, List, Bool, true, false, cond, eqb, length, Option, Some, None, refl, sym, ap, subst, ◌∙◌, arith, append_assoc, append-nil, inl, inr, length-append}
use Rattle.std.specs.Prelude.{option_and_then, codes}
use Rattle.std.specs.List.{AllByRecursion}
use Rattle.std.specs.Fmt.{digits, decimal, digit_glyph}
use Rattle.std.proofs.lemmas.Bool.{cases_lt}
use Rattle.std.proofs.lemmas.Bool.Decides.{nat_tests}
use Rattle.wf_text.specs.Lines.{before, from}
use Rattle.wf_text.specs.Numbers.{hex, last_hex, number_of, number_from, glyph_value}
use Rattle.wf_text.proofs.LineLemmas.{before_mark, before_more, from_mark, from_more}
use Rattle.wf_text.proofs.NumberLemmas.{IsBase, ten, sixteen, number_complete, last_complete, last_cell, last_none}
use Rattle.wf_flat.specs.declared.event.Actor.{Actor}
use Rattle.wf_flat.specs.declared.event.Actor.TheVariants.{Hart, Kernel}
use Rattle.wf_journal.specs.Entries.{actor_text, right_text, patch_text}
use Rattle.wf_journal.specs.Fields.{word_at, field, ended, one, two, three, four, hex64, hex32, decimal64, decimal32, decimal8, wide_hex, right_of, patch_of, actor_of, as_hart, as_patch}
use Rattle.wf_journal.specs.Laws.{IsActor, IsPatch}

-- no byte is a space
abbrev pub IsWord : List ℕ → Type 0
IsWord w = AllByRecursion (λ c. c ≢ 32) w

-- nothing, or what begins with a space
abbrev pub IsEnd : List ℕ → Type 0
IsEnd [] = Unit {0}
IsEnd (c ∷ cs) = c ≡ 32

pub before_end : (w tail : List ℕ) → IsWord w → IsEnd tail → (before 32 (w ++ tail) ≡ w) × (from 32 (w ++ tail) ≡ tail)
unfolding before from
before_end [] [] h e = (refl, refl)
before_end [] (c ∷ cs) h e = (before_mark 32 c cs e, from_mark 32 c cs e)
before_end (c ∷ w) tail h e =
    let next = before_end w tail h.1 e in
    (before_more 32 c (w ++ tail) h.0 ∙ ap (λ (xs : List ℕ). c ∷ xs) next.0, from_more 32 c (w ++ tail) h.0 ∙ next.1)

-- a word that is read as a value
pub record IsRead {A : Type 0} (f : List ℕ → Option A) (w : List ℕ) (x : A) : Type 0 where
  pub word : IsWord w
  pub value : f w ≡ Some x

word_cell : (cs : List ℕ) → word_at (32 ∷ cs) ≡ Some (before 32 cs, from 32 cs)
unfolding word_at
word_cell cs = refl

pub word_again : (w tail : List ℕ) → IsWord w → IsEnd tail → word_at (32 ∷ (w ++ tail)) ≡ Some (w, tail)
word_again w tail h e =
    let parts = before_end w tail h e in
    word_cell (w ++ tail) ∙ ap (λ (xs : List ℕ). Some (xs, from 32 (w ++ tail))) parts.0 ∙ ap (λ (xs : List ℕ). Some (w, xs)) parts.1

pub field_again : {A : Type 0} (f : List ℕ → Option A) (w tail : List ℕ) (x : A) → IsRead f w x → IsEnd tail → field f (32 ∷ (w ++ tail)) ≡ Some (x, tail)
unfolding field
field_again {A} f w tail x h e =
    ap (λ (o : Option (List ℕ × List ℕ)). option_and_then (λ word. option_and_then (λ value. Some (value, word.1)) (f word.0)) o) (word_again w tail h.word e)
    ∙ ap (λ (o : Option A). option_and_then (λ value. Some (value, tail)) o) h.value

pub field_last : {A : Type 0} (f : List ℕ → Option A) (w : List ℕ) (x : A) → IsRead f w x → field f (32 ∷ w) ≡ Some (x, [])
field_last f w x h = ap (λ (xs : List ℕ). field f (32 ∷ xs)) (sym (append-nil w)) ∙ field_again f w [] x h tt

pub one_again : {A : Type 0} (f : List ℕ → Option A) (w : List ℕ) (x : A) → IsRead f w x → one f (32 ∷ w) ≡ Some x
unfolding one
one_again {A} f w x h = ap (λ (o : Option (A × List ℕ)). option_and_then (λ a. ended a.1 a.0) o) (field_last f w x h)

pub two_again : {A B : Type 0} (f : List ℕ → Option A) (g : List ℕ → Option B) (v w : List ℕ) (x : A) (y : B) → IsRead f v x → IsRead g w y
    → two f g (32 ∷ (v ++ 32 ∷ w)) ≡ Some (x, y)
unfolding two
two_again {A} {B} f g v w x y h k =
    ap (λ (o : Option (A × List ℕ)). option_and_then (λ a. option_and_then (λ b. ended b.1 (a.0, b.0)) (field g a.1)) o) (field_again f v (32 ∷ w) x h refl)
    ∙ ap (λ (o : Option (B × List ℕ)). option_and_then (λ b. ended b.1 (x, b.0)) o) (field_last g w y k)

pub three_again : {A B C : Type 0} (f : List ℕ → Option A) (g : List ℕ → Option B) (h : List ℕ → Option C) (u v w : List ℕ) (x : A) (y : B) (z : C) → IsRead f u x → IsRead g v y → IsRead h w z
    → three f g h (32 ∷ ((u ++ 32 ∷ v) ++ 32 ∷ w)) ≡ Some (x, y, z)
unfolding three
three_again {A} {B} {C} f g h u v w x y z p q r =
    ap (λ (xs : List ℕ). three f g h (32 ∷ xs)) (append_assoc u (32 ∷ v) (32 ∷ w))
    ∙ ap (λ (o : Option (A × List ℕ)). option_and_then (λ a. option_and_then (λ b. option_and_then (λ c. ended c.1 (a.0, b.0, c.0)) (field h b.1)) (field g a.1)) o) (field_again f u (32 ∷ (v ++ 32 ∷ w)) x p refl)
    ∙ ap (λ (o : Option (B × List ℕ)). option_and_then (λ b. option_and_then (λ c. ended c.1 (x, b.0, c.0)) (field h b.1)) o) (field_again g v (32 ∷ w) y q refl)
    ∙ ap (λ (o : Option (C × List ℕ)). option_and_then (λ c. ended c.1 (x, y, c.0)) o) (field_last h w z r)

pub four_again : {A B C D : Type 0} (f : List ℕ → Option A) (g : List ℕ → Option B) (h : List ℕ → Option C) (i : List ℕ → Option D) (t u v w : List ℕ) (x : A) (y : B) (z : C) (a : D)
    → IsRead f t x → IsRead g u y → IsRead h v z → IsRead i w a → four f g h i (32 ∷ (((t ++ 32 ∷ u) ++ 32 ∷ v) ++ 32 ∷ w)) ≡ Some (x, y, z, a)
unfolding four
four_again {A} {B} {C} {D} f g h i t u v w x y z a p q r s =
    ap (λ (xs : List ℕ). four f g h i (32 ∷ (xs ++ 32 ∷ w))) (append_assoc t (32 ∷ u) (32 ∷ v))
    ∙ ap (λ (xs : List ℕ). four f g h i (32 ∷ xs)) (append_assoc t (32 ∷ (u ++ 32 ∷ v)) (32 ∷ w) ∙ ap (λ (xs : List ℕ). t ++ 32 ∷ xs) (append_assoc u (32 ∷ v) (32 ∷ w)))
    ∙ ap (λ (o : Option (A × List ℕ)). option_and_then (λ a. option_and_then (λ b. option_and_then (λ c. option_and_then (λ d. ended d.1 (a.0, b.0, c.0, d.0)) (field i c.1)) (field h b.1)) (field g a.1)) o) (field_again f t (32 ∷ (u ++ 32 ∷ (v ++ 32 ∷ w))) x p refl)
    ∙ ap (λ (o : Option (B × List ℕ)). option_and_then (λ b. option_and_then (λ c. option_and_then (λ d. ended d.1 (x, b.0, c.0, d.0)) (field i c.1)) (field h b.1)) o) (field_again g u (32 ∷ (v ++ 32 ∷ w)) y q refl)
    ∙ ap (λ (o : Option (C × List ℕ)). option_and_then (λ c. option_and_then (λ d. ended d.1 (x, y, c.0, d.0)) (field i c.1)) o) (field_again h v (32 ∷ w) z r refl)
    ∙ ap (λ (o : Option (D × List ℕ)). option_and_then (λ d. ended d.1 (x, y, z, d.0)) o) (field_last i w a s)

-- ---- numbers

glyph_word : (d : ℕ) → digit_glyph false d ≢ 32
glyph_word d e = grind (arith, nat_tests)

word_append : (v w : List ℕ) → IsWord v → IsWord w → IsWord (v ++ w)
word_append [] w h k = k
word_append (c ∷ v) w h k = (h.0, word_append v w h.1 k)

digits_by : (base : ℕ) → IsBase base → (k n : ℕ) → n ≤ k → n < 2 ^ 64 → IsWord (digits base false n)
digits_by base is zero n le fits =
    let low : 0 < base = omega (arith, is.low) in
    let small : n < base = omega arith in
    subst IsWord (sym (is.one n small)) (glyph_word n, tt)
digits_by base is (suc k) n le fits =
    elim (cases_lt n base) [
      | inl lt ↦ subst IsWord (sym (is.one n lt)) (glyph_word n, tt)
      | inr big ↦
          let p = is.parts n big in
          let less : p.0 < p.0 * base + p.1 = is.less p.0 p.1 p.2 in
          let whole : n ≡ p.0 * base + p.1 = p.4 in
          subst IsWord (sym (ap (digits base false) whole ∙ is.step p.0 p.1 p.2 p.3 (omega arith)))
          (word_append (digits base false p.0) (digit_glyph false p.1 ∷ []) (digits_by base is k p.0 (omega arith) (omega arith)) (glyph_word p.1, tt))
    ]

number_read : (base : ℕ) → IsBase base → (most n : ℕ) → most < 2 ^ 64 → n ≤ most → IsRead (number_of base most) (digits base false n) n
number_read base is most n fits few = record { word = digits_by base is n n (omega arith) (omega arith); value = number_complete base is most n fits few }

pub hex64_read : (n : ℕ) → n < 2 ^ 64 → IsRead hex64 (hex n) n
hex64_read n h = number_read 16 sixteen (2 ^ 64 - 1) n (omega arith) (omega arith)

pub hex32_read : (n : ℕ) → n < 2 ^ 32 → IsRead hex32 (hex n) n
hex32_read n h = number_read 16 sixteen (2 ^ 32 - 1) n (omega arith) (omega arith)

pub decimal64_read : (n : ℕ) → n < 2 ^ 64 → IsRead decimal64 (decimal n) n
decimal64_read n h = number_read 10 ten (2 ^ 64 - 1) n (omega arith) (omega arith)

pub decimal32_read : (n : ℕ) → n < 2 ^ 32 → IsRead decimal32 (decimal n) n
decimal32_read n h = number_read 10 ten (2 ^ 32 - 1) n (omega arith) (omega arith)

pub decimal8_read : (n : ℕ) → n < 2 ^ 8 → IsRead decimal8 (decimal n) n
decimal8_read n h = number_read 10 ten 255 n (omega arith) (omega arith)

last_word : (k n : ℕ) → IsWord (last_hex k n)
last_word zero n = subst IsWord (sym (last_none n)) tt
last_word (suc k) n = subst IsWord (sym (last_cell k n)) (word_append (last_hex k (n / 16)) (digit_glyph false (n % 16) ∷ []) (last_word k (n / 16)) (glyph_word (n % 16), tt))

last_length : (k n : ℕ) → length (last_hex k n) ≡ k
last_length zero n = ap length (last_none n)
last_length (suc k) n =
    let before : length (last_hex k (n / 16)) ≡ k = last_length k (n / 16) in
    ap length (last_cell k n) ∙ length-append (last_hex k (n / 16)) (digit_glyph false (n % 16) ∷ []) ∙ omega arith

same_width : (width m : ℕ) (x y : Option ℕ) → m ≡ width → cond (eqb m width) x y ≡ x
same_width width m x y e = grind (arith, nat_tests)

pub wide_read : (width most n : ℕ) → n < 16 ^ width → n ≤ most → IsRead (wide_hex width most) (last_hex width n) n
unfolding wide_hex
wide_read width most n small few = record {
  word = last_word width n;
  value = same_width width (length (last_hex width n)) (number_from glyph_value 16 most 0 (last_hex width n)) None (last_length width n) ∙ last_complete width n most small few;
}

pub right_read : (write : Bool) → IsRead right_of (right_text write) write
unfolding right_of
right_read true = record { word = (λ e. absurd (omega arith), (λ e. absurd (omega arith), tt)); value = refl }
right_read false = record { word = (λ e. absurd (omega arith), tt); value = refl }

-- a letter and the digits behind it
letter_word : (c : ℕ) (w : List ℕ) → c ≢ 32 → IsWord w → IsWord (c ∷ w)
letter_word c w h k = (h, k)

pub zero_patch_read : (patch : Option ℕ) → IsPatch patch → IsRead (patch_of (codes "z")) (patch_text (codes "z") patch) patch
unfolding patch_of
zero_patch_read None h = record { word = (λ e. absurd (omega arith), tt); value = refl }
zero_patch_read (Some k) h =
    let read = decimal32_read k h in
    record { word = (λ e. absurd (omega arith), read.word); value = ap as_patch read.value }

pub no_patch_read : (patch : Option ℕ) → IsPatch patch → IsRead (patch_of (codes "-")) (patch_text (codes "-") patch) patch
unfolding patch_of
no_patch_read None h = record { word = (λ e. absurd (omega arith), tt); value = refl }
no_patch_read (Some k) h =
    let read = decimal32_read k h in
    record { word = (λ e. absurd (omega arith), read.word); value = ap as_patch read.value }

pub actor_read : (actor : Actor) → IsActor actor → IsRead actor_of (actor_text actor) actor
unfolding actor_of actor_text
actor_read (Hart h) small =
    let read = decimal8_read h small in
    record { word = (λ e. absurd (omega arith), read.word); value = ap as_hart read.value }
actor_read Kernel small = record { word = (λ e. absurd (omega arith), tt); value = refl }
