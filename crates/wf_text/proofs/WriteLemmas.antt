-- How digits are written from the last to the first.
use Rattle.std.proofs.Common.{◌≡◌, ◌<◌, ◌≤◌, ◌+◌, ◌-◌, ◌/◌, ◌%◌, ◌^◌, ◌++◌, ◌∷◌, [], ℕ, zero, suc, List, false, length, drop, set, length-set, sym, ap, ◌∙◌, arith, append_assoc, append-nil, cond, Result, Ok, Err}
use Rattle.std.specs.Prelude.{OnOk, is_ok}
use Rattle.std.proofs.lemmas.List.{drop-set}
use Rattle.std.proofs.lemmas.Fmt.{hex_one_digit}
use Rattle.std.specs.Fmt.{digit_glyph}
use Rattle.wf_text.specs.Numbers.{hex, last_hex}
use Rattle.wf_text.proofs.HexLemmas.{hex_step}
use Rattle.wf_text.proofs.NumberLemmas.{last_cell, last_none}

-- one place to the left
set_before : (buffer : List ℕ) (at g : ℕ) → 0 < at → at ≤ length buffer → drop (at - 1) (set buffer (at - 1) g) ≡ g ∷ drop at buffer
set_before buffer at g some within =
    let e : at - 1 + 1 ≡ at = omega arith in
    drop-set buffer (at - 1) g (omega arith) ∙ ap (λ (k : ℕ). g ∷ drop k buffer) e

-- what is left to write stands before what is written
pub record IsHexSoFar (n left at : ℕ) (buffer : List ℕ) : Type 0 where
  pub whole : hex left ++ drop at buffer ≡ hex n
  pub small : left < 16 ^ at
  pub some : 1 ≤ at
  pub within : at ≤ 16
  pub long : length buffer ≡ 16
  pub fits : left < 2 ^ 64

room : (at left : ℕ) → 16 ≤ left → left < 16 ^ at → (2 ≤ at) × (left / 16 < 16 ^ (at - 1))
room zero left big small = absurd (omega arith)
room (suc zero) left big small = absurd (omega arith)
room (suc (suc k)) left big small =
    let e : suc (suc k) - 1 ≡ suc k = omega arith in
    (omega arith, rw e (omega arith))

pub hex_starts : (n : ℕ) (buffer : List ℕ) → n < 2 ^ 64 → length buffer ≡ 16 → drop 16 buffer ≡ [] → IsHexSoFar n n 16 buffer
hex_starts n buffer fits long e = record { whole = ap (λ (xs : List ℕ). hex n ++ xs) e ∙ append-nil (hex n); small = omega arith; some = omega arith; within = omega arith; long = long; fits = fits }

pub hex_goes : (n left at g : ℕ) (buffer : List ℕ) → IsHexSoFar n left at buffer → 16 ≤ left → g ≡ digit_glyph false (left % 16) → IsHexSoFar n (left / 16) (at - 1) (set buffer (at - 1) g)
hex_goes n left at g buffer so_far big e =
    let r = room at left big so_far.small in
    record {
      whole =
          ap (λ (xs : List ℕ). hex (left / 16) ++ xs) (set_before buffer at g so_far.some (omega (arith, so_far.within, so_far.long)))
          ∙ ap (λ (k : ℕ). hex (left / 16) ++ k ∷ drop at buffer) e
          ∙ sym (append_assoc (hex (left / 16)) (digit_glyph false (left % 16) ∷ []) (drop at buffer))
          ∙ ap (λ (xs : List ℕ). xs ++ drop at buffer) (sym (hex_step left big so_far.fits)) ∙ so_far.whole;
      small = r.1;
      some = omega (arith, r.0);
      within = omega (arith, so_far.within);
      long = length-set buffer (at - 1) g ∙ so_far.long;
      fits = omega (arith, so_far.fits);
    }

pub hex_ends : (n left at g : ℕ) (buffer : List ℕ) → IsHexSoFar n left at buffer → left < 16 → g ≡ digit_glyph false left → drop (at - 1) (set buffer (at - 1) g) ≡ hex n
hex_ends n left at g buffer so_far small e =
    set_before buffer at g so_far.some (omega (arith, so_far.within, so_far.long)) ∙ ap (λ (k : ℕ). k ∷ drop at buffer) e
    ∙ ap (λ (xs : List ℕ). xs ++ drop at buffer) (sym (hex_one_digit false left small)) ∙ so_far.whole

-- the same for so many digits
pub record IsLastSoFar (width n left place : ℕ) (buffer : List ℕ) : Type 0 where
  pub whole : last_hex (width - place) left ++ drop (16 - place) buffer ≡ last_hex width n
  pub long : length buffer ≡ 16

pub last_starts : (width n : ℕ) (buffer : List ℕ) → length buffer ≡ 16 → drop 16 buffer ≡ [] → IsLastSoFar width n n 0 buffer
last_starts width n buffer long e =
    let all : width - 0 ≡ width = omega arith in
    record { whole = ap (λ (k : ℕ). last_hex k n ++ drop 16 buffer) all ∙ ap (λ (xs : List ℕ). last_hex width n ++ xs) e ∙ append-nil (last_hex width n); long = long }

pub last_goes : (width n left place g : ℕ) (buffer : List ℕ) → IsLastSoFar width n left place buffer → place < width → width ≤ 16 → g ≡ digit_glyph false (left % 16)
    → IsLastSoFar width n (left / 16) (place + 1) (set buffer (15 - place) g)
last_goes width n left place g buffer so_far more wide e =
    let k : width - place ≡ suc (width - (place + 1)) = omega arith in
    let at : 16 - (place + 1) ≡ 15 - place = omega arith in
    let next : 15 - place + 1 ≡ 16 - place = omega arith in
    record {
      whole =
          ap (λ (i : ℕ). last_hex (width - (place + 1)) (left / 16) ++ drop i (set buffer (15 - place) g)) at
          ∙ ap (λ (xs : List ℕ). last_hex (width - (place + 1)) (left / 16) ++ xs) (drop-set buffer (15 - place) g (omega (arith, so_far.long)))
          ∙ ap (λ (i : ℕ). last_hex (width - (place + 1)) (left / 16) ++ g ∷ drop i buffer) next
          ∙ ap (λ (x : ℕ). last_hex (width - (place + 1)) (left / 16) ++ x ∷ drop (16 - place) buffer) e
          ∙ sym (append_assoc (last_hex (width - (place + 1)) (left / 16)) (digit_glyph false (left % 16) ∷ []) (drop (16 - place) buffer))
          ∙ ap (λ (xs : List ℕ). xs ++ drop (16 - place) buffer) (sym (last_cell (width - (place + 1)) left))
          ∙ ap (λ (i : ℕ). last_hex i left ++ drop (16 - place) buffer) (sym k) ∙ so_far.whole;
      long = length-set buffer (15 - place) g ∙ so_far.long;
    }

pub last_ends : (width n left place : ℕ) (buffer : List ℕ) → IsLastSoFar width n left place buffer → place ≡ width → drop (16 - width) buffer ≡ last_hex width n
last_ends width n left place buffer so_far e =
    let none : width - place ≡ 0 = omega arith in
    ap (λ (k : ℕ). drop (16 - k) buffer) (sym e) ∙ ap (λ (xs : List ℕ). xs ++ drop (16 - place) buffer) (sym (ap (λ (k : ℕ). last_hex k left) none ∙ last_none left)) ∙ so_far.whole

pub ruleset hex_steps = (hex_starts, hex_goes, hex_ends)

pub ruleset last_steps = (last_starts, last_goes, last_ends)

-- what an append leaves
pub appended : {E : Type 0} (r : Result (Unit {0}) E) (new old xs ys : List ℕ) → new ≡ cond (is_ok r) (old ++ xs) old → xs ≡ ys → OnOk r (new ≡ old ++ ys)
appended (Ok u) new old xs ys e same = e ∙ ap (λ (zs : List ℕ). old ++ zs) same
appended (Err u) new old xs ys e same = tt
