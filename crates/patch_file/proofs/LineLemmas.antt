-- How lines are read one after the other.
use Rattle.std.proofs.Common.{◌≡◌, ◌<◌, ◌≤◌, ◌+◌, [], ◌∷◌, ℕ, suc, List, Bool, true, false, cond, length, refl, sym, ap, ◌∙◌, arith, add-one}
use Rattle.std.proofs.lemmas.List.{nil_from_length}
use Rattle.wf_text.specs.Lines.{lines_of}
use Rattle.patch_file.specs.Words.{is_passed}
use Rattle.patch_file.specs.Reading.{unpassed}

unpassed_cell : (number : ℕ) (line : List ℕ) (lines : List (List ℕ)) → unpassed number (line ∷ lines) ≡ cond (is_passed line) (unpassed (suc number) lines) ((number, line) ∷ unpassed (suc number) lines)
unfolding unpassed
unpassed_cell number line lines = refl

unpassed_none : (number : ℕ) → unpassed number [] ≡ []
unfolding unpassed
unpassed_none number = refl

no_lines : lines_of [] ≡ []
unfolding lines_of
no_lines = refl

-- lines that are left after some that were passed over
pub record IsLeft (first : ℕ) (bytes : List ℕ) (number : ℕ) (rest : List ℕ) : Type 0 where
  pub same : unpassed number (lines_of rest) ≡ unpassed first (lines_of bytes)
  pub last : number + length (lines_of rest) ≡ first + length (lines_of bytes)
  pub place : number + length rest ≤ first + length bytes
  pub shorter : length rest ≤ length bytes

pub left_all : (first : ℕ) (bytes : List ℕ) → IsLeft first bytes first bytes
left_all first bytes = record { same = refl; last = refl; place = omega arith; shorter = omega arith }

-- the lines behind a line that is passed over
pub left_over : (first : ℕ) (bytes : List ℕ) (number : ℕ) (rest line behind : List ℕ) → IsLeft first bytes number rest → lines_of rest ≡ line ∷ lines_of behind → length behind < length rest
    → is_passed line ≡ true → IsLeft first bytes (number + 1) behind
left_over first bytes number rest line behind left split shorter passed =
    let over : unpassed number (lines_of rest) ≡ unpassed (suc number) (lines_of behind) =
    ap (unpassed number) split ∙ unpassed_cell number line (lines_of behind) ∙ ap (λ (b : Bool). cond b (unpassed (suc number) (lines_of behind)) ((number, line) ∷ unpassed (suc number) (lines_of behind))) passed in
    let count : length (lines_of rest) ≡ suc (length (lines_of behind)) = ap (λ (xs : List (List ℕ)). length xs) split in
    let last = left.last in
    let place = left.place in
    let before = left.shorter in
    record {
      same = ap (λ (k : ℕ). unpassed k (lines_of behind)) (add-one number) ∙ sym over ∙ left.same;
      last = omega arith;
      place = omega arith;
      shorter = omega arith;
    }

-- a line that is not passed over is the next
pub left_found : (first : ℕ) (bytes : List ℕ) (number : ℕ) (rest line behind : List ℕ) → IsLeft first bytes number rest → lines_of rest ≡ line ∷ lines_of behind → is_passed line ≡ false
    → unpassed first (lines_of bytes) ≡ (number, line) ∷ unpassed (number + 1) (lines_of behind)
left_found first bytes number rest line behind left split passed =
    sym left.same ∙ ap (unpassed number) split ∙ unpassed_cell number line (lines_of behind) ∙ ap (λ (b : Bool). cond b (unpassed (suc number) (lines_of behind)) ((number, line) ∷ unpassed (suc number) (lines_of behind))) passed
    ∙ ap (λ (k : ℕ). (number, line) ∷ unpassed k (lines_of behind)) (sym (add-one number))

pub left_last : (first : ℕ) (bytes : List ℕ) (number : ℕ) (rest line behind : List ℕ) → IsLeft first bytes number rest → lines_of rest ≡ line ∷ lines_of behind
    → (number + 1) + length (lines_of behind) ≡ first + length (lines_of bytes)
left_last first bytes number rest line behind left split =
    let count : length (lines_of rest) ≡ suc (length (lines_of behind)) = ap (λ (xs : List (List ℕ)). length xs) split in
    let last = left.last in
    omega arith

-- no line is left
pub left_none : (first : ℕ) (bytes : List ℕ) (number : ℕ) (rest : List ℕ) → IsLeft first bytes number rest → length rest ≡ 0 → unpassed first (lines_of bytes) ≡ []
left_none first bytes number rest left e =
    sym left.same ∙ ap (λ (xs : List ℕ). unpassed number (lines_of xs)) (nil_from_length rest e) ∙ ap (unpassed number) no_lines ∙ unpassed_none number

pub left_missing : (first : ℕ) (bytes : List ℕ) (number : ℕ) (rest : List ℕ) → IsLeft first bytes number rest → length rest ≡ 0 → number ≡ first + length (lines_of bytes)
left_missing first bytes number rest left e =
    let none : length (lines_of rest) ≡ 0 = ap (λ (xs : List ℕ). length (lines_of xs)) (nil_from_length rest e) ∙ ap (λ (xs : List (List ℕ)). length xs) no_lines in
    let last = left.last in
    omega arith

pub ruleset next_steps = (left_all, left_over, left_found, left_last, left_none, left_missing)
