-- The lines of a journal, one after the other.
use Rattle.std.proofs.Common.{◌≡◌, ◌<◌, ◌≤◌, ◌+◌, ◌∷◌, [], ℕ, suc, List, length, Option, Some, None, Ok, Err, refl, sym, ap, ◌∙◌, add-one, arith}
use Rattle.std.proofs.lemmas.List.{nil_from_length}
use Rattle.wf_text.specs.Lines.{lines_of}
use Rattle.wf_journal.specs.Journals.{SoFar, with_line, with_lines, next_line, line_at, as_line}

no_lines : lines_of [] ≡ []
unfolding lines_of
no_lines = refl

-- the line of a number where there is none, and where there is one
pub line_none : {A : Type 0} (number : ℕ) (value_of : List ℕ → Option A) (bytes : List ℕ) → length bytes ≡ 0 → line_at number value_of (lines_of bytes) ≡ Err number
unfolding line_at
line_none number value_of bytes e = ap (λ (xs : List ℕ). line_at number value_of (lines_of xs)) (nil_from_length bytes e) ∙ ap (line_at number value_of) no_lines

pub line_some : {A : Type 0} (number : ℕ) (value_of : List ℕ → Option A) (bytes line rest : List ℕ) → lines_of bytes ≡ line ∷ lines_of rest → line_at number value_of (lines_of bytes) ≡ as_line number (lines_of rest) (value_of line)
unfolding line_at
line_some number value_of bytes line rest e = ap (line_at number value_of) e

pub ruleset line_steps = (line_none, line_some)

-- the lines so far, and the rest
pub record IsReadSoFar (first : SoFar) (bytes : List ℕ) (so_far : SoFar) (number : ℕ) (rest : List ℕ) : Type 0 where
  pub read : with_lines so_far number (lines_of rest) ≡ with_lines first 4 (lines_of bytes)
  pub place : number + length rest ≤ length bytes + 4

pub so_far_none : (first : SoFar) (bytes : List ℕ) → IsReadSoFar first bytes first 4 bytes
so_far_none first bytes = record { read = refl; place = omega arith }

lines_cell : (so_far : SoFar) (number : ℕ) (line : List ℕ) (lines : List (List ℕ)) → with_lines so_far number (line ∷ lines) ≡ next_line number (with_line so_far line) (λ more. with_lines more (suc number) lines)
unfolding with_lines
lines_cell so_far number line lines = refl

lines_none : (so_far : SoFar) (number : ℕ) → with_lines so_far number [] ≡ Ok so_far.journal
unfolding with_lines
lines_none so_far number = refl

one_line : (so_far : SoFar) (number : ℕ) (rest line behind : List ℕ) → lines_of rest ≡ line ∷ lines_of behind
    → with_lines so_far number (lines_of rest) ≡ next_line number (with_line so_far line) (λ more. with_lines more (suc number) (lines_of behind))
one_line so_far number rest line behind split = ap (with_lines so_far number) split ∙ lines_cell so_far number line (lines_of behind)

pub so_far_more : (first : SoFar) (bytes : List ℕ) (so_far more : SoFar) (number : ℕ) (rest line behind : List ℕ) → IsReadSoFar first bytes so_far number rest
    → lines_of rest ≡ line ∷ lines_of behind → length behind < length rest → with_line so_far line ≡ Some more → IsReadSoFar first bytes more (number + 1) behind
so_far_more first bytes so_far more number rest line behind before split shorter read = record {
  read =
      ap (λ (k : ℕ). with_lines more k (lines_of behind)) (add-one number)
      ∙ sym (one_line so_far number rest line behind split ∙ ap (λ (r : Option SoFar). next_line number r (λ more. with_lines more (suc number) (lines_of behind))) read)
      ∙ before.read;
  place = let place = before.place in omega arith;
}

pub so_far_fault : (first : SoFar) (bytes : List ℕ) (so_far : SoFar) (number : ℕ) (rest line behind : List ℕ) → IsReadSoFar first bytes so_far number rest
    → lines_of rest ≡ line ∷ lines_of behind → with_line so_far line ≡ None → with_lines first 4 (lines_of bytes) ≡ Err number
so_far_fault first bytes so_far number rest line behind before split read =
    sym before.read ∙ one_line so_far number rest line behind split ∙ ap (λ (r : Option SoFar). next_line number r (λ more. with_lines more (suc number) (lines_of behind))) read

pub so_far_all : (first : SoFar) (bytes : List ℕ) (so_far : SoFar) (number : ℕ) (rest : List ℕ) → IsReadSoFar first bytes so_far number rest → length rest ≡ 0
    → with_lines first 4 (lines_of bytes) ≡ Ok so_far.journal
so_far_all first bytes so_far number rest before e =
    sym before.read ∙ ap (λ (xs : List ℕ). with_lines so_far number (lines_of xs)) (nil_from_length rest e) ∙ ap (with_lines so_far number) no_lines ∙ lines_none so_far number

pub ruleset more_steps = (so_far_none, so_far_more, so_far_fault, so_far_all)
