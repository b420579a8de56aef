-- How lines are read in the second pass.
use Rattle.std.proofs.Common.{◌≡◌, ◌<◌, ◌≤◌, ◌+◌, [], ◌∷◌, ℕ, suc, List, length, Result, Ok, refl, sym, ap, subst, ◌∙◌, arith, add-one}
use Rattle.std.proofs.lemmas.List.{nil_from_length}
use Rattle.wf_text.specs.Lines.{lines_of}
use Rattle.rv_asm.specs.declared.fault.AsmFault.{AsmFault}
use Rattle.rv_asm.specs.Answers.{◌>>=◌, IsFaultOf}
use Rattle.rv_asm.specs.SecondPass.{DraftValue, drafted, drafted_line}
use Rattle.rv_asm.proofs.FirstLemmas.{bind_fault, no_lines}

-- the lines so far, and the rest
pub record IsDraftedSoFar (first : DraftValue) (source : List ℕ) (s : DraftValue) (number : ℕ) (rest : List ℕ) : Type 0 where
  pub read : drafted number (lines_of rest) s ≡ drafted 1 (lines_of source) first
  pub place : number + length rest ≤ length source + 1

pub drafted_none : (first : DraftValue) → (source : List ℕ) → IsDraftedSoFar first source first 1 source
drafted_none first source = record { read = refl; place = omega arith }

lines_cell : (s : DraftValue) (number : ℕ) (line : List ℕ) (lines : List (List ℕ))
    → drafted number (line ∷ lines) s ≡ (drafted_line number line s >>= λ more. drafted (suc number) lines more)
unfolding drafted
lines_cell s number line lines = refl

lines_none : (s : DraftValue) (number : ℕ) → drafted number [] s ≡ Ok s
unfolding drafted
lines_none s number = refl

pub drafted_more : (first : DraftValue) → (source : List ℕ) (s more : DraftValue) (number : ℕ) (rest line behind : List ℕ) → IsDraftedSoFar first source s number rest
    → lines_of rest ≡ line ∷ lines_of behind → length behind < length rest → drafted_line number line s ≡ Ok more → IsDraftedSoFar first source more (number + 1) behind
drafted_more first source s more number rest line behind so_far split shorter read = record {
  read =
      ap (λ (k : ℕ). drafted k (lines_of behind) more) (add-one number)
      ∙ sym (ap (λ (ls : List (List ℕ)). drafted number ls s) split ∙ lines_cell s number line (lines_of behind) ∙ ap (λ (r : Result DraftValue AsmFault). r >>= λ more. drafted (suc number) (lines_of behind) more) read)
      ∙ so_far.read;
  place = let place = so_far.place in omega arith;
}

pub drafted_fault : (first : DraftValue) → (source : List ℕ) (s : DraftValue) (number : ℕ) (rest line behind : List ℕ) (e : AsmFault) → IsDraftedSoFar first source s number rest
    → lines_of rest ≡ line ∷ lines_of behind → IsFaultOf e (drafted_line number line s) → IsFaultOf e (drafted 1 (lines_of source) first)
drafted_fault first source s number rest line behind e so_far split h =
    let whole : (drafted_line number line s >>= λ more. drafted (suc number) (lines_of behind) more) ≡ drafted 1 (lines_of source) first =
    sym (ap (λ (ls : List (List ℕ)). drafted number ls s) split ∙ lines_cell s number line (lines_of behind)) ∙ so_far.read in
    subst (IsFaultOf e) whole (bind_fault e (drafted_line number line s) (λ more. drafted (suc number) (lines_of behind) more) h)

pub drafted_all : (first : DraftValue) → (source : List ℕ) (s : DraftValue) (number : ℕ) (rest : List ℕ) → IsDraftedSoFar first source s number rest → length rest ≡ 0 → drafted 1 (lines_of source) first ≡ Ok s
drafted_all first source s number rest so_far e =
    sym so_far.read ∙ ap (λ (xs : List ℕ). drafted number (lines_of xs) s) (nil_from_length rest e) ∙ ap (λ (ls : List (List ℕ)). drafted number ls s) no_lines ∙ lines_none s number

pub ruleset drafted_steps = (drafted_none, drafted_more, drafted_fault, drafted_all)
