-- How what is replaced is read, one line after the other.
use Rattle.std.proofs.Common.{◌≡◌, ◌≤◌, ◌+◌, [], ◌∷◌, ◌++◌, ℕ, List, length, Result, Ok, Err, refl, sym, ap, subst, ◌∙◌, append_assoc, append-nil, arith}
use Rattle.wf_text.specs.Lines.{lines_of}
use Rattle.patch_file.specs.declared.patch.Replace.{Replace}
use Rattle.patch_file.specs.declared.patch.PatchFault.{PatchFault}
use Rattle.patch_file.specs.declared.patch.PatchFault.TheVariants as faults
use Rattle.patch_file.specs.Reading.{◌>>=◌, unpassed, replace_at, replaces_in, IsFaultOf}

-- what is read behind these
abbrev pub more : List Replace → Result (List Replace) ℕ → Result (List Replace) ℕ
more front read = read >>= λ replaces. Ok (front ++ replaces)

-- what is read so far, and what is left
pub record IsReadSoFar (first : ℕ) (bytes : List ℕ) (replaces : List Replace) (number : ℕ) (rest : List ℕ) : Type 0 where
  pub read : more replaces (replaces_in (unpassed number (lines_of rest))) ≡ replaces_in (unpassed first (lines_of bytes))
  pub place : number + length rest ≤ first + length bytes

replaces_cell : (line : ℕ × List ℕ) (lines : List (ℕ × List ℕ)) → replaces_in (line ∷ lines) ≡ (replace_at line.0 line.1 >>= λ replace. replaces_in lines >>= λ replaces. Ok (replace ∷ replaces))
unfolding replaces_in
replaces_cell line lines = refl

replaces_none : replaces_in [] ≡ Ok []
unfolding replaces_in
replaces_none = refl

more_none : (read : Result (List Replace) ℕ) → more [] read ≡ read
more_none (Ok replaces) = refl
more_none (Err line) = refl

more_push : (front : List Replace) (replace : Replace) (read : Result (List Replace) ℕ) → more (front ++ replace ∷ []) read ≡ more front (read >>= λ replaces. Ok (replace ∷ replaces))
more_push front replace (Ok replaces) = ap (λ (xs : List Replace). Ok xs) (append_assoc front (replace ∷ []) replaces)
more_push front replace (Err line) = refl

pub so_far_start : (first : ℕ) (bytes : List ℕ) → IsReadSoFar first bytes [] first bytes
so_far_start first bytes = record { read = more_none (replaces_in (unpassed first (lines_of bytes))); place = omega arith }

pub so_far_more : (first : ℕ) (bytes : List ℕ) (replaces : List Replace) (number : ℕ) (rest : List ℕ) (at : ℕ) (line behind : List ℕ) (replace : Replace) → IsReadSoFar first bytes replaces number rest
    → unpassed number (lines_of rest) ≡ (at, line) ∷ unpassed (at + 1) (lines_of behind) → at + 1 + length behind ≤ number + length rest → replace_at at line ≡ Ok replace
    → IsReadSoFar first bytes (replaces ++ replace ∷ []) (at + 1) behind
so_far_more first bytes replaces number rest at line behind replace so_far next place read = record {
  read =
      more_push replaces replace (replaces_in (unpassed (at + 1) (lines_of behind)))
      ∙ sym (ap (λ (r : Result Replace ℕ). more replaces (r >>= λ one. replaces_in (unpassed (at + 1) (lines_of behind)) >>= λ others. Ok (one ∷ others))) read)
      ∙ ap (more replaces) (sym (ap replaces_in next ∙ replaces_cell (at, line) (unpassed (at + 1) (lines_of behind))))
      ∙ so_far.read;
  place = let before = so_far.place in omega arith;
}

bind_fault : {A B : Type 0} (fault : PatchFault) (read : Result A ℕ) (f : A → Result B ℕ) → IsFaultOf fault read → IsFaultOf fault (read >>= f)
bind_fault faults.Memory read f e = tt
bind_fault {A} {B} (faults.Line line) read f e = ap (λ (r : Result A ℕ). r >>= f) e

pub so_far_fault : (first : ℕ) (bytes : List ℕ) (replaces : List Replace) (number : ℕ) (rest : List ℕ) (at : ℕ) (line behind : List ℕ) (fault : PatchFault) → IsReadSoFar first bytes replaces number rest
    → unpassed number (lines_of rest) ≡ (at, line) ∷ unpassed (at + 1) (lines_of behind) → IsFaultOf fault (replace_at at line)
    → IsFaultOf fault (replaces_in (unpassed first (lines_of bytes)))
so_far_fault first bytes replaces number rest at line behind fault so_far next e =
    let one = bind_fault fault (replace_at at line) (λ replace. replaces_in (unpassed (at + 1) (lines_of behind)) >>= λ others. Ok (replace ∷ others)) e in
    let left = subst (IsFaultOf fault) (sym (ap replaces_in next ∙ replaces_cell (at, line) (unpassed (at + 1) (lines_of behind)))) one in
    subst (IsFaultOf fault) so_far.read (bind_fault fault (replaces_in (unpassed number (lines_of rest))) (λ others. Ok (replaces ++ others)) left)

pub so_far_all : (first : ℕ) (bytes : List ℕ) (replaces : List Replace) (number : ℕ) (rest : List ℕ) → IsReadSoFar first bytes replaces number rest → unpassed number (lines_of rest) ≡ []
    → replaces_in (unpassed first (lines_of bytes)) ≡ Ok replaces
so_far_all first bytes replaces number rest so_far none =
    sym so_far.read ∙ ap (λ (xs : List (ℕ × List ℕ)). more replaces (replaces_in xs)) none ∙ ap (more replaces) replaces_none ∙ ap (λ (xs : List Replace). Ok xs) (append-nil replaces)

pub ruleset replace_steps = (so_far_start, so_far_more, so_far_fault, so_far_all)
