use Rattle.std.proofs.Common.{◌≡◌, ℕ, Bool, true, false, List, ◌∷◌, ◌++◌, take, drop, Option, Some, None, refl, sym, ap, ◌∙◌}
use Rattle.std.proofs.lemmas.Nat.{from_le_bytes-to_le_bytes_4}
use Rattle.std.proofs.lemmas.Option.{same_Some}
use Rattle.std.specs.Int.{from_le_bytes, to_le_bytes, w32}
use Rattle.rv_inst.specs.Decoding.{inst_of}
use Rattle.rv_inst.specs.Spelling.{word_of}
use Rattle.rv_inst.specs.declared.inst.Inst.{Inst}
use Rattle.byteorder.specs.Endian.{little_bytes}
use Rattle.asm_lines.specs.Choice.{◌>>=◌, when}
use Rattle.asm_bytes.specs.Words.{code_bytes, has_word}
use Rattle.asm_bytes.proofs.WordLemmas.{decided}
use Rattle.asm_bytes.proofs.laws.code_decodes.Goals as goal

-- the bytes of an instruction are those of its word, and what stands behind them is the rest
parts : (inst : Inst) (rest : List Inst) (bytes : List ℕ) → code_bytes (inst ∷ rest) ≡ Some bytes
    → (has_word inst ≡ true) × (to_le_bytes w32 (word_of inst) ≡ take 4 bytes) × (code_bytes rest ≡ Some (drop 4 bytes))
unfolding code_bytes
parts inst rest bytes e = by (has_word inst) (code_bytes rest) refl refl e
  where
    by : (test : Bool) (back : Option (List ℕ)) → has_word inst ≡ test → code_bytes rest ≡ back
        → (when test (little_bytes 4 (word_of inst)) >>= (λ front. back >>= (λ b. Some (front ++ b)))) ≡ Some bytes
        → (has_word inst ≡ true) × (to_le_bytes w32 (word_of inst) ≡ take 4 bytes) × (code_bytes rest ≡ Some (drop 4 bytes))
    by true (Some back) h r e = let same = same_Some _ _ e in (h, ap (take 4) same, r ∙ ap Some (ap (drop 4) same))
    by true None h r e = cc e
    by false back h r e = cc e

pub returns-clause-words : goal.returns-clause-words
returns-clause-words c = decided

pub returns-clause-first : goal.returns-clause-first
returns-clause-first c = λ inst rest bytes e.
    let given = parts inst rest bytes e in
    let law = c.words_are_rows.ensures in
    let spelled = (decided inst).0 given.0 in
    let read = from_le_bytes-to_le_bytes_4 (word_of inst) (law.fits inst spelled) in
    ap (λ (b : List ℕ). inst_of (from_le_bytes w32 b)) (sym given.1) ∙ ap inst_of read ∙ (law.row (word_of inst) inst).1 (law.spells inst spelled)

pub returns-clause-rest : goal.returns-clause-rest
returns-clause-rest c = λ inst rest bytes e. (parts inst rest bytes e).2
