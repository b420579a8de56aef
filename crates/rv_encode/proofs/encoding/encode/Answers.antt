use Rattle.std.proofs.Common.{◌≡◌, ℕ, Option, Some, None, sym, subst, ap, ◌∙◌}
use Rattle.std.proofs.lemmas.Option.{none-some, same_Some}
use Rattle.std.specs.Option.{SomeIff}
use Rattle.rv_inst.specs.declared.inst.Inst.{Inst}
use Rattle.rv_inst.specs.Rows.{IsRow}
use Rattle.rv_inst.specs.Spelling.{IsSpelled, word_of}
use Rattle.rv_encode.proofs.encoding.encode.Goals as goal

-- a word that is the answer is the instruction's
is_row : (inst : Inst) (answer : Option ℕ) (word : ℕ) → SomeIff answer (IsSpelled inst) (word_of inst) → (IsSpelled inst → IsRow (word_of inst) inst) → answer ≡ Some word → IsRow word inst
is_row inst None word is law e = absurd (none-some word e)
is_row inst (Some given) word is law e = subst (λ (n : ℕ). IsRow n inst) (sym is.1 ∙ same_Some _ _ e) (law is.0)

-- a word that is the instruction's is the answer
is_answer : (inst : Inst) (answer : Option ℕ) (word : ℕ) → SomeIff answer (IsSpelled inst) (word_of inst) → IsSpelled inst × (word ≡ word_of inst) → answer ≡ Some word
is_answer inst None word is row = absurd (is row.0)
is_answer inst (Some given) word is row = ap Some (is.1 ∙ sym row.1)

pub returns-clause-back : goal.returns-clause-back
returns-clause-back c = λ word small.
    let inst = c.args.inst in
    let law = c.words_are_rows.ensures in
    let row = law.row word inst in
    let answer = c.by_format.result in (
      λ e. row.1 (is_row inst answer word c.by_format.ensures (λ spelled. law.spells inst spelled) e),
      λ e. is_answer inst answer word c.by_format.ensures (law.spelled word inst small (row.0 e), law.one word inst small (row.0 e)),
    )
