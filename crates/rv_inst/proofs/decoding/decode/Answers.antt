use Rattle.std.proofs.Common.{◌≡◌, Option, Some, None, refl, arith}
use Rattle.std.specs.Prelude.{IfSome}
use Rattle.rv_inst.specs.Spelling.{IsSpelled}
use Rattle.rv_inst.proofs.decoding.decode.Goals as goal

-- what holds of each answer that there may be
if_some : {A : Type 0} (o : Option A) (P : A → Type 0) → ((x : A) → o ≡ Some x → P x) → IfSome o P
if_some None P h = tt
if_some (Some x) P h = h x refl

pub returns-clause-spelled : goal.returns-clause-spelled
returns-clause-spelled c =
    if_some c.by_opcode.result IsSpelled (λ inst e. (c.words_are_rows.ensures.spelled c.args.word inst (omega arith) ((c.words_are_rows.ensures.row c.args.word inst).0 (rw (← c.by_opcode.ensures) e))))
