use Rattle.std.proofs.Common.{◌≡◌, ◌∙◌, FitsSigned, w64, to_z, of_z, arith}
use Rattle.std.proofs.lemmas.Int.{to_z-of_z}
use Rattle.rv_encode.specs.Jumps.{distance}
use Rattle.rv_encode.proofs.JumpLemmas.{leads}
use Rattle.rv_encode.proofs.jumping.jump.Goals as goal

pub returns-clause-goes : goal.returns-clause-goes
returns-clause-goes c = λ x all.
    let from = c.args.from in
    let to = c.args.to in
    let v = to_z w64 (of_z w64 c.in_ok-checked_signed_diff.field-0) in
    let given = c.in_ok-checked_signed_diff.ensures in
    let fits : FitsSigned w64 c.in_ok-checked_signed_diff.field-0 = rw given.1 given.0 in
    let is : v ≡ distance from to = to_z-of_z w64 c.in_ok-checked_signed_diff.field-0 fits ∙ given.1 in
    let words = c.in_ok-auipc.ensures in
    rw c.bytes_of.ensures (leads from to c.in_ok-auipc.auipc c.in_ok-auipc.jalr v x (omega arith) (omega arith) (omega arith) (omega arith) (omega arith) is words.value.0 words.first words.second all)
