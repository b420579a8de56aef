use Rattle.std.proofs.Common.{arith}
use Rattle.std.proofs.lemmas.Bool.Decides.{nat_tests}
use Rattle.rv_asm.proofs.NameLemmas.{no_las}
use Rattle.rv_asm.proofs.names.la_count.Goals as goal

pub returns-clause-value : goal.returns-clause-value
returns-clause-value c =
    let none = no_las c.loop-rest.rest.now (grind (arith, nat_tests, c.is_empty.ensures, c.loop-rest-test.false)) in
    omega (arith, none, c.loop-rest.invariant.counted)
