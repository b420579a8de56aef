use Rattle.std.proofs.Common.{length}
use Rattle.rv_asm.specs.SecondPass.{blank}
use Rattle.rv_asm.proofs.SecondLemmas.{IsDraftedSoFar}
use Rattle.rv_asm.proofs.second_pass.drafted.Given as goal

abbrev pub invariant-loop-rest : goal.invariant-loop-rest
invariant-loop-rest l = IsDraftedSoFar (blank l.fn.form l.fn.survey) l.source l.draft l.number l.rest

abbrev pub decreases-loop-rest : goal.decreases-loop-rest
decreases-loop-rest l = length l.rest
