use Rattle.std.proofs.Common.{length}
use Rattle.rv_asm.specs.Kept.{AreCounted}
use Rattle.rv_asm.proofs.FirstLemmas.{IsSurveyedSoFar}
use Rattle.rv_asm.proofs.first_pass.surveyed.Given as goal

abbrev pub invariant-loop-rest : goal.invariant-loop-rest
invariant-loop-rest l = record {
  so_far : IsSurveyedSoFar l.form l.names l.source l.survey l.number l.rest;
  counted : AreCounted l.survey.sizes;
}

abbrev pub decreases-loop-rest : goal.decreases-loop-rest
decreases-loop-rest l = length l.rest
