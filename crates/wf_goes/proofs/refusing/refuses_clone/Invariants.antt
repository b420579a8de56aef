use Rattle.std.proofs.Common.{◌≡◌, ℕ, ◌<◌, Some}
use Rattle.wf_verdict.specs.declared.requests.Request.TheVariants.{Clones}
use Rattle.wf_verdict.specs.Verdict.{refusal_of}
use Rattle.wf_goes.proofs.refusing.refuses_clone.Given as goal

abbrev pub invariant-loop-generation : goal.invariant-loop-generation
invariant-loop-generation l = (k : ℕ) → k < l.generation → refusal_of l.deltas l.flat 0 (Clones k) ≡ Some l.reason → ⊥
