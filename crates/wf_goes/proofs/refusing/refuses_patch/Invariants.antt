use Rattle.std.proofs.Common.{◌≡◌, ℕ, ◌<◌, Some}
use Rattle.wf_verdict.specs.declared.requests.Request.TheVariants.{Patches}
use Rattle.wf_verdict.specs.Verdict.{refusal_of}
use Rattle.wf_goes.proofs.refusing.refuses_patch.Given as goal

abbrev pub invariant-loop-patch : goal.invariant-loop-patch
invariant-loop-patch l = (k : ℕ) → k < l.patch → refusal_of l.deltas l.flat 0 (Patches k) ≡ Some l.reason → ⊥
