use Rattle.std.proofs.Common.{◌≡◌, ◌≤◌, ℕ, List, get_or}
use Rattle.wf_request.proofs.ReachLemmas.{reached_to}
use Rattle.wf_request.proofs.patching.set_reaches.Given as goal

abbrev pub invariant-loop-i : goal.invariant-loop-i
invariant-loop-i l = record {
  kept : (k : ℕ) (d : List ℕ) → l.i ≤ k → get_or l.reaches k d ≡ get_or l.fn.reaches k d;
  reached : l.gens ≡ reached_to l.i l.fn.reaches l.fn.gens;
}
