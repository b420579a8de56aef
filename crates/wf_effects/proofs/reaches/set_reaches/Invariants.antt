use Rattle.std.proofs.Common.{◌≡◌, ◌≤◌, ℕ, List, map, get_or}
use Rattle.wf_effects.specs.Effects.{new_reach, reaching}
use Rattle.wf_effects.proofs.FrontLemmas.{changed_to}
use Rattle.wf_effects.proofs.reaches.set_reaches.Given as goal

abbrev pub invariant-loop-i : goal.invariant-loop-i
invariant-loop-i l = record {
  kept : (k : ℕ) (d : List ℕ) → l.i ≤ k → get_or l.reaches k d ≡ get_or l.fn.reaches k d;
  reach : (numbers : List ℕ) → l.fn.reaches ≡ map (new_reach numbers) l.fn.gens → l.gens ≡ changed_to (reaching numbers) l.i l.fn.gens;
}
