use Rattle.std.proofs.Common.{◌≡◌, ◌≤◌, ℕ, List, map, get_or}
use Rattle.wf_effects.specs.Effects.{new_moved, all_noted}
use Rattle.wf_effects.proofs.FrontLemmas.{others_to}
use Rattle.wf_effects.proofs.noting.set_others.Given as goal

abbrev pub invariant-loop-i : goal.invariant-loop-i
invariant-loop-i l = record {
  kept : (k : ℕ) (d : List ℕ) → l.i ≤ k → get_or l.all k d ≡ get_or l.fn.all k d;
  moved : (pages : List ℕ) → l.fn.all ≡ map (new_moved pages) l.fn.harts → l.harts ≡ others_to (all_noted pages) l.but l.i l.fn.harts;
}
