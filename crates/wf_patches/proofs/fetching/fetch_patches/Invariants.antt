use Rattle.std.proofs.Common.{◌≡◌, ◌≤◌, ℕ, List, IfSome, length}
use Rattle.wf_patches.specs.Needed.{held_in}
use Rattle.wf_patches.proofs.ReachLemmas.{Fitted, Reached}
use Rattle.wf_patches.proofs.fetching.fetch_patches.Given as goal

-- the patches before were fetched, and fit
abbrev pub invariant-loop-number : goal.invariant-loop-number
invariant-loop-number g l = record {
  held : IfSome (g.S.Shelf.holds l.fn.shelf) (λ files. Reached (held_in files) l.image l.patches l.number l.base l.deltas.items);
  fits : Fitted l.image l.base l.deltas.items;
  all : length l.deltas.items ≡ l.number;
  holds : g.S.Shelf.holds l.shelf ≡ g.S.Shelf.holds l.fn.shelf;
  counts : (other : List ℕ) → g.S.Shelf.faults l.fn.shelf other ≤ g.S.Shelf.faults l.shelf other;
}
