use Rattle.std.proofs.Common.{◌≡◌, ◌||◌, ℕ, take, map, nat_eq}
use Rattle.std.specs.BTreeSet.{contains}
use Rattle.std.specs.Ordering.{nat_cmp}
use Rattle.std.specs.Set.{is_member}
use Rattle.wf_tables.proofs.renewal.note_homes.Given as goal

abbrev pub invariant-loop-home : goal.invariant-loop-home
invariant-loop-home l =
    (frame : ℕ) → contains nat_cmp l.taken frame
    ≡ (contains nat_cmp l.fn.taken frame || is_member nat_eq (map (λ home. home.frame) (take l.home-index l.homes)) frame)
