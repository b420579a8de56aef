use Rattle.std.proofs.Common.{◌≡◌, ◌||◌, ℕ, take, nat_eq}
use Rattle.std.specs.BTreeSet.{contains}
use Rattle.std.specs.Ordering.{nat_cmp}
use Rattle.std.specs.Set.{is_member}
use Rattle.wf_tables.proofs.renewal.note_frames.Given as goal

abbrev pub invariant-loop-frame : goal.invariant-loop-frame
invariant-loop-frame l =
    (frame : ℕ) → contains nat_cmp l.taken frame
    ≡ (contains nat_cmp l.fn.taken frame || is_member nat_eq (take l.frame-index l.frames) frame)
