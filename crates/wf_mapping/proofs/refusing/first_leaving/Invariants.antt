use Rattle.std.proofs.Common.{◌≡◌, ◌+◌, ◌-◌}
use Rattle.std.specs.List.{find, range_with_len}
use Rattle.wf_space.specs.Jobs.{is_ending_at}
use Rattle.wf_mapping.proofs.refusing.first_leaving.Given as goal

abbrev pub invariant-loop-i : goal.invariant-loop-i
invariant-loop-i l = find (is_ending_at l.records) (range_with_len (l.first + l.i) (l.pages - l.i)) ≡ find (is_ending_at l.records) (range_with_len l.first l.pages)
