use Rattle.std.proofs.Common.{◌≡◌, ◌+◌, ◌-◌, ◌||◌}
use Rattle.std.specs.List.{find, range_with_len}
use Rattle.wf_mapping.specs.Refusals.{is_here_at, is_text_at}
use Rattle.wf_mapping.proofs.refusing.first_overlap.Given as goal

abbrev pub invariant-loop-i : goal.invariant-loop-i
invariant-loop-i l = find (λ page. is_here_at l.records page || is_text_at l.records page) (range_with_len (l.first + l.i) (l.pages - l.i)) ≡ find (λ page. is_here_at l.records page || is_text_at l.records page) (range_with_len l.first l.pages)
