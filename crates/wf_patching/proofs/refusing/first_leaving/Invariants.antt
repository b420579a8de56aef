use Rattle.std.proofs.Common.{◌≡◌, drop}
use Rattle.std.specs.List.{find}
use Rattle.wf_space.specs.Jobs.{is_ending_at}
use Rattle.wf_patching.proofs.refusing.first_leaving.Given as goal

abbrev pub invariant-loop-page : goal.invariant-loop-page
invariant-loop-page l = find (is_ending_at l.records) (drop l.page-index l.numbers) ≡ find (is_ending_at l.records) l.numbers
