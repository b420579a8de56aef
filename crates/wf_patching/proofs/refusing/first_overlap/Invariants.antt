use Rattle.std.proofs.Common.{◌≡◌, ◌||◌, drop}
use Rattle.std.specs.List.{find}
use Rattle.wf_mapping.specs.Refusals.{is_here_at, is_text_at}
use Rattle.wf_patching.proofs.refusing.first_overlap.Given as goal

abbrev pub invariant-loop-page : goal.invariant-loop-page
invariant-loop-page l = find (λ page. is_here_at l.records page || is_text_at l.records page) (drop l.page-index l.numbers) ≡ find (λ page. is_here_at l.records page || is_text_at l.records page) l.numbers
