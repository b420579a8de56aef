use Rattle.std.proofs.Common.{◌≡◌, ◌++◌, drop, map}
use Rattle.std.specs.List.{filter}
use Rattle.wf_flat.specs.Accesses.{is_here}
use Rattle.wf_effects.specs.Effects.{here_numbers}
use Rattle.wf_effects.proofs.born.here_numbers.Given as goal

abbrev pub invariant-loop-page : goal.invariant-loop-page
invariant-loop-page l = l.numbers.items ++ map (λ page. page.number) (filter (λ page. is_here page.stage) (drop l.page-index l.flat.pages)) ≡ here_numbers l.flat
