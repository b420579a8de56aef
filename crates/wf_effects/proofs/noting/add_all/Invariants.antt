use Rattle.std.proofs.Common.{◌≡◌, drop}
use Rattle.std.specs.List.{fold}
use Rattle.wf_flat.specs.Lists.{with_number}
use Rattle.wf_effects.proofs.noting.add_all.Given as goal

abbrev pub invariant-loop-n : goal.invariant-loop-n
invariant-loop-n l = fold (λ all n. with_number n all) l.numbers.items (drop l.n-index l.more) ≡ fold (λ all n. with_number n all) l.fn.numbers.items l.more
