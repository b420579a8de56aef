use Rattle.std.proofs.Common.{◌≡◌, ◌++◌, ◌+◌, ◌-◌}
use Rattle.std.specs.Prelude.{option_copied}
use Rattle.wf_effects.specs.Effects.{mapped_pages}
use Rattle.wf_effects.proofs.mapping.mapped_pages.Given as goal

abbrev pub invariant-loop-i : goal.invariant-loop-i
invariant-loop-i l =
    l.pages.items ++ mapped_pages (option_copied l.delta) l.write (l.first + l.i) (l.birth + l.i) (l.n - l.i) ≡ mapped_pages (option_copied l.delta) l.write l.first l.birth l.n
