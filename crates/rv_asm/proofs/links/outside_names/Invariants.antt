use Rattle.std.proofs.Common.{◌≡◌, map, take}
use Rattle.std.specs.List.{enumerate_from, filter}
use Rattle.rv_asm.specs.Links.{is_first_outside}
use Rattle.rv_asm.specs.Names.{name_values}
use Rattle.rv_asm.proofs.links.outside_names.Given as goal

abbrev pub invariant-loop-place : goal.invariant-loop-place
invariant-loop-place l =
    name_values l.outside.items
    ≡ map (λ p. p.1) (filter (is_first_outside l.labels (name_values l.name-items)) (enumerate_from 0 (name_values (take l.place l.name-items))))
