use Rattle.std.proofs.Common.{rules}
use Rattle.std.specs.Prelude.{nat_le}
use Rattle.std.proofs.lemmas.List.Sorted.{IsPartitionPoint-from_clause}
use Rattle.elf_load.specs.Segments.{first_page}
use Rattle.elf_load.proofs.OnPageLemmas.{begun_parts, point_told}
use Rattle.elf_load.proofs.paging.begun.Goals as goal

pub returns-clause-point : goal.returns-clause-point
returns-clause-point c =
    point_told first_page c.args.number c.partition_point.result c.args.loads.now
    (IsPartitionPoint-from_clause (λ s. nat_le (first_page s) c.args.number) _ _ c.partition_point.ensures.partitioned
    (begun_parts c.args.number c.args.loads.now c.requires.loads c.requires.rising) (λ a r q k. search rules))
