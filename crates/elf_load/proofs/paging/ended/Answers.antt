use Rattle.std.proofs.Common.{rules}
use Rattle.std.specs.Prelude.{nat_le}
use Rattle.std.proofs.lemmas.List.Sorted.{IsPartitionPoint-from_clause}
use Rattle.elf_load.specs.Segments.{page_after}
use Rattle.elf_load.proofs.OnPageLemmas.{ended_parts, point_told}
use Rattle.elf_load.proofs.paging.ended.Goals as goal

pub returns-clause-point : goal.returns-clause-point
returns-clause-point c =
    point_told page_after c.args.number c.partition_point.result c.args.loads.now
    (IsPartitionPoint-from_clause (λ s. nat_le (page_after s) c.args.number) _ _ c.partition_point.ensures.partitioned
    (ended_parts c.args.number c.args.loads.now c.requires.loads c.requires.rising) (λ a r q k. search rules))
