use Rattle.std.proofs.Common.{◌++◌, ap, ◌∙◌, arith}
use Rattle.std.specs.List.{range_with_len}
use Rattle.elf_load.proofs.paging.push_range.Goals as goal

pub returns : goal.returns
returns c =
    c.loop-number.invariant.so_far ∙ ap (λ n. c.args.numbers.now.items ++ range_with_len c.args.from n) (omega arith)
