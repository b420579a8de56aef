use Rattle.elf_load.proofs.OnPageLemmas.{point_order, between_met}
use Rattle.elf_load.proofs.paging.on_page.Goals as goal

pub slice_bounds-result-count : goal.slice_bounds-result-count
slice_bounds-result-count c =
    point_order c.args.number c.ended.result c.begun.result c.args.loads.now c.requires.loads c.ended.ensures.point c.begun.ensures.point c.ended.ensures.bound

pub returns : goal.returns
returns c =
    between_met c.args.number c.ended.result c.begun.result c.args.loads.now c.requires.loads c.ended.ensures.point c.begun.ensures.point c.ended.ensures.bound c.begun.ensures.bound

pub slice_bounds-result-start : goal.slice_bounds-result-start
slice_bounds-result-start c =
    point_order c.args.number c.ended.result c.begun.result c.args.loads.now c.requires.loads c.ended.ensures.point c.begun.ensures.point c.ended.ensures.bound
