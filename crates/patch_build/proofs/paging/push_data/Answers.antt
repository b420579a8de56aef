use Rattle.std.proofs.Common.{arith}
use Rattle.std.proofs.lemmas.Grind.{common_steps}
use Rattle.std.proofs.lemmas.List.FromFn.{map-range_with_len_more}
use Rattle.patch_build.specs.Pages.{page_of_data}
use Rattle.patch_build.proofs.paging.push_data.Goals as goal

pub loop-k-preserved : goal.loop-k-preserved
loop-k-preserved c =
    let more = map-range_with_len_more (page_of_data c.args.bytes.now c.args.first c.args.write) 0 c.loop-k.k c.loop-k.k (omega arith) in
    grind (arith, common_steps, more)
