use Rattle.std.proofs.Common.{arith}
use Rattle.std.proofs.lemmas.Grind.{common_steps}
use Rattle.std.proofs.lemmas.List.FromFn.{map-range_with_len_more}
use Rattle.patch_build.specs.Pages.{page_of_text}
use Rattle.patch_build.proofs.paging.text_pages.Goals as goal

pub loop-k-preserved : goal.loop-k-preserved
loop-k-preserved c =
    let more = map-range_with_len_more (page_of_text c.args.bytes.now c.args.first) 0 c.loop-k.k c.loop-k.k (omega arith) in
    grind (arith, common_steps, more)
