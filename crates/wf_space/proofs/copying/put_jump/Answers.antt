use Rattle.std.proofs.Common.{◌+◌, take, drop}
use Rattle.std.specs.Int.{from_le_bytes, w32}
use Rattle.wf_space.specs.Pieces.{half_put}
use Rattle.wf_space.proofs.CopyLemmas.{first_length, rewrites_both}
use Rattle.wf_space.proofs.copying.put_jump.Goals as goal

pub returns-clause-made : goal.returns-clause-made
returns-clause-made c =
    let jump = c.args.jump.now in
    rewrites_both c.args.words.now c.put_in_page.new.words c.put_in_page-2.new.words c.args.frame c.args.frame (half_put c.args.page jump.at (from_le_bytes w32 (take 4 jump.bytes)))
    (half_put c.args.page (jump.at + 4) (from_le_bytes w32 (drop 4 jump.bytes))) (first_length c.args.page jump.at (from_le_bytes w32 (take 4 jump.bytes))) (rw c.first_half.ensures at c.put_in_page.ensures.made)
    (rw c.last_half.ensures at c.put_in_page-2.ensures.made)
