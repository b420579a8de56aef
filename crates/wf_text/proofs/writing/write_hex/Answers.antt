use Rattle.wf_text.proofs.WriteLemmas.{hex_goes}
use Rattle.wf_text.proofs.writing.write_hex.Goals as goal

pub loop-left-preserved : goal.loop-left-preserved
loop-left-preserved c =
    let loop = c.loop-left in
    hex_goes c.args.n loop.left loop.at c.glyph.result loop.buffer loop.invariant c.loop-left-test.true c.glyph.ensures
