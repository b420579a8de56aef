use Rattle.std.proofs.Common.{arith}
use Rattle.rv_asm.proofs.NarrowLemmas.{narrow_at}
use Rattle.rv_asm.proofs.assembling.start_point.Goals as goal

pub overflow_cast-result : goal.overflow_cast-result
overflow_cast-result c =
    let narrow = narrow_at c.args.symbols.now c.loop-symbol.symbol-index c.symbol-item.result c.requires c.loop-symbol-test.true c.symbol-item.is in
    omega (arith, narrow.value)
