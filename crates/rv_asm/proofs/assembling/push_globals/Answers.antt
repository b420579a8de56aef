use Rattle.rv_asm.proofs.NarrowLemmas.{narrow_at}
use Rattle.rv_asm.proofs.assembling.push_globals.Goals as goal

pub module_symbol-requires : goal.module_symbol-requires
module_symbol-requires c = narrow_at c.args.symbols.now c.loop-symbol.symbol-index c.symbol-item.result c.requires c.loop-symbol-test.true c.symbol-item.is
