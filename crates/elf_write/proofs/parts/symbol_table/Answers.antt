use Rattle.std.proofs.Common.{arith}
use Rattle.elf_write.proofs.PartLemmas.{name_fits}
use Rattle.elf_write.proofs.parts.symbol_table.Goals as goal

pub overflow_cast-name : goal.overflow_cast-name
overflow_cast-name c =
    omega (arith, name_fits c.args.symbols.now c.loop-symbol.symbol-index c.symbol-item.result c.bytes.result.now c.loop-symbol-test.true c.symbol-item.is c.bytes.ensures c.requires)

pub overflow_add-name : goal.overflow_add-name
overflow_add-name c =
    omega (arith, name_fits c.args.symbols.now c.loop-symbol.symbol-index c.symbol-item.result c.bytes.result.now c.loop-symbol-test.true c.symbol-item.is c.bytes.ensures c.requires)

pub overflow_add-name-in-loop-symbol : goal.overflow_add-name-in-loop-symbol
overflow_add-name-in-loop-symbol c =
    omega (arith, c.loop-symbol.invariant.name, name_fits c.args.symbols.now c.loop-symbol.symbol-index c.symbol-item.result c.bytes.result.now c.loop-symbol-test.true c.symbol-item.is c.bytes.ensures c.requires)
