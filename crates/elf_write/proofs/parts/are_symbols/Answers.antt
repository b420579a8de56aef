use Rattle.std.proofs.Common.{All, refl, subst}
use Rattle.std.proofs.lemmas.List.{take_all}
use Rattle.std.proofs.lemmas.List.Elements.{All-more}
use Rattle.elf_write.specs.Parts.{IsSymbol}
use Rattle.elf_write.proofs.parts.are_symbols.Goals as goal

pub loop-symbol-preserved : goal.loop-symbol-preserved
loop-symbol-preserved c =
    All-more IsSymbol c.args.symbols.now c.loop-symbol.symbol-index c.symbol-item.result c.loop-symbol-test.true c.loop-symbol.invariant (subst IsSymbol c.symbol-item.is (c.if-not-is_symbol.ensures.0 refl))

pub returns : goal.returns
returns c = (λ t. subst (All IsSymbol) (take_all c.loop-symbol.symbol-index c.args.symbols.now c.loop-symbol-test.false) c.loop-symbol.invariant, λ all. refl)
