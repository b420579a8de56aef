use Rattle.std.proofs.Common.{◌∙◌, arith}
use Rattle.std.proofs.lemmas.List.{length-map}
use Rattle.rv_asm.specs.Names.{name_values}
use Rattle.rv_asm.proofs.LinkLemmas.{place_small}
use Rattle.rv_asm.proofs.links.rela_of.Goals as goal

pub overflow_cast-result : goal.overflow_cast-result
overflow_cast-result c =
    let few = length-map c.args.names.now (λ n. n.now) in
    let small = place_small c.args.link.now.name.now (name_values c.args.names.now) c.copied.result (c.copied.ensures ∙ c.get.ensures.value ∙ c.requires.index.find c.args.link.now.name.now) (omega (arith, few, c.requires.few)) in
    omega (arith, c.unwrap_or.ensures, small)
