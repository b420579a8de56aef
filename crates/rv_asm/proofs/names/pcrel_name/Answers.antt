use Rattle.std.proofs.Common.{◌≡◌, rules, sym, subst}
use Rattle.rv_asm.specs.Names.{pcrel_name}
use Rattle.rv_asm.specs.Uses.{IsPlainName}
use Rattle.rv_asm.proofs.NameLemmas.{pcrel_plain}
use Rattle.rv_asm.proofs.names.pcrel_name.Goals as goal

pub returns-clause-plain : goal.returns-clause-plain
returns-clause-plain c =
    let is : c.from.result ≡ pcrel_name c.args.n = search rules in
    subst IsPlainName (sym is) (pcrel_plain c.args.n c.ranges.n.fits)
