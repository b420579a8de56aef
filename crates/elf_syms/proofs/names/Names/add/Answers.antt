use Rattle.std.proofs.Common.{◌≡◌, ◌∙◌, subst}
use Rattle.std.specs.Result.{OnOk}
use Rattle.elf_syms.specs.Names.{with_list, found_for, FindsAs}
use Rattle.elf_syms.specs.Among.{among}
use Rattle.elf_syms.specs.declared.among.Among.TheVariants.{All}
use Rattle.elf_syms.proofs.TellingLemmas.{among-all}
use Rattle.elf_syms.proofs.names.Names.add.Goals as goal

pub returns-clause-ok : goal.returns-clause-ok
returns-clause-ok c =
    let e : among All c.deref.result.now ≡ c.args.names.items = among-all c.deref.result.now ∙ c.deref.ensures.value in
    subst (λ l. OnOk c.put.result (FindsAs c.put.new.self (with_list l (found_for c.args.self.now)))) e c.put.ensures.ok
