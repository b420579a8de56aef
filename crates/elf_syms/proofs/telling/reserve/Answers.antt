use Rattle.std.proofs.Common.{rules, ◌≡◌, None, subst, sym}
use Rattle.elf_syms.specs.Maps.{entry_at}
use Rattle.elf_syms.proofs.MapLemmas.{found_at-reserved, stays-updates}
use Rattle.elf_syms.specs.declared.found.Found.TheVariants as found
use Rattle.elf_syms.proofs.telling.reserve.Goals as goal

pub returns-in_ok-insert-clause-stay : goal.returns-in_ok-insert-clause-stay
returns-in_ok-insert-clause-stay c = stays-updates c.in_ok-to_vec.field-0.items c.args.entries.now c.insert.new.self found.None c.in_ok-insert.ensures.updates

pub returns-in_ok-insert-clause-same : goal.returns-in_ok-insert-clause-same
returns-in_ok-insert-clause-same c =
    let same : c.in_ok-to_vec.field-0.items ≡ c.args.name.now = search rules in
    let absent : entry_at c.args.entries.now c.args.name.now ≡ None = search rules in
    found_at-reserved c.in_ok-to_vec.field-0.items c.args.entries.now c.insert.new.self c.in_ok-insert.ensures.updates (subst (λ bs. entry_at c.args.entries.now bs ≡ None) (sym same) absent)
