use Rattle.std.proofs.Common.{◌≡◌, ◌<◌, ◌^◌, ap, subst, sym, arith}
use Rattle.elf_write.specs.Modules.{ModuleValue}
use Rattle.elf_write.proofs.WrittenLemmas.{plan_is}
use Rattle.elf_write.proofs.writing.plan.Goals as goal

pub returns-clause-value : goal.returns-clause-value
returns-clause-value c =
    let form : c.module.inside.form ≡ c.args.module.now.form = ap (λ (m : ModuleValue). m.form) c.module.view_is in
    plan_is c.args.module.now c.args.names c.module.inside.form c.sizes_of-sizes.result c.layout_for-layout.result c.bases_in-bases.result c.requires.names form c.sizes_of-sizes.ensures.value c.layout_for-layout.ensures.value c.bases_in-bases.ensures.value

pub returns-clause-room : goal.returns-clause-room
returns-clause-room c =
    let m = c.args.module.now in
    let form : c.module.inside.form ≡ c.args.module.now.form = ap (λ (m : ModuleValue). m.form) c.module.view_is in
    let whole = plan_is m c.args.names c.module.inside.form c.sizes_of-sizes.result c.layout_for-layout.result c.bases_in-bases.result c.requires.names form c.sizes_of-sizes.ensures.value c.layout_for-layout.ensures.value c.bases_in-bases.ensures.value in
    let end : c.layout_for-layout.result.end < 2 ^ 32 = subst (λ p. p.layout.end < 2 ^ 32) (sym whole) c.requires.short.0 in
    record {
      order = c.layout_for-layout.ensures.order;
      short = end;
      symbols = c.sizes_of-sizes.ensures.fields.symbols;
      names = c.sizes_of-sizes.ensures.fields.strings;
      bss = omega arith;
      near = c.bases_in-bases.ensures.rising;
      low = omega arith;
    }
