use Rattle.std.proofs.Common.{Some, ap, sym, ◌∙◌}
use Rattle.rv_asm.proofs.LinkLemmas.{section_at, section_none}
use Rattle.rv_asm.proofs.links.section_named.Goals as goal

pub returns-in_err-place : goal.returns-in_err-place
returns-in_err-place c = c.from_residual.ensures ∙ sym (section_none c.args.name.now c.args.labels.now (sym c.in_err-place.ensures.value))

pub returns : goal.returns
returns c =
    ap Some c.section_number.ensures
    ∙ sym (section_at c.args.name.now c.args.labels.now c.entries.result.now c.in_ok-place.place c.index-entries-place.result c.entries.ensures (sym c.in_ok-place.ensures.value))
