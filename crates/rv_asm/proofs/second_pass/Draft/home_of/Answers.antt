use Rattle.std.proofs.Common.{Some, ap, sym, ◌∙◌, refl}
use Rattle.rv_asm.specs.Drafts.{symbol_values}
use Rattle.rv_asm.proofs.DoneLemmas.{home_at, home_none}
use Rattle.rv_asm.proofs.SymbolLemmas.{same_place}
use Rattle.rv_asm.proofs.second_pass.Draft.home_of.Goals as goal

pub returns-in_err-place : goal.returns-in_err-place
returns-in_err-place c =
    let same = same_place c.args.name.now c.self.inside.labels (symbol_values c.self.inside.symbols.items) c.self.invariant.named in
    c.from_residual.ensures ∙ sym (home_none c.args.name.now _ c.args.self.now c.self.view_is (sym same ∙ sym c.in_err-place.ensures.value))

pub returns : goal.returns
returns c =
    let same = same_place c.args.name.now c.self.inside.labels (symbol_values c.self.inside.symbols.items) c.self.invariant.named in
    ap Some c.section_number.ensures
    ∙ sym (home_at c.args.name.now _ c.args.self.now c.self.inside.symbols.items c.in_ok-place.place c.index.result.now c.self.view_is refl (sym same ∙ sym c.in_ok-place.ensures.value) c.index.ensures)
