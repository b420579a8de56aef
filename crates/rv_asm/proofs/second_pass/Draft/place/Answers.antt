use Rattle.std.proofs.Common.{sym, ap, ◌∙◌}
use Rattle.rv_asm.specs.Drafts.{symbol_values}
use Rattle.rv_asm.specs.Labels.{symbol_place}
use Rattle.rv_asm.specs.SecondPass.{DraftValue}
use Rattle.rv_asm.proofs.SymbolLemmas.{same_place, place_found, place_none}
use Rattle.rv_asm.proofs.second_pass.Draft.place.Goals as goal

pub returns-clause-found : goal.returns-clause-found
returns-clause-found c =
    let same = same_place c.args.name.now c.self.inside.labels (symbol_values c.self.inside.symbols.items) c.self.invariant.named in
    place_found c.ok_or.result c.place.result (symbol_place c.args.name.now c.args.self.now.symbols) _ c.ok_or.ensures.value
    (ap (λ (d : DraftValue). symbol_place c.args.name.now d.symbols) (sym c.self.view_is) ∙ sym same ∙ sym c.place.ensures.value)

pub returns-clause-unknown : goal.returns-clause-unknown
returns-clause-unknown c =
    let same = same_place c.args.name.now c.self.inside.labels (symbol_values c.self.inside.symbols.items) c.self.invariant.named in
    place_none c.ok_or.result c.place.result (symbol_place c.args.name.now c.args.self.now.symbols) _ c.ok_or.ensures.value
    (ap (λ (d : DraftValue). symbol_place c.args.name.now d.symbols) (sym c.self.view_is) ∙ sym same ∙ sym c.place.ensures.value)
