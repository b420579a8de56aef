use Rattle.std.proofs.Common.{ap, ◌∙◌, map, Bor, List, ℕ}
use Rattle.rv_asm.specs.declared.links.Link.{Link}
use Rattle.rv_asm.specs.declared.named.Symbol.{Symbol}
use Rattle.rv_asm.specs.Assembled.{all_symbols, entry_point, module_of}
use Rattle.rv_asm.specs.Drafts.{symbol_names, symbol_values}
use Rattle.rv_asm.specs.Links.{by_section, link_names, link_value, links_of, outside_names, rela_of}
use Rattle.rv_asm.specs.Names.{name_values}
use Rattle.rv_asm.specs.SecondPass.{DraftValue}
use Rattle.rv_asm.proofs.WritableLemmas.{module_is}
use Rattle.rv_asm.proofs.assembling.module_of.Goals as goal

pub returns : goal.returns
returns c =
    let i = c.draft.inside in
    let d : DraftValue = record { form = i.form; sizes = i.sizes; section = i.section; text = i.text.items; rodata = i.rodata.items; rwdata = i.rwdata.items; bss = i.bss; symbols = symbol_values i.symbols.items; labels = i.labels; uses = i.uses } in
    let links = map link_value c.in_ok-links.links.items in
    let names = name_values c.in_ok-names_of.field-0.items in
    module_is d links (name_values c.in_ok-outside.outside.items) names c.in_ok-symbols.symbols.items c.in_ok-relas.relas.items c.entry_point.result
    (c.in_ok-links.ensures ∙ ap (links_of d.labels) c.entries.ensures)
    (c.in_ok-outside.ensures ∙ ap (λ (ls : List Link). outside_names d.labels (link_names (map link_value ls))) c.deref.ensures.value)
    (c.in_ok-symbols.ensures ∙ ap (λ (ss : List Symbol). all_symbols (symbol_values ss) (name_values c.deref-3.result.now)) c.deref-2.ensures.value ∙ ap (λ (ns : List (Bor (List ℕ))). all_symbols d.symbols (name_values ns)) c.deref-3.ensures.value)
    (c.in_ok-names_of.ensures ∙ ap symbol_names c.deref-4.ensures.value)
    (c.in_ok-relas.ensures ∙ ap (λ (ns : List (Bor (List ℕ))). by_section (map (rela_of (name_values ns)) (map link_value c.deref-6.result.now))) c.deref-5.ensures.value
    ∙ ap (λ (ls : List Link). by_section (map (rela_of names) (map link_value ls))) c.deref-6.ensures.value)
    (c.entry_point.ensures ∙ ap (λ (ss : List Symbol). entry_point d.form (symbol_values ss)) c.deref-7.ensures.value)
    ∙ ap module_of c.draft.view_is
