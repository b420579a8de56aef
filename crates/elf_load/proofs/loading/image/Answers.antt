use Rattle.std.proofs.Common.{length, ◌<◌, ◌∙◌, ap, sym, subst}
use Rattle.std.specs.List.{All}
use Rattle.wf_outside.specs.declared.sizes.TheConstants.{DATA_END_PAGE}
use Rattle.elf_load.specs.Segments.{is_met}
use Rattle.elf_load.specs.Loaded.{page_behind}
use Rattle.elf_load.proofs.NumberLemmas.{below_low}
use Rattle.elf_load.proofs.PagingLemmas.{are_loads, end_low}
use Rattle.elf_load.proofs.KeptLemmas.{image_kept}
use Rattle.elf_load.proofs.ImageLemmas.{image_told}
use Rattle.elf_load.proofs.loading.image.Goals as goal

pub page_numbers-requires-clause-loads : goal.page_numbers-requires-clause-loads
page_numbers-requires-clause-loads c = are_loads (length c.args.elf.now.bytes) c.args.loads.now c.requires.placed.each

pub page_numbers-requires-clause-low : goal.page_numbers-requires-clause-low
page_numbers-requires-clause-low c = end_low (length c.args.elf.now.bytes) c.args.loads.now c.requires.placed.each

pub page_behind-requires : goal.page_behind-requires
page_behind-requires c =
    subst (All (λ n. n < DATA_END_PAGE)) (sym (c.deref-2.ensures.value ∙ c.in_ok-numbers.ensures)) (below_low DATA_END_PAGE (is_met c.args.loads.now))

pub invariant_of-result : goal.invariant_of-result
invariant_of-result c =
    image_kept (length c.args.elf.now.bytes) c.entry.result c.args.elf.now.bytes c.args.loads.now _ _ c.requires.placed.each c.in_ok-contents.ensures.text c.in_ok-contents.ensures.pages
    (rw c.entry.ensures c.requires.entry)

pub returns : goal.returns
returns c =
    image_told c.args.elf.now c.args.loads.now c.requires.placed c.in_ok-contents.contents.text.items c.in_ok-contents.contents.pages.items c.entry.result c.in_ok-names.field-0.items
    c.in_ok-numbers.numbers.items c.page_behind.result c.in_ok-contents.ensures.text c.in_ok-contents.ensures.pages c.entry.ensures c.in_ok-names.ensures c.in_ok-numbers.ensures (c.page_behind.ensures ∙ ap page_behind c.deref-2.ensures.value)
