use Rattle.std.proofs.Common.{arith}
use Rattle.wf_outside.specs.declared.sizes.TheConstants.{DATA_END_PAGE}
use Rattle.elf_load.specs.Segments.{is_met}
use Rattle.elf_load.specs.Loaded.{loaded_text, loaded_data}
use Rattle.elf_load.proofs.NumberLemmas.{number_low, text_done, data_done}
use Rattle.elf_load.proofs.pages.read_pages.Goals as goal

pub add_page-requires-clause-low : goal.add_page-requires-clause-low
add_page-requires-clause-low c =
    omega (arith, number_low DATA_END_PAGE c.loop-number.number-index (is_met c.args.loads.now) c.args.numbers.now c.requires.numbers c.loop-number-test.true)

pub returns-clause-text : goal.returns-clause-text
returns-clause-text c =
    text_done (loaded_text c.args.elf.now.bytes c.args.loads.now) DATA_END_PAGE c.loop-number.number-index c.args.loads.now c.args.numbers.now c.loop-number.contents.text.items
    c.requires.numbers c.loop-number-test.false c.loop-number.invariant.text

pub returns-clause-pages : goal.returns-clause-pages
returns-clause-pages c =
    data_done (loaded_data c.args.elf.now.bytes c.args.loads.now) DATA_END_PAGE c.loop-number.number-index c.args.loads.now c.args.numbers.now c.loop-number.contents.pages.items
    c.requires.numbers c.loop-number-test.false c.loop-number.invariant.pages
