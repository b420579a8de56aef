use Rattle.std.proofs.Common.{◌∙◌}
use Rattle.elf_load.proofs.PageLemmas.{rising-filter, placeable-filter, is_text_page, no_data_page, is_data_page, no_text_page}
use Rattle.elf_load.proofs.pages.add_page.Goals as goal

pub page_words-requires-clause-rising : goal.page_words-requires-clause-rising
page_words-requires-clause-rising c = rw c.on_page-here.ensures (rising-filter _ c.args.loads.now c.requires.rising)

pub page_words-requires-clause-each : goal.page_words-requires-clause-each
page_words-requires-clause-each c = rw c.on_page-here.ensures (placeable-filter _ _ c.args.loads.now c.requires.each)

pub returns-in_ok-push-clause-text : goal.returns-in_ok-push-clause-text
returns-in_ok-push-clause-text c =
    c.in_ok-push.ensures.items
    ∙ is_text_page c.args.elf.now.bytes c.args.loads.now c.on_page-here.result.now c.args.number c.in_ok-words.words.items c.any_executable.result c.requires.each
    c.on_page-here.ensures c.in_ok-words.ensures.words c.any_executable.ensures c.if-any_executable.true c.args.contents.now.text.items

pub returns-in_ok-push-clause-pages : goal.returns-in_ok-push-clause-pages
returns-in_ok-push-clause-pages c =
    no_data_page c.args.elf.now.bytes c.args.loads.now c.on_page-here.result.now c.args.number c.any_executable.result
    c.on_page-here.ensures c.any_executable.ensures c.if-any_executable.true c.args.contents.now.pages.items

pub returns-in_ok-push-2-clause-text : goal.returns-in_ok-push-2-clause-text
returns-in_ok-push-2-clause-text c =
    no_text_page c.args.elf.now.bytes c.args.loads.now c.on_page-here.result.now c.args.number c.any_executable.result
    c.on_page-here.ensures c.any_executable.ensures c.if-any_executable.false c.args.contents.now.text.items

pub returns-in_ok-push-2-clause-pages : goal.returns-in_ok-push-2-clause-pages
returns-in_ok-push-2-clause-pages c =
    c.in_ok-push-2.ensures.items
    ∙ is_data_page c.args.elf.now.bytes c.args.loads.now c.on_page-here.result.now c.args.number c.in_ok-words.words.items c.any_executable.result c.any_writable.result c.requires.each
    c.on_page-here.ensures c.in_ok-words.ensures.words c.any_executable.ensures c.any_writable.ensures c.if-any_executable.false c.args.contents.now.pages.items
