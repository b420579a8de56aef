use Rattle.std.proofs.Common.{◌∙◌}
use Rattle.elf_write.proofs.WrittenLemmas.{tables_are}
use Rattle.elf_write.proofs.writing.put_tables.Goals as goal

pub returns : goal.returns
returns c =
    tables_are c.put_halves.result c.args.segments c.args.headers c.args.sections c.args.names c.from.result c.if_segments-size.result c.args.out.now.items c.put_xwords.new.out.items c.put_words.new.out.items c.put_halves.new.out.items (c.from.ensures ∙ c.if_segments-place.ensures) c.if_segments-size.ensures c.in_ok-put_xwords.ensures c.in_ok-put_words.ensures c.put_halves.ensures
