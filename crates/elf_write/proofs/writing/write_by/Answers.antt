use Rattle.std.proofs.Common.{◌≡◌, ◌∙◌, ℕ, List, length, ap, rules}
use Rattle.std.specs.List.{flat_map}
use Rattle.elf_read.specs.declared.records.Section.{Section}
use Rattle.elf_write.specs.declared.module.ModSymbol.{ModSymbol}
use Rattle.elf_write.specs.Parts.{locals, symbol_table}
use Rattle.elf_write.specs.Records.{section_bytes}
use Rattle.elf_write.specs.Written.{front_bytes, sections_in, with_tables}
use Rattle.elf_write.proofs.WrittenLemmas.{written_is}
use Rattle.elf_write.proofs.writing.write_by.Goals as goal

pub returns : goal.returns
returns c =
    let p = c.args.plan.now in
    let shown : c.deref.result.now ≡ c.args.module.now.symbols = search rules in
    let count = c.locals.ensures.value ∙ ap (λ (xs : List ModSymbol). length (locals xs)) shown in
    let sections = c.in_ok-sections.ensures ∙ ap (λ (n : ℕ). sections_in p n) count in
    let headers = c.in_ok-headers.ensures ∙ ap (λ (xs : List Section). flat_map section_bytes xs) (c.deref-2.ensures.value ∙ sections) in
    let listed : c.deref-4.result.now ≡ c.args.module.now.symbols = search rules in
    let symbols = c.in_ok-symbols.ensures ∙ ap (λ (xs : List ModSymbol). symbol_table xs) listed in
    let front : c.in_ok-out.out.items ≡ front_bytes p c.args.module.now.entry c.in_ok-segments.segments.items = search rules in
    let tables : c.place_tables.new.out.items ≡ with_tables p.layout c.in_ok-symbols.symbols.items c.args.names.now c.in_ok-section_names.section_names.items c.in_ok-headers.headers.items c.place_contents.new.out.items = search rules in
    written_is p c.args.module.now _ _ _ _ _ _ _ _ c.in_ok-segments.ensures.value headers symbols c.requires.names c.in_ok-section_names.ensures front c.in_ok-place_contents.ensures tables
