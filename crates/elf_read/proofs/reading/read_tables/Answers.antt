use Rattle.std.proofs.Common.{◌≡◌, ℕ, List, All, Err, ap, arith, length, rules, subst, sym, vec_len, ◌∙◌, inr}
use Rattle.std.specs.Result.{result_err}
use Rattle.std.proofs.lemmas.Result.{err_from_is_err_and}
use Rattle.elf_read.specs.Elf.{HasHome}
use Rattle.elf_read.specs.Records.{symbol_table, sections_of, symbols_of}
use Rattle.elf_read.specs.Reading.{AreSymbolsIn}
use Rattle.elf_read.specs.Relas.{IsRooted}
use Rattle.elf_read.specs.declared.records.Section.{Section}
use Rattle.elf_read.proofs.RuleLemmas.{IsSound, part_answers, in_header, in_segments, in_sections, in_symbols, in_relas, headers_in, sections_count, symbols_count}
use Rattle.elf_read.proofs.reading.read_tables.Goals as goal

pub returns-in_err-header-clause-fault : goal.returns-in_err-header-clause-fault
returns-in_err-header-clause-fault c =
    let p = err_from_is_err_and c.from_residual.result c.from_residual.ensures.1 in
    inr (ap result_err (p.1 ∙ ap Err p.2) ∙ sym (in_header c.args.kind c.args.bytes.now _ c.in_err-header.ensures.first))

pub returns-in_err-segments-clause-fault : goal.returns-in_err-segments-clause-fault
returns-in_err-segments-clause-fault c =
    let p = err_from_is_err_and c.from_residual-in_err-segments.result c.from_residual-in_err-segments.ensures.1 in
    let sound : IsSound c.args.kind c.args.bytes.now c.in_ok-header.header = record { unbroken = c.in_ok-header.ensures.first.0; is = c.in_ok-header.ensures.first.1 } in
    part_answers _ _ _ _ _ (p.1 ∙ ap Err p.2) c.in_err-segments.ensures.first (λ fault. in_segments c.args.kind c.args.bytes.now c.in_ok-header.header fault sound)

pub returns-in_err-sections-clause-fault : goal.returns-in_err-sections-clause-fault
returns-in_err-sections-clause-fault c =
    let p = err_from_is_err_and c.from_residual-in_err-sections.result c.from_residual-in_err-sections.ensures.1 in
    let sound : IsSound c.args.kind c.args.bytes.now c.in_ok-header.header = record { unbroken = c.in_ok-header.ensures.first.0; is = c.in_ok-header.ensures.first.1 } in
    part_answers _ _ _ _ _ (p.1 ∙ ap Err p.2) c.in_err-sections.ensures.first (λ fault. in_sections c.args.kind c.args.bytes.now c.in_ok-header.header fault sound c.in_ok-segments.ensures.first.0)

pub returns-in_err-symbols-clause-fault : goal.returns-in_err-symbols-clause-fault
returns-in_err-symbols-clause-fault c =
    let p = err_from_is_err_and c.from_residual-in_err-symbols.result c.from_residual-in_err-symbols.ensures.1 in
    let sound : IsSound c.args.kind c.args.bytes.now c.in_ok-header.header = record { unbroken = c.in_ok-header.ensures.first.0; is = c.in_ok-header.ensures.first.1 } in
    let table : c.symbol_table-table.result ≡ symbol_table (sections_of c.args.bytes.now c.in_ok-header.header) = c.symbol_table-table.ensures ∙ ap symbol_table (c.deref.ensures.value ∙ c.in_ok-sections.ensures.first.1) in
    part_answers _ _ _ _ _ (p.1 ∙ ap Err p.2) c.in_err-symbols.ensures.first (λ fault. in_symbols c.args.kind c.args.bytes.now c.in_ok-header.header c.symbol_table-table.result fault sound table c.in_ok-segments.ensures.first.0 c.in_ok-sections.ensures.first.0)

pub checked_relas-requires-clause-room : goal.checked_relas-requires-clause-room
checked_relas-requires-clause-room c =
    let count = sections_count c.args.bytes.now c.in_ok-header.header c.in_ok-sections.sections.items c.in_ok-sections.ensures.first.1 in
    let room = c.in_ok-header.ensures.laid_out.sections in
    omega (arith, ap length c.deref-2.ensures.value)

pub returns-in_err-relas-clause-fault : goal.returns-in_err-relas-clause-fault
returns-in_err-relas-clause-fault c =
    let p = err_from_is_err_and c.from_residual-in_err-relas.result c.from_residual-in_err-relas.ensures.1 in
    let sound : IsSound c.args.kind c.args.bytes.now c.in_ok-header.header = record { unbroken = c.in_ok-header.ensures.first.0; is = c.in_ok-header.ensures.first.1 } in
    let table : c.symbol_table-table.result ≡ symbol_table (sections_of c.args.bytes.now c.in_ok-header.header) = c.symbol_table-table.ensures ∙ ap symbol_table (c.deref.ensures.value ∙ c.in_ok-sections.ensures.first.1) in
    let counted : vec_len c.in_ok-symbols.symbols ≡ length c.in_ok-symbols.symbols.items = search rules in
    let count : c.len.result ≡ length (symbols_of c.args.bytes.now c.symbol_table-table.result) = c.len.ensures ∙ counted ∙ ap length c.in_ok-symbols.ensures.first.1 in
    part_answers _ _ _ _ _ (p.1 ∙ ap Err p.2) c.in_err-relas.ensures.first (λ fault e. in_relas c.args.kind c.args.bytes.now c.in_ok-header.header c.symbol_table-table.result c.deref-2.result.now c.len.result sound table (c.deref-2.ensures.value ∙ c.in_ok-sections.ensures.first.1) count c.in_ok-segments.ensures.first.0 c.in_ok-sections.ensures.first.0 c.in_ok-symbols.ensures.first.0 ∙ e)

pub returns-clause-kept : goal.returns-clause-kept
returns-clause-kept c =
    let counted : vec_len c.in_ok-symbols.symbols ≡ length c.in_ok-symbols.symbols.items = search rules in
    record {
      few = c.requires;
      few_sections =
          let count = sections_count c.args.bytes.now c.in_ok-header.header c.in_ok-sections.sections.items c.in_ok-sections.ensures.first.1 in
          let room = c.in_ok-header.ensures.laid_out.sections in
          omega arith;
      few_symbols =
          let count = symbols_count c.args.bytes.now c.symbol_table-table.result c.in_ok-symbols.symbols.items c.in_ok-symbols.ensures.first.1 in
          let room : AreSymbolsIn (length c.args.bytes.now) c.symbol_table-table.result = search rules in
          let entries = room.entries in
          omega arith;
      header = c.in_ok-header.ensures.first.1;
      places = headers_in c.args.bytes.now c.in_ok-header.header c.in_ok-segments.segments.items c.in_ok-header.ensures.first.1 c.in_ok-header.ensures.laid_out c.in_ok-segments.ensures.first.1;
      fit = c.in_ok-segments.ensures.fit;
      lie = c.in_ok-sections.ensures.lie;
      named = c.in_ok-symbols.ensures.named;
      homes = subst (λ (n : ℕ). All (HasHome n) c.in_ok-symbols.symbols.items) (sym (sections_count c.args.bytes.now c.in_ok-header.header c.in_ok-sections.sections.items c.in_ok-sections.ensures.first.1)) c.in_ok-symbols.ensures.homes;
      rooted = subst (λ (n : ℕ). All (IsRooted (length c.in_ok-sections.sections.items) n) c.in_ok-relas.relas.items) (c.len.ensures ∙ counted)
          (subst (λ (xs : List Section). All (IsRooted (length xs) c.len.result) c.in_ok-relas.relas.items) c.deref-2.ensures.value c.in_ok-relas.ensures.rooted);
    }

pub returns-clause-fault : goal.returns-clause-fault
returns-clause-fault c =
    let sound : IsSound c.args.kind c.args.bytes.now c.in_ok-header.header = record { unbroken = c.in_ok-header.ensures.first.0; is = c.in_ok-header.ensures.first.1 } in
    let table : c.symbol_table-table.result ≡ symbol_table (sections_of c.args.bytes.now c.in_ok-header.header) = c.symbol_table-table.ensures ∙ ap symbol_table (c.deref.ensures.value ∙ c.in_ok-sections.ensures.first.1) in
    let counted : vec_len c.in_ok-symbols.symbols ≡ length c.in_ok-symbols.symbols.items = search rules in
    let count : c.len.result ≡ length (symbols_of c.args.bytes.now c.symbol_table-table.result) = c.len.ensures ∙ counted ∙ ap length c.in_ok-symbols.ensures.first.1 in
    inr (sym (in_relas c.args.kind c.args.bytes.now c.in_ok-header.header c.symbol_table-table.result c.deref-2.result.now c.len.result sound table (c.deref-2.ensures.value ∙ c.in_ok-sections.ensures.first.1) count c.in_ok-segments.ensures.first.0 c.in_ok-sections.ensures.first.0 c.in_ok-symbols.ensures.first.0 ∙ c.in_ok-relas.ensures.first.0))
