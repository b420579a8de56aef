use Rattle.std.proofs.Common.{arith, rules, ap, sym, subst, ◌∙◌, ◌<◌, length, cond, IsSome, take, take_all}
use Rattle.std.specs.Str.{bytes_eq}
use Rattle.std.specs.List.{list_any}
use Rattle.elf_syms.specs.Among.{among}
use Rattle.elf_syms.specs.Maps.{entry_at, found_at}
use Rattle.elf_syms.specs.Telling.{told_of, has_name}
use Rattle.elf_syms.proofs.TellingLemmas.{among-more, among-same, there-at, there-stays, decided, decided-more}
use Rattle.elf_syms.proofs.telling.write_all.Goals as goal
use Rattle.elf_syms.proofs.telling.write_all.Goals.{then-has, else-has}

pub write-requires : goal.write-requires
write-requires c =
    subst (λ bs. IsSome (entry_at c.loop-entry.entries bs)) (sym c.bytes-name.ensures)
    (there-at c.loop-entry.entries c.args.which c.args.names.now c.loop-entry.entry-index c.entry-item.result c.loop-entry.invariant.there (search rules) c.entry-item.is (sym c.has.ensures ∙ c.if-has.true))

pub loop-entry-preserved : goal.loop-entry-preserved
loop-entry-preserved c =
    let e = c.entry-item.result in
    let lt : c.loop-entry.entry-index < length c.args.names.now = search rules in
    let all = among c.args.which c.args.names.now in
    let old = found_at c.args.entries.now in
    let before = among c.args.which (take c.loop-entry.entry-index c.args.names.now) in
    record {
      there = elim c.if-has.branch [
        | then-has w ↦ rw w.entries-is (there-stays c.loop-entry.entries w.write.new.entries all w.write.ensures.stay c.loop-entry.invariant.there)
        | else-has w ↦ rw w.entries-is c.loop-entry.invariant.there
      ];
      found = elim c.if-has.branch [
        | then-has w ↦ λ other.
            rw w.entries-is
            (w.write.ensures.found other
            ∙ ap (λ bs. cond (bytes_eq bs other) w.found_at.result (found_at c.loop-entry.entries other)) w.bytes-name.ensures
            ∙ ap (λ f. cond (bytes_eq e.name other) w.found_at.result f) (c.loop-entry.invariant.found other)
            ∙ decided-more all before e other w.found_at.result (old other) (w.found_at.ensures ∙ c.requires.told w.bytes-name.result.now ∙ ap (told_of all) w.bytes-name.ensures)
            ∙ ap (λ l. cond (list_any (has_name other) l) (told_of all other) (old other)) (sym (among-more c.args.which c.args.names.now c.loop-entry.entry-index e lt c.entry-item.is (sym c.has.ensures ∙ w.if-has.true))))
        | else-has w ↦ λ other.
            rw (w.entries-is, among-same c.args.which c.args.names.now c.loop-entry.entry-index e lt c.entry-item.is (sym c.has.ensures ∙ w.if-has.false)) (c.loop-entry.invariant.found other)
      ];
    }

pub returns : goal.returns
returns c = λ other.
    let all = among c.args.which c.args.names.now in
    let old = found_at c.args.entries.now in
    c.loop-entry.invariant.found other
    ∙ ap (λ l. cond (list_any (has_name other) (among c.args.which l)) (told_of all other) (old other)) (take_all c.loop-entry.entry-index c.args.names.now (omega arith))
    ∙ decided all other (old other)
