use Rattle.std.proofs.Common.{rules, sym, subst, ◌∙◌, ◌<◌, length, IsSome}
use Rattle.elf_syms.specs.Maps.{entry_at}
use Rattle.elf_syms.proofs.TellingLemmas.{among-more, among-same, there-more}
use Rattle.elf_syms.proofs.telling.reserve_all.Goals as goal
use Rattle.elf_syms.proofs.telling.reserve_all.Goals.{then-has+in_ok-reserve, else-has}

pub loop-entry-preserved : goal.loop-entry-preserved
loop-entry-preserved c =
    let e = c.entry-item.result in
    let lt : c.loop-entry.entry-index < length c.args.names.now = search rules in
    record {
      there = elim c.if-has.branch [
        | then-has+in_ok-reserve w ↦
            rw (w.entries-is, among-more c.args.which c.args.names.now c.loop-entry.entry-index e lt c.entry-item.is (sym c.has.ensures ∙ w.if-has.true))
            (there-more c.loop-entry.entries w.reserve.new.entries _ e w.in_ok-reserve.ensures.stay c.loop-entry.invariant.there (subst (λ bs. IsSome (entry_at w.reserve.new.entries bs)) w.bytes.ensures w.in_ok-reserve.ensures.there))
        | else-has w ↦
            rw (w.entries-is, among-same c.args.which c.args.names.now c.loop-entry.entry-index e lt c.entry-item.is (sym c.has.ensures ∙ w.if-has.false)) c.loop-entry.invariant.there
      ];
      same = elim c.if-has.branch [
        | then-has+in_ok-reserve w ↦ λ other. rw w.entries-is (w.in_ok-reserve.ensures.same other ∙ c.loop-entry.invariant.same other)
        | else-has w ↦ λ other. rw w.entries-is (c.loop-entry.invariant.same other)
      ];
    }
