use Rattle.std.proofs.Common.{◌≡◌, rules, ap, sym, ◌∙◌, ◌<◌, length, cond, take}
use Rattle.std.specs.Str.{bytes_eq}
use Rattle.elf_syms.specs.Among.{among}
use Rattle.elf_syms.specs.Maps.{found_at}
use Rattle.elf_syms.proofs.TellingLemmas.{among-more, among-same, told-more}
use Rattle.elf_syms.specs.Telling.{joined, told_of}
use Rattle.elf_syms.proofs.telling.told.Goals as goal
use Rattle.elf_syms.proofs.telling.told.Goals.{then-has+in_ok-reserve, else-has}

pub loop-entry-preserved : goal.loop-entry-preserved
loop-entry-preserved c =
    let e = c.entry-item.result in
    let lt : c.loop-entry.entry-index < length c.args.names.now = search rules in
    elim c.if-has.branch [
      | then-has+in_ok-reserve w ↦ λ name.
          let old = found_at w.reserve.new.entries in
          let now_name : w.bytes-name.result.now ≡ e.name = w.bytes-name.ensures in
          let told : w.joined-joined.result ≡ joined (old e.name) e = w.joined-joined.ensures ∙ ap (λ f. joined f e) (w.found_at.ensures ∙ ap old now_name) in
          rw w.told-is
          (w.write.ensures.found name
          ∙ ap (λ bs. cond (bytes_eq bs name) w.joined-joined.result (old name)) now_name
          ∙ ap (λ f. cond (bytes_eq e.name name) f (old name)) told
          ∙ told-more (among c.args.which (take c.loop-entry.entry-index c.args.names.now)) e name (old e.name) (old name)
          (w.in_ok-reserve.ensures.same e.name ∙ c.loop-entry.invariant e.name) (w.in_ok-reserve.ensures.same name ∙ c.loop-entry.invariant name)
          ∙ ap (λ l. told_of l name) (sym (among-more c.args.which c.args.names.now c.loop-entry.entry-index e lt c.entry-item.is (sym c.has.ensures ∙ w.if-has.true))))
      | else-has w ↦ λ name.
          rw (w.told-is, among-same c.args.which c.args.names.now c.loop-entry.entry-index e lt c.entry-item.is (sym c.has.ensures ∙ w.if-has.false)) (c.loop-entry.invariant name)
    ]
