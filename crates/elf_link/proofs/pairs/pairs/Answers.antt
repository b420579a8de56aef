use Rattle.std.proofs.Common.{ap, sym, ◌∙◌, length}
use Rattle.std.specs.BTreeMap.{get}
use Rattle.std.specs.Ordering.{nat_cmp}
use Rattle.std.specs.Option.{option_or}
use Rattle.elf_link.specs.Kept.{high_from}
use Rattle.elf_link.proofs.PairLemmas.{high-group, no-group, named_all}
use Rattle.elf_link.proofs.pairs.pairs.Goals as goal
use Rattle.elf_link.proofs.pairs.pairs.Goals.{then-group-section+in_ok-note_all, else-group-section}

pub loop-group-preserved : goal.loop-group-preserved
loop-group-preserved c =
    let g = c.group-item.result in
    let i = c.loop-group.group-index in
    let groups = c.relas-group-items.result.now in
    elim c.if-group-section.branch [
      | then-group-section+in_ok-note_all w ↦ λ offset.
          rw (w.pairs-is, ← c.relas-group-items.ensures.value)
          (w.in_ok-note_all.ensures offset
          ∙ ap (λ l. option_or (get nat_cmp c.loop-group.pairs offset) (high_from l offset)) (w.deref.ensures.value ∙ ap (λ v. v.relas) c.group.view_is)
          ∙ high-group c.args.section groups i g offset _ c.loop-group-test.true c.group-item.is
          (sym (ap (λ v. v.target) c.group.view_is) ∙ w.if-group-section.true) (rw c.relas-group-items.ensures.value (c.loop-group.invariant offset)))
      | else-group-section w ↦ λ offset.
          rw (w.pairs-is, ← c.relas-group-items.ensures.value)
          (rw c.relas-group-items.ensures.value (c.loop-group.invariant offset)
          ∙ ap (λ l. high_from l offset) (no-group c.args.section groups i g c.loop-group-test.true c.group-item.is (λ e. w.if-group-section.false (ap (λ v. v.target) c.group.view_is ∙ e))))
    ]

pub returns-clause-named : goal.returns-clause-named
returns-clause-named c = named_all (length c.args.object.now.sections) (length c.args.object.now.symbols) c.args.section c.args.object.now.relas c.relas-group-items.ensures.rooted
