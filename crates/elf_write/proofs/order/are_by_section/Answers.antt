use Rattle.std.proofs.Common.{◌&&◌, ◌==◌, ◌∙◌, Bool, ap, sym}
use Rattle.std.proofs.lemmas.Bool.{false≢true}
use Rattle.std.specs.List.{list_all}
use Rattle.elf_write.proofs.OrderLemmas.{by_section_in, last_decides, none_decides}
use Rattle.elf_write.proofs.order.are_by_section.Goals.{then-are_for, else-are_for}
use Rattle.elf_write.proofs.order.are_by_section.Goals as goal

pub returns-then-are_for-2 : goal.returns-then-are_for-2
returns-then-are_for-2 c =
    let d = by_section_in c.relas_for.result c.relas_for-2.result c.args.relas.now c.split_at.result.0.now c.split_at.result.1.now c.split_at-2.result.0.now c.split_at-2.result.1.now c.split_at.ensures.front c.split_at.ensures.back c.split_at-2.ensures.front c.split_at-2.ensures.back c.relas_for.ensures.value c.relas_for-2.ensures.value in
    let a = list_all (λ r. r.section == 1) c.split_at.result.0.now in
    let b = list_all (λ r. r.section == 2) c.split_at-2.result.0.now in
    let z = list_all (λ r. r.section == 3) c.split_at-2.result.1.now in
    elim c.if-are_for.branch [
      | then-are_for w ↦ last_decides a b z c.are_for-then-are_for-2.result d (sym c.are_for.ensures ∙ w.if-are_for.true) (sym w.are_for-then-are_for.ensures ∙ sym w.value-is ∙ c.if-are_for-2.true) c.are_for-then-are_for-2.ensures
      | else-are_for w ↦ absurd (false≢true (sym w.if-are_for.false ∙ sym w.value-is ∙ c.if-are_for-2.true))
    ]

pub returns-else-are_for-2 : goal.returns-else-are_for-2
returns-else-are_for-2 c =
    let d = by_section_in c.relas_for.result c.relas_for-2.result c.args.relas.now c.split_at.result.0.now c.split_at.result.1.now c.split_at-2.result.0.now c.split_at-2.result.1.now c.split_at.ensures.front c.split_at.ensures.back c.split_at-2.ensures.front c.split_at-2.ensures.back c.relas_for.ensures.value c.relas_for-2.ensures.value in
    let a = list_all (λ r. r.section == 1) c.split_at.result.0.now in
    let b = list_all (λ r. r.section == 2) c.split_at-2.result.0.now in
    let z = list_all (λ r. r.section == 3) c.split_at-2.result.1.now in
    elim c.if-are_for.branch [
      | then-are_for w ↦ none_decides a b z c.if-are_for.value d (ap (λ (x : Bool). x && b) (sym c.are_for.ensures ∙ w.if-are_for.true) ∙ sym w.are_for-then-are_for.ensures ∙ sym w.value-is ∙ c.if-are_for-2.false) c.if-are_for-2.false
      | else-are_for w ↦ none_decides a b z c.if-are_for.value d (ap (λ (x : Bool). x && b) (sym c.are_for.ensures ∙ w.if-are_for.false)) c.if-are_for-2.false
    ]
