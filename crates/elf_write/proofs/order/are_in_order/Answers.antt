use Rattle.std.proofs.Common.{◌&&◌, ◌==◌, ◌∙◌, Bool, ◌-◌, length, not, refl, ap, sym}
use Rattle.std.proofs.lemmas.Bool.{false≢true}
use Rattle.std.specs.List.{list_all}
use Rattle.elf_write.specs.Parts.{undefined}
use Rattle.elf_write.proofs.OrderLemmas.{counted, in_order_in, last_decides, none_decides}
use Rattle.elf_write.proofs.order.are_in_order.Goals.{then-are_local, else-are_local}
use Rattle.elf_write.proofs.order.are_in_order.Goals as goal

pub returns-then-are_global : goal.returns-then-are_global
returns-then-are_global c =
    let d = in_order_in c.locals.result (length c.split_at.result.1.now - c.undefined.result) c.args.symbols.now c.split_at.result.0.now c.split_at.result.1.now c.split_at-2.result.0.now c.split_at-2.result.1.now c.split_at.ensures.front c.split_at.ensures.back c.split_at-2.ensures.front c.split_at-2.ensures.back c.locals.ensures.value (counted c.undefined.result (length c.split_at.result.1.now) (length c.split_at.result.1.now) (length (undefined c.split_at.result.1.now)) c.undefined.ensures.value refl c.undefined.ensures.few) in
    let a = list_all (λ s. not s.global) c.split_at.result.0.now in
    let b = list_all (λ s. s.global && not (s.section == 0)) c.split_at-2.result.0.now in
    let z = list_all (λ s. s.global && s.section == 0) c.split_at-2.result.1.now in
    elim c.if-are_local.branch [
      | then-are_local w ↦ last_decides a b z c.are_undefined.result d (sym c.are_local.ensures ∙ w.if-are_local.true) (sym w.are_global.ensures ∙ sym w.value-is ∙ c.if-are_global.true) c.are_undefined.ensures
      | else-are_local w ↦ absurd (false≢true (sym w.if-are_local.false ∙ sym w.value-is ∙ c.if-are_global.true))
    ]

pub returns-else-are_global : goal.returns-else-are_global
returns-else-are_global c =
    let d = in_order_in c.locals.result (length c.split_at.result.1.now - c.undefined.result) c.args.symbols.now c.split_at.result.0.now c.split_at.result.1.now c.split_at-2.result.0.now c.split_at-2.result.1.now c.split_at.ensures.front c.split_at.ensures.back c.split_at-2.ensures.front c.split_at-2.ensures.back c.locals.ensures.value (counted c.undefined.result (length c.split_at.result.1.now) (length c.split_at.result.1.now) (length (undefined c.split_at.result.1.now)) c.undefined.ensures.value refl c.undefined.ensures.few) in
    let a = list_all (λ s. not s.global) c.split_at.result.0.now in
    let b = list_all (λ s. s.global && not (s.section == 0)) c.split_at-2.result.0.now in
    let z = list_all (λ s. s.global && s.section == 0) c.split_at-2.result.1.now in
    elim c.if-are_local.branch [
      | then-are_local w ↦ none_decides a b z c.if-are_local.value d (ap (λ (x : Bool). x && b) (sym c.are_local.ensures ∙ w.if-are_local.true) ∙ sym w.are_global.ensures ∙ sym w.value-is ∙ c.if-are_global.false) c.if-are_global.false
      | else-are_local w ↦ none_decides a b z c.if-are_local.value d (ap (λ (x : Bool). x && b) (sym c.are_local.ensures ∙ w.if-are_local.false)) c.if-are_global.false
    ]
