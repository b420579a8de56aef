use Rattle.std.proofs.Common.{◌≡◌, ◌++◌, ◌∷◌, [], List, length, sym, ap, ◌∙◌, arith}
use Rattle.std.proofs.lemmas.Grind.{common_steps}
use Rattle.std.proofs.lemmas.List.{length-map, map-append}
use Rattle.rv_asm.specs.declared.named.Label.{Label}
use Rattle.rv_asm.specs.Places.{label_value, label_values}
use Rattle.rv_asm.proofs.PlaceLemmas.{index_push}
use Rattle.rv_asm.proofs.labels.Labels.add.Goals as goal

pub invariant_of-self-2 : goal.invariant_of-self-2
invariant_of-self-2 c =
    index_push c.self.inside.places c.insert.new.self (label_values c.self.inside.entries.items) (label_value c.args.label) c.len.result (label_values c.push.new.self.items)
    c.self.invariant (rw c.self.view_is c.requires) c.in_ok-insert.ensures.updates
    (let long : c.len.result ≡ length c.self.inside.entries.items = grind (arith, common_steps) in long ∙ sym (length-map c.self.inside.entries.items label_value))
    (ap label_values (c.in_ok-push.ensures.items ∙ ap (λ (xs : List Label). xs ++ c.args.label ∷ []) c.reserve.ensures.items) ∙ map-append label_value c.self.inside.entries.items (c.args.label ∷ []))
