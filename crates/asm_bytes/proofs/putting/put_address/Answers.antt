use Rattle.std.proofs.Common.{◌+ℤ◌, pos, ap, subst, ◌∙◌, ℤ, Option, List, ℕ, to_z, of_z, FitsSigned, rules, arith}
use Rattle.std.proofs.lemmas.Int.{to_z-of_z, to_z_pos}
use Rattle.std.specs.Int.{saturate_signed, w128}
use Rattle.asm_bytes.specs.Bytes.{IsPut, number_bytes}
use Rattle.asm_bytes.proofs.NumberLemmas.{saturated}
use Rattle.asm_bytes.proofs.putting.put_address.Goals as goal

pub returns : goal.returns
returns c =
    let fits : FitsSigned w128 c.saturating_add.result = search rules in
    let target = to_z_pos w128 c.args.target (omega arith) in
    let addend = to_z-of_z w128 c.args.addend c.ranges.addend in
    let sum = c.saturating_add.ensures ∙ ap (λ (z : ℤ). saturate_signed w128 (z +ℤ to_z w128 (of_z w128 c.args.addend))) target ∙ ap (λ (z : ℤ). saturate_signed w128 (pos c.args.target +ℤ z)) addend in
    let whole = to_z-of_z w128 c.saturating_add.result fits ∙ sum in
    let bytes = ap (number_bytes c.args.width) whole ∙ saturated c.args.width (pos c.args.target +ℤ c.args.addend) in
    subst (λ (b : Option (List ℕ)). IsPut c.put_number.result c.args.out.now.items c.put_number.new.out.items b) bytes c.put_number.ensures
