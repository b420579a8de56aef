use Rattle.std.proofs.Common.{◌∷◌, ◌++◌, [], ℕ, Bor, List, sym, subst, ◌∙◌, ap, arith, get_or, take}
use Rattle.std.specs.Prelude.{is_some}
use Rattle.rv_asm.specs.Names.{IsNameIndex, name_values}
use Rattle.rv_asm.proofs.NameLemmas.{index_again, index_first, none_by, values_length, values_more}
use Rattle.rv_asm.proofs.names.index_of.Goals.{then-not-contains_key+in_ok-insert, else-not-contains_key}
use Rattle.rv_asm.proofs.names.index_of.Goals as goal

pub loop-i-preserved : goal.loop-i-preserved
loop-i-preserved c =
    let d : Bor (List ℕ) = record { ref_ptr = (0, 0); now = [] } in
    let name = (get_or c.args.names.now c.loop-i.i d).now in
    let before = name_values (take c.loop-i.i c.args.names.now) in
    let all = before ++ name ∷ [] in
    let more = values_more c.args.names.now c.loop-i.i d c.loop-i-test.true in
    elim c.if-not-contains_key.branch [
      | then-not-contains_key+in_ok-insert w ↦
          let none = none_by name c.loop-i.places before c.loop-i.invariant (sym c.contains_key.ensures ∙ w.if-not-contains_key.true) in
          subst (IsNameIndex c.if-not-contains_key.places) (sym more)
          (subst (λ m. IsNameIndex m all) (sym w.places-is) (index_first c.loop-i.places w.insert.new.self before name c.loop-i.i c.loop-i.invariant none w.in_ok-insert.ensures.updates (sym (values_length c.args.names.now c.loop-i.i (omega arith)))))
      | else-not-contains_key w ↦
          subst (IsNameIndex c.if-not-contains_key.places) (sym more)
          (subst (λ m. IsNameIndex m all) (sym w.places-is) (index_again c.loop-i.places before name c.loop-i.invariant (ap is_some (sym (c.loop-i.invariant.find name)) ∙ sym c.contains_key.ensures ∙ w.if-not-contains_key.false)))
    ]
