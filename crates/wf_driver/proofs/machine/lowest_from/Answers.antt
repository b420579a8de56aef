use Rattle.std.proofs.Common.{◌≡◌, ◌∙◌, None, sym, inl, inr, arith}
use Rattle.wf_follow.specs.Units.{lowest_running}
use Rattle.wf_driver.proofs.TurnLemmas.{found_behind, missed_behind, lowest_past}
use Rattle.wf_driver.proofs.machine.lowest_from.Goals as goal

pub returns-in_err-get-clause-lowest : goal.returns-in_err-get-clause-lowest
returns-in_err-get-clause-lowest c =
    let none : lowest_running c.args.least 0 c.args.harts.now ≡ None = elim c.in_err-get.ensures.lookup.0 [
      | inl past ↦ lowest_past c.args.least c.args.harts.now past
      | inr wrong ↦ absurd (omega arith)
    ] in
    c.from_residual.ensures ∙ sym none

pub returns-in_err-place-clause-lowest : goal.returns-in_err-place-clause-lowest
returns-in_err-place-clause-lowest c =
    c.from_residual-in_err-place.ensures
    ∙ sym (missed_behind c.args.least c.args.harts.now c.in_ok-get.field-0.now c.in_ok-get.ensures.lookup.0.0 c.in_ok-get.ensures.lookup.0.2 c.in_err-place.ensures.place)

pub returns-clause-lowest : goal.returns-clause-lowest
returns-clause-lowest c =
    found_behind c.args.least c.in_ok-place.place c.args.harts.now c.in_ok-get.field-0.now c.in_ok-get.ensures.lookup.0.0 c.in_ok-get.ensures.lookup.0.2 c.in_ok-place.ensures.place
