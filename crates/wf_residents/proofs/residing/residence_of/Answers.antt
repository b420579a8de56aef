use Rattle.std.proofs.Common.{◌∙◌, Some, sym, ap}
use Rattle.std.specs.Option.{option_map}
use Rattle.wf_views.specs.Views.{generation_number}
use Rattle.wf_residents.specs.Refusals.{has_resident}
use Rattle.wf_residents.proofs.FindLemmas.{find_here, find_past}
use Rattle.wf_residents.proofs.residing.residence_of.Goals as goal

pub returns-then-has_resident : goal.returns-then-has_resident
returns-then-has_resident c =
    ap Some c.number_of.ensures
    ∙ sym (ap (option_map generation_number) (find_here (has_resident c.args.hart) c.args.records.now.views.views c.loop-i.i c.at-view.result.now c.at-view.ensures (sym c.has_resident.ensures ∙ c.if-has_resident.true) c.loop-i.invariant))

pub loop-i-preserved : goal.loop-i-preserved
loop-i-preserved c = find_past (has_resident c.args.hart) c.args.records.now.views.views c.loop-i.i c.at-view.result.now c.at-view.ensures (sym c.has_resident.ensures ∙ c.if-has_resident.false) c.loop-i.invariant
