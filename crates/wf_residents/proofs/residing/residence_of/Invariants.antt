use Rattle.std.proofs.Common.{◌≡◌, drop}
use Rattle.std.specs.List.{find}
use Rattle.wf_residents.specs.Refusals.{has_resident}
use Rattle.wf_residents.proofs.residing.residence_of.Given as goal

abbrev pub invariant-loop-i : goal.invariant-loop-i
invariant-loop-i l = find (has_resident l.hart) (drop l.i l.records.views.views) ≡ find (has_resident l.hart) l.records.views.views
