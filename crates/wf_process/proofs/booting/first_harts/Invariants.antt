use Rattle.std.proofs.Common.{◌≡◌}
use Rattle.wf_process.specs.Harts.{kept_firsts}
use Rattle.wf_process.proofs.booting.first_harts.Given as goal

abbrev pub invariant-loop-i : goal.invariant-loop-i
invariant-loop-i l = l.harts.items ≡ kept_firsts l.entry l.i
