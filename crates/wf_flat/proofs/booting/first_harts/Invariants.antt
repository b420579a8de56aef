use Rattle.std.proofs.Common.{◌≡◌}
use Rattle.wf_flat.specs.Boot.{boot_harts}
use Rattle.wf_flat.proofs.booting.first_harts.Given as goal

abbrev pub invariant-loop-i : goal.invariant-loop-i
invariant-loop-i l = l.harts.items ≡ boot_harts l.entry l.i
