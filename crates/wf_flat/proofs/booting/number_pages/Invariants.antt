use Rattle.std.proofs.Common.{◌≡◌}
use Rattle.wf_flat.proofs.BootLemmas.{numbered_to}
use Rattle.wf_flat.proofs.booting.number_pages.Given as goal

abbrev pub invariant-loop-i : goal.invariant-loop-i
invariant-loop-i l = l.pages ≡ numbered_to l.i 0 l.fn.pages
