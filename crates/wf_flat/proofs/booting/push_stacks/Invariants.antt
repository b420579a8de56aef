use Rattle.std.proofs.Common.{◌≡◌, ◌++◌}
use Rattle.wf_flat.specs.Boot.{stacks_of}
use Rattle.wf_flat.proofs.booting.push_stacks.Given as goal

abbrev pub invariant-loop-i : goal.invariant-loop-i
invariant-loop-i l = l.pages.items ≡ l.fn.pages.items ++ stacks_of l.i
