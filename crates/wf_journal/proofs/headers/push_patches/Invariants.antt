use Rattle.std.proofs.Common.{◌≡◌, ◌++◌, drop}
use Rattle.wf_journal.specs.Headers.{joined, patch_lines}
use Rattle.wf_journal.proofs.headers.push_patches.Given as goal

abbrev pub invariant-loop-number : goal.invariant-loop-number
invariant-loop-number l = l.out.items ++ joined (patch_lines l.number (drop l.number l.patches)) ≡ l.fn.out.items ++ joined (patch_lines 0 l.patches)
