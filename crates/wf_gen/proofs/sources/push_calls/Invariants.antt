use Rattle.std.proofs.Common.{◌≡◌, ◌++◌}
use Rattle.wf_gen.specs.Sources.{call_lines}
use Rattle.wf_gen.proofs.sources.push_calls.Given as goal

abbrev pub invariant-loop-i : goal.invariant-loop-i
invariant-loop-i l = l.out.items ≡ l.fn.out.items ++ call_lines l.i
