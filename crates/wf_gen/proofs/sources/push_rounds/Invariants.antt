use Rattle.std.proofs.Common.{◌≡◌, ◌++◌}
use Rattle.wf_gen.specs.Sources.{round_lines}
use Rattle.wf_gen.proofs.sources.push_rounds.Given as goal

abbrev pub invariant-loop-j : goal.invariant-loop-j
invariant-loop-j l = l.out.items ≡ l.fn.out.items ++ round_lines l.n l.j
