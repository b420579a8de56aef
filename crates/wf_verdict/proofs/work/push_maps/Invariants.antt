use Rattle.std.proofs.Common.{◌≡◌, ◌++◌, drop, map}
use Rattle.wf_verdict.specs.Work.{map_of}
use Rattle.wf_verdict.proofs.work.push_maps.Given as goal

abbrev pub invariant-loop-run : goal.invariant-loop-run
invariant-loop-run l = l.todo.items ++ map (map_of l.patch) (drop l.run-index l.runs) ≡ l.fn.todo.items ++ map (map_of l.patch) l.runs
