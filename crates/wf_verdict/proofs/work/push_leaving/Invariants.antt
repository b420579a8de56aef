use Rattle.std.proofs.Common.{◌≡◌, ◌++◌, drop, map}
use Rattle.wf_verdict.specs.declared.work.Todo.TheVariants.{Leaves}
use Rattle.wf_verdict.proofs.work.push_leaving.Given as goal

abbrev pub invariant-loop-page : goal.invariant-loop-page
invariant-loop-page l = l.todo.items ++ map Leaves (drop l.page-index l.pages) ≡ l.fn.todo.items ++ map Leaves l.pages
