use Rattle.std.proofs.Common.{◌++◌, ◌+◌, ◌%◌, ◌∙◌, ap, List, ℕ}
use Rattle.wf_gen.specs.Sources.{function_lines, functions_lines}
use Rattle.wf_gen.proofs.SourceLemmas.{functions_none, functions_step, more, one_function}
use Rattle.wf_gen.proofs.sources.push_functions.Goals as goal

pub loop-i-init : goal.loop-i-init
loop-i-init c = functions_none c.args.out.now.items

pub loop-i-preserved : goal.loop-i-preserved
loop-i-preserved c =
    c.in_ok-push_function.ensures
    ∙ ap (λ (name : List ℕ). c.loop-i.out.items ++ function_lines name (c.loop-i.i % 100 + 1)) (c.deref.ensures.value ∙ c.in_ok-name_of.ensures)
    ∙ more one_function functions_lines c.args.out.now.items c.loop-i.out.items c.loop-i.i (functions_step c.loop-i.i) c.loop-i.invariant
