use Rattle.std.proofs.Common.{◌∙◌}
use Rattle.wf_gen.specs.Sources.{call_lines}
use Rattle.wf_gen.proofs.SourceLemmas.{call_line, calls_none, calls_step, more}
use Rattle.wf_gen.proofs.sources.push_calls.Goals as goal

pub loop-i-init : goal.loop-i-init
loop-i-init c = calls_none c.args.out.now.items

pub loop-i-preserved : goal.loop-i-preserved
loop-i-preserved c =
    c.in_ok-push_numbered.ensures ∙ more call_line call_lines c.args.out.now.items c.loop-i.out.items c.loop-i.i (calls_step c.loop-i.i) c.loop-i.invariant
