use Rattle.std.proofs.Common.{sym, ◌∙◌}
use Rattle.wf_space.specs.Jobs.{is_absent_at}
use Rattle.wf_space.proofs.PushLemmas.{find_next}
use Rattle.wf_space.proofs.unmapping.first_absent.Goals as goal

pub loop-i-preserved : goal.loop-i-preserved
loop-i-preserved c = find_next (is_absent_at c.args.records.now) c.args.first c.args.pages c.loop-i.i c.loop-i-test.true (sym c.is_absent.ensures ∙ c.if-is_absent.false) c.loop-i.invariant
