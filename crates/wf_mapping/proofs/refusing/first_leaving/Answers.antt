use Rattle.std.proofs.Common.{sym, ◌∙◌}
use Rattle.wf_space.specs.Jobs.{is_ending_at}
use Rattle.wf_space.proofs.PushLemmas.{find_next}
use Rattle.wf_mapping.proofs.refusing.first_leaving.Goals as goal

pub loop-i-preserved : goal.loop-i-preserved
loop-i-preserved c = find_next (is_ending_at c.args.records.now) c.args.first c.args.pages c.loop-i.i c.loop-i-test.true (sym c.is_ending.ensures ∙ c.if-is_ending.false) c.loop-i.invariant
