use Rattle.wf_residents.proofs.FindLemmas.{none_added, past_last}
use Rattle.wf_residents.proofs.residing.view_at.Goals as goal

pub returns-in_err-last : goal.returns-in_err-last
returns-in_err-last c = rw c.from_residual.ensures (none_added c.args.records.now.views c.args.generation c.len-count.ensures.added c.in_err-last.ensures)

pub returns-else-generation-from : goal.returns-else-generation-from
returns-else-generation-from c = past_last c.args.records.now.views c.in_ok-last.last c.args.generation c.len-count.ensures.added c.in_ok-last.ensures (rw c.from.ensures at c.if-generation-from.false)
