use Rattle.wf_views.proofs.RecordLemmas.{still_there, is_gone}
use Rattle.wf_views.proofs.records.Records.let_go.Goals as goal

pub state-requires : goal.state-requires
state-requires c = still_there c.args.self.now c.give.new.self c.args.page c.in-Some.page c.args.self.now.frames.last_birth c.in-Some.ensures.value c.requires c.give.ensures

pub returns-in-Free-clause-gone : goal.returns-in-Free-clause-gone
returns-in-Free-clause-gone c = is_gone c.args.self.now c.give.new.self c.remove.new.self c.args.page c.in-Some.page c.in-Some.ensures.value c.give.ensures c.remove.ensures.rest

pub returns-in-InUse-clause-gone : goal.returns-in-InUse-clause-gone
returns-in-InUse-clause-gone c = is_gone c.args.self.now c.give.new.self c.remove.new.self c.args.page c.in-Some.page c.in-Some.ensures.value c.give.ensures c.remove.ensures.rest

pub returns-in-Worn-clause-gone : goal.returns-in-Worn-clause-gone
returns-in-Worn-clause-gone c = is_gone c.args.self.now c.give.new.self c.remove.new.self c.args.page c.in-Some.page c.in-Some.ensures.value c.give.ensures c.remove.ensures.rest
