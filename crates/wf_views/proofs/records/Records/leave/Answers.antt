use Rattle.wf_views.proofs.RecordLemmas.{left_held, left_free}
use Rattle.wf_views.proofs.records.Records.leave.Goals as goal

pub returns-then-held-clause-left : goal.returns-then-held-clause-left
returns-then-held-clause-left c = left_held c.args.self.now c.forget.new.self c.set_ending.new.self c.args.page c.args.held _ c.requires c.if-held.true c.forget.ensures c.set_ending.ensures

pub returns-clause-left : goal.returns-clause-left
returns-clause-left c = left_free c.args.self.now c.let_go.new.self c.forget.new.self c.args.page c.args.held c.if-held.false c.forget.ensures c.let_go.ensures.gone
