use Rattle.wf_space.proofs.JobLemmas.{carried_out, current_changes, current_pieces}
use Rattle.wf_space.proofs.space.Space.carry.Goals as goal

pub carry_out-requires-clause-changes : goal.carry_out-requires-clause-changes
carry_out-requires-clause-changes c = current_changes c.args.words.now c.args.self.now.records c.args.plan c.requires c.views_rise.ensures

pub carry_out-requires-clause-pieces : goal.carry_out-requires-clause-pieces
carry_out-requires-clause-pieces c = current_pieces c.args.words.now c.args.self.now.records c.args.plan c.requires c.views_rise.ensures

pub returns : goal.returns
returns c = carried_out c.args.words.now c.carry_out.new.words c.args.self.now.records c.carry_out.new.records c.args.plan c.views_rise.ensures c.carry_out.ensures
