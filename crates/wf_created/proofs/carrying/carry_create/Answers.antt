use Rattle.wf_created.proofs.MayLemmas.{birth_carried, current_changes, current_pieces}
use Rattle.wf_created.proofs.carrying.carry_create.Goals as goal

pub carry_out-requires-clause-changes : goal.carry_out-requires-clause-changes
carry_out-requires-clause-changes c = current_changes c.args.words.now c.args.records.now c.args.plan c.requires c.views_rise.ensures c.pages_rise.ensures

pub carry_out-requires-clause-pieces : goal.carry_out-requires-clause-pieces
carry_out-requires-clause-pieces c = current_pieces c.args.words.now c.args.records.now c.args.plan c.requires c.views_rise.ensures c.pages_rise.ensures

pub returns : goal.returns
returns c = birth_carried c.args.words.now c.carry_out.new.words c.args.records.now c.carry_out.new.records c.args.plan c.views_rise.ensures c.pages_rise.ensures c.carry_out.ensures c.words_are_there.ensures
