use Rattle.wf_mapped.proofs.MayLemmas.{carried_raised, current_changes, current_pieces, map_carried}
use Rattle.wf_mapped.proofs.carrying.carry_map.Goals as goal

pub carry_out-requires-clause-changes : goal.carry_out-requires-clause-changes
carry_out-requires-clause-changes c = current_changes c.args.words.now c.args.records.now c.args.plan c.requires c.views_rise.ensures

pub carry_out-requires-clause-pieces : goal.carry_out-requires-clause-pieces
carry_out-requires-clause-pieces c = current_pieces c.args.words.now c.args.records.now c.args.plan c.requires c.views_rise.ensures

pub returns-clause-carried : goal.returns-clause-carried
returns-clause-carried c = map_carried c.args.words.now c.carry_out.new.words c.args.records.now c.carry_out.new.records c.args.plan c.views_rise.ensures c.carry_out.ensures c.words_are_there.ensures

pub returns-clause-raised : goal.returns-clause-raised
returns-clause-raised c = carried_raised c.args.words.now c.carry_out.new.words c.args.records.now c.carry_out.new.records c.args.plan c.requires c.carry_out.ensures
