use Rattle.wf_residents.proofs.CarryLemmas.{migration_carried, migration_may}
use Rattle.wf_residents.proofs.carrying.carry_migration.Goals as goal

pub carry_out-requires-clause-changes : goal.carry_out-requires-clause-changes
carry_out-requires-clause-changes c = migration_may c.args.words.now c.args.records.now c.args.plan c.requires c.len-count.ensures.rising

pub returns-clause-carried : goal.returns-clause-carried
returns-clause-carried c = migration_carried c.args.words.now c.carry_out.new.words c.args.records.now c.carry_out.new.records c.args.plan c.len-count.ensures.rising c.carry_out.ensures
