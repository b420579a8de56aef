use Rattle.wf_residents.proofs.CarryLemmas.{deletion_carried, deletion_may}
use Rattle.wf_residents.proofs.carrying.carry_deletion.Goals as goal

pub carry_out-requires-clause-changes : goal.carry_out-requires-clause-changes
carry_out-requires-clause-changes c = deletion_may c.args.words.now c.args.records.now c.args.plan c.requires

pub returns-clause-carried : goal.returns-clause-carried
returns-clause-carried c = deletion_carried c.args.words.now c.carry_out.new.words c.args.records.now c.carry_out.new.records c.args.plan c.carry_out.ensures
