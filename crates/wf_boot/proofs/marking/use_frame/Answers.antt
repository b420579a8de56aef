use Rattle.wf_space.proofs.GiveLemmas.{marked_low, marked_raised}
use Rattle.wf_boot.proofs.marking.use_frame.Goals as goal

pub raise-requires : goal.raise-requires
raise-requires c = marked_low c.args.frames.now c.mark.new.self c.args.frame c.requires c.mark.ensures

pub returns-then-is_data : goal.returns-then-is_data
returns-then-is_data c = marked_raised c.args.frames.now c.mark.new.self c.raise.new.self c.args.frame c.args.is_data c.if-is_data.true c.mark.ensures c.raise.ensures
