use Rattle.wf_driver.proofs.MakingLemmas.{take_made, take_acts}
use Rattle.wf_driver.proofs.meeting.take.Goals as goal

pub returns-clause-made : goal.returns-clause-made
returns-clause-made c = λ s before b.
    take_made s c.args.flat.now c.take.new.self before c.args.journal.now.items c.append.new.journal.items c.args.hart c.args.page b c.requires.acts.no_one c.requires.may c.take.ensures.state c.append.ensures.items

pub returns-clause-acts : goal.returns-clause-acts
returns-clause-acts c = take_acts c.args.flat.now c.take.new.self c.args.hart c.args.page c.requires.acts c.take.ensures.state c.take.ensures.harts c.take.ensures.ordered
