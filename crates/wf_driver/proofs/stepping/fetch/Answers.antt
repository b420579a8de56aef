use Rattle.std.proofs.Common.{ap}
use Rattle.wf_flat.specs.State.{FlatState}
use Rattle.wf_driver.proofs.StepLemmas.{fetch_made, fetch_acts}
use Rattle.wf_driver.proofs.CarryLemmas.{to_meet_kept}
use Rattle.wf_driver.proofs.stepping.fetch.Goals as goal

pub returns-clause-made : goal.returns-clause-made
returns-clause-made c = λ s before b.
    fetch_made s c.args.flat.now c.fetch.new.self before c.args.journal.now.items c.append.new.journal.items c.args.hart c.args.pc c.args.word b c.requires.acts.no_one c.requires.ready c.fetch.ensures.state c.append.ensures.items

pub returns-clause-acts : goal.returns-clause-acts
returns-clause-acts c = fetch_acts c.args.flat.now c.fetch.new.self c.args.hart c.args.pc c.args.word c.requires.acts c.fetch.ensures.state

pub returns-clause-meets : goal.returns-clause-meets
returns-clause-meets c = λ action met t.
    to_meet_kept c.args.flat.now c.fetch.new.self c.args.hart c.args.word action met c.fetch.ensures.hart (ap (λ (f : FlatState). f.pages) c.fetch.ensures.state) (ap (λ (f : FlatState). f.met) c.fetch.ensures.state) t
