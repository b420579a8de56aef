use Rattle.wf_legal.specs.Legal.{at_rest}
use Rattle.wf_driver.proofs.CarryLemmas.{fetched_ready}
use Rattle.wf_driver.proofs.StepLemmas.{begins, rest_acts}
use Rattle.wf_driver.proofs.stepping.try_word.Goals as goal

pub fetch-requires-clause-acts : goal.fetch-requires-clause-acts
fetch-requires-clause-acts c = rest_acts c.args.flat.now c.args.hart c.requires.rests

pub carry_out-requires-clause-ready : goal.carry_out-requires-clause-ready
carry_out-requires-clause-ready c =
    record { word = c.args.word; tries = fetched_ready c.args.flat.now c.fetch.new.flat c.args.hart c.args.word c.args.arch.now c.requires.ready c.fetch.ensures.hart; action_is = c.requires.action }

pub returns-clause-ok : goal.returns-clause-ok
returns-clause-ok c = λ deltas.
    c.carry_out.ensures.made (at_rest deltas c.args.flat.now) c.args.journal.now.items
    (c.fetch.ensures.made (at_rest deltas c.args.flat.now) c.args.journal.now.items (begins deltas c.args.flat.now c.args.journal.now.items c.args.hart))
